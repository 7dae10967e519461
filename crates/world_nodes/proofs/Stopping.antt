-- Nodes that stop, and that go on.
use Rattle.std.proofs.Common.{◌≡◌, ℕ, zero, suc, ◌<◌, true, List, [], ◌∷◌, Option, Some, None, refl, ap, sym, ◌∙◌}
use Rattle.std.specs.Prelude.{slice_get, slice_set, length, Result, Ok, Err, IfOk}
use Rattle.smart_service.specs.Services.{Meaning}
use Rattle.world_rules.specs.Crashes.{images_left, wrong_images}
use Rattle.world_rules.specs.declared.crash.Image.{Image}
use Rattle.world_rules.specs.declared.crash.Patch.{Patch}
use Rattle.world_rules.specs.declared.crash.NotAnImage as stores
use Rattle.node_rules.specs.Reopening.{damage_of}
use Rattle.world_rules.specs.Secrets.{group_secret}
use Rattle.world_rules.specs.Worlds.{Course, core_course, Host, World, telling, at_host, at_index, at_member, host_index, disk_called, host_crashed, parts_held, resumes_from}
use Rattle.world_rules.specs.declared.line.OutLine.{OutLine}
use Rattle.world_rules.specs.declared.line.OutLine.TheVariants as outs
use Rattle.world_rules.specs.declared.message.Ending.TheVariants.{Premise}
use Rattle.world_rules.specs.declared.message.Premise.TheVariants.{NotAnImage}
use Rattle.world_hosts.specs.Lives.{node_from, node_in, host_with, told_with}
use Rattle.world_nodes.specs.Crashes.{runs, stops, telling_if, goes_on}
use Rattle.world_nodes.proofs.Calling.{get_set}

-- what stands at an index may be put there
pub set_same : {A : Type 0} (xs : List A) (i : ℕ) (a : A) → slice_get xs i ≡ Some a → slice_set xs i a ≡ xs
set_same [] i a there = refl
set_same {A = A} (x ∷ xs) zero a there = ap (λ (y : A). y ∷ xs) (put there)
  where
    put : Some x ≡ Some a → a ≡ x
    put same = cc
set_same {A = A} (x ∷ xs) (suc i) a there = ap (λ (ys : List A). x ∷ ys) (set_same xs i a there)

-- a node that runs still does behind a call of its store
pub still_runs : {S : Type 0} (course : Course S) (xs : List (Host S)) (i : ℕ) (h : Host S) → i < length xs → h.up ≡ true → runs (slice_get (slice_set xs i (disk_called course h)) i) ≡ true
unfolding disk_called
still_runs {S = S} course xs i h within up = ap (λ (found : Option (Host S)). runs found) (get_set xs i (disk_called course h) within) ∙ up

-- where a member stands at an index, its node is found there
pub found_at : {S E : Type 0} (member : ℕ) (w x : World S) (i : ℕ) (result : Result (Option ℕ) E) → host_index w.hosts member ≡ Some i
    → IfOk result (λ found. (f : ℕ → World S → World S) → at_index f x found ≡ at_host f i w (slice_get w.hosts i))
    → IfOk result (λ found. (f : ℕ → World S → World S) → at_index f x found ≡ at_member f member w)
found_at member w x i (Err e) there all = tt
found_at {S = S} member w x i (Ok found) there all =
    λ f. all f ∙ ap (λ (at : Option ℕ). at_index (λ j v. at_host f j v (slice_get v.hosts j)) w at) (sym there)

-- a crash of a node
pub stopped_at : {S : Type 0} (course : Course S) (image : Image) (patches : List Patch) (i : ℕ) (w x w' : World S) (h : Host S) (member : ℕ) → slice_get w.hosts i ≡ Some h → member ≡ h.node.id
    → wrong_images h.store (images_left image patches h.store) ≡ None → x ≡ record w { hosts = slice_set w.hosts i (host_crashed course h (images_left image patches h.store)) }
    → w' ≡ telling x (outs.Crashed member) → w' ≡ stops course image patches i w (slice_get w.hosts i)
stopped_at course image patches i w x w' h member there member_is right x_is is = rw (is, x_is, member_is, there, right) refl

-- what no crash leaves ends the play
pub refused_at : {S : Type 0} (course : Course S) (image : Image) (patches : List Patch) (i : ℕ) (w x w' : World S) (h : Host S) (fault : stores.NotAnImage) → slice_get w.hosts i ≡ Some h
    → wrong_images h.store (images_left image patches h.store) ≡ Some fault → x ≡ w → w' ≡ record x { ending = Some (Premise (NotAnImage fault)) } → w' ≡ stops course image patches i w (slice_get w.hosts i)
refused_at course image patches i w x w' h fault there wrong x_is is = rw (is, x_is, there, wrong) refl

-- a node goes on, by whether a part is damaged
resumed : {S : Type 0} (m : Meaning S) (i : ℕ) (w : World S) (h : Host S) (damage : Option ℕ) → slice_get w.hosts i ≡ Some h
    → telling_if (record w { hosts = slice_set w.hosts i (host_with h (node_from m w.view w.period h.node.id (parts_held h) damage)) }) (told_with h.node.id (length (parts_held h).entries) (node_from m w.view w.period h.node.id (parts_held h) damage))
    ≡ resumes_from (core_course m) i w h (parts_held h) damage
resumed m i w h None there = refl
resumed {S = S} m i w h (Some part) there = ap (λ (hs : List (Host S)). record w { hosts = hs }) (set_same w.hosts i h there)

pub resumed_at : {S : Type 0} (m : Meaning S) (i : ℕ) (w x w' : World S) (h h' : Host S) (line : Option OutLine) → slice_get w.hosts i ≡ Some h
    → h' ≡ host_with h (node_in m w.view w.period h) → line ≡ told_with h.node.id (length (parts_held h).entries) (node_in m w.view w.period h)
    → x ≡ record w { hosts = slice_set w.hosts i h' } → w' ≡ telling_if x line → w' ≡ goes_on (core_course m) i w (slice_get w.hosts i)
resumed_at m i w x w' h h' line there host_is line_is x_is is =
    rw (is, x_is, line_is, host_is, there) (resumed m i w h (damage_of m group_secret w.view (parts_held h)) there)
