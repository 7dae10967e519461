-- Hosts at which something may happen, and what is due there.
use Rattle.std.proofs.Common.{◌≡◌, ℕ, ◌<◌, Bool, true, false, List, Option, Some, None, refl, ap, sym, subst, ◌∙◌, cond, length}
use Rattle.std.specs.Prelude.{slice_get, is_some, ◌&&◌, not}
use Rattle.std.proofs.lemmas.Option.{slice_get_within}
use Rattle.smart_statements.specs.declared.entry.NodeEvent.{NodeEvent}
use Rattle.smart_statements.specs.declared.entry.NodeEvent.TheVariants.{Deliver}
use Rattle.store_laws.specs.States.{is_due}
use Rattle.store_laws.specs.Stops.{is_installed}
use Rattle.world_rules.specs.Crashes.{images_left, wrong_images}
use Rattle.world_rules.specs.declared.crash.Image.{Image}
use Rattle.world_rules.specs.declared.crash.Patch.{Patch}
use Rattle.world_rules.specs.Worlds.{Course, Host, World, is_up, is_gone, takes_due, calls_disk, node_takes, settle_once, takes_met, host_calls, host_takes, host_crashes, host_tries, crashes, crashes_with, tries_at, stepped, told_idle, telling_all, hears_firm, disk_called, is_halted}
use Rattle.world_nodes.specs.Acting.{acts}
use Rattle.world_nodes.specs.Crashes.{runs, stops}
use Rattle.world_nodes.specs.Idling.{takes_at, tries}

first : (a b : Bool) → (a && b) ≡ true → a ≡ true
first true b both = refl
first false b both = both

second : (a b : Bool) → (a && b) ≡ true → b ≡ true
second true b both = both
second false b both = cc

acts_inside : {S : Type 0} (i : ℕ) (w : World S) (found : Option (Host S)) → slice_get w.hosts i ≡ found → acts w found ≡ true → i < length w.hosts
acts_inside i w None is holds = cc
acts_inside i w (Some h) is holds = slice_get_within w.hosts i h is

-- where something may happen there is a host
pub acts_within : {S : Type 0} (i : ℕ) (w : World S) → acts w (slice_get w.hosts i) ≡ true → i < length w.hosts
acts_within i w holds = acts_inside i w (slice_get w.hosts i) refl holds

-- and its node runs
pub acts_runs : {S : Type 0} (w : World S) (found : Option (Host S)) → acts w found ≡ true → runs found ≡ true
acts_runs w None holds = holds
acts_runs w (Some h) holds = first h.up (not (is_gone w h.node.id)) (second (not (is_halted w)) (is_up w h) holds)

-- nothing happens after the end
pub acts_over : {S : Type 0} (w : World S) (found : Option (Host S)) → is_halted w ≡ true → false ≡ acts w found
acts_over w None over = refl
acts_over w (Some h) over = sym (ap (λ b. not b && is_up w h) over)

-- nor where there is no host
pub acts_past : {S : Type 0} (w : World S) (i : ℕ) → slice_get w.hosts i ≡ None → false ≡ acts w (slice_get w.hosts i)
acts_past w i none = sym (ap (λ found. acts w found) none)

-- else it goes by whether the node runs
pub acts_at : {S : Type 0} (w : World S) (i : ℕ) (h : Host S) (up : Bool) → slice_get w.hosts i ≡ Some h → is_halted w ≡ false → up ≡ is_up w h → up ≡ acts w (slice_get w.hosts i)
acts_at w i h up there on is = is ∙ (sym (ap (λ b. not b && is_up w h) on) ∙ sym (ap (λ found. acts w found) there))

kept : {A : Type 0} (over up : Bool) (x w : A) → (not over && up) ≡ false → cond over w (cond (not up) w x) ≡ w
kept true up x w fails = refl
kept false true x w fails = cc
kept false false x w fails = refl

either : {A : Type 0} (a b : Bool) (x y w : A) → x ≡ w → y ≡ w → cond a x (cond b y w) ≡ w
either true b x y w left right = left
either false true x y w left right = right
either false false x y w left right = refl

not_called : {S : Type 0} (course : Course S) (i : ℕ) (w : World S) (h : Host S) → slice_get w.hosts i ≡ Some h → acts w (Some h) ≡ false → calls_disk course i w ≡ w
unfolding calls_disk
not_called course i w h there fails =
    ap (λ found. cond (is_halted w) w (host_calls course i w found)) there
    ∙ kept (is_halted w) (is_up w h) (cond (is_due is_installed h.store) (hears_firm course i w (disk_called course h)) w) w fails

not_taken : {S : Type 0} (course : Course S) (i : ℕ) (event : NodeEvent) (w : World S) (h : Host S) → slice_get w.hosts i ≡ Some h → acts w (Some h) ≡ false → node_takes course i event w ≡ w
unfolding node_takes
not_taken course i event w h there fails =
    ap (λ found. cond (is_halted w) w (host_takes course i event w found)) there
    ∙ kept (is_halted w) (is_up w h) (takes_met course i event w h) w fails

none_due : {S : Type 0} (course : Course S) (i : ℕ) (w : World S) (found : Option (Host S)) → slice_get w.hosts i ≡ found → acts w found ≡ false → takes_due course i w found ≡ w
none_due course i w None is fails = refl
none_due course i w (Some h) is fails =
    either (is_due is_installed h.store) (is_some h.node.waiting) (calls_disk course i w) (node_takes course i Deliver w) w (not_called course i w h is fails) (not_taken course i Deliver w h is fails)

-- nothing is due where nothing may happen
pub rests : {S : Type 0} (course : Course S) (i : ℕ) (w : World S) → acts w (slice_get w.hosts i) ≡ false → w ≡ settle_once course i w
unfolding settle_once
rests course i w fails = sym (none_due course i w (slice_get w.hosts i) refl fails)

not_second : (a b : Bool) → a ≡ true → (a && b) ≡ false → b ≡ false
not_second true b holds fails = fails
not_second false b holds fails = cc

-- a device call is due
pub due_call : {S : Type 0} (course : Course S) (i : ℕ) (w w' : World S) (h : Host S) (due : Bool) → slice_get w.hosts i ≡ Some h → due ≡ (h.up && is_due is_installed h.store) → due ≡ true
    → w' ≡ calls_disk course i w → w' ≡ takes_due course i w (slice_get w.hosts i)
due_call course i w w' h due there due_is holds is =
    is ∙ sym (ap (λ found. takes_due course i w found) there
    ∙ ap (λ b. cond b (calls_disk course i w) (cond (is_some h.node.waiting) (node_takes course i Deliver w) w)) (second h.up (is_due is_installed h.store) (sym due_is ∙ holds)))

without_call : {S : Type 0} (course : Course S) (i : ℕ) (w : World S) (h : Host S) (due waits : Bool) → slice_get w.hosts i ≡ Some h → runs (slice_get w.hosts i) ≡ true
    → due ≡ (h.up && is_due is_installed h.store) → due ≡ false → waits ≡ is_some h.node.waiting → takes_due course i w (slice_get w.hosts i) ≡ cond waits (node_takes course i Deliver w) w
without_call course i w h due waits there up due_is fails waits_is =
    let runs_is : h.up ≡ true = subst (λ found. runs found ≡ true) there up in
    ap (λ found. takes_due course i w found) there
    ∙ (ap (λ b. cond b (calls_disk course i w) (cond (is_some h.node.waiting) (node_takes course i Deliver w) w)) (not_second h.up (is_due is_installed h.store) runs_is (sym due_is ∙ fails))
    ∙ ap (λ b. cond b (node_takes course i Deliver w) w) (sym waits_is))

-- a delivery is due
pub due_delivery : {S : Type 0} (course : Course S) (i : ℕ) (w w' : World S) (h : Host S) (due waits : Bool) → slice_get w.hosts i ≡ Some h → runs (slice_get w.hosts i) ≡ true
    → due ≡ (h.up && is_due is_installed h.store) → due ≡ false → waits ≡ is_some h.node.waiting → waits ≡ true → w' ≡ node_takes course i Deliver w → w' ≡ takes_due course i w (slice_get w.hosts i)
due_delivery course i w w' h due waits there up due_is fails waits_is holds is =
    is ∙ sym (without_call course i w h due waits there up due_is fails waits_is ∙ ap (λ b. cond b (node_takes course i Deliver w) w) holds)

-- nothing is due
pub due_none : {S : Type 0} (course : Course S) (i : ℕ) (w : World S) (h : Host S) (due waits : Bool) → slice_get w.hosts i ≡ Some h → runs (slice_get w.hosts i) ≡ true
    → due ≡ (h.up && is_due is_installed h.store) → due ≡ false → waits ≡ is_some h.node.waiting → waits ≡ false → w ≡ takes_due course i w (slice_get w.hosts i)
due_none course i w h due waits there up due_is fails waits_is none =
    sym (without_call course i w h due waits there up due_is fails waits_is ∙ ap (λ b. cond b (node_takes course i Deliver w) w) none)

goes_up : {A : Type 0} (over up : Bool) (x w : A) → (not over && up) ≡ true → x ≡ cond over w (cond up x w)
goes_up true up x w holds = cc
goes_up false true x w holds = refl
goes_up false false x w holds = cc

goes_not : {A : Type 0} (over up : Bool) (x w : A) → (not over && up) ≡ true → x ≡ cond over w (cond (not up) w x)
goes_not true up x w holds = cc
goes_not false true x w holds = refl
goes_not false false x w holds = cc

rests_up : {A : Type 0} (over up : Bool) (x w : A) → (not over && up) ≡ false → w ≡ cond over w (cond up x w)
rests_up true up x w fails = refl
rests_up false true x w fails = cc
rests_up false false x w fails = refl

same_both : {A : Type 0} (b : Bool) (w : A) → w ≡ cond b w w
same_both true w = refl
same_both false w = refl

stops_on : {S : Type 0} (course : Course S) (image : Image) (patches : List Patch) (i : ℕ) (w : World S) (found : Option (Host S)) → acts w found ≡ true
    → stops course image patches i w found ≡ cond (is_halted w) w (host_crashes course image patches i w found)
stops_on course image patches i w None holds = cc
stops_on course image patches i w (Some h) holds =
    goes_up (is_halted w) (is_up w h) (crashes_with course i w h (images_left image patches h.store) (wrong_images h.store (images_left image patches h.store))) w holds

-- a node that runs crashes
pub crashes_on : {S : Type 0} (course : Course S) (image : Image) (patches : List Patch) (i : ℕ) (w : World S) → acts w (slice_get w.hosts i) ≡ true
    → stops course image patches i w (slice_get w.hosts i) ≡ crashes course image patches i w
unfolding crashes
crashes_on course image patches i w holds = stops_on course image patches i w (slice_get w.hosts i) holds

stays_on : {S : Type 0} (course : Course S) (image : Image) (patches : List Patch) (i : ℕ) (w : World S) (found : Option (Host S)) → acts w found ≡ false
    → w ≡ cond (is_halted w) w (host_crashes course image patches i w found)
stays_on course image patches i w None fails = same_both (is_halted w) w
stays_on course image patches i w (Some h) fails =
    rests_up (is_halted w) (is_up w h) (crashes_with course i w h (images_left image patches h.store) (wrong_images h.store (images_left image patches h.store))) w fails

-- and no other does
pub crashes_none : {S : Type 0} (course : Course S) (image : Image) (patches : List Patch) (i : ℕ) (w : World S) → acts w (slice_get w.hosts i) ≡ false → w ≡ crashes course image patches i w
unfolding crashes
crashes_none course image patches i w fails = stays_on course image patches i w (slice_get w.hosts i) fails

event_on : {S : Type 0} (course : Course S) (i : ℕ) (event : NodeEvent) (w : World S) (found : Option (Host S)) → acts w found ≡ true
    → takes_at course i event w found ≡ cond (is_halted w) w (host_takes course i event w found)
event_on course i event w None holds = cc
event_on course i event w (Some h) holds = goes_not (is_halted w) (is_up w h) (takes_met course i event w h) w holds

-- a node that runs takes an event
pub takes_on : {S : Type 0} (course : Course S) (i : ℕ) (event : NodeEvent) (w : World S) → acts w (slice_get w.hosts i) ≡ true
    → takes_at course i event w (slice_get w.hosts i) ≡ node_takes course i event w
unfolding node_takes
takes_on course i event w holds = event_on course i event w (slice_get w.hosts i) holds

event_off : {S : Type 0} (course : Course S) (i : ℕ) (event : NodeEvent) (w : World S) (found : Option (Host S)) → acts w found ≡ false → w ≡ cond (is_halted w) w (host_takes course i event w found)
event_off course i event w None fails = same_both (is_halted w) w
event_off course i event w (Some h) fails = sym (kept (is_halted w) (is_up w h) (takes_met course i event w h) w fails)

-- and no other does
pub takes_none : {S : Type 0} (course : Course S) (i : ℕ) (event : NodeEvent) (w : World S) → acts w (slice_get w.hosts i) ≡ false → w ≡ node_takes course i event w
unfolding node_takes
takes_none course i event w fails = event_off course i event w (slice_get w.hosts i) fails

try_on : {S : Type 0} (course : Course S) (i : ℕ) (event : NodeEvent) (w : World S) (found : Option (Host S)) → acts w found ≡ true
    → tries course i event w found ≡ cond (is_halted w) w (host_tries course event i w found)
try_on course i event w None holds = cc
try_on course i event w (Some h) holds =
    goes_not (is_halted w) (is_up w h) (telling_all (stepped course w i h (course.step h.node event)) (told_idle h.node.id (course.step h.node event).fired)) w holds

-- a node that runs tries an event
pub tries_on : {S : Type 0} (course : Course S) (i : ℕ) (event : NodeEvent) (w : World S) → acts w (slice_get w.hosts i) ≡ true
    → tries course i event w (slice_get w.hosts i) ≡ tries_at course event i w
unfolding tries_at
tries_on course i event w holds = try_on course i event w (slice_get w.hosts i) holds

try_off : {S : Type 0} (course : Course S) (i : ℕ) (event : NodeEvent) (w : World S) (found : Option (Host S)) → acts w found ≡ false → w ≡ cond (is_halted w) w (host_tries course event i w found)
try_off course i event w None fails = same_both (is_halted w) w
try_off course i event w (Some h) fails =
    sym (kept (is_halted w) (is_up w h) (telling_all (stepped course w i h (course.step h.node event)) (told_idle h.node.id (course.step h.node event).fired)) w fails)

-- and no other does
pub tries_none : {S : Type 0} (course : Course S) (i : ℕ) (event : NodeEvent) (w : World S) → acts w (slice_get w.hosts i) ≡ false → w ≡ tries_at course event i w
unfolding tries_at
tries_none course i event w fails = try_off course i event w (slice_get w.hosts i) fails
