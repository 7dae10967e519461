-- A transcript tells what each node went on from.
use Rattle.std.proofs.Common.{◌≡◌, ℕ, ◌++◌, ◌==◌, Bool, true, false, List, [], ◌∷◌, length, refl, ap, ◌∙◌, sym, Option, Some, None, subst, cond, eqb-true, eq-eqb, is_some}
use Rattle.std.specs.Prelude.{slice_get, slice_set, insert}
use Rattle.std.specs.List.{flat_map, list_any}
use Rattle.smart_base.specs.Lists.{Each}
use Rattle.smart_base.specs.Views.{View}
use Rattle.smart_base.proofs.ViewFacts.{each-weaken}
use Rattle.smart_statements.specs.declared.entry.NodeEvent.{NodeEvent}
use Rattle.smart_service.specs.Services.{Meaning}
use Rattle.node_rules.specs.Nodes.{Node, view_of}
use Rattle.node_rules.specs.Steps.{Outcome, step_of, leaving}
use Rattle.node_rules.specs.Deliveries.{Segment, delivery_in, installed_in, segment_after, segment_with}
use Rattle.node_rules.specs.declared.node.Why.{Why}
use Rattle.node_rules.specs.declared.node.Fired.{Fired}
use Rattle.node_rules.specs.declared.node.Fired.TheVariants as fires
use Rattle.world_rules.specs.Secrets.{group_secret}
use Rattle.world_rules.specs.Clients.{heard_word}
use Rattle.world_rules.specs.Worlds.{course_of, Host, World, posts, segment_of, told_drop, told_fired, told_heard, host_after, host_crashed, host_resumed, stepped, hearing, begun, hosts_from, parts_held, new_host}
use Rattle.world_rules.specs.Plays.{line_played, rested, world_after, lines_told}
use Rattle.client_quorum.specs.declared.client.Client.{Client}
use Rattle.client_quorum.specs.declared.client.Word.{Word}
use Rattle.client_quorum.specs.declared.client.Heard.{Heard}
use Rattle.client_quorum.specs.declared.client.Heard.TheVariants as hears
use Rattle.world_rules.specs.declared.line.Line.{Line}
use Rattle.world_rules.specs.declared.line.OutLine.{OutLine}
use Rattle.world_rules.specs.declared.line.OutLine.TheVariants as outs
use Rattle.world_rules.specs.declared.message.Sent.{Sent}
use Rattle.world_laws.specs.Promises.{IsHeader, Restart, restart_of, from_nothing, restarts_with, last_restart, WentOn, HasGoneOn}
use Rattle.world_laws.proofs.Keeps.{IsAside, IsDown, ask_of, asked_by, by-posts, KeepsLives, lives, live-line_played, signed_by, learned_line, resumed_line, after_call, with_host, entries_left, node_resumed, from_node, from_client, from_script, keeps-sends_all, IsNew, added}
use Rattle.world_laws.proofs.Lists.{each_set, each_get, each_insert}
use Rattle.replica_laws.proofs.Small.{IsBrief}
use Rattle.world_laws.proofs.Snapshots.{IsRestorable}
use Rattle.world_laws.proofs.Chosen.{ChosenRight}
use Rattle.world_laws.proofs.Reopens.{from_named}
use Rattle.world_laws.proofs.ChosenSteps.{restored-step}
use Rattle.world_laws.proofs.ChosenKept.{chosen-kept, chosen-begun, resumed_count}
use Rattle.world_laws.proofs.Delivering.{named-step, set_others, not_named}
use Rattle.world_rules.specs.declared.line.Header.{Header}
use Rattle.world_laws.proofs.Names.{map_insert, names, none_before, none_named}
use Rattle.world_laws.proofs.Witnessing.{ids-set}

-- transcripts

last-append : (id : ℕ) (r : Restart) (xs ys : List OutLine) → last_restart id r (xs ++ ys) ≡ last_restart id (last_restart id r xs) ys
last-append id r [] ys = refl
last-append id r (x ∷ xs) ys = last-append id (restarts_with id r x) xs ys

-- a line that tells of no restart
abbrev IsStill : OutLine → Type 0
IsStill line = (id : ℕ) (r : Restart) → restarts_with id r line ≡ r

still-lines : (lines : List OutLine) → Each IsStill lines → (id : ℕ) (r : Restart) → last_restart id r lines ≡ r
still-lines [] each id r = refl
still-lines (l ∷ ls) each id r = still-lines ls each.1 id (restarts_with id r l) ∙ each.0 id r

-- a line aside tells of none
aside_still : (line : OutLine) → IsAside line → IsStill line
aside_still (outs.Group members faulty app period) aside = λ id r. refl
aside_still (outs.Sent number origin summary) aside = λ id r. refl
aside_still (outs.Decided member place) aside = λ id r. refl
aside_still (outs.Installed member place) aside = absurd aside
aside_still (outs.Delivered member place executed) aside = absurd aside
aside_still (outs.View member number) aside = λ id r. refl
aside_still (outs.Promised member number regency) aside = λ id r. refl
aside_still (outs.Synced member number regency base bound) aside = λ id r. refl
aside_still (outs.Dropped member why) aside = λ id r. refl
aside_still (outs.Counted client have need) aside = λ id r. refl
aside_still (outs.Accepted client seq place index reply) aside = absurd aside
aside_still (outs.Viewed client have need) aside = λ id r. refl
aside_still (outs.Moved client number) aside = λ id r. refl
aside_still (outs.Ignored client why) aside = λ id r. refl
aside_still (outs.Busy client seq) aside = λ id r. refl
aside_still (outs.Absent member) aside = λ id r. refl
aside_still (outs.Crashed member) aside = λ id r. refl
aside_still (outs.Restarted member place entries) aside = absurd aside
aside_still (outs.Down member) aside = λ id r. refl
aside_still (outs.Idle member) aside = λ id r. refl
aside_still (outs.IdleClient client) aside = λ id r. refl
aside_still (outs.Learned client place) aside = absurd aside
aside_still (outs.Stands member place number regency) aside = λ id r. refl
aside_still (outs.Seen client place) aside = λ id r. refl
aside_still (outs.End lines messages) aside = λ id r. refl

-- what a member tells of an event that a rule reported: an installation's place is what it goes on from, and else nothing changes
own_fired : (id : ℕ) (r : Restart) (s : Segment) (f : Fired) → s.began ≡ r.place → last_restart id r (told_fired id f) ≡ restart_of (segment_with (installed_in f) (delivery_in f) s).began r.entries
own_fired id r s (fires.Installed place) same = ap (λ (t : Bool). cond t (restart_of place r.entries) r) (eq-eqb id id refl)
own_fired id r s fires.Spoiled same = ap (λ (k : ℕ). restart_of k r.entries) (sym same)
own_fired id r s (fires.Delivered d) same = ap (λ (k : ℕ). restart_of k r.entries) (sym same)
own_fired id r s (fires.Marked snapshot) same = ap (λ (k : ℕ). restart_of k r.entries) (sym same)
own_fired id r s (fires.Adopted a) same = ap (λ (k : ℕ). restart_of k r.entries) (sym same)
own_fired id r s fires.Joined same = ap (λ (k : ℕ). restart_of k r.entries) (sym same)
own_fired id r s (fires.Viewed number) same = ap (λ (k : ℕ). restart_of k r.entries) (sym same)
own_fired id r s (fires.Promised p) same = ap (λ (k : ℕ). restart_of k r.entries) (sym same)
own_fired id r s fires.Led same = ap (λ (k : ℕ). restart_of k r.entries) (sym same)
own_fired id r s fires.Proposed same = ap (λ (k : ℕ). restart_of k r.entries) (sym same)
own_fired id r s fires.Wrote same = ap (λ (k : ℕ). restart_of k r.entries) (sym same)
own_fired id r s fires.Accepted same = ap (λ (k : ℕ). restart_of k r.entries) (sym same)
own_fired id r s (fires.Decided place) same = ap (λ (k : ℕ). restart_of k r.entries) (sym same)
own_fired id r s fires.Timed same = ap (λ (k : ℕ). restart_of k r.entries) (sym same)
own_fired id r s fires.Answered same = ap (λ (k : ℕ). restart_of k r.entries) (sym same)

own_all : (id : ℕ) (r : Restart) (s : Segment) (fired : List Fired) → s.began ≡ r.place → last_restart id r (flat_map (told_fired id) fired) ≡ restart_of (segment_after s fired).began r.entries
unfolding segment_after
own_all id r s [] same = ap (λ (k : ℕ). restart_of k r.entries) (sym same)
own_all id r s (f ∷ fs) same =
    let next : Segment = segment_with (installed_in f) (delivery_in f) s in
    last-append id r (told_fired id f) (flat_map (told_fired id) fs)
    ∙ (ap (λ (x : Restart). last_restart id x (flat_map (told_fired id) fs)) (own_fired id r s f same) ∙ own_all id (restart_of next.began r.entries) next fs refl)

own_outcome : (id : ℕ) (r : Restart) (s : Segment) (why : Option Why) (fired : List Fired) → s.began ≡ r.place
    → last_restart id r (told_drop id why ++ flat_map (told_fired id) fired) ≡ restart_of (segment_after s fired).began r.entries
own_outcome id r s None fired same = own_all id r s fired same
own_outcome id r s (Some why) fired same = own_all id r s fired same

-- it tells nothing of others
other_fired : (id member : ℕ) (r : Restart) (f : Fired) → (id ≡ member → ⊥) → last_restart id r (told_fired member f) ≡ r
other_fired id member r (fires.Installed place) differ = by (member == id) refl
  where
    by : (t : Bool) → (member == id) ≡ t → cond t (restart_of place r.entries) r ≡ r
    by true is = absurd (differ (sym (eqb-true member id is)))
    by false is = refl
other_fired id member r fires.Spoiled differ = refl
other_fired id member r (fires.Delivered d) differ = refl
other_fired id member r (fires.Marked snapshot) differ = refl
other_fired id member r (fires.Adopted a) differ = refl
other_fired id member r fires.Joined differ = refl
other_fired id member r (fires.Viewed number) differ = refl
other_fired id member r (fires.Promised p) differ = refl
other_fired id member r fires.Led differ = refl
other_fired id member r fires.Proposed differ = refl
other_fired id member r fires.Wrote differ = refl
other_fired id member r fires.Accepted differ = refl
other_fired id member r (fires.Decided place) differ = refl
other_fired id member r fires.Timed differ = refl
other_fired id member r fires.Answered differ = refl

other_all : (id member : ℕ) (r : Restart) (fired : List Fired) → (id ≡ member → ⊥) → last_restart id r (flat_map (told_fired member) fired) ≡ r
other_all id member r [] differ = refl
other_all id member r (f ∷ fs) differ =
    last-append id r (told_fired member f) (flat_map (told_fired member) fs)
    ∙ (ap (λ (x : Restart). last_restart id x (flat_map (told_fired member) fs)) (other_fired id member r f differ) ∙ other_all id member r fs differ)

other_outcome : (id member : ℕ) (r : Restart) (why : Option Why) (fired : List Fired) → (id ≡ member → ⊥) → last_restart id r (told_drop member why ++ flat_map (told_fired member) fired) ≡ r
other_outcome id member r None fired differ = other_all id member r fired differ
other_outcome id member r (Some why) fired differ = other_all id member r fired differ

-- nor what a client tells of a reply that it hears
heard_still : (client : ℕ) (h : Heard) → IsStill (told_heard client h)
heard_still client (hears.Counted count need) = λ id r. refl
heard_still client (hears.Accepted acceptance) = λ id r. refl
heard_still client (hears.Viewed count need) = λ id r. refl
heard_still client (hears.Moved number) = λ id r. refl
heard_still client (hears.Ignored why) = λ id r. refl

-- hosts

-- a host has gone on from what was told before the present script line, and by that line
abbrev HostFrom : {S : Type 0} → (ℕ → Restart) → List OutLine → Host S → Type 0
HostFrom before told h = WentOn (last_restart h.node.id (before h.node.id) told) h

-- all hosts have, and of a member without a host no restart was told
record AllFrom {S : Type 0} (before : ℕ → Restart) (w : World S) : Type 0 where
  hosts : Each (HostFrom before w.told) w.hosts
  nobody : (id : ℕ) → list_any (λ k. k == id) (names w.hosts) ≡ false → last_restart id (before id) w.told ≡ from_nothing

-- lines that tell of no restart
host_still : {S : Type 0} (before : ℕ → Restart) (told lines : List OutLine) → Each IsStill lines → (h : Host S) → HostFrom before told h → HostFrom before (told ++ lines) h
host_still before told lines still h is =
    subst (λ (r : Restart). WentOn r h) (sym (last-append h.node.id (before h.node.id) told lines ∙ still-lines lines still h.node.id (last_restart h.node.id (before h.node.id) told))) is

all_still : {S : Type 0} (before : ℕ → Restart) (told lines : List OutLine) (hosts : List (Host S)) → Each IsStill lines → Each (HostFrom before told) hosts → Each (HostFrom before (told ++ lines)) hosts
all_still {S = S} before told lines hosts still each =
    each-weaken (λ (h : Host S). HostFrom before told h) (λ (h : Host S). HostFrom before (told ++ lines) h) (host_still before told lines still) hosts each

-- of a member nothing is told that the lines do not tell
still_from : (before : ℕ → Restart) (told lines : List OutLine) (id : ℕ) → Each IsStill lines → last_restart id (before id) told ≡ from_nothing → last_restart id (before id) (told ++ lines) ≡ from_nothing
still_from before told lines id still is = last-append id (before id) told lines ∙ (still-lines lines still id (last_restart id (before id) told) ∙ is)

-- a line that tells of no restart is told
from-line : {S : Type 0} (before : ℕ → Restart) (w : World S) (line : OutLine) → IsStill line → AllFrom before w → AllFrom before (record w { told = w.told ++ line ∷ [] })
from-line before w line still is = record {
  hosts = all_still before w.told (line ∷ []) w.hosts (still, tt) is.hosts;
  nobody = λ id none. still_from before w.told (line ∷ []) id (still, tt) (is.nobody id none);
}

-- another host of the same name, of which as much was restored
host_as : {S : Type 0} (before : ℕ → Restart) (told : List OutLine) (h h' : Host S) → h'.node.id ≡ h.node.id → h'.resumed ≡ h.resumed → h'.node.restored ≡ h.node.restored → HostFrom before told h
    → HostFrom before told h'
host_as before told h h' name place entries is =
    subst (λ (id : ℕ). WentOn (last_restart id (before id) told) h') (sym name) (record { place = place ∙ is.place; entries = entries ∙ is.entries })

from-set : {S : Type 0} (before : ℕ → Restart) (w : World S) (i : ℕ) (h h' : Host S) → slice_get w.hosts i ≡ Some h → h'.node.id ≡ h.node.id → h'.resumed ≡ h.resumed → h'.node.restored ≡ h.node.restored
    → AllFrom before w → AllFrom before (with_host w i h')
from-set {S = S} before w i h h' at name place entries is =
    let own : HostFrom before w.told h = each_get (λ (g : Host S). HostFrom before w.told g) w.hosts i h is.hosts at in
    record {
      hosts = each_set (λ (g : Host S). HostFrom before w.told g) w.hosts i h' is.hosts (host_as before w.told h h' name place entries own);
      nobody = λ id none. is.nobody id (subst (λ (ids : List ℕ). list_any (λ k. k == id) ids ≡ false) (ids-set w.hosts i h h' at name) none);
    }

-- messages that leave

from-posts : {S : Type 0} (before : ℕ → Restart) (w : World S) (s : Sent) → AllFrom before w → AllFrom before (posts w s)
from-posts {S = S} before w s is =
    by-posts (λ (v : World S). AllFrom before v) w s (λ ending. record { hosts = is.hosts; nobody = is.nobody })
    (λ free room. record { hosts = all_still before w.told _ w.hosts ((λ id r. refl), tt) is.hosts; nobody = λ id none. still_from before w.told _ id ((λ k r. refl), tt) (is.nobody id none) })

-- a node's step

from-stepped : {S : Type 0} (m : Meaning S) (before : ℕ → Restart) (w : World S) (i : ℕ) (h : Host S) (event : NodeEvent) → slice_get w.hosts i ≡ Some h → ChosenRight m w → AllFrom before w
    → AllFrom before (stepped (course_of m) w i h (step_of m h.node event))
unfolding stepped
from-stepped {S = S} m before w i h event at r is =
    let o : Outcome S = step_of m h.node event in
    let h' : Host S = host_after (course_of m) h o in
    let lines : List OutLine = told_drop h.node.id o.dropped ++ flat_map (told_fired h.node.id) o.fired in
    let told : List OutLine = w.told ++ lines in
    let last : ℕ → Restart = λ id. last_restart id (before id) w.told in
    let name : h'.node.id ≡ h.node.id = named-step m h.node event in
    keeps-sends_all (λ (v : World S). AllFrom before v) h.node.id (view_of o.node) (λ v held all. from-posts before v (from_node v h.node.id (view_of o.node) held) all) _ (leaving o.node.firm o.node.held)
    (record {
      hosts = set_others (λ (g : Host S). HostFrom before w.told g) (λ (g : Host S). HostFrom before told g) w.hosts i h h' r.1.ids.once at
          (λ g differ own. subst (λ (x : Restart). WentOn x g)
          (sym (last-append g.node.id (before g.node.id) w.told lines ∙ other_outcome g.node.id h.node.id (last g.node.id) o.dropped o.fired differ)) own)
          (λ own. subst (λ (id : ℕ). WentOn (last_restart id (before id) told) h') (sym name)
          (subst (λ (x : Restart). WentOn x h')
          (sym (last-append h.node.id (before h.node.id) w.told lines ∙ own_outcome h.node.id (last h.node.id) (segment_of h) o.dropped o.fired own.place))
          (record { place = refl; entries = restored-step m h.node event ∙ own.entries }))) is.hosts;
      nobody = λ id none.
          let before_it : list_any (λ k. k == id) (names w.hosts) ≡ false = subst (λ (ids : List ℕ). list_any (λ k. k == id) ids ≡ false) (ids-set w.hosts i h h' at name) none in
          last-append id (before id) w.told lines ∙ (other_outcome id h.node.id (last id) o.dropped o.fired (λ same. not_named w.hosts i h id at before_it same) ∙ is.nobody id before_it);
    })

-- a client hears

from-hearing : {S : Type 0} (before : ℕ → Restart) (w : World S) (i : ℕ) (c : Client) (a : Word) (h : Heard) → AllFrom before w → AllFrom before (hearing w i c a h)
unfolding hearing
from-hearing before w i c a h is = record {
  hosts = all_still before w.told (told_heard c.id h ∷ []) w.hosts (heard_still c.id h, tt) is.hosts;
  nobody = λ id none. still_from before w.told (told_heard c.id h ∷ []) id (heard_still c.id h, tt) (is.nobody id none);
}

-- a node goes on

-- what its line tells of others, and of itself
restart_other : (id member place entries : ℕ) (r : Restart) → (id ≡ member → ⊥) → restarts_with id r (outs.Restarted member place entries) ≡ r
restart_other id member place entries r differ = by (member == id) refl
  where
    by : (t : Bool) → (member == id) ≡ t → cond t (restart_of place entries) r ≡ r
    by true is = absurd (differ (sym (eqb-true member id is)))
    by false is = refl

restart_own : (id place entries : ℕ) (r : Restart) → restarts_with id r (outs.Restarted id place entries) ≡ restart_of place entries
restart_own id place entries r = ap (λ (t : Bool). cond t (restart_of place entries) r) (eq-eqb id id refl)

from-resumed : {S : Type 0} (m : Meaning S) → IsRestorable m → (before : ℕ → Restart) (w : World S) (i : ℕ) (h : Host S) → IsDown w h → slice_get w.hosts i ≡ Some h → ChosenRight m w → AllFrom before w
    → Each (HostFrom before (w.told ++ resumed_line (course_of m) w h ∷ [])) (slice_set w.hosts i (host_resumed h (node_resumed (course_of m) w h)))
from-resumed {S = S} m service before w i h down at r is =
    let n : Node S = node_resumed (course_of m) w h in
    let h' : Host S = host_resumed h n in
    let line : OutLine = resumed_line (course_of m) w h in
    let told : List OutLine = w.told ++ line ∷ [] in
    let name : n.id ≡ h.node.id = from_named m group_secret h.node.id w.view w.period (parts_held h) in
    let from : Restart = restart_of n.replica.place (length (entries_left h)) in
    let last : last_restart h.node.id (before h.node.id) told ≡ from =
    last-append h.node.id (before h.node.id) w.told (line ∷ []) ∙ restart_own h.node.id n.replica.place (length (entries_left h)) (last_restart h.node.id (before h.node.id) w.told) in
    set_others (λ (g : Host S). HostFrom before w.told g) (λ (g : Host S). HostFrom before told g) w.hosts i h h' r.1.ids.once at
    (λ g differ own. subst (λ (x : Restart). WentOn x g)
    (sym (last-append g.node.id (before g.node.id) w.told (line ∷ []) ∙ restart_other g.node.id h.node.id n.replica.place (length (entries_left h)) (last_restart g.node.id (before g.node.id) w.told) differ)) own)
    (λ own. subst (λ (id : ℕ). WentOn (last_restart id (before id) told) h') (sym name)
    (subst (λ (x : Restart). WentOn x h') (sym last) (record { place = refl; entries = resumed_count m service w i h down.0 at r }))) is.hosts

-- others have not
nobody-resumed : {S : Type 0} (m : Meaning S) (before : ℕ → Restart) (w : World S) (i : ℕ) (h : Host S) → slice_get w.hosts i ≡ Some h → AllFrom before w
    → (id : ℕ) → list_any (λ k. k == id) (names (slice_set w.hosts i (host_resumed h (node_resumed (course_of m) w h)))) ≡ false
    → last_restart id (before id) (w.told ++ resumed_line (course_of m) w h ∷ []) ≡ from_nothing
nobody-resumed {S = S} m before w i h at is id none =
    let n : Node S = node_resumed (course_of m) w h in
    let name : n.id ≡ h.node.id = from_named m group_secret h.node.id w.view w.period (parts_held h) in
    let before_it : list_any (λ k. k == id) (names w.hosts) ≡ false = subst (λ (ids : List ℕ). list_any (λ k. k == id) ids ≡ false) (ids-set w.hosts i h (host_resumed h n) at name) none in
    last-append id (before id) w.told (resumed_line (course_of m) w h ∷ [])
    ∙ (restart_other id h.node.id n.replica.place (length (entries_left h)) (last_restart id (before id) w.told) (λ same. not_named w.hosts i h id at before_it same) ∙ is.nobody id before_it)

-- a new node begins from nothing
from-added : {S : Type 0} (m : Meaning S) (before : ℕ → Restart) (w : World S) (i member : ℕ) → IsNew w member → AllFrom before w → AllFrom before (added (course_of m) w i member)
from-added {S = S} m before w i member new is =
    let h : Host S = new_host m w member in
    let none : list_any (λ k. k == member) (names w.hosts) ≡ false = none_named w.hosts member (ap (λ (found : Option ℕ). is_some found) new.none) in
    let more : names (insert w.hosts i h) ≡ insert (names w.hosts) i member = map_insert (λ (g : Host S). g.node.id) w.hosts i h in
    record {
      hosts = each_insert (λ (g : Host S). HostFrom before w.told g) w.hosts i h is.hosts (subst (λ (r : Restart). WentOn r h) (sym (is.nobody member none)) (record { place = refl; entries = refl }));
      nobody = λ id other. is.nobody id (none_before (λ k. k == id) (names w.hosts) i member (subst (λ (ids : List ℕ). list_any (λ k. k == id) ids ≡ false) more other));
    }

-- the list is right, and hosts have gone on from what was told
abbrev GoingOn : {S : Type 0} → Meaning S → (ℕ → Restart) → World S → Type 0
GoingOn m before w = ChosenRight m w × AllFrom before w

-- each event keeps that
keeps-restarts : {S : Type 0} (m : Meaning S) → IsBrief m → IsRestorable m → (before : ℕ → Restart) → KeepsLives (course_of m) (GoingOn m before)
keeps-restarts {S = S} m brief service before =
    let k : KeepsLives (course_of m) (ChosenRight m) = lives (course_of m) (ChosenRight m) (chosen-kept m brief service) in
    record {
      live = record {
        event = λ w i h event on up at may is. (k.live.event w i h event on up at may is.0, from-stepped m before w i h event at is.0 is.1);
        disk = λ w i h on up at is. (k.live.disk w i h on up at is.0, from-set before w i h (after_call (course_of m) h) at refl refl refl is.1);
        hear = λ w i c x a on at has read is. (k.live.hear w i c x a on at has read is.0, from-hearing before w i c a (heard_word c a) is.1);
        ask = λ w i c op on at free few brief is. (
          k.live.ask w i c op on at free few brief is.0,
          from-posts before (asked_by w i c op) (from_client c (ask_of c op)) (record { hosts = is.1.hosts; nobody = is.1.nobody }),
        );
        again = λ w i c q on at waits is. (k.live.again w i c q on at waits is.0, from-posts before w (from_client c (signed_by c q)) is.1);
        learn = λ w i j c d on at other is. (
          k.live.learn w i j c d on at other is.0,
          let one = from-line before w (learned_line c d.seen) (λ id r. refl) is.1 in record { hosts = one.hosts; nobody = one.nobody },
        );
        inject = λ w x on read fine is. (k.live.inject w x on read fine is.0, from-posts before w (from_script x) is.1);
        declare = λ w faulty rogue ending on how is. (k.live.declare w faulty rogue ending on how is.0, record { hosts = is.1.hosts; nobody = is.1.nobody });
        mark = λ w s on at is. (k.live.mark w s on at is.0, record { hosts = is.1.hosts; nobody = is.1.nobody });
        meet = λ w texts on is. (k.live.meet w texts on is.0, record { hosts = is.1.hosts; nobody = is.1.nobody });
        tell = λ w line aside is. (k.live.tell w line aside is.0, from-line before w line (aside_still line aside) is.1);
      };
      crash = λ w i h left on up at may is. (k.crash w i h left on up at may is.0, from-set before w i h (host_crashed (course_of m) h left) at refl refl refl is.1);
      resume = λ w i h on down at is. (
        k.resume w i h on down at is.0,
        record { hosts = from-resumed m service before w i h down at is.0 is.1; nobody = nobody-resumed m before w i h at is.1 },
      );
      add = λ w i member on new is. (k.add w i member on new is.0, from-added m before w i member new is.1);
    }

-- behind lines

after-restarts : {S : Type 0} (m : Meaning S) → IsBrief m → IsRestorable m → (before : ℕ → Restart) (w : World S) (ls : List Line) → ChosenRight m w → w.told ≡ [] → Each (λ h. WentOn (before h.node.id) h) w.hosts
    → ((id : ℕ) → list_any (λ k. k == id) (names w.hosts) ≡ false → before id ≡ from_nothing)
    → Each (λ h. WentOn (last_restart h.node.id (before h.node.id) (lines_told (course_of m) w ls)) h) (world_after (course_of m) w ls).hosts
after-restarts m brief service before w [] right none each nobody = each
after-restarts {S = S} m brief service before w (l ∷ ls) right none each nobody =
    let played : World S = line_played (course_of m) w l in
    let later : List OutLine = lines_told (course_of m) (rested played) ls in
    let begins : AllFrom before w = record {
      hosts = subst (λ (told : List OutLine). Each (λ (h : Host S). HostFrom before told h) w.hosts) (sym none) each;
      nobody = λ id new. subst (λ (told : List OutLine). last_restart id (before id) told ≡ from_nothing) (sym none) (nobody id new);
    } in
    let is : GoingOn m before played = live-line_played (course_of m) (λ (v : World S). GoingOn m before v) (keeps-restarts m brief service before) w l (right, begins) in
    let rest = after-restarts m brief service (λ id. last_restart id (before id) played.told) (rested played) ls ((chosen-kept m brief service).kept.same played played.mark [] is.0) refl is.1.hosts is.1.nobody in
    each-weaken (λ (h : Host S). WentOn (last_restart h.node.id (last_restart h.node.id (before h.node.id) played.told) later) h) (λ (h : Host S). WentOn (last_restart h.node.id (before h.node.id) (played.told ++ later)) h)
    (λ h from. subst (λ (r : Restart). WentOn r h) (sym (last-append h.node.id (before h.node.id) played.told later)) from) (world_after (course_of m) (rested played) ls).hosts rest

-- each host begins from nothing
none_gone : {S : Type 0} (m : Meaning S) (view : View) (period : ℕ) (members : List ℕ) → Each (λ h. WentOn from_nothing h) (hosts_from m view period members)
none_gone m view period [] = tt
none_gone m view period (id ∷ ids) = (record { place = refl; entries = refl }, none_gone m view period ids)

-- after any lines of any script each node has gone on from what the transcript's last line of its restart tells
pub restarts-told : {S : Type 0} (m : Meaning S) → IsBrief m → IsRestorable m → (g : Header) (ls : List Line) → IsHeader g
    → Each (HasGoneOn (lines_told (course_of m) (begun m g) ls)) (world_after (course_of m) (begun m g) ls).hosts
restarts-told m brief service g ls is = after-restarts m brief service (λ id. from_nothing) (begun m g) ls (chosen-begun m g is) refl (none_gone m g.view g.period g.view.members) (λ id none. refl)
