-- A core is audited as the node for which it stands.
use Rattle.std.proofs.Common.{◌≡◌, ℕ, ◌+◌, Bool, true, List, [], ◌∷◌, ◌++◌, Option, Some, None, refl, ap, sym, ◌∙◌, length}
use Rattle.std.proofs.lemmas.Bool.{eq-eqb}
use Rattle.smart_base.specs.Lists.{or_else, same_bytes}
use Rattle.smart_base.specs.Views.{View}
use Rattle.smart_messages.specs.declared.message.Message.{Message}
use Rattle.smart_messages.specs.declared.message.Sealed.{Sealed}
use Rattle.smart_service.specs.Services.{Meaning}
use Rattle.smart_service.specs.declared.replica.Replica.{Replica}
use Rattle.vote_book.specs.declared.entry.LogEntry.{LogEntry}
use Rattle.replica_rules.specs.Replicas.{after_batches}
use Rattle.node_rules.specs.Decisions.{decided_of}
use Rattle.node_rules.specs.Kept.{Stands, trimmed}
use Rattle.node_rules.specs.Nodes.{Node, view_of}
use Rattle.node_rules.specs.Steps.{Outset, opened, first_leaving}
use Rattle.node_rules.specs.Reopening.{stopped, reopened, reopened_from, outset_from, entries_in}
use Rattle.node_rules.specs.declared.node.Held.{Held}
use Rattle.node_rules.specs.declared.node.Parts.{Parts}
use Rattle.node_rules.specs.declared.node.Target.{Target}
use Rattle.node_laws.proofs.Reopened.{reopened_is}
use Rattle.trail.specs.Events.{addressed_text}
use Rattle.trail.specs.declared.event.Addressed.{Addressed}
use Rattle.trail.specs.declared.event.TrailEvent.{TrailEvent}
use Rattle.trail.specs.declared.event.TrailEvent.TheVariants.{Happens, Send, Lost, Polls, End}
use Rattle.trail.specs.declared.opening.TrailOpening.{TrailOpening}
use Rattle.trail_rules.specs.Replays.{Step, node_step, core_steps, after, replay, IsRelease, MayCome, Released}
use Rattle.trail_rules.proofs.Grows.{replay-stands}
use Rattle.audit_rules.specs.declared.recorded.Recorded.{Recorded}
use Rattle.audit_rules.specs.Audits.{first_node, parts_in, addressed_of, is_release, event_found, differing, member_difference}
use Rattle.audit_rules.specs.Coherence.{IsNext, Leaves}
use Rattle.audit_rules.specs.Quiets.{Post, is_at_rest, sent_at, sent_from}

-- ---- what is released is next

same_bytes-refl : (a : List ℕ) → same_bytes a a ≡ true
same_bytes-refl [] = refl
same_bytes-refl (x ∷ xs) = rw (eq-eqb x x refl, same_bytes-refl xs) refl

-- a message to a receiver
abbrev sends : Target → Message → Addressed
sends to m = record { to = to; message = m }

is_next_if : (a : Addressed) (next : Option Held) → IsRelease a next → is_release a next ≡ true
is_next_if a None is = absurd is
is_next_if a (Some h) is =
    let same : addressed_of h ≡ a = ap (λ to. sends to h.message) is.0 ∙ ap (λ (m : Message). sends a.to m) is.1 in
    ap (λ b. same_bytes (addressed_text b) (addressed_text a)) same ∙ same_bytes-refl (addressed_text a)

next_if : {S : Type 0} (n : Node S) (e : TrailEvent) → MayCome n e → IsNext n e
next_if n (Happens event) may = tt
next_if n (Send a) may = is_next_if a (first_leaving n.firm n.held) may
next_if n (Lost a) may = tt
next_if n (Polls count) may = tt
next_if n End may = tt

pub leaves_if : {S : Type 0} (step : Step S) (n : Node S) (events : List TrailEvent) → Released step n events → Leaves step n events
leaves_if step n [] released = tt
leaves_if step n (e ∷ events) released = (next_if n e released.0, leaves_if step (after step n e) events released.1)

-- ---- the first node

trimmed-begins : {S : Type 0} (o : Outset S) → trimmed (record (opened o) { behind = true }) ≡ record (opened o) { behind = true }
unfolding trimmed
trimmed-begins o = refl

trimmed-goes_on : {S : Type 0} (o : Outset S) (es : List LogEntry) (r : Replica S) (count : ℕ)
    → trimmed (record (stopped o) { entries = es; replica = r; restored = count; firm = count }) ≡ record (stopped o) { entries = es; replica = r; restored = count; firm = count }
unfolding trimmed
trimmed-goes_on o es r count = refl

trimmed-reopened : {S : Type 0} (m : Meaning S) (o : Outset S) (es : List LogEntry) → trimmed (reopened m o es) ≡ reopened m o es
unfolding reopened
trimmed-reopened m o [] = trimmed-begins o
trimmed-reopened m o (e ∷ es) =
    let is = reopened_is m o e es in
    ap (λ n. trimmed n) is ∙ (trimmed-goes_on o (e ∷ es) (after_batches m o.replica (decided_of o.replica.place (e ∷ es))) (length (e ∷ es)) ∙ sym is)

trimmed-from : {S : Type 0} (m : Meaning S) (secret : List ℕ) (id : ℕ) (view : View) (period : ℕ) (parts : Parts)
    → trimmed (reopened_from m secret id view period parts) ≡ reopened_from m secret id view period parts
unfolding reopened_from
trimmed-from m secret id view period parts = trimmed-reopened m (outset_from m secret id view period parts.snapshot) (entries_in parts.entries)

pub first_stands : {S : Type 0} (m : Meaning S) (t : Recorded) → Stands (first_node m t) (first_node m t)
unfolding first_node
first_stands m t = record { same = sym (trimmed-from m t.opening.secret t.opening.member t.opening.view t.opening.period (parts_in m t)) }

-- ---- a core that stands for a node

event_trimmed : {S : Type 0} (sent : Sealed → Bool) (secret : List ℕ) (n : Node S) (e : TrailEvent) → event_found sent secret (trimmed n) e ≡ event_found sent secret n e
unfolding trimmed
event_trimmed sent secret n (Happens event) = refl
event_trimmed sent secret n (Send a) = refl
event_trimmed sent secret n (Lost a) = refl
event_trimmed sent secret n (Polls count) = refl
event_trimmed sent secret n End = refl

rest_trimmed : {S : Type 0} (n : Node S) → is_at_rest (trimmed n) ≡ is_at_rest n
unfolding trimmed
rest_trimmed n = refl

view_trimmed : {S : Type 0} (n : Node S) → view_of (trimmed n) ≡ view_of n
unfolding trimmed
view_trimmed n = refl

module _ {S : Type 0} (m : Meaning S) where
  after_stands : (core n : Node S) (e : TrailEvent) → Stands core n → Stands (after (core_steps m) core e) (after (node_step m) n e)
  after_stands core n e stands = replay-stands m core n (e ∷ []) stands

  pub difference_stands : (core n : Node S) (sent : Sealed → Bool) (o : TrailOpening) (before : ℕ) (events : List TrailEvent) → Stands core n
      → member_difference (core_steps m) sent o before core events ≡ member_difference (node_step m) sent o before n events
  difference_stands core n sent o before [] stands = refl
  difference_stands core n sent o before (e ∷ events) stands =
      let here : event_found sent o.secret core e ≡ event_found sent o.secret n e = ap (λ c. event_found sent o.secret c e) stands.same ∙ event_trimmed sent o.secret n e in
      let rest = difference_stands (after (core_steps m) core e) (after (node_step m) n e) sent o (before + 1) events (after_stands core n e stands) in
      ap (λ f. or_else (differing o.member (before + 1) f) (member_difference (core_steps m) sent o (before + 1) (after (core_steps m) core e) events)) here
      ∙ ap (λ r. or_else (differing o.member (before + 1) (event_found sent o.secret n e)) r) rest

  pub rest_stands : (core n : Node S) (events : List TrailEvent) → Stands core n → is_at_rest (replay (core_steps m) core events) ≡ is_at_rest (replay (node_step m) n events)
  rest_stands core n events stands =
      let later = replay-stands m core n events stands in
      ap (λ c. is_at_rest c) later.same ∙ rest_trimmed (replay (node_step m) n events)

  pub sent_stands : (core n : Node S) (events : List TrailEvent) → Stands core n → sent_from (core_steps m) core events ≡ sent_from (node_step m) n events
  sent_stands core n [] stands = refl
  sent_stands core n (e ∷ events) stands =
      let here : view_of core ≡ view_of n = ap (λ c. view_of c) stands.same ∙ view_trimmed n in
      let rest = sent_stands (after (core_steps m) core e) (after (node_step m) n e) events (after_stands core n e stands) in
      ap (λ (v : View). sent_at v.members e ++ sent_from (core_steps m) (after (core_steps m) core e) events) here ∙ ap (λ (ps : List Post). sent_at (view_of n).members e ++ ps) rest
