-- What leaves a node rests on entries that are firm.
use Rattle.std.proofs.Common.{ℕ, List, [], ◌∷◌, nat_le, take, subst}
use Rattle.std.proofs.lemmas.Bool.{leb-true}
use Rattle.smart_base.specs.Lists.{Each}
use Rattle.smart_base.specs.Views.{View}
use Rattle.smart_statements.specs.declared.entry.NodeEvent.{NodeEvent}
use Rattle.smart_service.specs.Services.{Meaning}
use Rattle.vote_book.specs.declared.entry.LogEntry.{LogEntry}
use Rattle.node_rules.specs.Nodes.{Node}
use Rattle.node_rules.specs.Steps.{step_of, leaving, opened, outset}
use Rattle.node_rules.specs.Kept.{node_after}
use Rattle.node_rules.specs.declared.node.Held.{Held}
use Rattle.replica_laws.specs.Sending.{IsOwn, RestsOn, LeavesFirm, HoldsOwn}
use Rattle.replica_laws.proofs.Follows.{follows_after}
use Rattle.replica_laws.proofs.Onward.{longer-front, rests-more, HoldsRight, NodeRests, onward-step, rests-opened}
use Rattle.agreement_laws.proofs.Lists.{either_by}
use Rattle.smart_base.proofs.ViewFacts.{each-weaken}

-- what leaves rests on entries that are firm
pub leaving_rest : (id firm : ℕ) (entries : List LogEntry) (held : List Held) → Each (HoldsRight id entries) held → Each (λ h. IsOwn id h.to h.message × RestsOn (take firm entries) h.message) (leaving firm held)
leaving_rest id firm entries [] each = tt
leaving_rest id firm entries (h ∷ hs) each =
    either_by (Each (λ x. IsOwn id x.to x.message × RestsOn (take firm entries) x.message)) (nat_le h.needs firm) (h ∷ leaving firm hs) []
    (λ is. (
      (each.0.own, rests-more (take h.needs entries) (take firm entries) (longer-front h.needs firm entries (leb-true h.needs firm is)) h.message each.0.rests),
      leaving_rest id firm entries hs each.1,
    ))
    (λ waits. tt)

-- whatever comes, a node's held messages are right
pub rests_after : {S : Type 0} (m : Meaning S) (n : Node S) (events : List NodeEvent) → NodeRests n → NodeRests (node_after m n events)
rests_after m n [] is = is
rests_after m n (e ∷ es) is = rests_after m (step_of m n e).node es (onward-step m n e is).rests

-- so what leaves rests on entries that are firm
pub leaves_firm : {S : Type 0} (m : Meaning S) (secret : List ℕ) (id : ℕ) (view : View) (period : ℕ) (events : List NodeEvent) → LeavesFirm (node_after m (opened (outset m secret id view period)) events)
leaves_firm {S = S} m secret id view period events =
    let n : Node S = node_after m (opened (outset m secret id view period)) events in
    each-weaken (λ (h : Held). IsOwn n.id h.to h.message × RestsOn (take n.firm n.entries) h.message) (λ (h : Held). RestsOn (take n.firm n.entries) h.message) (λ h is. is.1)
    (leaving n.firm n.held)
    (leaving_rest n.id n.firm n.entries n.held (rests_after m (opened (outset m secret id view period)) events (rests-opened m secret id view period)).held)

-- and what it holds is its own
pub holds_own : {S : Type 0} (m : Meaning S) (secret : List ℕ) (id : ℕ) (view : View) (period : ℕ) (events : List NodeEvent) → HoldsOwn id (node_after m (opened (outset m secret id view period)) events)
holds_own {S = S} m secret id view period events =
    let n : Node S = node_after m (opened (outset m secret id view period)) events in
    each-weaken (HoldsRight n.id n.entries) (λ (h : Held). IsOwn id h.to h.message)
    (λ h right. subst (λ (k : ℕ). IsOwn k h.to h.message) (follows_after m (opened (outset m secret id view period)) events) right.own) n.held
    (rests_after m (opened (outset m secret id view period)) events (rests-opened m secret id view period)).held
