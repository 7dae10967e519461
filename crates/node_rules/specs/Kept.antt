-- What a node still needs of what it kept, and a core: a node that keeps nothing else.
use Rattle.std.specs.Prelude.{◌≡◌, filter, Bool, List, [], ◌∷◌, ℕ, ◌&&◌, ◌==◌, nat_lt, nat_le}
use Rattle.smart_statements.specs.declared.statement.Slot.{Slot}
use Rattle.smart_messages.specs.Messages.{slot_of, some_of}
use Rattle.smart_messages.specs.declared.message.Message.{Message}
use Rattle.smart_statements.specs.declared.entry.NodeEvent.{NodeEvent}
use Rattle.smart_service.specs.Services.{Meaning}
use Rattle.transfer_form.specs.declared.transfer.ProvenBatch.{ProvenBatch}
use Rattle.regency_sync.specs.Synchronizers.{needs_stop, needs_report, needs_sync}
use Rattle.node_rules.specs.Nodes.{Node, view_of, regency_of, decided_place}
use Rattle.node_rules.specs.Steps.{Outcome, step_of}

-- a slot of a view, past a place, and of a given regency or a later one
abbrev pub is_ahead : ℕ → ℕ → ℕ → Slot → Bool
is_ahead view place regency slot = nat_lt place slot.place && (slot.view == view) && nat_le regency slot.regency

-- a proposal or a vote for a slot ahead
abbrev pub is_needed : ℕ → ℕ → ℕ → Message → Bool
is_needed view place regency m = some_of (is_ahead view place regency) (slot_of m)

-- a slot ahead of a node: of the view in force, past the last decided place, and of a regency that is not over
abbrev pub ahead_of : {S : Type 0} → Node S → Slot → Bool
ahead_of n slot = is_ahead (view_of n).number (decided_place n) (regency_of n) slot

-- a proposal or a vote that a node still needs
abbrev pub needed_by : {S : Type 0} → Node S → Message → Bool
needed_by n message = is_needed (view_of n).number (decided_place n) (regency_of n) message

-- a decided batch past the last decided place
abbrev pub is_later : {S : Type 0} → Node S → ProvenBatch → Bool
is_later n d = nat_lt (decided_place n) d.place

-- the core of a node: without the messages and the notes of proposals that no rule can use again
unfoldable pub trimmed : {S : Type 0} → Node S → Node S
trimmed n = record n {
  arrivals = filter (needed_by n) n.arrivals;
  decisions = filter (is_later n) n.decisions;
  stops = filter (needs_stop (view_of n).number (regency_of n)) n.stops;
  reports = filter (needs_report (view_of n).number (regency_of n)) n.reports;
  syncs = filter (needs_sync (view_of n).number (regency_of n)) n.syncs;
  proposed = filter (ahead_of n) n.proposed;
}

-- a core stands for a node if and only if it is that node trimmed
pub record Stands {S : Type 0} (core n : Node S) : Type 0 where
  pub same : core ≡ trimmed n

-- the step of a core: the node's step, after which what no rule needs is dropped
unfoldable pub core_step : {S : Type 0} → Meaning S → Node S → NodeEvent → Outcome S
core_step m n event = record { node = trimmed (step_of m n event).node; fired = (step_of m n event).fired; dropped = (step_of m n event).dropped }

-- a core's step that reports what a node's step reports; after it the core stands for the node
pub record StepStands {S : Type 0} (m : Meaning S) (core n : Node S) (event : NodeEvent) : Type 0 where
  pub node : Stands (core_step m core event).node (step_of m n event).node
  pub fired : (core_step m core event).fired ≡ (step_of m n event).fired
  pub dropped : (core_step m core event).dropped ≡ (step_of m n event).dropped

-- the node after a list of events
abbrev pub node_after : {S : Type 0} → Meaning S → Node S → List NodeEvent → Node S
node_after m n [] = n
node_after m n (e ∷ es) = node_after m (step_of m n e).node es

-- the core after a list of events
abbrev pub core_after : {S : Type 0} → Meaning S → Node S → List NodeEvent → Node S
core_after m n [] = n
core_after m n (e ∷ es) = core_after m (core_step m n e).node es
