-- The instance in which a node takes part.
use Rattle.std.specs.Prelude.{ℕ, ◌≡◌, ◌+◌, List, Option, is_some, option_map}
use Rattle.std.specs.List.{list_any}
use Rattle.smart_base.specs.Views.{View}
use Rattle.smart_statements.specs.Batches.{Batch}
use Rattle.smart_statements.specs.declared.statement.Slot.{Slot}
use Rattle.smart_messages.specs.declared.message.Message.{Message}
use Rattle.smart_messages.specs.declared.message.Proposed.{Proposed}
use Rattle.vote_book.specs.Admission.{writes_in, accepts_in}
use Rattle.vote_book.specs.declared.entry.Start.{Start as Beginning}
use Rattle.vote_book.specs.declared.entry.LogEntry.{LogEntry}
use Rattle.node_rules.specs.Nodes.{Node, view_of, greatest_regency, start_at}
use Rattle.node_rules.specs.Rules.{writing, accepting}
use Rattle.consensus_instance.specs.declared.rule.Rule.{Rule}
use Rattle.consensus_instance.specs.declared.rule.Rule.TheVariants.{Write, Accept}
use Rattle.consensus_instance.specs.declared.start.Start.{Start}
use Rattle.consensus_instance.specs.Instances.{Instance}

-- the slot of the place after another
abbrev pub slot_behind : ℕ → ℕ → ℕ → Slot
slot_behind view place regency = record { view = view; place = place + 1; regency = regency }

-- the beginning that an entry states
abbrev pub stated_start : Beginning → Start
stated_start s = record { base = s.base; bound = s.bound }

-- The instance of a member, by its last delivered place, its waiting batch, its kept messages and its book, in a view.
pub record IsInstance (id : ℕ) (view : View) (place : ℕ) (waiting : Option Batch) (arrivals : List Message) (entries : List LogEntry) (i : Instance) : Type 0 where
  pub id_same : i.id ≡ id
  pub view_same : i.view ≡ view
  pub place_same : i.place ≡ place
  pub decided_same : i.decided ≡ is_some waiting
  -- its regency is the greatest that the book promises in the view
  pub regency_same : i.regency ≡ greatest_regency view.number entries
  -- its beginning is the one that the book states
  pub start_same : i.start ≡ option_map stated_start (start_at view i.regency entries)
  pub arrivals_same : i.arrivals ≡ arrivals
  -- it has a WRITE if the book has one in the open slot
  pub wrote_same : i.wrote ≡ list_any (writes_in (slot_behind view.number place i.regency)) entries
  -- it has an ACCEPT if the book has one in the open slot
  pub accepted_same : i.accepted ≡ list_any (accepts_in (slot_behind view.number place i.regency)) entries

-- the instance of a node
abbrev pub HasInstance : {S : Type 0} → Node S → Instance → Type 0
HasInstance n i = IsInstance n.id (view_of n) n.replica.place n.waiting n.arrivals n.entries i

-- the proposal for which a vote is due at a node, if there is one
abbrev pub due_at : {S : Type 0} → Rule → Node S → Option Proposed
due_at Write n = writing n
due_at Accept n = accepting n
