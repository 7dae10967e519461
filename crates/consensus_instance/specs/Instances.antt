-- The instance of consensus in which a member takes part (Mod-SMaRt, EDCC 2012), and what is due in it.
use Rattle.std.specs.Prelude.{ℕ, ◌+◌, ◌^◌, ◌==◌, nat_lt, nat_le, Bool, false, not, ◌&&◌, List, [], ◌∷◌, ◌++◌, if◌then◌else◌, Option, Some, None, filter, filter_map}
use Rattle.std.specs.List.{list_any}
use Rattle.vote_book.specs.declared.votes.OwnVotes.{OwnVotes}
use Rattle.smart_base.specs.Lists.{or_else}
use Rattle.smart_base.specs.Views.{View, is_member}
use Rattle.smart_statements.specs.Forms.{SignedBy}
use Rattle.smart_statements.specs.declared.statement.Ballot.{Ballot}
use Rattle.smart_statements.specs.declared.statement.Slot.{Slot}
use Rattle.smart_statements.specs.declared.statement.VoteKind.TheVariants as kinds
use Rattle.smart_messages.specs.declared.message.Message.{Message}
use Rattle.smart_messages.specs.declared.message.Message.TheVariants.{Propose, Vote}
use Rattle.smart_messages.specs.declared.message.Proposed.{Proposed}
use Rattle.node_rules.specs.Votes.{has_quorum, Named, named_in, accepted_in, proposed_for}
use Rattle.node_rules.specs.Arrivals.{is_same_proposal, is_same_vote}
use Rattle.node_rules.specs.Kept.{is_ahead, is_needed}
use Rattle.node_rules.specs.Nodes.{is_within}
use Rattle.consensus_instance.specs.declared.rule.Rule.{Rule}
use Rattle.consensus_instance.specs.declared.rule.Rule.TheVariants.{Write, Accept}
use Rattle.consensus_instance.specs.declared.start.Start.{Start}

-- the instance of the next place, as a member takes part in it
pub record Instance : Type 0 where
  -- the member's number
  pub id : ℕ
  -- the view in force
  pub view : View
  -- the last delivered place
  pub place : ℕ
  -- whether the batch of the next place is decided
  pub decided : Bool
  -- the regency in force
  pub regency : ℕ
  -- the beginning of the regency in force, after it is adopted; regency 0 has one at once
  pub start : Option Start
  -- proposals and votes of members that were kept, for the next place and later ones; of one signer one for a slot, of votes one of each kind
  pub arrivals : List Message
  -- whether the member has a WRITE in the open slot
  pub wrote : Bool
  -- whether the member has an ACCEPT in the open slot
  pub accepted : Bool

-- the instance of the first place of a group, in regency 0, which begins with the group's first view
abbrev pub first_of : ℕ → View → List Message → Instance
first_of id view arrivals = record {
  id = id;
  view = view;
  place = 0;
  decided = false;
  regency = 0;
  start = Some (record { base = view.start; bound = None });
  arrivals = arrivals;
  wrote = false;
  accepted = false;
}

-- the regency in force
abbrev pub regency_of : Instance → ℕ
regency_of i = i.regency

-- the instance of a restarted member at the next place of a view, with the beginning of its regency, if it has one, and its votes there
abbrev pub resuming : ℕ → View → ℕ → ℕ → Option Start → OwnVotes → Instance
resuming id view place regency start votes = record {
  id = id;
  view = view;
  place = place;
  decided = false;
  regency = regency;
  start = start;
  arrivals = [];
  wrote = votes.wrote;
  accepted = votes.accepted;
}

-- the last place that is decided, delivered or not
abbrev pub decided_place : Instance → ℕ
decided_place i = if i.decided then i.place + 1 else i.place

-- a free instance: no decided batch waits for delivery, and there is a next place
abbrev pub is_free : Instance → Bool
is_free i = not i.decided && nat_lt (i.place + 1) (2 ^ 63)

-- ---- what is kept

-- A slot within reach: of the view in force, one or two places past the last decided one, and of the regency in force or the next one.
abbrev pub is_reached : Instance → Slot → Bool
is_reached i slot =
    is_ahead i.view.number (decided_place i) i.regency slot
    && nat_le slot.place (decided_place i + 2) && nat_le slot.regency (i.regency + 1)

-- A vote that may be kept: its signer is a member, its slot is within reach, and it repeats none.
unfoldable pub keeps_vote : SignedBy Ballot → Instance → Bool
keeps_vote b i = is_member i.view b.signer && is_reached i b.statement.slot && not (list_any (is_same_vote b) i.arrivals)

-- a proposal that may be kept
unfoldable pub keeps_proposal : Proposed → Instance → Bool
keeps_proposal p i = is_member i.view p.head.signer && is_reached i p.head.statement.slot && not (list_any (is_same_proposal p) i.arrivals)

-- the instance with one more message
abbrev pub with_arrival : Message → Instance → Instance
with_arrival m i = record i { arrivals = i.arrivals ++ m ∷ [] }

-- the instance to which a vote came. A vote that may not be kept leaves it as it was.
abbrev pub keeping_vote : SignedBy Ballot → Instance → Instance
keeping_vote b i = if keeps_vote b i then with_arrival (Vote b) i else i

-- the instance to which a proposal came
abbrev pub keeping_proposal : Proposed → Instance → Instance
keeping_proposal p i = if keeps_proposal p i then with_arrival (Propose p) i else i

-- ---- what is due

-- a place at which members vote: the regency has begun, and its base is this place or an earlier one
abbrev pub has_begun : ℕ → Option Start → Bool
has_begun place None = false
has_begun place (Some start) = nat_le start.base place

-- the bound of a place, if it has one: the only digest that may get votes there in the regency in force
abbrev pub bound_at : ℕ → Option Start → Option (List ℕ)
bound_at place None = None
bound_at place (Some start) = if start.base == place then start.bound else None

abbrev pub is_bound_to : ℕ → Instance → Option (List ℕ)
is_bound_to place i = bound_at place i.start

-- a proposal in the regency in force whose digest is not the one that binds at its place
abbrev pub is_unbound : Proposed → Instance → Bool
is_unbound p i = (p.head.statement.slot.regency == i.regency) && not (is_within (is_bound_to p.head.statement.slot.place i) p.head.statement.digest)

-- the slot in which the member takes part, in the view in force
abbrev pub open_slot : View → Instance → Slot
open_slot view i = record { view = view.number; place = i.place + 1; regency = regency_of i }

-- an open slot: the member is of the view, the instance is free, and its regency has begun at the next place
abbrev pub is_open : View → Instance → Bool
is_open view i = is_member view i.id && is_free i && has_begun (i.place + 1) i.start

-- a proposal whose digest may get votes in the open slot
abbrev pub votable : Instance → Option Proposed → Option Proposed
votable i None = None
votable i (Some p) = if is_within (is_bound_to (i.place + 1) i) p.head.statement.digest then Some p else None

-- a proposal for whose digest a quorum's WRITEs in the open slot were kept
abbrev pub written : View → Instance → Option Proposed → Option Proposed
written view i None = None
written view i (Some p) = if has_quorum i.arrivals view kinds.Write (open_slot view i) p.head.statement.digest then Some p else None

-- the proposal for which a vote is due, if there is one. A WRITE is due for the first proposal in the open slot, if it may get votes. An
-- ACCEPT is due after a quorum wrote for it. Each is due once.
unfoldable pub due_by : Rule → View → Instance → Option Proposed
due_by Write view i = if is_open view i && not i.wrote then votable i (proposed_for i.arrivals (open_slot view i)) else None
due_by Accept view i =
    if is_open view i && not i.accepted
    then written view i (votable i (proposed_for i.arrivals (open_slot view i)))
    else None

-- the batch of the first proposal that a quorum accepted in a slot; the proposal is for the slot's place and view, in the regency in force
-- or a later one
abbrev pub accepted_named : View → Slot → Instance → Option Named
accepted_named view slot i = accepted_in view slot i.arrivals (filter_map (named_in slot.view slot.place i.regency) i.arrivals)

-- the instance without what is no longer needed
unfoldable pub trimmed : ℕ → Instance → Instance
trimmed view i = record i { arrivals = filter (is_needed view (decided_place i) (regency_of i)) i.arrivals }

-- the instance of the next place, in the same regency, with the member's votes there
abbrev pub moved_on : OwnVotes → Instance → Instance
moved_on votes i = record i { place = i.place + 1; decided = false; wrote = votes.wrote; accepted = votes.accepted }

-- The instance of the next place of a replica that was taken over, in its view, with the regency in force there, its beginning, if it has one,
-- and the member's votes. What was kept stays.
abbrev pub taken_to : View → ℕ → ℕ → Option Start → OwnVotes → Instance → Instance
taken_to view place regency start votes i = record i {
  view = view;
  place = place;
  decided = false;
  regency = regency;
  start = start;
  wrote = votes.wrote;
  accepted = votes.accepted;
}

-- the instance in a later regency, with its beginning, if it has one, and the member's votes there
abbrev pub promising : ℕ → Option Start → OwnVotes → Instance → Instance
promising regency start votes i = record i { regency = regency; start = start; wrote = votes.wrote; accepted = votes.accepted }

-- the instance after its regency has begun; the first beginning stays
abbrev pub syncing : Start → Instance → Instance
syncing start i = record i { start = or_else i.start (Some start) }
