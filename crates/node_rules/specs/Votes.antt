-- Proposals and votes that a node kept, and what they and its book give for a place.
use Rattle.std.specs.List.{list_any}
use Rattle.std.specs.Prelude.{ℕ, ◌==◌, nat_le, ◌&&◌, List, [], ◌∷◌, ◌++◌, find, filter_map, if◌then◌else◌, Option, Some, None, option_map, option_and_then, Bool}
use Rattle.smart_base.specs.Lists.{or_else, same_bytes}
use Rattle.smart_base.specs.Views.{View, is_quorum, first_quorum}
use Rattle.smart_statements.specs.Equality.{same_slot, same_kind}
use Rattle.smart_statements.specs.Forms.{SignedBy}
use Rattle.smart_statements.specs.Batches.{Batch}
use Rattle.smart_statements.specs.declared.statement.Slot.{Slot}
use Rattle.smart_statements.specs.declared.statement.Ballot.{Ballot}
use Rattle.smart_statements.specs.declared.statement.VoteKind.{VoteKind}
use Rattle.smart_statements.specs.declared.statement.VoteKind.TheVariants as kinds
use Rattle.smart_messages.specs.Messages.{proposal_in, vote_in, some_of, kept_if}
use Rattle.smart_messages.specs.declared.message.Message.{Message}
use Rattle.smart_messages.specs.declared.message.Proposed.{Proposed}
use Rattle.vote_book.specs.declared.entry.Accept.{Accept}
use Rattle.vote_book.specs.declared.entry.Decision.{Decision}
use Rattle.vote_book.specs.declared.entry.LogEntry.{LogEntry}
use Rattle.vote_book.specs.BookReports.{accept_for}

-- ---- votes

-- a ballot that is a member's vote of a kind for a slot and a digest
abbrev pub casts : VoteKind → ℕ → Slot → List ℕ → SignedBy Ballot → Bool
casts kind member slot digest b =
    same_kind b.statement.kind kind && (b.signer == member) && same_slot b.statement.slot slot && same_bytes b.statement.digest digest

-- a message that is a member's vote of a kind for a slot and a digest
abbrev pub is_vote : VoteKind → ℕ → Slot → List ℕ → Message → Bool
is_vote kind member slot digest m = some_of (casts kind member slot digest) (vote_in m)

-- a member whose vote of a kind for a slot and a digest was kept
abbrev pub has_vote : List Message → VoteKind → Slot → List ℕ → ℕ → Bool
has_vote arrivals kind slot digest member = list_any (is_vote kind member slot digest) arrivals

-- a slot and a digest for which a quorum's votes of a kind were kept
abbrev pub has_quorum : List Message → View → VoteKind → Slot → List ℕ → Bool
has_quorum arrivals view kind slot digest = is_quorum view (has_vote arrivals kind slot digest)

-- the first members by number that make a quorum of kept votes
abbrev pub certificate : List Message → View → VoteKind → Slot → List ℕ → List ℕ
certificate arrivals view kind slot digest = first_quorum view (has_vote arrivals kind slot digest)

-- ---- certificates

-- the vote of a member, of a kind for a slot and a digest, that a message is, if it is one
abbrev pub vote_for : VoteKind → Slot → List ℕ → ℕ → Message → Option (SignedBy Ballot)
vote_for kind slot digest member m = kept_if (casts kind member slot digest) (vote_in m)

-- the first kept vote of a member, of a kind for a slot and a digest
abbrev pub first_vote : List Message → VoteKind → Slot → List ℕ → ℕ → Option (SignedBy Ballot)
first_vote [] kind slot digest member = None
first_vote (m ∷ ms) kind slot digest member = or_else (vote_for kind slot digest member m) (first_vote ms kind slot digest member)

-- a certificate: the kept votes of the first members by number that make a quorum
abbrev pub certificate_votes : List Message → View → VoteKind → Slot → List ℕ → List (SignedBy Ballot)
certificate_votes arrivals view kind slot digest = filter_map (first_vote arrivals kind slot digest) (certificate arrivals view kind slot digest)

-- ---- proposals

-- the proposal for a slot that a message is, if it is one
abbrev pub proposed_in : Slot → Message → Option Proposed
proposed_in slot m = kept_if (λ (p : Proposed). same_slot p.head.statement.slot slot) (proposal_in m)

-- the first kept proposal for a slot
abbrev pub proposed_for : List Message → Slot → Option Proposed
proposed_for [] slot = None
proposed_for (m ∷ ms) slot = or_else (proposed_in slot m) (proposed_for ms slot)

-- ---- batches that may be decided

-- a batch, and the digest that names it
pub record Named : Type 0 where
  pub digest : List ℕ
  pub batch : Batch

-- a proposal for a place of a view, in a given regency or a later one
abbrev pub is_named : ℕ → ℕ → ℕ → Proposed → Bool
is_named view place regency p =
    (p.head.statement.slot.view == view) && (p.head.statement.slot.place == place) && nat_le regency p.head.statement.slot.regency

-- the batch and digest of a proposal
abbrev pub name_of : Proposed → Named
name_of p = record { digest = p.head.statement.digest; batch = p.batch }

-- the batch and digest of a proposal for a place of a view, in a given regency or a later one; none for another proposal
abbrev pub named_for : ℕ → ℕ → ℕ → Proposed → Option Named
named_for view place regency p = if is_named view place regency p then Some (name_of p) else None

-- the batch and digest of a message that is a proposal for a place of a view, in a given regency or a later one
abbrev pub named_in : ℕ → ℕ → ℕ → Message → Option Named
named_in view place regency m = option_and_then (named_for view place regency) (proposal_in m)

-- the batch and digest of an accept entry for a place of a view, in any regency
abbrev pub named_by : ℕ → ℕ → LogEntry → Option Named
named_by view place e = option_map (λ (a : Accept). record { digest = a.digest; batch = a.batch }) (accept_for view place e)

-- the batches that the node has for a place of a view: proposed ones first, then those that it accepted
abbrev pub known : ℕ → ℕ → ℕ → List Message → List LogEntry → List Named
known view place regency arrivals entries = filter_map (named_in view place regency) arrivals ++ filter_map (named_by view place) entries

-- the decision in a slot for a batch that a quorum accepted, with the ACCEPTs that prove it
abbrev pub decision_by : View → Slot → List Message → Option Named → Option Decision
decision_by view slot arrivals None = None
decision_by view slot arrivals (Some x) =
    Some (record { slot = slot; batch = x.batch; accepts = certificate_votes arrivals view kinds.Accept slot x.digest })

-- the first batch of a list for which a quorum's ACCEPTs in a slot were kept
abbrev pub accepted_in : View → Slot → List Message → List Named → Option Named
accepted_in view slot arrivals batches = find (λ x. has_quorum arrivals view kinds.Accept slot x.digest) batches

-- the first batch that the book accepts for a place of a view under a digest
abbrev pub accepted_under : ℕ → ℕ → List ℕ → List LogEntry → Option Batch
accepted_under view place digest entries =
    option_map (λ (x : Named). x.batch) (find (λ (x : Named). same_bytes x.digest digest) (filter_map (named_by view place) entries))
