-- The premises of a play. They are checked when members are declared faulty, when messages get their numbers, and when snapshots are marked.
use Rattle.std.specs.Prelude.{ℕ, ◌==◌, nat_lt, Bool, false, not, ◌&&◌, List, [], ◌∷◌, ◌++◌, length, filter, map, if◌then◌else◌, option_to_list}
use Rattle.std.specs.List.{flat_map, list_any}
use Rattle.smart_base.specs.Lists.{same_bytes}
use Rattle.smart_base.specs.Views.{View}
use Rattle.smart_base.specs.declared.party.Party.{Party}
use Rattle.smart_base.specs.declared.party.Party.TheVariants as parties
use Rattle.smart_statements.specs.Kinds.{requests, proposals, ballots, answers}
use Rattle.smart_statements.specs.Reports.{marks, reports}
use Rattle.smart_messages.specs.Regencies.{stops, syncs, view_infos}
use Rattle.smart_messages.specs.Messages.{spelling, batch_in}
use Rattle.smart_statements.specs.Batches.{Batch, batch_text}
use Rattle.smart_messages.specs.declared.message.Message.TheVariants.{Ask, Propose, Vote, Reply}
use Rattle.smart_messages.specs.declared.message.Message.TheVariants as changes
use Rattle.smart_messages.specs.declared.message.Message.{Message}
use Rattle.smart_keys.specs.Keys.{digest}
use Rattle.agreement_laws.specs.Statements.{Statement, Asked, Proposed, Voted, Stopped, Reported, Synced, Marked, Replied, Informed, sealed_of, signer_of, statements}
use Rattle.world_rules.specs.Secrets.{group_secret}
use Rattle.world_rules.specs.declared.message.Content.{Content}
use Rattle.world_rules.specs.declared.message.Content.TheVariants as contents
use Rattle.world_rules.specs.declared.message.Origin.{Origin}
use Rattle.world_rules.specs.declared.message.Origin.TheVariants as origins
use Rattle.world_rules.specs.declared.message.Sent.{Sent}

-- the first premise: few members are faulty

abbrev pub is_among : List ℕ → ℕ → Bool
is_among ids id = list_any (λ x. x == id) ids

-- faulty members that are more than the f of a view
abbrev pub too_many : View → List ℕ → Bool
too_many view faulty = nat_lt view.f (length (filter (is_among faulty) view.members))

-- faulty members that are too many of one of some views
abbrev pub too_many_in : List View → List ℕ → Bool
too_many_in views faulty = list_any (λ v. too_many v faulty) views

-- the second premise: nothing is forged

-- a statement as its signer and its bytes
pub record Claim : Type 0 where
  pub signer : Party
  pub bytes : List ℕ

abbrev pub bytes_stated : Statement → List ℕ
bytes_stated s = (sealed_of s).text

abbrev pub claim_of : Statement → Claim
claim_of s = record { signer = signer_of s; bytes = bytes_stated s }

-- the statements of a message, at any depth, whose tags verify
abbrev pub claims_in : Message → List Claim
claims_in m = map claim_of (statements group_secret m)

abbrev pub claims : Content → List Claim
claims (contents.Message m) = claims_in m
claims (contents.Raw bytes) = []

abbrev pub same_party : Party → Party → Bool
same_party (parties.Member a) (parties.Member b) = a == b
same_party (parties.Member a) (parties.Client b) = false
same_party (parties.Client a) (parties.Member b) = false
same_party (parties.Client a) (parties.Client b) = a == b

abbrev pub same_claim : Claim → Claim → Bool
same_claim a b = same_party a.signer b.signer && same_bytes a.bytes b.bytes

abbrev pub is_from : Party → Origin → Bool
is_from party (origins.Node id) = same_party party (parties.Member id)
is_from party (origins.Client id) = same_party party (parties.Client id)
is_from party origins.Script = false

-- a statement in a message that its signer has sent
abbrev pub is_stated : List Sent → Claim → Bool
is_stated sent c = list_any (λ s. is_from c.signer s.origin && list_any (same_claim c) (claims s.content)) sent

-- a signer that is declared faulty or rogue
abbrev pub is_excused : List ℕ → List ℕ → Party → Bool
is_excused faulty rogue (parties.Member id) = is_among faulty id
is_excused faulty rogue (parties.Client id) = is_among rogue id

-- a statement that its signer has not sent, and for which the signer is not excused
abbrev pub is_forgery : List ℕ → List ℕ → List Sent → Claim → Bool
is_forgery faulty rogue sent c = not (is_excused faulty rogue c.signer) && not (is_stated sent c)

-- a content with a forged statement
unfoldable pub is_forged : List ℕ → List ℕ → List Sent → Content → Bool
is_forged faulty rogue sent content = list_any (is_forgery faulty rogue sent) (claims content)

-- The third premise: no two different texts that were met have one digest. Messages bring the texts of batches. Nodes mark snapshots, and join
-- others of parts.

-- the batches in a message
abbrev pub batches_in : Message → List Batch
batches_in m = option_to_list (batch_in m)

abbrev pub batches : Content → List Batch
batches (contents.Message m) = batches_in m
batches (contents.Raw bytes) = []

-- the texts that a content brings: those of its batches
abbrev pub texts_in : Content → List (List ℕ)
texts_in content = map batch_text (batches content)

-- the batches in all messages that were sent
abbrev pub batches_met : List Sent → List Batch
batches_met sent = flat_map (λ s. batches s.content) sent

-- the texts that were met in all messages that were sent
abbrev pub met : List Sent → List (List ℕ)
met sent = map batch_text (batches_met sent)

-- two different texts with one digest
abbrev pub clash : List ℕ → List ℕ → Bool
clash a b = same_bytes (digest a) (digest b) && not (same_bytes a b)

-- texts of which one clashes with one that was met before them
unfoldable pub collides : List (List ℕ) → List (List ℕ) → Bool
collides before texts = list_any (λ text. list_any (clash text) before) texts

-- the texts that were met: those in all messages that were sent, and the snapshots that were met as nodes marked them
abbrev pub texts_met : List Sent → List (List ℕ) → List (List ℕ)
texts_met sent marked = met sent ++ marked

-- a text that is new: none that was met before it has its digest
unfoldable pub newly_met : List (List ℕ) → List ℕ → Bool
newly_met before text = not (list_any (λ other. same_bytes (digest text) (digest other)) before)

-- The snapshots that were met, with one more if it is new. An equal one is not met again. One that clashes is not met.
abbrev pub marked_with : List Sent → List (List ℕ) → List ℕ → List (List ℕ)
marked_with sent marked snapshot = if newly_met (texts_met sent marked) snapshot then marked ++ snapshot ∷ [] else marked

-- the snapshots that were met, with those of several more that are new, in order
abbrev pub all_marked : List Sent → List (List ℕ) → List (List ℕ) → List (List ℕ)
all_marked sent marked [] = marked
all_marked sent marked (s ∷ ss) = all_marked sent (marked_with sent marked s) ss

-- the bytes that arrive when a content is given
abbrev pub bytes_of : Content → List ℕ
bytes_of (contents.Message m) = spelling m
bytes_of (contents.Raw bytes) = bytes
