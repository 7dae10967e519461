-- What members and clients have stated.
use Rattle.std.specs.Prelude.{◌≡◌, ℕ, Bool, true, List, filter}
use Rattle.smart_base.specs.declared.party.Party.{Party}
use Rattle.smart_messages.specs.declared.message.Message.{Message}
use Rattle.smart_keys.specs.Keys.{is_tag}
use Rattle.vote_book.specs.Books.{Among}
-- the kinds of statements, and the statements in a message, are defined in smart_messages
pub use Rattle.smart_messages.specs.Messages.{Statement, Asked, Proposed, Voted, Stopped, Reported, Synced, Marked, Replied, Informed, sealed, sealed_of, parts_of_evidence, parts_of_lock, in_report, within, requests_of, own, proof_in, said, statements_in, reply_stated}

abbrev pub signer_of : Statement → Party
signer_of s = (sealed_of s).who

-- a statement whose tag is the one that its signer makes; with another tag its signer has not stated it
abbrev pub verifies : List ℕ → Statement → Bool
verifies secret s = is_tag secret (sealed_of s).who (sealed_of s).text (sealed_of s).tag

-- ---- what has been stated

-- the statements of a message: all that stand in it, at any depth, and verify
abbrev pub statements : List ℕ → Message → List Statement
statements secret m = filter (verifies secret) (statements_in m)

-- statements that include, with each one, all that stand in it and verify
abbrev pub IsClosed : List ℕ → List Statement → Type 0
IsClosed secret stated = (statement part : Statement) → Among statement stated → Among part (within statement) → verifies secret part ≡ true → Among part stated
