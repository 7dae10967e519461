-- What a member's diary shows of what the member has stated.
use Rattle.std.specs.Prelude.{◌≡◌, ℕ, ◌+◌, ◌≤◌, List, ◌∷◌, ◌++◌}
use Rattle.smart_statements.specs.Batches.{Batch}
use Rattle.smart_statements.specs.declared.statement.Slot.{Slot}
use Rattle.smart_statements.specs.declared.statement.VoteKind.{VoteKind}
use Rattle.smart_statements.specs.declared.statement.VoteKind.TheVariants.{Write, Accept}
use Rattle.smart_statements.specs.declared.report.Report.{Report}
use Rattle.vote_book.specs.declared.entry.Accept as accept
use Rattle.vote_book.specs.declared.entry.LogEntry.{LogEntry}
use Rattle.vote_book.specs.declared.entry.LogEntry.TheVariants as entries
use Rattle.vote_book.specs.Books.{last_made, Among}
use Rattle.vote_book.specs.BookReports.{Reports}
use Rattle.smart_messages.specs.Messages.{Statement, Asked, Proposed, Voted, Stopped, Reported, Synced, Marked, Replied, Informed}

-- a diary in which the member has accepted a digest in a slot
pub record HasAccepted (diary : List LogEntry) (slot : Slot) (digest : List ℕ) : Type 0 where
  pub entry : accept.Accept
  pub there : Among (entries.Accepted entry) diary
  pub slot_is : entry.slot ≡ slot
  pub digest_is : entry.digest ≡ digest

-- a diary in which the member has voted: a WRITE and an ACCEPT each have their own entry
abbrev pub HasVoted : List LogEntry → VoteKind → Slot → List ℕ → Type 0
HasVoted diary Write slot digest = Among (entries.Wrote (record { slot = slot; digest = digest })) diary
HasVoted diary Accept slot digest = HasAccepted diary slot digest

-- a diary in which the member has promised the report's regency, and the report says what stands before that promise
pub record HasReported (digest_of : Batch → List ℕ) (diary : List LogEntry) (report : Report) : Type 0 where
  pub before : List LogEntry
  pub after : List LogEntry
  pub split : diary ≡ before ++ entries.Promised (record { view = report.view; regency = report.regency }) ∷ after
  pub reports : Reports digest_of report before

-- a diary in which a place or a later one is made: decided, or taken over by an installation
abbrev pub HasReached : List LogEntry → ℕ → Type 0
HasReached diary place = place ≤ last_made diary

-- A diary that shows a statement of its member. It shows a vote and a mark by an entry, and a report by a promise and what stands before
-- it. It shows a reply by having reached its place, and a view by having reached the place before the view's first. A request, a PROPOSE, a
-- STOP and a SYNC need no entry.
abbrev pub IsShown : (Batch → List ℕ) → List LogEntry → Statement → Type 0
IsShown digest_of diary (Asked q) = Unit {0}
IsShown digest_of diary (Proposed p) = Unit {0}
IsShown digest_of diary (Voted b) = HasVoted diary b.statement.kind b.statement.slot b.statement.digest
IsShown digest_of diary (Stopped s) = Unit {0}
IsShown digest_of diary (Reported r) = HasReported digest_of diary r.statement
IsShown digest_of diary (Synced s) = Unit {0}
IsShown digest_of diary (Marked m) = Among (entries.Marked m.statement) diary
IsShown digest_of diary (Replied a) = HasReached diary a.statement.place
IsShown digest_of diary (Informed i) = i.statement.view.start ≤ last_made diary + 1
