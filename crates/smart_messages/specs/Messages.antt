-- Messages: their bytes, which messages have bytes, how they are read, and what stands in them.
use Rattle.std.specs.Prelude.{ℕ, ◌≤◌, List, ◌++◌, length, nat_le, Bool, false, ◌&&◌, Option, Some, None, Result, Ok, ◌==◌, if◌then◌else◌, [], ◌∷◌, map}
use Rattle.std.specs.Int.{w8}
use Rattle.std.specs.List.{flat_map}
use Rattle.smart_base.specs.Cuts.{Cut, Read, ◌>>=◌, number_at, ranged, limited, whole}
use Rattle.smart_base.specs.Spelling.{u8}
use Rattle.smart_base.specs.declared.limits.TheConstants.{MESSAGE_BYTES}
use Rattle.smart_statements.specs.Forms.{SignedBy, Form, party_of}
use Rattle.smart_statements.specs.Batches.{Batch, batch_text, FitsBatch}
use Rattle.smart_statements.specs.Kinds.{proposals, ballots, answers, requests}
use Rattle.smart_statements.specs.Spelling.{signed, FitsSigned, FitsProposal, FitsBallot, FitsAnswer, FitsRequest}
use Rattle.smart_statements.specs.Reading.{signed_at, batch_at}
use Rattle.smart_statements.specs.SignedLists.{optional, FitsOptional, optional_at}
use Rattle.smart_statements.specs.Reports.{reports, FitsReport, marks, FitsMark}
use Rattle.smart_statements.specs.declared.statement.Request.{Request}
use Rattle.smart_statements.specs.declared.statement.Slot.{Slot}
use Rattle.smart_statements.specs.declared.statement.Ballot.{Ballot}
use Rattle.smart_statements.specs.declared.statement.Answer.{Answer}
use Rattle.smart_statements.specs.declared.statement.Proposal.{Proposal}
use Rattle.smart_statements.specs.declared.report.Mark.{Mark}
use Rattle.smart_statements.specs.declared.report.LockCertificate.{LockCertificate}
use Rattle.smart_statements.specs.declared.report.Evidence.{Evidence}
use Rattle.smart_statements.specs.declared.report.Report.{Report}
use Rattle.smart_statements.specs.declared.report.Evidence.TheVariants as evidence
use Rattle.transfer_form.specs.Transfers as transfers
use Rattle.transfer_form.specs.Transfers.{ask_text, FitsAsk, offer_text, FitsOffer, offer_at, part_text, FitsPart, part_at, proven_text, FitsProven, proven_at}
use Rattle.transfer_form.specs.declared.transfer.StateAsk.{StateAsk}
use Rattle.transfer_form.specs.declared.transfer.StateOffer.{StateOffer}
use Rattle.transfer_form.specs.declared.transfer.ProvenBatch.{ProvenBatch}
use Rattle.smart_messages.specs.Regencies.{stops, FitsStop, syncs, FitsSync, view_infos, FitsViewInfo}
use Rattle.smart_messages.specs.declared.regency.Stop.{Stop}
use Rattle.smart_messages.specs.declared.regency.Sync.{Sync}
use Rattle.smart_messages.specs.declared.message.Message.{Message}
use Rattle.smart_messages.specs.declared.message.Message.TheVariants.{Ask, Propose, Vote, Reply}
use Rattle.smart_messages.specs.declared.regency.ViewInfo.{ViewInfo}
use Rattle.smart_messages.specs.declared.message.Sealed.{Sealed}
use Rattle.smart_messages.specs.declared.message.Message.TheVariants as changes
use Rattle.smart_messages.specs.declared.message.Proposed as proposed
use Rattle.smart_messages.specs.declared.regency.Reported as reported

-- ---- the spelling

-- the first byte of a message
abbrev pub kind : Message → ℕ
kind (Ask a) = 1
kind (Propose p) = 2
kind (Vote v) = 3
kind (changes.Stop s) = 4
kind (changes.StopData r) = 5
kind (changes.Sync s) = 6
kind (changes.Decision d) = 7
kind (Reply r) = 8
kind (changes.Mark m) = 9
kind (changes.StateAsk a) = 10
kind (changes.StateOffer o) = 11
kind (changes.StatePart p) = 12
kind (changes.ViewTold i) = 13

-- the bytes of a message after the first one
abbrev pub content : Message → List ℕ
content (Ask a) = signed requests a
content (Propose p) = signed proposals p.head ++ batch_text p.batch
content (Vote v) = signed ballots v
content (changes.Stop s) = signed stops s
content (changes.StopData r) = signed reports r.head ++ optional batch_text r.batch
content (changes.Sync s) = signed syncs s
content (changes.Decision d) = proven_text d
content (Reply r) = signed answers r
content (changes.Mark m) = signed marks m
content (changes.StateAsk a) = ask_text a
content (changes.StateOffer o) = offer_text o
content (changes.StatePart p) = part_text p
content (changes.ViewTold i) = signed view_infos i

-- the bytes of a message: it has one spelling
unfoldable pub spelling : Message → List ℕ
spelling m = u8 (kind m) ++ content m

-- ---- which messages have one

abbrev pub FitsContent : Message → Type 0
FitsContent (Ask a) = FitsSigned requests FitsRequest a
FitsContent (Propose p) = FitsSigned proposals (λ signer. FitsProposal) p.head × FitsBatch p.batch
FitsContent (Vote v) = FitsSigned ballots (λ signer. FitsBallot) v
FitsContent (changes.Stop s) = FitsSigned stops (λ signer. FitsStop) s
FitsContent (changes.StopData r) = FitsSigned reports (λ signer. FitsReport) r.head × FitsOptional FitsBatch r.batch
FitsContent (changes.Sync s) = FitsSigned syncs (λ signer. FitsSync) s
FitsContent (changes.Decision d) = FitsProven d
FitsContent (Reply r) = FitsSigned answers (λ signer. FitsAnswer) r
FitsContent (changes.Mark m) = FitsSigned marks (λ signer. FitsMark) m
FitsContent (changes.StateAsk a) = FitsAsk a
FitsContent (changes.StateOffer o) = FitsOffer o
FitsContent (changes.StatePart p) = FitsPart p
FitsContent (changes.ViewTold i) = FitsSigned view_infos (λ signer. FitsViewInfo) i

-- a message that has bytes: each field is within its limits, and all are at most 1,048,576 bytes
pub record Fits (m : Message) : Type 0 where
  pub content_fits : FitsContent m
  pub bytes_fit : length (spelling m) ≤ MESSAGE_BYTES

-- ---- reading

unfoldable pub ask_at : Cut → Read Message
ask_at c = do
  a ← signed_at requests c
  Ok (Ask a.0, a.1)

unfoldable pub propose_at : Cut → Read Message
propose_at c = do
  p ← signed_at proposals c
  b ← batch_at requests p.1
  Ok (Propose (record { head = p.0; batch = b.0 }), b.1)

unfoldable pub vote_at : Cut → Read Message
vote_at c = do
  v ← signed_at ballots c
  Ok (Vote v.0, v.1)

unfoldable pub stop_message_at : Cut → Read Message
stop_message_at c = do
  s ← signed_at stops c
  Ok (changes.Stop s.0, s.1)

unfoldable pub stop_data_at : Cut → Read Message
stop_data_at c = do
  r ← signed_at reports c
  b ← optional_at (batch_at requests) r.1
  Ok (changes.StopData (record { head = r.0; batch = b.0 }), b.1)

unfoldable pub sync_message_at : Cut → Read Message
sync_message_at c = do
  s ← signed_at syncs c
  Ok (changes.Sync s.0, s.1)

unfoldable pub decision_at : Cut → Read Message
decision_at c = do
  d ← proven_at c
  Ok (changes.Decision d.0, d.1)

unfoldable pub reply_at : Cut → Read Message
reply_at c = do
  r ← signed_at answers c
  Ok (Reply r.0, r.1)

unfoldable pub mark_message_at : Cut → Read Message
mark_message_at c = do
  m ← signed_at marks c
  Ok (changes.Mark m.0, m.1)

unfoldable pub state_ask_at : Cut → Read Message
state_ask_at c = do
  a ← transfers.ask_at c
  Ok (changes.StateAsk a.0, a.1)

unfoldable pub state_offer_at : Cut → Read Message
state_offer_at c = do
  o ← offer_at c
  Ok (changes.StateOffer o.0, o.1)

unfoldable pub state_part_at : Cut → Read Message
state_part_at c = do
  p ← part_at c
  Ok (changes.StatePart p.0, p.1)

unfoldable pub view_told_at : Cut → Read Message
view_told_at c = do
  i ← signed_at view_infos c
  Ok (changes.ViewTold i.0, i.1)

unfoldable pub body_at : ℕ → Cut → Read Message
body_at kind c =
    if kind == 1 then ask_at c
    else if kind == 2 then propose_at c
    else if kind == 3 then vote_at c
    else if kind == 4 then stop_message_at c
    else if kind == 5 then stop_data_at c
    else if kind == 6 then sync_message_at c
    else if kind == 7 then decision_at c
    else if kind == 8 then reply_at c
    else if kind == 9 then mark_message_at c
    else if kind == 10 then state_ask_at c
    else if kind == 11 then state_offer_at c
    else if kind == 12 then state_part_at c
    else view_told_at c

-- a byte with which a message begins
abbrev pub is_kind : ℕ → Bool
is_kind k = nat_le 1 k && nat_le k 13

abbrev pub message_kind_at : Cut → Read ℕ
message_kind_at = ranged is_kind (number_at w8)

unfoldable pub message_at : Cut → Read Message
message_at c = do
  k ← message_kind_at c
  body_at k.0 k.1

-- the message that bytes are, or the lowest offset of a field that is none, or of a byte left over
unfoldable pub decoded : List ℕ → Result Message ℕ
decoded bytes = whole (limited MESSAGE_BYTES message_at) (record { at = 0; left = bytes })

-- ---- a message as one of a kind

-- the request that a message is, if it is one. Each kind is named here and in what follows, since promises and premises rest on these.
abbrev pub request_in : Message → Option (SignedBy Request)
request_in (Ask q) = Some q
request_in (Propose p) = None
request_in (Vote b) = None
request_in (changes.Stop s) = None
request_in (changes.StopData r) = None
request_in (changes.Sync s) = None
request_in (changes.Decision d) = None
request_in (Reply a) = None
request_in (changes.Mark m) = None
request_in (changes.StateAsk a) = None
request_in (changes.StateOffer o) = None
request_in (changes.StatePart p) = None
request_in (changes.ViewTold i) = None

-- the PROPOSE that a message is, if it is one
abbrev pub proposal_in : Message → Option proposed.Proposed
proposal_in (Ask q) = None
proposal_in (Propose p) = Some p
proposal_in (Vote b) = None
proposal_in (changes.Stop s) = None
proposal_in (changes.StopData r) = None
proposal_in (changes.Sync s) = None
proposal_in (changes.Decision d) = None
proposal_in (Reply a) = None
proposal_in (changes.Mark m) = None
proposal_in (changes.StateAsk a) = None
proposal_in (changes.StateOffer o) = None
proposal_in (changes.StatePart p) = None
proposal_in (changes.ViewTold i) = None

-- the vote that a message is, if it is one
abbrev pub vote_in : Message → Option (SignedBy Ballot)
vote_in (Ask q) = None
vote_in (Propose p) = None
vote_in (Vote b) = Some b
vote_in (changes.Stop s) = None
vote_in (changes.StopData r) = None
vote_in (changes.Sync s) = None
vote_in (changes.Decision d) = None
vote_in (Reply a) = None
vote_in (changes.Mark m) = None
vote_in (changes.StateAsk a) = None
vote_in (changes.StateOffer o) = None
vote_in (changes.StatePart p) = None
vote_in (changes.ViewTold i) = None

-- the STOP that a message is, if it is one
abbrev pub stop_in : Message → Option (SignedBy Stop)
stop_in (Ask q) = None
stop_in (Propose p) = None
stop_in (Vote b) = None
stop_in (changes.Stop s) = Some s
stop_in (changes.StopData r) = None
stop_in (changes.Sync s) = None
stop_in (changes.Decision d) = None
stop_in (Reply a) = None
stop_in (changes.Mark m) = None
stop_in (changes.StateAsk a) = None
stop_in (changes.StateOffer o) = None
stop_in (changes.StatePart p) = None
stop_in (changes.ViewTold i) = None

-- the STOPDATA that a message is, if it is one
abbrev pub report_in : Message → Option reported.Reported
report_in (Ask q) = None
report_in (Propose p) = None
report_in (Vote b) = None
report_in (changes.Stop s) = None
report_in (changes.StopData r) = Some r
report_in (changes.Sync s) = None
report_in (changes.Decision d) = None
report_in (Reply a) = None
report_in (changes.Mark m) = None
report_in (changes.StateAsk a) = None
report_in (changes.StateOffer o) = None
report_in (changes.StatePart p) = None
report_in (changes.ViewTold i) = None

-- the SYNC that a message is, if it is one
abbrev pub sync_in : Message → Option (SignedBy Sync)
sync_in (Ask q) = None
sync_in (Propose p) = None
sync_in (Vote b) = None
sync_in (changes.Stop s) = None
sync_in (changes.StopData r) = None
sync_in (changes.Sync s) = Some s
sync_in (changes.Decision d) = None
sync_in (Reply a) = None
sync_in (changes.Mark m) = None
sync_in (changes.StateAsk a) = None
sync_in (changes.StateOffer o) = None
sync_in (changes.StatePart p) = None
sync_in (changes.ViewTold i) = None

-- the reply that a message is, if it is one
abbrev pub reply_in : Message → Option (SignedBy Answer)
reply_in (Ask q) = None
reply_in (Propose p) = None
reply_in (Vote b) = None
reply_in (changes.Stop s) = None
reply_in (changes.StopData r) = None
reply_in (changes.Sync s) = None
reply_in (changes.Decision d) = None
reply_in (Reply a) = Some a
reply_in (changes.Mark m) = None
reply_in (changes.StateAsk a) = None
reply_in (changes.StateOffer o) = None
reply_in (changes.StatePart p) = None
reply_in (changes.ViewTold i) = None

-- the slot of a PROPOSE or of a vote
abbrev pub slot_of : Message → Option Slot
slot_of (Ask q) = None
slot_of (Propose p) = Some p.head.statement.slot
slot_of (Vote b) = Some b.statement.slot
slot_of (changes.Stop s) = None
slot_of (changes.StopData r) = None
slot_of (changes.Sync s) = None
slot_of (changes.Decision d) = None
slot_of (Reply a) = None
slot_of (changes.Mark m) = None
slot_of (changes.StateAsk a) = None
slot_of (changes.StateOffer o) = None
slot_of (changes.StatePart p) = None
slot_of (changes.ViewTold i) = None

-- the mark that a message is, if it is one
abbrev pub mark_in : Message → Option (SignedBy Mark)
mark_in (Ask q) = None
mark_in (Propose p) = None
mark_in (Vote b) = None
mark_in (changes.Stop s) = None
mark_in (changes.StopData r) = None
mark_in (changes.Sync s) = None
mark_in (changes.Decision d) = None
mark_in (Reply a) = None
mark_in (changes.Mark m) = Some m
mark_in (changes.StateAsk a) = None
mark_in (changes.StateOffer o) = None
mark_in (changes.StatePart p) = None
mark_in (changes.ViewTold i) = None

-- the decided batch that a message shows, if it does
abbrev pub decision_in : Message → Option ProvenBatch
decision_in (Ask q) = None
decision_in (Propose p) = None
decision_in (Vote b) = None
decision_in (changes.Stop s) = None
decision_in (changes.StopData r) = None
decision_in (changes.Sync s) = None
decision_in (changes.Decision d) = Some d
decision_in (Reply a) = None
decision_in (changes.Mark m) = None
decision_in (changes.StateAsk a) = None
decision_in (changes.StateOffer o) = None
decision_in (changes.StatePart p) = None
decision_in (changes.ViewTold i) = None

-- the ask for others' state that a message is, if it is one
abbrev pub state_ask_in : Message → Option StateAsk
state_ask_in (Ask q) = None
state_ask_in (Propose p) = None
state_ask_in (Vote b) = None
state_ask_in (changes.Stop s) = None
state_ask_in (changes.StopData r) = None
state_ask_in (changes.Sync s) = None
state_ask_in (changes.Decision d) = None
state_ask_in (Reply a) = None
state_ask_in (changes.Mark m) = None
state_ask_in (changes.StateAsk a) = Some a
state_ask_in (changes.StateOffer o) = None
state_ask_in (changes.StatePart p) = None
state_ask_in (changes.ViewTold i) = None

-- the offer that a message is, if it is one
abbrev pub offer_in : Message → Option StateOffer
offer_in (Ask q) = None
offer_in (Propose p) = None
offer_in (Vote b) = None
offer_in (changes.Stop s) = None
offer_in (changes.StopData r) = None
offer_in (changes.Sync s) = None
offer_in (changes.Decision d) = None
offer_in (Reply a) = None
offer_in (changes.Mark m) = None
offer_in (changes.StateAsk a) = None
offer_in (changes.StateOffer o) = Some o
offer_in (changes.StatePart p) = None
offer_in (changes.ViewTold i) = None

-- the statement of a view that a message is, if it is one
abbrev pub view_told_in : Message → Option (SignedBy ViewInfo)
view_told_in (Ask q) = None
view_told_in (Propose p) = None
view_told_in (Vote b) = None
view_told_in (changes.Stop s) = None
view_told_in (changes.StopData r) = None
view_told_in (changes.Sync s) = None
view_told_in (changes.Decision d) = None
view_told_in (Reply a) = None
view_told_in (changes.Mark m) = None
view_told_in (changes.StateAsk a) = None
view_told_in (changes.StateOffer o) = None
view_told_in (changes.StatePart p) = None
view_told_in (changes.ViewTold i) = Some i

-- the batch of a PROPOSE or of a DECISION, or of the lock in a STOPDATA
abbrev pub batch_in : Message → Option Batch
batch_in (Ask q) = None
batch_in (Propose p) = Some p.batch
batch_in (Vote b) = None
batch_in (changes.Stop s) = None
batch_in (changes.StopData r) = r.batch
batch_in (changes.Sync s) = None
batch_in (changes.Decision d) = Some d.batch
batch_in (Reply a) = None
batch_in (changes.Mark m) = None
batch_in (changes.StateAsk a) = None
batch_in (changes.StateOffer o) = None
batch_in (changes.StatePart p) = None
batch_in (changes.ViewTold i) = None

-- a value that is there and passes a test
abbrev pub some_of : {A : Type 0} → (A → Bool) → Option A → Bool
some_of wanted None = false
some_of wanted (Some x) = wanted x

-- the value, if it is there and passes a test
abbrev pub kept_if : {A : Type 0} → (A → Bool) → Option A → Option A
kept_if wanted None = None
kept_if wanted (Some x) = if wanted x then Some x else None

-- ---- the statements of members and clients

-- a statement of any kind, with its signer and its tag
pub data Statement : Type 0 where
  Asked : SignedBy Request → Statement
  Proposed : SignedBy Proposal → Statement
  Voted : SignedBy Ballot → Statement
  Stopped : SignedBy Stop → Statement
  Reported : SignedBy Report → Statement
  Synced : SignedBy Sync → Statement
  Marked : SignedBy Mark → Statement
  Replied : SignedBy Answer → Statement
  Informed : SignedBy ViewInfo → Statement

-- the signer of a statement, its bytes, and the tag over them
abbrev pub sealed : {A : Type 0} → Form A → SignedBy A → Sealed
sealed form s = record { who = party_of form.kind s.signer; text = form.spell s.statement; tag = s.tag }

abbrev pub sealed_of : Statement → Sealed
sealed_of (Asked q) = sealed requests q
sealed_of (Proposed p) = sealed proposals p
sealed_of (Voted b) = sealed ballots b
sealed_of (Stopped s) = sealed stops s
sealed_of (Reported r) = sealed reports r
sealed_of (Synced s) = sealed syncs s
sealed_of (Marked m) = sealed marks m
sealed_of (Replied a) = sealed answers a
sealed_of (Informed i) = sealed view_infos i

-- ---- what stands in statements and in messages, whatever the tags

-- the votes or marks in evidence
abbrev pub parts_of_evidence : Evidence → List Statement
parts_of_evidence evidence.Nothing = []
parts_of_evidence (evidence.Decided p) = map Voted p.accepts
parts_of_evidence (evidence.Marked m) = map Marked m.marks

-- the votes in a lock
abbrev pub parts_of_lock : Option LockCertificate → List Statement
parts_of_lock None = []
parts_of_lock (Some l) = map Voted l.writes

-- a report, with the votes and marks in its evidence and its lock
abbrev pub in_report : SignedBy Report → List Statement
in_report r = Reported r ∷ (parts_of_evidence r.statement.evidence ++ parts_of_lock r.statement.lock)

-- a statement, and all that stand in it, at any depth
abbrev pub within : Statement → List Statement
within (Asked q) = Asked q ∷ []
within (Proposed p) = Proposed p ∷ []
within (Voted b) = Voted b ∷ []
within (Stopped s) = Stopped s ∷ []
within (Reported r) = in_report r
within (Synced s) = Synced s ∷ flat_map in_report s.statement.collect
within (Marked m) = Marked m ∷ []
within (Replied a) = Replied a ∷ []
within (Informed i) = Informed i ∷ []

abbrev pub requests_of : Option Batch → List Statement
requests_of None = []
requests_of (Some batch) = map Asked batch

-- The statements that the sender of a message makes with it: the one that it is signed as, or the marks of an offer. A DECISION shows what
-- others have stated.
abbrev pub own : Message → List Statement
own (Ask q) = Asked q ∷ []
own (Propose p) = Proposed p.head ∷ []
own (Vote b) = Voted b ∷ []
own (changes.Stop s) = Stopped s ∷ []
own (changes.StopData r) = Reported r.head ∷ []
own (changes.Sync s) = Synced s ∷ []
own (changes.Decision d) = []
own (Reply a) = Replied a ∷ []
own (changes.Mark m) = Marked m ∷ []
own (changes.StateAsk a) = []
own (changes.StateOffer o) = map Marked o.marks
own (changes.StatePart p) = []
own (changes.ViewTold i) = Informed i ∷ []

-- the votes that a message shows: those of a DECISION
abbrev pub proof_in : Option ProvenBatch → List Statement
proof_in None = []
proof_in (Some d) = map Voted d.accepts

-- the statements that a message has: its sender's own, the votes that it shows, and the requests of its batch
abbrev pub said : Message → List Statement
said m = own m ++ (proof_in (decision_in m) ++ requests_of (batch_in m))

-- all statements that stand in a message, at any depth
abbrev pub statements_in : Message → List Statement
statements_in m = flat_map within (said m)

-- the reply that a statement is, if it is one
abbrev pub reply_stated : Statement → Option (SignedBy Answer)
reply_stated (Asked q) = None
reply_stated (Proposed p) = None
reply_stated (Voted b) = None
reply_stated (Stopped s) = None
reply_stated (Reported r) = None
reply_stated (Synced s) = None
reply_stated (Marked m) = None
reply_stated (Replied a) = Some a
reply_stated (Informed i) = None
