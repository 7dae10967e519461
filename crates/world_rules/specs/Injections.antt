-- Injections: messages of a script, which their signers need not have sent.
use Rattle.std.specs.Prelude.{ℕ, ◌-◌, ◌^◌, ◌==◌, nat_lt, nat_le, Bool, ◌&&◌, List, [], ◌∷◌, length, filter, if◌then◌else◌, Option, Some, None, Result, Ok, Err, slice_get}
use Rattle.std.specs.List.{list_all}
use Rattle.std.specs.Option.{option_and_then, option_map}
use Rattle.smart_base.specs.declared.limits.TheConstants.{BATCH_BYTES, BATCH_REQUESTS, MARKS, MESSAGE_BYTES, PIECE_BYTES}
use Rattle.smart_statements.specs.Forms.{SignedBy}
use Rattle.smart_statements.specs.Kinds.{requests, proposals, ballots, answers}
use Rattle.smart_statements.specs.Batches.{Batch, batch_text}
use Rattle.smart_statements.specs.Reports.{reports, marks}
use Rattle.smart_messages.specs.Regencies.{stops, syncs, view_infos}
use Rattle.smart_messages.specs.Messages.{spelling, decoded, request_in, proposal_in, report_in, mark_in, decision_in}
use Rattle.smart_statements.specs.declared.report.Evidence.{Evidence}
use Rattle.smart_statements.specs.declared.report.Evidence.TheVariants as evidence
use Rattle.smart_statements.specs.declared.report.Mark.{Mark}
use Rattle.smart_statements.specs.declared.statement.Ballot.{Ballot}
use Rattle.transfer_form.specs.declared.transfer.ProvenBatch.{ProvenBatch}
use Rattle.smart_statements.specs.declared.report.LockCertificate.{LockCertificate}
use Rattle.smart_statements.specs.declared.report.Report.{Report}
use Rattle.smart_messages.specs.declared.regency.Reported.{Reported}
use Rattle.smart_messages.specs.declared.message.Message.TheVariants as changes
use Rattle.smart_messages.specs.declared.message.Message.{Message}
use Rattle.smart_messages.specs.declared.message.Proposed.{Proposed}
use Rattle.smart_statements.specs.declared.statement.Request.{Request}
use Rattle.smart_statements.specs.declared.statement.Slot.{Slot}
use Rattle.smart_statements.specs.declared.statement.VoteKind.{VoteKind}
use Rattle.smart_messages.specs.declared.message.Message.TheVariants.{Ask, Propose, Vote, Reply}
use Rattle.replica_rules.specs.Seals.{signed, digest_of}
use Rattle.world_rules.specs.Secrets.{group_secret}
use Rattle.world_rules.specs.declared.message.Content.{Content}
use Rattle.world_rules.specs.declared.message.Content.TheVariants as contents
use Rattle.world_rules.specs.declared.message.Sent.{Sent}
use Rattle.world_rules.specs.declared.line.Injection.{Injection}
use Rattle.world_rules.specs.declared.line.Injection.TheVariants as forms

-- the content of a message's number, from 1
abbrev pub content_at : List Sent → ℕ → Option Content
content_at sent number = option_and_then (λ (s : Sent). Some s.content) (if nat_le 1 number then slice_get sent (number - 1) else None)

-- the message that a content is, if it is one
abbrev pub message_in : Content → Option Message
message_in (contents.Message m) = Some m
message_in (contents.Raw bytes) = None

-- the request that a content is, if it is one
abbrev pub request_of : Content → Option (SignedBy Request)
request_of content = option_and_then request_in (message_in content)

-- the batch that a content proposes, if it is a PROPOSE
abbrev pub batch_proposed : Content → Option Batch
batch_proposed content = option_map (λ (p : Proposed). p.batch) (option_and_then proposal_in (message_in content))

-- the report that a content is, if it is one
abbrev pub report_of : Content → Option Reported
report_of content = option_and_then report_in (message_in content)

-- the mark that a content is, if it is one
abbrev pub mark_of : Content → Option (SignedBy Mark)
mark_of content = option_and_then mark_in (message_in content)

-- the decided batch that a content shows, if it is a DECISION
abbrev pub decision_of : Content → Option ProvenBatch
decision_of content = option_and_then decision_in (message_in content)

abbrev pub request_at : List Sent → ℕ → Option (SignedBy Request)
request_at sent number = option_and_then request_of (content_at sent number)

-- the requests of messages, by their numbers
abbrev pub requests_at : List Sent → List ℕ → Option Batch
requests_at sent [] = Some []
requests_at sent (n ∷ ns) = option_and_then (λ q. option_and_then (λ qs. Some (q ∷ qs)) (requests_at sent ns)) (request_at sent n)

-- the reports of messages, by their numbers
abbrev pub reports_at : List Sent → List ℕ → Option (List (SignedBy Report))
reports_at sent [] = Some []
reports_at sent (n ∷ ns) =
    option_and_then (λ (r : Reported). option_and_then (λ rs. Some (r.head ∷ rs)) (reports_at sent ns)) (option_and_then report_of (content_at sent n))

-- the marks of messages, by their numbers
abbrev pub marks_at : List Sent → List ℕ → Option (List (SignedBy Mark))
marks_at sent [] = Some []
marks_at sent (n ∷ ns) = option_and_then (λ m. option_and_then (λ ms. Some (m ∷ ms)) (marks_at sent ns)) (option_and_then mark_of (content_at sent n))

-- the bytes of a message, if they are at most 1,048,576
abbrev pub short_bytes : List ℕ → Option (List ℕ)
short_bytes bytes = if nat_le (length bytes) MESSAGE_BYTES then Some bytes else None

-- what a report takes over of another one: the lock, with its batch
pub record Locked : Type 0 where
  pub lock : Option LockCertificate
  pub batch : Option Batch

abbrev pub locked_in : Reported → Locked
locked_in r = record { lock = r.head.statement.lock; batch = r.batch }

-- what the report of a message has; nothing if no message is named
abbrev pub locked_at : List Sent → Option ℕ → Option Locked
locked_at sent None = Some (record { lock = None; batch = None })
locked_at sent (Some number) = option_and_then (λ r. Some (locked_in r)) (option_and_then report_of (content_at sent number))

-- what a report states of its last place, with evidence
pub record Evident : Type 0 where
  pub last : ℕ
  pub evidence : Evidence

-- the view of the first of some votes; a given one if there is none
abbrev pub view_of_first : ℕ → List (SignedBy Ballot) → ℕ
view_of_first view [] = view
view_of_first view (b ∷ bs) = b.statement.slot.view

-- the ACCEPTs of regency 0
abbrev pub early_accepts : ProvenBatch → List (SignedBy Ballot)
early_accepts d = filter (λ (b : SignedBy Ballot). b.statement.slot.regency == 0) d.accepts

-- the place of a decision, and its ACCEPTs of regency 0 as evidence
abbrev pub evident_by : ℕ → ProvenBatch → Evident
evident_by view d = record {
  last = d.place;
  evidence = evidence.Decided (record { view = view_of_first view (early_accepts d); regency = 0; digest = digest_of d.batch; accepts = early_accepts d });
}

-- what a message's decision shows; place 0 if no message is named
abbrev pub evident_at : List Sent → ℕ → Option ℕ → Option Evident
evident_at sent view None = Some (record { last = 0; evidence = evidence.Nothing })
evident_at sent view (Some number) = option_map (evident_by view) (option_and_then decision_of (content_at sent number))

abbrev pub report_bytes : ℕ → ℕ → ℕ → Evident → Locked → Option (List ℕ)
report_bytes signer view regency e l =
    short_bytes (spelling (changes.StopData (record {
      head = signed reports group_secret signer (record { view = view; regency = regency; last = e.last; evidence = e.evidence; lock = l.lock });
      batch = l.batch;
    })))

-- the same, if both messages that it names are there
abbrev pub report_by : ℕ → ℕ → ℕ → Option Evident → Option Locked → Option (List ℕ)
report_by signer view regency e l = option_and_then (λ x. option_and_then (report_bytes signer view regency x) l) e

-- the bytes of an offer with marks
abbrev pub offer_bytes : ℕ → ℕ → ℕ → List (SignedBy Mark) → Option (List ℕ)
offer_bytes member place size list = short_bytes (spelling (changes.StateOffer (record { member = member; place = place; size = size; marks = list })))

abbrev pub sync_bytes : ℕ → ℕ → ℕ → List (SignedBy Report) → Option (List ℕ)
sync_bytes signer view regency collect =
    short_bytes (spelling (changes.Sync (signed syncs group_secret signer (record { view = view; regency = regency; collect = collect }))))

-- the bytes of a PROPOSE of a batch with 1 to 64 requests and at most 262,144 bytes
abbrev pub proposal_bytes : ℕ → Slot → Batch → Option (List ℕ)
proposal_bytes signer slot batch =
    if nat_le 1 (length batch) && nat_le (length batch) BATCH_REQUESTS && nat_le (length (batch_text batch)) BATCH_BYTES
    then Some (spelling (Propose (record { head = signed proposals group_secret signer (record { slot = slot; digest = digest_of batch }); batch = batch })))
    else None

abbrev pub vote_bytes : VoteKind → ℕ → Slot → Batch → Option (List ℕ)
vote_bytes kind signer slot batch =
    Some (spelling (Vote (signed ballots group_secret signer (record { kind = kind; slot = slot; digest = digest_of batch }))))

-- the bytes of an injection, if everything that it names is there and it passes no limit
unfoldable pub injected_bytes : List Sent → Injection → Option (List ℕ)
injected_bytes sent (forms.Ask client seq after op) =
    Some (spelling (Ask (signed requests group_secret client (record { client = client; seq = seq; after = after; op = op }))))
injected_bytes sent (forms.Propose signer slot asks) = option_and_then (proposal_bytes signer slot) (requests_at sent asks)
injected_bytes sent (forms.Vote kind signer slot proposal) =
    option_and_then (vote_bytes kind signer slot) (option_and_then batch_proposed (content_at sent proposal))
injected_bytes sent (forms.Stop signer view regency) =
    Some (spelling (changes.Stop (signed stops group_secret signer (record { view = view; regency = regency }))))
injected_bytes sent (forms.StopData signer view regency decision lock) = report_by signer view regency (evident_at sent view decision) (locked_at sent lock)
injected_bytes sent (forms.Sync signer view regency numbers) =
    if nat_lt (length numbers) (2 ^ 16) then option_and_then (sync_bytes signer view regency) (reports_at sent numbers) else None
injected_bytes sent (forms.Reply signer answer) = Some (spelling (Reply (signed answers group_secret signer answer)))
injected_bytes sent (forms.View signer view) = Some (spelling (changes.ViewTold (signed view_infos group_secret signer (record { view = view }))))
injected_bytes sent (forms.Mark signer place digest) =
    Some (spelling (changes.Mark (signed marks group_secret signer (record { place = place; digest = digest }))))
injected_bytes sent (forms.StateAsk member place fetch) = Some (spelling (changes.StateAsk (record { member = member; place = place; fetch = fetch })))
injected_bytes sent (forms.Offer member place size numbers) =
    if nat_le (length numbers) MARKS then option_and_then (offer_bytes member place size) (marks_at sent numbers) else None
injected_bytes sent (forms.Part place index total bytes) =
    if nat_le (length bytes) PIECE_BYTES
    then Some (spelling (changes.StatePart (record { place = place; index = index; total = total; bytes = bytes })))
    else None
injected_bytes sent (forms.Raw bytes) = Some bytes

-- the message that bytes spell, or else the bytes
abbrev pub content_by : List ℕ → Result Message ℕ → Content
content_by bytes (Ok message) = contents.Message message
content_by bytes (Err at) = contents.Raw bytes

unfoldable pub content_of : List ℕ → Content
content_of bytes = content_by bytes (decoded bytes)

-- numbers that are bytes: below 256
abbrev pub are_bytes : List ℕ → Bool
are_bytes bytes = list_all (λ b. nat_lt b 256) bytes

-- the content of an injection, which consists of bytes
abbrev pub content_from : List ℕ → Option Content
content_from bytes = if are_bytes bytes then Some (content_of bytes) else None

abbrev pub injected : List Sent → Injection → Option Content
injected sent form = option_and_then content_from (injected_bytes sent form)
