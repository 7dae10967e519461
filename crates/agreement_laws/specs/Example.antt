-- An example that meets the premises of agreement. Four members, one of which is faulty, decide a batch in the first regency, and again in
-- the next one.
use Rattle.std.specs.Prelude.{ℕ, ◌==◌, nat_lt, Bool, List, [], ◌∷◌, ◌++◌, map, Option, None, Some, if◌then◌else◌}
use Rattle.std.specs.List.{flat_map}
use Rattle.smart_base.specs.Views.{View}
use Rattle.smart_keys.specs.Keys.{tag_of}
use Rattle.smart_statements.specs.Forms.{Form, SignedBy, party_of}
use Rattle.smart_statements.specs.Kinds.{proposals, ballots}
use Rattle.smart_statements.specs.Batches.{Batch}
use Rattle.smart_statements.specs.Reports.{reports}
use Rattle.smart_messages.specs.Regencies.{stops, syncs}
use Rattle.smart_statements.specs.declared.statement.VoteKind.{VoteKind}
use Rattle.smart_statements.specs.declared.statement.VoteKind.TheVariants.{Write, Accept}
use Rattle.smart_statements.specs.declared.statement.Ballot.{Ballot}
use Rattle.smart_statements.specs.declared.report.LockCertificate.{LockCertificate}
use Rattle.smart_statements.specs.declared.report.Evidence.TheVariants as evidence
use Rattle.smart_statements.specs.declared.report.Report.{Report}
use Rattle.smart_messages.specs.declared.message.Message.TheVariants as messages
use Rattle.smart_messages.specs.declared.message.Message.{Message}
use Rattle.certificates.specs.Collects.{slot_of}
use Rattle.vote_book.specs.declared.entry.Accept as accept
use Rattle.vote_book.specs.declared.entry.Start.{Start}
use Rattle.vote_book.specs.declared.entry.LogEntry.{LogEntry}
use Rattle.vote_book.specs.declared.entry.LogEntry.TheVariants as entries
use Rattle.agreement_laws.specs.Statements.{Statement, statements}

-- the view of the example: four members, one of which may be faulty
abbrev pub four : View
four = record { number = 0; start = 1; f = 1; members = 1 ∷ 2 ∷ 3 ∷ 4 ∷ [] }

-- the faulty member: the fourth
abbrev pub is_fourth : ℕ → Bool
is_fourth member = member == 4

-- a statement with the tag that its signer makes
abbrev pub tagged : {S : Type 0} → Form S → List ℕ → ℕ → S → SignedBy S
tagged form secret signer s = record { signer = signer; statement = s; tag = tag_of secret (party_of form.kind signer) (form.spell s) }

-- ---- what they state

-- a member's vote at the first place
abbrev pub vote : List ℕ → ℕ → VoteKind → List ℕ → ℕ → SignedBy Ballot
vote secret regency kind digest member = tagged ballots secret member (record { kind = kind; slot = slot_of four 1 regency; digest = digest })

abbrev pub votes : List ℕ → ℕ → VoteKind → List ℕ → List ℕ → List (SignedBy Ballot)
votes secret regency kind digest members = map (vote secret regency kind digest) members

-- the members whose votes count: in the first regency, with the faulty one, and in the next one
abbrev pub first_voters : List ℕ
first_voters = 1 ∷ 2 ∷ 4 ∷ []

abbrev pub later_voters : List ℕ
later_voters = 1 ∷ 2 ∷ 3 ∷ []

-- the locks: the first two members accepted in the first regency
abbrev pub lock_of : List ℕ → List ℕ → ℕ → Option LockCertificate
lock_of secret digest member =
    if nat_lt member 3 then Some (record { regency = 0; digest = digest; writes = votes secret 0 Write digest first_voters }) else None

abbrev pub report : List ℕ → List ℕ → ℕ → SignedBy Report
report secret digest member =
    tagged reports secret member (record { view = 0; regency = 1; last = 0; evidence = evidence.Nothing; lock = lock_of secret digest member })

-- the reports with which the next regency begins
abbrev pub collect : List ℕ → List ℕ → List (SignedBy Report)
collect secret digest = map (report secret digest) later_voters

-- ---- the messages

abbrev pub proposing : List ℕ → ℕ → ℕ → List ℕ → Batch → Message
proposing secret regency leader digest batch =
    (messages.Propose (record { head = tagged proposals secret leader (record { slot = slot_of four 1 regency; digest = digest }); batch = batch }))

abbrev pub voting : List ℕ → ℕ → VoteKind → List ℕ → ℕ → Message
voting secret regency kind digest member = messages.Vote (vote secret regency kind digest member)

abbrev pub stopping : List ℕ → ℕ → Message
stopping secret member = messages.Stop (tagged stops secret member (record { view = 0; regency = 1 }))

-- a member's STOPDATA, with the batch of its lock, if it has one
abbrev pub reporting : List ℕ → List ℕ → Option Batch → ℕ → Message
reporting secret digest batch member = messages.StopData (record { head = report secret digest member; batch = batch })

abbrev pub beginning : List ℕ → List ℕ → Message
beginning secret digest = messages.Sync (tagged syncs secret 2 (record { view = 0; regency = 1; collect = collect secret digest }))

-- The messages of the first regency. Two members vote for a batch, and the third votes for none. The fourth, which is faulty, votes for
-- that batch and for another digest.
abbrev pub first_messages : List ℕ → List ℕ → List ℕ → Batch → List Message
first_messages secret digest other batch =
    proposing secret 0 1 digest batch
    ∷ voting secret 0 Write digest 1 ∷ voting secret 0 Write digest 2 ∷ voting secret 0 Write digest 4 ∷ voting secret 0 Write other 4
    ∷ voting secret 0 Accept digest 1 ∷ voting secret 0 Accept digest 2 ∷ voting secret 0 Accept digest 4 ∷ voting secret 0 Accept other 4
    ∷ []

-- The messages of the leader change. Three members ask for the next regency and report, and its leader begins it.
abbrev pub changing_messages : List ℕ → List ℕ → Batch → List Message
changing_messages secret digest batch =
    stopping secret 1 ∷ stopping secret 2 ∷ stopping secret 3
    ∷ reporting secret digest (Some batch) 1 ∷ reporting secret digest (Some batch) 2 ∷ reporting secret digest None 3
    ∷ beginning secret digest
    ∷ []

-- the messages of the next regency, in which the three vote
abbrev pub later_messages : List ℕ → List ℕ → Batch → List Message
later_messages secret digest batch =
    proposing secret 1 2 digest batch
    ∷ voting secret 1 Write digest 1 ∷ voting secret 1 Write digest 2 ∷ voting secret 1 Write digest 3
    ∷ voting secret 1 Accept digest 1 ∷ voting secret 1 Accept digest 2 ∷ voting secret 1 Accept digest 3
    ∷ []

abbrev pub sent : List ℕ → List ℕ → List ℕ → Batch → List Message
sent secret digest other batch = first_messages secret digest other batch ++ (changing_messages secret digest batch ++ later_messages secret digest batch)

abbrev pub all_stated : List ℕ → List ℕ → List ℕ → Batch → List Statement
all_stated secret digest other batch = flat_map (statements secret) (sent secret digest other batch)

-- ---- the diaries

abbrev pub opened : ℕ → LogEntry
opened member = entries.Opened (record { member = member; period = 1; view = four })

abbrev pub wrote : ℕ → List ℕ → LogEntry
wrote regency digest = entries.Wrote (record { slot = slot_of four 1 regency; digest = digest })

abbrev pub accept_entry : List ℕ → ℕ → List ℕ → List ℕ → Batch → accept.Accept
accept_entry secret regency digest writers batch =
    record { slot = slot_of four 1 regency; digest = digest; writes = votes secret regency Write digest writers; batch = batch }

abbrev pub accepted : List ℕ → ℕ → List ℕ → List ℕ → Batch → LogEntry
accepted secret regency digest writers batch = entries.Accepted (accept_entry secret regency digest writers batch)

-- the entries of the first two members in the first regency
abbrev pub first_entries : List ℕ → List ℕ → Batch → ℕ → List LogEntry
first_entries secret digest batch member = opened member ∷ wrote 0 digest ∷ accepted secret 0 digest first_voters batch ∷ []

abbrev pub promised : LogEntry
promised = entries.Promised (record { view = 0; regency = 1 })

-- the beginning of the next regency: at the place that the first one has decided, and bound to its digest
abbrev pub start : List ℕ → Start
start digest = record { view = 0; regency = 1; base = 1; bound = Some digest }

abbrev pub started : List ℕ → LogEntry
started digest = entries.Synced (start digest)

abbrev pub decided : List ℕ → List ℕ → Batch → LogEntry
decided secret digest batch = entries.Decided (record { slot = slot_of four 1 1; batch = batch; accepts = votes secret 1 Accept digest later_voters })

-- the entries of the three correct members in the next regency
abbrev pub later_entries : List ℕ → List ℕ → Batch → List LogEntry
later_entries secret digest batch = started digest ∷ wrote 1 digest ∷ accepted secret 1 digest later_voters batch ∷ decided secret digest batch ∷ []

-- the diaries of the first two members, and of the third
abbrev pub diary : List ℕ → List ℕ → Batch → ℕ → List LogEntry
diary secret digest batch member =
    if nat_lt member 3 then first_entries secret digest batch member ++ promised ∷ later_entries secret digest batch
    else opened member ∷ promised ∷ later_entries secret digest batch
