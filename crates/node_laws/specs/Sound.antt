-- What holds of a node whatever came to it, by what has been stated.
use Rattle.std.specs.Prelude.{◌≡◌, Bool, ℕ, zero, suc, ◌+◌, ◌^◌, ◌<◌, ◌≤◌, ◌⊎◌, max, true, List, [], ◌∷◌, ◌++◌, length, take, Option, Some, None, IfSome, Ok}
use Rattle.smart_base.specs.Lists.{Each}
use Rattle.smart_base.specs.Views.{View, is_member, is_view, leader}
use Rattle.smart_base.specs.declared.party.Party.TheVariants.{Member}
use Rattle.smart_statements.specs.Forms.{SignedBy}
use Rattle.smart_statements.specs.Kinds.{requests, proposals, ballots}
use Rattle.smart_statements.specs.Batches.{Batch}
use Rattle.smart_statements.specs.Reports.{reports, marks}
use Rattle.smart_messages.specs.Regencies.{stops, syncs}
use Rattle.smart_messages.specs.Messages.{decoded}
use Rattle.smart_statements.specs.declared.statement.Answer.{Answer}
use Rattle.smart_statements.specs.declared.statement.Slot.{Slot}
use Rattle.smart_messages.specs.declared.regency.Stop.{Stop}
use Rattle.smart_messages.specs.declared.regency.Sync.{Sync}
use Rattle.smart_messages.specs.declared.regency.Reported.{Reported}
use Rattle.smart_messages.specs.declared.message.Message.TheVariants as changes
use Rattle.smart_messages.specs.declared.message.Message.{Message}
use Rattle.smart_messages.specs.declared.message.Message.TheVariants.{Ask, Propose, Vote}
use Rattle.smart_messages.specs.declared.message.Proposed.{Proposed}
use Rattle.smart_statements.specs.declared.entry.NodeEvent.{NodeEvent}
use Rattle.smart_statements.specs.declared.entry.NodeEvent.TheVariants.{Arrive, Tick, Deliver, Firm}
use Rattle.smart_service.specs.Tables.{kept_in}
use Rattle.smart_service.specs.declared.table.Execution.{Execution}
use Rattle.certificates.specs.Certificates.{IsDecisionProof, IsMarkCertificate}
use Rattle.certificates.specs.Collects.{view_numbered}
use Rattle.snapshot_form.specs.Replicas.{follow}
use Rattle.transfer_form.specs.declared.transfer.ProvenBatch.{ProvenBatch}
use Rattle.state_transfer.specs.declared.choice.Plan.{Plan}
use Rattle.vote_book.specs.Books.{Among, Lawful, last_made, latest_made}
use Rattle.vote_book.specs.Tidy.{IsTidy}
use Rattle.vote_book.specs.declared.entry.Decision.{Decision}
use Rattle.vote_book.specs.declared.entry.Installation.{Installation}
use Rattle.vote_book.specs.declared.entry.Promise.{Promise}
use Rattle.vote_book.specs.declared.entry.LogEntry.{LogEntry}
use Rattle.vote_book.specs.declared.entry.LogEntry.TheVariants.{Opened, Wrote, Accepted, Promised, Synced, Decided, Installed, Marked}
use Rattle.replica_rules.specs.Seals.{is_verified, digest_of}
use Rattle.agreement_laws.specs.Statements.{Statement, statements, signer_of}
use Rattle.agreement_laws.specs.Statements as says
use Rattle.agreement_laws.specs.Diaries.{IsShown, HasReached}
use Rattle.agreement_laws.specs.Certificates.{IsBacked}
use Rattle.node_rules.specs.Nodes.{Node, greatest_regency, next_place, decided_place, ring_of, view_of}
use Rattle.node_rules.specs.Arrivals.{is_batch_for, is_proven, is_collect, regency_by}
pub use Rattle.node_rules.specs.Reopening.{view_for}
use Rattle.node_rules.specs.Reopening.{is_opening}
use Rattle.node_rules.specs.declared.node.Held.{Held}

-- ---- the views of a replica

-- the views of a replica at a place: they begin with the group's first, from whatever place that starts, follow each other, and are valid
pub record AreViews (first : View) (place : ℕ) (views : List View) : Type 0 where
  pub rest : List View
  pub begins : views ≡ first ∷ rest
  pub follows : follow place first.number 0 rest ≡ true
  pub valid : Each (λ v. is_view v ≡ true) views

-- a number that a view of a list has
pub record IsKnown (views : List View) (number : ℕ) : Type 0 where
  pub view : View
  pub is : view_numbered views number ≡ Some view

-- the number of the view that holds a place
pub record IsIn (views : List View) (place number : ℕ) : Type 0 where
  pub view : View
  pub holds : view_for views place ≡ Some view
  pub number_is : view.number ≡ number

-- ---- what has been stated

-- statements that are all among others
abbrev pub AreAmong : List Statement → List Statement → Type 0
AreAmong few all = Each (λ s. Among s all) few

-- a message of which all that stands in it, at any depth, and verifies has been stated
abbrev pub IsStated : List ℕ → List Statement → Message → Type 0
IsStated secret stated m = AreAmong (statements secret m) stated

-- an event of which all that stands in arriving bytes and verifies has been stated
abbrev pub IsStatedEvent : List ℕ → List Statement → NodeEvent → Type 0
IsStatedEvent secret stated (Arrive bytes) = (m : Message) → decoded bytes ≡ Ok m → IsStated secret stated m
IsStatedEvent secret stated Tick = Unit {0}
IsStatedEvent secret stated Deliver = Unit {0}
IsStatedEvent secret stated (Firm count) = Unit {0}

-- a batch of requests that verify and have been stated
abbrev pub AreAsked : List ℕ → List Statement → Batch → Type 0
AreAsked secret stated batch = Each (λ q. (is_verified requests secret q ≡ true) × IsStated secret stated (Ask q)) batch

-- ---- what is kept

-- a statement that a member of the view has signed
pub record IsMembers (view : View) (verified : Bool) (signer : ℕ) : Type 0 where
  pub tagged : verified ≡ true
  pub member : is_member view signer ≡ true

-- a leader's proposal of a batch that may stand at its place
pub record IsProposal (secret : List ℕ) (view : View) (p : Proposed) : Type 0 where
  pub members : IsMembers view (is_verified proposals secret p.head) p.head.signer
  pub leaders : p.head.signer ≡ leader view p.head.statement.slot.regency
  pub batch : is_batch_for secret p.head.statement.slot.place p.head.statement.digest p.batch ≡ true

-- What holds of what is kept and is of a view by its number, while a view is in force: its view is not later than that one. Of a view that is
-- over nothing is asked, since it is no longer used.
abbrev pub InForce : View → ℕ → Type 0 → Type 0
InForce view number Holds = (number ≤ view.number) × (number ≡ view.number → Holds)

-- a message that a node may keep among proposals and votes
abbrev pub IsKept : List ℕ → View → Message → Type 0
IsKept secret view (Propose p) = InForce view p.head.statement.slot.view (IsProposal secret view p)
IsKept secret view (Vote b) = InForce view b.statement.slot.view (IsMembers view (is_verified ballots secret b) b.signer)
IsKept secret view _ = ⊥

-- a decided batch whose ACCEPTs prove it in the view, in the slot of its place and of their regency; it may stand at its place
pub record IsShownIn (secret : List ℕ) (view : View) (d : ProvenBatch) : Type 0 where
  pub accepts : IsDecisionProof secret view (record { view = view.number; place = d.place; regency = regency_by d.accepts }) (digest_of d.batch) d.accepts
  pub batch : is_batch_for secret d.place (digest_of d.batch) d.batch ≡ true

-- a plan of a known view, whose marks certify its place and digest there, each of them stated
pub record IsPlanned (secret : List ℕ) (views : List View) (stated : List Statement) (p : Plan) : Type 0 where
  pub of_view : IsKnown views p.view
  pub certified : IsMarkCertificate secret of_view.view p.place p.digest p.marks
  pub drawn : Each (λ m. Among (says.Marked m) stated) p.marks

-- ---- what the book has

-- a batch that may stand at a place under its digest, and whose requests have been stated
pub record IsBatchAt (secret : List ℕ) (stated : List Statement) (place : ℕ) (digest : List ℕ) (batch : Batch) : Type 0 where
  pub may : is_batch_for secret place digest batch ≡ true
  pub asked : AreAsked secret stated batch

-- an entry whose batch, if it has one, may stand at its place and has stated requests
abbrev pub HasBatch : List ℕ → List Statement → LogEntry → Type 0
HasBatch secret stated (Opened o) = Unit {0}
HasBatch secret stated (Wrote w) = Unit {0}
HasBatch secret stated (Accepted a) = IsBatchAt secret stated a.slot.place a.digest a.batch
HasBatch secret stated (Promised p) = Unit {0}
HasBatch secret stated (Synced s) = Unit {0}
HasBatch secret stated (Decided d) = IsBatchAt secret stated d.slot.place (digest_of d.batch) d.batch
HasBatch secret stated (Installed i) = Unit {0}
HasBatch secret stated (Marked m) = Unit {0}

-- a slot of the view that holds its place, of a place up to a given one, and of a regency that entries promise in this view, or an earlier one
pub record IsUpTo (views : List View) (place : ℕ) (entries : List LogEntry) (slot : Slot) : Type 0 where
  pub of_view : IsIn views slot.place slot.view
  pub place_is : slot.place ≤ place
  pub regency_is : slot.regency ≤ greatest_regency slot.view entries

-- The same of any regency: others may have decided in a later one. A place comes behind it, with which a view may start.
pub record IsDecidedIn (views : List View) (place : ℕ) (slot : Slot) : Type 0 where
  pub of_view : IsIn views slot.place slot.view
  pub place_is : slot.place ≤ place
  pub low : slot.place < 2 ^ 63

-- an installation of some place, and of a known view that is no later than the one that holds this place
pub record IsInstalledIn (views : List View) (i : Installation) : Type 0 where
  pub of_view : IsKnown views i.view
  pub upto : (v : View) → view_for views i.place ≡ Some v → i.view ≤ v.number
  pub some : 0 < i.place

-- a view that starts by a place, or is the first one
abbrev pub HasBegun : List View → ℕ → View → Type 0
HasBegun views place v = (v.start ≤ place) ⊎ ((rest : List View) × (views ≡ v ∷ rest))

-- a regency of a known view that has begun by a place, from 1 up to what entries promise in it
pub record IsLater (views : List View) (place : ℕ) (entries : List LogEntry) (of r : ℕ) : Type 0 where
  pub of_view : IsKnown views of
  pub begun : HasBegun views place of_view.view
  pub some : 0 < r
  pub most : r ≤ greatest_regency of entries

-- An entry of a known view, up to a place and a regency that entries promise. A decision may be of any regency, and a mark is of a place
-- before. An installation is of any place but 0: that place is past each that was made before (`MayInstall`).
abbrev pub IsWithin : List View → ℕ → List LogEntry → LogEntry → Type 0
IsWithin views place entries (Opened o) = Unit {0}
IsWithin views place entries (Wrote w) = IsUpTo views place entries w.slot
IsWithin views place entries (Accepted a) = IsUpTo views place entries a.slot
IsWithin views place entries (Promised p) = IsLater views place entries p.view p.regency
IsWithin views place entries (Synced s) = IsLater views place entries s.view s.regency
IsWithin views place entries (Decided d) = IsDecidedIn views place d.slot
IsWithin views place entries (Installed i) = IsInstalledIn views i
IsWithin views place entries (Marked m) = m.place < place

-- entries that promise regencies of views up to a number alone
abbrev pub ArePromisedUpTo : ℕ → List LogEntry → Type 0
ArePromisedUpTo number entries = (p : Promise) → Among (Promised p) entries → p.view ≤ number

-- An entry of no earlier view than each that entries before it promise a regency of. So a cut, which keeps the last promise alone, has all that
-- bounds the entry.
abbrev pub IsNewest : List LogEntry → LogEntry → Type 0
IsNewest before (Opened o) = Unit {0}
IsNewest before (Wrote w) = ArePromisedUpTo w.slot.view before
IsNewest before (Accepted a) = ArePromisedUpTo a.slot.view before
IsNewest before (Promised p) = ArePromisedUpTo p.view before
IsNewest before (Synced s) = ArePromisedUpTo s.view before
IsNewest before (Decided d) = Unit {0}
IsNewest before (Installed i) = Unit {0}
IsNewest before (Marked m) = Unit {0}

-- an entry behind others, within a place and what is promised with it
pub record IsRanged (views : List View) (place : ℕ) (before : List LogEntry) (entry : LogEntry) : Type 0 where
  pub within : IsWithin views place (before ++ entry ∷ []) entry
  pub newest : IsNewest before entry

-- entries of which each is within the next place after those before it, and within the regency of its view that is in force with it
abbrev pub AreRanged : List View → List LogEntry → Type 0
AreRanged views entries =
    (before : List LogEntry) (entry : LogEntry) (after : List LogEntry) → entries ≡ before ++ entry ∷ after → IsRanged views (last_made before + 1) before entry

-- the same of a book that begins with the replica of a place
abbrev pub AreRangedPast : ℕ → List View → List LogEntry → Type 0
AreRangedPast opening views entries =
    (before : List LogEntry) (entry : LogEntry) (after : List LogEntry) → entries ≡ before ++ entry ∷ after → IsRanged views (max opening (last_made before) + 1) before entry

-- an entry that rests on what has been stated, in its own view
abbrev pub IsBackedIn : List ℕ → List View → List Statement → LogEntry → Type 0
IsBackedIn secret views stated entry = (v : View) → Among v views → IsBacked secret digest_of v stated entry

-- entries of which the first opens the book
abbrev pub IsBegun : List LogEntry → Type 0
IsBegun [] = ⊥
IsBegun (e ∷ es) = is_opening e ≡ true

-- the last made place; none if it is 0
abbrev pub place_if : ℕ → Option ℕ
place_if zero = None
place_if (suc k) = Some (suc k)

-- entries with a decision of a batch at a place
pub record HasDecided (entries : List LogEntry) (place : ℕ) (batch : Batch) : Type 0 where
  pub decision : Decision
  pub there : Among (Decided decision) entries
  pub place_is : decision.slot.place ≡ place
  pub batch_is : decision.batch ≡ batch

-- the reply that tells an execution
abbrev pub answer_by : Execution → Answer
answer_by line = record { view = line.view; place = line.place; index = line.index; client = line.client; seq = line.seq; reply = line.reply }

-- ---- what is held

-- A held message of which each statement has been stated, or is the member's own. Its own are shown by the entries that the message waits
-- for.
pub record IsHeld (secret : List ℕ) (id : ℕ) (stated : List Statement) (entries : List LogEntry) (h : Held) : Type 0 where
  pub needs : h.needs ≤ length entries
  pub shown : Each (λ s. Among s stated ⊎ ((signer_of s ≡ Member id) × IsShown digest_of (take h.needs entries) s)) (statements secret h.message)

-- A report of a regency that entries do not promise in its view, nor a later one. Of another statement nothing is asked.
abbrev pub IsPast : List LogEntry → Statement → Type 0
IsPast entries (says.Asked q) = Unit {0}
IsPast entries (says.Proposed p) = Unit {0}
IsPast entries (says.Voted b) = Unit {0}
IsPast entries (says.Stopped s) = Unit {0}
IsPast entries (says.Reported r) = greatest_regency r.statement.view entries < r.statement.regency
IsPast entries (says.Synced s) = Unit {0}
IsPast entries (says.Marked m) = Unit {0}
IsPast entries (says.Replied a) = Unit {0}
IsPast entries (says.Informed i) = Unit {0}

-- Held messages of which each report has been stated, or is past the restored entries. So the promise that shows it was made in this life.
pub record AreLate (secret : List ℕ) (stated : List Statement) (restored : ℕ) (entries : List LogEntry) (held : List Held) : Type 0 where
  pub few : restored ≤ length entries
  pub each : Each (λ h. Each (λ s. Among s stated ⊎ IsPast (take restored entries) s) (statements secret h.message)) held

-- ---- the node

-- a sound node of a group that began with a view: everything in it rests on what has been stated
pub record IsSound {S : Type 0} (stated : List Statement) (first : View) (n : Node S) : Type 0 where
  pub views : AreViews first n.replica.place n.replica.views
  -- the book begins with its opening, is lawful and tidy, and its last place is the node's
  pub begun : IsBegun n.entries
  pub lawful : Lawful n.opening n.restored n.entries
  pub tidy : IsTidy n.entries
  pub last : last_made n.entries ≡ decided_place n
  pub latest : latest_made n.entries ≡ place_if (decided_place n)
  pub within : Each (IsWithin n.replica.views (next_place n) n.entries) n.entries
  pub ranged : AreRangedPast n.opening n.replica.views n.entries
  -- the book rests on what has been stated
  pub backed : Each (IsBackedIn (ring_of n) n.replica.views stated) n.entries
  pub batches : Each (HasBatch (ring_of n) stated) n.entries
  -- the waiting batch is decided, and each kept reply is of a place that the book has reached
  pub waiting : IfSome n.waiting (HasDecided n.entries (next_place n))
  pub table : Each (λ line. HasReached n.entries line.place) (kept_in n.replica.table)
  -- each kept message has been stated, none is of a later view, and each of the view in force passed the node's checks
  pub arrivals : Each (λ m. IsKept (ring_of n) (view_of n) m × IsStated (ring_of n) stated m) n.arrivals
  pub stops : Each (λ (s : SignedBy Stop). InForce (view_of n) s.statement.view (IsMembers (view_of n) (is_verified stops (ring_of n) s) s.signer) × IsStated (ring_of n) stated (changes.Stop s)) n.stops
  pub reports : Each (λ (r : Reported). InForce (view_of n) r.head.statement.view (IsMembers (view_of n) (is_verified reports (ring_of n) r.head) r.head.signer × (is_proven n r ≡ true)) × IsStated (ring_of n) stated (changes.StopData r)) n.reports
  pub syncs : Each (λ (s : SignedBy Sync). InForce (view_of n) s.statement.view (IsMembers (view_of n) (is_verified syncs (ring_of n) s) s.signer × (is_collect n s.statement ≡ true)) × IsStated (ring_of n) stated (changes.Sync s)) n.syncs
  -- each kept decision is of a place up to the next, and of that place it is proven; each kept offer's marks verify
  pub decisions : Each (λ d. IsStated (ring_of n) stated (changes.Decision d) × (d.place ≤ next_place n) × (d.place ≡ next_place n → IsShownIn (ring_of n) (view_of n) d)) n.decisions
  pub offers : Each (λ o. IsStated (ring_of n) stated (changes.StateOffer o) × Each (λ m. is_verified marks (ring_of n) m ≡ true) o.marks) n.offers
  -- each kept mark verifies and has been stated, and the marks of a plan are a certificate of its place and digest in its view
  pub marked : Each (λ m. (is_verified marks (ring_of n) m ≡ true) × IsStated (ring_of n) stated (changes.Mark m)) n.marks
  pub fetch : IfSome n.fetch (λ f. IsPlanned (ring_of n) n.replica.views stated f.plan)
  pub pool : AreAsked (ring_of n) stated n.pool
  -- each held message is shown
  pub held : Each (IsHeld (ring_of n) n.id stated n.entries) n.held
  pub late : AreLate (ring_of n) stated n.restored n.entries n.held
