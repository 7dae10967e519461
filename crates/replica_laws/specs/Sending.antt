-- The senders of held messages, and the entries that held messages rest on.
use Rattle.std.specs.Prelude.{ℕ, ◌≡◌, ◌≤◌, Bool, true, false, ◌&&◌, List, take, Option, Some, None, IfSome, Ok}
use Rattle.std.specs.List.{list_all}
use Rattle.smart_base.specs.Cuts.{IsBytes}
use Rattle.smart_base.specs.Lists.{Each}
use Rattle.smart_statements.specs.Kinds.{requests, proposals, ballots, answers}
use Rattle.smart_statements.specs.Batches.{Batch}
use Rattle.smart_statements.specs.Reports.{reports, marks}
use Rattle.smart_statements.specs.declared.report.Evidence.TheVariants as evidence
use Rattle.smart_statements.specs.declared.report.Report.{Report}
use Rattle.smart_messages.specs.Regencies.{stops, syncs, view_infos}
use Rattle.smart_messages.specs.Messages.{spelling, decoded, sync_in}
use Rattle.smart_statements.specs.declared.entry.NodeEvent.{NodeEvent}
use Rattle.smart_statements.specs.declared.entry.NodeEvent.TheVariants.{Arrive, Tick, Deliver, Firm}
use Rattle.smart_messages.specs.declared.message.Message.TheVariants as changes
use Rattle.smart_messages.specs.declared.message.Message.TheVariants.{Ask, Propose, Vote, Reply}
use Rattle.smart_messages.specs.declared.message.Message.{Message}
use Rattle.vote_book.specs.declared.entry.LogEntry.{LogEntry}
use Rattle.replica_rules.specs.Seals.{is_verified, digest_of}
use Rattle.agreement_laws.specs.Statements.{own}
use Rattle.agreement_laws.specs.Diaries.{IsShown}
use Rattle.node_rules.specs.Nodes.{Node, ring_of}
use Rattle.node_rules.specs.Steps.{leaving}
use Rattle.node_rules.specs.declared.node.Target.{Target}
use Rattle.node_rules.specs.declared.node.Target.TheVariants as targets

-- a target that is one member
abbrev pub IsToNode : Target → Type 0
IsToNode (targets.Node member) = Unit {0}
IsToNode (targets.Client client) = ⊥
IsToNode targets.View = ⊥
IsToNode targets.Clients = ⊥

-- a target that is one client, or all of them
abbrev pub IsToClient : Target → Type 0
IsToClient (targets.Node member) = ⊥
IsToClient (targets.Client client) = Unit {0}
IsToClient targets.View = ⊥
IsToClient targets.Clients = Unit {0}

-- A message that a member may hold for a target. It names the member as its signer; a reply goes to the client that it names, and a report
-- to one member. A request may be a client's, passed on to one member. A decision and a part are anybody's, shown to one member. An ask for
-- state and an offer name the member, and so does each mark of an offer. A view is told to clients.
abbrev pub IsOwn : ℕ → Target → Message → Type 0
IsOwn id to (Ask q) = IsToNode to
IsOwn id to (Propose p) = p.head.signer ≡ id
IsOwn id to (Vote b) = b.signer ≡ id
IsOwn id to (Reply a) = (a.signer ≡ id) × (to ≡ targets.Client a.statement.client)
IsOwn id to (changes.Stop s) = s.signer ≡ id
IsOwn id to (changes.StopData r) = (r.head.signer ≡ id) × IsToNode to
IsOwn id to (changes.Sync s) = s.signer ≡ id
IsOwn id to (changes.Mark m) = m.signer ≡ id
IsOwn id to (changes.Decision d) = IsToNode to
IsOwn id to (changes.StateAsk a) = a.member ≡ id
IsOwn id to (changes.StateOffer o) = (o.member ≡ id) × (Each (λ m. m.signer ≡ id) o.marks × IsToNode to)
IsOwn id to (changes.StatePart p) = IsToNode to
IsOwn id to (changes.ViewTold i) = (i.signer ≡ id) × IsToClient to

-- Entries that a message rests on: those that show the statements that it is signed as. A vote has its own entry, a reply its place or a later
-- one. A report has its promise, after entries that are what it says. A MARK has its mark's entry, and an offer an entry for each of its marks.
-- A view that is told has the entry of the place before it starts, or of a later one. Other messages rest on nothing.
abbrev pub RestsOn : List LogEntry → Message → Type 0
RestsOn entries m = Each (IsShown digest_of entries) (own m)

-- A message that names no later view than one of a number, and no place past one. A proposal, a vote, a STOP, a report, a SYNC and a view that is
-- told name a view. A mark and an ask for state name a place. Of other messages nothing is asked.
abbrev pub NamesUpTo : ℕ → ℕ → Message → Type 0
NamesUpTo number place (Ask q) = Unit {0}
NamesUpTo number place (Propose p) = p.head.statement.slot.view ≤ number
NamesUpTo number place (Vote b) = b.statement.slot.view ≤ number
NamesUpTo number place (Reply a) = Unit {0}
NamesUpTo number place (changes.Stop s) = s.statement.view ≤ number
NamesUpTo number place (changes.StopData r) = r.head.statement.view ≤ number
NamesUpTo number place (changes.Sync s) = s.statement.view ≤ number
NamesUpTo number place (changes.Mark m) = m.statement.place ≤ place
NamesUpTo number place (changes.Decision d) = Unit {0}
NamesUpTo number place (changes.StateAsk a) = a.place ≤ place
NamesUpTo number place (changes.StateOffer o) = Unit {0}
NamesUpTo number place (changes.StatePart p) = Unit {0}
NamesUpTo number place (changes.ViewTold i) = i.statement.view.number ≤ number

-- a node of which each held message does
abbrev pub HoldsUpTo : {S : Type 0} → ℕ → ℕ → Node S → Type 0
HoldsUpTo number place n = Each (λ h. NamesUpTo number place h.message) n.held

-- a message that orders requests, answers one, marks a place, asks for state or gives a part of it, or tells a view; it has at most 1,048,576 bytes
abbrev pub orders : Message → Bool
orders (Ask q) = true
orders (Propose p) = true
orders (Vote b) = true
orders (Reply a) = true
orders (changes.Stop s) = false
orders (changes.StopData r) = false
orders (changes.Sync s) = false
orders (changes.Mark m) = true
orders (changes.Decision d) = false
orders (changes.StateAsk a) = true
orders (changes.StateOffer o) = false
orders (changes.StatePart p) = true
orders (changes.ViewTold i) = true

-- a node whose leaving messages rest on firm entries
abbrev pub LeavesFirm : {S : Type 0} → Node S → Type 0
LeavesFirm n = Each (λ h. RestsOn (take n.firm n.entries) h.message) (leaving n.firm n.held)

-- ---- what is read

-- a batch, if there is one, whose requests bear their clients' tags
abbrev pub all_tagged : List ℕ → Option Batch → Bool
all_tagged secret None = true
all_tagged secret (Some batch) = list_all (λ q. is_verified requests secret q) batch

-- a message that bears its signer's tag, as do each request of a batch, each report of a SYNC, each ACCEPT of a decision and each mark of an
-- offer in it
abbrev pub is_tagged : List ℕ → Message → Bool
is_tagged secret (Ask q) = is_verified requests secret q
is_tagged secret (Propose p) = is_verified proposals secret p.head && list_all (λ q. is_verified requests secret q) p.batch
is_tagged secret (Vote b) = is_verified ballots secret b
is_tagged secret (Reply a) = is_verified answers secret a
is_tagged secret (changes.Stop s) = is_verified stops secret s
is_tagged secret (changes.StopData r) = is_verified reports secret r.head && all_tagged secret r.batch
is_tagged secret (changes.Sync s) = is_verified syncs secret s && list_all (λ r. is_verified reports secret r) s.statement.collect
is_tagged secret (changes.Mark m) = is_verified marks secret m
is_tagged secret (changes.Decision d) = list_all (λ b. is_verified ballots secret b) d.accepts && list_all (λ q. is_verified requests secret q) d.batch
is_tagged secret (changes.StateAsk a) = true
is_tagged secret (changes.StateOffer o) = list_all (λ m. is_verified marks secret m) o.marks
is_tagged secret (changes.StatePart p) = true
is_tagged secret (changes.ViewTold i) = is_verified view_infos secret i

-- a report that bears no evidence if its last place is 0
abbrev pub IsTerse : Report → Type 0
IsTerse s = s.last ≡ 0 → s.evidence ≡ evidence.Nothing

-- a message of which each report of a SYNC bears no evidence if its last place is 0
abbrev pub AreTerse : Message → Type 0
AreTerse m = IfSome (sync_in m) (λ s. Each (λ r. IsTerse r.statement) s.statement.collect)

-- a message that its bytes are read as, if its reports are terse
abbrev pub IsReadBack : Message → Type 0
IsReadBack m = AreTerse m → decoded (spelling m) ≡ Ok m

-- a message that its bytes are read as, and in which each statement bears its signer's tag
pub record IsGenuine (secret : List ℕ) (message : Message) : Type 0 where
  pub read : IsReadBack message
  pub tagged : is_tagged secret message ≡ true

-- a node of which each held message is genuine
abbrev pub HoldsGenuine : {S : Type 0} → Node S → Type 0
HoldsGenuine n = Each (λ h. IsGenuine (ring_of n) h.message) n.held

-- an event whose arriving bytes are numbers below 256
abbrev pub IsByteEvent : NodeEvent → Type 0
IsByteEvent (Arrive bytes) = IsBytes bytes
IsByteEvent Tick = Unit {0}
IsByteEvent Deliver = Unit {0}
IsByteEvent (Firm count) = Unit {0}

-- ---- what comes

-- a property of a batch, if there is one
abbrev pub ForBatch : Option Batch → (Batch → Type 0) → Type 0
ForBatch None P = Unit {0}
ForBatch (Some batch) P = P batch

-- ---- whose it is

-- a node of which each held message is one that the member may hold
abbrev pub HoldsOwn : {S : Type 0} → ℕ → Node S → Type 0
HoldsOwn id n = Each (λ h. IsOwn id h.to h.message) n.held
