-- The rules of a leader change (the synchronisation phase of Mod-SMaRt, EDCC 2012). Each rule has three definitions: what is due, what the
-- rule does with it, and both together.
use Rattle.std.specs.Prelude.{ℕ, ◌+◌, ◌^◌, ◌==◌, nat_lt, Bool, true, false, not, ◌&&◌, ◌||◌, List, [], ◌∷◌, ◌++◌, length, find, if◌then◌else◌, Option, Some, None, option_map}
use Rattle.smart_base.specs.Views.{is_member, leader}
use Rattle.smart_statements.specs.Forms.{SignedBy}
use Rattle.smart_statements.specs.Reports.{reports}
use Rattle.smart_messages.specs.Regencies.{stops, syncs}
use Rattle.smart_statements.specs.declared.statement.Request.{Request}
use Rattle.smart_statements.specs.declared.report.Report.{Report}
use Rattle.smart_messages.specs.declared.regency.Stop.{Stop}
use Rattle.smart_messages.specs.declared.regency.Sync.{Sync}
use Rattle.smart_messages.specs.declared.regency.Reported.{Reported}
use Rattle.smart_messages.specs.declared.message.Message.TheVariants as changes
use Rattle.smart_messages.specs.declared.message.Message.TheVariants.{Ask}
use Rattle.smart_messages.specs.declared.message.Message.{Message}
use Rattle.vote_book.specs.Books.{last_made}
use Rattle.vote_book.specs.BookReports.{last_maker, evidence_of, lock_of, certificate_of}
use Rattle.vote_book.specs.declared.entry.Accept.{Accept}
use Rattle.vote_book.specs.declared.entry.Promise.{Promise}
use Rattle.vote_book.specs.declared.entry.Start.{Start}
use Rattle.vote_book.specs.declared.entry.LogEntry.{LogEntry}
use Rattle.vote_book.specs.declared.entry.LogEntry.TheVariants.{Promised, Synced}
use Rattle.regency_sync.specs.Choices.{choice}
use Rattle.regency_sync.specs.Synchronizers.{needs_sync, is_joining, is_promising, collecting}
use Rattle.replica_rules.specs.Seals.{digest_of}
use Rattle.node_rules.specs.Nodes.{Node, view_of, regency_of, is_begun, is_synced, synchronizer_of, holding, signs, sending, recording}
use Rattle.node_rules.specs.declared.node.Target.TheVariants as targets
use Rattle.node_rules.specs.declared.node.Fired.{Fired}
use Rattle.node_rules.specs.declared.node.Fired.TheVariants as fires

-- the event that a rule reports, if its condition held
abbrev pub fired_when : Fired → Bool → List Fired
fired_when rule true = rule ∷ []
fired_when rule false = []

-- adopt: the node takes part in a regency that its leader has begun. It promises the regency first, if it is a later one. The base of the
-- regency and its bound are the choice of the leader's reports.

-- the beginning that a SYNC states: the choice of the reports in it
abbrev pub start_by_sync : Sync → Start
start_by_sync s = record { view = s.view; regency = s.regency; base = (choice s.collect).base; bound = (choice s.collect).bound }

-- the promise that an adoption adds: one if the regency is later than the one in force, else none
abbrev pub promised_for : {S : Type 0} → Node S → Sync → List LogEntry
promised_for n s = if nat_lt (regency_of n) s.regency then Promised (record { view = s.view; regency = s.regency }) ∷ [] else []

-- what an adoption does: record the promise and the beginning, and end the wait. Notes on a regency that is over are cleared.
unfoldable pub adopts_by : {S : Type 0} → Node S → Option (SignedBy Sync) → Node S
adopts_by n None = n
adopts_by n (Some sync) = record n {
  entries = n.entries ++ promised_for n sync.statement ++ Synced (start_by_sync sync.statement) ∷ [];
  stop_made = n.stop_made && (sync.statement.regency == regency_of n);
  sync_made = n.sync_made && (sync.statement.regency == regency_of n);
  impatient = false;
}

-- the event of an adoption: the beginning that was adopted
abbrev pub fired_adopt : Option (SignedBy Sync) → List Fired
fired_adopt None = []
fired_adopt (Some sync) = fires.Adopted (start_by_sync sync.statement) ∷ []

-- A SYNC that may be adopted. It is of the view in force, and of the regency in force or a later one. Its regency has not begun.
abbrev pub is_adoptable : {S : Type 0} → Node S → SignedBy Sync → Bool
is_adoptable n s = needs_sync (view_of n).number (regency_of n) s && not (is_begun n s.statement.regency)

-- the first kept SYNC that may be adopted
unfoldable pub adoption : {S : Type 0} → Node S → Option (SignedBy Sync)
adoption n = find (is_adoptable n) n.syncs

-- the rule that adopts: the node takes part in a regency that its leader has begun by SYNC (Mod-SMaRt, EDCC 2012)
unfoldable pub adopts : {S : Type 0} → Node S → Node S
adopts n = adopts_by n (adoption n)

-- ask: the node asks all members for the next regency, by STOP

-- what the node asks for: the regency after the one in force
abbrev pub wish_of : {S : Type 0} → Node S → Stop
wish_of n = record { view = (view_of n).number; regency = regency_of n + 1 }

-- the signed STOP for the regency after the one in force
abbrev pub stop_for : {S : Type 0} → Node S → Message
stop_for n = changes.Stop (signs n stops (wish_of n))

-- what asking does: note it, and send STOP to the view
abbrev pub asks_next : {S : Type 0} → Node S → Node S
asks_next n = sending (record n { stop_made = true }) targets.View stops (wish_of n) (λ (s : SignedBy Stop). changes.Stop s)

-- join: the node asks for the next regency after more than f members did, if it has not asked in this life

-- the condition of joining: more than f members ask for the next regency, and the node has not asked
unfoldable pub joining : {S : Type 0} → Node S → Bool
joining n = is_joining (view_of n) (synchronizer_of n)

-- the rule that joins: after f+1 members ask for the next regency the node asks too (Mod-SMaRt, EDCC 2012)
unfoldable pub joins : {S : Type 0} → Node S → Node S
joins n = if joining n then asks_next n else n

-- promise: after 2f+1 members ask for the next regency the node promises it, and reports its book to the new leader

-- the report of the book for a regency: its last made place with evidence, and its lock
unfoldable pub report_of : {S : Type 0} → Node S → ℕ → Report
report_of n regency = record {
  view = (view_of n).number;
  regency = regency;
  last = last_made n.entries;
  evidence = evidence_of digest_of (last_maker n.entries);
  lock = option_map certificate_of (lock_of (view_of n).number n.entries);
}

-- a signed report of the node, with the batch of its lock
abbrev pub reported_with : {S : Type 0} → Node S → SignedBy Report → Reported
reported_with n head = record { head = head; batch = option_map (λ (a : Accept). a.batch) (lock_of (view_of n).number n.entries) }

-- the signed report, with the batch of its lock
unfoldable pub reported_by : {S : Type 0} → Node S → ℕ → Reported
reported_by n regency = reported_with n (signs n reports (report_of n regency))

-- the promise of the regency after the one in force
abbrev pub next_promise : {S : Type 0} → Node S → Promise
next_promise n = record { view = (view_of n).number; regency = regency_of n + 1 }

-- the condition of promising: 2f+1 members ask for the next regency
unfoldable pub promising : {S : Type 0} → Node S → Bool
promising n = is_promising (view_of n) (synchronizer_of n)

-- what a promise does: record it, begin a wait, and send the report to the new leader after the promise is firm
unfoldable pub promise_next : {S : Type 0} → Node S → Node S
promise_next n =
    sending (record (recording n (Promised (next_promise n))) { stop_made = false; sync_made = false; impatient = true })
    (targets.Node (leader (view_of n) (regency_of n + 1)))
    reports (report_of n (regency_of n + 1)) (λ (head : SignedBy Report). changes.StopData (reported_with n head))

-- the rule that promises: after 2f+1 members ask, the node leaves its regency and sends STOPDATA to the next leader (Mod-SMaRt, EDCC 2012)
unfoldable pub promises : {S : Type 0} → Node S → Node S
promises n = if promising n then promise_next n else n

-- lead: the leader of a regency that has not begun begins it with the reports of n-f members

-- the reports that are due: those of the first n-f members, after as many have reported
unfoldable pub leading : {S : Type 0} → Node S → Option (List (SignedBy Report))
leading n = collecting (view_of n) (synchronizer_of n)

-- what leading does: note it, and send the signed SYNC with these reports to the view
unfoldable pub lead_with : {S : Type 0} → Node S → Option (List (SignedBy Report)) → Node S
lead_with n None = n
lead_with n (Some collect) =
    sending (record n { sync_made = true }) targets.View syncs
    (record { view = (view_of n).number; regency = regency_of n; collect = collect })
    (λ (s : SignedBy Sync). changes.Sync s)

-- the rule that leads: after n-f STOPDATA the leader sends SYNC with them (Mod-SMaRt, EDCC 2012)
unfoldable pub leads : {S : Type 0} → Node S → Node S
leads n = lead_with n (leading n)

-- time: a node that lags asks for state. Under pressure a node first passes its oldest request to the leader, and from the next time on asks
-- for the next regency.

-- a node that lags: it is no member of the view in force, or has heard that it is behind
abbrev pub lags : {S : Type 0} → Node S → Bool
lags n = not (is_member (view_of n) n.id) || n.behind

-- an ask for state, from where the node is
abbrev pub state_ask : {S : Type 0} → Node S → ℕ → Message
state_ask n fetch = changes.StateAsk (record { member = n.id; place = n.replica.place; fetch = fetch })

-- what lagging does: forget what was offered and planned, and ask all members
unfoldable pub asks_state : {S : Type 0} → Node S → Node S
asks_state n = holding (record n { offers = []; fetch = None; behind = false }) targets.View (state_ask n 0)

-- pressure: a request waits, or the regency in force has not begun; a node that lags is under none
abbrev pub is_pressed : {S : Type 0} → Node S → Bool
is_pressed n = nat_lt 0 (length n.pool) || not (is_synced n)

-- the condition of acting on time: the node lags, or there is pressure, and a first wait to begin or a next regency to ask for
unfoldable pub timing : {S : Type 0} → Node S → Bool
timing n = lags n || (is_pressed n && (not n.impatient || nat_lt (regency_of n + 1) (2 ^ 32)))

-- the oldest request of a pool, if there is one, sent to the leader of the regency in force
abbrev pub passes_on : {S : Type 0} → Node S → List (SignedBy Request) → Node S
passes_on n [] = n
passes_on n (q ∷ qs) = holding n (targets.Node (leader (view_of n) (regency_of n))) (Ask q)

-- what time does: in a wait, ask for the next regency; else begin a wait and pass on the oldest request
unfoldable pub presses : {S : Type 0} → Node S → Node S
presses n = if n.impatient then asks_next n else passes_on (record n { impatient = true }) n.pool

-- the rule that acts on time: the first timeout passes the oldest request to the leader, later ones send STOP (Mod-SMaRt, EDCC 2012)
unfoldable pub times : {S : Type 0} → Node S → Node S
times n = if lags n then asks_state n else if timing n then presses n else n
