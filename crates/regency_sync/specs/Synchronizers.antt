-- A leader change (the synchronisation phase of Mod-SMaRt, EDCC 2012): what a member has heard and done, what is due, and what becomes of
-- it.
use Rattle.std.specs.Prelude.{ℕ, ◌≡◌, ◌+◌, ◌^◌, ◌==◌, nat_lt, nat_le, Bool, false, true, not, ◌&&◌, ◌||◌, if◌then◌else◌, List, [], ◌∷◌, ◌++◌, length, take, filter, find, filter_map, Option, Some, None, is_some, option_map}
use Rattle.std.specs.List.{list_any}
use Rattle.smart_base.specs.Lists.{same_bytes, Each}
use Rattle.smart_base.specs.Views.{View, is_member, leader}
use Rattle.smart_view.specs.Sizes.{collect_size, stop_size}
use Rattle.smart_statements.specs.Forms.{SignedBy}
use Rattle.smart_statements.specs.Batches.{Batch}
use Rattle.smart_statements.specs.declared.report.LockCertificate.{LockCertificate}
use Rattle.smart_statements.specs.declared.report.Report.{Report}
use Rattle.smart_messages.specs.declared.regency.Stop.{Stop}
use Rattle.smart_messages.specs.declared.regency.Sync.{Sync}
use Rattle.smart_messages.specs.declared.regency.Reported.{Reported}
use Rattle.regency_sync.specs.declared.rule.Rule.{Rule}
use Rattle.regency_sync.specs.declared.rule.Rule.TheVariants.{Join, Promise, Collect}

-- a member's part in a leader change
pub record Synchronizer : Type 0 where
  -- the member's number
  pub id : ℕ
  -- the view in force
  pub view : View
  -- the greatest regency that it has promised in the view in force; 0 if it has promised none
  pub regency : ℕ
  -- whether it has adopted the beginning of that regency
  pub synced : Bool
  -- whether it has asked in this life for the regency after that one
  pub stop_made : Bool
  -- whether it has sent, as leader, the SYNC of that regency in this life
  pub sync_made : Bool
  -- what came of members and was kept, in the order in which it came: STOPs, STOPDATA and SYNCs; of one signer one for a regency
  pub stops : List (SignedBy Stop)
  pub reports : List Reported
  pub syncs : List (SignedBy Sync)

-- a member that takes part in its regency; regency 0 needs no beginning
abbrev pub is_synced : Synchronizer → Bool
is_synced s = (s.regency == 0) || s.synced

-- ---- what is kept

-- a view and regency that are needed: this view, and this regency or a later one
abbrev pub is_needed : ℕ → ℕ → ℕ → ℕ → Bool
is_needed view regency v r = (v == view) && nat_le regency r

abbrev pub needs_stop : ℕ → ℕ → SignedBy Stop → Bool
needs_stop view regency stop = is_needed view regency stop.statement.view stop.statement.regency

abbrev pub needs_report : ℕ → ℕ → Reported → Bool
needs_report view regency r = is_needed view regency r.head.statement.view r.head.statement.regency

abbrev pub needs_sync : ℕ → ℕ → SignedBy Sync → Bool
needs_sync view regency sync = is_needed view regency sync.statement.view sync.statement.regency

-- STOPs of one signer for one view and regency
abbrev pub is_same_stop : SignedBy Stop → SignedBy Stop → Bool
is_same_stop a b = (b.signer == a.signer) && (b.statement.view == a.statement.view) && (b.statement.regency == a.statement.regency)

-- reports of one signer for one view and regency
abbrev pub is_same_report : SignedBy Report → Reported → Bool
is_same_report a b =
    (b.head.signer == a.signer) && (b.head.statement.view == a.statement.view) && (b.head.statement.regency == a.statement.regency)

-- SYNCs of one signer for one view and regency
abbrev pub is_same_sync : SignedBy Sync → SignedBy Sync → Bool
is_same_sync a b = (b.signer == a.signer) && (b.statement.view == a.statement.view) && (b.statement.regency == a.statement.regency)

-- a STOP of which one of the same signer, view and regency was kept
abbrev pub repeats_stop : Synchronizer → SignedBy Stop → Bool
repeats_stop s stop = list_any (is_same_stop stop) s.stops

-- a report of which one of the same signer, view and regency was kept
abbrev pub repeats_report : Synchronizer → SignedBy Report → Bool
repeats_report s report = list_any (is_same_report report) s.reports

-- a SYNC of which one of the same signer, view and regency was kept
abbrev pub repeats_sync : Synchronizer → SignedBy Sync → Bool
repeats_sync s sync = list_any (is_same_sync sync) s.syncs

-- a view and regency within reach: the view in force, and the regency in force or the next one
abbrev pub is_reached : Synchronizer → ℕ → ℕ → Bool
is_reached s v r = is_needed s.view.number s.regency v r && nat_le r (s.regency + 1)

-- A STOP that may be kept: its signer is a member, it asks for the next regency of the view in force, and it repeats none.
unfoldable pub keeps_stop : Synchronizer → SignedBy Stop → Bool
keeps_stop s stop =
    is_member s.view stop.signer && (is_reached s stop.statement.view stop.statement.regency && nat_lt s.regency stop.statement.regency)
    && not (repeats_stop s stop)

-- A report that may be kept: its signer is a member, its regency is within reach, and it repeats none.
unfoldable pub keeps_report : Synchronizer → Reported → Bool
keeps_report s r =
    is_member s.view r.head.signer && is_reached s r.head.statement.view r.head.statement.regency && not (repeats_report s r.head)

-- A SYNC that may be kept: its signer is a member, it is of the regency in force or a later one, and it repeats none.
unfoldable pub keeps_sync : Synchronizer → SignedBy Sync → Bool
keeps_sync s sync = is_member s.view sync.signer && needs_sync s.view.number s.regency sync && not (repeats_sync s sync)

-- ---- what is due

-- a member's STOP for a regency
abbrev pub is_stop : ℕ → ℕ → ℕ → SignedBy Stop → Bool
is_stop view regency member stop = (stop.signer == member) && (stop.statement.view == view) && (stop.statement.regency == regency)

-- a member whose regency has a next one; regencies are below 2^32
abbrev pub has_next : Synchronizer → Bool
has_next s = nat_lt (s.regency + 1) (2 ^ 32)

-- the members that ask for the next regency
abbrev pub stoppers : View → Synchronizer → List ℕ
stoppers view s = filter (λ member. list_any (is_stop view.number (s.regency + 1) member) s.stops) view.members

-- the condition of joining: more than f members ask for the next regency, and the member has not asked (Mod-SMaRt, EDCC 2012)
unfoldable pub is_joining : View → Synchronizer → Bool
is_joining view s = has_next s && not s.stop_made && nat_lt view.f (length (stoppers view s))

-- the condition of promising: 2f+1 members ask for the next regency (Mod-SMaRt, EDCC 2012)
unfoldable pub is_promising : View → Synchronizer → Bool
is_promising view s = has_next s && nat_le (stop_size view) (length (stoppers view s))

-- a member's report for a regency
abbrev pub is_report : ℕ → ℕ → ℕ → Reported → Bool
is_report view regency member r =
    (r.head.signer == member) && (r.head.statement.view == view) && (r.head.statement.regency == regency)

-- a member's first report for a regency
abbrev pub first_report : ℕ → ℕ → List Reported → ℕ → Option (SignedBy Report)
first_report view regency reports member = option_map (λ (r : Reported). r.head) (find (is_report view regency member) reports)

-- the members that reported for the member's regency
abbrev pub reporters : View → Synchronizer → List ℕ
reporters view s = filter (λ member. list_any (is_report view.number s.regency member) s.reports) view.members

-- the condition of leading: the member leads a regency that has not begun, has sent no SYNC, and n-f members have reported (Mod-SMaRt, EDCC
-- 2012)
abbrev pub is_collecting : View → Synchronizer → Bool
is_collecting view s =
    (leader view s.regency == s.id) && not (is_synced s) && not s.sync_made && nat_le (collect_size view) (length (reporters view s))

-- the collect: the first report of each of the first n-f members by number
abbrev pub collect : View → Synchronizer → List (SignedBy Report)
collect view s = take (collect_size view) (filter_map (first_report view.number s.regency s.reports) view.members)

-- the collect with which the member begins its regency, if it is to begin it
unfoldable pub collecting : View → Synchronizer → Option (List (SignedBy Report))
collecting view s = if is_collecting view s then Some (collect view s) else None

-- a rule that is due
abbrev pub is_due : View → Synchronizer → Rule → Bool
is_due view s Join = is_joining view s
is_due view s Promise = is_promising view s
is_due view s Collect = is_collecting view s

-- the first rule that is due
unfoldable pub due : View → Synchronizer → Option Rule
due view s = find (is_due view s) (Join ∷ Promise ∷ Collect ∷ [])

-- ---- the batch that binds

-- a lock, if there is one, for a digest
abbrev pub is_lock_of : List ℕ → Option LockCertificate → Bool
is_lock_of digest None = false
is_lock_of digest (Some lock) = same_bytes lock.digest digest

-- a report that is still needed, whose lock is for a digest, and which brings a batch
abbrev pub bears : View → Synchronizer → List ℕ → Reported → Bool
bears view s digest r = needs_report view.number s.regency r && is_lock_of digest r.head.statement.lock && is_some r.batch

abbrev pub batch_in : Option Reported → Option Batch
batch_in None = None
batch_in (Some r) = r.batch

-- the batch of a digest: that of the first report with such a lock
unfoldable pub batch_of : View → Synchronizer → List ℕ → Option Batch
batch_of view s digest = batch_in (find (bears view s digest) s.reports)

-- ---- what becomes of it

-- a member that has promised nothing in a view
abbrev pub begun : ℕ → View → Synchronizer
begun id view =
    record { id = id; view = view; regency = 0; synced = false; stop_made = false; sync_made = false; stops = []; reports = []; syncs = [] }

-- a member after a restart in a regency of a view
abbrev pub resumed : ℕ → View → ℕ → Bool → Synchronizer
resumed id view regency synced = record {
  id = id;
  view = view;
  regency = regency;
  synced = synced;
  stop_made = false;
  sync_made = false;
  stops = [];
  reports = [];
  syncs = [];
}

abbrev pub with_stop : SignedBy Stop → Synchronizer → Synchronizer
with_stop stop s = record s { stops = s.stops ++ stop ∷ [] }

abbrev pub with_report : SignedBy Report → Option Batch → Synchronizer → Synchronizer
with_report report batch s = record s { reports = s.reports ++ record { head = report; batch = batch } ∷ [] }

abbrev pub with_sync : SignedBy Sync → Synchronizer → Synchronizer
with_sync sync s = record s { syncs = s.syncs ++ sync ∷ [] }

-- The member to which a STOP came. A STOP that may not be kept leaves it as it was.
abbrev pub keeping_stop : SignedBy Stop → Synchronizer → Synchronizer
keeping_stop stop s = if keeps_stop s stop then with_stop stop s else s

-- the member to which a report came, with the batch of its lock
abbrev pub keeping_report : SignedBy Report → Option Batch → Synchronizer → Synchronizer
keeping_report report batch s = if keeps_report s (record { head = report; batch = batch }) then with_report report batch s else s

-- the member to which a SYNC came
abbrev pub keeping_sync : SignedBy Sync → Synchronizer → Synchronizer
keeping_sync sync s = if keeps_sync s sync then with_sync sync s else s

-- a member after it has adopted the beginning of a regency
abbrev pub adopted : ℕ → Synchronizer → Synchronizer
adopted regency s = record s {
  regency = regency;
  synced = true;
  stop_made = s.stop_made && (regency == s.regency);
  sync_made = s.sync_made && (regency == s.regency);
}

-- a member after it has asked for the next regency
abbrev pub stopped : Synchronizer → Synchronizer
stopped s = record s { stop_made = true }

-- a member after it has promised the next regency, whose leader has to begin it
abbrev pub promised : Synchronizer → Synchronizer
promised s = record s { regency = s.regency + 1; synced = false; stop_made = false; sync_made = false }

-- a member after it has promised a later regency, which its book may already have begun
abbrev pub promised_to : ℕ → Bool → Synchronizer → Synchronizer
promised_to regency begun s = record s { regency = regency; synced = begun; stop_made = false; sync_made = false }

-- a member after it has sent its SYNC
abbrev pub led : Synchronizer → Synchronizer
led s = record s { sync_made = true }

-- a member after another view came into force, in which it has promised nothing
abbrev pub moved : View → Synchronizer → Synchronizer
moved view s = record s { view = view; regency = 0; synced = false; stop_made = false; sync_made = false }

-- a member after it took over a replica, in its view, with the regency in force there; what was kept, and what it did, stays
abbrev pub taken_to : View → ℕ → Bool → Synchronizer → Synchronizer
taken_to view regency synced s = record s { view = view; regency = regency; synced = synced }

-- a member without what is of another view or an earlier regency
unfoldable pub trimmed : View → Synchronizer → Synchronizer
trimmed view s = record s {
  stops = filter (needs_stop view.number s.regency) s.stops;
  reports = filter (needs_report view.number s.regency) s.reports;
  syncs = filter (needs_sync view.number s.regency) s.syncs;
}

-- a member that kept nothing of a view
pub record HasNothingOf (view : ℕ) (s : Synchronizer) : Type 0 where
  pub no_stops : Each (λ (m : SignedBy Stop). (m.statement.view == view) ≡ false) s.stops
  pub no_reports : Each (λ (m : Reported). (m.head.statement.view == view) ≡ false) s.reports
  pub no_syncs : Each (λ (m : SignedBy Sync). (m.statement.view == view) ≡ false) s.syncs
