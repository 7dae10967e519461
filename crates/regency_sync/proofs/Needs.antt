-- What a member finds among what it still needs alone.
use Rattle.std.proofs.Common.{◌≡◌, ℕ, ◌+◌, ◌≤◌, ◌==◌, ◌&&◌, nat_lt, nat_le, not, is_some, Bool, true, false, cond, List, [], ◌∷◌, length, take, Option, Some, None, option_map, refl, ap, sym, ◌∙◌, arith}
use Rattle.std.specs.Prelude.{filter}
use Rattle.std.specs.List.{list_any}
use Rattle.std.proofs.lemmas.Bool.{eqb-true, leb-true, le-leb, and_parts, and_left}
use Rattle.smart_base.specs.Lists.{Each}
use Rattle.smart_base.specs.Views.{View, is_member, leader}
use Rattle.smart_view.specs.Sizes.{collect_size, stop_size}
use Rattle.smart_statements.specs.Forms.{SignedBy}
use Rattle.smart_statements.specs.Batches.{Batch}
use Rattle.smart_statements.specs.declared.report.Report.{Report}
use Rattle.smart_messages.specs.declared.regency.Stop.{Stop}
use Rattle.smart_messages.specs.declared.regency.Sync.{Sync}
use Rattle.smart_messages.specs.declared.regency.Reported.{Reported}
use Rattle.regency_sync.specs.declared.rule.Rule.{Rule}
use Rattle.regency_sync.specs.declared.rule.Rule.TheVariants.{Join, Promise, Collect}
use Rattle.regency_sync.specs.Synchronizers.{Synchronizer, is_synced, is_needed, needs_stop, needs_report, needs_sync, is_same_stop, is_same_report, is_same_sync, repeats_stop, repeats_report, repeats_sync, is_reached, keeps_stop, keeps_report, keeps_sync, is_stop, has_next, stoppers, is_joining, is_promising, is_report, first_report, reporters, is_collecting, collect, collecting, is_due, due, is_lock_of, bears, batch_in, batch_of, with_stop, with_report, with_sync, keeping_stop, keeping_report, keeping_sync, adopted, stopped, promised, led, moved, trimmed, HasNothingOf}
use Rattle.regency_sync.proofs.Lists.{any_filter, find_filter, filter_filter, filter_end, filter_none, each_filter, each_as, filter_alike, find_alike, filter_map_alike}

-- ---- which are needed

needed_from : (view regency v r : ℕ) → (v == view) ≡ true → regency ≤ r → is_needed view regency v r ≡ true
needed_from view regency v r same le = rw (same, le-leb regency r le) refl

pub needed_earlier : (view regency later v r : ℕ) → regency ≤ later → is_needed view later v r ≡ true → is_needed view regency v r ≡ true
needed_earlier view regency later v r le is =
    let parts = and_parts (v == view) (nat_le later r) is in
    needed_from view regency v r parts.0 (omega (arith, le, leb-true later r parts.1))

-- of the same view and regency as what is needed
needed_alike : (view regency v r w q : ℕ) → is_needed view regency v r ≡ true → (w == v) ≡ true → (q == r) ≡ true → is_needed view regency w q ≡ true
needed_alike view regency v r w q is same also =
    let e : w ≡ v = eqb-true w v same in
    let f : q ≡ r = eqb-true q r also in
    rw (e, f) is

stop_needed : (view regency later member : ℕ) → regency ≤ later → (x : SignedBy Stop) → is_stop view later member x ≡ true
    → needs_stop view regency x ≡ true
stop_needed view regency later member le x is =
    let parts = and_parts ((x.signer == member) && (x.statement.view == view)) (x.statement.regency == later) is in
    let first = and_parts (x.signer == member) (x.statement.view == view) parts.0 in
    needed_from view regency x.statement.view x.statement.regency first.1 (omega (arith, le, eqb-true x.statement.regency later parts.1))

report_needed : (view regency member : ℕ) → (x : Reported) → is_report view regency member x ≡ true → needs_report view regency x ≡ true
report_needed view regency member x is =
    let parts = and_parts ((x.head.signer == member) && (x.head.statement.view == view)) (x.head.statement.regency == regency) is in
    let first = and_parts (x.head.signer == member) (x.head.statement.view == view) parts.0 in
    needed_from view regency x.head.statement.view x.head.statement.regency first.1 (omega (arith, eqb-true x.head.statement.regency regency parts.1))

-- ---- what is due

stoppers_same : (view : View) (s : Synchronizer) → stoppers view (trimmed view s) ≡ stoppers view s
unfolding trimmed
stoppers_same view s =
    filter_alike (λ member. list_any (is_stop view.number (s.regency + 1) member) (filter (needs_stop view.number s.regency) s.stops))
    (λ member. list_any (is_stop view.number (s.regency + 1) member) s.stops)
    (λ member. any_filter (is_stop view.number (s.regency + 1) member) (needs_stop view.number s.regency)
    (λ x is. stop_needed view.number s.regency (s.regency + 1) member (omega arith) x is) s.stops) view.members

pub join_same : (view : View) (s : Synchronizer) → is_joining view (trimmed view s) ≡ is_joining view s
unfolding is_joining trimmed
join_same view s = ap (λ (ms : List ℕ). has_next s && not s.stop_made && nat_lt view.f (length ms)) (stoppers_same view s)

pub promise_same : (view : View) (s : Synchronizer) → is_promising view (trimmed view s) ≡ is_promising view s
unfolding is_promising trimmed
promise_same view s = ap (λ (ms : List ℕ). has_next s && nat_le (stop_size view) (length ms)) (stoppers_same view s)

reporters_same : (view : View) (s : Synchronizer) → reporters view (trimmed view s) ≡ reporters view s
unfolding trimmed
reporters_same view s =
    filter_alike (λ member. list_any (is_report view.number s.regency member) (filter (needs_report view.number s.regency) s.reports))
    (λ member. list_any (is_report view.number s.regency member) s.reports)
    (λ member. any_filter (is_report view.number s.regency member) (needs_report view.number s.regency)
    (λ x is. report_needed view.number s.regency member x is) s.reports) view.members

leads_same : (view : View) (s : Synchronizer) → is_collecting view (trimmed view s) ≡ is_collecting view s
unfolding trimmed
leads_same view s =
    ap (λ (ms : List ℕ). (leader view s.regency == s.id) && not (is_synced s) && not s.sync_made && nat_le (collect_size view) (length ms))
    (reporters_same view s)

report_same : (view : View) (s : Synchronizer) (member : ℕ)
    → first_report view.number (trimmed view s).regency (trimmed view s).reports member ≡ first_report view.number s.regency s.reports member
unfolding trimmed
report_same view s member =
    ap (option_map (λ (r : Reported). r.head))
    (find_filter (is_report view.number s.regency member) (needs_report view.number s.regency)
    (λ x is. report_needed view.number s.regency member x is) s.reports)

collect_same : (view : View) (s : Synchronizer) → collect view (trimmed view s) ≡ collect view s
collect_same view s =
    ap (take (collect_size view))
    (filter_map_alike (first_report view.number (trimmed view s).regency (trimmed view s).reports) (first_report view.number s.regency s.reports)
    (report_same view s) view.members)

pub collecting_same : (view : View) (s : Synchronizer) → collecting view (trimmed view s) ≡ collecting view s
unfolding collecting
collecting_same view s =
    ap (λ (t : Bool). cond t (Some (collect view (trimmed view s))) None) (leads_same view s)
    ∙ ap (λ (rs : List (SignedBy Report)). cond (is_collecting view s) (Some rs) None) (collect_same view s)

rule_same : (view : View) (s : Synchronizer) (rule : Rule) → is_due view (trimmed view s) rule ≡ is_due view s rule
rule_same view s Join = join_same view s
rule_same view s Promise = promise_same view s
rule_same view s Collect = leads_same view s

pub due_same : (view : View) (s : Synchronizer) → due view (trimmed view s) ≡ due view s
unfolding due
due_same view s = find_alike (is_due view (trimmed view s)) (is_due view s) (rule_same view s) (Join ∷ Promise ∷ Collect ∷ [])

pub batch_same : (view : View) (s : Synchronizer) (digest : List ℕ) → batch_of view (trimmed view s) digest ≡ batch_of view s digest
unfolding batch_of trimmed
batch_same view s digest =
    ap batch_in (find_filter (bears view s digest) (needs_report view.number s.regency)
    (λ x is.
    let parts = and_parts (needs_report view.number s.regency x && is_lock_of digest x.head.statement.lock) (is_some x.batch) is in
    (and_parts (needs_report view.number s.regency x) (is_lock_of digest x.head.statement.lock) parts.0).0) s.reports)

-- ---- what repeats

pub stop_repeats : (view : View) (s : Synchronizer) (stop : SignedBy Stop) → needs_stop view.number s.regency stop ≡ true
    → repeats_stop (trimmed view s) stop ≡ repeats_stop s stop
unfolding trimmed
stop_repeats view s stop needed =
    any_filter (is_same_stop stop) (needs_stop view.number s.regency)
    (λ x is.
    let parts = and_parts ((x.signer == stop.signer) && (x.statement.view == stop.statement.view)) (x.statement.regency == stop.statement.regency) is in
    let first = and_parts (x.signer == stop.signer) (x.statement.view == stop.statement.view) parts.0 in
    needed_alike view.number s.regency stop.statement.view stop.statement.regency x.statement.view x.statement.regency needed first.1 parts.1) s.stops

pub report_repeats : (view : View) (s : Synchronizer) (r : Reported) → needs_report view.number s.regency r ≡ true
    → repeats_report (trimmed view s) r.head ≡ repeats_report s r.head
unfolding trimmed
report_repeats view s r needed =
    any_filter (is_same_report r.head) (needs_report view.number s.regency)
    (λ x is.
    let parts = and_parts ((x.head.signer == r.head.signer) && (x.head.statement.view == r.head.statement.view))
    (x.head.statement.regency == r.head.statement.regency) is in
    let first = and_parts (x.head.signer == r.head.signer) (x.head.statement.view == r.head.statement.view) parts.0 in
    needed_alike view.number s.regency r.head.statement.view r.head.statement.regency x.head.statement.view x.head.statement.regency needed first.1 parts.1) s.reports

pub sync_repeats : (view : View) (s : Synchronizer) (sync : SignedBy Sync) → needs_sync view.number s.regency sync ≡ true
    → repeats_sync (trimmed view s) sync ≡ repeats_sync s sync
unfolding trimmed
sync_repeats view s sync needed =
    any_filter (is_same_sync sync) (needs_sync view.number s.regency)
    (λ x is.
    let parts = and_parts ((x.signer == sync.signer) && (x.statement.view == sync.statement.view)) (x.statement.regency == sync.statement.regency) is in
    let first = and_parts (x.signer == sync.signer) (x.statement.view == sync.statement.view) parts.0 in
    needed_alike view.number s.regency sync.statement.view sync.statement.regency x.statement.view x.statement.regency needed first.1 parts.1) s.syncs

-- ---- what becomes of it

same_lists : (s : Synchronizer) {ts us : List (SignedBy Stop)} {ps qs : List Reported} {ys zs : List (SignedBy Sync)} → ts ≡ us → ps ≡ qs → ys ≡ zs
    → record s { stops = ts; reports = ps; syncs = ys } ≡ record s { stops = us; reports = qs; syncs = zs }
same_lists s t p y = rw (t, p, y) refl

with_stop_same : (view : View) (s : Synchronizer) (stop : SignedBy Stop) → needs_stop view.number s.regency stop ≡ true
    → with_stop stop (trimmed view s) ≡ trimmed view (with_stop stop s)
unfolding trimmed
with_stop_same view s stop needed = same_lists s (filter_end (needs_stop view.number s.regency) s.stops stop needed) refl refl

with_report_same : (view : View) (s : Synchronizer) (r : Reported) → needs_report view.number s.regency r ≡ true
    → with_report r.head r.batch (trimmed view s) ≡ trimmed view (with_report r.head r.batch s)
unfolding trimmed
with_report_same view s r needed = same_lists s refl (filter_end (needs_report view.number s.regency) s.reports r needed) refl

with_sync_same : (view : View) (s : Synchronizer) (sync : SignedBy Sync) → needs_sync view.number s.regency sync ≡ true
    → with_sync sync (trimmed view s) ≡ trimmed view (with_sync sync s)
unfolding trimmed
with_sync_same view s sync needed = same_lists s refl refl (filter_end (needs_sync view.number s.regency) s.syncs sync needed)

-- ---- what is kept

-- two tests of what passes a first one, which agree there
agree_where : (a b c : Bool) → (a ≡ true → b ≡ c) → (a && not b) ≡ (a && not c)
agree_where true b c same = ap not (same refl)
agree_where false b c same = refl

kept_or_left : (view : View) (s whole less : Synchronizer) (t : Bool) → (t ≡ true → less ≡ trimmed view whole)
    → cond t less (trimmed view s) ≡ trimmed view (cond t whole s)
kept_or_left view s whole less true same = same refl
kept_or_left view s whole less false same = refl

abbrev may_stop : Synchronizer → SignedBy Stop → Bool
may_stop s stop = is_member s.view stop.signer && (is_reached s stop.statement.view stop.statement.regency && nat_lt s.regency stop.statement.regency)

may_stop_needed : (s : Synchronizer) (stop : SignedBy Stop) → may_stop s stop ≡ true → needs_stop s.view.number s.regency stop ≡ true
may_stop_needed s stop may =
    let reach = is_reached s stop.statement.view stop.statement.regency in
    let later = nat_lt s.regency stop.statement.regency in
    let parts = and_parts (is_member s.view stop.signer) (reach && later) may in
    let within = and_parts reach later parts.1 in
    (and_parts (needs_stop s.view.number s.regency stop) (nat_le stop.statement.regency (s.regency + 1)) within.0).0

keeps_stop_same : (s : Synchronizer) (stop : SignedBy Stop) → keeps_stop (trimmed s.view s) stop ≡ keeps_stop s stop
unfolding keeps_stop trimmed
keeps_stop_same s stop =
    agree_where (may_stop s stop) (repeats_stop (trimmed s.view s) stop) (repeats_stop s stop)
    (λ may. stop_repeats s.view s stop (may_stop_needed s stop may))

keeps_stop_needed : (s : Synchronizer) (stop : SignedBy Stop) → keeps_stop s stop ≡ true → needs_stop s.view.number s.regency stop ≡ true
unfolding keeps_stop
keeps_stop_needed s stop kept = may_stop_needed s stop (and_parts (may_stop s stop) (not (repeats_stop s stop)) kept).0

pub keeping_stop_same : (s : Synchronizer) (stop : SignedBy Stop) → keeping_stop stop (trimmed s.view s) ≡ trimmed s.view (keeping_stop stop s)
keeping_stop_same s stop =
    ap (λ t. cond t (with_stop stop (trimmed s.view s)) (trimmed s.view s)) (keeps_stop_same s stop)
    ∙ kept_or_left s.view s (with_stop stop s) (with_stop stop (trimmed s.view s)) (keeps_stop s stop)
    (λ kept. with_stop_same s.view s stop (keeps_stop_needed s stop kept))

abbrev may_report : Synchronizer → Reported → Bool
may_report s r = is_member s.view r.head.signer && is_reached s r.head.statement.view r.head.statement.regency

may_report_needed : (s : Synchronizer) (r : Reported) → may_report s r ≡ true → needs_report s.view.number s.regency r ≡ true
may_report_needed s r may =
    let parts = and_parts (is_member s.view r.head.signer) (is_reached s r.head.statement.view r.head.statement.regency) may in
    (and_parts (needs_report s.view.number s.regency r) (nat_le r.head.statement.regency (s.regency + 1)) parts.1).0

keeps_report_same : (s : Synchronizer) (r : Reported) → keeps_report (trimmed s.view s) r ≡ keeps_report s r
unfolding keeps_report trimmed
keeps_report_same s r =
    agree_where (may_report s r) (repeats_report (trimmed s.view s) r.head) (repeats_report s r.head)
    (λ may. report_repeats s.view s r (may_report_needed s r may))

keeps_report_needed : (s : Synchronizer) (r : Reported) → keeps_report s r ≡ true → needs_report s.view.number s.regency r ≡ true
unfolding keeps_report
keeps_report_needed s r kept = may_report_needed s r (and_parts (may_report s r) (not (repeats_report s r.head)) kept).0

pub keeping_report_same : (s : Synchronizer) (report : SignedBy Report) (batch : Option Batch)
    → keeping_report report batch (trimmed s.view s) ≡ trimmed s.view (keeping_report report batch s)
keeping_report_same s report batch =
    let r : Reported = record { head = report; batch = batch } in
    ap (λ t. cond t (with_report report batch (trimmed s.view s)) (trimmed s.view s)) (keeps_report_same s r)
    ∙ kept_or_left s.view s (with_report report batch s) (with_report report batch (trimmed s.view s)) (keeps_report s r)
    (λ kept. with_report_same s.view s r (keeps_report_needed s r kept))

abbrev may_sync : Synchronizer → SignedBy Sync → Bool
may_sync s sync = is_member s.view sync.signer && needs_sync s.view.number s.regency sync

may_sync_needed : (s : Synchronizer) (sync : SignedBy Sync) → may_sync s sync ≡ true → needs_sync s.view.number s.regency sync ≡ true
may_sync_needed s sync may = (and_parts (is_member s.view sync.signer) (needs_sync s.view.number s.regency sync) may).1

keeps_sync_same : (s : Synchronizer) (sync : SignedBy Sync) → keeps_sync (trimmed s.view s) sync ≡ keeps_sync s sync
unfolding keeps_sync trimmed
keeps_sync_same s sync =
    agree_where (may_sync s sync) (repeats_sync (trimmed s.view s) sync) (repeats_sync s sync)
    (λ may. sync_repeats s.view s sync (may_sync_needed s sync may))

keeps_sync_needed : (s : Synchronizer) (sync : SignedBy Sync) → keeps_sync s sync ≡ true → needs_sync s.view.number s.regency sync ≡ true
unfolding keeps_sync
keeps_sync_needed s sync kept = may_sync_needed s sync (and_parts (may_sync s sync) (not (repeats_sync s sync)) kept).0

pub keeping_sync_same : (s : Synchronizer) (sync : SignedBy Sync) → keeping_sync sync (trimmed s.view s) ≡ trimmed s.view (keeping_sync sync s)
keeping_sync_same s sync =
    ap (λ t. cond t (with_sync sync (trimmed s.view s)) (trimmed s.view s)) (keeps_sync_same s sync)
    ∙ kept_or_left s.view s (with_sync sync s) (with_sync sync (trimmed s.view s)) (keeps_sync s sync)
    (λ kept. with_sync_same s.view s sync (keeps_sync_needed s sync kept))

-- ---- what the member has done

pub stopped_same : (view : View) (s : Synchronizer) → stopped (trimmed view s) ≡ trimmed view (stopped s)
unfolding trimmed
stopped_same view s = refl

pub led_same : (view : View) (s : Synchronizer) → led (trimmed view s) ≡ trimmed view (led s)
unfolding trimmed
led_same view s = refl

-- what is needed in a regency is among what is needed in an earlier one

stops_twice : (view regency later : ℕ) → regency ≤ later → (xs : List (SignedBy Stop))
    → filter (needs_stop view later) (filter (needs_stop view regency) xs) ≡ filter (needs_stop view later) xs
stops_twice view regency later le xs =
    filter_filter (needs_stop view later) (needs_stop view regency)
    (λ x is. needed_earlier view regency later x.statement.view x.statement.regency le is) xs

reports_twice : (view regency later : ℕ) → regency ≤ later → (xs : List Reported)
    → filter (needs_report view later) (filter (needs_report view regency) xs) ≡ filter (needs_report view later) xs
reports_twice view regency later le xs =
    filter_filter (needs_report view later) (needs_report view regency)
    (λ x is. needed_earlier view regency later x.head.statement.view x.head.statement.regency le is) xs

syncs_twice : (view regency later : ℕ) → regency ≤ later → (xs : List (SignedBy Sync))
    → filter (needs_sync view later) (filter (needs_sync view regency) xs) ≡ filter (needs_sync view later) xs
syncs_twice view regency later le xs =
    filter_filter (needs_sync view later) (needs_sync view regency)
    (λ x is. needed_earlier view regency later x.statement.view x.statement.regency le is) xs

pub adopted_same : (view : View) (s : Synchronizer) (regency : ℕ) → s.regency ≤ regency
    → trimmed view (adopted regency (trimmed view s)) ≡ trimmed view (adopted regency s)
unfolding trimmed
adopted_same view s regency le =
    same_lists (adopted regency s) (stops_twice view.number s.regency regency le s.stops)
    (reports_twice view.number s.regency regency le s.reports) (syncs_twice view.number s.regency regency le s.syncs)

pub promised_same : (view : View) (s : Synchronizer) → trimmed view (promised (trimmed view s)) ≡ trimmed view (promised s)
unfolding trimmed
promised_same view s =
    let le : s.regency ≤ s.regency + 1 = omega arith in
    same_lists (promised s) (stops_twice view.number s.regency (s.regency + 1) le s.stops)
    (reports_twice view.number s.regency (s.regency + 1) le s.reports) (syncs_twice view.number s.regency (s.regency + 1) le s.syncs)

-- where nothing is of a view, nothing is needed in it, whatever was dropped

none_twice : {A : Type 0} (p q : A → Bool) (xs : List A) → Each (λ x. p x ≡ false) xs → filter p (filter q xs) ≡ filter p xs
none_twice p q xs all = filter_none p (filter q xs) (each_filter (λ x. p x ≡ false) q xs all) ∙ sym (filter_none p xs all)

pub moved_same : (old new : View) (s : Synchronizer) → HasNothingOf new.number s → trimmed new (moved new (trimmed old s)) ≡ trimmed new (moved new s)
unfolding trimmed
moved_same old new s none =
    same_lists (moved new s)
    (none_twice (needs_stop new.number 0) (needs_stop old.number s.regency) s.stops
    (each_as (λ (x : SignedBy Stop). (x.statement.view == new.number) ≡ false) (λ x. needs_stop new.number 0 x ≡ false)
    (λ x is. and_left (x.statement.view == new.number) (nat_le 0 x.statement.regency) is) s.stops none.no_stops))
    (none_twice (needs_report new.number 0) (needs_report old.number s.regency) s.reports
    (each_as (λ (x : Reported). (x.head.statement.view == new.number) ≡ false) (λ x. needs_report new.number 0 x ≡ false)
    (λ x is. and_left (x.head.statement.view == new.number) (nat_le 0 x.head.statement.regency) is) s.reports none.no_reports))
    (none_twice (needs_sync new.number 0) (needs_sync old.number s.regency) s.syncs
    (each_as (λ (x : SignedBy Sync). (x.statement.view == new.number) ≡ false) (λ x. needs_sync new.number 0 x ≡ false)
    (λ x is. and_left (x.statement.view == new.number) (nat_le 0 x.statement.regency) is) s.syncs none.no_syncs))
