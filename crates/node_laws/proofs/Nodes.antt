-- A node stays sound where it changes in part.
use Rattle.std.proofs.Common.{Bool, List, None, Option, ap, arith, false, length, max, subst, sym, take, true, ℕ, ◌≡◌, ◌≤◌, ◌⊎◌, ◌+◌, ◌++◌, ◌∷◌, [], ◌∙◌, ◌&&◌}
use Rattle.std.proofs.lemmas.List.{take_all}
use Rattle.std.specs.Prelude.{IfSome, if◌then◌else◌}
use Rattle.replica_rules.specs.Seals.{digest_of, is_verified}
use Rattle.agreement_laws.specs.Diaries.{HasReached, IsShown}
use Rattle.agreement_laws.specs.Statements.{Statement, signer_of, statements}
use Rattle.node_rules.specs.Arrivals.{is_collect, is_proven}
use Rattle.node_rules.specs.Nodes.{Node, decided_place, entered, holding, next_place, recording, regency_of, view_of}
use Rattle.node_rules.specs.declared.node.Held.{Held}
use Rattle.node_rules.specs.declared.node.Target.{Target}
use Rattle.smart_service.specs.Tables.{kept_in}
use Rattle.smart_base.specs.Lists.{Each, or_else}
use Rattle.smart_base.specs.Views.{View, is_view}
use Rattle.smart_base.specs.declared.party.Party.TheVariants.{Member}
use Rattle.smart_statements.specs.Forms.{SignedBy}
use Rattle.smart_statements.specs.Batches.{Batch}
use Rattle.smart_messages.specs.Regencies.{stops, syncs}
use Rattle.smart_statements.specs.Reports.{reports, marks}
use Rattle.transfer_form.specs.declared.transfer.ProvenBatch.{ProvenBatch}
use Rattle.transfer_form.specs.declared.transfer.StateOffer.{StateOffer}
use Rattle.state_transfer.specs.declared.fetch.Fetch.{Fetch}
use Rattle.smart_messages.specs.declared.message.Message.{Message}
use Rattle.smart_statements.specs.declared.report.Mark.{Mark}
use Rattle.smart_messages.specs.declared.regency.Reported.{Reported}
use Rattle.smart_messages.specs.declared.regency.Stop.{Stop}
use Rattle.smart_messages.specs.declared.regency.Sync.{Sync}
use Rattle.smart_statements.specs.declared.statement.Request.{Request}
use Rattle.smart_statements.specs.declared.statement.Slot.{Slot}
use Rattle.vote_book.proofs.Growth.{grows}
use Rattle.vote_book.proofs.Last.{last_push, latest_push}
use Rattle.vote_book.proofs.Tidy.{grows_tidy}
use Rattle.vote_book.specs.Books.{Admits, Among, last_made, latest_made, number_or, place_made}
use Rattle.vote_book.specs.Tidy.{IsTidyAfter}
use Rattle.vote_book.specs.declared.entry.LogEntry.{LogEntry}
use Rattle.node_laws.proofs.Books.{begun_push, decided_push, held_push, late_push, least_decided, promises_known, ranged_push, reached_push, within_more, within_push}
use Rattle.node_laws.proofs.Views.{in_force_among, in_force_known, in_force_next, in_force_valid, known_most, number_once, numbered_has, of_number}
use Rattle.node_laws.specs.Sound.{AreAsked, AreLate, ArePromisedUpTo, HasBatch, HasDecided, InForce, IsBackedIn, IsHeld, IsIn, IsKept, IsKnown, IsMembers, IsNewest, IsPast, IsPlanned, IsShownIn, IsSound, IsStated, IsWithin, place_if}
use Rattle.smart_messages.specs.declared.message.Message.TheVariants as changes
use Rattle.agreement_laws.proofs.Lists.{each_end}
use Rattle.smart_base.proofs.ViewFacts.{each-weaken}

-- ---- what is kept

abbrev pub Arrived : List ℕ → List Statement → View → Message → Type 0
Arrived secret stated view m = IsKept secret view m × IsStated secret stated m

abbrev pub StopKept : List ℕ → List Statement → View → SignedBy Stop → Type 0
StopKept secret stated view s = InForce view s.statement.view (IsMembers view (is_verified stops secret s) s.signer) × IsStated secret stated (changes.Stop s)

abbrev pub ReportKept : {S : Type 0} → Node S → List Statement → Reported → Type 0
ReportKept n stated r =
    InForce (view_of n) r.head.statement.view (IsMembers (view_of n) (is_verified reports n.secret r.head) r.head.signer × (is_proven n r ≡ true)) × IsStated n.secret stated (changes.StopData r)

abbrev pub SyncKept : {S : Type 0} → Node S → List Statement → SignedBy Sync → Type 0
SyncKept n stated s =
    InForce (view_of n) s.statement.view (IsMembers (view_of n) (is_verified syncs n.secret s) s.signer × (is_collect n s.statement ≡ true)) × IsStated n.secret stated (changes.Sync s)

-- by the next place and the view in force
abbrev pub DecisionKept : List ℕ → List Statement → ℕ → View → ProvenBatch → Type 0
DecisionKept secret stated place view d = IsStated secret stated (changes.Decision d) × (d.place ≤ place) × (d.place ≡ place → IsShownIn secret view d)

abbrev pub OfferKept : List ℕ → List Statement → StateOffer → Type 0
OfferKept secret stated o = IsStated secret stated (changes.StateOffer o) × Each (λ m. is_verified marks secret m ≡ true) o.marks

abbrev pub MarkKept : List ℕ → List Statement → SignedBy Mark → Type 0
MarkKept secret stated m = (is_verified marks secret m ≡ true) × IsStated secret stated (changes.Mark m)

abbrev pub PlanKept : List ℕ → List Statement → List View → Option Fetch → Type 0
PlanKept secret stated views fetch = IfSome fetch (λ f. IsPlanned secret views stated f.plan)

-- ---- what is held, and what the law says nothing of

pub aside : {S : Type 0} (stated : List Statement) (view : View) (n : Node S) (firm : ℕ) (held : List Held) (proposed : List Slot) (stop_made sync_made impatient behind : Bool)
    → IsSound stated view n → Each (IsHeld n.secret n.id stated n.entries) held → AreLate n.secret stated n.restored n.entries held
    → IsSound stated view (record n { firm = firm; held = held; proposed = proposed; stop_made = stop_made; sync_made = sync_made; impatient = impatient; behind = behind })
unfolding regency_of is_proven is_collect
aside stated view n firm held proposed stop_made sync_made impatient behind is shown late = record {
  views = is.views;
  begun = is.begun;
  lawful = is.lawful;
  tidy = is.tidy;
  last = is.last;
  latest = is.latest;
  within = is.within;
  ranged = is.ranged;
  backed = is.backed;
  batches = is.batches;
  waiting = is.waiting;
  table = is.table;
  arrivals = is.arrivals;
  stops = is.stops;
  reports = is.reports;
  syncs = is.syncs;
  decisions = is.decisions;
  offers = is.offers;
  marked = is.marked;
  fetch = is.fetch;
  pool = is.pool;
  held = shown;
  late = late;
}

-- a message is held: each statement in it has been stated, or is the member's own and shown by the entries so far
abbrev pub Shows : {S : Type 0} → List Statement → Node S → Statement → Type 0
Shows stated n s = Among s stated ⊎ ((signer_of s ≡ Member n.id) × IsShown digest_of n.entries s)

-- a statement of a message that is held: it has been stated, or is no report of a regency that a restored entry promises
abbrev pub Late : {S : Type 0} → List Statement → Node S → Statement → Type 0
Late stated n s = Among s stated ⊎ IsPast (take n.restored n.entries) s

pub held_now : {S : Type 0} (stated : List Statement) (n : Node S) (to : Target) (m : Message) → Each (Shows stated n) (statements n.secret m)
    → IsHeld n.secret n.id stated n.entries (record { to = to; message = m; needs = length n.entries })
held_now stated n to m shown = record {
  needs = omega arith;
  shown = subst (λ (front : List LogEntry). Each (λ s. Among s stated ⊎ ((signer_of s ≡ Member n.id) × IsShown digest_of front s)) (statements n.secret m))
      (sym (take_all (length n.entries) n.entries (omega arith))) shown;
}

pub holds : {S : Type 0} (stated : List Statement) (view : View) (n : Node S) (to : Target) (m : Message) → IsSound stated view n → Each (Shows stated n) (statements n.secret m)
    → Each (Late stated n) (statements n.secret m)
    → IsSound stated view (holding n to m)
holds stated view n to m is shown late =
    let h : Held = record { to = to; message = m; needs = length n.entries } in
    aside stated view n n.firm (n.held ++ h ∷ []) n.proposed n.stop_made n.sync_made n.impatient n.behind is
    (each_end (IsHeld n.secret n.id stated n.entries) n.held h is.held (held_now stated n to m shown))
    (record { few = is.late.few; each = each_end (λ (x : Held). Each (Late stated n) (statements n.secret x.message)) n.held h is.late.each late })

-- ---- what comes

pub keeps : {S : Type 0} (stated : List Statement) (view : View) (n : Node S) (pool : List (SignedBy Request)) (arrivals : List Message)
    (ss : List (SignedBy Stop)) (rs : List Reported) (ys : List (SignedBy Sync)) (behind : Bool)
    → IsSound stated view n → AreAsked n.secret stated pool → Each (Arrived n.secret stated (view_of n)) arrivals → Each (StopKept n.secret stated (view_of n)) ss
    → Each (ReportKept n stated) rs → Each (SyncKept n stated) ys
    → IsSound stated view (record n { pool = pool; arrivals = arrivals; stops = ss; reports = rs; syncs = ys; behind = behind })
unfolding regency_of is_proven is_collect
keeps stated view n pool arrivals ss rs ys behind is asked kept_arrivals kept_stops kept_reports kept_syncs = record {
  views = is.views;
  begun = is.begun;
  lawful = is.lawful;
  tidy = is.tidy;
  last = is.last;
  latest = is.latest;
  within = is.within;
  ranged = is.ranged;
  backed = is.backed;
  batches = is.batches;
  waiting = is.waiting;
  table = is.table;
  arrivals = kept_arrivals;
  stops = kept_stops;
  reports = kept_reports;
  syncs = kept_syncs;
  decisions = is.decisions;
  offers = is.offers;
  marked = is.marked;
  fetch = is.fetch;
  pool = asked;
  held = is.held;
  late = is.late;
}

-- what stays, where all does or nothing does
if_stays : {A : Type 0} (P : A → Type 0) (stays : Bool) (xs : List A) → Each P xs → Each P (if stays then xs else [])
if_stays P true xs all = all
if_stays P false xs all = tt

-- the node in its view, or in one that has just begun
pub sound_entered : {S : Type 0} (stated : List Statement) (view : View) (stays : Bool) (n : Node S) → IsSound stated view n → IsSound stated view (entered stays n)
sound_entered {S = S} stated view stays n is =
    let kept : Node S = record n {
      arrivals = if stays then n.arrivals else [];
      stops = if stays then n.stops else [];
      reports = if stays then n.reports else [];
      syncs = if stays then n.syncs else [];
    } in
    let sound : IsSound stated view kept =
    keeps stated view n n.pool kept.arrivals kept.stops kept.reports kept.syncs n.behind is is.pool (if_stays (Arrived n.secret stated (view_of n)) stays n.arrivals is.arrivals)
    (if_stays (StopKept n.secret stated (view_of n)) stays n.stops is.stops) (if_stays (ReportKept n stated) stays n.reports is.reports) (if_stays (SyncKept n stated) stays n.syncs is.syncs) in
    aside stated view kept n.firm n.held (if stays then n.proposed else []) (n.stop_made && stays) (n.sync_made && stays) n.impatient n.behind sound sound.held sound.late

-- other decisions that were shown, offers, marks and another plan
pub transfers : {S : Type 0} (stated : List Statement) (view : View) (n : Node S) (shown : List ProvenBatch) (offered : List StateOffer) (table : List (SignedBy Mark)) (planned : Option Fetch)
    (behind : Bool) → IsSound stated view n → Each (DecisionKept n.secret stated (next_place n) (view_of n)) shown → Each (OfferKept n.secret stated) offered
    → Each (MarkKept n.secret stated) table → PlanKept n.secret stated n.replica.views planned → IsSound stated view (record n { decisions = shown; offers = offered; marks = table; fetch = planned; behind = behind })
unfolding regency_of is_proven is_collect
transfers stated view n shown offered table planned behind is kept_shown kept_offered kept_table kept_plan = record {
  views = is.views;
  begun = is.begun;
  lawful = is.lawful;
  tidy = is.tidy;
  last = is.last;
  latest = is.latest;
  within = is.within;
  ranged = is.ranged;
  backed = is.backed;
  batches = is.batches;
  waiting = is.waiting;
  table = is.table;
  arrivals = is.arrivals;
  stops = is.stops;
  reports = is.reports;
  syncs = is.syncs;
  decisions = kept_shown;
  offers = kept_offered;
  marked = kept_table;
  fetch = kept_plan;
  pool = is.pool;
  held = is.held;
  late = is.late;
}

-- ---- entries

-- an entry that may be pushed, whatever it makes
pub record MayPush {S : Type 0} (stated : List Statement) (n : Node S) (e : LogEntry) : Type 0 where
  pub admits : Admits n.opening n.restored n.entries e
  pub tidy : IsTidyAfter n.entries e
  pub within : IsWithin n.replica.views (next_place n) (n.entries ++ e ∷ []) e
  pub newest : IsNewest n.entries e
  pub backed : IsBackedIn n.secret n.replica.views stated e
  pub batch : HasBatch n.secret stated e

-- the places that are made with one more
pub record Makes {S : Type 0} (n : Node S) (e : LogEntry) (left : Option Batch) : Type 0 where
  pub last : last_made (n.entries ++ e ∷ []) ≡ decided_place (record n { waiting = left })
  pub latest : latest_made (n.entries ++ e ∷ []) ≡ place_if (decided_place (record n { waiting = left }))
  pub waiting : IfSome left (HasDecided (n.entries ++ e ∷ []) (next_place n))

pub pushes : {S : Type 0} (stated : List Statement) (view : View) (n : Node S) (e : LogEntry) (waiting : Option Batch) → IsSound stated view n → MayPush stated n e → Makes n e waiting
    → IsSound stated view (record n { entries = n.entries ++ e ∷ []; waiting = waiting })
unfolding regency_of is_proven is_collect
pushes stated view n e waiting is may made = record {
  views = is.views;
  begun = begun_push n.entries e is.begun;
  lawful = grows n.opening n.restored n.entries e is.lawful may.admits;
  tidy = grows_tidy n.entries e is.tidy may.tidy;
  last = made.last;
  latest = made.latest;
  within = within_push n.replica.views (next_place n) n.entries e is.within may.within;
  ranged = ranged_push n.opening n.replica.views n.entries e is.ranged (record {
    within = within_more n.replica.views (next_place n) (max n.opening (last_made n.entries) + 1) (n.entries ++ e ∷ []) (n.entries ++ e ∷ []) e
        (let last = is.last in let least = least_decided n.waiting n.replica.place in omega (arith, last, least)) (λ k. omega arith) may.within;
    newest = may.newest;
  });
  backed = each_end (IsBackedIn n.secret n.replica.views stated) n.entries e is.backed may.backed;
  batches = each_end (HasBatch n.secret stated) n.entries e is.batches may.batch;
  waiting = made.waiting;
  table = each-weaken (λ line. HasReached n.entries line.place) (λ line. HasReached (n.entries ++ e ∷ []) line.place)
      (λ line has. reached_push n.entries e line.place has) (kept_in n.replica.table) is.table;
  arrivals = is.arrivals;
  stops = is.stops;
  reports = is.reports;
  syncs = is.syncs;
  decisions = is.decisions;
  offers = is.offers;
  marked = is.marked;
  fetch = is.fetch;
  pool = is.pool;
  held = each-weaken (IsHeld n.secret n.id stated n.entries) (IsHeld n.secret n.id stated (n.entries ++ e ∷ []))
      (λ h shown. held_push n.secret n.id stated n.entries e h shown) n.held is.held;
  late = late_push n.secret stated n.restored n.entries e n.held is.late;
}

-- an entry that makes no place
pub records : {S : Type 0} (stated : List Statement) (view : View) (n : Node S) (e : LogEntry) → IsSound stated view n → MayPush stated n e → place_made e ≡ None
    → IsSound stated view (recording n e)
records stated view n e is may none =
    let last : last_made (n.entries ++ e ∷ []) ≡ max (last_made n.entries) (number_or (place_made e) 0) = last_push n.entries e in
    let nothing : number_or (place_made e) 0 ≡ 0 = ap (λ (o : Option ℕ). number_or o 0) none in
    let before : last_made n.entries ≡ decided_place n = is.last in
    let same : max (last_made n.entries) (number_or (place_made e) 0) ≡ last_made n.entries = omega (arith, nothing) in
    pushes stated view n e n.waiting is may (record {
      last = last ∙ (same ∙ before);
      latest = latest_push n.entries e ∙ (ap (λ (o : Option ℕ). or_else o (latest_made n.entries)) none ∙ is.latest);
      waiting = decided_push n.entries e (next_place n) n.waiting is.waiting;
    })

-- ---- the views of a node

module _ {S : Type 0} (stated : List Statement) (view : View) (n : Node S) (is : IsSound stated view n) where
  -- the view in force is valid
  pub in_force_viewed : is_view (view_of n) ≡ true
  in_force_viewed = in_force_valid view n.replica.place n.replica.views is.views

  -- what holds of the view in force holds of each known view of its number
  pub in_force_of : (P : View → Type 0) (v : View) → Among v n.replica.views → (view_of n).number ≡ v.number → P (view_of n) → P v
  in_force_of P v there same has = of_number view n.replica.place n.replica.views is.views P v there same has

  -- it is known
  pub in_force_there : Among (view_of n) n.replica.views
  in_force_there = in_force_among view n.replica.place n.replica.views is.views

  -- what holds of a view that is known by a number holds of each of that number
  pub known_of : (P : View → Type 0) (number : ℕ) (known : IsKnown n.replica.views number) (v : View) → Among v n.replica.views → number ≡ v.number → P known.view → P v
  known_of P number known v there same has =
      let found = numbered_has n.replica.views number known.view known.is in
      subst P (number_once view n.replica.place n.replica.views is.views known.view v found.there there (found.number_is ∙ same)) has

  -- it has a number, and holds the next place
  pub number_known : IsKnown n.replica.views (view_of n).number
  number_known = in_force_known view n.replica.place n.replica.views is.views

  pub number_next : IsIn n.replica.views (next_place n) (view_of n).number
  number_next = in_force_next view n.replica.place n.replica.views is.views

  -- all that the book promises is of this view and earlier ones
  pub number_newest : ArePromisedUpTo (view_of n).number n.entries
  number_newest p there =
      known_most view n.replica.place n.replica.views is.views p.view (promises_known n.replica.views (next_place n) n.entries is.within p there)
