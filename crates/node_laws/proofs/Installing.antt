-- A node that takes over a replica, plans to, or gives its own to others stays sound.
use Rattle.std.proofs.Common.{Bool, List, None, Ok, Err, Option, Result, Some, ap, arith, cond, inl, inr, is_none, length, nat_lt, refl, subst, suc, sym, true, false, zero, ℕ, ◌≡◌, ◌≤◌, ◌<◌, ◌∙◌, ◌+◌, ◌++◌, ◌∷◌, [], ◌&&◌, ◌==◌, filter, ◌-◌, drop}
use Rattle.std.proofs.lemmas.Bool.{eqb-true, ltb-true}
use Rattle.std.specs.List.{filter_map, flat_map, list_all}
use Rattle.std.specs.Prelude.{IfSome, map, option_map}
use Rattle.replica_rules.specs.Pools.{settled}
use Rattle.replica_rules.specs.Replicas.{is_next}
use Rattle.replica_rules.specs.Seals.{is_verified}
use Rattle.agreement_laws.specs.Certificates.{IsTaken}
use Rattle.agreement_laws.specs.Statements.{Statement, statements}
use Rattle.agreement_laws.specs.Statements as says
use Rattle.agreement_laws.proofs.Lists.{each_among, each_append, each_end, each_from, either, some_equal}
use Rattle.node_rules.specs.Arrivals.{is_collect, is_proven}
use Rattle.node_rules.specs.Changes.{state_ask}
use Rattle.node_rules.specs.Marks.{firm_at}
use Rattle.node_rules.specs.Nodes.{Node, decided_place, enters, holding, holding_all, next_place, regency_of, signs, stays_in_view, view_of}
use Rattle.node_rules.specs.Transfers.{answers_state, decided_at, decides_at, follow_plan, gives_parts, go_on, install_by, install_fetch, install_replica, installing, installs, is_of_group, is_other_offer, is_ready, is_shown_place, last_few, made_of, mark_made, marks_past, offer_for, offered_marks, offers_state, part_messages, places_after, planning, plans, ready, same_view, shown_after, shown_as, shown_at, spoil}
use Rattle.node_rules.specs.declared.node.OwnSnapshot.{OwnSnapshot}
use Rattle.node_rules.specs.declared.node.Target.{Target}
use Rattle.node_rules.specs.declared.node.Target.TheVariants as targets
use Rattle.smart_base.specs.Lists.{Each, or_else}
use Rattle.smart_base.specs.Views.{View, is_view, present}
use Rattle.smart_base.proofs.SameLists.{and_true, same_list-equal}
use Rattle.snapshot_form.specs.Replicas.{follow, views_follow}
use Rattle.transfer_form.specs.declared.transfer.ProvenBatch.{ProvenBatch}
use Rattle.smart_base.proofs.ViewFacts.{each-weaken}
use Rattle.smart_base.specs.declared.limits.TheConstants.{MARKS}
use Rattle.smart_service.specs.Services.{Meaning}
use Rattle.smart_service.specs.Tables.{kept_in}
use Rattle.smart_service.specs.declared.replica.Replica.{Replica}
use Rattle.smart_service.specs.declared.table.Execution.{Execution}
use Rattle.smart_service.specs.declared.table.TableLine.{TableLine}
use Rattle.smart_statements.specs.Forms.{SignedBy}
use Rattle.smart_statements.specs.Kinds.{requests}
use Rattle.smart_statements.specs.Batches.{Batch}
use Rattle.smart_statements.specs.Reports.{marks}
use Rattle.smart_statements.specs.declared.report.Mark.{Mark}
use Rattle.smart_statements.specs.declared.statement.Request.{Request}
use Rattle.smart_messages.specs.declared.message.Message.{Message}
use Rattle.smart_messages.specs.declared.message.Message.TheVariants as changes
use Rattle.smart_messages.specs.declared.message.Message.TheVariants.{Ask}
use Rattle.state_transfer.proofs.Certificates.{rests_on_marks}
use Rattle.state_transfer.specs.Fetches.{are_all_there, finished, joined_of}
use Rattle.state_transfer.specs.Plans.{all_marks, planned}
use Rattle.state_transfer.specs.Seeds.{seeds}
use Rattle.state_transfer.specs.declared.choice.NotYet.{NotYet}
use Rattle.state_transfer.specs.declared.choice.Plan.{Plan}
use Rattle.state_transfer.specs.declared.fetch.Fetch.{Fetch}
use Rattle.state_transfer.specs.declared.fetch.Spoiled.{Spoiled}
use Rattle.transfer_form.specs.declared.transfer.StateAsk.{StateAsk}
use Rattle.transfer_form.specs.declared.transfer.StateOffer.{StateOffer}
use Rattle.transfer_form.specs.declared.transfer.StatePart.{StatePart}
use Rattle.vote_book.proofs.Growth.{grows}
use Rattle.vote_book.proofs.Last.{last_push, latest_push}
use Rattle.vote_book.proofs.Locks.{made_most}
use Rattle.vote_book.proofs.Tidy.{grows_tidy}
use Rattle.vote_book.specs.Books.{Among, HasMade, last_made}
use Rattle.vote_book.specs.declared.entry.Decision.{Decision}
use Rattle.vote_book.specs.declared.entry.Installation.{Installation}
use Rattle.vote_book.specs.declared.entry.LogEntry.{LogEntry}
use Rattle.vote_book.specs.declared.entry.LogEntry.TheVariants.{Accepted, Decided, Installed, Marked, Opened, Promised, Synced, Wrote}
use Rattle.node_laws.proofs.Books.{all_within_more, begun_push, held_push, late_push, ranged_push, within_push}
use Rattle.node_laws.proofs.Delivering.{IsReached, replica_is}
use Rattle.node_laws.proofs.Growing.{ArePast, StartPast, first_follow, past_first, sound_grown, with_views}
use Rattle.node_laws.proofs.Lists.{each_filter_map_in}
use Rattle.node_laws.proofs.Nodes.{DecisionKept, Late, OfferKept, PlanKept, Shows, holds, in_force_there, in_force_viewed, known_of, sound_entered, transfers}
use Rattle.node_laws.proofs.Planning.{IsTakenFrom, all_each_mark, finished_from, plan_each, restored_follow, restored_low}
use Rattle.node_laws.proofs.Stated.{batch_covers, covers, each_verified}
use Rattle.node_laws.proofs.Views.{are_more, held_among, known_upto, numbered_is}
use Rattle.node_laws.proofs.Votes.{free_place, made_last, place_of_some}
use Rattle.certificates.specs.Collects.{view_numbered}
use Rattle.node_laws.specs.Sound.{AreAsked, AreViews, HasBatch, HasDecided, IsBackedIn, IsHeld, IsKnown, IsPlanned, IsSound, IsStated, IsWithin, place_if, view_for}
use Rattle.node_rules.proofs.Options.{none_is}
use Rattle.regency_sync.proofs.Lists.{each_filter}

-- ---- what is due

-- a plan that is due stands, is of a later place, and no batch waits
pub record IsReady {S : Type 0} (n : Node S) (f : Fetch) : Type 0 where
  pub stands : n.fetch ≡ Some f
  pub free : n.waiting ≡ None
  pub later : n.replica.place < f.plan.place

ready_by : {S : Type 0} (n : Node S) (o : Option Fetch) (f : Fetch) → n.fetch ≡ o → ready n o ≡ Some f → IsReady n f
ready_by n None f at is = absurd (cc)
ready_by n (Some x) f at is = by (is_ready n x) refl is
  where
    by : (t : Bool) → is_ready n x ≡ t → cond t (Some x) None ≡ Some f → IsReady n f
    by true due is =
        let same : x ≡ f = some_equal x f is in
        let facts = and_true (are_all_there x && is_none n.waiting) (nat_lt n.replica.place x.plan.place) due in
        let later = ltb-true n.replica.place x.plan.place facts.1 in
        record {
          stands = at ∙ ap (λ (y : Fetch). Some y) same;
          free = none_is n.waiting (and_true (are_all_there x) (is_none n.waiting) facts.0).1;
          later = subst (λ (y : Fetch). n.replica.place < y.plan.place) same later;
        }
    by false due is = absurd (cc)

pub installing_is : {S : Type 0} (n : Node S) (f : Fetch) → installing n ≡ Some f → IsReady n f
unfolding installing
installing_is n f is = ready_by n n.fetch f refl is

-- views that a test finds alike
view_equal : (a b : View) → same_view a b ≡ true → a ≡ b
view_equal a b is =
    let third = and_true ((a.number == b.number) && (a.start == b.start) && (a.f == b.f)) _ is in
    let second = and_true ((a.number == b.number) && (a.start == b.start)) (a.f == b.f) third.0 in
    let first = and_true (a.number == b.number) (a.start == b.start) second.0 in
    let number : a.number ≡ b.number = eqb-true a.number b.number first.0 in
    let start : a.start ≡ b.start = eqb-true a.start b.start first.1 in
    let f : a.f ≡ b.f = eqb-true a.f b.f second.1 in
    let members : a.members ≡ b.members = same_list-equal (λ x y. x == y) eqb-true a.members b.members third.1 in
    λ i. record { number = number i; start = start i; f = f i; members = members i }

-- views that a test finds going on
pub record GoesOn (place : ℕ) (views more : List View) : Type 0 where
  pub rest : List View
  pub is : more ≡ views ++ rest
  pub valid : Each (λ v. is_view v ≡ true) rest
  pub late : StartPast place rest

past_each : (place : ℕ) (more : List View) → list_all (λ v. is_view v && nat_lt place v.start) more ≡ true → Each (λ (v : View). (is_view v ≡ true) × (place < v.start)) more
past_each place [] is = tt
past_each place (v ∷ vs) is =
    let parts = and_true (is_view v && nat_lt place v.start) (list_all (λ v. is_view v && nat_lt place v.start) vs) is in
    let here = and_true (is_view v) (nat_lt place v.start) parts.0 in
    ((here.0, ltb-true place v.start here.1), past_each place vs parts.1)

goes_on : (place : ℕ) (views more : List View) → go_on place views more ≡ true → GoesOn place views more
goes_on place [] more is =
    let each = past_each place more is in
    record {
      rest = more;
      is = refl;
      valid = each-weaken (λ (v : View). (is_view v ≡ true) × (place < v.start)) (λ v. is_view v ≡ true) (λ v parts. parts.0) more each;
      late = each-weaken (λ (v : View). (is_view v ≡ true) × (place < v.start)) (λ (v : View). place < v.start) (λ v parts. parts.1) more each;
    }
goes_on place (v ∷ vs) [] is = absurd (cc)
goes_on place (v ∷ vs) (w ∷ ws) is =
    let parts = and_true (same_view v w) (go_on place vs ws) is in
    let same : v ≡ w = view_equal v w parts.0 in
    let rest = goes_on place vs ws parts.1 in
    record { rest = rest.rest; is = ap (λ (xs : List View). w ∷ xs) rest.is ∙ ap (λ (x : View). x ∷ (vs ++ rest.rest)) (sym same); valid = rest.valid; late = rest.late }

pub group_views : {S : Type 0} (n : Node S) (r : Replica S) → is_of_group n r ≡ true → GoesOn (next_place n) n.replica.views r.views
group_views n r is = goes_on (next_place n) n.replica.views r.views is

-- ---- install

-- the node with another replica of the same views, and an entry more
unfoldable over : {S : Type 0} → Node S → LogEntry → S → List TableLine → ℕ → List (SignedBy Request) → List OwnSnapshot → Node S
over n e service table place pool taken =
    record n {
      entries = n.entries ++ e ∷ [];
      replica = record { service = service; table = table; views = n.replica.views; place = place };
      pool = pool;
      fetch = None;
      taken = taken;
    }

no_place : (secret : List ℕ) (views : List View) (stated : List Statement) (planned_one : Option Fetch) (f : Fetch) → PlanKept secret stated views planned_one → planned_one ≡ Some f → IsPlanned secret views stated f.plan
no_place secret views stated None f is at = absurd (cc)
no_place secret views stated (Some x) f is at = subst (λ (y : Fetch). IsPlanned secret views stated y.plan) (some_equal x f at) is

-- each place that was made is before it
above_made : (es : List LogEntry) (last place made : ℕ) → last_made es ≡ last → last < place → HasMade es made → made < place
above_made es last place made at later has = let most = made_most es made has in omega (arith, most, at, later)

no_batch : (waiting : Option Batch) (es : List LogEntry) (place : ℕ) → waiting ≡ None → IfSome waiting (HasDecided es place)
no_batch None es place is = tt
no_batch (Some b) es place is = absurd (cc)

sound_over : {S : Type 0} (stated : List Statement) (view : View) (n : Node S) (i : Installation) (service : S) (table : List TableLine) (pool : List (SignedBy Request)) (taken : List OwnSnapshot)
    → IsSound stated view n → n.waiting ≡ None → n.replica.place < i.place → IsKnown n.replica.views i.view → IsBackedIn n.secret n.replica.views stated (Installed i)
    → Each (λ line. line.place ≤ i.place) (kept_in table) → AreAsked n.secret stated pool → IsSound stated view (over n (Installed i) service table i.place pool taken)
unfolding over regency_of is_proven is_collect
sound_over {S = S} stated view n i service table pool taken is free later of backed low asked =
    let es : List LogEntry = n.entries ++ Installed i ∷ [] in
    let none : is_none n.waiting ≡ true = ap is_none free in
    let before : last_made n.entries ≡ n.replica.place = made_last stated view n is none in
    let here : decided_place (over n (Installed i) service table i.place pool taken) ≡ i.place = free_place n.waiting i.place none in
    let last : last_made es ≡ i.place = (let pushed = last_push n.entries (Installed i) in omega (arith, pushed, before, later)) in
    let some : 0 < i.place = omega (arith, later) in
    let upto : (v : View) → view_for n.replica.views i.place ≡ Some v → i.view ≤ v.number = known_upto view n.replica.place n.replica.views is.views i.view i.place of later in
    let within : IsWithin n.replica.views (i.place + 1) es (Installed i) = record { of_view = of; upto = upto; some = some } in
    record {
      views = are_more view n.replica.place i.place n.replica.views (omega (arith, later)) is.views;
      begun = begun_push n.entries (Installed i) is.begun;
      lawful = grows n.opening n.restored n.entries (Installed i) is.lawful (record {
        above = λ made has. above_made n.entries n.replica.place i.place made before later has;
        within = λ early. absurd (let few = is.late.few in omega (arith, early, few));
      });
      tidy = grows_tidy n.entries (Installed i) is.tidy tt;
      last = last ∙ sym here;
      latest = latest_push n.entries (Installed i) ∙ (sym (place_of_some i.place some) ∙ ap place_if (sym here));
      within = within_push n.replica.views (i.place + 1) n.entries (Installed i)
          (all_within_more n.replica.views (next_place n) (i.place + 1) n.entries n.entries n.entries (omega (arith, later)) (λ k. omega arith) is.within) within;
      ranged = ranged_push n.opening n.replica.views n.entries (Installed i) is.ranged (record { within = record { of_view = of; upto = upto; some = some }; newest = tt });
      backed = each_end (IsBackedIn n.secret n.replica.views stated) n.entries (Installed i) is.backed backed;
      batches = each_end (HasBatch n.secret stated) n.entries (Installed i) is.batches tt;
      waiting = no_batch n.waiting es (i.place + 1) free;
      table = each-weaken (λ (line : Execution). line.place ≤ i.place) (IsReached es) (λ line most. omega (arith, most, last)) (kept_in table) low;
      arrivals = is.arrivals;
      stops = is.stops;
      reports = is.reports;
      syncs = is.syncs;
      decisions = each-weaken (DecisionKept n.secret stated (next_place n) (view_of n)) (DecisionKept n.secret stated (i.place + 1) (view_of n))
          (λ d kept. let low = kept.1 in (kept.0, omega (arith, low, later), λ at. absurd (omega (arith, low, later, at)))) n.decisions is.decisions;
      offers = is.offers;
      marked = is.marked;
      fetch = tt;
      pool = asked;
      held = each-weaken (IsHeld n.secret n.id stated n.entries) (IsHeld n.secret n.id stated es) (λ h held. held_push n.secret n.id stated n.entries (Installed i) h held) n.held is.held;
      late = late_push n.secret stated n.restored n.entries (Installed i) n.held is.late;
    }

-- the views of a replica that was read are such of its place, if they begin with those of a group
taken_are : (first : View) (place' place : ℕ) (views more : List View) → AreViews first place' views → views_follow place (views ++ more) ≡ true → Each (λ v. is_view v ≡ true) more
    → AreViews first place (views ++ more)
taken_are first place' place views more are follows valid =
    let begins : views ++ more ≡ first ∷ (are.rest ++ more) = ap (λ (vs : List View). vs ++ more) are.begins in
    record {
      rest = are.rest ++ more;
      begins = begins;
      follows = first_follow place first (are.rest ++ more) (subst (λ (vs : List View). views_follow place vs ≡ true) begins follows);
      valid = each_append (λ v. is_view v ≡ true) views more are.valid valid;
    }

-- each further one is of a later number
pub taken_past : (first : View) (place' place : ℕ) (views more : List View) → AreViews first place' views → AreViews first place (views ++ more) → ArePast (present views).number more
taken_past first place' place views more are whole =
    let begins : views ++ more ≡ first ∷ (are.rest ++ more) = ap (λ (vs : List View). vs ++ more) are.begins in
    let rest : whole.rest ≡ are.rest ++ more = tail_is (sym whole.begins ∙ begins) in
    subst (λ (vs : List View). ArePast (present vs).number more) (sym are.begins)
    (past_first place first are.rest more (subst (λ (vs : List View). follow place first.number 0 vs ≡ true) rest whole.follows))
  where
    tail_is : {x y : View} {xs ys : List View} → (x ∷ xs) ≡ (y ∷ ys) → xs ≡ ys
    tail_is same = cc

sound_replica : {S : Type 0} (m : Meaning S) (stated : List Statement) (view : View) (n : Node S) (f : Fetch) (r : Replica S) → IsSound stated view n → IsReady n f → IsTakenFrom m f r → GoesOn (next_place n) n.replica.views r.views
    → IsSound stated view (install_replica n f r)
unfolding install_replica over with_views
sound_replica {S = S} m stated view n f r is due from on =
    let planned_is = no_place n.secret n.replica.views stated n.fetch f is.fetch due.stands in
    let i : Installation = record { place = f.plan.place; digest = f.plan.digest; view = f.plan.view; marks = f.plan.marks } in
    let pool : List (SignedBy Request) = settled r.table n.pool in
    let taken : List OwnSnapshot = n.taken ++ record { place = f.plan.place; snapshot = joined_of f; needs = length (n.entries ++ Installed i ∷ []) } ∷ [] in
    let IsAsked : SignedBy Request → Type 0 = λ q. (is_verified requests n.secret q ≡ true) × IsStated n.secret stated (Ask q) in
    let later = due.later in
    let there : IsSound stated view (over n (Installed i) r.service r.table f.plan.place pool taken) =
    sound_over stated view n i r.service r.table pool taken is due.free due.later planned_is.of_view
    (λ v there of. known_of stated view n is (λ (u : View). IsTaken n.secret u stated i) f.plan.view planned_is.of_view v there of (record { holds = planned_is.certified; drawn = planned_is.drawn }))
    (subst (λ (k : ℕ). Each (λ (line : Execution). line.place ≤ k) (kept_in r.table)) from.place_is (restored_low m _ r from.read))
    (each_filter IsAsked (λ q. is_next r.table q.statement) n.pool is.pool) in
    let follows : views_follow f.plan.place (n.replica.views ++ on.rest) ≡ true =
    subst (λ (vs : List View). views_follow f.plan.place vs ≡ true) on.is (subst (λ (k : ℕ). views_follow k r.views ≡ true) from.place_is (restored_follow m _ r from.read)) in
    let are : AreViews view f.plan.place (n.replica.views ++ on.rest) = taken_are view n.replica.place f.plan.place n.replica.views on.rest is.views follows on.valid in
    let within : Each (IsWithin n.replica.views (next_place n) (n.entries ++ Installed i ∷ [])) (n.entries ++ Installed i ∷ []) =
    within_push n.replica.views (next_place n) n.entries (Installed i) is.within
    (record { of_view = planned_is.of_view; upto = known_upto view n.replica.place n.replica.views is.views f.plan.view f.plan.place planned_is.of_view later; some = omega (arith, later) }) in
    let grown : IsSound stated view (with_views (over n (Installed i) r.service r.table f.plan.place pool taken) (n.replica.views ++ on.rest)) =
    sound_grown stated view (over n (Installed i) r.service r.table f.plan.place pool taken) on.rest (next_place n) there are (taken_past view n.replica.place f.plan.place n.replica.views on.rest is.views are) on.late
    (omega (arith, later)) within
    (each-weaken (DecisionKept n.secret stated (next_place n) (view_of n)) (λ (d : ProvenBatch). d.place ≤ f.plan.place) (λ d kept. let low = kept.1 in omega (arith, low, later)) n.decisions is.decisions) in
    let next : Node S = record n { entries = n.entries ++ Installed i ∷ []; replica = r; pool = pool; fetch = None; taken = taken } in
    let sound : IsSound stated view next =
    subst (λ (x : Replica S). IsSound stated view (record n { entries = n.entries ++ Installed i ∷ []; replica = x; pool = pool; fetch = None; taken = taken }))
    (replica_is r (n.replica.views ++ on.rest) f.plan.place on.is from.place_is) grown in
    let inside : IsSound stated view (enters n next) = sound_entered stated view (stays_in_view n next) next sound in
    holds stated view (enters n next) targets.View (state_ask (enters n next) 0) inside tt tt

sound_spoil : {S : Type 0} (stated : List Statement) (view : View) (n : Node S) (f : Fetch) → IsSound stated view n → IsSound stated view (spoil n f)
unfolding spoil
sound_spoil stated view n f is =
    transfers stated view n n.decisions (filter (is_other_offer f.plan) n.offers) n.marks None n.behind is is.decisions (each_filter (OfferKept n.secret stated) (is_other_offer f.plan) n.offers is.offers) is.marked tt

sound_install_by : {S : Type 0} (m : Meaning S) (stated : List Statement) (view : View) (n : Node S) (f : Fetch) (made : Result (Replica S) Spoiled) → IsSound stated view n → IsReady n f → finished m f ≡ made
    → IsSound stated view (install_by n f made)
sound_install_by {S = S} m stated view n f (Ok r) is due at = by (is_of_group n r) refl
  where
    by : (t : Bool) → is_of_group n r ≡ t → IsSound stated view (cond t (install_replica n f r) (spoil n f))
    by true of = sound_replica m stated view n f r is due (finished_from m f r at) (group_views n r of)
    by false of = sound_spoil stated view n f is
sound_install_by m stated view n f (Err why) is due at = sound_spoil stated view n f is

sound_install_fetch : {S : Type 0} (m : Meaning S) (stated : List Statement) (view : View) (n : Node S) (o : Option Fetch) → IsSound stated view n → installing n ≡ o → IsSound stated view (install_fetch m n o)
unfolding install_fetch
sound_install_fetch m stated view n None is at = is
sound_install_fetch m stated view n (Some f) is at = sound_install_by m stated view n f (finished m f) is (installing_is n f at) refl

pub sound_installs : {S : Type 0} (m : Meaning S) (stated : List Statement) (view : View) (n : Node S) → IsSound stated view n → IsSound stated view (installs m n)
unfolding installs
sound_installs m stated view n is = sound_install_fetch m stated view n (installing n) is refl

-- ---- plan

-- the marks that a node has verify, and have been stated
abbrev IsGood : List ℕ → List Statement → SignedBy Mark → Type 0
IsGood secret stated m = (is_verified marks secret m ≡ true) × Among (says.Marked m) stated

mark_good : (secret : List ℕ) (stated : List Statement) (m : SignedBy Mark) → IsStated secret stated (changes.Mark m) → is_verified marks secret m ≡ true → IsGood secret stated m
mark_good secret stated m was ok = (ok, covers secret stated (changes.Mark m) was (says.Marked m) (inl refl) ok)

offer_good : (secret : List ℕ) (stated : List Statement) (o : StateOffer) → OfferKept secret stated o → Each (IsGood secret stated) o.marks
offer_good secret stated o is = each_from (IsGood secret stated) o.marks (λ m there.
    let ok = each_among (λ k. is_verified marks secret k ≡ true) o.marks m is.1 there in
    (ok, covers secret stated (changes.StateOffer o) is.0 (says.Marked m) (within_offer o.marks m there) ok))
  where
    within_offer : (ms : List (SignedBy Mark)) (m : SignedBy Mark) → Among m ms → Among (says.Marked m) (flat_map says.within (map says.Marked ms ++ []))
    within_offer [] m there = absurd there
    within_offer (x ∷ xs) m (inl same) = inl (ap (λ (k : SignedBy Mark). says.Marked k) same)
    within_offer (x ∷ xs) m (inr there) = inr (within_offer xs m there)

good_marks : {S : Type 0} (stated : List Statement) (view : View) (n : Node S) → IsSound stated view n → Each (IsGood n.secret stated) (all_marks n.offers n.marks)
good_marks stated view n is =
    all_each_mark (IsGood n.secret stated) n.offers n.marks
    (each-weaken _ (IsGood n.secret stated) (λ m kept. mark_good n.secret stated m kept.1 kept.0) n.marks is.marked)
    (each-weaken (OfferKept n.secret stated) (λ o. Each (IsGood n.secret stated) o.marks) (λ o kept. offer_good n.secret stated o kept) n.offers is.offers)

made_is : (x : Result Plan NotYet) (p : Plan) → made_of x ≡ Some p → x ≡ Ok p
made_is (Ok q) p is = ap (λ (y : Plan). Ok y) (some_equal q p is)
made_is (Err why) p is = absurd (cc)

planning_is : {S : Type 0} (n : Node S) (p : Plan) → planning n ≡ Some p → planned n.offers n.marks n.replica.place (view_of n) ≡ Ok p
unfolding planning
planning_is n p is = by (is_none n.fetch) is
  where
    by : (t : Bool) → cond t (made_of (planned n.offers n.marks n.replica.place (view_of n))) None ≡ Some p → planned n.offers n.marks n.replica.place (view_of n) ≡ Ok p
    by true said = made_is (planned n.offers n.marks n.replica.place (view_of n)) p said
    by false said = absurd (cc)

plan_is : {S : Type 0} (stated : List Statement) (view : View) (n : Node S) (p : Plan) → IsSound stated view n → planning n ≡ Some p → IsPlanned n.secret n.replica.views stated p
plan_is stated view n p is at =
    let made = planning_is n p at in
    let good = good_marks stated view n is in
    let each = plan_each (IsGood n.secret stated) n.offers n.marks n.replica.place (view_of n) p good made in
    record {
      of_view = record { view = view_of n; is = ap (λ (k : ℕ). view_numbered n.replica.views k) each.0 ∙ numbered_is view n.replica.place n.replica.views is.views (view_of n) (in_force_there stated view n is) };
      certified = rests_on_marks n.secret n.offers n.marks n.replica.place (view_of n) p (in_force_viewed stated view n is)
          (each-weaken (IsGood n.secret stated) (λ m. is_verified marks n.secret m ≡ true) (λ m is. is.0) (all_marks n.offers n.marks) good) made;
      drawn = each-weaken (IsGood n.secret stated) (λ m. Among (says.Marked m) stated) (λ m is. is.1) p.marks each.1;
    }

plans_with : {S : Type 0} (stated : List Statement) (view : View) (n : Node S) (o : Option Plan) → IsSound stated view n → planning n ≡ o → IsSound stated view (follow_plan n o)
unfolding follow_plan
plans_with stated view n None is at = is
plans_with {S = S} stated view n (Some p) is at =
    let next : Node S = record n { fetch = Some (record { plan = p; parts = [] }) } in
    holds stated view next (targets.Node p.seeder) (state_ask n p.place)
    (transfers stated view n n.decisions n.offers n.marks (Some (record { plan = p; parts = [] })) n.behind is is.decisions is.offers is.marked (plan_is stated view n p is at)) tt tt

pub sound_plans : {S : Type 0} (stated : List Statement) (view : View) (n : Node S) → IsSound stated view n → IsSound stated view (plans n)
unfolding plans
sound_plans stated view n is = plans_with stated view n (planning n) is refl

-- ---- answer

-- a message that may be held: each statement in it has been stated, or is the member's own and shown, and none tells a restored promise
abbrev MayHold : {S : Type 0} → List Statement → Node S → Message → Type 0
MayHold stated n m = Each (Shows stated n) (statements n.secret m) × Each (Late stated n) (statements n.secret m)

holds_all : {S : Type 0} (stated : List Statement) (view : View) (n : Node S) (to : Target) (ms : List Message) → IsSound stated view n → Each (MayHold stated n) ms → IsSound stated view (holding_all n to ms)
holds_all stated view n to [] is each = is
holds_all stated view n to (m ∷ ms) is each = holds_all stated view (holding n to m) to ms (holds stated view n to m is each.0.0 each.0.1) each.1

-- the marks of an offer stand in the book
mark_made_is : (e : LogEntry) (k : Mark) → mark_made e ≡ Some k → e ≡ Marked k
mark_made_is (Marked x) k is = ap (λ (y : Mark). Marked y) (some_equal x k is)
mark_made_is (Opened o) k is = absurd (cc)
mark_made_is (Wrote w) k is = absurd (cc)
mark_made_is (Accepted a) k is = absurd (cc)
mark_made_is (Promised p) k is = absurd (cc)
mark_made_is (Synced s) k is = absurd (cc)
mark_made_is (Decided d) k is = absurd (cc)
mark_made_is (Installed i) k is = absurd (cc)

pub each_drop : {A : Type 0} (P : A → Type 0) (k : ℕ) (xs : List A) → Each P xs → Each P (drop k xs)
each_drop P zero [] all = all
each_drop P zero (x ∷ xs) all = all
each_drop P (suc k) [] all = tt
each_drop P (suc k) (x ∷ xs) all = each_drop P k xs all.1

pub marks_stand : (place : ℕ) (es : List LogEntry) → Each (λ (k : Mark). Among (Marked k) es) (last_few MARKS (marks_past place es))
marks_stand place es =
    each_drop (λ (k : Mark). Among (Marked k) es) (length (marks_past place es) - MARKS) (marks_past place es)
    (each_filter (λ (k : Mark). Among (Marked k) es) (λ (k : Mark). nat_lt place k.place) (filter_map mark_made es)
    (each_filter_map_in (λ (k : Mark). Among (Marked k) es) mark_made es (λ e k there is. subst (λ (x : LogEntry). Among x es) (mark_made_is e k is) there)))

-- what an offer states is its marks
offer_states : (Q : Statement → Type 0) (ms : List (SignedBy Mark)) → Each (λ m. Q (says.Marked m)) ms → (s : Statement) → Among s (flat_map says.within (map says.Marked ms ++ [])) → Q s
offer_states Q [] all s there = absurd there
offer_states Q (m ∷ ms) all s (inl same) = subst Q (sym same) all.0
offer_states Q (m ∷ ms) all s (inr there) = offer_states Q ms all.1 s there

offer_may : {S : Type 0} (stated : List Statement) (n : Node S) (place : ℕ) → MayHold stated n (changes.StateOffer (offer_for n place))
unfolding offer_for
offer_may stated n place =
    let ms : List (SignedBy Mark) = offered_marks n place in
    let parts : List Statement = flat_map says.within (map says.Marked ms ++ []) in (
      each_verified n.secret (Shows stated n) parts (λ s there ok. offer_states (Shows stated n) ms (own (last_few MARKS (marks_past place n.entries)) (marks_stand place n.entries)) s there),
      each_verified n.secret (Late stated n) parts (λ s there ok. offer_states (Late stated n) ms (late (last_few MARKS (marks_past place n.entries))) s there),
    )
  where
    own : (ks : List Mark) → Each (λ (k : Mark). Among (Marked k) n.entries) ks → Each (λ m. Shows stated n (says.Marked m)) (map (λ (k : Mark). signs n marks k) ks)
    own [] all = tt
    own (k ∷ ks) all = (inr (refl, all.0), own ks all.1)

    late : (ks : List Mark) → Each (λ m. Late stated n (says.Marked m)) (map (λ (k : Mark). signs n marks k) ks)
    late [] = tt
    late (k ∷ ks) = (inr tt, late ks)

-- a decision of the book that is shown has been stated
decides_at_is : (place : ℕ) (e : LogEntry) (d : Decision) → decides_at place e ≡ Some d → e ≡ Decided d
decides_at_is place (Decided x) d is = by (x.slot.place == place) is
  where
    by : (t : Bool) → cond t (Some x) None ≡ Some d → Decided x ≡ Decided d
    by true said = ap (λ (y : Decision). Decided y) (some_equal x d said)
    by false said = absurd (cc)
decides_at_is place (Opened o) d is = absurd (cc)
decides_at_is place (Wrote w) d is = absurd (cc)
decides_at_is place (Accepted a) d is = absurd (cc)
decides_at_is place (Promised p) d is = absurd (cc)
decides_at_is place (Synced s) d is = absurd (cc)
decides_at_is place (Installed i) d is = absurd (cc)
decides_at_is place (Marked k) d is = absurd (cc)

pub decided_there : (place : ℕ) (es : List LogEntry) (d : Decision) → decided_at place es ≡ Some d → Among (Decided d) es
decided_there place [] d is = absurd (cc)
decided_there place (e ∷ es) d is = by (decides_at place e) refl is (λ later. decided_there place es d later)
  where
    by : (o : Option Decision) → decides_at place e ≡ o → or_else o (decided_at place es) ≡ Some d → (decided_at place es ≡ Some d → Among (Decided d) es) → Among (Decided d) (e ∷ es)
    by None at said rest = inr (rest said)
    by (Some x) at said rest = inl (sym (decides_at_is place e d (at ∙ said)))

covered_may : {S : Type 0} (stated : List Statement) (n : Node S) (m : Message) → ((s : Statement) → Among s (flat_map says.within (says.said m)) → says.verifies n.secret s ≡ true → Among s stated)
    → MayHold stated n m
covered_may stated n m all = (
  each_verified n.secret (Shows stated n) (flat_map says.within (says.said m)) (λ s there ok. inl (all s there ok)),
  each_verified n.secret (Late stated n) (flat_map says.within (says.said m)) (λ s there ok. inl (all s there ok)),
)

decision_may : {S : Type 0} (stated : List Statement) (view : View) (n : Node S) (d : Decision) → IsSound stated view n → Among (Decided d) n.entries → MayHold stated n (changes.Decision (shown_as d))
decision_may stated view n d is there =
    let of = (each_among (IsWithin n.replica.views (next_place n) n.entries) n.entries (Decided d) is.within there).of_view in
    let known = held_among n.replica.views d.slot.place of.view of.holds in
    let drawn = (each_among (IsBackedIn n.secret n.replica.views stated) n.entries (Decided d) is.backed there of.view known (sym of.number_is)).drawn in
    let asked = (each_among (HasBatch n.secret stated) n.entries (Decided d) is.batches there).asked in
    covered_may stated n (changes.Decision (shown_as d)) (λ s here ok. votes d.accepts drawn asked s here ok)
  where
    votes : (bs : List _) → Each (λ b. Among (says.Voted b) stated) bs → AreAsked n.secret stated d.batch → (s : Statement) → Among s (flat_map says.within (map says.Voted bs ++ map says.Asked d.batch))
        → says.verifies n.secret s ≡ true → Among s stated
    votes [] all asked s there ok = batch_covers n.secret stated d.batch asked s there ok
    votes (b ∷ bs) all asked s (inl same) ok = subst (λ (x : Statement). Among x stated) (sym same) all.0
    votes (b ∷ bs) all asked s (inr there) ok = votes bs all.1 asked s there ok

shown_may : {S : Type 0} (stated : List Statement) (view : View) (n : Node S) (k : ℕ) (m : Message) → IsSound stated view n → shown_at n k ≡ Some m → MayHold stated n m
shown_may {S = S} stated view n k m is at = by (is_shown_place n k) at
  where
    decided : (o : Option Decision) → decided_at k n.entries ≡ o → option_map (λ (d : Decision). changes.Decision (shown_as d)) o ≡ Some m → MayHold stated n m
    decided None none said = absurd (cc)
    decided (Some d) one said =
        subst (λ (x : Message). MayHold stated n x) (some_equal (changes.Decision (shown_as d)) m said) (decision_may stated view n d is (decided_there k n.entries d one))

    by : (t : Bool) → cond t (option_map (λ (d : Decision). changes.Decision (shown_as d)) (decided_at k n.entries)) None ≡ Some m → MayHold stated n m
    by true said = decided (decided_at k n.entries) refl said
    by false said = absurd (cc)

sound_offers : {S : Type 0} (stated : List Statement) (view : View) (n : Node S) (a : StateAsk) → IsSound stated view n → IsSound stated view (offers_state n a)
unfolding offers_state shown_after
sound_offers stated view n a is =
    holds_all stated view n (targets.Node a.member) (changes.StateOffer (offer_for n a.place) ∷ filter_map (shown_at n) (places_after a.place 8)) is
    (offer_may stated n a.place, each_filter_map_in (MayHold stated n) (shown_at n) (places_after a.place 8) (λ k m there at. shown_may stated view n k m is at))

parts_may : {S : Type 0} (stated : List Statement) (n : Node S) (ps : List StatePart) → Each (MayHold stated n) (map (λ (p : StatePart). changes.StatePart p) ps)
parts_may stated n [] = tt
parts_may stated n (p ∷ ps) = ((tt, tt), parts_may stated n ps)

part_messages_may : {S : Type 0} (stated : List Statement) (n : Node S) (o : Option OwnSnapshot) → Each (MayHold stated n) (part_messages o)
part_messages_may stated n None = tt
part_messages_may stated n (Some s) = parts_may stated n (seeds s.place s.snapshot)

sound_parts : {S : Type 0} (stated : List Statement) (view : View) (n : Node S) (a : StateAsk) → IsSound stated view n → IsSound stated view (gives_parts n a)
unfolding gives_parts
sound_parts stated view n a is = holds_all stated view n (targets.Node a.member) (part_messages (firm_at n a.fetch)) is (part_messages_may stated n (firm_at n a.fetch))

pub sound_answers_state : {S : Type 0} (stated : List Statement) (view : View) (n : Node S) (a : StateAsk) → IsSound stated view n → IsSound stated view (answers_state n a)
unfolding answers_state
sound_answers_state {S = S} stated view n a is =
    either (λ (x : Node S). IsSound stated view x) (a.fetch == 0) (offers_state n a) (gives_parts n a) (sound_offers stated view n a is) (sound_parts stated view n a is)
