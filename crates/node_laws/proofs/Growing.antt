-- A node whose views grow at the end stays sound: its entries are of the views before, and of what it kept nothing more is asked.
use Rattle.std.proofs.Common.{Bool, List, None, Option, Some, ap, append-nil, arith, cond, false, inl, inr, max, nat_le, refl, subst, sym, true, ℕ, ◌≡◌, ◌≤◌, ◌<◌, ◌∙◌, ◌+◌, ◌++◌, ◌==◌, ◌⊎◌, [], ◌∷◌}
use Rattle.std.proofs.lemmas.Bool.{and_from, eqb-true, leb-true}
use Rattle.std.specs.Prelude.{if◌then◌else◌}
use Rattle.certificates.specs.Collects.{view_holding, view_numbered}
use Rattle.smart_base.specs.Lists.{Each, or_else}
use Rattle.smart_base.specs.Views.{View, is_view, present}
use Rattle.smart_base.proofs.SameLists.{and_true}
use Rattle.smart_base.proofs.ViewFacts.{each-weaken}
use Rattle.snapshot_form.specs.Replicas.{follow, is_first_view, is_next_view, views_follow}
use Rattle.agreement_laws.specs.Certificates.{IsBacked}
use Rattle.agreement_laws.specs.Statements.{Statement}
use Rattle.agreement_laws.proofs.Lists.{among_either, each_among, each_both, each_end, each_from, some_equal}
use Rattle.replica_rules.specs.Seals.{digest_of, is_verified}
use Rattle.smart_statements.specs.Kinds.{ballots}
use Rattle.smart_messages.specs.declared.message.Message.{Message}
use Rattle.smart_messages.specs.declared.message.Message.TheVariants.{Propose, Vote}
use Rattle.transfer_form.specs.declared.transfer.ProvenBatch.{ProvenBatch}
use Rattle.node_rules.specs.Arrivals.{is_collect, is_proven}
use Rattle.node_rules.specs.Nodes.{Node, regency_of, view_of}
use Rattle.smart_messages.specs.Regencies.{stops, syncs}
use Rattle.smart_statements.specs.Reports.{reports}
use Rattle.state_transfer.specs.declared.fetch.Fetch.{Fetch}
use Rattle.vote_book.specs.Books.{Among, last_made}
use Rattle.vote_book.specs.declared.entry.Installation.{Installation}
use Rattle.vote_book.specs.declared.entry.LogEntry.{LogEntry}
use Rattle.vote_book.specs.declared.entry.LogEntry.TheVariants.{Accepted, Decided, Installed, Marked, Opened, Promised, Synced, Wrote}
use Rattle.node_laws.proofs.Books.{all_within_more}
use Rattle.node_laws.proofs.Nodes.{Arrived, DecisionKept, PlanKept, ReportKept, StopKept, SyncKept}
use Rattle.node_laws.proofs.Views.{IsNext, follow_more, held_among, holding_among, known_most, next_is, next_more, present_among, some_numbered}
use Rattle.node_laws.specs.Sound.{AreRangedPast, AreViews, HasBegun, InForce, IsBackedIn, IsIn, IsInstalledIn, IsKnown, IsMembers, IsProposal, IsSound, IsWithin, view_for}

-- ---- one view more

-- the last number and the last start of views behind those of a number and a start
last_number : ℕ → List View → ℕ
last_number number [] = number
last_number number (v ∷ vs) = last_number v.number vs

last_start : ℕ → List View → ℕ
last_start start [] = start
last_start start (v ∷ vs) = last_start v.start vs

present_number : (v : View) (vs : List View) → (present (v ∷ vs)).number ≡ last_number v.number vs
unfolding last_number
present_number v [] = refl
present_number v (w ∷ ws) = present_number w ws

start_low : (place number start : ℕ) (vs : List View) → start ≤ place + 1 → follow place number start vs ≡ true → last_start start vs ≤ place + 1
unfolding last_start
start_low place number start [] low is = low
start_low place number start (v ∷ vs) low is =
    let parts = and_true (is_next_view place number start v) (follow place v.number v.start vs) is in
    start_low place v.number v.start vs (next_is place number start v parts.0).low parts.1

follow_end : (place number start : ℕ) (vs : List View) (v : View) → follow place number start vs ≡ true → IsNext place (last_number number vs) (last_start start vs) v
    → follow place number start (vs ++ v ∷ []) ≡ true
unfolding last_number last_start
follow_end place number start [] v is next = and_from (is_next_view place number start v) true (next_more place place number start v (omega arith) next) refl
follow_end place number start (w ∷ ws) v is next =
    let parts = and_true (is_next_view place number start w) (follow place w.number w.start ws) is in
    and_from (is_next_view place number start w) (follow place w.number w.start (ws ++ v ∷ [])) parts.0 (follow_end place w.number w.start ws v parts.1 next)

-- views that follow behind a start follow behind an earlier one
follow_earlier : (place number start start' : ℕ) (vs : List View) → start' ≤ start → follow place number start vs ≡ true → follow place number start' vs ≡ true
follow_earlier place number start start' [] low is = refl
follow_earlier place number start start' (v ∷ vs) low is =
    let parts = and_true (is_next_view place number start v) (follow place v.number v.start vs) is in
    let next = next_is place number start v parts.0 in
    let later = next.later in
    and_from (is_next_view place number start' v) (follow place v.number v.start vs)
    (next_more place place number start' v (omega arith) (record { number_is = next.number_is; later = omega (arith, low, later); low = next.low })) parts.1

-- views with the next one behind them, which starts past the next place
pub are_grown : (first : View) (place place' : ℕ) (views : List View) (v : View) → AreViews first place views → place ≤ place' → is_view v ≡ true → v.number ≡ (present views).number + 1
    → place + 1 < v.start → v.start ≤ place' + 1 → AreViews first place' (views ++ v ∷ [])
are_grown first place place' views v are more viewed numbered late low =
    let last : (present views).number ≡ last_number first.number are.rest = ap (λ (vs : List View). (present vs).number) are.begins ∙ present_number first are.rest in
    let before = start_low place first.number 0 are.rest (omega arith) are.follows in
    record {
      rest = are.rest ++ v ∷ [];
      begins = ap (λ (vs : List View). vs ++ v ∷ []) are.begins;
      follows = follow_end place' first.number 0 are.rest v (follow_more place place' first.number 0 are.rest more are.follows) (record { number_is = omega (arith, numbered, last); later = omega (arith, before, late); low = low });
      valid = each_end (λ w. is_view w ≡ true) views v are.valid viewed;
    }

-- views that follow from the first on follow behind its number
pub first_follow : (place : ℕ) (first : View) (vs : List View) → views_follow place (first ∷ vs) ≡ true → follow place first.number 0 vs ≡ true
first_follow place first vs is =
    let parts = and_true (is_first_view first) (follow place 0 1 vs) is in
    let here = and_true (first.number == 0) (first.start == 1) parts.0 in
    let number : first.number ≡ 0 = eqb-true first.number 0 here.0 in
    subst (λ (k : ℕ). follow place k 0 vs ≡ true) (sym number) (follow_earlier place 0 1 0 vs (omega arith) parts.1)

-- ---- who holds a place before views start, and who has a number

-- views that start past a place
abbrev pub StartPast : ℕ → List View → Type 0
StartPast place views = Each (λ (v : View). place < v.start) views

-- views whose numbers are past one
abbrev pub ArePast : ℕ → List View → Type 0
ArePast number views = Each (λ (v : View). number < v.number) views

-- views that follow behind others have later numbers
follow_past : (place number start : ℕ) (vs : List View) → follow place number start vs ≡ true → ArePast number vs
follow_past place number start [] is = tt
follow_past place number start (v ∷ vs) is =
    let parts = and_true (is_next_view place number start v) (follow place v.number v.start vs) is in
    let numbered = (next_is place number start v parts.0).number_is in (
      omega (arith, numbered),
      each-weaken (λ (u : View). v.number < u.number) (λ (u : View). number < u.number) (λ u past. omega (arith, numbered, past)) vs (follow_past place v.number v.start vs parts.1),
    )

pub past_first : (place : ℕ) (first : View) (vs more : List View) → follow place first.number 0 (vs ++ more) ≡ true → ArePast (present (first ∷ vs)).number more
past_first place first vs more is = by first 0 vs is
  where
    by : (v : View) (start : ℕ) (ws : List View) → follow place v.number start (ws ++ more) ≡ true → ArePast (present (v ∷ ws)).number more
    by v start [] is = follow_past place v.number start more is
    by v start (w ∷ ws) is = by w w.start ws (and_true (is_next_view place v.number start w) (follow place w.number w.start (ws ++ more)) is).1

late_start : (v : View) (place : ℕ) → place < v.start → (if nat_le v.start place then Some v else None) ≡ None
late_start v place low = by (nat_le v.start place) refl
  where
    by : (t : Bool) → nat_le v.start place ≡ t → cond t (Some v) None ≡ None
    by true is = absurd (let high = leb-true v.start place is in omega (arith, low, high))
    by false is = refl

none_hold : (vs : List View) (place : ℕ) → StartPast place vs → view_holding vs place ≡ None
none_hold [] place late = refl
none_hold (v ∷ vs) place late = ap (λ (o : Option View). or_else o (if nat_le v.start place then Some v else None)) (none_hold vs place late.1) ∙ late_start v place late.0

-- the holder of a place among views and more: the last of those behind that starts by then, or else the earlier one
else_none : (o : Option View) → o ≡ or_else o None
else_none None = refl
else_none (Some v) = refl

else_three : (a b c : Option View) → or_else (or_else a b) c ≡ or_else a (or_else b c)
else_three None b c = refl
else_three (Some v) b c = refl

holding_both : (vs more : List View) (place : ℕ) → view_holding (vs ++ more) place ≡ or_else (view_holding more place) (view_holding vs place)
holding_both [] more place = else_none (view_holding more place)
holding_both (w ∷ ws) more place =
    ap (λ (o : Option View). or_else o (if nat_le w.start place then Some w else None)) (holding_both ws more place)
    ∙ else_three (view_holding more place) (view_holding ws place) (if nat_le w.start place then Some w else None)

-- it is the holder among the former, or one of the latter
pub holder_or : (vs more : List View) (place : ℕ) (u v : View) → view_for vs place ≡ Some u → view_for (vs ++ more) place ≡ Some v → (v ≡ u) ⊎ Among v more
holder_or [] more place u v old is = absurd (cc)
holder_or (w ∷ ws) more place u v old is = by (view_holding more place) refl (sym (ap (λ (o : Option View). or_else o (Some w)) (holding_both ws more place)) ∙ is)
  where
    by : (o : Option View) → view_holding more place ≡ o → or_else (or_else (view_holding more place) (view_holding ws place)) (Some w) ≡ Some v → (v ≡ u) ⊎ Among v more
    by None at said =
        let same : or_else (view_holding ws place) (Some w) ≡ Some v = ap (λ (x : Option View). or_else (or_else x (view_holding ws place)) (Some w)) (sym at) ∙ said in
        inl (some_equal v u (sym same ∙ old))
    by (Some x) at said =
        let same : Some x ≡ Some v = ap (λ (y : Option View). or_else (or_else y (view_holding ws place)) (Some w)) (sym at) ∙ said in
        inr (holding_among more place v (at ∙ same))

-- each place has a holder among some views
pub some_holder : (w : View) (ws : List View) (place : ℕ) → (u : View) × (view_for (w ∷ ws) place ≡ Some u)
some_holder w ws place = by (view_holding ws place) refl
  where
    by : (o : Option View) → view_holding ws place ≡ o → (u : View) × (view_for (w ∷ ws) place ≡ Some u)
    by None at = (w, ap (λ (x : Option View). or_else x (Some w)) at)
    by (Some x) at = (x, ap (λ (y : Option View). or_else y (Some w)) at)

pub holding_end : (vs more : List View) (place : ℕ) → StartPast place more → view_holding (vs ++ more) place ≡ view_holding vs place
holding_end [] more place late = none_hold more place late
holding_end (w ∷ ws) more place late = ap (λ (o : Option View). or_else o (if nat_le w.start place then Some w else None)) (holding_end ws more place late)

pub for_end : (vs more : List View) (u : View) (place : ℕ) → StartPast place more → view_for vs place ≡ Some u → view_for (vs ++ more) place ≡ Some u
for_end [] more u place late is = absurd (cc)
for_end (w ∷ ws) more u place late is = ap (λ (o : Option View). or_else o (Some w)) (holding_end ws more place late) ∙ is

pub numbered_end : (vs more : List View) (u : View) (number : ℕ) → view_numbered vs number ≡ Some u → view_numbered (vs ++ more) number ≡ Some u
numbered_end [] more u number is = absurd (cc)
numbered_end (w ∷ ws) more u number is = by (w.number == number) is (λ later. numbered_end ws more u number later)
  where
    by : (t : Bool) → cond t (Some w) (view_numbered ws number) ≡ Some u → (view_numbered ws number ≡ Some u → view_numbered (ws ++ more) number ≡ Some u)
        → cond t (Some w) (view_numbered (ws ++ more) number) ≡ Some u
    by true said rest = said
    by false said rest = rest said

pub in_grown : (vs more : List View) (place number : ℕ) → StartPast place more → IsIn vs place number → IsIn (vs ++ more) place number
in_grown vs more place number late is = record { view = is.view; holds = for_end vs more is.view place late is.holds; number_is = is.number_is }

-- a view that has begun among them has begun among more
begun_grown : (vs more : List View) (place : ℕ) (v : View) → HasBegun vs place v → HasBegun (vs ++ more) place v
begun_grown vs more place v (inl low) = inl low
begun_grown vs more place v (inr first) = inr (first.0 ++ more, ap (λ (xs : List View). xs ++ more) first.1)

pub known_grown : (vs more : List View) (number : ℕ) → IsKnown vs number → IsKnown (vs ++ more) number
known_grown vs more number is = record { view = is.view; is = numbered_end vs more is.view number is.is }

pub start_past : (bound place : ℕ) (vs : List View) → place ≤ bound → StartPast bound vs → StartPast place vs
start_past bound place vs low late = each-weaken (λ (v : View). bound < v.start) (λ (v : View). place < v.start) (λ v past. omega (arith, low, past)) vs late

-- no number that is known is past those of the views behind
abbrev pub NoLater : List View → List View → Type 0
NoLater vs more = (number : ℕ) → IsKnown vs number → (v : View) → Among v more → number ≤ v.number

-- an installation stays one of a view that is no later than the holder of its place
installed_grown : (vs more : List View) (i : Installation) → NoLater vs more → IsInstalledIn vs i → IsInstalledIn (vs ++ more) i
installed_grown [] more i later is = absurd (let none = is.of_view.is in cc)
installed_grown (w ∷ ws) more i later is =
    let held = some_holder w ws i.place in
    record {
      of_view = known_grown (w ∷ ws) more i.view is.of_view;
      upto = λ v holds. by held.0 v (holder_or (w ∷ ws) more i.place held.0 v held.1 holds) (is.upto held.0 held.1);
      some = is.some;
    }
  where
    by : (u v : View) → (v ≡ u) ⊎ Among v more → i.view ≤ u.number → i.view ≤ v.number
    by u v (inl same) low = subst (λ (x : View). i.view ≤ x.number) (sym same) low
    by u v (inr there) low = later i.view is.of_view v there

-- ---- entries

-- an entry of a place before the views start stays within what it is within
within_grown : (vs more : List View) (bound place : ℕ) (all es : List LogEntry) (e : LogEntry) → NoLater vs more → StartPast bound more → IsWithin vs bound all e → IsWithin vs place es e → IsWithin (vs ++ more) place es e
unfolding known_grown
within_grown vs more bound place all es (Opened o) later late known is = tt
within_grown vs more bound place all es (Wrote w) later late known is =
    record { of_view = in_grown vs more w.slot.place w.slot.view (start_past bound w.slot.place more known.place_is late) is.of_view; place_is = is.place_is; regency_is = is.regency_is }
within_grown vs more bound place all es (Accepted a) later late known is =
    record { of_view = in_grown vs more a.slot.place a.slot.view (start_past bound a.slot.place more known.place_is late) is.of_view; place_is = is.place_is; regency_is = is.regency_is }
within_grown vs more bound place all es (Promised p) later late known is = record { of_view = known_grown vs more p.view is.of_view; begun = begun_grown vs more place is.of_view.view is.begun; some = is.some; most = is.most }
within_grown vs more bound place all es (Synced s) later late known is = record { of_view = known_grown vs more s.view is.of_view; begun = begun_grown vs more place is.of_view.view is.begun; some = is.some; most = is.most }
within_grown vs more bound place all es (Decided d) later late known is =
    record { of_view = in_grown vs more d.slot.place d.slot.view (start_past bound d.slot.place more known.place_is late) is.of_view; place_is = is.place_is; low = is.low }
within_grown vs more bound place all es (Installed i) later late known is = installed_grown vs more i later is
within_grown vs more bound place all es (Marked m) later late known is = is

pub all_grown : (vs more : List View) (bound : ℕ) (es : List LogEntry) → NoLater vs more → StartPast bound more → Each (IsWithin vs bound es) es → Each (IsWithin (vs ++ more) bound es) es
all_grown vs more bound es later late all = each-weaken (IsWithin vs bound es) (IsWithin (vs ++ more) bound es) (λ e is. within_grown vs more bound bound es es e later late is is) es all

pub among_middle : (xs : List LogEntry) (e : LogEntry) (ys : List LogEntry) → Among e (xs ++ e ∷ ys)
among_middle [] e ys = inl refl
among_middle (x ∷ xs) e ys = inr (among_middle xs e ys)

pub ranged_grown : (opening : ℕ) (vs more : List View) (bound : ℕ) (es : List LogEntry) → NoLater vs more → StartPast bound more → Each (IsWithin vs bound es) es → AreRangedPast opening vs es
    → AreRangedPast opening (vs ++ more) es
ranged_grown opening vs more bound es later late all ranged before e after split =
    let is = ranged before e after split in
    let there : Among e es = subst (λ (xs : List LogEntry). Among e xs) (sym split) (among_middle before e after) in
    record {
      within = within_grown vs more bound (max opening (last_made before) + 1) es (before ++ e ∷ []) e later late (each_among (IsWithin vs bound es) es e all there) is.within;
      newest = is.newest;
    }

-- no entry is of a view whose number is past those that are known
module _ (first : View) (place : ℕ) (vs : List View) (are : AreViews first place vs) where
  not_known : (v : View) (number : ℕ) → (present vs).number < v.number → IsKnown vs number → number ≡ v.number → ⊥
  not_known v number newer known same = let most = known_most first place vs are number known in omega (arith, most, newer, same)

  not_in : (v : View) (at number : ℕ) → (present vs).number < v.number → IsIn vs at number → number ≡ v.number → ⊥
  not_in v at number newer is same = not_known v number newer (subst (IsKnown vs) is.number_is (some_numbered vs is.view (held_among vs at is.view is.holds))) same

  none_new : (v : View) (secret : List ℕ) (stated : List Statement) (bound : ℕ) (es : List LogEntry) (e : LogEntry) → (present vs).number < v.number → IsWithin vs bound es e → IsBacked secret digest_of v stated e
  none_new v secret stated bound es (Opened o) newer is = tt
  none_new v secret stated bound es (Wrote w) newer is = tt
  none_new v secret stated bound es (Accepted a) newer is = λ same. absurd (not_in v a.slot.place a.slot.view newer is.of_view same)
  none_new v secret stated bound es (Promised p) newer is = tt
  none_new v secret stated bound es (Synced s) newer is = λ same. absurd (not_known v s.view newer is.of_view same)
  none_new v secret stated bound es (Decided d) newer is = λ same. absurd (not_in v d.slot.place d.slot.view newer is.of_view same)
  none_new v secret stated bound es (Installed i) newer is = λ same. absurd (not_known v i.view newer is.of_view same)
  none_new v secret stated bound es (Marked m) newer is = tt

  backed_grown : (more : List View) (secret : List ℕ) (stated : List Statement) (bound : ℕ) (es : List LogEntry) (e : LogEntry) → ArePast (present vs).number more → IsWithin vs bound es e
      → IsBackedIn secret vs stated e → IsBackedIn secret (vs ++ more) stated e
  backed_grown more secret stated bound es e newer within is u there = by (among_either u vs more there)
    where
      by : (Among u vs) ⊎ (Among u more) → IsBacked secret digest_of u stated e
      by (inl old) = is u old
      by (inr new) = none_new u secret stated bound es e (each_among (λ (v : View). (present vs).number < v.number) more u newer new) within

  pub each_backed_grown : (more : List View) (secret : List ℕ) (stated : List Statement) (bound : ℕ) (es : List LogEntry) → ArePast (present vs).number more → Each (IsWithin vs bound es) es
      → Each (IsBackedIn secret vs stated) es → Each (IsBackedIn secret (vs ++ more) stated) es
  each_backed_grown more secret stated bound es newer within all =
      each_from (IsBackedIn secret (vs ++ more) stated) es
      (λ e there. backed_grown more secret stated bound es e newer (each_among (IsWithin vs bound es) es e within there) (each_among (IsBackedIn secret vs stated) es e all there))

-- a plan stays one of a known view
pub plan_grown : (secret : List ℕ) (stated : List Statement) (vs more : List View) (planned : Option Fetch) → PlanKept secret stated vs planned → PlanKept secret stated (vs ++ more) planned
unfolding known_grown
plan_grown secret stated vs more None is = tt
plan_grown secret stated vs more (Some f) is = record { of_view = known_grown vs more f.plan.view is.of_view; certified = is.certified; drawn = is.drawn }

-- ---- what is kept

-- what is kept of a view that is over owes nothing
is_over : (old new : View) (number : ℕ) (Holds More : Type 0) → old.number < new.number → InForce old number Holds → InForce new number More
is_over old new number Holds More less is =
    let low = is.0 in
    (omega (arith, low, less), λ same. absurd (omega (arith, low, less, same)))

arrival_over : (secret : List ℕ) (stated : List Statement) (old new : View) (m : Message) → old.number < new.number → Arrived secret stated old m → Arrived secret stated new m
arrival_over secret stated old new (Propose p) less is =
    (is_over old new p.head.statement.slot.view (IsProposal secret old p) (IsProposal secret new p) less is.0, is.1)
arrival_over secret stated old new (Vote b) less is =
    (is_over old new b.statement.slot.view (IsMembers old (is_verified ballots secret b) b.signer) (IsMembers new (is_verified ballots secret b) b.signer) less is.0, is.1)
arrival_over secret stated old new _ less is = absurd is.0

-- ---- the node

-- the node with other views
unfoldable pub with_views : {S : Type 0} → Node S → List View → Node S
with_views n views = record n { replica = record { service = n.replica.service; table = n.replica.table; views = views; place = n.replica.place } }

pub present_behind : (vs : List View) (v : View) (more : List View) → present (vs ++ v ∷ more) ≡ present (v ∷ more)
present_behind [] v more = refl
present_behind (w ∷ []) v more = refl
present_behind (w ∷ x ∷ ws) v more = present_behind (x ∷ ws) v more

sound_later : {S : Type 0} (stated : List Statement) (first : View) (n : Node S) (v : View) (more : List View) (bound : ℕ) → IsSound stated first n
    → AreViews first n.replica.place (n.replica.views ++ v ∷ more) → ArePast (view_of n).number (v ∷ more) → StartPast bound (v ∷ more) → bound ≤ n.replica.place + 1
    → Each (IsWithin n.replica.views bound n.entries) n.entries → Each (λ (d : ProvenBatch). d.place ≤ n.replica.place) n.decisions → IsSound stated first (with_views n (n.replica.views ++ v ∷ more))
unfolding with_views regency_of is_proven is_collect
sound_later {S = S} stated first n v more bound is are newer late upto low shown =
    let vs : List View = n.replica.views in
    let new : List View = v ∷ more in
    let place : ℕ = n.replica.place in
    let m : Node S = with_views n (vs ++ new) in
    let force : view_of m ≡ present new = present_behind vs v more in
    let later : NoLater vs new =
    (λ number known u there. let most = known_most first place vs is.views number known in let past = each_among (λ (x : View). (view_of n).number < x.number) new u newer there in omega (arith, most, past)) in
    let less : (view_of n).number < (view_of m).number =
    subst (λ (u : View). (view_of n).number < u.number) (sym force) (each_among (λ (u : View). (view_of n).number < u.number) new (present new) newer (present_among v more)) in
    record {
      views = are;
      begun = is.begun;
      lawful = is.lawful;
      tidy = is.tidy;
      last = is.last;
      latest = is.latest;
      within = all_within_more (vs ++ new) bound (place + 1) n.entries n.entries n.entries upto (λ k. omega arith) (all_grown vs new bound n.entries later late low);
      ranged = ranged_grown n.opening vs new bound n.entries later late low is.ranged;
      backed = each_backed_grown first place vs is.views new n.secret stated bound n.entries newer low is.backed;
      batches = is.batches;
      waiting = is.waiting;
      table = is.table;
      arrivals = each-weaken (Arrived n.secret stated (view_of n)) (Arrived n.secret stated (view_of m)) (λ x kept. arrival_over n.secret stated (view_of n) (view_of m) x less kept) n.arrivals is.arrivals;
      stops = each-weaken (StopKept n.secret stated (view_of n)) (StopKept n.secret stated (view_of m))
          (λ s kept. (is_over (view_of n) (view_of m) s.statement.view (IsMembers (view_of n) (is_verified stops n.secret s) s.signer) (IsMembers (view_of m) (is_verified stops n.secret s) s.signer) less kept.0, kept.1)) n.stops is.stops;
      reports = each-weaken (ReportKept n stated) (ReportKept m stated)
          (λ r kept. (
            is_over (view_of n) (view_of m) r.head.statement.view (IsMembers (view_of n) (is_verified reports n.secret r.head) r.head.signer × (is_proven n r ≡ true))
                (IsMembers (view_of m) (is_verified reports n.secret r.head) r.head.signer × (is_proven m r ≡ true)) less kept.0,
            kept.1,
          )) n.reports is.reports;
      syncs = each-weaken (SyncKept n stated) (SyncKept m stated)
          (λ s kept. (
            is_over (view_of n) (view_of m) s.statement.view (IsMembers (view_of n) (is_verified syncs n.secret s) s.signer × (is_collect n s.statement ≡ true))
                (IsMembers (view_of m) (is_verified syncs n.secret s) s.signer × (is_collect m s.statement ≡ true)) less kept.0,
            kept.1,
          )) n.syncs is.syncs;
      decisions = each_both (DecisionKept n.secret stated (place + 1) (view_of n)) (λ (d : ProvenBatch). d.place ≤ place) (DecisionKept n.secret stated (place + 1) (view_of m))
          (λ d kept few. (kept.0, kept.1, λ at. absurd (omega (arith, few, at)))) n.decisions is.decisions shown;
      offers = is.offers;
      marked = is.marked;
      fetch = plan_grown n.secret stated vs new n.fetch is.fetch;
      pool = is.pool;
      held = is.held;
      late = is.late;
    }

-- A sound node is sound where its replica has more views behind those that it knew. Each is of a later number, and starts past the places of
-- the book. The node has kept no decision of the next place.
pub sound_grown : {S : Type 0} (stated : List Statement) (first : View) (n : Node S) (more : List View) (bound : ℕ) → IsSound stated first n
    → AreViews first n.replica.place (n.replica.views ++ more) → ArePast (view_of n).number more → StartPast bound more → bound ≤ n.replica.place + 1
    → Each (IsWithin n.replica.views bound n.entries) n.entries → Each (λ (d : ProvenBatch). d.place ≤ n.replica.place) n.decisions → IsSound stated first (with_views n (n.replica.views ++ more))
unfolding with_views
sound_grown {S = S} stated first n [] bound is are newer late upto low shown =
    subst (λ (vs : List View). IsSound stated first (with_views n vs)) (sym (append-nil n.replica.views)) is
sound_grown stated first n (v ∷ more) bound is are newer late upto low shown = sound_later stated first n v more bound is are newer late upto low shown
