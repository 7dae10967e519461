-- What is certified is the greatest, and the lowest of its digests.
use Rattle.std.proofs.Common.{◌≡◌, ℕ, ◌+◌, ◌<◌, ◌≤◌, ◌==◌, ◌++◌, nat_lt, Bool, true, false, ◌&&◌, ◌||◌, cond, List, [], ◌∷◌, length, refl, ap, sym, ◌∙◌, subst, arith, eq-eqb}
use Rattle.std.specs.Prelude.{filter, ◌⊎◌, ◌↔◌, Option, Some, None}
use Rattle.std.specs.List.{list_any}
use Rattle.std.specs.Ordering.{is_lt}
use mathlib.Core.Logic.{inl, inr}
use Rattle.std.specs.declared.cmp.Ordering.TheVariants.{Less, Greater}
use Rattle.std.proofs.lemmas.Bool.{eqb-true, ltb-true, ltb-false, lt-ltb}
use Rattle.smart_base.specs.Lists.{Each, Distinct, same_bytes}
use Rattle.smart_base.specs.Views.{View, is_view, is_member}
use Rattle.smart_base.proofs.SameLists.{and_true, same_list-equal}
use Rattle.smart_base.proofs.ViewFacts.{view-distinct}
use Rattle.smart_statements.specs.Forms.{SignedBy}
use Rattle.smart_statements.specs.declared.report.Mark.{Mark}
use Rattle.state_marks.specs.Tables.{byte_order, is_mark_of, has_marked, is_marked, leads, is_led_by, better, best_of, certified, HasMarked, AreEnough, IsCertified}
use Rattle.state_marks.proofs.Lists.{or_false, or_right, not_true, weaker_passes, each_filter, each_passing, each_as, each_mid, each_at, each_listed, distinct_filtered, is_one, all_listed, same_itself}
use Rattle.state_marks.proofs.Orders.{is_less, itself, through, not_behind, same_text}

abbrev mark_of : ℕ → List ℕ → Mark
mark_of place digest = record { place = place; digest = digest }

-- ---- what leads

-- a place and digest go before another
abbrev Leads : Mark → ℕ → List ℕ → Type 0
Leads mark place digest = (place < mark.place) ⊎ ((place ≡ mark.place) × (byte_order mark.digest digest ≡ Less))

leads_by : (mark : Mark) (place : ℕ) (digest : List ℕ) (t : Bool) → nat_lt place mark.place ≡ t → (t || ((place == mark.place) && is_lt (byte_order mark.digest digest))) ≡ true → Leads mark place digest
leads_by mark place digest true is some = inl (ltb-true place mark.place is)
leads_by mark place digest false is some =
    let parts = and_true (place == mark.place) (is_lt (byte_order mark.digest digest)) some in
    inr (eqb-true place mark.place parts.0, is_less (byte_order mark.digest digest) parts.1)

leads_is : (mark : Mark) (place : ℕ) (digest : List ℕ) → leads mark (Some (place, digest)) ≡ true → Leads mark place digest
leads_is mark place digest is = leads_by mark place digest (nat_lt place mark.place) refl is

is_leading : (mark : Mark) (place : ℕ) (digest : List ℕ) → Leads mark place digest → leads mark (Some (place, digest)) ≡ true
is_leading mark place digest (inl below) = rw (lt-ltb place mark.place below) refl
is_leading mark place digest (inr same) =
    or_right (nat_lt place mark.place) ((place == mark.place) && is_lt (byte_order mark.digest digest)) (rw (eq-eqb place mark.place same.0, same.1) refl)

leads_through : (m x : Mark) (place : ℕ) (digest : List ℕ) → Leads m x.place x.digest → Leads x place digest → Leads m place digest
leads_through m x place digest (inl a) (inl b) = inl (omega (arith, a, b))
leads_through m x place digest (inl a) (inr b) = inl (let same = b.0 in omega (arith, a, same))
leads_through m x place digest (inr a) (inl b) = inl (let same = a.0 in omega (arith, same, b))
leads_through m x place digest (inr a) (inr b) = inr (b.0 ∙ a.0, through m.digest x.digest digest a.1 b.1)

leads_further : (m x : Mark) (found : Option (ℕ × List ℕ)) → leads m (Some (x.place, x.digest)) ≡ true → leads x found ≡ true → leads m found ≡ true
leads_further m x None first second = refl
leads_further m x (Some f) first second = is_leading m f.0 f.1 (leads_through m x f.0 f.1 (leads_is m x.place x.digest first) (leads_is x f.0 f.1 second))

self_by : (x : Mark) (t : Bool) → nat_lt x.place x.place ≡ t → is_lt (byte_order x.digest x.digest) ≡ false
    → (t || ((x.place == x.place) && is_lt (byte_order x.digest x.digest))) ≡ false
self_by x true is none =
    let below = ltb-true x.place x.place is in
    absurd (omega (arith, below))
self_by x false is none = ap (λ t. (x.place == x.place) && t) none ∙ nothing (x.place == x.place)
  where
    nothing : (b : Bool) → (b && false) ≡ false
    nothing true = refl
    nothing false = refl

not_itself : (x : Mark) → leads x (Some (x.place, x.digest)) ≡ false
not_itself x = self_by x (nat_lt x.place x.place) refl (itself x.digest)

both_ways : (b : Bool) → b ≡ true → b ≡ false → ⊥
both_ways true is fails = absurd (cc)
both_ways false is fails = absurd (cc)

-- ---- the best of marks

led_parts : (v : View) (table : List (SignedBy Mark)) (found : Option (ℕ × List ℕ)) (x : SignedBy Mark) → is_led_by v table found x ≡ true
    → (leads x.statement found ≡ true) × (is_marked v table x.statement ≡ true)
led_parts v table found x is =
    let parts = and_true (leads x.statement found && is_member v x.signer) (is_marked v table x.statement) is in
    ((and_true (leads x.statement found) (is_member v x.signer) parts.0).0, parts.1)

kept_by : (v : View) (table : List (SignedBy Mark)) (m : Mark) (found : Option (ℕ × List ℕ)) (x : SignedBy Mark) (t : Bool) → is_led_by v table found x ≡ t
    → leads m found ≡ false → leads m (cond t (Some (x.statement.place, x.statement.digest)) found) ≡ false
kept_by v table m found x true is none =
    not_true (leads m (Some (x.statement.place, x.statement.digest)))
    (λ yes. both_ways (leads m found) (leads_further m x.statement found yes (led_parts v table found x is).0) none)
kept_by v table m found x false is none = none

-- what does not lead the one found leads none found later
keeps : (v : View) (table : List (SignedBy Mark)) (m : Mark) (found : Option (ℕ × List ℕ)) (left : List (SignedBy Mark)) → leads m found ≡ false
    → leads m (best_of v table found left) ≡ false
keeps v table m found [] none = none
keeps v table m found (x ∷ left) none =
    keeps v table m (better v table found x) left (kept_by v table m found x (is_led_by v table found x) refl none)

-- a mark of a member that enough others made too does not lead what was found
abbrev IsReached : View → List (SignedBy Mark) → Option (ℕ × List ℕ) → SignedBy Mark → Type 0
IsReached v table found x = is_member v x.signer ≡ true → is_marked v table x.statement ≡ true → leads x.statement found ≡ false

better_by : (v : View) (table : List (SignedBy Mark)) (found : Option (ℕ × List ℕ)) (x : SignedBy Mark) (t : Bool) → leads x.statement found ≡ t
    → is_member v x.signer ≡ true → is_marked v table x.statement ≡ true
    → leads x.statement (cond ((t && is_member v x.signer) && is_marked v table x.statement) (Some (x.statement.place, x.statement.digest)) found) ≡ false
better_by v table found x true is member marked = rw (member, marked) (not_itself x.statement)
better_by v table found x false is member marked = is

reaches : (v : View) (table : List (SignedBy Mark)) (found : Option (ℕ × List ℕ)) (left : List (SignedBy Mark)) → Each (IsReached v table (best_of v table found left)) left
reaches v table found [] = tt
reaches v table found (x ∷ left) = (
  (λ member marked. keeps v table x.statement (better v table found x) left (better_by v table found x (leads x.statement found) refl member marked)),
  reaches v table (better v table found x) left,
)

-- enough marks were made of what was found
abbrev Holds : View → List (SignedBy Mark) → Option (ℕ × List ℕ) → Type 0
Holds v table None = Unit {0}
Holds v table (Some f) = is_marked v table (mark_of f.0 f.1) ≡ true

holds_by : (v : View) (table : List (SignedBy Mark)) (found : Option (ℕ × List ℕ)) (x : SignedBy Mark) (t : Bool) → is_led_by v table found x ≡ t
    → Holds v table found → Holds v table (cond t (Some (x.statement.place, x.statement.digest)) found)
holds_by v table found x true is holds = (led_parts v table found x is).1
holds_by v table found x false is holds = holds

holds : (v : View) (table : List (SignedBy Mark)) (found : Option (ℕ × List ℕ)) (left : List (SignedBy Mark)) → Holds v table found → Holds v table (best_of v table found left)
holds v table found [] is = is
holds v table found (x ∷ left) is = holds v table (better v table found x) left (holds_by v table found x (is_led_by v table found x) refl is)

-- ---- marks of members

marked_here : (table : List (SignedBy Mark)) (place : ℕ) (digest : List ℕ) (member : ℕ) (x : SignedBy Mark) → is_mark_of (mark_of place digest) member x ≡ true
    → HasMarked (x ∷ table) place digest member
marked_here table place digest member x is =
    let parts = and_true ((x.signer == member) && (x.statement.place == place)) (same_bytes x.statement.digest digest) is in
    let first = and_true (x.signer == member) (x.statement.place == place) parts.0 in
    record {
      front = [];
      mark = x;
      back = table;
      split = refl;
      signer_is = eqb-true x.signer member first.0;
      place_is = eqb-true x.statement.place place first.1;
      digest_is = same_list-equal {A = ℕ} (λ a b. a == b) eqb-true x.statement.digest digest parts.1;
    }

marked_later : (table : List (SignedBy Mark)) (place : ℕ) (digest : List ℕ) (member : ℕ) (x : SignedBy Mark) → HasMarked table place digest member
    → HasMarked (x ∷ table) place digest member
marked_later table place digest member x has =
    record { front = x ∷ has.front; mark = has.mark; back = has.back; split = ap (λ ys. x ∷ ys) has.split; signer_is = has.signer_is; place_is = has.place_is; digest_is = has.digest_is }

marked_by : (table : List (SignedBy Mark)) (place : ℕ) (digest : List ℕ) (member : ℕ) (x : SignedBy Mark) (t : Bool) → is_mark_of (mark_of place digest) member x ≡ t
    → (has_marked table (mark_of place digest) member ≡ true → HasMarked table place digest member)
    → (t || has_marked table (mark_of place digest) member) ≡ true → HasMarked (x ∷ table) place digest member
marked_by table place digest member x true is rest some = marked_here table place digest member x is
marked_by table place digest member x false is rest some = marked_later table place digest member x (rest some)

marked_from : (table : List (SignedBy Mark)) (place : ℕ) (digest : List ℕ) (member : ℕ) → has_marked table (mark_of place digest) member ≡ true → HasMarked table place digest member
marked_from [] place digest member some = absurd (cc)
marked_from (x ∷ table) place digest member some =
    marked_by table place digest member x (is_mark_of (mark_of place digest) member x) refl (marked_from table place digest member) some

marked_mid : (front : List (SignedBy Mark)) (x : SignedBy Mark) (back : List (SignedBy Mark)) (p : SignedBy Mark → Bool) → p x ≡ true → list_any p (front ++ x ∷ back) ≡ true
marked_mid [] x back p is = rw is refl
marked_mid (y ∷ front) x back p is = or_right (p y) (list_any p (front ++ x ∷ back)) (marked_mid front x back p is)

is_its_mark : (x : SignedBy Mark) (place : ℕ) (digest : List ℕ) (member : ℕ) → x.signer ≡ member → x.statement.place ≡ place → x.statement.digest ≡ digest
    → is_mark_of (mark_of place digest) member x ≡ true
is_its_mark x place digest member signed placed is =
    let same : same_bytes x.statement.digest digest ≡ true = ap (same_bytes x.statement.digest) (sym is) ∙ same_itself x.statement.digest in
    rw (eq-eqb x.signer member signed, eq-eqb x.statement.place place placed, same) refl

marked_to : (table : List (SignedBy Mark)) (place : ℕ) (digest : List ℕ) (member : ℕ) → HasMarked table place digest member → has_marked table (mark_of place digest) member ≡ true
marked_to table place digest member has =
    ap (list_any (is_mark_of (mark_of place digest) member)) has.split
    ∙ marked_mid has.front has.mark has.back (is_mark_of (mark_of place digest) member) (is_its_mark has.mark place digest member has.signer_is has.place_is has.digest_is)

-- ---- enough members

pub enough_from : (v : View) (table : List (SignedBy Mark)) (place : ℕ) (digest : List ℕ) → is_view v ≡ true → is_marked v table (mark_of place digest) ≡ true
    → AreEnough v table place digest
enough_from v table place digest view is =
    let p = has_marked table (mark_of place digest) in
    let above = ltb-true v.f (length (filter p v.members)) is in
    record {
      members = filter (has_marked table (mark_of place digest)) v.members;
      of_view = each_filter (λ m. is_member v m ≡ true) (has_marked table (mark_of place digest)) v.members (each_listed v.members);
      distinct = distinct_filtered (has_marked table (mark_of place digest)) v.members (view-distinct v view);
      marked =
          each_as (λ m. has_marked table (mark_of place digest) m ≡ true) (HasMarked table place digest) (λ m has. marked_from table place digest m has)
          (filter (has_marked table (mark_of place digest)) v.members) (each_passing (has_marked table (mark_of place digest)) v.members);
      enough = omega (arith, above);
    }

pub enough_to : (v : View) (table : List (SignedBy Mark)) (place : ℕ) (digest : List ℕ) → AreEnough v table place digest → is_marked v table (mark_of place digest) ≡ true
enough_to v table place digest are =
    let among = all_listed v.members are.members are.of_view are.distinct in
    let marked = weaker_passes (is_one are.members) (has_marked table (mark_of place digest))
    (λ n is. marked_to table place digest n (each_at (HasMarked table place digest) are.members n are.marked is)) v.members in
    let many = are.enough in
    lt-ltb v.f (length (filter (has_marked table (mark_of place digest)) v.members)) (omega (arith, among, marked, many))

mark_is : (x : Mark) (place : ℕ) (digest : List ℕ) → x.place ≡ place → x.digest ≡ digest → x ≡ mark_of place digest
mark_is x place digest placed is = rw (← placed, ← is) refl

-- one of enough members made a mark, which does not lead what is found
led_by_one : (v : View) (table : List (SignedBy Mark)) (place : ℕ) (digest : List ℕ) (m : ℕ) (found : Option (ℕ × List ℕ)) → is_member v m ≡ true
    → HasMarked table place digest m → is_marked v table (mark_of place digest) ≡ true → Each (IsReached v table found) table → leads (mark_of place digest) found ≡ false
led_by_one v table place digest m found member has marked all =
    let same = mark_is has.mark.statement place digest has.place_is has.digest_is in
    let here = each_mid (IsReached v table found) has.front has.mark has.back (subst (Each (IsReached v table found)) has.split all) in
    subst (λ (x : Mark). leads x found ≡ false) same
    (here (ap (is_member v) has.signer_is ∙ member) (subst (λ (x : Mark). is_marked v table x ≡ true) (sym same) marked))

led_by_some : (v : View) (table : List (SignedBy Mark)) (place : ℕ) (digest : List ℕ) (found : Option (ℕ × List ℕ)) (members : List ℕ) → v.f + 1 ≤ length members
    → Each (λ m. is_member v m ≡ true) members → Each (HasMarked table place digest) members → is_marked v table (mark_of place digest) ≡ true
    → Each (IsReached v table found) table → leads (mark_of place digest) found ≡ false
led_by_some v table place digest found [] many of_view marks marked all = absurd (omega (arith, many))
led_by_some v table place digest found (m ∷ ms) many of_view marks marked all = led_by_one v table place digest m found of_view.0 marks.0 marked all

-- what enough members marked does not lead what is certified
pub not_led : (v : View) (table : List (SignedBy Mark)) (place : ℕ) (digest : List ℕ) → AreEnough v table place digest → leads (mark_of place digest) (certified v table) ≡ false
unfolding certified
not_led v table place digest are =
    led_by_some v table place digest (best_of v table None table) are.members are.enough are.of_view are.marked (enough_to v table place digest are)
    (reaches v table None table)

certified_holds : (v : View) (table : List (SignedBy Mark)) → Holds v table (certified v table)
unfolding certified
certified_holds v table = holds v table None table tt

-- ---- the laws

no_greater : (m : Mark) (place : ℕ) (digest : List ℕ) → leads m (Some (place, digest)) ≡ false → m.place ≤ place
no_greater m place digest none = ltb-false place m.place (or_false (nat_lt place m.place) ((place == m.place) && is_lt (byte_order m.digest digest)) none).0

no_lower : (m : Mark) (place : ℕ) (digest : List ℕ) → place ≡ m.place → leads m (Some (place, digest)) ≡ false → is_lt (byte_order m.digest digest) ≡ false
no_lower m place digest same none =
    let both = (or_false (nat_lt place m.place) ((place == m.place) && is_lt (byte_order m.digest digest)) none).1 in
    sym (ap (λ t. t && is_lt (byte_order m.digest digest)) (eq-eqb place m.place same)) ∙ both

certified_some : (v : View) (table : List (SignedBy Mark)) (place : ℕ) (digest : List ℕ) → is_view v ≡ true → certified v table ≡ Some (place, digest) → IsCertified v table place digest
certified_some v table place digest view is = record {
  enough = enough_from v table place digest view (subst (Holds v table) is (certified_holds v table));
  greatest = λ other_place other are.
      no_greater (mark_of other_place other) place digest (ap (leads (mark_of other_place other)) (sym is) ∙ not_led v table other_place other are);
  lowest = λ other are.
      not_behind digest other (no_lower (mark_of place other) place digest refl (ap (leads (mark_of place other)) (sym is) ∙ not_led v table place other are));
}

abbrev found_of : ℕ → List ℕ → Option (ℕ × List ℕ)
found_of place digest = Some (place, digest)

same_found : (a b : ℕ) (x y : List ℕ) → a ≡ b → x ≡ y → found_of a x ≡ found_of b y
same_found a b x y e g = rw (e, g) refl

certified_is_by : (v : View) (table : List (SignedBy Mark)) (place : ℕ) (digest : List ℕ) (found : Option (ℕ × List ℕ)) → is_view v ≡ true
    → IsCertified v table place digest → Holds v table found → leads (mark_of place digest) found ≡ false → found ≡ Some (place, digest)
certified_is_by v table place digest None view is held none = absurd (cc)
certified_is_by v table place digest (Some f) view is held none =
    let are = enough_from v table f.0 f.1 view held in
    let up = is.greatest f.0 f.1 are in
    let down = no_greater (mark_of place digest) f.0 f.1 none in
    let same : f.0 ≡ place = omega (arith, up, down) in
    let text : digest ≡ f.1 =
    same_text digest f.1 (no_lower (mark_of place digest) f.0 f.1 same none) (is.lowest f.1 (subst (λ (k : ℕ). AreEnough v table k f.1) same are)) in
    same_found f.0 place f.1 digest same (sym text)

pub certified_exact : (v : View) (table : List (SignedBy Mark)) (place : ℕ) (digest : List ℕ) → is_view v ≡ true
    → (certified v table ≡ Some (place, digest)) ↔ IsCertified v table place digest
certified_exact v table place digest view = (
  certified_some v table place digest view,
  (λ is. certified_is_by v table place digest (certified v table) view is (certified_holds v table) (not_led v table place digest is.enough)),
)

none_by : (v : View) (table : List (SignedBy Mark)) (found : Option (ℕ × List ℕ)) → is_view v ≡ true → Holds v table found
    → ((place : ℕ) (digest : List ℕ) → AreEnough v table place digest → ⊥) → found ≡ None
none_by v table None view held never = refl
none_by v table (Some f) view held never = absurd (never f.0 f.1 (enough_from v table f.0 f.1 view held))

pub none_exact : (v : View) (table : List (SignedBy Mark)) → is_view v ≡ true
    → (certified v table ≡ None) ↔ ((place : ℕ) (digest : List ℕ) → AreEnough v table place digest → ⊥)
none_exact v table view = (
  (λ is place digest are. both_ways true refl (ap (leads (mark_of place digest)) (sym is) ∙ not_led v table place digest are)),
  none_by v table (certified v table) view (certified_holds v table),
)
