-- What a table keeps of each member.
use Rattle.std.proofs.Common.{◌≡◌, ℕ, suc, ◌+◌, ◌<◌, ◌≤◌, ◌==◌, ◌++◌, nat_lt, nat_le, Bool, true, false, not, ◌&&◌, ◌||◌, cond, List, [], ◌∷◌, length, refl, ap, sym, ◌∙◌, subst, arith, eq-eqb, length-append, ⊎_elim}
use Rattle.std.specs.Prelude.{filter, ◌⊎◌}
use Rattle.std.specs.List.{list_any}
use mathlib.Core.Logic.{inl, inr}
use Rattle.std.proofs.lemmas.Bool.{eqb-true, leb-false}
use Rattle.std.proofs.lemmas.List.{append-nil}
use Rattle.std.proofs.lemmas.List.Elements.{filter-append}
use Rattle.std.proofs.lemmas.List.Folds.{list_any-append}
use Rattle.smart_base.proofs.SameLists.{and_true}
use Rattle.smart_statements.specs.Forms.{SignedBy}
use Rattle.smart_statements.specs.declared.report.Mark.{Mark}
use Rattle.state_marks.specs.Tables.{is_of, is_at, repeats, count_of, lesser, least_of, without, noted, OneOfEachPlace, IsTable}
use Rattle.state_marks.proofs.Lists.{or_false, or_left, or_right, not_true, turned, weaker_passes, one_more_passes, filter_both, filter_alike, none_filtered}

-- ---- the least place is there

lesser_by : (member place : ℕ) (y : SignedBy Mark) (of below : Bool) → is_of member y ≡ of
    → (cond (of && below) y.statement.place place ≡ place) ⊎ (is_at member (cond (of && below) y.statement.place place) y ≡ true)
lesser_by member place y true true is = inr (rw (is, eq-eqb y.statement.place y.statement.place refl) refl)
lesser_by member place y true false is = inl refl
lesser_by member place y false below is = inl refl

-- the place at the least among the marks, or the one that they are compared with
abbrev Reached : ℕ → ℕ → ℕ → List (SignedBy Mark) → Type 0
Reached member place least table = (least ≡ place) ⊎ (list_any (is_at member least) table ≡ true)

reached_more : (member place least : ℕ) (y : SignedBy Mark) (table : List (SignedBy Mark))
    → (lesser member place y ≡ place) ⊎ (is_at member (lesser member place y) y ≡ true) → Reached member (lesser member place y) least table
    → Reached member place least (y ∷ table)
reached_more member place least y table here (inr later) = inr (or_right (is_at member least y) (list_any (is_at member least) table) later)
reached_more member place least y table (inl same) (inl is) = inl (is ∙ same)
reached_more member place least y table (inr here) (inl is) =
    let found : is_at member least y ≡ true = ap (λ (k : ℕ). is_at member k y) is ∙ here in
    inr (or_left (is_at member least y) (list_any (is_at member least) table) found)

reached : (member place : ℕ) (table : List (SignedBy Mark)) → Reached member place (least_of member place table) table
reached member place [] = inl refl
reached member place (y ∷ table) =
    reached_more member place (least_of member (lesser member place y) table) y table
    (lesser_by member place y (is_of member y) (nat_lt y.statement.place place) refl) (reached member (lesser member place y) table)

own_mark : (mark : SignedBy Mark) → is_at mark.signer mark.statement.place mark ≡ true
own_mark mark = rw (eq-eqb mark.signer mark.signer refl, eq-eqb mark.statement.place mark.statement.place refl) refl

least_there_by : (table : List (SignedBy Mark)) (mark : SignedBy Mark) (least : ℕ) → Reached mark.signer mark.statement.place least table
    → (list_any (is_at mark.signer least) table || (is_at mark.signer least mark || false)) ≡ true
least_there_by table mark least (inr there) = or_left (list_any (is_at mark.signer least) table) (is_at mark.signer least mark || false) there
least_there_by table mark least (inl is) =
    or_right (list_any (is_at mark.signer least) table) (is_at mark.signer least mark || false)
    (or_left (is_at mark.signer least mark) false (ap (λ (k : ℕ). is_at mark.signer k mark) is ∙ own_mark mark))

-- the mark that is forgotten is there
least_there : (table : List (SignedBy Mark)) (mark : SignedBy Mark)
    → list_any (is_at mark.signer (least_of mark.signer mark.statement.place table)) (table ++ mark ∷ []) ≡ true
least_there table mark =
    list_any-append (is_at mark.signer (least_of mark.signer mark.statement.place table)) table (mark ∷ [])
    ∙ least_there_by table mark (least_of mark.signer mark.statement.place table) (reached mark.signer mark.statement.place table)

-- ---- how many there are

count_one : (mark : SignedBy Mark) (member : ℕ) (t : Bool) → (mark.signer == member) ≡ t → count_of member (mark ∷ []) ≡ cond t 1 0
count_one mark member true is = rw is (omega arith)
count_one mark member false is = rw is (omega arith)

count_more : (table : List (SignedBy Mark)) (mark : SignedBy Mark) (member : ℕ) → count_of member (table ++ mark ∷ []) ≡ count_of member table + count_of member (mark ∷ [])
count_more table mark member =
    ap length (filter-append (is_of member) table (mark ∷ [])) ∙ length-append (filter (is_of member) table) (filter (is_of member) (mark ∷ []))

count_without : (member signer place : ℕ) (table : List (SignedBy Mark)) → count_of member (without signer place table) ≤ count_of member table
count_without member signer place table =
    let le = weaker_passes (λ y. not (is_at signer place y) && is_of member y) (is_of member)
    (λ y is. (and_true (not (is_at signer place y)) (is_of member y) is).1) table in
    subst (λ (n : ℕ). n ≤ count_of member table) (sym (ap length (filter_both (is_of member) (λ y. not (is_at signer place y)) table))) le

at_out : (member place : ℕ) (y : SignedBy Mark) → is_at member place y ≡ true → ((not (is_at member place y) && is_of member y) ≡ false) × (is_of member y ≡ true)
at_out member place y is =
    (ap (λ t. not t && is_of member y) is, (and_true (y.signer == member) (y.statement.place == place) is).0)

count_less : (member place : ℕ) (table : List (SignedBy Mark)) → list_any (is_at member place) table ≡ true → suc (count_of member (without member place table)) ≤ count_of member table
count_less member place table there =
    let less = one_more_passes (λ y. not (is_at member place y) && is_of member y) (is_of member) (is_at member place)
    (λ y is. (and_true (not (is_at member place y)) (is_of member y) is).1) (at_out member place) table there in
    subst (λ (n : ℕ). suc n ≤ count_of member table) (sym (ap length (filter_both (is_of member) (λ y. not (is_at member place y)) table))) less

few_room_by : (table : List (SignedBy Mark)) (mark : SignedBy Mark) (member : ℕ) (t : Bool) → (mark.signer == member) ≡ t → count_of mark.signer table < 64
    → count_of member table ≤ 64 → count_of member (table ++ mark ∷ []) ≤ 64
few_room_by table mark member true is room few =
    let one = count_one mark member true is in
    let more = count_more table mark member in
    let under = subst (λ (m : ℕ). count_of m table < 64) (eqb-true mark.signer member is) room in
    omega (arith, one, more, under)
few_room_by table mark member false is room few =
    let one = count_one mark member false is in
    let more = count_more table mark member in
    omega (arith, one, more, few)

few_full_by : (table : List (SignedBy Mark)) (mark : SignedBy Mark) (least member : ℕ) (t : Bool) → (mark.signer == member) ≡ t
    → list_any (is_at mark.signer least) (table ++ mark ∷ []) ≡ true → count_of member table ≤ 64
    → count_of member (without mark.signer least (table ++ mark ∷ [])) ≤ 64
few_full_by table mark least member true is there few =
    let one = count_one mark member true is in
    let more = count_more table mark member in
    let less = subst (λ (m : ℕ). suc (count_of m (without mark.signer least (table ++ mark ∷ []))) ≤ count_of m (table ++ mark ∷ [])) (eqb-true mark.signer member is)
    (count_less mark.signer least (table ++ mark ∷ []) there) in
    omega (arith, one, more, less, few)
few_full_by table mark least member false is there few =
    let one = count_one mark member false is in
    let more = count_more table mark member in
    let le = count_without member mark.signer least (table ++ mark ∷ []) in
    omega (arith, one, more, le, few)

-- ---- one of each place

at_turned : (x y : SignedBy Mark) → is_at x.signer x.statement.place y ≡ is_at y.signer y.statement.place x
at_turned x y =
    ap (λ t. t && (y.statement.place == x.statement.place)) (turned y.signer x.signer)
    ∙ ap (λ t. (x.signer == y.signer) && t) (turned y.statement.place x.statement.place)

different_more : (table : List (SignedBy Mark)) (mark : SignedBy Mark) → OneOfEachPlace table → repeats table mark ≡ false → OneOfEachPlace (table ++ mark ∷ [])
different_more [] mark one new = (refl, tt)
different_more (y ∷ table) mark one new =
    let parts = or_false (is_at mark.signer mark.statement.place y) (repeats table mark) new in
    let here : is_at y.signer y.statement.place mark ≡ false = sym (at_turned mark y) ∙ parts.0 in
    let rest : repeats table y ≡ false = one.0 in (
      list_any-append (is_at y.signer y.statement.place) table (mark ∷ []) ∙ (rw (rest, here) refl),
      different_more table mark one.1 parts.1,
    )

different_if : (y : SignedBy Mark) (table : List (SignedBy Mark)) (t : Bool) → repeats table y ≡ false → OneOfEachPlace table → OneOfEachPlace (cond t (y ∷ table) table)
different_if y table true none rest = (none, rest)
different_if y table false none rest = rest

different_filtered : (p : SignedBy Mark → Bool) (table : List (SignedBy Mark)) → OneOfEachPlace table → OneOfEachPlace (filter p table)
different_filtered p [] one = one
different_filtered p (y ∷ table) one =
    different_if y (filter p table) (p y) (none_filtered (is_at y.signer y.statement.place) p table one.0) (different_filtered p table one.1)

-- ---- a table stays one

pub none_kept : IsTable []
none_kept = record { few = λ member. omega arith; different = tt }

more_by : (table : List (SignedBy Mark)) (mark : SignedBy Mark) (again full : Bool) → repeats table mark ≡ again → nat_le 64 (count_of mark.signer table) ≡ full
    → IsTable table
    → IsTable (cond again table (cond full (without mark.signer (least_of mark.signer mark.statement.place table) (table ++ mark ∷ [])) (table ++ mark ∷ [])))
more_by table mark true full is_again is_full is = is
more_by table mark false true is_again is_full is =
    let least = least_of mark.signer mark.statement.place table in
    record {
      few = λ member. few_full_by table mark least member (mark.signer == member) refl (least_there table mark) (is.few member);
      different = different_filtered (λ y. not (is_at mark.signer least y)) (table ++ mark ∷ []) (different_more table mark is.different is_again);
    }
more_by table mark false false is_again is_full is =
    let room : count_of mark.signer table < 64 = leb-false 64 (count_of mark.signer table) is_full in
    record {
      few = λ member. few_room_by table mark member (mark.signer == member) refl room (is.few member);
      different = different_more table mark is.different is_again;
    }

pub more_kept : (table : List (SignedBy Mark)) (mark : SignedBy Mark) → IsTable table → IsTable (noted mark table)
unfolding noted
more_kept table mark is = more_by table mark (repeats table mark) (nat_le 64 (count_of mark.signer table)) refl refl is

-- ---- the other members

other_mark : (table : List (SignedBy Mark)) (mark : SignedBy Mark) (member : ℕ) → is_of member mark ≡ false
    → filter (is_of member) (table ++ mark ∷ []) ≡ filter (is_of member) table
other_mark table mark member other =
    filter-append (is_of member) table (mark ∷ []) ∙ (ap (λ (t : Bool). filter (is_of member) table ++ cond t (mark ∷ []) []) other ∙ append-nil (filter (is_of member) table))

stays_by : (signer place member : ℕ) (y : SignedBy Mark) (t : Bool) → is_of member y ≡ t → (signer == member) ≡ false → (not (is_at signer place y) && t) ≡ t
stays_by signer place member y true of other =
    let same : y.signer ≡ member = eqb-true y.signer member of in
    let away : (y.signer == signer) ≡ false = ap (λ (k : ℕ). k == signer) same ∙ (turned member signer ∙ other) in
    rw away refl
stays_by signer place member y false of other = nothing (not (is_at signer place y))
  where
    nothing : (b : Bool) → (b && false) ≡ false
    nothing true = refl
    nothing false = refl

stays : (signer place member : ℕ) (y : SignedBy Mark) → (signer == member) ≡ false → (not (is_at signer place y) && is_of member y) ≡ is_of member y
stays signer place member y other = stays_by signer place member y (is_of member y) refl other

others_by : (table : List (SignedBy Mark)) (mark : SignedBy Mark) (member : ℕ) (again full : Bool) → is_of member mark ≡ false
    → filter (is_of member) (cond again table (cond full (without mark.signer (least_of mark.signer mark.statement.place table) (table ++ mark ∷ [])) (table ++ mark ∷ [])))
    ≡ filter (is_of member) table
others_by table mark member true full other = refl
others_by table mark member false true other =
    filter_both (is_of member) (λ y. not (is_at mark.signer (least_of mark.signer mark.statement.place table) y)) (table ++ mark ∷ [])
    ∙ (filter_alike (λ y. not (is_at mark.signer (least_of mark.signer mark.statement.place table) y) && is_of member y) (is_of member)
    (λ y. stays mark.signer (least_of mark.signer mark.statement.place table) member y other) (table ++ mark ∷ [])
    ∙ other_mark table mark member other)
others_by table mark member false false other = other_mark table mark member other

pub others_kept : (table : List (SignedBy Mark)) (mark : SignedBy Mark) (member : ℕ) → is_of member mark ≡ false
    → filter (is_of member) (noted mark table) ≡ filter (is_of member) table
unfolding noted
others_kept table mark member other = others_by table mark member (repeats table mark) (nat_le 64 (count_of mark.signer table)) other
