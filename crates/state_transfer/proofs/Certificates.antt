-- The marks of a plan are a certificate.
use Rattle.std.proofs.Common.{◌≡◌, ℕ, zero, suc, ◌+◌, ◌≤◌, ◌==◌, Bool, true, false, ◌&&◌, ◌||◌, cond, take, List, [], ◌∷◌, length, ap, sym, refl, ◌∙◌, subst, arith}
use Rattle.std.specs.Prelude.{filter, find, filter_map, Option, Some, None, Result, Ok}
use Rattle.std.specs.List.{list_any, cons_option}
use Rattle.std.proofs.lemmas.List.{length-take, length-map, take-map}
use Rattle.std.proofs.lemmas.Bool.{eqb-true, ltb-true}
use Rattle.smart_base.specs.Lists.{Each, Distinct, same_bytes}
use Rattle.smart_base.specs.Views.{View, is_view, is_member}
use Rattle.smart_base.proofs.SameLists.{and_true, same_list-equal}
use Rattle.smart_base.proofs.ViewFacts.{view-distinct}
use Rattle.smart_statements.specs.Forms.{SignedBy}
use Rattle.smart_statements.specs.Reports.{marks}
use Rattle.smart_statements.specs.declared.report.Mark.{Mark}
use Rattle.certificates.specs.Certificates.{signers, AreSigned, IsMarkCertificate, mark_of}
use Rattle.replica_rules.specs.Seals.{is_verified}
use Rattle.state_marks.specs.Tables.{is_mark_of, has_marked, is_marked, certified}
use Rattle.state_marks.proofs.Certified.{certified_exact, enough_to}
use Rattle.state_marks.proofs.Lists.{or_false, each_filter, each_listed, distinct_filtered}
use Rattle.transfer_form.specs.declared.transfer.StateOffer.{StateOffer}
use Rattle.state_transfer.specs.declared.choice.NotYet.{NotYet}
use Rattle.state_transfer.specs.declared.choice.Plan.{Plan}
use Rattle.state_transfer.specs.declared.choice.Seeder.{Seeder}
use Rattle.state_transfer.specs.Plans.{counts, usable, all_marks, first_mark, certificate, seeder_of, seeded, planned_by, planned}
use Rattle.state_transfer.proofs.Marks.{usable_is}

-- ---- a search

find_none : {A : Type 0} (p : A → Bool) (xs : List A) → find p xs ≡ None → list_any p xs ≡ false
find_none p [] is = refl
find_none p (y ∷ ys) is = by (p y) is (λ rest. find_none p ys rest)
  where
    by : (t : Bool) → cond t (Some y) (find p ys) ≡ None → (find p ys ≡ None → list_any p ys ≡ false) → (t || list_any p ys) ≡ false
    by true is rest = absurd (cc)
    by false is rest = rest is

find_some : {A : Type 0} (p : A → Bool) (xs : List A) (x : A) → find p xs ≡ Some x → list_any p xs ≡ true
find_some p [] x is = absurd (cc)
find_some p (y ∷ ys) x is = by (p y) is (λ rest. find_some p ys x rest)
  where
    by : (t : Bool) → cond t (Some y) (find p ys) ≡ Some x → (find p ys ≡ Some x → list_any p ys ≡ true) → (t || list_any p ys) ≡ true
    by true is rest = refl
    by false is rest = rest is

find_each : {A : Type 0} (Q : A → Type 0) (p : A → Bool) (xs : List A) (x : A) → Each Q xs → find p xs ≡ Some x → (p x ≡ true) × Q x
find_each Q p [] x all is = absurd (cc)
find_each {A = A} Q p (y ∷ ys) x all is = by (p y) refl is (λ rest. find_each Q p ys x all.1 rest)
  where
    by : (t : Bool) → p y ≡ t → cond t (Some y) (find p ys) ≡ Some x → (find p ys ≡ Some x → (p x ≡ true) × Q x) → (p x ≡ true) × Q x
    by true holds is rest = let same : y ≡ x = cc in (subst (λ (z : A). p z ≡ true) same holds, subst Q same all.0)
    by false fails is rest = rest is

-- ---- what holds of each

each_of : {A B : Type 0} (Q : A → Type 0) (R : B → Type 0) (f : A → Option B) (xs : List A) → ((x : A) (y : B) → Q x → f x ≡ Some y → R y) → Each Q xs → Each R (filter_map f xs)
each_of Q R f [] gives all = tt
each_of {B = B} Q R f (x ∷ xs) gives all = by (f x) refl (each_of Q R f xs gives all.1)
  where
    by : (o : Option B) → f x ≡ o → Each R (filter_map f xs) → Each R (cons_option o (filter_map f xs))
    by None is rest = rest
    by (Some y) is rest = (gives x y all.0 is, rest)

each_take : {A : Type 0} (R : A → Type 0) (n : ℕ) (xs : List A) → Each R xs → Each R (take n xs)
each_take R zero xs all = tt
each_take R (suc n) [] all = tt
each_take R (suc n) (x ∷ xs) all = (all.0, each_take R n xs all.1)

any_take : (p : ℕ → Bool) (n : ℕ) (xs : List ℕ) → list_any p xs ≡ false → list_any p (take n xs) ≡ false
any_take p zero xs none = refl
any_take p (suc n) [] none = refl
any_take p (suc n) (x ∷ xs) none =
    let parts = or_false (p x) (list_any p xs) none in
    rw (parts.0) (any_take p n xs parts.1)

distinct_take : (n : ℕ) (xs : List ℕ) → Distinct xs → Distinct (take n xs)
distinct_take zero xs one = tt
distinct_take (suc n) [] one = tt
distinct_take (suc n) (x ∷ xs) one = (any_take (λ y. y == x) n xs one.0, distinct_take n xs one.1)

-- ---- a member's first mark

-- a mark of a member, of the wanted place and digest
record IsFirst (wanted : Mark) (member : ℕ) (x : SignedBy Mark) : Type 0 where
  pub signer_is : x.signer ≡ member
  pub statement_is : x.statement ≡ mark_of wanted.place wanted.digest

mark_is : (x : Mark) (place : ℕ) (digest : List ℕ) → x.place ≡ place → x.digest ≡ digest → x ≡ mark_of place digest
mark_is x place digest placed is = rw (← placed, ← is) refl

first_is : (wanted : Mark) (member : ℕ) (x : SignedBy Mark) → is_mark_of wanted member x ≡ true → IsFirst wanted member x
first_is wanted member x is =
    let parts = and_true ((x.signer == member) && (x.statement.place == wanted.place)) (same_bytes x.statement.digest wanted.digest) is in
    let first = and_true (x.signer == member) (x.statement.place == wanted.place) parts.0 in
    record {
      signer_is = eqb-true x.signer member first.0;
      statement_is = mark_is x.statement wanted.place wanted.digest (eqb-true x.statement.place wanted.place first.1)
          (same_list-equal {A = ℕ} (λ a b. a == b) eqb-true x.statement.digest wanted.digest parts.1);
    }

signers_step : (table : List (SignedBy Mark)) (wanted : Mark) (m : ℕ) (ms : List ℕ) (o : Option (SignedBy Mark)) → first_mark table wanted m ≡ o
    → signers (filter_map (first_mark table wanted) ms) ≡ filter (has_marked table wanted) ms
    → signers (cons_option o (filter_map (first_mark table wanted) ms)) ≡ cond (has_marked table wanted m) (m ∷ filter (has_marked table wanted) ms) (filter (has_marked table wanted) ms)
signers_step table wanted m ms None is rest = rw (find_none (is_mark_of wanted m) table is) rest
signers_step table wanted m ms (Some x) is rest =
    let own = (first_is wanted m x (find_each (λ (y : SignedBy Mark). Unit {0}) (is_mark_of wanted m) table x (nothing table) is).0).signer_is in
    rw (find_some (is_mark_of wanted m) table x is) (headed own rest)
  where
    nothing : (xs : List (SignedBy Mark)) → Each (λ (y : SignedBy Mark). Unit {0}) xs
    nothing [] = tt
    nothing (y ∷ ys) = (tt, nothing ys)

    headed : {a b : ℕ} {xs ys : List ℕ} → a ≡ b → xs ≡ ys → a ∷ xs ≡ b ∷ ys
    headed first others = cc

-- the first marks are of those who marked
signers_are : (table : List (SignedBy Mark)) (wanted : Mark) (ms : List ℕ) → signers (filter_map (first_mark table wanted) ms) ≡ filter (has_marked table wanted) ms
signers_are table wanted [] = refl
signers_are table wanted (m ∷ ms) = signers_step table wanted m ms (first_mark table wanted m) refl (signers_are table wanted ms)

-- ---- the certificate

pub certificate_is : (secret : List ℕ) (v : View) (table : List (SignedBy Mark)) (wanted : Mark) → is_view v ≡ true → Each (λ m. is_verified marks secret m ≡ true) table
    → is_marked v table wanted ≡ true → IsMarkCertificate secret v wanted.place wanted.digest (certificate v table wanted)
unfolding certificate
certificate_is secret v table wanted view verified enough = (signed, many)
  where
    f : ℕ → Option (SignedBy Mark)
    f = first_mark table wanted

    Good : SignedBy Mark → Type 0
    Good x = (x.statement ≡ mark_of wanted.place wanted.digest) × (is_verified marks secret x ≡ true)

    one : (m : ℕ) (x : SignedBy Mark) → f m ≡ Some x → IsFirst wanted m x × (is_verified marks secret x ≡ true)
    one m x is =
        let found = find_each (λ (y : SignedBy Mark). is_verified marks secret y ≡ true) (is_mark_of wanted m) table x verified is in
        (first_is wanted m x found.0, found.1)

    own : signers (take (v.f + 1) (filter_map f v.members)) ≡ take (v.f + 1) (filter (has_marked table wanted) v.members)
    own = sym (take-map (λ (x : SignedBy Mark). x.signer) (v.f + 1) (filter_map f v.members)) ∙ ap (take (v.f + 1)) (signers_are table wanted v.members)

    signed : AreSigned Mark secret marks v (λ m. m ≡ mark_of wanted.place wanted.digest) (take (v.f + 1) (filter_map f v.members))
    signed = record {
      members = each_take (λ (x : SignedBy Mark). is_member v x.signer ≡ true) (v.f + 1) (filter_map f v.members)
          (each_of (λ m. is_member v m ≡ true) (λ (x : SignedBy Mark). is_member v x.signer ≡ true) f v.members
          (λ m x of is. ap (is_member v) ((one m x is).0).signer_is ∙ of) (each_listed v.members));
      distinct = subst Distinct (sym own) (distinct_take (v.f + 1) (filter (has_marked table wanted) v.members) (distinct_filtered (has_marked table wanted) v.members (view-distinct v view)));
      stated = each_take (λ (x : SignedBy Mark). x.statement ≡ mark_of wanted.place wanted.digest) (v.f + 1) (filter_map f v.members)
          (each_of (λ m. is_member v m ≡ true) (λ (x : SignedBy Mark). x.statement ≡ mark_of wanted.place wanted.digest) f v.members
          (λ m x of is. ((one m x is).0).statement_is) (each_listed v.members));
      verified = each_take (λ (x : SignedBy Mark). is_verified marks secret x ≡ true) (v.f + 1) (filter_map f v.members)
          (each_of (λ m. is_member v m ≡ true) (λ (x : SignedBy Mark). is_verified marks secret x ≡ true) f v.members
          (λ m x of is. (one m x is).1) (each_listed v.members));
    }

    many : v.f + 1 ≤ length (take (v.f + 1) (filter_map f v.members))
    many =
        let above = ltb-true v.f (length (filter (has_marked table wanted) v.members)) enough in
        let all : length (filter_map f v.members) ≡ length (filter (has_marked table wanted) v.members)
        = sym (length-map (filter_map f v.members) (λ (x : SignedBy Mark). x.signer)) ∙ ap length (signers_are table wanted v.members) in
        let taken = length-take (v.f + 1) (filter_map f v.members) in
        omega (arith, above, all, taken)

-- ---- the marks of a plan

abbrev told : Plan → Result Plan NotYet
told p = Ok p

marks_by : (v : View) (table : List (SignedBy Mark)) (found : ℕ × List ℕ) (p : Plan) (s : Option Seeder) → seeded v table found s ≡ told p
    → (p.place ≡ found.0) × ((p.digest ≡ found.1) × (p.marks ≡ certificate v table (record { place = found.0; digest = found.1 })))
marks_by v table found p None said = absurd (cc)
marks_by v table found p (Some s) said = (cc, (cc, cc))

rests_by : (secret : List ℕ) (offers : List StateOffer) (v : View) (table : List (SignedBy Mark)) (p : Plan) (found : Option (ℕ × List ℕ)) → is_view v ≡ true
    → Each (λ m. is_verified marks secret m ≡ true) table → certified v table ≡ found → planned_by offers v table found ≡ told p → IsMarkCertificate secret v p.place p.digest p.marks
rests_by secret offers v table p None view verified is said = absurd (cc)
rests_by secret offers v table p (Some found) view verified is said =
    let parts = marks_by v table found p (seeder_of found.0 offers) said in
    let enough = enough_to v table found.0 found.1 ((certified_exact v table found.0 found.1 view).0 is).enough in
    moved (certificate_is secret v table (record { place = found.0; digest = found.1 }) view verified enough) (sym parts.0) (sym parts.1.0) (sym parts.1.1)
  where
    moved : {place other : ℕ} {digest text : List ℕ} {list items : List (SignedBy Mark)} → IsMarkCertificate secret v place digest list → place ≡ other → digest ≡ text → list ≡ items
        → IsMarkCertificate secret v other text items
    moved is a b c = rw (← a, ← b, ← c) is

pub rests_on_marks : (secret : List ℕ) (offers : List StateOffer) (kept : List (SignedBy Mark)) (place : ℕ) (v : View) (p : Plan) → is_view v ≡ true
    → Each (λ m. is_verified marks secret m ≡ true) (all_marks offers kept) → planned offers kept place v ≡ Ok p → IsMarkCertificate secret v p.place p.digest p.marks
unfolding planned
rests_on_marks secret offers kept place v p view verified said =
    rests_by secret offers v (usable offers kept place) p (certified v (usable offers kept place)) view
    (subst (Each (λ m. is_verified marks secret m ≡ true)) (sym (usable_is offers kept place))
    (each_filter (λ m. is_verified marks secret m ≡ true) (counts offers place) (all_marks offers kept) verified))
    refl said
