-- The laws of lists of signed statements, and of what may be there or not.
use Rattle.std.proofs.Common.{◌≡◌, ℕ, ◌^◌, ◌<◌, Bool, true, false, cond, eqb, ◌||◌, List, length, Option, Some, None, Ok, refl, subst, ◌∙◌, arith}
use Rattle.std.specs.List.{AllByRecursion}
use Rattle.std.specs.Int.{w8, w16, to_be_bytes}
use Rattle.std.proofs.lemmas.Bool.{eqb-true}
use Rattle.smart_base.specs.Cuts.{Cut, Read, IsBytes, number_at}
use Rattle.smart_base.specs.Spelling.{u8, Spelled, Law}
use Rattle.smart_base.specs.Laws.{bind_ok, bind_is, ok_is, spelled-bytes, spelled-then, spelled-front, spelled-back, middle, then_law, refit, ranged_law, times_law}
use Rattle.smart_base.specs.FieldLaws.{u8_law, u16_law}
use Rattle.smart_statements.specs.Forms.{Form, SignedBy}
use Rattle.smart_statements.specs.Spelling.{signed, FitsSigned}
use Rattle.smart_statements.specs.Reading.{signed_at}
use Rattle.smart_statements.specs.Statements.{signed_law}
use Rattle.smart_statements.specs.SignedLists.{listed, FitsList, list_at, optional, FitsOptional, flag_at, some_at, optional_at}

-- ---- lists

pub list_law : {S : Type 0} (f : Form S) (fits : ℕ → S → Type 0) → f.kind < 2 ^ 8 → ((signer : ℕ) → Law (fits signer) f.spell (f.read signer))
    → Law (FitsList f fits) (listed f) (list_at f)
unfolding list_at
list_law {S = S} f fits small law =
    refit _ (FitsList f fits) (listed f) (list_at f)
    (then_law (λ (xs : List (SignedBy S)). length xs) (λ xs. Unit {0}) (λ n. n < 2 ^ 16) (to_be_bytes w16) (number_at w16) _ _ _ u16_law λ n h.
    refit _ (λ xs. (Unit {0} × (length xs ≡ n)) × AllByRecursion (FitsSigned f fits) xs) _ _
    (times_law (FitsSigned f fits) (signed f) (signed_at f) (signed_law f fits small law) n)
    (λ xs h. ((tt, h.0), h.1)) (λ xs h. (h.0.1, h.1)))
    (λ xs h. h.1) (λ xs h. (tt, h))

-- ---- a value behind a 1, or a 0

abbrev pub IsFlag : ℕ → Type 0
IsFlag n = (n < 2 ^ 8) × ((eqb n 0 || eqb n 1) ≡ true)

pub flag_law : Law IsFlag (to_be_bytes w8) flag_at
flag_law = ranged_law (λ n. n < 2 ^ 8) (to_be_bytes w8) (number_at w8) (λ b. eqb b 0 || eqb b 1) u8_law

flag_one : (a b : Bool) → (a || b) ≡ true → a ≡ false → b ≡ true
flag_one true b e f = absurd cc
flag_one false b e f = e

abbrev IsOptional : {A : Type 0} → (A → Type 0) → (A → List ℕ) → Cut → Option A × Cut → Type 0
IsOptional fits spell c y = FitsOptional fits y.0 × Spelled c (optional spell y.0) y.1

some_takes : {A : Type 0} (fits : A → Type 0) (spell : A → List ℕ) (read : Cut → Read A) → Law fits spell read
    → (c m : Cut) (y : Option A × Cut) → IsBytes m.left → Spelled c (u8 1) m → some_at read m ≡ Ok y → IsOptional fits spell c y
unfolding some_at
some_takes fits spell read l c m y bs s e =
    let b = bind_ok (read m) (λ x. Ok (Some x.0, x.1)) y e in
    let t = l.takes m b.0 bs b.1 in
    subst (λ y. IsOptional fits spell c y) (ok_is (Some b.0.0, b.0.1) y b.2) (t.0, spelled-then c (u8 1) m (spell b.0.0) b.0.1 s t.1)

flagged_takes : {A : Type 0} (fits : A → Type 0) (spell : A → List ℕ) (read : Cut → Read A) → Law fits spell read
    → (none : Bool) (k : ℕ) (c m : Cut) (y : Option A × Cut) → eqb k 0 ≡ none → IsFlag k → IsBytes m.left → Spelled c (u8 k) m
    → cond none (Ok (None, m)) (some_at read m) ≡ Ok y → IsOptional fits spell c y
flagged_takes fits spell read l true k c m y zero flag bs s e =
    subst (λ y. IsOptional fits spell c y) (ok_is (None, m) y e) (tt, subst (λ (k : ℕ). Spelled c (u8 k) m) (eqb-true k 0 zero) s)
flagged_takes fits spell read l false k c m y zero flag bs s e =
    some_takes fits spell read l c m y bs (subst (λ (k : ℕ). Spelled c (u8 k) m) (eqb-true k 1 (flag_one (eqb k 0) (eqb k 1) flag.1 zero)) s) e

optional_again : {A : Type 0} (fits : A → Type 0) (spell : A → List ℕ) (read : Cut → Read A) → Law fits spell read
    → (c : Cut) (x : Option A) (d : Cut) → FitsOptional fits x → Spelled c (optional spell x) d → optional_at read c ≡ Ok (x, d)
unfolding optional_at some_at
optional_again fits spell read l c None d h s =
    bind_is (flag_at c) (λ k. cond (eqb k.0 0) (Ok (None, k.1)) (some_at read k.1)) (0, d) (flag_law.again c 0 d (omega arith, refl) s)
optional_again fits spell read l c (Some x) d h s =
    let m = middle c (u8 1) (spell x) d in
    bind_is (flag_at c) (λ k. cond (eqb k.0 0) (Ok (None, k.1)) (some_at read k.1)) (1, m)
    (flag_law.again c 1 m (omega arith, refl) (spelled-front c (u8 1) (spell x) d s))
    ∙ bind_is (read m) (λ x. Ok (Some x.0, x.1)) (x, d) (l.again m x d h (spelled-back c (u8 1) (spell x) d s))

pub optional_law : {A : Type 0} (fits : A → Type 0) (spell : A → List ℕ) (read : Cut → Read A) → Law fits spell read
    → Law (FitsOptional fits) (optional spell) (optional_at read)
unfolding optional_at
optional_law fits spell read l = record {
  takes = λ c y bs e.
      let b = bind_ok (flag_at c) (λ k. cond (eqb k.0 0) (Ok (None, k.1)) (some_at read k.1)) y e in
      let t = flag_law.takes c b.0 bs b.1 in
      flagged_takes fits spell read l (eqb b.0.0 0) b.0.0 c b.0.1 y refl t.0 (spelled-bytes c (u8 b.0.0) b.0.1 bs t.1) t.1 b.2;
  again = optional_again fits spell read l;
}
