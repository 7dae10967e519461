-- Reading that takes all that is left: what it has to do with spelling.
use Rattle.std.proofs.Common.{◌≡◌, ℕ, ◌+◌, List, ◌++◌, length, Result, Ok, Err, refl, sym, ap, subst, ◌∙◌}
use Rattle.smart_base.specs.Cuts.{Cut, Read, IsBytes, ◌>>=◌, whole, fault_at}
use Rattle.smart_base.specs.Laws.{bind_ok, bind_is, ok_is, spelled-bytes, whole_takes, whole_again}
use Rattle.smart_base.specs.Spelling.{Law}

-- What is read of all that is left is what is spelled, in both directions.
pub record Filled {A : Type 0} (fits : A → Type 0) (spell : A → List ℕ) (read : Cut → Result A ℕ) : Type 0 where
  pub takes : (c : Cut) (x : A) → IsBytes c.left → read c ≡ Ok x → fits x × (c.left ≡ spell x)
  pub again : (c : Cut) (x : A) → fits x → c.left ≡ spell x → read c ≡ Ok x

pub refill : {A : Type 0} (fits other : A → Type 0) (spell : A → List ℕ) (read : Cut → Result A ℕ) → Filled fits spell read → ((a : A) → fits a → other a)
    → ((a : A) → other a → fits a) → Filled other spell read
refill fits other spell read l to from = record {
  takes = λ c x bs e. let t = l.takes c x bs e in (to x t.0, t.1);
  again = λ c x h e. l.again c x (from x h) e;
}

pub whole_filled : {A : Type 0} (fits : A → Type 0) (spell : A → List ℕ) (read : Cut → Read A) → Law fits spell read → Filled fits spell (whole read)
whole_filled fits spell read l = record {
  takes = λ c x bs e. whole_takes fits spell read l c x bs e;
  again = λ c x h e. whole_again fits spell read l c x h e;
}

-- a field, and then all that is left
pub then_filled : {X A : Type 0} (get : A → X) (known : A → Type 0) (fx : X → Type 0) (sx : X → List ℕ) (f : Cut → Read X)
    (fr : A → Type 0) (sr : A → List ℕ) (k : X → Cut → Result A ℕ)
    → Law fx sx f → ((x : X) → fx x → Filled (λ a. (known a × (get a ≡ x)) × fr a) sr (k x))
    → Filled (λ a. known a × (fx (get a) × fr a)) (λ a. sx (get a) ++ sr a) (λ c. f c >>= λ x. k x.0 x.1)
then_filled get known fx sx f fr sr k lf lk = record {
  takes = λ c y bs e.
      let b = bind_ok (f c) (λ x. k x.0 x.1) y e in
      let t = lf.takes c b.0 bs b.1 in
      let u = (lk b.0.0 t.0).takes b.0.1 y (spelled-bytes c (sx b.0.0) b.0.1 bs t.1) b.2 in
      let same = sym u.0.0.1 in (
        (u.0.0.0, (subst (λ x. fx x) same t.0, u.0.1)),
        t.1.left ∙ ap (λ (r : List ℕ). sx b.0.0 ++ r) u.1 ∙ ap (λ x. sx x ++ sr y) same,
      );
  again = λ c a h e.
      let m : Cut = record { at = c.at + length (sx (get a)); left = sr a } in
      bind_is (f c) (λ x. k x.0 x.1) (get a, m) (lf.again c (get a) m h.1.0 (record { left = e; at = refl }))
      ∙ (lk (get a) h.1.0).again m a ((h.0, refl), h.1.1) refl;
}

-- the value that all that is left is
pub last_filled : {X A : Type 0} (get : A → X) (known : A → Type 0) (fx : X → Type 0) (sx : X → List ℕ) (f : Cut → Result X ℕ) (make : X → A)
    → Filled fx sx f → ((x : X) → fx x → known (make x)) → ((x : X) → get (make x) ≡ x) → ((a : A) → known a → make (get a) ≡ a)
    → Filled (λ a. known a × fx (get a)) (λ a. sx (get a)) (λ c. f c >>= λ x. Ok (make x))
last_filled get known fx sx f make lf made got whole-of = record {
  takes = λ c y bs e.
      let b = bind_ok (f c) (λ x. Ok (make x)) y e in
      let t = lf.takes c b.0 bs b.1 in
      let same = sym (got b.0) in
      subst (λ y. (known y × fx (get y)) × (c.left ≡ sx (get y))) (ok_is (make b.0) y b.2)
      ((made b.0 t.0, subst (λ x. fx x) same t.0), t.1 ∙ ap sx same);
  again = λ c a h e.
      bind_is (f c) (λ x. Ok (make x)) (get a) (lf.again c (get a) h.1 e) ∙ ap (λ a. Ok a) (whole-of a h.0);
}

fault-ok : {A : Type 0} (at : ℕ) (r : Result A ℕ) (y : A) → fault_at at r ≡ Ok y → r ≡ Ok y
fault-ok at (Ok x) y e = e
fault-ok at (Err d) y e = absurd cc

-- what bytes are, with each fault at their beginning
pub bytes_filled : {A : Type 0} (fits : A → Type 0) (spell : A → List ℕ) (read : List ℕ → Result A ℕ)
    → ((bytes : List ℕ) (x : A) → IsBytes bytes → read bytes ≡ Ok x → fits x × (bytes ≡ spell x))
    → ((x : A) → fits x → read (spell x) ≡ Ok x) → Filled fits spell (λ c. fault_at c.at (read c.left))
bytes_filled fits spell read is back = record {
  takes = λ c x bs e. is c.left x bs (fault-ok c.at (read c.left) x e);
  again = λ c x h e. ap (λ (b : List ℕ). fault_at c.at (read b)) e ∙ ap (fault_at c.at) (back x h);
}
