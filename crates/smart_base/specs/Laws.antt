-- The laws of the ways in which fields are put together.
use Rattle.std.proofs.Common.{◌≡◌, ℕ, zero, suc, ◌+◌, ◌-◌, ◌^◌, ◌<◌, ◌≤◌, Bool, true, false, cond, ltb, eqb, List, [], ◌∷◌, ◌++◌, length, take, drop, Result, Ok, Err, refl, sym, ap, subst, ◌∙◌, append_assoc, arith}
use Rattle.std.specs.List.{flat_map, AllByRecursion}
use Rattle.std.proofs.lemmas.List.Concat.{flat_map-cons}
use Rattle.std.proofs.lemmas.Grind.{common_steps}
use Rattle.std.specs.Int.{Width, w8, w16, w32, w64, byte_len, from_be_bytes, to_be_bytes}
use Rattle.std.proofs.lemmas.Bool.{ltb-false, le-ltb, eqb-true}
use Rattle.std.proofs.lemmas.List.{take_at, drop_at, take-append-drop, length-append, length-take, take-take, append-nil, nil_from_length}
use Rattle.std.proofs.lemmas.Nat.{be_bytes_2, be_bytes_4, be_bytes_8, from_be_bytes-to_be_bytes_2, from_be_bytes-to_be_bytes_4, from_be_bytes-to_be_bytes_8}
use Rattle.smart_base.specs.Cuts.{Fails, bytes_at, anything, fault_at, Cut, Read, IsBytes, ◌>>=◌, past, front, fixed_at, number_at, ranged, text_at, contents, whole, sized_at, times_at, limited}
use Rattle.smart_base.specs.declared.fault.ReadError.{ReadError}
use Rattle.smart_base.specs.declared.fault.ReadError.TheVariants as errors
use Rattle.smart_base.specs.Spelling.{Spelled, Law, behind}
use Rattle.smart_base.specs.Bytes.{bytes_take, bytes-after}

pub bind_ok : {A B : Type 0} (r : Result A ℕ) (f : A → Result B ℕ) (y : B) → (r >>= f) ≡ Ok y → (x : A) × (r ≡ Ok x) × (f x ≡ Ok y)
bind_ok (Ok x) f y e = (x, refl, e)
bind_ok (Err d) f y e = absurd cc

pub bind_is : {A B : Type 0} (r : Result A ℕ) (f : A → Result B ℕ) (x : A) → r ≡ Ok x → (r >>= f) ≡ f x
bind_is r f x e = ap (λ (q : Result _ ℕ). q >>= f) e

-- a test that did not fail
pub guard_ok : {A : Type 0} (b : Bool) (d : ℕ) (x y : A) → cond b (Err d) (Ok x) ≡ Ok y → (b ≡ false) × (x ≡ y)
guard_ok true d x y e = absurd cc
guard_ok false d x y e = (refl, cc)

pub guard_ended : {A : Type 0} (b : Bool) (d : ℕ) (x y : A) → cond b (Ok x) (Err d) ≡ Ok y → (b ≡ true) × (x ≡ y)
guard_ended true d x y e = (refl, cc)
guard_ended false d x y e = absurd cc

-- ---- texts one after the other

pub spelled-bytes : (c : Cut) (x : List ℕ) (d : Cut) → IsBytes c.left → Spelled c x d → IsBytes d.left
spelled-bytes c x d h s = bytes-after x d.left (subst (λ (b : List ℕ). IsBytes b) s.left h)

pub spelled-then : (c : Cut) (x : List ℕ) (m : Cut) (y : List ℕ) (d : Cut) → Spelled c x m → Spelled m y d → Spelled c (x ++ y) d
spelled-then c x m y d p q = record {
  left = p.left ∙ ap (λ (t : List ℕ). x ++ t) q.left ∙ sym (append_assoc x y d.left);
  at = omega (arith, p.at, q.at, length-append x y);
}

abbrev pub middle : Cut → List ℕ → List ℕ → Cut → Cut
middle c x y d = record { at = c.at + length x; left = y ++ d.left }

pub spelled-front : (c : Cut) (x y : List ℕ) (d : Cut) → Spelled c (x ++ y) d → Spelled c x (middle c x y d)
spelled-front c x y d s = record { left = s.left ∙ append_assoc x y d.left; at = refl }

pub spelled-back : (c : Cut) (x y : List ℕ) (d : Cut) → Spelled c (x ++ y) d → Spelled (middle c x y d) y d
spelled-back c x y d s = record { left = refl; at = omega (arith, s.at, length-append x y) }

-- ---- fields one after the other

pub then_law : {X A : Type 0} (get : A → X) (known : A → Type 0) (fx : X → Type 0) (sx : X → List ℕ) (f : Cut → Read X)
    (fr : A → Type 0) (sr : A → List ℕ) (k : X → Cut → Read A)
    → Law fx sx f → ((x : X) → fx x → Law (λ a. (known a × (get a ≡ x)) × fr a) sr (k x))
    → Law (λ a. known a × (fx (get a) × fr a)) (λ a. sx (get a) ++ sr a) (λ c. f c >>= λ x. k x.0 x.1)
then_law get known fx sx f fr sr k lf lk = record {
  takes = λ c y bs e.
      let b = bind_ok (f c) (λ x. k x.0 x.1) y e in
      let t = lf.takes c b.0 bs b.1 in
      let u = (lk b.0.0 t.0).takes b.0.1 y (spelled-bytes c (sx b.0.0) b.0.1 bs t.1) b.2 in
      let same = sym u.0.0.1 in (
        (u.0.0.0, (subst (λ x. fx x) same t.0, u.0.1)),
        spelled-then c (sx (get y.0)) b.0.1 (sr y.0) y.1
            (subst (λ x. Spelled c (sx x) b.0.1) same t.1) u.1,
      );
  again = λ c a d h s.
      bind_is (f c) (λ x. k x.0 x.1) (get a, middle c (sx (get a)) (sr a) d)
      (lf.again c (get a) (middle c (sx (get a)) (sr a) d) h.1.0 (spelled-front c (sx (get a)) (sr a) d s))
      ∙ (lk (get a) h.1.0).again (middle c (sx (get a)) (sr a) d) a d ((h.0, refl), h.1.1) (spelled-back c (sx (get a)) (sr a) d s);
}

abbrev pub done : {A : Type 0} → A → Result A ℕ
done x = Ok x

pub ok_is : {A : Type 0} (x y : A) → done x ≡ done y → x ≡ y
ok_is x y e = cc

-- the last field
pub last_law : {X A : Type 0} (get : A → X) (known : A → Type 0) (fx : X → Type 0) (sx : X → List ℕ) (f : Cut → Read X) (make : X → A)
    → Law fx sx f → ((x : X) → fx x → known (make x)) → ((x : X) → get (make x) ≡ x) → ((a : A) → known a → make (get a) ≡ a)
    → Law (λ a. known a × fx (get a)) (λ a. sx (get a)) (λ c. f c >>= λ x. Ok (make x.0, x.1))
last_law get known fx sx f make lf made got whole-of = record {
  takes = λ c y bs e.
      let b = bind_ok (f c) (λ x. Ok (make x.0, x.1)) y e in
      let t = lf.takes c b.0 bs b.1 in
      let same = sym (got b.0.0) in
      subst (λ y. (known y.0 × fx (get y.0)) × Spelled c (sx (get y.0)) y.1) (ok_is (make b.0.0, b.0.1) y b.2)
      ((made b.0.0 t.0, subst (λ x. fx x) same t.0), subst (λ x. Spelled c (sx x) b.0.1) same t.1);
  again = λ c a d h s.
      bind_is (f c) (λ x. Ok (make x.0, x.1)) (get a, d) (lf.again c (get a) d h.1 s) ∙ ap (λ a. Ok (a, d)) (whole-of a h.0);
}

-- what fits, said in other words
pub refit : {A : Type 0} (fits other : A → Type 0) (spell : A → List ℕ) (read : Cut → Read A) → Law fits spell read → ((a : A) → fits a → other a)
    → ((a : A) → other a → fits a) → Law other spell read
refit fits other spell read l to from = record {
  takes = λ c x bs e. let t = l.takes c x bs e in (to x.0 t.0, t.1);
  again = λ c x d h s. l.again c x d (from x h) s;
}

-- a field in its range
pub ranged_law : {A : Type 0} (fits : A → Type 0) (spell : A → List ℕ) (read : Cut → Read A) (ok : A → Bool) → Law fits spell read
    → Law (λ a. fits a × (ok a ≡ true)) spell (ranged ok read)
unfolding ranged
ranged_law fits spell read ok l = record {
  takes = λ c y bs e.
      let b = bind_ok (read c) (λ x. cond (ok x.0) (Ok x) (Err c.at)) y e in
      let g = guard_ended (ok b.0.0) c.at b.0 y b.2 in
      let t = l.takes c b.0 bs b.1 in
      subst (λ y. (fits y.0 × (ok y.0 ≡ true)) × Spelled c (spell y.0) y.1) g.1 ((t.0, g.0), t.1);
  again = λ c a d h s.
      bind_is (read c) (λ x. cond (ok x.0) (Ok x) (Err c.at)) (a, d) (l.again c a d h.0 s) ∙ rw h.1 refl;
}

-- ---- bytes

abbrev pub cut : ℕ → List ℕ → Cut
cut at left = record { at = at; left = left }

pairs : (at here there : ℕ) (x t y z : List ℕ) → x ≡ t → here ≡ there → y ≡ z
    → done {A = Cut × Cut} (cut at x, cut here y) ≡ done (cut at t, cut there z)
pairs at here there x t y z p q r = rw (p, q, r) refl

-- the same as a law, of a reader that gives its bytes as a cut
pub record Field (fits : List ℕ → Type 0) (spell : List ℕ → List ℕ) (f : Cut → Read Cut) : Type 0 where
  pub takes : (c : Cut) (b : Cut × Cut) → IsBytes c.left → f c ≡ Ok b → fits b.0.left × Spelled c (spell b.0.left) b.1
  pub again : (c : Cut) (t : List ℕ) (d : Cut) → fits t → Spelled c (spell t) d → (at : ℕ) × (f c ≡ Ok (cut at t, d))

pub fixed_field : (n : ℕ) → Field (λ t. length t ≡ n) (λ t. t) (fixed_at n)
fixed_field n = record {
  takes = λ c b bs e.
      let g = guard_ok (ltb (length c.left) n) c.at (front n c, past n c) b e in
      let long : n ≤ length c.left = ltb-false _ _ g.0 in
      let len : length (take n c.left) ≡ n = omega (arith, length-take n c.left) in
      subst (λ (b : Cut × Cut). (length b.0.left ≡ n) × Spelled c b.0.left b.1) g.1
      (len, record { left = sym (take-append-drop n c.left); at = ap (λ (k : ℕ). c.at + k) (sym len) });
  again = λ c t d h s.
      let long : ltb (length c.left) n ≡ false = le-ltb _ _ (omega (arith, ap length s.left, length-append t d.left)) in
      let p : take n c.left ≡ t = ap (take n) s.left ∙ take_at t d.left n h in
      let q : drop n c.left ≡ d.left = ap (drop n) s.left ∙ drop_at t d.left n h in
      let r : c.at + n ≡ d.at = omega (arith, s.at) in
      (c.at, rw long (pairs c.at (c.at + n) d.at (take n c.left) t (drop n c.left) d.left p r q));
}

pub contents_law : (fits : List ℕ → Type 0) (spell : List ℕ → List ℕ) (f : Cut → Read Cut) → Field fits spell f → Law fits spell (contents f)
unfolding contents
contents_law fits spell f l = record {
  takes = λ c y bs e.
      let b = bind_ok (f c) (λ b. Ok (b.0.left, b.1)) y e in
      subst (λ (y : List ℕ × Cut). fits y.0 × Spelled c (spell y.0) y.1) (ok_is (b.0.0.left, b.0.1) y b.2) (l.takes c b.0 bs b.1);
  again = λ c t d h s.
      let p = l.again c t d h s in
      bind_is (f c) (λ b. Ok (b.0.left, b.1)) (cut p.0 t, d) p.1;
}

pub record IsWide (w : Width) (limit : ℕ) : Type 0 where
  pub len : (n : ℕ) → length (to_be_bytes w n) ≡ byte_len w
  pub back : (bytes : List ℕ) → length bytes ≡ byte_len w → IsBytes bytes → to_be_bytes w (from_be_bytes w bytes) ≡ bytes
  pub again : (n : ℕ) → n < limit → from_be_bytes w (to_be_bytes w n) ≡ n
  pub below : (bytes : List ℕ) → IsBytes bytes → from_be_bytes w bytes < limit

pub wide32 : IsWide w32 (2 ^ 32)
wide32 = record {
  len = λ n. refl;
  back = λ bytes len fits. be_bytes_4 bytes _ len fits.below refl;
  again = λ n lt. from_be_bytes-to_be_bytes_4 n lt;
  below = λ bytes fits. omega (arith, fits.below 0, fits.below 1, fits.below 2, fits.below 3);
}

pub wide64 : IsWide w64 (2 ^ 64)
wide64 = record {
  len = λ n. refl;
  back = λ bytes len fits. be_bytes_8 bytes _ len fits.below refl;
  again = λ n lt. from_be_bytes-to_be_bytes_8 n lt;
  below = λ bytes fits. omega (arith, fits.below 0, fits.below 1, fits.below 2, fits.below 3, fits.below 4, fits.below 5, fits.below 6, fits.below 7);
}

pub bytes-before : (x y : List ℕ) → IsBytes (x ++ y) → IsBytes x
bytes-before x y h = rw (← take_at x y (length x) refl) (bytes_take (length x) (x ++ y) h)

pub spelled-own : (c : Cut) (x : List ℕ) (d : Cut) → IsBytes c.left → Spelled c x d → IsBytes x
spelled-own c x d h s = bytes-before x d.left (subst (λ (b : List ℕ). IsBytes b) s.left h)

pub number_law : (w : Width) (limit : ℕ) → IsWide w limit → Law (λ n. n < limit) (to_be_bytes w) (number_at w)
unfolding number_at
number_law w limit wide = record {
  takes = λ c y bs e.
      let b = bind_ok (fixed_at (byte_len w) c) (λ n. Ok (from_be_bytes w n.0.left, n.1)) y e in
      let t = (fixed_field (byte_len w)).takes c b.0 bs b.1 in
      let own = spelled-own c b.0.0.left b.0.1 bs t.1 in
      subst (λ (y : ℕ × Cut). (y.0 < limit) × Spelled c (to_be_bytes w y.0) y.1) (ok_is (from_be_bytes w b.0.0.left, b.0.1) y b.2)
      (wide.below b.0.0.left own, subst (λ (t : List ℕ). Spelled c t b.0.1) (sym (wide.back b.0.0.left t.0 own)) t.1);
  again = λ c n d h s.
      let p = (fixed_field (byte_len w)).again c (to_be_bytes w n) d (wide.len n) s in
      bind_is (fixed_at (byte_len w) c) (λ n. Ok (from_be_bytes w n.0.left, n.1)) (cut p.0 (to_be_bytes w n), d) p.1
      ∙ ap (λ (k : ℕ). done {A = ℕ × Cut} (k, d)) (wide.again n h);
}

one_back : (bytes : List ℕ) → length bytes ≡ 1 → IsBytes bytes → to_be_bytes w8 (from_be_bytes w8 bytes) ≡ bytes
one_back [] len fits = absurd omega (arith, len)
one_back (b ∷ []) len fits = let lt = fits.below 0 in search (common_steps, arith)
one_back (b ∷ c ∷ bytes) len fits = absurd omega (arith, len)

pub wide8 : IsWide w8 (2 ^ 8)
wide8 = record {
  len = λ n. refl;
  back = λ bytes len fits. one_back bytes len fits;
  again = λ n lt. search (common_steps, arith);
  below = λ bytes fits. omega (arith, fits.below 0);
}

pub wide16 : IsWide w16 (2 ^ 16)
wide16 = record {
  len = λ n. refl;
  back = λ bytes len fits. be_bytes_2 bytes _ len fits.below refl;
  again = λ n lt. from_be_bytes-to_be_bytes_2 n lt;
  below = λ bytes fits. omega (arith, fits.below 0, fits.below 1);
}

fault_ok : {A : Type 0} (at : ℕ) (r : Result A ℕ) (y : A) → fault_at at r ≡ Ok y → r ≡ Ok y
fault_ok at (Ok x) y e = e
fault_ok at (Err d) y e = absurd cc

-- a text behind its length
pub text_field : (w : Width) (limit : ℕ) (ok : ℕ → Bool) → IsWide w limit
    → Field (λ t. (length t < limit) × (ok (length t) ≡ true)) (behind w) (text_at w ok)
unfolding text_at
text_field w limit ok wide = record {
  takes = λ c y bs e.
      let b = bind_ok (ranged ok (number_at w) c) (λ n. fault_at c.at (fixed_at n.0 n.1)) y e in
      let t = (ranged_law (λ n. n < limit) (to_be_bytes w) (number_at w) ok (number_law w limit wide)).takes c b.0 bs b.1 in
      let u = (fixed_field b.0.0).takes b.0.1 y (spelled-bytes c (to_be_bytes w b.0.0) b.0.1 bs t.1) (fault_ok c.at (fixed_at b.0.0 b.0.1) y b.2) in (
        subst (λ (n : ℕ). (n < limit) × (ok n ≡ true)) (sym u.0) t.0,
        subst (λ (n : ℕ). Spelled c (to_be_bytes w n ++ y.0.left) y.1) (sym u.0) (spelled-then c (to_be_bytes w b.0.0) b.0.1 y.0.left y.1 t.1 u.1),
      );
  again = λ c t d h s.
      let m = middle c (to_be_bytes w (length t)) t d in
      let l = (ranged_law (λ n. n < limit) (to_be_bytes w) (number_at w) ok (number_law w limit wide)).again c (length t) m h
      (spelled-front c (to_be_bytes w (length t)) t d s) in
      let p = (fixed_field (length t)).again m t d refl (spelled-back c (to_be_bytes w (length t)) t d s) in
      (p.0, bind_is (ranged ok (number_at w) c) (λ n. fault_at c.at (fixed_at n.0 n.1)) (length t, m) l ∙ ap (fault_at c.at) p.1);
}

-- ---- values that fill bytes

pub whole_takes : {A : Type 0} (fits : A → Type 0) (spell : A → List ℕ) (read : Cut → Read A) → Law fits spell read
    → (c : Cut) (x : A) → IsBytes c.left → whole read c ≡ Ok x → fits x × (c.left ≡ spell x)
unfolding whole
whole_takes fits spell read l c x bs e =
    let b = bind_ok (read c) (λ x. cond (eqb (length x.1.left) 0) (Ok x.0) (Err x.1.at)) x e in
    let g = guard_ended (eqb (length b.0.1.left) 0) b.0.1.at b.0.0 x b.2 in
    let t = l.takes c b.0 bs b.1 in
    let nothing : b.0.1.left ≡ [] = nil_from_length b.0.1.left (eqb-true _ _ g.0) in
    subst (λ x. fits x × (c.left ≡ spell x)) g.1 (t.0, t.1.left ∙ ap (λ (r : List ℕ). spell b.0.0 ++ r) nothing ∙ append-nil (spell b.0.0))

pub whole_again : {A : Type 0} (fits : A → Type 0) (spell : A → List ℕ) (read : Cut → Read A) → Law fits spell read
    → (c : Cut) (x : A) → fits x → c.left ≡ spell x → whole read c ≡ Ok x
unfolding whole
whole_again fits spell read l c x h e =
    bind_is (read c) (λ x. cond (eqb (length x.1.left) 0) (Ok x.0) (Err x.1.at)) (x, cut (c.at + length (spell x)) [])
    (l.again c x (cut (c.at + length (spell x)) []) h (record { left = e ∙ sym (append-nil (spell x)); at = refl }))

pub sized_law : {A : Type 0} (fits : A → Type 0) (spell : A → List ℕ) (read : Cut → Read A) → Law fits spell read
    → Law (λ x. fits x × (length (spell x) < 2 ^ 32)) (λ x. behind w32 (spell x)) (sized_at read)
unfolding sized_at
sized_law fits spell read l = record {
  takes = λ c y bs e.
      let b = bind_ok (bytes_at c) (λ b. whole read b.0 >>= λ x. Ok (x, b.1)) y e in
      let x = bind_ok (whole read b.0.0) (λ x. Ok (x, b.0.1)) y b.2 in
      let t = (text_field w32 (2 ^ 32) anything wide32).takes c b.0 bs b.1 in
      let own = bytes-after (to_be_bytes w32 (length b.0.0.left)) b.0.0.left (spelled-own c (behind w32 b.0.0.left) b.0.1 bs t.1) in
      let u = whole_takes fits spell read l b.0.0 x.0 own x.1 in
      subst (λ y. (fits y.0 × (length (spell y.0) < 2 ^ 32)) × Spelled c (behind w32 (spell y.0)) y.1) (ok_is (x.0, b.0.1) y x.2)
      ((u.0, subst (λ (t : List ℕ). length t < 2 ^ 32) u.1 t.0.0), subst (λ (t : List ℕ). Spelled c (behind w32 t) b.0.1) u.1 t.1);
  again = λ c x d h s.
      let p = (text_field w32 (2 ^ 32) anything wide32).again c (spell x) d (h.1, refl) s in
      bind_is (bytes_at c) (λ b. whole read b.0 >>= λ x. Ok (x, b.1)) (cut p.0 (spell x), d) p.1
      ∙ bind_is (whole read (cut p.0 (spell x))) (λ x. Ok (x, d)) x (whole_again fits spell read l (cut p.0 (spell x)) x h.0 refl);
}

-- ---- lists and limits

abbrev pub empty : (A : Type 0) → List A
empty A = []

pairs-list : {A : Type 0} (here there : ℕ) (y z : List ℕ) → here ≡ there → y ≡ z
    → done {A = List A × Cut} (empty A, cut here y) ≡ done (empty A, cut there z)
pairs-list here there y z q r = rw (q, r) refl

limited-end : {A : Type 0} (x : A) (at used k : ℕ) (left : List ℕ) (d : Cut) → used ≡ k → d.at ≡ at + k → drop k left ≡ d.left
    → done {A = A × Cut} (x, cut (at + used) (drop used left)) ≡ done (x, d)
limited-end x at used k left d e f g = rw (e, g, ← f) refl

times_none : {A : Type 0} (fits : A → Type 0) (spell : A → List ℕ) (read : Cut → Read A) (c : Cut) (xs : List A) (d : Cut)
    → (length xs ≡ 0) × AllByRecursion fits xs → Spelled c (flat_map spell xs) d → times_at read 0 c ≡ Ok (xs, d)
unfolding times_at
times_none fits spell read c [] d h s = pairs-list c.at d.at c.left d.left (omega (arith, s.at)) s.left
times_none fits spell read c (x ∷ xs) d h s = absurd omega (arith, h.0)

times_some : {A : Type 0} (fits : A → Type 0) (spell : A → List ℕ) (read : Cut → Read A) → Law fits spell read → (n : ℕ)
    → Law (λ xs. (length xs ≡ n) × AllByRecursion fits xs) (flat_map spell) (times_at read n)
    → (c : Cut) (xs : List A) (d : Cut) → (length xs ≡ suc n) × AllByRecursion fits xs → Spelled c (flat_map spell xs) d
    → times_at read (suc n) c ≡ Ok (xs, d)
unfolding times_at
times_some fits spell read l n more c [] d h s = absurd omega (arith, h.0)
times_some fits spell read l n more c (x ∷ xs) d h s =
    let m = middle c (spell x) (flat_map spell xs) d in
    bind_is (read c) (λ x. times_at read n x.1 >>= λ xs. Ok (x.0 ∷ xs.0, xs.1)) (x, m)
    (l.again c x m h.1.0 (spelled-front c (spell x) (flat_map spell xs) d s))
    ∙ bind_is (times_at read n m) (λ xs. Ok (x ∷ xs.0, xs.1)) (xs, d)
    (more.again m xs d (omega (arith, h.0), h.1.1) (spelled-back c (spell x) (flat_map spell xs) d s))

pub times_law : {A : Type 0} (fits : A → Type 0) (spell : A → List ℕ) (read : Cut → Read A) → Law fits spell read → (n : ℕ)
    → Law (λ xs. (length xs ≡ n) × AllByRecursion fits xs) (flat_map spell) (times_at read n)
unfolding times_at
times_law fits spell read l zero = record {
  takes = λ c y bs e. subst (λ y. ((length y.0 ≡ 0) × AllByRecursion fits y.0) × Spelled c (flat_map spell y.0) y.1) (ok_is ([], c) y e)
      ((refl, tt), record { left = refl; at = omega arith });
  again = times_none fits spell read;
}
times_law fits spell read l (suc n) = record {
  takes = λ c y bs e.
      let a = bind_ok (read c) (λ x. times_at read n x.1 >>= λ xs. Ok (x.0 ∷ xs.0, xs.1)) y e in
      let b = bind_ok (times_at read n a.0.1) (λ xs. Ok (a.0.0 ∷ xs.0, xs.1)) y a.2 in
      let t = l.takes c a.0 bs a.1 in
      let u = (times_law fits spell read l n).takes a.0.1 b.0 (spelled-bytes c (spell a.0.0) a.0.1 bs t.1) b.1 in
      subst (λ y. ((length y.0 ≡ suc n) × AllByRecursion fits y.0) × Spelled c (flat_map spell y.0) y.1) (ok_is (a.0.0 ∷ b.0.0, b.0.1) y b.2)
      ((ap suc u.0.0, (t.0, u.0.1)), rw flat_map-cons (spelled-then c (spell a.0.0) a.0.1 (flat_map spell b.0.0) b.0.1 t.1 u.1));
  again = times_some fits spell read l n (times_law fits spell read l n);
}

-- a value of at most n bytes
pub limited_law : {A : Type 0} (fits : A → Type 0) (spell : A → List ℕ) (read : Cut → Read A) (n : ℕ) → Law fits spell read
    → Law (λ x. fits x × (length (spell x) ≤ n)) spell (limited n read)
unfolding limited
limited_law fits spell read n l = record {
  takes = λ c y bs e.
      let b = bind_ok (read (front n c)) (λ x. Ok (x.0, past (length (take n c.left) - length x.1.left) c)) y e in
      let t = l.takes (front n c) b.0 (bytes_take n c.left bs) b.1 in
      let all : take n c.left ≡ spell b.0.0 ++ b.0.1.left = t.1.left in
      let used : length (take n c.left) - length b.0.1.left ≡ length (spell b.0.0) =
      omega (arith, ap length all, length-append (spell b.0.0) b.0.1.left) in
      let short : length (spell b.0.0) ≤ n = omega (arith, ap length all, length-append (spell b.0.0) b.0.1.left, length-take n c.left) in
      let parts : c.left ≡ spell b.0.0 ++ (b.0.1.left ++ drop n c.left) =
      sym (take-append-drop n c.left) ∙ ap (λ (x : List ℕ). x ++ drop n c.left) all ∙ append_assoc (spell b.0.0) b.0.1.left (drop n c.left) in
      let rest : drop (length (take n c.left) - length b.0.1.left) c.left ≡ b.0.1.left ++ drop n c.left =
      ap (λ (k : ℕ). drop k c.left) used ∙ ap (drop (length (spell b.0.0))) parts
      ∙ drop_at (spell b.0.0) (b.0.1.left ++ drop n c.left) (length (spell b.0.0)) refl in
      subst (λ y. (fits y.0 × (length (spell y.0) ≤ n)) × Spelled c (spell y.0) y.1)
      (ok_is (b.0.0, past (length (take n c.left) - length b.0.1.left) c) y b.2)
      ((t.0, short), record { left = parts ∙ ap (λ (r : List ℕ). spell b.0.0 ++ r) (sym rest); at = ap (λ (k : ℕ). c.at + k) used });
  again = λ c x d h s.
      let k = length (spell x) in
      let m : Cut = cut (c.at + length (spell x)) (drop (length (spell x)) (take n c.left)) in
      let here : take (length (spell x)) (take n c.left) ≡ spell x =
      take-take (length (spell x)) n c.left h.1 ∙ ap (take (length (spell x))) s.left ∙ take_at (spell x) d.left (length (spell x)) refl in
      let parts : take n c.left ≡ spell x ++ m.left =
      sym (take-append-drop (length (spell x)) (take n c.left)) ∙ ap (λ (t : List ℕ). t ++ m.left) here in
      bind_is (read (front n c)) (λ x. Ok (x.0, past (length (take n c.left) - length x.1.left) c)) (x, m)
      (l.again (front n c) x m h.0 (record { left = parts; at = refl }))
      ∙ limited-end x c.at (length (take n c.left) - length m.left) (length (spell x)) c.left d
      (omega (arith, ap length parts, length-append (spell x) m.left)) s.at
      (ap (drop (length (spell x))) s.left ∙ drop_at (spell x) d.left (length (spell x)) refl);
}

-- ---- a loop that reads one value after the other

-- what was read before, and what is still read
abbrev pub with_front : {A : Type 0} → List A → Read (List A) → Read (List A)
with_front front read = read >>= λ x. Ok (front ++ x.0, x.1)

pub regroup : {A : Type 0} (front : List A) (n : A) (read : Read (List A))
    → with_front front (read >>= λ x. Ok (n ∷ x.0, x.1)) ≡ with_front (front ++ n ∷ []) read
regroup front n (Ok x) = ap (λ (ns : List _). Ok (ns, x.1)) (simp append_assoc)
regroup front n (Err f) = refl

pub goes_on : {A : Type 0} (f : Cut → Read A) (front : List A) (count i : ℕ) (c : Cut) (n : A) (after : Cut) (total : Read (List A)) → i < count
    → f c ≡ Ok (n, after)
    → with_front front (times_at f (count - i) c) ≡ total → with_front (front ++ n ∷ []) (times_at f (count - (i + 1)) after) ≡ total
unfolding times_at
goes_on f front count i c n after total lt h so_far =
    let k : count - i ≡ suc (count - (i + 1)) = omega arith in
    let one : with_front front (times_at f (count - i) c) ≡ with_front (front ++ n ∷ []) (times_at f (count - (i + 1)) after) =
    rw (k, h) (regroup front n (times_at f (count - (i + 1)) after)) in
    sym one ∙ so_far

pub ends : {A : Type 0} (e : ReadError) (f : Cut → Read A) (front : List A) (count i : ℕ) (c : Cut) (total : Read (List A)) → i < count
    → Fails e (f c)
    → with_front front (times_at f (count - i) c) ≡ total → Fails e total
unfolding times_at
ends errors.NoMemory f front count i c total lt h so_far = tt
ends (errors.Unread at) f front count i c total lt h so_far =
    let k : count - i ≡ suc (count - (i + 1)) = omega arith in
    let one : with_front front (times_at f (count - i) c) ≡ Err at = rw (k, h) refl in
    sym so_far ∙ one

pub is_done : {A : Type 0} (f : Cut → Read A) (front : List A) (count i : ℕ) (c : Cut) (total : Read (List A)) → count ≤ i
    → with_front front (times_at f (count - i) c) ≡ total → total ≡ Ok (front, c)
unfolding times_at
is_done f front count i c total le so_far =
    let k : count - i ≡ 0 = omega arith in
    let one : with_front front (times_at f (count - i) c) ≡ Ok (front, c) = rw k (ap (λ (ns : List _). Ok (ns, c)) (append-nil front)) in
    sym so_far ∙ one

-- bytes that a value was read from, all of them, are its spelling
pub kept_is : {A : Type 0} (fits : A → Type 0) (spell : A → List ℕ) (read : Cut → Read A) → Law fits spell read
    → (c : Cut) (x : A) (d : Cut) → IsBytes c.left → read c ≡ Ok (x, d) → eqb (length d.left) 0 ≡ true → c.left ≡ spell x
kept_is fits spell read l c x d bs e nothing =
    (l.takes c (x, d) bs e).1.left ∙ ap (λ (r : List ℕ). spell x ++ r) (nil_from_length d.left (eqb-true _ _ nothing)) ∙ append-nil (spell x)
