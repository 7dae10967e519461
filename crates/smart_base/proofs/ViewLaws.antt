-- The law of views: what is read is what is spelled.
use Rattle.std.proofs.Common.{◌≡◌, ℕ, zero, suc, ◌+◌, ◌-◌, ◌*◌, ◌^◌, ◌<◌, ◌≤◌, Bool, true, ltb, leb, ◌&&◌, List, [], ◌∷◌, ◌++◌, length, Result, Ok, Err, refl, sym, ap, subst, ◌∙◌, arith}
use Rattle.std.specs.Prelude.{IfOk}
use Rattle.std.specs.List.{flat_map}
use Rattle.std.specs.Int.{w8, w16, w32, w64, to_be_bytes}
use Rattle.std.proofs.lemmas.Bool.{and_from, leb-true, le-leb}
use Rattle.std.proofs.lemmas.List.{append-nil}
use Rattle.std.proofs.lemmas.List.Concat.{flat_map-cons}
use Rattle.smart_base.specs.Cuts.{Cut, Read, IsBytes, ◌>>=◌, ranged, number_at, Gives}
use Rattle.smart_base.specs.Spelling.{u16, Spelled, Law}
use Rattle.smart_base.specs.Views.{View, ascends, is_view}
use Rattle.smart_base.specs.ViewBytes.{view_text, view_number_at, first_place_at, faulty_at, member_count_at, members_at, view_at}
use Rattle.smart_base.specs.Laws.{bind_ok, bind_is, ok_is, done, empty, spelled-bytes, spelled-then, spelled-front, spelled-back, middle, then_law, last_law, refit, ranged_law, with_front, regroup}
use Rattle.smart_base.specs.FieldLaws.{u8_law, u16_law, u32_law, u64_law, and_true}
use Rattle.smart_base.specs.declared.fault.ReadError.{ReadError}

-- ---- members

above_law : (last : ℕ) → Law (λ n. (n < 2 ^ 16) × (ltb last n ≡ true)) (to_be_bytes w16) (ranged (λ m. ltb last m) (number_at w16))
above_law last = ranged_law (λ n. n < 2 ^ 16) (to_be_bytes w16) (number_at w16) (λ m. ltb last m) u16_law

ascends-from : (last m : ℕ) (ms : List ℕ) → m < 2 ^ 16 → ltb last m ≡ true → ascends m ms ≡ true → ascends last (m ∷ ms) ≡ true
ascends-from last m ms small above rest = rw (above, le-leb m 65535 (omega (arith, small)), rest) refl

ascends-parts : (last m : ℕ) (ms : List ℕ) → ascends last (m ∷ ms) ≡ true → ((m < 2 ^ 16) × (ltb last m ≡ true)) × (ascends m ms ≡ true)
ascends-parts last m ms e =
    let a = and_true (ltb last m && leb m 65535) (ascends m ms) e in
    let b = and_true (ltb last m) (leb m 65535) a.0 in
    ((omega (arith, leb-true m 65535 b.1), b.0), a.1)

members_none : (last : ℕ) (c : Cut) (ms : List ℕ) (d : Cut) → (length ms ≡ 0) × (ascends last ms ≡ true) → Spelled c (flat_map u16 ms) d
    → members_at last 0 c ≡ Ok (ms, d)
unfolding members_at
members_none last c [] d h s = ends-here c d (omega (arith, s.at)) s.left
  where
    ends-here : (c d : Cut) → c.at ≡ d.at → c.left ≡ d.left → done {A = List ℕ × Cut} (empty ℕ, c) ≡ done (empty ℕ, d)
    ends-here c d p q = rw (p, q) refl
members_none last c (m ∷ ms) d h s = absurd omega (arith, h.0)

members_some : (last n : ℕ) → ((next : ℕ) → Law (λ ms. (length ms ≡ n) × (ascends next ms ≡ true)) (flat_map u16) (members_at next n))
    → (c : Cut) (ms : List ℕ) (d : Cut) → (length ms ≡ suc n) × (ascends last ms ≡ true) → Spelled c (flat_map u16 ms) d
    → members_at last (suc n) c ≡ Ok (ms, d)
unfolding members_at
members_some last n more c [] d h s = absurd omega (arith, h.0)
members_some last n more c (m ∷ ms) d h s =
    let between = middle c (u16 m) (flat_map u16 ms) d in
    let parts = ascends-parts last m ms h.1 in
    bind_is (ranged (λ m. ltb last m) (number_at w16) c) (λ m. members_at m.0 n m.1 >>= λ ms. Ok (m.0 ∷ ms.0, ms.1)) (m, between)
    ((above_law last).again c m between parts.0 (spelled-front c (u16 m) (flat_map u16 ms) d s))
    ∙ bind_is (members_at m n between) (λ ms. Ok (m ∷ ms.0, ms.1)) (ms, d)
    ((more m).again between ms d (omega (arith, h.0), parts.1) (spelled-back c (u16 m) (flat_map u16 ms) d s))

members_law : (n last : ℕ) → Law (λ ms. (length ms ≡ n) × (ascends last ms ≡ true)) (flat_map u16) (members_at last n)
unfolding members_at
members_law zero last = record {
  takes = λ c y bs e. subst (λ y. ((length y.0 ≡ 0) × (ascends last y.0 ≡ true)) × Spelled c (flat_map u16 y.0) y.1) (ok_is ([], c) y e)
      ((refl, refl), record { left = refl; at = omega arith });
  again = members_none last;
}
members_law (suc n) last = record {
  takes = λ c y bs e.
      let a = bind_ok (ranged (λ m. ltb last m) (number_at w16) c) (λ m. members_at m.0 n m.1 >>= λ ms. Ok (m.0 ∷ ms.0, ms.1)) y e in
      let b = bind_ok (members_at a.0.0 n a.0.1) (λ ms. Ok (a.0.0 ∷ ms.0, ms.1)) y a.2 in
      let t = (above_law last).takes c a.0 bs a.1 in
      let u = (members_law n a.0.0).takes a.0.1 b.0 (spelled-bytes c (u16 a.0.0) a.0.1 bs t.1) b.1 in
      subst (λ y. ((length y.0 ≡ suc n) × (ascends last y.0 ≡ true)) × Spelled c (flat_map u16 y.0) y.1) (ok_is (a.0.0 ∷ b.0.0, b.0.1) y b.2) (
        (ap suc u.0.0, ascends-from last a.0.0 b.0.0 t.0.0 t.0.1 u.0.1),
        rw flat_map-cons (spelled-then c (u16 a.0.0) a.0.1 (flat_map u16 b.0.0) b.0.1 t.1 u.1),
      );
  again = members_some last n (members_law n);
}

-- ---- views

FitsParts : View → Type 0
FitsParts v =
    Unit {0} × (((v.number < 2 ^ 32) × (leb v.number 1023 ≡ true))
    × (((v.start < 2 ^ 64) × ((leb 1 v.start && leb v.start (2 ^ 63)) ≡ true))
    × (((v.f < 2 ^ 8) × (leb v.f 10 ≡ true))
    × (((length v.members < 2 ^ 16) × ((leb (3 * v.f + 1) (length v.members) && leb (length v.members) 31) ≡ true)) × (ascends 0 v.members ≡ true)))))

parts-make : (v : View) → FitsParts v → is_view v ≡ true
unfolding FitsParts is_view
parts-make v h =
    let s = and_true (leb 1 v.start) (leb v.start (2 ^ 63)) h.1.1.0.1 in
    let k = and_true (leb (3 * v.f + 1) (length v.members)) (leb (length v.members) 31) h.1.1.1.1.0.1 in
    rw (h.1.0.1, s.0, s.1, h.1.1.1.0.1, k.0, k.1, h.1.1.1.1.1) refl

seven : (a b c d k l m : Bool) → (a && b && c && d && k && l && m) ≡ true
    → (a ≡ true) × (((b && c) ≡ true) × ((d ≡ true) × (((k && l) ≡ true) × (m ≡ true))))
seven a b c d k l m e =
    let p = and_true (a && b && c && d && k && l) m e in
    let q = and_true (a && b && c && d && k) l p.0 in
    let r = and_true (a && b && c && d) k q.0 in
    let s = and_true (a && b && c) d r.0 in
    let t = and_true (a && b) c s.0 in
    let u = and_true a b t.0 in
    (u.0, (and_from b c u.1 t.1, (s.1, (and_from k l r.1 q.1, p.1))))

view-parts : (v : View) → is_view v ≡ true → FitsParts v
unfolding FitsParts is_view
view-parts v e =
    let t = seven (leb v.number 1023) (leb 1 v.start) (leb v.start (2 ^ 63)) (leb v.f 10) (leb (3 * v.f + 1) (length v.members)) (leb (length v.members) 31)
    (ascends 0 v.members) e in
    let start = and_true (leb 1 v.start) (leb v.start (2 ^ 63)) t.1.0 in
    let count = and_true (leb (3 * v.f + 1) (length v.members)) (leb (length v.members) 31) t.1.1.1.0 in (
      tt,
      (
        (omega (arith, leb-true v.number 1023 t.0), t.0),
        (
          (omega (arith, leb-true v.start (2 ^ 63) start.1), t.1.0),
          (
            (omega (arith, leb-true v.f 10 t.1.1.0), t.1.1.0),
            ((omega (arith, leb-true (length v.members) 31 count.1), t.1.1.1.0), t.1.1.1.1),
          ),
        ),
      ),
    )

pub members-few : (v : View) → is_view v ≡ true → length v.members ≤ 31
unfolding FitsParts
members-few v e =
    let parts = view-parts v e in
    leb-true (length v.members) 31 (and_true (leb (3 * v.f + 1) (length v.members)) (leb (length v.members) 31) parts.1.1.1.1.0.1).1

abbrev make_view : ℕ → ℕ → ℕ → List ℕ → View
make_view n s f ms = record { number = n; start = s; f = f; members = ms }

view_is : (v : View) (n s f : ℕ) → v.number ≡ n → v.start ≡ s → v.f ≡ f → make_view n s f v.members ≡ v
view_is v n s f p q r = rw (← p, ← q, ← r) refl

abbrev CountFits : ℕ → ℕ → Type 0
CountFits f n = (n < 2 ^ 16) × ((leb (3 * f + 1) n && leb n 31) ≡ true)

pub view_law : Law (λ v. is_view v ≡ true) view_text view_at
unfolding view_at view_text FitsParts
view_law =
    refit FitsParts (λ v. is_view v ≡ true) view_text view_at
    (then_law (λ (v : View). v.number) (λ v. Unit {0}) (λ n. (n < 2 ^ 32) × (leb n 1023 ≡ true)) (to_be_bytes w32) view_number_at _ _ _
    (ranged_law (λ n. n < 2 ^ 32) (to_be_bytes w32) (number_at w32) (λ n. leb n 1023) u32_law) λ n is_n.
    then_law (λ (v : View). v.start) (λ v. Unit {0} × (v.number ≡ n)) (λ n. (n < 2 ^ 64) × ((leb 1 n && leb n (2 ^ 63)) ≡ true)) (to_be_bytes w64) first_place_at _ _ _
    (ranged_law (λ n. n < 2 ^ 64) (to_be_bytes w64) (number_at w64) (λ n. leb 1 n && leb n (2 ^ 63)) u64_law) λ s is_s.
    then_law (λ (v : View). v.f) (λ v. (Unit {0} × (v.number ≡ n)) × (v.start ≡ s)) (λ n. (n < 2 ^ 8) × (leb n 10 ≡ true)) (to_be_bytes w8) faulty_at
    (λ v. CountFits v.f (length v.members) × (ascends 0 v.members ≡ true)) _ _
    (ranged_law (λ n. n < 2 ^ 8) (to_be_bytes w8) (number_at w8) (λ n. leb n 10) u8_law) λ f is_f.
    refit _ (λ v. (((Unit {0} × (v.number ≡ n)) × (v.start ≡ s)) × (v.f ≡ f)) × (CountFits v.f (length v.members) × (ascends 0 v.members ≡ true))) _ _
    (then_law (λ (v : View). length v.members) (λ v. ((Unit {0} × (v.number ≡ n)) × (v.start ≡ s)) × (v.f ≡ f)) (CountFits f) (to_be_bytes w16) (member_count_at f)
    (λ v. ascends 0 v.members ≡ true) _ _
    (ranged_law (λ n. n < 2 ^ 16) (to_be_bytes w16) (number_at w16) (λ n. leb (3 * f + 1) n && leb n 31) u16_law) λ k is_k.
    refit _ (λ v. ((((Unit {0} × (v.number ≡ n)) × (v.start ≡ s)) × (v.f ≡ f)) × (length v.members ≡ k)) × (ascends 0 v.members ≡ true)) _ _
    (last_law (λ (v : View). v.members) (λ v. (((Unit {0} × (v.number ≡ n)) × (v.start ≡ s)) × (v.f ≡ f)) × (length v.members ≡ k))
    (λ ms. (length ms ≡ k) × (ascends 0 ms ≡ true)) (flat_map u16) (members_at 0 k) (λ ms. make_view n s f ms) (members_law k 0)
    (λ ms h. ((((tt, refl), refl), refl), h.0)) (λ ms. refl) (λ v h. view_is v n s f h.0.0.0.1 h.0.0.1 h.0.1))
    (λ v h. (h.0, h.1.1)) (λ v h. (h.0, (h.0.1, h.1))))
    (λ v h. (h.0, (subst (λ (f : ℕ). CountFits f (length v.members)) (sym h.0.1) h.1.0, h.1.1)))
    (λ v h. (h.0, (subst (λ (f : ℕ). CountFits f (length v.members)) h.0.1 h.1.0, h.1.1))))
    parts-make view-parts

pub view-found : (c : Cut) (r : Result View ReadError) (d : Cut) → IsBytes c.left → Gives r d (view_at c) → IfOk r (λ v. Spelled c (view_text v) d)
view-found c (Ok v) d bs given = (view_law.takes c (v, d) bs given).1
view-found c (Err e) d bs given = tt

-- ---- the loop over members

pub member-goes-on : (front : List ℕ) (last count i : ℕ) (c : Cut) (m : ℕ) (after : Cut) (total : Read (List ℕ)) → i < count
    → ranged (λ m. ltb last m) (number_at w16) c ≡ Ok (m, after)
    → with_front front (members_at last (count - i) c) ≡ total → with_front (front ++ m ∷ []) (members_at m (count - (i + 1)) after) ≡ total
unfolding members_at
member-goes-on front last count i c m after total lt h so_far =
    let k : count - i ≡ suc (count - (i + 1)) = omega arith in
    let one : with_front front (members_at last (count - i) c) ≡ with_front (front ++ m ∷ []) (members_at m (count - (i + 1)) after) =
    rw (k, h) (regroup front m (members_at m (count - (i + 1)) after)) in
    sym one ∙ so_far

pub member-ends : (at : ℕ) (front : List ℕ) (last count i : ℕ) (c : Cut) (total : Read (List ℕ)) → i < count
    → ranged (λ m. ltb last m) (number_at w16) c ≡ Err at → with_front front (members_at last (count - i) c) ≡ total → total ≡ Err at
unfolding members_at
member-ends at front last count i c total lt h so_far =
    let k : count - i ≡ suc (count - (i + 1)) = omega arith in
    let one : with_front front (members_at last (count - i) c) ≡ Err at = rw (k, h) refl in
    sym so_far ∙ one

pub members-done : (front : List ℕ) (last count i : ℕ) (c : Cut) (total : Read (List ℕ)) → count ≤ i
    → with_front front (members_at last (count - i) c) ≡ total → total ≡ Ok (front, c)
unfolding members_at
members-done front last count i c total le so_far =
    let k : count - i ≡ 0 = omega arith in
    let one : with_front front (members_at last (count - i) c) ≡ Ok (front, c) = rw k (ap (λ (ns : List ℕ). Ok (ns, c)) (append-nil front)) in
    sym so_far ∙ one
