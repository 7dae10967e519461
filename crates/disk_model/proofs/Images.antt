-- What a crash leaves of a disk after one call.
use Rattle.std.proofs.Common.{◌≡◌, ◌≢◌, ⊎_elim, ℕ, suc, zero, ◌+◌, ◌≤◌, ◌<◌, true, false, Bool, not, ◌&&◌, ◌||◌, nat_lt, List, [], ◌∷◌, ◌++◌, length, get_or, take, drop, set, refl, sym, ◌∙◌, subst, arith}
use Rattle.std.proofs.lemmas.Bool.Decides.{nat_tests}
use Rattle.std.proofs.lemmas.Bool.{cases_eq}
use Rattle.std.proofs.lemmas.List.{get_or-take, ext_get_or, length-set, get_or-set_same, get_or-set_other, set_split}
use Rattle.disk_model.specs.declared.platter.Range.{Range}
use Rattle.disk_model.specs.Cells.{Cells, IsImage, Within, settled, written, cut_to, covers}
use Rattle.disk_model.specs.Replay.{torn_write, torn_cut}
use Rattle.disk_model.proofs.Puts.{put_outside}

-- lists that agree up to n have the same front
pub same_front : (n : ℕ) (xs ys : List ℕ) → n ≤ length xs → n ≤ length ys → ((i : ℕ) → i < n → get_or xs i 0 ≡ get_or ys i 0) → take n xs ≡ take n ys
same_front zero xs ys long_x long_y same = refl
same_front (suc n) [] ys long_x long_y same = absurd (omega arith)
same_front (suc n) (x ∷ xs) [] long_x long_y same = absurd (omega arith)
same_front (suc n) (x ∷ xs) (y ∷ ys) long_x long_y same =
    let head : x ≡ y = same zero (omega arith) in
    let rest : take n xs ≡ take n ys = same_front n xs ys (omega arith) (omega arith) (λ i lt. same (suc i) (omega arith)) in
    λ i. head i ∷ rest i

covers-append : (rs : List Range) (r : Range) (i : ℕ) → covers (rs ++ r ∷ []) i ≡ false → (covers rs i ≡ false) × (covers (r ∷ []) i ≡ false)
covers-append [] r i none = (refl, none)
covers-append (q ∷ rs) r i none =
    let here : (not (nat_lt i q.from) && nat_lt i q.upto) ≡ false = first_false _ _ none in
    let both = covers-append rs r i (second_false _ _ none) in
    (or_false _ _ here both.0, both.1)
  where
    first_false : (a b : Bool) → (a || b) ≡ false → a ≡ false
    first_false true b none = none
    first_false false b none = refl

    second_false : (a b : Bool) → (a || b) ≡ false → b ≡ false
    second_false true b none = cc
    second_false false b none = none

    or_false : (a b : Bool) → a ≡ false → b ≡ false → (a || b) ≡ false
    or_false true b a_is b_is = a_is
    or_false false b a_is b_is = b_is

pub outside : (from upto i : ℕ) → (not (nat_lt i from) && nat_lt i upto || false) ≡ false → i < upto → i < from
outside from upto i none below = grind (arith, nat_tests)

-- a call that failed, or has not begun, leaves nothing else than the call
pub within_begun : (at : ℕ) (bytes : List ℕ) (s : Cells) → at ≤ length s.now → Within s (written at bytes s)
within_begun at bytes s le image is = record {
  no_shorter = is.no_shorter;
  no_longer = omega (arith, is.no_longer);
  same = λ i lt none.
      let both = covers-append s.touched (record { from = at; upto = at + length bytes }) i none in
      is.same i lt both.0 ∙ sym (put_outside at bytes s.now i le (outside at (at + length bytes) i both.1));
}

pub within_touched : (r : Range) (s : Cells) → Within s (torn_write r s)
within_touched r s image is = record {
  no_shorter = is.no_shorter;
  no_longer = omega (arith, is.no_longer);
  same = λ i lt none. is.same i lt (covers-append s.touched r i none).0;
}

pub within_torn : (at : ℕ) (bytes : List ℕ) (s : Cells) → at ≤ length s.now → Within (torn_write (record { from = at; upto = at + length bytes }) s) (written at bytes s)
within_torn at bytes s le image is = record {
  no_shorter = is.no_shorter;
  no_longer = is.no_longer;
  same = λ i lt none.
      let both = covers-append s.touched (record { from = at; upto = at + length bytes }) i none in
      is.same i lt none ∙ sym (put_outside at bytes s.now i le (outside at (at + length bytes) i both.1));
}

pub within_cut_begun : (n : ℕ) (s : Cells) → Within s (cut_to n s)
within_cut_begun n s image is = record {
  no_shorter = omega (arith, is.no_shorter);
  no_longer = is.no_longer;
  same = λ i lt none. is.same i (omega arith) none ∙ sym (get_or-take n s.now i 0 (omega arith));
}

pub within_shortened : (n : ℕ) (s : Cells) → Within s (torn_cut n s)
within_shortened n s image is = record {
  no_shorter = omega (arith, is.no_shorter);
  no_longer = is.no_longer;
  same = λ i lt none. is.same i (omega arith) none;
}

pub within_by : (s t : Cells) → s ≡ t → Within s t
within_by s t same image is = subst (λ (q : Cells). IsImage q image) same is

-- the same, of cells that are equal to these
pub begun : (at : ℕ) (bytes : List ℕ) (s new : Cells) → at ≤ length s.now → new ≡ s → Within new (written at bytes s)
begun at bytes s new le same image is = within_begun at bytes s le image (within_by new s same image is)

pub torn : (at : ℕ) (bytes : List ℕ) (s new : Cells) → at ≤ length s.now → new ≡ torn_write (record { from = at; upto = at + length bytes }) s → Within new (written at bytes s)
torn at bytes s new le same image is = within_torn at bytes s le image (within_by new _ same image is)

-- ---- what is left of a disk of which all was sure

-- nothing is written
pub image_settled : (now c : List ℕ) → IsImage (settled now) c → c ≡ now
image_settled now c is =
    let long : length c ≡ length now = omega (arith, is.no_shorter, is.no_longer) in
    ext_get_or 0 c now long (λ i lt. is.same i (omega arith) refl)

-- the bytes before a write
pub image_front : (at : ℕ) (bytes now c : List ℕ) → at ≤ length now → IsImage (written at bytes (settled now)) c → take at c ≡ take at now
image_front at bytes now c le is =
    same_front at c now (omega (arith, is.no_shorter)) le
    (λ i lt. is.same i (omega arith) (before at (at + length bytes) i lt) ∙ put_outside at bytes now i le (λ any. lt))
  where
    before : (from upto i : ℕ) → i < from → (not (nat_lt i from) && nat_lt i upto || false) ≡ false
    before from upto i lt = grind (arith, nat_tests)

-- a write of one byte over another
pub image_byte : (e x : ℕ) (now c : List ℕ) → e < length now → IsImage (written e (x ∷ []) (settled now)) c → c ≡ take e now ++ get_or c e 0 ∷ drop (suc e) now
image_byte e x now c lt is =
    let long : length c ≡ length now = omega (arith, is.no_shorter, is.no_longer) in
    let b = get_or c e 0 in
    let there : get_or (set now e b) e 0 ≡ b = get_or-set_same now e b 0 lt in
    ext_get_or 0 c (set now e b) (long ∙ sym (length-set now e b)) (λ i below. ⊎_elim (λ (is_e : i ≡ e). subst (λ (k : ℕ). get_or c k 0 ≡ get_or (set now e b) k 0) (sym is_e) (sym there)) (λ (not_e : i ≢ e). other i (omega (arith, below, long)) not_e b) (cases_eq i e))
    ∙ set_split now e b lt
  where
    out : (i : ℕ) → i ≢ e → (not (nat_lt i e) && nat_lt i (e + 1) || false) ≡ false
    out i differs = grind (arith, nat_tests)

    other : (i : ℕ) → i < length now → i ≢ e → (b : ℕ) → get_or c i 0 ≡ get_or (set now e b) i 0
    other i below differs b =
        is.same i below (out i differs) ∙ put_outside e (x ∷ []) now i (omega arith) (λ (low : i < e + 1). omega (arith, low, differs)) ∙ sym (get_or-set_other now e i b 0 differs)
