-- The members of a group that get their seats one after the other, and those that get none.
use Rattle.std.proofs.Common.{◌≡◌, ◌∙◌, ◌≤◌, ◌<◌, ◌==◌, ℕ, Bool, true, zero, suc, ◌+◌, ◌-◌, List, [], ◌∷◌, ◌++◌, length, map, take, drop, reverse, get_or, Option, Result, Ok, Err, IfOk, IfErr, IsOk, refl, sym, ap, subst, arith, append_assoc, append-nil, length-append, length-drop, length-take-le, take_all, take_at, drop_at, get_or-drop, get_or-take}
use Rattle.std.specs.List.{All}
use Rattle.std.proofs.lemmas.List.Elements.{All-push, All-same}
use Rattle.std.proofs.lemmas.List.{map-append, reverse-append, reverse-reverse, length-map, length-reverse, get_or-map, get_or-reverse}
use Rattle.std.proofs.lemmas.Bool.{eqb-true}
use Rattle.disk_model.specs.Cells.{Cells}
use Rattle.durable_store.specs.declared.disks.Disks.{Disks}
use Rattle.member_opening.specs.Opened.{OpensWith}
use Rattle.group_parties.specs.Origins.{Origin}
use Rattle.group_parties.specs.Stations.{Names, AreBegun, AreOpened, AreStations, IsStation}
use Rattle.group_parties.specs.Unseated.{unseated_end, IsPut, IsUnseated}
use Rattle.group_parties.specs.declared.ending.MemberEnd.{MemberEnd}
use Rattle.group_parties.specs.declared.seating.Station.{Station}
use Rattle.group_parties.specs.declared.seating.Unseated.{Unseated}

-- ---- what an answer says

-- what two facts of a value say together
pub if-ok-both : {A E : Type 0} (P Q R : A → Type 0) (r : Result A E) → ((x : A) → P x → Q x → R x) → IfOk r P → IfOk r Q → IfOk r R
if-ok-both P Q R (Ok x) both first second = both x first second
if-ok-both P Q R (Err e) both first second = tt

-- ---- lists

pub nil-of : {A : Type 0} (xs : List A) → length xs ≡ 0 → xs ≡ []
nil-of [] none = refl
nil-of (x ∷ xs) none = absurd (omega (arith, none))

-- a list that is said to be empty has no value
pub none-of : (count : ℕ) (is : Bool) → is ≡ (count == 0) → is ≡ true → count ≡ 0
none-of count is test empty = eqb-true count 0 (sym test ∙ empty)

-- what stands last is the first of the list turned round
pub reverse-next : {A : Type 0} (old rest : List A) (x : A) → old ≡ rest ++ x ∷ [] → reverse old ≡ x ∷ reverse rest
reverse-next old rest x is = ap reverse is ∙ reverse-append rest (x ∷ [])

pub map-push : {A : Type 0} (f : A → ℕ) (old now : List A) (x : A) → now ≡ old ++ x ∷ [] → map f now ≡ map f old ++ f x ∷ []
map-push f old now x is = ap (map f) is ∙ map-append f old (x ∷ [])

module _ {D O : Type 0} where
  -- what holds of each that has a seat
  pub all-next : {R : Type 0} (P : R → Type 0) (member : ℕ) (seated : Result R (Unseated D O)) (runners now : List R) (left after : List (MemberEnd D O)) → IsPut member seated runners now left after → IfOk seated P → All P runners → All P now
  all-next P member (Ok r) runners now left after put here all = All-same P now (runners ++ r ∷ []) put.ok.0 (All-push P runners r all here)
  all-next P member (Err u) runners now left after put here all = All-same P now runners put.err.0 all

module _ {S D O : Type 0} where
  -- ---- members without a seat

  -- what is left of each of these, in their order
  abbrev pub AreUnseated : List (Station S D O) → List (MemberEnd D O) → Type 0
  AreUnseated [] [] = Unit {0}
  AreUnseated [] (e ∷ es) = ⊥
  AreUnseated (b ∷ bs) [] = ⊥
  AreUnseated (b ∷ bs) (e ∷ es) = IsUnseated b e × AreUnseated bs es

  -- what is left of one that got no seat
  pub unseated-end : (s : Station S D O) (u : Unseated D O) (e : MemberEnd D O) → e ≡ unseated_end s.member u.store u.sink → u.store ≡ s.store → IsUnseated s e
  unseated-end s u e is same = subst (λ (x : MemberEnd D O). IsUnseated s x) (sym is) (record { member = refl; store = same; sound = (refl, refl); none = refl })

  pub unseated-at : (bs : List (Station S D O)) (es : List (MemberEnd D O)) (i : ℕ) (b : Station S D O) (e : MemberEnd D O) → AreUnseated bs es → i < length bs → IsUnseated (get_or bs i b) (get_or es i e)
  unseated-at [] [] i b e all within = absurd (omega (arith, within))
  unseated-at [] (x ∷ es) i b e all within = absurd all
  unseated-at (y ∷ bs) [] i b e all within = absurd all
  unseated-at (y ∷ bs) (x ∷ es) zero b e all within = all.0
  unseated-at (y ∷ bs) (x ∷ es) (suc i) b e all within = unseated-at bs es i b e all.1 (omega (arith, within))

  unseated-more : (bs : List (Station S D O)) (es : List (MemberEnd D O)) (b : Station S D O) (e : MemberEnd D O) → AreUnseated bs es → IsUnseated b e → AreUnseated (bs ++ b ∷ []) (es ++ e ∷ [])
  unseated-more [] [] b e all one = (one, tt)
  unseated-more [] (x ∷ es) b e all one = absurd all
  unseated-more (y ∷ bs) [] b e all one = absurd all
  unseated-more (y ∷ bs) (x ∷ es) b e all one = (all.0, unseated-more bs es b e all.1 one)

  pub unseated-many : (bs : List (Station S D O)) (es : List (MemberEnd D O)) → AreUnseated bs es → length es ≡ length bs
  unseated-many [] [] all = refl
  unseated-many [] (x ∷ es) all = absurd all
  unseated-many (y ∷ bs) [] all = absurd all
  unseated-many (y ∷ bs) (x ∷ es) all = ap suc (unseated-many bs es all.1)

  unseated-none : (bs : List (Station S D O)) (es : List (MemberEnd D O)) → es ≡ [] → AreUnseated bs es → bs ≡ []
  unseated-none bs es none all = nil-of bs (sym (unseated-many bs es all) ∙ ap length none)

  -- ---- all members

  -- Of all members the first have a seat, and have these numbers. The next ones got none, and this is left of them. The rest is still to come, the next one last.
  pub record IsSplit (all rest : List (Station S D O)) (numbers : List ℕ) (left : List (MemberEnd D O)) : Type 0 where
    pub seated : List (Station S D O)
    pub behind : List (Station S D O)
    pub split : all ≡ seated ++ (behind ++ reverse rest)
    pub numbers_are : numbers ≡ map (λ (s : Station S D O). s.member) seated
    pub left_are : AreUnseated behind left

  abbrev number : Station S D O → ℕ
  number s = s.member

  none-left : (bs : List (Station S D O)) (left : List (MemberEnd D O)) → bs ≡ [] → left ≡ [] → AreUnseated bs left
  none-left [] [] few none = tt
  none-left [] (e ∷ es) few none = absurd (omega (arith, ap length none))
  none-left (b ∷ bs) left few none = absurd (omega (arith, ap length few))

  pub split-init : (all rest : List (Station S D O)) (numbers : List ℕ) (left : List (MemberEnd D O)) → rest ≡ reverse all → numbers ≡ [] → left ≡ [] → IsSplit all rest numbers left
  split-init all rest numbers left turned no_numbers none = record {
    seated = [];
    behind = [];
    split = sym (reverse-reverse all) ∙ ap reverse (sym turned);
    numbers_are = no_numbers;
    left_are = none-left [] left refl none;
  }

  pub split-seat : (all old rest : List (Station S D O)) (s : Station S D O) (was now : List ℕ) (left : List (MemberEnd D O)) → old ≡ rest ++ s ∷ [] → left ≡ [] → now ≡ was ++ s.member ∷ []
      → IsSplit all old was left → IsSplit all rest now left
  split-seat all old rest s was now left is none more p = record {
    seated = p.seated ++ s ∷ [];
    behind = [];
    split = p.split
        ∙ ap (λ (b : List (Station S D O)). p.seated ++ (b ++ reverse old)) (unseated-none p.behind left none p.left_are)
        ∙ ap (λ (r : List (Station S D O)). p.seated ++ r) (reverse-next old rest s is)
        ∙ sym (append_assoc p.seated (s ∷ []) (reverse rest));
    numbers_are = more ∙ ap (λ (ns : List ℕ). ns ++ s.member ∷ []) p.numbers_are ∙ sym (map-append number p.seated (s ∷ []));
    left_are = none-left [] left refl none;
  }

  pub split-left : (all old rest : List (Station S D O)) (s : Station S D O) (numbers : List ℕ) (left now : List (MemberEnd D O)) (e : MemberEnd D O) → old ≡ rest ++ s ∷ [] → now ≡ left ++ e ∷ [] → IsUnseated s e
      → IsSplit all old numbers left → IsSplit all rest numbers now
  split-left all old rest s numbers left now e is more one p = record {
    seated = p.seated;
    behind = p.behind ++ s ∷ [];
    split = p.split
        ∙ ap (λ (r : List (Station S D O)). p.seated ++ (p.behind ++ r)) (reverse-next old rest s is)
        ∙ ap (λ (r : List (Station S D O)). p.seated ++ r) (sym (append_assoc p.behind (s ∷ []) (reverse rest)));
    numbers_are = p.numbers_are;
    left_are = subst (λ (es : List (MemberEnd D O)). AreUnseated (p.behind ++ s ∷ []) es) (sym more) (unseated-more p.behind left s e p.left_are one);
  }

  -- how many they are
  pub split-count : (all rest : List (Station S D O)) (numbers : List ℕ) (left : List (MemberEnd D O)) → IsSplit all rest numbers left → length left + length numbers + length rest ≡ length all
  split-count all rest numbers left p =
      omega (
        arith,
        ap length p.split,
        length-append p.seated (p.behind ++ reverse rest),
        length-append p.behind (reverse rest),
        length-reverse rest,
        ap length p.numbers_are,
        length-map p.seated number,
        unseated-many p.behind left p.left_are,
      )

  -- the next one has its seat, or got none
  pub split-next : {R : Type 0} (member : R → ℕ) (all old rest : List (Station S D O)) (s : Station S D O) (seated : Result R (Unseated D O)) (runners now : List R) (left after : List (MemberEnd D O)) → old ≡ rest ++ s ∷ []
      → (IsOk seated → left ≡ []) → IfOk seated (λ r. member r ≡ s.member) → IfErr seated (λ u. u.store ≡ s.store) → IsPut s.member seated runners now left after
      → IsSplit all old (map member runners) left → IsSplit all rest (map member now) after
  split-next {R} member all old rest s (Ok r) runners now left after is whole number back put p =
      subst (λ (es : List (MemberEnd D O)). IsSplit all rest (map member now) es) (sym put.ok.1)
      (split-seat all old rest s (map member runners) (map member now) left is (whole refl) (map-push member runners now r put.ok.0 ∙ ap (λ (n : ℕ). map member runners ++ n ∷ []) number) p)
  split-next {R} member all old rest s (Err u) runners now left after is whole number back put p =
      subst (λ (rs : List R). IsSplit all rest (map member rs) after) (sym put.err.0)
      (split-left all old rest s (map member runners) left after (unseated_end s.member u.store u.sink) is put.err.1 (unseated-end s u (unseated_end s.member u.store u.sink) refl back) p)

  -- when none is to come
  module _ (all rest : List (Station S D O)) (numbers : List ℕ) (left : List (MemberEnd D O)) (p : IsSplit all rest numbers left) (none : rest ≡ []) where
    both : all ≡ p.seated ++ p.behind
    both = p.split ∙ ap (λ (r : List (Station S D O)). p.seated ++ (p.behind ++ reverse r)) none ∙ ap (λ (b : List (Station S D O)). p.seated ++ b) (append-nil p.behind)

    count : length p.seated ≡ length numbers
    count = sym (ap length p.numbers_are ∙ length-map p.seated number)

    pub split-many : length left + length numbers ≡ length all
    split-many = omega (arith, ap length both, length-append p.seated p.behind, count, unseated-many p.behind left p.left_are)

    -- the first of all have these numbers
    split-numbers : (n : ℕ) → n ≡ length numbers → numbers ≡ map number (take n all)
    split-numbers n is = p.numbers_are ∙ ap (map number) (sym (ap (take n) both ∙ take_at p.seated p.behind n (count ∙ sym is)))

    split-behind : (n : ℕ) → n ≡ length numbers → AreUnseated (drop n all) left
    split-behind n is = subst (λ (bs : List (Station S D O)). AreUnseated bs left) (sym (ap (drop n) both ∙ drop_at p.seated p.behind n (count ∙ sym is))) p.left_are

    -- all have a seat
    pub split-all : length left ≡ 0 → numbers ≡ map number all
    split-all empty =
        split-numbers (length numbers) refl ∙ ap (map number) (take_all (length numbers) all (omega (arith, split-many, empty)))

    pub seated-at : {R : Type 0} (member : R → ℕ) (runners : List R) (i : ℕ) (r : R) (s : Station S D O) → numbers ≡ map member runners → i < length runners → member (get_or runners i r) ≡ (get_or all i s).member
    seated-at member runners i r s are within =
        let many : length numbers ≡ length runners = ap length are ∙ length-map runners member in
        let few : length runners ≤ length all = omega (arith, split-many, many) in
        let inside : i < length (take (length runners) all) = omega (arith, within, length-take-le (length runners) all few) in
        sym (get_or-map member runners i r 0 within)
        ∙ ap (λ (ns : List ℕ). get_or ns i 0) (sym are ∙ split-numbers (length runners) (sym many))
        ∙ get_or-map number (take (length runners) all) i s 0 inside
        ∙ ap number (get_or-take (length runners) all i s within)

    -- what is left stands with the last of them first
    pub unseated-back : (n i : ℕ) (turned : List (MemberEnd D O)) (s : Station S D O) (e : MemberEnd D O) → n ≡ length numbers → turned ≡ reverse left → n ≤ i → i < length all
        → IsUnseated (get_or all i s) (get_or turned (length all - (i + 1)) e)
    unseated-back n i turned s e is turned-is from within =
        let k = length all - (i + 1) in
        let many : length left ≡ length all - n = omega (arith, split-many, is) in
        let inside : i - n < length (drop n all) = omega (arith, from, within, length-drop n all) in
        let below : k < length left = omega (arith, many, from, within) in
        let place : length left - 1 - k ≡ i - n = omega (arith, many, from, within) in
        let there : n + (i - n) ≡ i = omega (arith, from) in
        let ends : get_or turned k e ≡ get_or left (i - n) e =
        ap (λ (es : List (MemberEnd D O)). get_or es k e) turned-is ∙ get_or-reverse left k e below ∙ ap (λ (j : ℕ). get_or left j e) place in
        let stands : get_or all i s ≡ get_or (drop n all) (i - n) s = ap (λ (j : ℕ). get_or all j s) (sym there) ∙ sym (get_or-drop n all (i - n) s) in
        subst (λ (b : Station S D O). IsUnseated b (get_or turned k e)) (sym stands)
        (subst (λ (x : MemberEnd D O). IsUnseated (get_or (drop n all) (i - n) s) x) (sym ends) (unseated-at (drop n all) left (i - n) s e (split-behind n is) inside))

  -- ---- members none of which gets a seat

  -- This is left of the last of all members, the last one first.
  pub record IsBehind (all rest : List (Station S D O)) (left : List (MemberEnd D O)) : Type 0 where
    pub behind : List (Station S D O)
    pub split : all ≡ rest ++ behind
    pub left_are : AreUnseated behind (reverse left)

  pub behind-init : (all : List (Station S D O)) (left : List (MemberEnd D O)) → left ≡ [] → IsBehind all all left
  behind-init all left none = record {
    behind = [];
    split = sym (append-nil all);
    left_are = subst (λ (es : List (MemberEnd D O)). AreUnseated [] (reverse es)) (sym none) tt;
  }

  pub behind-more : (all old rest : List (Station S D O)) (s : Station S D O) (left now : List (MemberEnd D O)) (e : MemberEnd D O) → old ≡ rest ++ s ∷ [] → now ≡ left ++ e ∷ [] → IsUnseated s e
      → IsBehind all old left → IsBehind all rest now
  behind-more all old rest s left now e is more one p = record {
    behind = s ∷ p.behind;
    split = p.split ∙ ap (λ (ss : List (Station S D O)). ss ++ p.behind) is ∙ append_assoc rest (s ∷ []) p.behind;
    left_are = subst (λ (es : List (MemberEnd D O)). AreUnseated (s ∷ p.behind) es) (sym (reverse-next now left e more)) (one, p.left_are);
  }

  pub behind-all : (all rest : List (Station S D O)) (left now : List (MemberEnd D O)) → rest ≡ [] → now ≡ reverse left → IsBehind all rest left → AreUnseated all now
  behind-all all rest left now none turned p =
      let same : all ≡ p.behind = p.split ∙ ap (λ (ss : List (Station S D O)). ss ++ p.behind) none in
      subst (λ (ss : List (Station S D O)). AreUnseated ss now) (sym same) (subst (λ (es : List (MemberEnd D O)). AreUnseated p.behind es) (sym turned) p.left_are)

  -- ---- those still to come

  module _ (n : Names S) (told : Type 0) (cells : D → Cells) (written : O → Option (List ℕ)) (faults : O → ℕ) (first : ℕ) (old rest : List (Station S D O)) (s : Station S D O) (is : old ≡ rest ++ s ∷ []) where
    pub stations-next : AreStations n told cells written faults first (reverse old) → (s.member ≡ first) × IsStation n told cells written faults s × AreStations n told cells written faults (suc first) (reverse rest)
    stations-next all = subst (λ (ss : List (Station S D O)). AreStations n told cells written faults first ss) (reverse-next old rest s is) all

  module _ (told : Type 0) (cells : D → Cells) (origins : ℕ → Origin) (first : ℕ) (old rest : List (Station S D O)) (s : Station S D O) (is : old ≡ rest ++ s ∷ []) where
    pub opened-next : AreOpened told cells origins first (reverse old) → OpensWith told cells (origins first).images (origins first).kept s.store × AreOpened told cells origins (suc first) (reverse rest)
    opened-next all = subst (λ (ss : List (Station S D O)). AreOpened told cells origins first ss) (reverse-next old rest s is) all

  module _ (begun : ℕ → Disks D) (first : ℕ) (old rest : List (Station S D O)) (s : Station S D O) (is : old ≡ rest ++ s ∷ []) where
    pub begun-next : AreBegun begun first (reverse old) → (begun first ≡ s.store.disks) × AreBegun begun (suc first) (reverse rest)
    begun-next all = subst (λ (ss : List (Station S D O)). AreBegun begun first ss) (reverse-next old rest s is) all
