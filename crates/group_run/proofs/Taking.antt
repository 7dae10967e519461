-- How what each member has lived is taken, one after the other.
use Rattle.std.proofs.Common.{◌≡◌, ◌∙◌, inl, inr, ℕ, ◌+◌, ◌<◌, List, [], ◌∷◌, ◌++◌, length, map, take, drop, set, get_or, Option, Some, sym, ap, subst, arith}
use Rattle.group_parties.specs.declared.ending.MemberEnd.{MemberEnd}
use Rattle.std.proofs.lemmas.List.{get_or_default, get_or-set_same, get_or-set_other, map_push, map_more, drop_more, drop-set-lt}
use Rattle.std.proofs.lemmas.Bool.{cases_eq}

-- what is left of a member, but for what it has lived
abbrev pub IsSameBut : {D O : Type 0} → MemberEnd D O → MemberEnd D O → Type 0
IsSameBut old new = (new.member ≡ old.member) × ((new.sink ≡ old.sink) × ((new.failed ≡ old.failed) × ((new.store ≡ old.store) × (new.worn ≡ old.worn))))

same-through : {D O : Type 0} (a b c : MemberEnd D O) → IsSameBut a b → IsSameBut b c → IsSameBut a c
same-through a b c ab bc = (bc.0 ∙ ab.0, (bc.1.0 ∙ ab.1.0, (bc.1.1.0 ∙ ab.1.1.0, (bc.1.1.1.0 ∙ ab.1.1.1.0, bc.1.1.1.1 ∙ ab.1.1.1.1))))

-- a change of one value of a list keeps what held of each
same-set : {A : Type 0} (R : A → A → Type 0) (old now : List A) (index : ℕ) (x : A) → index < length now → ((i : ℕ) (d : A) → i < length old → R (get_or old i d) (get_or now i d)) → ((d : A) → R (get_or old index d) x)
    → (i : ℕ) (d : A) → i < length old → R (get_or old i d) (get_or (set now index x) i d)
same-set {A} R old now index x within all here i d few =
    elim (cases_eq i index) [
      | inl same ↦ subst (λ (y : A). R (get_or old i d) y) (sym (ap (λ (k : ℕ). get_or (set now index x) k d) same ∙ get_or-set_same now index x d within)) (subst (λ (k : ℕ). R (get_or old k d) x) (sym same) (here d))
      | inr other ↦ subst (λ (y : A). R (get_or old i d) y) (sym (get_or-set_other now index i x d other)) (all i d few)
    ]

pub taken-same : {D O : Type 0} (old now : List (MemberEnd D O)) (index : ℕ) (e x : MemberEnd D O) → index < length old → index < length now → e ≡ get_or now index e → IsSameBut e x
    → ((i : ℕ) (d : MemberEnd D O) → i < length old → IsSameBut (get_or old i d) (get_or now i d)) → (i : ℕ) (d : MemberEnd D O) → i < length old → IsSameBut (get_or old i d) (get_or (set now index x) i d)
taken-same {D} {O} old now index e x few within read same all =
    same-set (λ (a b : MemberEnd D O). IsSameBut a b) old now index x within all (λ d.
    subst (λ (a : MemberEnd D O). IsSameBut a x) (get_or_default old index e d few)
    (same-through (get_or old index e) e x (subst (λ (b : MemberEnd D O). IsSameBut (get_or old index e) b) (sym read) (all index e few)) same))

-- what is behind a place of two lists alike is alike there
head-of : {A : Type 0} (xs ys : List A) (x y : A) → x ∷ xs ≡ y ∷ ys → x ≡ y
head-of {A} xs ys x y is = ap (λ (l : List A). get_or l 0 x) is

pub at-alike : {A : Type 0} (old now : List A) (index : ℕ) (d : A) → index < length old → index < length now → drop index now ≡ drop index old → get_or now index d ≡ get_or old index d
at-alike old now index d few within rest =
    head-of (drop (index + 1) now) (drop (index + 1) old) (get_or now index d) (get_or old index d) (sym (drop_more now index d within) ∙ rest ∙ drop_more old index d few)

tail-of : {A : Type 0} (xs ys : List A) (x y : A) → x ∷ xs ≡ y ∷ ys → xs ≡ ys
tail-of {A} xs ys x y is = ap (λ (l : List A). drop 1 l) is

pub rest-alike : {A : Type 0} (old now : List A) (index : ℕ) (x d : A) → index < length old → index < length now → drop index now ≡ drop index old → drop (index + 1) (set now index x) ≡ drop (index + 1) old
rest-alike old now index x d few within rest =
    drop-set-lt (index + 1) now index x (omega arith)
    ∙ tail-of (drop (index + 1) now) (drop (index + 1) old) (get_or now index d) (get_or old index d) (sym (drop_more now index d within) ∙ rest ∙ drop_more old index d few)

pub taken-more : {A B : Type 0} (f : A → Option B) (old : List A) (index : ℕ) (d : A) (taken : List B) (x : B) → index < length old → map (λ (l : B). Some l) taken ≡ map f (take index old) → f (get_or old index d) ≡ Some x
    → map (λ (l : B). Some l) (taken ++ x ∷ []) ≡ map f (take (index + 1) old)
taken-more {A} {B} f old index d taken x few before is =
    map_push (λ (l : B). Some l) taken x ∙ ap (λ (ys : List (Option B)). ys ++ Some x ∷ []) before ∙ ap (λ (y : Option B). map f (take index old) ++ y ∷ []) (sym is) ∙ sym (map_more f old index d few)
