-- Marks of members who have signed.
use Rattle.std.proofs.Common.{◌≡◌, ℕ, zero, suc, ◌<◌, ◌==◌, Bool, true, false, ◌||◌, List, [], ◌∷◌, ◌++◌, length, get_or, replicate, refl, sym, ◌∙◌, ap, arith}
use Rattle.std.specs.Prelude.{Option, Some, None, MatchOption, slice_index, slice_set, slice_index_or}
use Rattle.std.specs.List.{list_any}
use Rattle.std.proofs.lemmas.Bool.{eqb-true}
use Rattle.std.proofs.lemmas.Grind.{common_steps, get_or-set_at}
use Rattle.std.proofs.lemmas.List.{get_or-set_other}
use Rattle.std.proofs.lemmas.List.Folds.{list_any-append, list_any_at}
use Rattle.smart_base.specs.Views.{View, is_member}
use Rattle.smart_view.specs.Sizes.{index_of}
use Rattle.smart_view.proofs.Members.{index_of-cases}
use Rattle.certificates.specs.Certificates.{Marks, signer_fault}
use Rattle.certificates.specs.declared.fault.CertFault.TheVariants.{Stranger, Twice}

some_case : (N : Type 0) (S : ℕ → Type 0) (o : Option ℕ) (i : ℕ) → o ≡ Some i → MatchOption o N S → S i
some_case N S None i is h = absurd (cc)
some_case N S (Some x) i is h = let e : x ≡ i = cc in rw (← e) h

-- a member stands at its index
stands : (v : View) (m i : ℕ) → index_of v m ≡ Some i → (i < length v.members) × (slice_index v.members i ≡ m)
stands v m i is = some_case (is_member v m ≡ false) (λ i. (i < length v.members) × (slice_index v.members i ≡ m)) (index_of v m) i is (index_of-cases v m)

none_case : (N : Type 0) (S : ℕ → Type 0) (o : Option ℕ) → o ≡ None → MatchOption o N S → N
none_case N S None is h = h
none_case N S (Some x) is h = absurd (cc)

no_member : (v : View) (m : ℕ) → index_of v m ≡ None → is_member v m ≡ false
no_member v m is = none_case (is_member v m ≡ false) (λ i. (i < length v.members) × (slice_index v.members i ≡ m)) (index_of v m) is (index_of-cases v m)

same_number : (n : ℕ) → (n == n) ≡ true
same_number n = grind (arith, common_steps)

a_member : (v : View) (m i : ℕ) → index_of v m ≡ Some i → is_member v m ≡ true
a_member v m i is =
    let place = stands v m i is in
    list_any_at (λ x. x == m) v.members i 0 place.0 (rw place.1 (same_number m))

-- what is wrong with a signer, told by its index and its mark

pub fault-stranger : (v : View) (earlier : List ℕ) (signer : ℕ) → index_of v signer ≡ None → signer_fault v earlier signer ≡ Some Stranger
fault-stranger v earlier signer is = rw (no_member v signer is) refl

pub fault-twice : (v : View) (earlier : List ℕ) (marks : List Bool) (signer i : ℕ) → index_of v signer ≡ Some i → slice_index_or marks i false ≡ true
    → Marks v earlier marks → signer_fault v earlier signer ≡ Some Twice
fault-twice v earlier marks signer i is marked at =
    let among : list_any (λ x. x == signer) earlier ≡ true = sym (at.at signer i is) ∙ marked in
    rw (a_member v signer i is, among) refl

pub fault-no : (v : View) (earlier : List ℕ) (marks : List Bool) (signer i : ℕ) → index_of v signer ≡ Some i → slice_index_or marks i false ≡ false
    → Marks v earlier marks → signer_fault v earlier signer ≡ None
fault-no v earlier marks signer i is marked at =
    let among : list_any (λ x. x == signer) earlier ≡ false = sym (at.at signer i is) ∙ marked in
    rw (a_member v signer i is, among) refl

or_true : (b : Bool) → (b || true) ≡ true
or_true true = refl
or_true false = refl

or_false : (b : Bool) → (b || false) ≡ b
or_false true = refl
or_false false = refl

-- whether a name is among earlier ones and one more
among_more : (m signer : ℕ) (earlier : List ℕ) (t : Bool) → (signer == m) ≡ t
    → list_any (λ x. x == m) (earlier ++ signer ∷ []) ≡ (list_any (λ x. x == m) earlier || t)
among_more m signer earlier true is = rw (list_any-append (λ x. x == m) earlier (signer ∷ []), is) refl
among_more m signer earlier false is = rw (list_any-append (λ x. x == m) earlier (signer ∷ []), is) refl

mark_at : (v : View) (earlier : List ℕ) (marks : List Bool) (signer j m i : ℕ) (t : Bool) → (signer == m) ≡ t → index_of v signer ≡ Some j → j < length marks
    → index_of v m ≡ Some i → slice_index_or marks i false ≡ list_any (λ x. x == m) earlier
    → slice_index_or (slice_set marks j true) i false ≡ list_any (λ x. x == m) (earlier ++ signer ∷ [])
mark_at v earlier marks signer j m i true same at within there before =
    let same_name : signer ≡ m = eqb-true signer m same in
    let same_index : Some i ≡ Some j = sym there ∙ (ap (index_of v) (sym same_name) ∙ at) in
    let e : i ≡ j = cc in
    get_or-set_at marks j i true false e within ∙ sym (among_more m signer earlier true same ∙ or_true (list_any (λ x. x == m) earlier))
mark_at v earlier marks signer j m i false differ at within there before =
    get_or-set_other marks j i true false (λ e. other e) ∙ (before ∙ sym (among_more m signer earlier false differ ∙ or_false (list_any (λ x. x == m) earlier)))
  where
    other : i ≡ j → ⊥
    other e =
        let same_name : signer ≡ m = sym (stands v signer j at).1 ∙ (ap (slice_index v.members) (sym e) ∙ (stands v m i there).1) in
        let same : (signer == m) ≡ true = rw same_name (same_number m) in
        absurd (cc)

-- the marks behind one more signer
pub marks-more : (v : View) (earlier : List ℕ) (marks : List Bool) (signer j : ℕ) → index_of v signer ≡ Some j → j < length marks
    → Marks v earlier marks → Marks v (earlier ++ signer ∷ []) (slice_set marks j true)
marks-more v earlier marks signer j at within before =
    record { at = λ m i there. mark_at v earlier marks signer j m i (signer == m) refl at within there (before.at m i there) }

no_mark : (n i : ℕ) → get_or (replicate n false) i false ≡ false
no_mark zero i = refl
no_mark (suc n) zero = refl
no_mark (suc n) (suc i) = no_mark n i

-- there are no marks at first
pub marks-none : (v : View) → Marks v [] (replicate 31 false)
marks-none v = record { at = λ m i there. no_mark 31 i }
