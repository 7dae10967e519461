-- The faults of signed statements, followed one by one.
use Rattle.std.proofs.Common.{◌≡◌, ℕ, zero, suc, ◌+◌, ◌<◌, ◌≤◌, nat_le, Bool, true, false, List, [], ◌∷◌, ◌++◌, length, get_or, take, drop, refl, sym, ◌∙◌, ap, arith}
use Rattle.std.specs.Prelude.{Option, Some, None, Ok, Err}
use Rattle.std.proofs.lemmas.Grind.{common_steps}
use Rattle.std.proofs.lemmas.List.{map_more}
use Rattle.smart_base.specs.Lists.{or_else}
use Rattle.smart_base.specs.Views.{View}
use Rattle.smart_statements.specs.Forms.{SignedBy}
use Rattle.certificates.specs.Certificates.{signers, signer_fault, fault_behind, first_fault, passed}
use Rattle.certificates.specs.declared.fault.CertFault.{CertFault}
use Rattle.certificates.specs.declared.fault.CertFault.TheVariants.{TooFew}

pub passed_ok : (found : Option CertFault) → Ok tt ≡ passed found → found ≡ None
passed_ok None is = refl
passed_ok (Some fault) is = absurd (cc)

pub passed_err : (found : Option CertFault) (fault : CertFault) → Err fault ≡ passed found → found ≡ Some fault
passed_err None fault is = absurd (cc)
passed_err (Some other) fault is = cc

pub drop_here : {A : Type 0} (xs : List A) (i : ℕ) (d : A) → i < length xs → drop i xs ≡ get_or xs i d ∷ drop (i + 1) xs
drop_here [] i d within = absurd (omega arith)
drop_here (x ∷ xs) zero d within = refl
drop_here (x ∷ xs) (suc i) d within = let e : suc (i + 1) ≡ suc i + 1 = omega arith in drop_here xs i d (omega arith) ∙ ap (λ k. get_or xs i d ∷ drop k (x ∷ xs)) e

-- what is still told of items from an index on, behind the signers before
abbrev pub left : {S : Type 0} → View → (SignedBy S → Option CertFault) → List (SignedBy S) → ℕ → Option CertFault
left v fault_of items i = fault_behind v fault_of (signers (take i items)) (drop i items)

at_index : {S : Type 0} (v : View) (fault_of : SignedBy S → Option CertFault) (items : List (SignedBy S)) (i : ℕ) (item : SignedBy S) → i < length items → item ≡ get_or items i item
    → left v fault_of items i
    ≡ or_else (signer_fault v (signers (take i items)) item.signer) (or_else (fault_of item) (left v fault_of items (i + 1)))
at_index {S} v fault_of items i item within is =
    let earlier = signers (take i items) in
    let rest : drop i items ≡ item ∷ drop (i + 1) items = drop_here items i item within ∙ ap (λ (x : SignedBy S). x ∷ drop (i + 1) items) (sym is) in
    let more : earlier ++ item.signer ∷ [] ≡ signers (take (i + 1) items) =
    ap (λ (x : SignedBy S). earlier ++ x.signer ∷ []) is ∙ sym (map_more (λ (x : SignedBy S). x.signer) items i item within) in
    ap (fault_behind v fault_of earlier) rest
    ∙ ap (λ (es : List ℕ). or_else (signer_fault v earlier item.signer) (or_else (fault_of item) (fault_behind v fault_of es (drop (i + 1) items)))) more

pub signers-more : {S : Type 0} (items : List (SignedBy S)) (i : ℕ) (item : SignedBy S) → i < length items → item ≡ get_or items i item
    → signers (take (i + 1) items) ≡ signers (take i items) ++ item.signer ∷ []
signers-more {S} items i item within is =
    map_more (λ (x : SignedBy S). x.signer) items i item within ∙ ap (λ (x : SignedBy S). signers (take i items) ++ x.signer ∷ []) (sym is)

pub goes-on : {S : Type 0} (v : View) (fault_of : SignedBy S → Option CertFault) (items : List (SignedBy S)) (i : ℕ) (item : SignedBy S) → i < length items → item ≡ get_or items i item
    → signer_fault v (signers (take i items)) item.signer ≡ None → fault_of item ≡ None
    → left v fault_of items i ≡ left v fault_of items (i + 1)
goes-on v fault_of items i item within is signed stated = at_index v fault_of items i item within is ∙ rw (signed, stated) refl

pub found-first : {S : Type 0} (v : View) (fault_of : SignedBy S → Option CertFault) (are_enough : Bool) (items : List (SignedBy S)) (fault : CertFault)
    → fault_behind v fault_of [] items ≡ Some fault → first_fault v fault_of are_enough items ≡ Some fault
unfolding first_fault
found-first v fault_of are_enough items fault is = rw is refl

pub signer-ends : {S : Type 0} (v : View) (fault_of : SignedBy S → Option CertFault) (are_enough : Bool) (items : List (SignedBy S)) (i : ℕ) (item : SignedBy S) (fault : CertFault)
    → i < length items → item ≡ get_or items i item → left v fault_of items i ≡ left v fault_of items 0
    → signer_fault v (signers (take i items)) item.signer ≡ Some fault → first_fault v fault_of are_enough items ≡ Some fault
signer-ends v fault_of are_enough items i item fault within is same found =
    found-first v fault_of are_enough items fault (sym same ∙ (at_index v fault_of items i item within is ∙ rw found refl))

pub item-ends : {S : Type 0} (v : View) (fault_of : SignedBy S → Option CertFault) (are_enough : Bool) (items : List (SignedBy S)) (i : ℕ) (item : SignedBy S) (fault : CertFault)
    → i < length items → item ≡ get_or items i item → left v fault_of items i ≡ left v fault_of items 0
    → signer_fault v (signers (take i items)) item.signer ≡ None → fault_of item ≡ Some fault → first_fault v fault_of are_enough items ≡ Some fault
item-ends v fault_of are_enough items i item fault within is same signed found =
    found-first v fault_of are_enough items fault (sym same ∙ (at_index v fault_of items i item within is ∙ rw (signed, found) refl))

pub nothing_left : {A : Type 0} (xs : List A) (i : ℕ) → length xs ≤ i → drop i xs ≡ []
nothing_left [] zero past = refl
nothing_left [] (suc i) past = refl
nothing_left (x ∷ xs) zero past = absurd (omega arith)
nothing_left (x ∷ xs) (suc i) past = nothing_left xs i (omega arith)

none_behind : {S : Type 0} (v : View) (fault_of : SignedBy S → Option CertFault) (items : List (SignedBy S)) (i : ℕ) → length items ≤ i
    → left v fault_of items i ≡ left v fault_of items 0 → fault_behind v fault_of [] items ≡ None
none_behind v fault_of items i past same = sym same ∙ ap (fault_behind v fault_of (signers (take i items))) (nothing_left items i past)

reaches : (q n : ℕ) → q ≤ n → nat_le q n ≡ true
reaches q n at_least = grind (arith, common_steps)

misses : (q n : ℕ) → n < q → nat_le q n ≡ false
misses q n below = grind (arith, common_steps)

pub too-few : {S : Type 0} (v : View) (fault_of : SignedBy S → Option CertFault) (enough : ℕ) (items : List (SignedBy S)) (i : ℕ) → length items ≤ i
    → left v fault_of items i ≡ left v fault_of items 0 → length items < enough → first_fault v fault_of (nat_le enough (length items)) items ≡ Some TooFew
unfolding first_fault
too-few v fault_of enough items i past same below = rw (none_behind v fault_of items i past same, misses enough (length items) below) refl

pub no-fault : {S : Type 0} (v : View) (fault_of : SignedBy S → Option CertFault) (enough : ℕ) (items : List (SignedBy S)) (i : ℕ) → length items ≤ i
    → left v fault_of items i ≡ left v fault_of items 0 → enough ≤ length items → first_fault v fault_of (nat_le enough (length items)) items ≡ None
unfolding first_fault
no-fault v fault_of enough items i past same many = rw (none_behind v fault_of items i past same, reaches enough (length items) many) refl
