-- The messages that leave are the first of those held, and the rest stays.
use Rattle.std.proofs.Common.{◌≡◌, ℕ, ◌≤◌, nat_le, Bool, true, false, List, [], ◌∷◌, refl, ap, sym, ◌∙◌, cond, arith, take, drop, length}
use Rattle.node_rules.specs.Steps.{leaving, staying}
use Rattle.node_rules.specs.declared.node.Held.{Held}

take_next : (test : Bool) (firm : ℕ) (h : Held) (hs : List Held) → take (length (leaving firm hs)) hs ≡ leaving firm hs
    → take (length (cond test (h ∷ leaving firm hs) [])) (h ∷ hs) ≡ cond test (h ∷ leaving firm hs) []
take_next true firm h hs is = ap (λ xs. h ∷ xs) is
take_next false firm h hs is = refl

pub take_leaving : (firm : ℕ) (held : List Held) → take (length (leaving firm held)) held ≡ leaving firm held
take_leaving firm [] = refl
take_leaving firm (h ∷ hs) = take_next (nat_le h.needs firm) firm h hs (take_leaving firm hs)

drop_next : (test : Bool) (firm : ℕ) (h : Held) (hs : List Held) → drop (length (leaving firm hs)) hs ≡ staying firm hs
    → drop (length (cond test (h ∷ leaving firm hs) [])) (h ∷ hs) ≡ cond test (staying firm hs) (h ∷ hs)
drop_next true firm h hs is = is
drop_next false firm h hs is = refl

pub drop_leaving : (firm : ℕ) (held : List Held) → drop (length (leaving firm held)) held ≡ staying firm held
drop_leaving firm [] = refl
drop_leaving firm (h ∷ hs) = drop_next (nat_le h.needs firm) firm h hs (drop_leaving firm hs)

pub none_leaving : (firm : ℕ) (held : List Held) → length (leaving firm held) ≡ 0 → leaving firm held ≡ []
none_leaving firm held none = sym (take_leaving firm held) ∙ ap (λ n. take n held) none

pub all_staying : (firm : ℕ) (held : List Held) → length (leaving firm held) ≡ 0 → staying firm held ≡ held
all_staying firm held none = sym (drop_leaving firm held) ∙ ap (λ n. drop n held) none

few_next : (test : Bool) (firm : ℕ) (h : Held) (hs : List Held) → length (leaving firm hs) ≤ length hs → length (cond test (h ∷ leaving firm hs) []) ≤ length (h ∷ hs)
few_next true firm h hs few = omega (arith, few)
few_next false firm h hs few = omega arith

pub few_leaving : (firm : ℕ) (held : List Held) → length (leaving firm held) ≤ length held
few_leaving firm [] = omega arith
few_leaving firm (h ∷ hs) = few_next (nat_le h.needs firm) firm h hs (few_leaving firm hs)
