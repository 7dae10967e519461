-- What releases one after another give and leave.
use Rattle.std.proofs.Common.{◌≡◌, ℕ, zero, suc, nat_le, Bool, true, false, List, [], ◌∷◌, ◌++◌, refl, ap, sym, ◌∙◌, cond, length, Some, None}
use Rattle.std.proofs.lemmas.Bool.{leb-true, leb-false}
use Rattle.std.specs.Prelude.{option_to_list}
use Rattle.node_rules.specs.Steps.{first_leaving, after_first, leaving, staying}
use Rattle.node_rules.specs.declared.node.Held.{Held}
use Rattle.outbox.specs.Releases.{given, left_by, IsLongestFront}

-- none leaves where the first waits
first_none : (test : Bool) (h : Held) (rest hs : List Held) → cond test (Some h) None ≡ None → cond test (h ∷ rest) [] ≡ []
first_none true h rest hs none = absurd (cc)
first_none false h rest hs none = refl

first_stays : (test : Bool) (h : Held) (rest hs : List Held) → cond test (Some h) None ≡ None → cond test rest (h ∷ hs) ≡ h ∷ hs
first_stays true h rest hs none = absurd (cc)
first_stays false h rest hs none = refl

none_leaving : (firm : ℕ) (held : List Held) → first_leaving firm held ≡ None → leaving firm held ≡ []
none_leaving firm [] none = refl
none_leaving firm (h ∷ hs) none = first_none (nat_le h.needs firm) h (leaving firm hs) hs none

all_staying : (firm : ℕ) (held : List Held) → first_leaving firm held ≡ None → staying firm held ≡ held
all_staying firm [] none = refl
all_staying firm (h ∷ hs) none = first_stays (nat_le h.needs firm) h (staying firm hs) hs none

-- one release, and then the others
leaving_on : (test : Bool) (firm : ℕ) (h : Held) (hs : List Held) → nat_le h.needs firm ≡ test
    → option_to_list (cond test (Some h) None) ++ leaving firm (cond test hs (h ∷ hs)) ≡ cond test (h ∷ leaving firm hs) []
leaving_on true firm h hs is = refl
leaving_on false firm h hs is = rw is refl

staying_on : (test : Bool) (firm : ℕ) (h : Held) (hs : List Held) → nat_le h.needs firm ≡ test
    → staying firm (cond test hs (h ∷ hs)) ≡ cond test (staying firm hs) (h ∷ hs)
staying_on true firm h hs is = refl
staying_on false firm h hs is = rw is refl

leaving_step : (firm : ℕ) (held : List Held) → option_to_list (first_leaving firm held) ++ leaving firm (after_first firm held) ≡ leaving firm held
leaving_step firm [] = refl
leaving_step firm (h ∷ hs) = leaving_on (nat_le h.needs firm) firm h hs refl

staying_step : (firm : ℕ) (held : List Held) → staying firm (after_first firm held) ≡ staying firm held
staying_step firm [] = refl
staying_step firm (h ∷ hs) = staying_on (nat_le h.needs firm) firm h hs refl

pub given_all : (firm count : ℕ) (held : List Held) → first_leaving firm (left_by firm count held) ≡ None → given firm count held ≡ leaving firm held
given_all firm zero held none = sym (none_leaving firm held none)
given_all firm (suc count) held none =
    ap (λ rest. option_to_list (first_leaving firm held) ++ rest) (given_all firm count (after_first firm held) none) ∙ leaving_step firm held

pub left_all : (firm count : ℕ) (held : List Held) → first_leaving firm (left_by firm count held) ≡ None → left_by firm count held ≡ staying firm held
left_all firm zero held none = sym (all_staying firm held none)
left_all firm (suc count) held none = left_all firm count (after_first firm held) none ∙ staying_step firm held

-- as many releases as messages are enough
kept_waits : (firm count : ℕ) (h : Held) (hs : List Held) → nat_le h.needs firm ≡ false → left_by firm count (h ∷ hs) ≡ h ∷ hs
kept_waits firm zero h hs waits = refl
kept_waits firm (suc count) h hs waits = rw waits (kept_waits firm count h hs waits)

ends_on : (test : Bool) (firm : ℕ) (h : Held) (hs : List Held) → nat_le h.needs firm ≡ test → first_leaving firm (left_by firm (length hs) hs) ≡ None
    → first_leaving firm (left_by firm (length hs) (cond test hs (h ∷ hs))) ≡ None
ends_on true firm h hs is none = none
ends_on false firm h hs is none = rw (kept_waits firm (length hs) h hs is, is) refl

pub ends_all : (firm : ℕ) (held : List Held) → first_leaving firm (left_by firm (length held) held) ≡ None
ends_all firm [] = refl
ends_all firm (h ∷ hs) = ends_on (nat_le h.needs firm) firm h hs refl (ends_all firm hs)

-- the longest front
longest_on : (test : Bool) (firm : ℕ) (h : Held) (hs : List Held) → nat_le h.needs firm ≡ test → IsLongestFront firm hs (leaving firm hs) (staying firm hs)
    → IsLongestFront firm (h ∷ hs) (cond test (h ∷ leaving firm hs) []) (cond test (staying firm hs) (h ∷ hs))
longest_on true firm h hs is rest = record {
  whole = ap (λ xs. h ∷ xs) rest.whole;
  ready = (leb-true h.needs firm is, rest.ready);
  longest = rest.longest;
}
longest_on false firm h hs is rest = record { whole = refl; ready = tt; longest = leb-false h.needs firm is }

pub longest_all : (firm : ℕ) (held : List Held) → IsLongestFront firm held (leaving firm held) (staying firm held)
longest_all firm [] = record { whole = refl; ready = tt; longest = tt }
longest_all firm (h ∷ hs) = longest_on (nat_le h.needs firm) firm h hs refl (longest_all firm hs)
