-- Numbers that words are, each in the range that stands at its place.
use Rattle.std.proofs.Common.{◌≡◌, ℕ, ◌+◌, ◌<◌, ◌≤◌, List, [], ◌∷◌, length, get_or, take, drop, set, Bool, true, false, Option, Some, None, refl, ◌∙◌, sym, ap, arith}
use Rattle.std.specs.Prelude.{◌&&◌, nat_le, if◌then◌else◌}
use Rattle.std.proofs.lemmas.List.{append-nil, take_all, drop_all, drop_more, take_more_set, drop-drop}
use Rattle.std.proofs.lemmas.Bool.Decides.{nat_tests}
use Rattle.smart_base.specs.Decimals.{number_of}
use Rattle.world_rules.specs.Scripts.{Range, range, in_range, number_in, numbers_in, with_value}
use Rattle.world_script.specs.Words.{Within}
use Rattle.world_script.proofs.Values.{behind_values, one_more}

-- no word is left for the next range
pub no_word : (numbers : List ℕ) (ranges : List Range) (i : ℕ) (words : List (List ℕ)) → i < length ranges → words ≡ [] → behind_values numbers (numbers_in (drop i ranges) words) ≡ None
no_word numbers ranges i words lt e = rw (drop_more ranges i (range 0 0) lt, e) refl

-- the next word is a number of its range
pub next_number : (numbers : List ℕ) (ranges : List Range) (i n : ℕ) (d : Range) (word : List ℕ) (words more : List (List ℕ)) → i < length numbers → i < length ranges
    → words ≡ word ∷ more → number_in (get_or ranges i d).least (get_or ranges i d).most word ≡ Some n
    → behind_values (take (i + 1) (set numbers i n)) (numbers_in (drop (i + 1) ranges) more) ≡ behind_values (take i numbers) (numbers_in (drop i ranges) words)
next_number numbers ranges i n d word words more room lt e is =
    rw (drop_more ranges i d lt, e, is, take_more_set numbers i n room) (one_more (take i numbers) n (numbers_in (drop (i + 1) ranges) more))

-- all ranges have a number
pub all_read : (numbers : List ℕ) (ranges : List Range) (i : ℕ) (words : List (List ℕ)) → length numbers ≤ i → length ranges ≤ i
    → behind_values (take i numbers) (numbers_in (drop i ranges) words) ≡ Some numbers
all_read numbers ranges i words full none = rw (take_all i numbers full, drop_all i ranges none) (ap Some (append-nil numbers))

-- what is left behind the next word
pub left_behind : (words left more : List (List ℕ)) (word : List ℕ) (i : ℕ) → left ≡ drop i words → left ≡ word ∷ more → more ≡ drop (i + 1) words
left_behind words left more word i e is = let f = ap (λ (ws : List (List ℕ)). drop 1 ws) (sym is ∙ e) in f ∙ drop-drop 1 i words

within_step : (least most n x : ℕ) (t : Bool) → (nat_le least n && nat_le n most) ≡ t → if t then Some n else None ≡ Some x → x ≤ most
within_step least most n x true e is = grind (arith, nat_tests)
within_step least most n x false e is = absurd (cc)

within_range : (least most x : ℕ) (n : Option ℕ) → in_range least most n ≡ Some x → x ≤ most
within_range least most x None is = absurd (cc)
within_range least most x (Some n) is = within_step least most n x (nat_le least n && nat_le n most) refl is

-- a first number and further ones
pub record Parts (x : Option ℕ) (xs : Option (List ℕ)) (ns : List ℕ) : Type 0 where
  pub first : ℕ
  pub rest : List ℕ
  pub is_first : x ≡ Some first
  pub is_rest : xs ≡ Some rest
  pub are : ns ≡ first ∷ rest

pub parts : (x : Option ℕ) (xs : Option (List ℕ)) (ns : List ℕ) → with_value x xs ≡ Some ns → Parts x xs ns
parts None xs ns e = absurd (cc)
parts (Some x) None ns e = absurd (cc)
parts (Some x) (Some xs) ns e = record { first = x; rest = xs; is_first = refl; is_rest = refl; are = cc }

within_parts : (r : Range) (ranges : List Range) (ns : List ℕ) (n : ℕ) (more : List ℕ) → ns ≡ n ∷ more → n ≤ r.most → Within ranges more → Within (r ∷ ranges) ns
within_parts r ranges ns n more e le w = rw e (le, w)

-- numbers that are read are in their ranges
pub within : (ranges : List Range) (words : List (List ℕ)) (ns : List ℕ) → numbers_in ranges words ≡ Some ns → Within ranges ns
within [] words ns e = tt
within (r ∷ ranges) [] ns e = absurd (cc)
within (r ∷ ranges) (word ∷ words) ns e =
    let p = parts (number_in r.least r.most word) (numbers_in ranges words) ns e in
    within_parts r ranges ns p.first p.rest p.are (within_range r.least r.most p.first (number_of word) p.is_first) (within ranges words p.rest p.is_rest)
