-- The numbers of a proposal: those of its slot, and those of its requests.
use Rattle.std.proofs.Common.{◌≡◌, ℕ, ◌-◌, ◌^◌, ◌<◌, ◌≤◌, List, [], ◌∷◌, ◌++◌, length, drop, replicate, true, Option, Some, None, Ok, Err, lit<, refl, ◌∙◌, sym, ap, arith}
use Rattle.std.specs.Prelude.{◌&&◌, nat_le}
use Rattle.std.proofs.lemmas.List.{length-drop, drop_at, get_or_append_left}
use Rattle.std.proofs.lemmas.Bool.Decides.{nat_tests}
use Rattle.world_rules.specs.Scripts.{Range, number_in, numbers_in, with_value, each_word, of_slot, numbers_of_messages, nth, slot_in, propose_form}
use Rattle.world_rules.specs.declared.line.Injection.TheVariants.{Propose}
use Rattle.world_rules.specs.declared.line.Kind.TheVariants.{Number}
use Rattle.world_script.proofs.Values.{behind_values}
use Rattle.world_script.proofs.Ranges.{parts}

behind_nothing : (values : Option (List ℕ)) → values ≡ behind_values [] values
behind_nothing None = refl
behind_nothing (Some ns) = refl

behind_first : (n : ℕ) (ns : List ℕ) (values : Option (List ℕ)) → with_value (Some n) (behind_values ns values) ≡ behind_values (n ∷ ns) values
behind_first n ns None = refl
behind_first n ns (Some more) = refl

more_parts : (x : Option ℕ) (xs values : Option (List ℕ)) (n : ℕ) (rest ns : List ℕ) → x ≡ Some n → xs ≡ behind_values rest values → ns ≡ n ∷ rest → with_value x xs ≡ behind_values ns values
more_parts x xs values n rest ns is are e = rw (is, are, e) (behind_first n rest values)

-- numbers of first ranges, and those of further ones behind them
numbers_behind : (ranges further : List Range) (words : List (List ℕ)) (ns : List ℕ) → numbers_in ranges words ≡ Some ns
    → numbers_in (ranges ++ further) words ≡ behind_values ns (numbers_in further (drop (length ranges) words))
numbers_behind [] further words ns e = let empty : ns ≡ [] = cc in rw empty (behind_nothing (numbers_in further words))
numbers_behind (r ∷ ranges) further [] ns e = absurd (cc)
numbers_behind (r ∷ ranges) further (word ∷ words) ns e =
    let p = parts (number_in r.least r.most word) (numbers_in ranges words) ns e in
    more_parts (number_in r.least r.most word) (numbers_in (ranges ++ further) words) (numbers_in further (drop (length ranges) words)) p.first p.rest ns p.is_first
    (numbers_behind ranges further words p.rest p.is_rest) p.are

-- numbers that all have one range
numbers_alike : (r : Range) (words : List (List ℕ)) → numbers_in (replicate (length words) r) words ≡ each_word (number_in r.least r.most) words
numbers_alike r [] = refl
numbers_alike r (word ∷ words) = ap (λ values. with_value (number_in r.least r.most word) values) (numbers_alike r words)

all_numbers : (words : List (List ℕ)) (ns : List ℕ) → numbers_in of_slot words ≡ Some ns
    → numbers_in (of_slot ++ replicate (length words - 4) numbers_of_messages) words ≡ behind_values ns (each_word (number_in 1 (2 ^ 24)) (drop 4 words))
all_numbers words ns e =
    let l = length-drop 4 words in
    numbers_behind of_slot (replicate (length words - 4) numbers_of_messages) words ns e
    ∙ ap (behind_values ns) (ap (λ n. numbers_in (replicate n numbers_of_messages) (drop 4 words)) (sym l) ∙ numbers_alike numbers_of_messages (drop 4 words))

-- words behind those of the slot that are no numbers of messages
pub no_requests : (words : List (List ℕ)) (ns : List ℕ) → 5 ≤ length words → length words ≤ 68 → numbers_in of_slot words ≡ Some ns
    → each_word (number_in 1 (2 ^ 24)) (drop 4 words) ≡ None → propose_form words ≡ Err Number
no_requests words ns some few e none =
    let t : (nat_le 5 (length words) && nat_le (length words) 68) ≡ true = grind (arith, nat_tests) in
    rw (t, all_numbers words ns e, none) refl

-- what the numbers of a proposal make
pub proposed : (words : List (List ℕ)) (ns asks : List ℕ) → 5 ≤ length words → length words ≤ 68 → length ns ≡ 4 → numbers_in of_slot words ≡ Some ns
    → each_word (number_in 1 (2 ^ 24)) (drop 4 words) ≡ Some asks → propose_form words ≡ Ok (Propose (nth ns 0) (slot_in ns) asks)
proposed words ns asks some few long e are =
    let t : (nat_le 5 (length words) && nat_le (length words) 68) ≡ true = grind (arith, nat_tests) in
    let at = λ (i : ℕ) (lt : i < 4). let within : i < length ns = omega arith in get_or_append_left ns asks 0 i within in
    rw (t, all_numbers words ns e, are, drop_at ns asks 4 long, at 0 (lit< tt), at 1 (lit< tt), at 2 (lit< tt), at 3 (lit< tt)) refl
