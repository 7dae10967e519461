-- Where the first space of a line stands.
use Rattle.std.proofs.Common.{◌≡◌, ℕ, ◌+◌, ◌-◌, ◌<◌, ◌≤◌, suc, List, [], ◌∷◌, take, drop, length, Bool, true, false, Some, None, cond, refl, ◌∙◌, ap, add-one, arith}
use Rattle.std.specs.Prelude.{◌==◌}
use Rattle.std.specs.List.{count_by}
use Rattle.std.proofs.lemmas.List.{drop_all}
use Rattle.std.proofs.lemmas.List.Sums.{sum_by-cons}
use Rattle.world_rules.specs.Scripts.{words_in, with_byte, behind_space, behind_spaces}
use Rattle.world_script.proofs.Signs.{gap, place, gap_here, gap_later, found_at, found_nowhere}

words_step : (b : ℕ) (bs : List ℕ) (t : Bool) → (b == 32) ≡ t → (gap 32 bs < length bs → words_in bs ≡ take (gap 32 bs) bs ∷ words_in (drop (suc (gap 32 bs)) bs))
    → gap 32 (b ∷ bs) < length (b ∷ bs) → words_in (b ∷ bs) ≡ take (gap 32 (b ∷ bs)) (b ∷ bs) ∷ words_in (drop (suc (gap 32 (b ∷ bs))) (b ∷ bs))
words_step b bs true e more lt = rw (gap_here 32 b bs e, e) refl
words_step b bs false e more lt = rw (gap_later 32 b bs e, e, more (omega (arith, gap_later 32 b bs e))) refl

-- a space parts the first word from others
words_at : (bytes : List ℕ) → gap 32 bytes < length bytes → words_in bytes ≡ take (gap 32 bytes) bytes ∷ words_in (drop (suc (gap 32 bytes)) bytes)
words_at [] lt = absurd (omega arith)
words_at (b ∷ bs) lt = words_step b bs (b == 32) refl (words_at bs) lt

alone_step : (b : ℕ) (bs : List ℕ) (t : Bool) → (b == 32) ≡ t → (length bs ≤ gap 32 bs → words_in bs ≡ bs ∷ [])
    → length (b ∷ bs) ≤ gap 32 (b ∷ bs) → words_in (b ∷ bs) ≡ (b ∷ bs) ∷ []
alone_step b bs true e more le = absurd (omega (arith, gap_here 32 b bs e))
alone_step b bs false e more le = rw (e, more (omega (arith, gap_later 32 b bs e))) refl

-- with no space there is one word
alone_at : (bytes : List ℕ) → length bytes ≤ gap 32 bytes → words_in bytes ≡ bytes ∷ []
alone_at [] le = refl
alone_at (b ∷ bs) le = alone_step b bs (b == 32) refl (alone_at bs) le

behind_step : (b : ℕ) (bs : List ℕ) (t : Bool) → (b == 32) ≡ t → behind_space bs ≡ drop (suc (gap 32 bs)) bs → behind_space (b ∷ bs) ≡ drop (suc (gap 32 (b ∷ bs))) (b ∷ bs)
behind_step b bs true e more = rw (gap_here 32 b bs e, e) refl
behind_step b bs false e more = rw (gap_later 32 b bs e, e, more) refl

behind_at : (bytes : List ℕ) → behind_space bytes ≡ drop (suc (gap 32 bytes)) bytes
behind_at [] = refl
behind_at (b ∷ bs) = behind_step b bs (b == 32) refl (behind_at bs)

pub first_word : (bytes : List ℕ) (i : ℕ) → place 32 bytes ≡ Some i → words_in bytes ≡ take i bytes ∷ words_in (drop (i + 1) bytes)
first_word bytes i e =
    let f = found_at 32 bytes i e in
    rw (add-one, ← f.1) (words_at bytes f.0)

pub only_word : (bytes : List ℕ) → place 32 bytes ≡ None → words_in bytes ≡ bytes ∷ []
only_word bytes e = alone_at bytes (found_nowhere 32 bytes e)

pub behind_first : (bytes : List ℕ) (i : ℕ) → place 32 bytes ≡ Some i → behind_space bytes ≡ drop (i + 1) bytes
behind_first bytes i e =
    let f = found_at 32 bytes i e in
    rw (add-one, ← f.1) (behind_at bytes)

pub behind_none : (bytes : List ℕ) → place 32 bytes ≡ None → behind_space bytes ≡ []
behind_none bytes e =
    let le : length bytes ≤ suc (gap 32 bytes) = omega (arith, found_nowhere 32 bytes e) in
    behind_at bytes ∙ drop_all (suc (gap 32 bytes)) bytes le

abbrev spaces : List ℕ → ℕ
spaces bytes = count_by (λ b. b == 32) bytes

length-with_byte : (b : ℕ) (words : List (List ℕ)) → 0 < length words → length (with_byte b words) ≡ length words
length-with_byte b [] some = absurd (omega arith)
length-with_byte b (word ∷ words) some = refl

word_ends : (b : ℕ) (bs : List ℕ) → (b == 32) ≡ true → length (words_in (b ∷ bs)) ≡ suc (length (words_in bs))
word_ends b bs e = rw e refl

word_goes_on : (b : ℕ) (bs : List ℕ) → (b == 32) ≡ false → words_in (b ∷ bs) ≡ with_byte b (words_in bs)
word_goes_on b bs e = rw e refl

spaces_more : (b : ℕ) (bs : List ℕ) (t : Bool) → (b == 32) ≡ t → spaces (b ∷ bs) ≡ cond t 1 0 + spaces bs
spaces_more b bs t e = sum_by-cons (λ x. cond (x == 32) 1 0) b bs ∙ ap (λ v. cond v 1 0 + spaces bs) e

count_step : (b : ℕ) (bs : List ℕ) (t : Bool) → (b == 32) ≡ t → length (words_in bs) ≡ spaces bs + 1 → length (words_in (b ∷ bs)) ≡ spaces (b ∷ bs) + 1
count_step b bs true e more = omega (arith, more, word_ends b bs e, spaces_more b bs true e)
count_step b bs false e more =
    ap length (word_goes_on b bs e) ∙ omega (arith, more, length-with_byte b (words_in bs) (omega (arith, more)), spaces_more b bs false e)

-- each space has a word in front of it, and one stands behind the last
pub words_counted : (bytes : List ℕ) → length (words_in bytes) ≡ spaces bytes + 1
words_counted [] = refl
words_counted (b ∷ bs) = count_step b bs (b == 32) refl (words_counted bs)

-- one space less is left
pub spaces_left : (count i : ℕ) (bytes : List ℕ) → i < count → behind_spaces (count - i) bytes ≡ behind_spaces (count - (i + 1)) (behind_space bytes)
spaces_left count i bytes lt = let e : count - i ≡ suc (count - (i + 1)) = omega arith in rw e refl
