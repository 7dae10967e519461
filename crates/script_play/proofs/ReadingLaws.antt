-- How readings, lines and texts of more bytes follow from those of fewer.
use Rattle.std.proofs.Common.{◌≡◌, ℕ, zero, suc, Bool, true, false, ◌==◌, List, [], ◌∷◌, ◌++◌, take, refl, ap, sym, ◌∙◌, cond, is_some, eq-eqb}
use Rattle.std.specs.Prelude.{if◌then◌else◌}
use Rattle.std.proofs.lemmas.List.{append_assoc}
use Rattle.std.proofs.lemmas.Grind.{flat_map-append}
use Rattle.world_rules.specs.Texts.{line_text, text_of}
use Rattle.world_rules.specs.declared.line.OutLine.{OutLine}
use Rattle.script_play.specs.Apps.{Courses}
use Rattle.script_play.specs.Readings.{Reading, whole_lines, rest_of, last_line, script_lines, line_taken, line_told, reading_after, told_after}

-- the branch that is taken
pub chosen_true : {A : Type 0} (t : Bool) (x y : A) → t ≡ true → cond t x y ≡ x
chosen_true true x y is = refl
chosen_true false x y is = absurd (cc)

-- the other branch
pub chosen_false : {A : Type 0} (t : Bool) (x y : A) → t ≡ false → cond t x y ≡ y
chosen_false true x y is = absurd (cc)
chosen_false false x y is = refl

-- more lines are read behind the first ones
pub after-append : (courses : Courses) (r : Reading) (xs ys : List (List ℕ))
    → reading_after courses r (xs ++ ys) ≡ reading_after courses (reading_after courses r xs) ys
after-append courses r [] ys = refl
after-append courses r (l ∷ xs) ys = after-append courses (line_taken courses r l) xs ys

-- what more lines tell comes behind what the first ones tell
pub told-append : (courses : Courses) (r : Reading) (xs ys : List (List ℕ))
    → told_after courses r (xs ++ ys) ≡ told_after courses r xs ++ told_after courses (reading_after courses r xs) ys
told-append courses r [] ys = refl
told-append courses r (l ∷ xs) ys =
    ap (λ more. line_told courses r l ++ more) (told-append courses (line_taken courses r l) xs ys)
    ∙ sym (append_assoc (line_told courses r l) (told_after courses (line_taken courses r l) xs) (told_after courses (reading_after courses (line_taken courses r l) xs) ys))

-- nothing is read behind a line that is refused

-- a line behind it changes nothing
pub taken-refused : (courses : Courses) (r : Reading) (l : List ℕ) → is_some r.refused ≡ true → line_taken courses r l ≡ r
unfolding line_taken
taken-refused courses r l refused = chosen_true (is_some r.refused) _ _ refused

-- a line behind it tells nothing
pub told-refused : (courses : Courses) (r : Reading) (l : List ℕ) → is_some r.refused ≡ true → line_told courses r l ≡ []
unfolding line_told
told-refused courses r l refused = chosen_true (is_some r.refused) _ _ refused

-- lines behind it change nothing
pub after-refused : (courses : Courses) (r : Reading) (ls : List (List ℕ)) → is_some r.refused ≡ true → reading_after courses r ls ≡ r
after-refused courses r [] refused = refl
after-refused courses r (l ∷ ls) refused = ap (λ q. reading_after courses q ls) (taken-refused courses r l refused) ∙ after-refused courses r ls refused

-- lines behind it tell nothing
pub told_after-refused : (courses : Courses) (r : Reading) (ls : List (List ℕ)) → is_some r.refused ≡ true → told_after courses r ls ≡ []
told_after-refused courses r [] refused = refl
told_after-refused courses r (l ∷ ls) refused =
    ap (λ told. told ++ told_after courses (line_taken courses r l) ls) (told-refused courses r l refused)
    ∙ (ap (λ q. told_after courses q ls) (taken-refused courses r l refused) ∙ told_after-refused courses r ls refused)

-- lines of bytes

-- the lines of more bytes, by whether the first byte ends its line
whole_step : (t : Bool) (line : List ℕ) (a b c d : List (List ℕ)) (e f ys : List ℕ) → a ≡ c ++ whole_lines e ys → b ≡ d ++ whole_lines f ys
    → cond t (line ∷ a) b ≡ cond t (line ∷ c) d ++ whole_lines (cond t e f) ys
whole_step true line a b c d e f ys ended further = ap (λ ls. line ∷ ls) ended
whole_step false line a b c d e f ys ended further = further

-- the lines of more bytes come behind the first lines, and the first of them begins with what stood behind those
pub whole-append : (line xs ys : List ℕ) → whole_lines line (xs ++ ys) ≡ whole_lines line xs ++ whole_lines (rest_of line xs) ys
whole-append line [] ys = refl
whole-append line (b ∷ xs) ys =
    whole_step (b == 10) line (whole_lines [] (xs ++ ys)) (whole_lines (line ++ b ∷ []) (xs ++ ys)) (whole_lines [] xs) (whole_lines (line ++ b ∷ []) xs)
    (rest_of [] xs) (rest_of (line ++ b ∷ []) xs) ys (whole-append [] xs ys) (whole-append (line ++ b ∷ []) xs ys)

-- what stands behind the last line feed of more bytes, by whether the first byte ends its line
rest_step : (t : Bool) (a b c d ys : List ℕ) → a ≡ rest_of c ys → b ≡ rest_of d ys → cond t a b ≡ rest_of (cond t c d) ys
rest_step true a b c d ys ended further = ended
rest_step false a b c d ys ended further = further

-- what stands behind the last line feed of more bytes begins with what stood behind that of the first ones
pub rest-append : (line xs ys : List ℕ) → rest_of line (xs ++ ys) ≡ rest_of (rest_of line xs) ys
rest-append line [] ys = refl
rest-append line (b ∷ xs) ys =
    rest_step (b == 10) (rest_of [] (xs ++ ys)) (rest_of (line ++ b ∷ []) (xs ++ ys)) (rest_of [] xs) (rest_of (line ++ b ∷ []) xs) ys
    (rest-append [] xs ys) (rest-append (line ++ b ∷ []) xs ys)

-- one more byte

-- a list with one more value or none
one_more : {A : Type 0} (t : Bool) (xs : List A) (x : A) → xs ++ cond t (x ∷ []) [] ≡ cond t (xs ++ x ∷ []) xs
one_more true xs x = refl
one_more false [] x = refl
one_more false (y ∷ xs) x = ap (λ ys. y ∷ ys) (one_more false xs x)

-- one more byte ends a line or adds none
pub whole-end : (line xs : List ℕ) (b : ℕ) → whole_lines line (xs ++ b ∷ []) ≡ (if b == 10 then whole_lines line xs ++ rest_of line xs ∷ [] else whole_lines line xs)
whole-end line xs b = whole-append line xs (b ∷ []) ∙ one_more (b == 10) (whole_lines line xs) (rest_of line xs)

-- one more byte begins a line or comes to the present one
pub rest-end : (line xs : List ℕ) (b : ℕ) → rest_of line (xs ++ b ∷ []) ≡ (if b == 10 then [] else rest_of line xs ++ b ∷ [])
rest-end line xs b = rest-append line xs (b ∷ [])

-- a line feed ends a line
pub whole-feed : (line xs : List ℕ) (b : ℕ) → b ≡ 10 → whole_lines line (xs ++ b ∷ []) ≡ whole_lines line xs ++ rest_of line xs ∷ []
whole-feed line xs b is = whole-end line xs b ∙ chosen_true (b == 10) _ _ (eq-eqb b 10 is)

-- another byte ends none
pub whole-more : (line xs : List ℕ) (b : ℕ) → (b == 10) ≡ false → whole_lines line (xs ++ b ∷ []) ≡ whole_lines line xs
whole-more line xs b is = whole-end line xs b ∙ chosen_false (b == 10) _ _ is

-- nothing stands behind a line feed
pub rest-feed : (line xs : List ℕ) (b : ℕ) → b ≡ 10 → rest_of line (xs ++ b ∷ []) ≡ []
rest-feed line xs b is = rest-end line xs b ∙ chosen_true (b == 10) _ _ (eq-eqb b 10 is)

-- another byte comes to the present line
pub rest-more : (line xs : List ℕ) (b : ℕ) → (b == 10) ≡ false → rest_of line (xs ++ b ∷ []) ≡ rest_of line xs ++ b ∷ []
rest-more line xs b is = rest-end line xs b ∙ chosen_false (b == 10) _ _ is

-- the lines of a longer input begin with the whole lines of its front
pub lines-front : (xs ys : List ℕ) → (more : List (List ℕ)) × (script_lines (xs ++ ys) ≡ whole_lines [] xs ++ more)
lines-front xs ys = (
  whole_lines (rest_of [] xs) ys ++ last_line (rest_of [] (xs ++ ys)),
  ap (λ ls. ls ++ last_line (rest_of [] (xs ++ ys))) (whole-append [] xs ys)
      ∙ append_assoc (whole_lines [] xs) (whole_lines (rest_of [] xs) ys) (last_line (rest_of [] (xs ++ ys))),
)

-- texts

-- the text of more lines comes behind that of the first ones
pub text-append : (xs ys : List OutLine) → text_of (xs ++ ys) ≡ text_of xs ++ text_of ys
text-append xs ys = flat_map-append line_text xs ys

-- a front of a list is one of the list with more behind it
pub front_of : (xs ys : List ℕ) (k : ℕ) → (j : ℕ) × (take j (xs ++ ys) ≡ take k xs)
front_of xs ys zero = (0, refl)
front_of [] ys (suc k) = (0, refl)
front_of (x ∷ xs) ys (suc k) = let tail = front_of xs ys k in (suc tail.0, ap (λ zs. x ∷ zs) tail.1)

-- a list and a front of what comes next is a front of all
pub front_behind : (xs ys zs : List ℕ) (k : ℕ) → (j : ℕ) × (take j (xs ++ (ys ++ zs)) ≡ xs ++ take k ys)
front_behind [] ys zs k = front_of ys zs k
front_behind (x ∷ xs) ys zs k = let tail = front_behind xs ys zs k in (suc tail.0, ap (λ rest. x ∷ rest) tail.1)
