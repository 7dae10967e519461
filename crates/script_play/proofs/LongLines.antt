-- A line that is too long has no meaning: whatever follows, the same is wrong with it.
use Rattle.std.proofs.Common.{◌≡◌, ◌<◌, ◌≤◌, zero, suc, take, ◌==◌, ◌∙◌, ℕ, Bool, true, false, ◌&&◌, nat_le, List, [], ◌∷◌, ◌++◌, length, refl, ap, sym, cond, arith, subst, Option, Some, None, is_some}
use Rattle.std.specs.Prelude.{not, if◌then◌else◌, Err}
use Rattle.std.specs.List.{list_all}
use Rattle.std.proofs.lemmas.Bool.{lt-leb}
use Rattle.std.proofs.lemmas.List.{append_assoc, append-nil, length-append}
use Rattle.world_rules.specs.Scripts.{is_printed, is_short, line_of}
use Rattle.world_rules.specs.declared.line.Kind.{Kind}
use Rattle.world_rules.specs.declared.line.Kind.TheVariants as kinds
use Rattle.script_play.specs.declared.status.Refusal.TheVariants as refusals
use Rattle.script_play.specs.Apps.{Courses}
use Rattle.script_play.specs.declared.app.AppPlay.{AppPlay}
use Rattle.script_play.specs.Readings.{Reading, unread, refusing, closed_by, closed_of, closing_by, closing_of, whole_lines, rest_of, last_line, script_lines, line_done, told_done, taken_at, told_at, is_full, line_taken, line_told, reading_after, told_after}
use Rattle.script_play.proofs.ReadingLaws.{chosen_true, after-append, told-append, after-refused, told_after-refused, whole-append, rest-append}
use Rattle.agreement_laws.proofs.Lists.{either, either_by}

-- a line of more than 65,536 bytes
abbrev pub IsLong : List ℕ → Type 0
IsLong l = 65536 < length l

-- it is not short
not-short : (l : List ℕ) → IsLong l → not (is_short l) ≡ true
not-short l long = ap not (lt-leb (length l) 65536 long)

-- what is wrong with it first
abbrev pub long_kind : List ℕ → Kind
long_kind l = if not (is_printed l) then kinds.Byte else kinds.Long

-- a choice by what is wrong
by_kind : {A : Type 0} (f : Kind → A) (t s : Bool) (rest : A) → s ≡ true → cond t (f kinds.Byte) (cond s (f kinds.Long) rest) ≡ f (cond t kinds.Byte kinds.Long)
by_kind f true s rest is = refl
by_kind f false s rest is = chosen_true s _ _ is

-- so it has no meaning
no-meaning : (l : List ℕ) → IsLong l → line_of l ≡ Err (long_kind l)
unfolding line_of
no-meaning l long = by_kind (λ kind. Err kind) (not (is_printed l)) (not (is_short l)) _ (not-short l long)

-- it is refused where it stands
refused-at : (courses : Courses) (r : Reading) (l : List ℕ) (play : Option AppPlay) → IsLong l
    → taken_at courses r l play ≡ refusing (closed_of r play) (refusals.Script (long_kind l))
refused-at courses r l None long = by_kind (λ kind. refusing (closed_by r r.group r.app) (refusals.Script kind)) (not (is_printed l)) (not (is_short l)) _ (not-short l long)
refused-at courses r l (Some p) long = ap (λ line. line_done courses r p line) (no-meaning l long)

-- there it tells no more than a header that ends before it
told-at : (courses : Courses) (r : Reading) (l : List ℕ) (play : Option AppPlay) → IsLong l → told_at courses r l play ≡ closing_of r play
told-at courses r l None long =
    either (λ told. told ≡ closing_by r.group r.app) (not (is_printed l)) _ _ refl (chosen_true (not (is_short l)) _ _ (not-short l long))
told-at courses r l (Some p) long = ap (λ line. told_done courses p line) (no-meaning l long)

-- a script behind it
pub long-taken : (courses : Courses) (r : Reading) (l : List ℕ) → IsLong l
    → line_taken courses r l
    ≡ (if is_some r.refused then r else if is_full r then refusing (closed_of r r.play) refusals.Limit else refusing (closed_of r r.play) (refusals.Script (long_kind l)))
unfolding line_taken
long-taken courses r l long = ap (λ q. cond (is_some r.refused) r (cond (is_full r) (refusing (closed_of r r.play) refusals.Limit) q)) (refused-at courses r l r.play long)

-- it tells no more than a header that ends before it
pub long-told : (courses : Courses) (r : Reading) (l : List ℕ) → IsLong l → line_told courses r l ≡ (if is_some r.refused then [] else closing_of r r.play)
unfolding line_told
long-told courses r l long =
    ap (λ told. cond (is_some r.refused) [] told) (either (λ told. told ≡ closing_of r r.play) (is_full r) _ _ refl (told-at courses r l r.play long))

-- it is refused
pub long-refused : (courses : Courses) (r : Reading) (l : List ℕ) → IsLong l → is_some (line_taken courses r l).refused ≡ true
long-refused courses r l long =
    subst (λ (q : Reading). is_some q.refused ≡ true) (sym (long-taken courses r l long))
    (either_by (λ (q : Reading). is_some q.refused ≡ true) (is_some r.refused) _ _ (λ is. is)
    (λ going. either (λ (q : Reading). is_some q.refused ≡ true) (is_full r) _ _ refl refl))

-- what is wrong with it rests on its first 65,537 bytes
kind-alike : (k l : List ℕ) → take 65537 k ≡ take 65537 l → long_kind k ≡ long_kind l
kind-alike k l same = ap (λ xs. cond (not (list_all (λ b. nat_le 32 b && nat_le b 126) xs)) kinds.Byte kinds.Long) same

-- all such lines that begin alike leave a script alike
pub long-alike : (courses : Courses) (r : Reading) (k l : List ℕ) → IsLong k → IsLong l → take 65537 k ≡ take 65537 l
    → line_taken courses r k ≡ line_taken courses r l
long-alike courses r k l long_k long_l same =
    long-taken courses r k long_k
    ∙ (ap (λ kind. cond (is_some r.refused) r (cond (is_full r) (refusing (closed_of r r.play) refusals.Limit) (refusing (closed_of r r.play) (refusals.Script kind)))) (kind-alike k l same) ∙ sym (long-taken courses r l long_l))

-- lines whose last one is too long read as those with another such line in its place that begins alike, and more behind it
pub long-read : (courses : Courses) (ls more : List (List ℕ)) (k l : List ℕ) → IsLong k → IsLong l → take 65537 l ≡ take 65537 k
    → reading_after courses unread (ls ++ l ∷ more) ≡ reading_after courses unread (ls ++ k ∷ [])
long-read courses ls more k l long_k long_l same =
    let r = reading_after courses unread ls in
    after-append courses unread ls (l ∷ more)
    ∙ (after-refused courses (line_taken courses r l) more (long-refused courses r l long_l)
    ∙ (long-alike courses r l k long_l long_k same ∙ sym (after-append courses unread ls (k ∷ []))))

-- they tell what those tell with any other such line in its place
pub long-tells : (courses : Courses) (ls more : List (List ℕ)) (k l : List ℕ) → IsLong k → IsLong l
    → told_after courses unread (ls ++ l ∷ more) ≡ told_after courses unread (ls ++ k ∷ [])
long-tells courses ls more k l long_k long_l =
    let r = reading_after courses unread ls in
    told-append courses unread ls (l ∷ more)
    ∙ (ap (λ told. told_after courses unread ls ++ (line_told courses r l ++ told)) (told_after-refused courses (line_taken courses r l) more (long-refused courses r l long_l))
    ∙ (ap (λ told. told_after courses unread ls ++ (told ++ [])) (long-told courses r l long_l ∙ sym (long-told courses r k long_k))
    ∙ sym (told-append courses unread ls (k ∷ []))))

-- the lines that a line which has begun goes on to, by whether the next byte ends it
lines_step : (t : Bool) (line : List ℕ) (b : ℕ) (ys : List ℕ) (a c : List (List ℕ)) (e : List ℕ) → ((x : List ℕ) × (more : List (List ℕ)) × (c ++ last_line e ≡ ((line ++ b ∷ []) ++ x) ∷ more))
    → (x : List ℕ) × (more : List (List ℕ)) × (cond t (line ∷ a) c ++ last_line (cond t (rest_of [] ys) e) ≡ (line ++ x) ∷ more)
lines_step true line b ys a c e further = ([], a ++ last_line (rest_of [] ys), ap (λ l. l ∷ (a ++ last_line (rest_of [] ys))) (sym (append-nil line)))
lines_step false line b ys a c e further = (b ∷ further.0, further.1, further.2 ∙ ap (λ l. l ∷ further.1) (append_assoc line (b ∷ []) further.0))

-- a line that has begun goes on to the first of the lines behind it
pub lines-go_on : (line ys : List ℕ) → 0 < length line → (x : List ℕ) × (more : List (List ℕ)) × (whole_lines line ys ++ last_line (rest_of line ys) ≡ (line ++ x) ∷ more)
lines-go_on [] [] some = absurd (omega (arith, some))
lines-go_on (b ∷ line) [] some = ([], [], ap (λ l. l ∷ []) (sym (append-nil (b ∷ line))))
lines-go_on line (b ∷ ys) some =
    lines_step (b == 10) line b ys (whole_lines [] ys) (whole_lines (line ++ b ∷ []) ys) (rest_of (line ++ b ∷ []) ys)
    (lines-go_on (line ++ b ∷ []) ys (omega (arith, length-append line (b ∷ []))))

-- the lines of an input go on with the line that its front has begun
pub lines-behind : (xs ys : List ℕ) → 0 < length (rest_of [] xs) → (x : List ℕ) × (more : List (List ℕ)) × (script_lines (xs ++ ys) ≡ whole_lines [] xs ++ (rest_of [] xs ++ x) ∷ more)
lines-behind xs ys some =
    let on = lines-go_on (rest_of [] xs) ys some in (
      on.0,
      on.1,
      ap (λ ls. ls ++ last_line (rest_of [] (xs ++ ys))) (whole-append [] xs ys)
          ∙ (append_assoc (whole_lines [] xs) (whole_lines (rest_of [] xs) ys) (last_line (rest_of [] (xs ++ ys)))
          ∙ ap (λ ls. whole_lines [] xs ++ ls) (ap (λ rest. whole_lines (rest_of [] xs) ys ++ last_line rest) (rest-append [] xs ys) ∙ on.2)),
    )

-- a line that is too long stays so
pub long-more : (l x : List ℕ) → IsLong l → IsLong (l ++ x)
long-more l x long = omega (arith, long, length-append l x)

-- a front of a list is one of the list with more behind it
take-front : (n : ℕ) (xs ys : List ℕ) → n ≤ length xs → take n (xs ++ ys) ≡ take n xs
take-front zero xs ys le = refl
take-front (suc n) [] ys le = absurd (omega (arith, le))
take-front (suc n) (x ∷ xs) ys le = ap (λ zs. x ∷ zs) (take-front n xs ys (omega (arith, le)))

-- and it begins as it did
pub long-front : (l x : List ℕ) → IsLong l → take 65537 (l ++ x) ≡ take 65537 l
long-front l x long = take-front 65537 l x (omega (arith, long))
