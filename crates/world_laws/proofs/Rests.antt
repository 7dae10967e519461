-- What is repeated until it rests.
use Rattle.std.proofs.Common.{◌≡◌, ℕ, zero, suc, ◌+◌, ◌-◌, ◌≤◌, refl, ap, ◌∙◌, arith}
use Rattle.world_rules.specs.Repeats.{repeated, turns, until_rest}

-- where f changes nothing, no number of turns does
pub repeated_idle : {A : Type 0} (f : A → A) (k : ℕ) (x : A) → f x ≡ x → repeated f k x ≡ x
unfolding repeated
repeated_idle f zero x idle = refl
repeated_idle f (suc k) x idle = ap (repeated f k) idle ∙ repeated_idle f k x idle

-- turns, and then more turns
pub repeated_more : {A : Type 0} (f : A → A) (k j : ℕ) (x : A) → repeated f (k + j) x ≡ repeated f j (repeated f k x)
unfolding repeated
repeated_more f zero j x =
    let none : zero + j ≡ j = omega arith in
    ap (λ n. repeated f n x) none
repeated_more f (suc k) j x =
    let one_more : suc k + j ≡ suc (k + j) = omega arith in
    ap (λ n. repeated f n x) one_more ∙ repeated_more f k j (f x)

-- what rests already is the result
pub rest_is_kept : {A : Type 0} (f : A → A) (x : A) → f x ≡ x → until_rest f x ≡ x
unfolding until_rest
rest_is_kept f x idle = repeated_idle f turns x idle

-- what rests after a number of turns up to 2 ^ 64 - 1 is the result
pub rest_is_reached : {A : Type 0} (f : A → A) (k : ℕ) (x : A) → k ≤ turns → f (repeated f k x) ≡ repeated f k x → until_rest f x ≡ repeated f k x
unfolding until_rest
rest_is_reached f k x within idle =
    let all : turns ≡ k + (turns - k) = omega arith in
    ap (λ n. repeated f n x) all ∙ (repeated_more f k (turns - k) x ∙ repeated_idle f (turns - k) (repeated f k x) idle)
