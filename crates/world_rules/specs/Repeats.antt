-- Repetition of steps.
use Rattle.std.specs.Prelude.{ℕ, zero, suc, ◌+◌, ◌-◌, ◌^◌}

-- the result of a function applied k times
unfoldable pub repeated : {A : Type 0} → (A → A) → ℕ → A → A
repeated f zero x = x
repeated f (suc k) x = repeated f k (f x)

-- the most turns of a repetition: 2^64 - 1
unfoldable pub turns : ℕ
turns = 2 ^ 64 - 1

-- the result of a function applied 2^64 - 1 times; if it comes to rest within these turns, the value at rest
unfoldable pub until_rest : {A : Type 0} → (A → A) → A → A
until_rest f x = repeated f turns x

-- the result of a function applied at `count` numbers from i on, ascending
unfoldable pub each_from : {A : Type 0} → (ℕ → A → A) → ℕ → ℕ → A → A
each_from f zero i x = x
each_from f (suc count) i x = each_from f count (i + 1) (f i x)
