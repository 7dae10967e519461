-- The lines that are left behind each line.
use Rattle.std.proofs.Common.{◌≡◌, ℕ, suc, ◌-◌, ◌%◌, ◌==◌, ◌||◌, Bool, true, false, cond, List, [], ◌∷◌, ◌++◌, refl, ap, arith}
use Rattle.std.proofs.lemmas.Bool.{eqb-true}
use Rattle.load_maker.specs.Loads.{drawn, asker, amount, crasher, crash_lines, last_drawn, asks_left, load_lines}
use Rattle.load_maker.specs.Turns.{behind_ask, behind_flow, lines_left}
use Rattle.load_maker.specs.declared.line.LoadLine.{LoadLine}
use Rattle.load_maker.specs.declared.line.LoadLine.TheVariants as lines
use Rattle.load_maker.specs.declared.script.Turn.TheVariants as turns

pub whole : (n : ℕ) → lines_left n n n turns.Group ≡ load_lines n
unfolding lines_left
whole n = refl

-- ---- lines that always have the same line behind them

pub group_left : (n more x : ℕ) → lines_left n more x turns.Group ≡ lines.Group ∷ lines_left n more x turns.App
unfolding lines_left
group_left n more x = refl

pub app_left : (n more x : ℕ) → lines_left n more x turns.App ≡ lines.App ∷ lines_left n more x turns.Period
unfolding lines_left
app_left n more x = refl

pub period_left : (n more x : ℕ) → lines_left n more x turns.Period ≡ lines.Period ∷ lines_left n more x turns.Ask
unfolding lines_left
period_left n more x = refl

pub crash_left : (n more x : ℕ) → lines_left n more x turns.Crash ≡ lines.Crash (crasher (drawn x)) ∷ lines_left n more (drawn x) turns.Restart
unfolding lines_left
crash_left n more x = refl

pub restart_left : (n more x : ℕ) → lines_left n more x turns.Restart ≡ lines.Restart (crasher x) ∷ lines_left n more x turns.Ask
unfolding lines_left
restart_left n more x = refl

-- ---- behind a flow

behind_flow_by : (n more x i : ℕ) (crash : Bool) → (i % 64 == 0) ≡ crash → i ≡ n - more
    → cond crash (lines.Crash (crasher (drawn x)) ∷ lines.Restart (crasher (drawn x)) ∷ []) [] ++ asks_left n more (cond crash (drawn x) x)
    ≡ lines_left n more x (cond crash turns.Crash turns.Ask)
unfolding lines_left
behind_flow_by n more x i true is at = refl
behind_flow_by n more x i false is at = refl

pub flow_left : (n more x : ℕ) → lines_left n more x turns.Flow ≡ lines.Flow ∷ lines_left n more x (behind_flow (n - more))
unfolding lines_left
flow_left n more x = ap (λ (rest : List LoadLine). lines.Flow ∷ rest) (behind_flow_by n more x (n - more) ((n - more) % 64 == 0) refl refl)

-- ---- behind an ask

-- where no messages flow nobody crashes
still : (i : ℕ) (crash last : Bool) → (i % 64 == 0) ≡ crash → (i % 8 == 0 || last) ≡ false → crash ≡ false
still i false last is none = refl
still i true last is none =
    let zero_64 : i % 64 ≡ 0 = eqb-true (i % 64) 0 is in
    let zero_8 : i % 8 ≡ 0 = omega (arith, zero_64) in
    absurd cc (zero_8, none)

behind_ask_by : (n more x i : ℕ) (flow : Bool) → (i % 8 == 0 || i == n) ≡ flow → i ≡ n - more
    → (cond flow (lines.Flow ∷ []) [] ++ crash_lines i (drawn x)) ++ asks_left n more (last_drawn i x)
    ≡ lines_left n more x (cond flow turns.Flow turns.Ask)
unfolding lines_left
behind_ask_by n more x i true is at = rw at refl
behind_ask_by n more x i false is at = rw (still i (i % 64 == 0) (i == n) refl is) refl

pub ask_left : (n more less x : ℕ) → more ≡ suc less
    → lines_left n more x turns.Ask ≡ lines.Ask (asker (n - less)) (amount (drawn x)) ∷ lines_left n less (drawn x) (behind_ask n (n - less))
unfolding lines_left
ask_left n more less x is =
    rw is (ap (λ (rest : List LoadLine). lines.Ask (asker (n - less)) (amount (drawn x)) ∷ rest)
    (behind_ask_by n less (drawn x) (n - less) ((n - less) % 8 == 0 || n - less == n) refl refl))

-- ---- nothing is left

pub none_left : (n more x : ℕ) → more ≡ 0 → lines_left n more x turns.Ask ≡ []
unfolding lines_left
none_left n more x is = rw is refl
