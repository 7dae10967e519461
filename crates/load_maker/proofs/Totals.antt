-- What stands in the lines of a load, counted by weights.
use Rattle.std.proofs.Common.{◌≡◌, ℕ, zero, suc, ◌+◌, ◌-◌, ◌/◌, ◌%◌, ◌*◌, ◌<◌, ◌≤◌, ◌==◌, ◌||◌, Bool, true, false, cond, List, [], ◌∷◌, ◌++◌, length, refl, sym, ◌∙◌, arith}
use Rattle.std.specs.List.{sum_by, count_by}
use Rattle.std.proofs.lemmas.Bool.{eqb-true, eqb-false, ne_eqb, eq-eqb}
use Rattle.std.proofs.lemmas.List.{length-map}
use Rattle.std.proofs.lemmas.List.Sums.{sum_by-cons, sum_by-append}
use Rattle.smart_base.specs.Lists.{Each}
use Rattle.load_maker.specs.Loads.{drawn, asker, amount, crasher, flow_lines, crash_lines, ask_lines, last_drawn, asks_left, load_lines, line_text, load_script}
use Rattle.load_maker.specs.Kinds.{is_ask, is_flow, is_crash, is_restart, IsInRange}
use Rattle.load_maker.specs.declared.line.LoadLine.{LoadLine}
use Rattle.load_maker.specs.declared.line.LoadLine.TheVariants as lines

-- What each line weighs: an ask, a flow, a crash and its restart together.
record Weighs (f : LoadLine → ℕ) (ask flow crash : ℕ) : Type 0 where
  pub of_ask : (client number : ℕ) → f (lines.Ask client number) ≡ ask
  pub of_flow : f lines.Flow ≡ flow
  pub of_crash : (member : ℕ) → f (lines.Crash member) + f (lines.Restart member) ≡ crash

-- the weight of the last `more` asks of n
abbrev weight : ℕ → ℕ → ℕ → ℕ → ℕ → ℕ
weight ask flow crash n zero = 0
weight ask flow crash n (suc more) =
    ask + (cond ((n - more) % 8 == 0 || n - more == n) flow 0 + cond ((n - more) % 64 == 0) crash 0) + weight ask flow crash n more

flow_weighs : (f : LoadLine → ℕ) (ask flow crash : ℕ) → Weighs f ask flow crash → (due : Bool)
    → sum_by f (cond due (lines.Flow ∷ []) []) ≡ cond due flow 0
flow_weighs f ask flow crash w true = omega (arith, w.of_flow)
flow_weighs f ask flow crash w false = refl

crash_weighs : (f : LoadLine → ℕ) (ask flow crash : ℕ) → Weighs f ask flow crash → (member : ℕ) (due : Bool)
    → sum_by f (cond due (lines.Crash member ∷ lines.Restart member ∷ []) []) ≡ cond due crash 0
crash_weighs f ask flow crash w member true = omega (arith, w.of_crash member)
crash_weighs f ask flow crash w member false = refl

weighed : (f : LoadLine → ℕ) (ask flow crash : ℕ) → Weighs f ask flow crash → (n more x : ℕ)
    → sum_by f (asks_left n more x) ≡ weight ask flow crash n more
weighed f ask flow crash w n zero x = refl
weighed f ask flow crash w n (suc more) x =
    let i = n - more in
    let y = drawn x in
    let flows = flow_lines n i in
    let crashes = crash_lines i (drawn y) in
    let a = sum_by-append f (ask_lines n i y) (asks_left n more (last_drawn i y)) in
    let b = sum_by-cons f (lines.Ask (asker i) (amount y)) (flows ++ crashes) in
    let c = sum_by-append f flows crashes in
    let d = flow_weighs f ask flow crash w (i % 8 == 0 || i == n) in
    let e = crash_weighs f ask flow crash w (crasher (drawn y)) (i % 64 == 0) in
    let g = w.of_ask (asker i) (amount y) in
    let rest = weighed f ask flow crash w n more (last_drawn i y) in
    omega (arith, a, b, c, d, e, g, rest)

-- ---- the weights of the kinds, in closed form

asks_step : (flow crash : Bool) (more rest : ℕ) → rest ≡ more → 1 + (cond flow 0 0 + cond crash 0 0) + rest ≡ suc more
asks_step true true more rest is = omega arith
asks_step true false more rest is = omega arith
asks_step false true more rest is = omega arith
asks_step false false more rest is = omega arith

all_asks : (n more : ℕ) → weight 1 0 0 n more ≡ more
all_asks n zero = refl
all_asks n (suc more) =
    asks_step ((n - more) % 8 == 0 || n - more == n) ((n - more) % 64 == 0) more (weight 1 0 0 n more) (all_asks n more)

crashes_step : (flow crash : Bool) (i rest total : ℕ) → (i % 64 == 0) ≡ crash → 0 < i → rest + i / 64 ≡ total
    → 0 + (cond flow 0 0 + cond crash 1 0) + rest + (i - 1) / 64 ≡ total
crashes_step true true i rest total is some so_far = let z = eqb-true (i % 64) 0 is in omega (arith, z)
crashes_step false true i rest total is some so_far = let z = eqb-true (i % 64) 0 is in omega (arith, z)
crashes_step true false i rest total is some so_far = let z = eqb-false (i % 64) 0 is in omega (arith, z)
crashes_step false false i rest total is some so_far = let z = eqb-false (i % 64) 0 is in omega (arith, z)

before : (n more : ℕ) → n - suc more ≡ n - more - 1
before n more = omega arith

all_crashes : (n more : ℕ) → more ≤ n → weight 0 0 1 n more + (n - more) / 64 ≡ n / 64
all_crashes n zero le = omega arith
all_crashes n (suc more) le =
    rw (before n more)
    (crashes_step ((n - more) % 8 == 0 || n - more == n) ((n - more) % 64 == 0) (n - more) (weight 0 0 1 n more) (n / 64) refl (omega arith)
    (all_crashes n more (omega arith)))

either_first : (first second : Bool) → (first || second) ≡ true → second ≡ false → first ≡ true
either_first true second is none = refl
either_first false second is none = absurd cc

either_last : (first second : Bool) → (first || second) ≡ false → second ≡ false
either_last true second is = absurd cc
either_last false second is = is

neither_first : (first second : Bool) → (first || second) ≡ false → first ≡ false
neither_first true second is = absurd cc
neither_first false second is = refl

flows_step : (flow crash : Bool) (n i rest total : ℕ) → (i % 8 == 0 || i == n) ≡ flow → 0 < i → i < n → rest + i / 8 ≡ total
    → 0 + (cond flow 1 0 + cond crash 0 0) + rest + (i - 1) / 8 ≡ total
flows_step true true n i rest total is some lt so_far =
    let z = eqb-true (i % 8) 0 (either_first (i % 8 == 0) (i == n) is (ne_eqb i n (λ e. omega (arith, e)))) in omega (arith, z)
flows_step true false n i rest total is some lt so_far =
    let z = eqb-true (i % 8) 0 (either_first (i % 8 == 0) (i == n) is (ne_eqb i n (λ e. omega (arith, e)))) in omega (arith, z)
flows_step false true n i rest total is some lt so_far =
    let z = eqb-false (i % 8) 0 (neither_first (i % 8 == 0) (i == n) is) in omega (arith, z)
flows_step false false n i rest total is some lt so_far =
    let z = eqb-false (i % 8) 0 (neither_first (i % 8 == 0) (i == n) is) in omega (arith, z)

-- the last ask has a flow
last_flow : (flow crash : Bool) (n : ℕ) → (n % 8 == 0 || n == n) ≡ flow → 0 < n → 0 + (cond flow 1 0 + cond crash 0 0) + 0 + (n - 1) / 8 ≡ (n + 7) / 8
last_flow true true n is some = omega arith
last_flow true false n is some = omega arith
last_flow false true n is some = absurd cc (either_last (n % 8 == 0) (n == n) is, eq-eqb n n refl)
last_flow false false n is some = absurd cc (either_last (n % 8 == 0) (n == n) is, eq-eqb n n refl)

all_flows : (n more : ℕ) → more < n → weight 0 1 0 n (suc more) + (n - suc more) / 8 ≡ (n + 7) / 8
all_flows n zero lt =
    let whole : n - 0 ≡ n = omega arith in
    let less : n - suc 0 ≡ n - 1 = refl in
    rw (less, whole) (last_flow (n % 8 == 0 || n == n) (n % 64 == 0) n refl (omega arith))
all_flows n (suc more) lt =
    rw (before n (suc more))
    (flows_step ((n - suc more) % 8 == 0 || n - suc more == n) ((n - suc more) % 64 == 0) n (n - suc more) (weight 0 1 0 n (suc more))
    ((n + 7) / 8) refl (omega arith) (omega arith) (all_flows n more (omega arith)))

flows_of : (n : ℕ) → weight 0 1 0 n n ≡ (n + 7) / 8
flows_of zero = refl
flows_of (suc n) = let e = all_flows (suc n) n (omega arith) in omega (arith, e)

crashes_of : (n : ℕ) → weight 0 0 1 n n ≡ n / 64
crashes_of n = let e = all_crashes n n (omega arith) in omega (arith, e)

sum_step : (flow crash : Bool) (asks flows crashes all : ℕ) → all ≡ asks + flows + 2 * crashes
    → 1 + (cond flow 1 0 + cond crash 2 0) + all
    ≡ (1 + (cond flow 0 0 + cond crash 0 0) + asks) + (0 + (cond flow 1 0 + cond crash 0 0) + flows)
    + 2 * (0 + (cond flow 0 0 + cond crash 1 0) + crashes)
sum_step true true asks flows crashes all is = omega arith
sum_step true false asks flows crashes all is = omega arith
sum_step false true asks flows crashes all is = omega arith
sum_step false false asks flows crashes all is = omega arith

all_lines : (n more : ℕ) → weight 1 1 2 n more ≡ weight 1 0 0 n more + weight 0 1 0 n more + 2 * weight 0 0 1 n more
all_lines n zero = refl
all_lines n (suc more) =
    sum_step ((n - more) % 8 == 0 || n - more == n) ((n - more) % 64 == 0) (weight 1 0 0 n more) (weight 0 1 0 n more) (weight 0 0 1 n more)
    (weight 1 1 2 n more) (all_lines n more)

-- ---- the counts of a load

pub asks_in : (n : ℕ) → count_by is_ask (load_lines n) ≡ n
asks_in n =
    weighed (λ line. cond (is_ask line) 1 0) 1 0 0 (record { of_ask = λ client number. refl; of_flow = refl; of_crash = λ member. refl }) n n n
    ∙ all_asks n n

pub flows_in : (n : ℕ) → count_by is_flow (load_lines n) ≡ (n + 7) / 8
flows_in n =
    weighed (λ line. cond (is_flow line) 1 0) 0 1 0 (record { of_ask = λ client number. refl; of_flow = refl; of_crash = λ member. refl }) n n n
    ∙ flows_of n

pub crashes_in : (n : ℕ) → count_by is_crash (load_lines n) ≡ n / 64
crashes_in n =
    weighed (λ line. cond (is_crash line) 1 0) 0 0 1 (record { of_ask = λ client number. refl; of_flow = refl; of_crash = λ member. refl }) n n n
    ∙ crashes_of n

pub restarts_in : (n : ℕ) → count_by is_restart (load_lines n) ≡ n / 64
restarts_in n =
    weighed (λ line. cond (is_restart line) 1 0) 0 0 1 (record { of_ask = λ client number. refl; of_flow = refl; of_crash = λ member. refl }) n n n
    ∙ crashes_of n

ones : (xs : List LoadLine) → sum_by (λ line. 1) xs ≡ length xs
ones [] = refl
ones (x ∷ xs) = sum_by-cons (λ line. 1) x xs ∙ (let e = ones xs in omega (arith, e))

pub lines_in : (n : ℕ) → length (load_script n) ≡ 3 + n + (n + 7) / 8 + 2 * (n / 64)
lines_in n =
    let a = length-map (load_lines n) line_text in
    let b = sym (ones (asks_left n n n)) in
    let c = weighed (λ line. 1) 1 1 2 (record { of_ask = λ client number. refl; of_flow = refl; of_crash = λ member. refl }) n n n in
    let d = all_lines n n in
    let e = all_asks n n in
    let f = flows_of n in
    let g = crashes_of n in
    omega (arith, a, b, c, d, e, f, g)

-- ---- the ranges

each-append : (xs ys : List LoadLine) → Each IsInRange xs → Each IsInRange ys → Each IsInRange (xs ++ ys)
each-append [] ys first second = second
each-append (x ∷ xs) ys first second = (first.0, each-append xs ys first.1 second)

flow_ranges : (due : Bool) → Each IsInRange (cond due (lines.Flow ∷ []) [])
flow_ranges true = (tt, tt)
flow_ranges false = tt

crash_ranges : (due : Bool) (x : ℕ) → Each IsInRange (cond due (lines.Crash (crasher x) ∷ lines.Restart (crasher x) ∷ []) [])
crash_ranges true x = ((omega arith, omega arith), ((omega arith, omega arith), tt))
crash_ranges false x = tt

asks_ranges : (n more x : ℕ) → Each IsInRange (asks_left n more x)
asks_ranges n zero x = tt
asks_ranges n (suc more) x =
    let i = n - more in
    let y = drawn x in
    each-append (ask_lines n i y) (asks_left n more (last_drawn i y)) (
      ((omega arith, omega arith), (omega arith, omega arith)),
      each-append (flow_lines n i) (crash_lines i (drawn y)) (flow_ranges (i % 8 == 0 || i == n)) (crash_ranges (i % 64 == 0) (drawn y)),
    )
    (asks_ranges n more (last_drawn i y))

pub ranges : (n : ℕ) → Each IsInRange (load_lines n)
ranges n = (tt, (tt, (tt, asks_ranges n n n)))
