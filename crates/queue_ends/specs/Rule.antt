-- What was put into a queue is what was taken from it and then what it holds. One pass at most may put, and it knows all that was put; one at most may take, and it knows all
-- that was taken. What else a pass knows of either is a front of it.
use Rattle.std.specs.Prelude.{◌≡◌, ℕ, Bool, true, false, List, ◌++◌, ◌≤◌, ◌^◌, length, take}
use mathlib.Core.Option.{some}
use lib.ListN.{get_elem?}
use Rattle.queue_ends.specs.declared.rule.Known.{Known}

module _ {T : Type 0} where
  -- the first list begins the second
  abbrev pub IsFront : List T → List T → Type 0
  IsFront front whole = take (length front) whole ≡ front

  abbrev pub known : Bool → Bool → List T → List T → Known T
  known may_put may_take put taken = record { puts = may_put; takes = may_take; put = put; taken = taken }

  -- the pass that puts, the one that takes, and one that only tells what it knows
  abbrev pub putting : List T → List T → Known T
  putting = known true false

  abbrev pub taking : List T → List T → Known T
  taking = known false true

  abbrev pub telling : List T → List T → Known T
  telling = known false false

  -- what a pass knows fits what was put, by the pass `putter`, and taken, by the pass `taker`
  pub record Fits (putter taker : ℕ) (put taken : List T) (pass : ℕ) (v : Known T) : Type 0 where
    pub all_put : v.puts ≡ true → (pass ≡ putter) × (v.put ≡ put)
    pub all_taken : v.takes ≡ true → (pass ≡ taker) × (v.taken ≡ taken)
    pub front_put : IsFront v.put put
    pub front_taken : IsFront v.taken taken

  pub record IsInOrder (items : List T) (views : List (Known T)) : Type 0 where
    pub putter : ℕ
    pub taker : ℕ
    pub put : List T
    pub taken : List T
    pub order : put ≡ taken ++ items
    pub few : length put ≤ 2 ^ 62
    pub fits : (pass : ℕ) (v : Known T) → get_elem? views pass ≡ some v → Fits putter taker put taken pass v
