-- The places after which members take their checkpoints, and which every node marks.
use Rattle.std.specs.Prelude.{◌≡◌, ℕ, zero, suc, ◌+◌, ◌*◌, ◌/◌, ◌%◌, ◌<◌, ◌==◌, Bool, true, false, ◌||◌, length}
use Rattle.smart_base.specs.Views.{View}

-- How far into each period the turn of the member at an index comes: the members share a period of places evenly.
abbrev pub turn_of : View → ℕ → ℕ → ℕ
turn_of v period index = index * (period / length v.members)

-- the member at an index takes its checkpoint after a place
abbrev pub is_checkpoint_of : View → ℕ → ℕ → ℕ → Bool
is_checkpoint_of v period index place = place % period == turn_of v period index

-- one of the first `count` members takes its checkpoint after a place
abbrev pub is_mark_of_first : View → ℕ → ℕ → ℕ → Bool
is_mark_of_first v period place zero = false
is_mark_of_first v period place (suc count) = is_checkpoint_of v period count place || is_mark_of_first v period place count

-- some member takes its checkpoint after a place: every node marks it
abbrev pub is_mark : View → ℕ → ℕ → Bool
is_mark v period place = is_mark_of_first v period place (length v.members)

-- A member takes its checkpoint after a place.
pub record IsCheckpointOfSome (v : View) (period place : ℕ) : Type 0 where
  pub index : ℕ
  pub is_member : index < length v.members
  pub is_its : is_checkpoint_of v period index place ≡ true

-- the place after which the member at an index takes its checkpoint in a period; periods are counted from 0
abbrev pub checkpoint_in : View → ℕ → ℕ → ℕ → ℕ
checkpoint_in v period count index = count * period + turn_of v period index
