-- What the bytes of a slot stand for: a gate of 1, a generation that uses this slot, and a whole snapshot.
use Rattle.std.specs.Prelude.{◌≡◌, ◌≤◌, ◌<◌, ◌%◌, ℕ, Bool, true, false, not, cond, ◌&&◌, ◌==◌, nat_lt, List, [], ◌∷◌, ◌++◌, drop, Option, Some, None, Result, Ok, Err}
use Rattle.smart_base.specs.Cuts.{Cut}
use Rattle.disk_model.specs.Cells.{Cells, IsImage}
use Rattle.store_form.specs.Spelling.{IsCheckpoint, checkpoint_text}
use Rattle.store_form.specs.Reading.{all_of, checkpoint_at}
use Rattle.store_form.specs.declared.checkpoint.Checkpoint.{Checkpoint}

-- an odd generation; the odd ones use one slot, the even ones the other
abbrev pub is_odd : ℕ → Bool
is_odd g = (g % 2) == 1

abbrev pub same : Bool → Bool → Bool
same true b = b
same false b = not b

-- a checkpoint, if its generation uses this slot
abbrev pub uses : Bool → Checkpoint → Option Checkpoint
uses odd x = cond (nat_lt 0 x.generation && same odd (is_odd x.generation)) (Some x) None

abbrev pub counted : Bool → Result (Checkpoint × Cut) ℕ → Option Checkpoint
counted odd (Ok x) = uses odd x.0
counted odd (Err at) = None

-- the checkpoint of a slot, if it counts
abbrev pub slot_of : Bool → List ℕ → Option Checkpoint
slot_of odd [] = None
slot_of odd (gate ∷ rest) = cond (gate == 1) (counted odd (checkpoint_at (all_of rest))) None

-- the checkpoint that a slot would have with a gate of 1
abbrev pub by_gate : Bool → List ℕ → Option Checkpoint
by_gate odd bytes = slot_of odd (1 ∷ drop 1 bytes)

-- The checkpoint that a slot has instead after a crash has changed its gate, if that is not closed. If the slot counts, it is the slot's own.
abbrev pub instead_of : Bool → List ℕ → Option Checkpoint
instead_of odd [] = None
instead_of odd (gate ∷ rest) = cond (gate == 0) None (slot_of odd (1 ∷ rest))

abbrev pub newer : Option Checkpoint → Option Checkpoint → Option Checkpoint
newer None y = y
newer (Some x) None = Some x
newer (Some x) (Some y) = cond (nat_lt x.generation y.generation) (Some y) (Some x)

-- the checkpoint that the bytes of two slots restore, if there is one
abbrev pub newest : List ℕ → List ℕ → Option Checkpoint
newest even odd = newer (slot_of false even) (slot_of true odd)

-- the generation of a checkpoint; 0 if there is none
abbrev pub generation_of : Option Checkpoint → ℕ
generation_of None = 0
generation_of (Some x) = x.generation

-- a checkpoint that a slot may have
pub record Fits (p : Checkpoint) : Type 0 where
  pub some : 0 < p.generation
  pub spelled : IsCheckpoint p

-- a property of whatever a crash now leaves
abbrev pub InEachImage : Cells → (List ℕ → Type 0) → Type 0
InEachImage cells P = (image : List ℕ) → IsImage cells image → P image

-- bytes whose first byte is there and 0
pub record IsClosed (bytes : List ℕ) : Type 0 where
  pub rest : List ℕ
  pub are : bytes ≡ 0 ∷ rest

-- bytes with a whole checkpoint of this generation after a closed gate
pub record IsReady (generation : ℕ) (bytes : List ℕ) : Type 0 where
  pub checkpoint : Checkpoint
  pub of : checkpoint.generation ≡ generation
  pub fits : Fits checkpoint
  pub rest : List ℕ
  pub are : bytes ≡ 0 ∷ (checkpoint_text checkpoint ++ rest)

-- a checkpoint of no greater generation, if there is one
abbrev pub NoneAbove : ℕ → Option Checkpoint → Type 0
NoneAbove generation None = Unit {0}
NoneAbove generation (Some x) = x.generation ≤ generation
