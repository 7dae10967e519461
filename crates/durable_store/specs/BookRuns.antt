-- A store that is not asked to switch, over a run of calls: what it stands for, and what a crash leaves.
use Rattle.std.specs.Prelude.{◌≡◌, ◌≤◌, ◌⊎◌, ◌+◌, ℕ, min, Bool, List, ◌++◌, length, Option}
use Rattle.disk_model.specs.Cells.{IsSound}
use Rattle.store_form.specs.declared.checkpoint.Checkpoint.{Checkpoint}
use Rattle.store_laws.specs.Restored.{Images}
use Rattle.store_laws.specs.States.{Devices, StoreState, greatest, log_at, slot_at}
use Rattle.store_laws.specs.Lives.{StoreNext}
use Rattle.store_laws.specs.Stands.{Aim, IsOwn}
use Rattle.store_laws.specs.Books.{Books, IsFront}
use Rattle.store_laws.specs.Counts.{Counts}
use Rattle.store_laws.specs.declared.job.Kept.{Kept}

-- devices of which a crash may leave what they read as
pub record AreSound (d : Devices) : Type 0 where
  pub logs : (odd : Bool) → IsSound (log_at odd d)
  pub slots : (odd : Bool) → IsSound (slot_at odd d)

-- a front of the book, or what was at stake
abbrev pub IsFrontOr : List (List ℕ) → Option Checkpoint → Kept → Kept → Type 0
IsFrontOr book present stake x = IsFront book present x ⊎ (x ≡ stake)

-- A store that only crashes of its own lives have changed, and that keeps a front of its book. What it may restore instead is such a front,
-- too, or `stake`. Its log no longer has `gone` of the firm entries: none until a switch ends.
pub record HoldsBook (book : List (List ℕ)) (present : Option Checkpoint) (stake : Kept) (gone : ℕ) (s : StoreState) (a : Aim) : Type 0 where
  pub own : IsOwn s a
  pub books : Books book present s a
  pub counts : Counts gone s a
  pub sound : AreSound s.devices
  pub stake_is : IsFrontOr book present stake a.stake
  pub gated_is : IsFrontOr book present stake a.gated

-- Bytes with which the next life begins: it keeps `kept`, or `other` instead, and may restore no third thing.
pub record BookNext (book : List (List ℕ)) (present : Option Checkpoint) (stake : Kept) (images : Images) : Type 0 where
  pub kept : Kept
  pub other : Kept
  pub next : StoreNext images kept other
  pub kept_is : IsFront book present kept
  pub other_is : IsFrontOr book present stake other

-- This has the present checkpoint, and begins with a front of the book. The front has at least as many entries as are firm, but for those that
-- are gone.
pub record HasFirm (book : List (List ℕ)) (present : Option Checkpoint) (gone firm : ℕ) (x : Kept) : Type 0 where
  pub front : List (List ℕ)
  pub more : List (List ℕ)
  pub rest : List (List ℕ)
  pub is : x ≡ record { present = present; entries = front ++ more }
  pub book_is : front ++ rest ≡ book
  pub most : firm ≤ gone + length front

-- the number of firm entries once all that a store was given are firm
abbrev pub firm_then : StoreState → ℕ
firm_then s = min (s.firm + (length s.adding + length s.waiting)) greatest
