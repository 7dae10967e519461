-- A piece of a device's bytes, and the numbers that stand in it.
use Rattle.std.specs.Prelude.{◌≡◌, ◌<◌, ◌+◌, ◌-◌, ◌^◌, ℕ, List, [], ◌++◌, length, drop, Option, Some, None}
use Rattle.std.specs.Int.{Width, byte_len, to_be_bytes}
use Rattle.smart_base.specs.Spelling.{Extends}
use Rattle.disk_model.specs.Cells.{Cells, IsImage}
use Rattle.disk_model.specs.Calls.{Elapses}
use Rattle.log_stream.specs.declared.window.Window.{Window}

-- a device that was read, and nothing else
pub record OnlyRead {D : Type 0} (cells : D → Cells) (moment : D → ℕ) (left_since : D → ℕ → List ℕ → Type 0) (old new : D) : Type 0 where
  pub same : cells new ≡ cells old
  pub time : Elapses (moment old) (moment new) (left_since old) (left_since new) (IsImage (cells new))

-- a piece that is what it seems: a front of the bytes from its index on
abbrev pub Shows : List ℕ → Window → Type 0
Shows bytes window = Extends window.piece (drop window.from bytes)

-- the part of a piece from an index on
abbrev pub part_of : Window → ℕ → List ℕ
part_of window at = drop (at - window.from) window.piece

-- a front of the bytes from an index on, which is all of them if it has fewer than `count`
pub record Part (bytes : List ℕ) (at count : ℕ) (part : List ℕ) : Type 0 where
  pub rest : List ℕ
  pub are : drop at bytes ≡ part ++ rest
  pub all : length part < count → rest ≡ []

-- the number at an index, with its high byte first, or none if the bytes end before it does
abbrev pub IsAt : Width → List ℕ → ℕ → Option ℕ → Type 0
IsAt w bytes at None = length (drop at bytes) < byte_len w
IsAt w bytes at (Some n) = (n < 256 ^ byte_len w) × (drop at bytes ≡ to_be_bytes w n ++ drop (at + byte_len w) bytes)
