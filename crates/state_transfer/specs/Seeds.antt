-- The parts that a member gives of its snapshot.
use Rattle.std.specs.Prelude.{◌≡◌, ℕ, zero, suc, ◌<◌, List, [], ◌∷◌, ◌++◌, length, Some}
use Rattle.smart_keys.specs.Keys.{digest}
use Rattle.snapshot_form.specs.Snapshots.{piece, pieces, piece_bytes}
use Rattle.transfer_form.specs.declared.transfer.StatePart.{StatePart}
use Rattle.state_transfer.specs.declared.fetch.Fetch.{Fetch}
use Rattle.state_transfer.specs.Fetches.{part_at}

-- the part of a number
abbrev pub seed : ℕ → List ℕ → ℕ → StatePart
seed place snapshot index = record { place = place; index = index; total = pieces snapshot; bytes = piece_bytes (piece snapshot index) }

-- the parts of the first numbers
abbrev pub seeds_to : ℕ → List ℕ → ℕ → List StatePart
seeds_to place snapshot zero = []
seeds_to place snapshot (suc n) = seeds_to place snapshot n ++ seed place snapshot n ∷ []

-- the parts of the snapshot after a place
unfoldable pub seeds : ℕ → List ℕ → List StatePart
seeds place snapshot = seeds_to place snapshot (pieces snapshot)

-- All parts of a snapshot have come, in whatever order. The plan is of its place, its length and its digest.
pub record HasAll (place : ℕ) (snapshot : List ℕ) (f : Fetch) : Type 0 where
  pub place_is : f.plan.place ≡ place
  pub size_is : f.plan.size ≡ length snapshot
  pub digest_is : f.plan.digest ≡ digest snapshot
  pub parts : (i : ℕ) → i < pieces snapshot → part_at f.parts i ≡ Some (seed place snapshot i)
