-- A crash now leaves an image of what the disk holds, and since now nothing else.
use Rattle.std.specs.Prelude.{◌≡◌, ◌≤◌, ℕ, List, [], ◌∷◌, length, take, refl}
use Rattle.std.proofs.Common.{sym, ◌∙◌, subst, arith}
use Rattle.disk_model.specs.declared.platter.Change.{Change}
use Rattle.disk_model.specs.Cells.{Cells, IsImage, settled}
use Rattle.disk_model.specs.Replay.{replay, change_cells, LeftSince}

pub replay-all : (xs : List Change) (s : Cells) → replay (take (length xs) xs) s ≡ replay xs s
replay-all [] s = refl
replay-all (y ∷ xs) s = replay-all xs (change_cells y s)

pub counts_now : (first : List ℕ) (xs : List Change) (s : Cells) (t : ℕ) (c : List ℕ) → replay xs (settled first) ≡ s → t ≤ length xs → IsImage s c → LeftSince first xs t c
counts_now first xs s t c is le image = record {
  at = length xs;
  since = le;
  by_now = omega arith;
  left = subst (λ (q : Cells). IsImage q c) (sym is ∙ sym (replay-all xs (settled first))) image;
}

pub only_now : (first : List ℕ) (xs : List Change) (s : Cells) (c : List ℕ) → replay xs (settled first) ≡ s → LeftSince first xs (length xs) c → IsImage s c
only_now first xs s c is had =
    let last : had.at ≡ length xs = omega (arith, had.since, had.by_now) in
    let there : IsImage (replay (take (length xs) xs) (settled first)) c = subst (λ (n : ℕ). IsImage (replay (take n xs) (settled first)) c) last had.left in
    subst (λ (q : Cells). IsImage q c) (replay-all xs (settled first) ∙ is) there
