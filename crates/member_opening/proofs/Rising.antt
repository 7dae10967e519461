-- Counts of failures that rise, addresses of different devices, and what a crash may leave of devices that are the same.
use Rattle.std.proofs.Common.{◌≡◌, ◌≢◌, ◌≤◌, ◌+◌, ◌^◌, ◌-◌, min, ◌⊎◌, inl, inr, ℕ, List, sym, ap, subst, arith}
use Rattle.faults.specs.Counts.{Rose}
use Rattle.disk_model.specs.Cells.{Cells, Within}
use Rattle.disk_model.specs.Rooms.{Address, address}

pub apart : (dir : List ℕ) (member d e : ℕ) → d ≢ e → address dir member d ≢ address dir member e
apart dir member d e other same = other (ap (λ (a : Address). a.device) same)

pub next_apart : (dir : List ℕ) (member n : ℕ) → address dir member (n + 1) ≢ address dir member n
next_apart dir member n = apart dir member (n + 1) n (λ same. absurd (omega arith))

pub within_alike : (now left before held : Cells) → now ≡ left → before ≡ held → Within left before → Within now held
within_alike now left before held same was within = subst (λ (x : Cells). Within x held) (sym same) (subst (λ (x : Cells). Within left x) was within)

pub rose_since : (before then now : ℕ) → before ≤ then → Rose then now → Rose before now
rose_since before then now early rose =
    let it : min (then + 1) (2 ^ 64 - 1) ≤ now = rose in
    omega (arith, it, early)

pub rose_still : (before then now : ℕ) → Rose before then → then ≤ now → Rose before now
rose_still before then now rose late =
    let it : min (before + 1) (2 ^ 64 - 1) ≤ then = rose in
    omega (arith, it, late)

-- one of four steps has risen
pub one_rose : (f0 f1 f2 f3 f4 : ℕ) (A B C D : Type 0) → f0 ≤ f1 → f1 ≤ f2 → f2 ≤ f3 → f3 ≤ f4 → (A → Rose f0 f1) → (B → Rose f1 f2) → (C → Rose f2 f3) → (D → Rose f3 f4)
    → A ⊎ (B ⊎ (C ⊎ D)) → Rose f0 f4
one_rose f0 f1 f2 f3 f4 A B C D a b c d first second third fourth (inl x) = rose_still f0 f1 f4 (first x) (omega arith)
one_rose f0 f1 f2 f3 f4 A B C D a b c d first second third fourth (inr (inl x)) = rose_since f0 f1 f4 a (rose_still f1 f2 f4 (second x) (omega arith))
one_rose f0 f1 f2 f3 f4 A B C D a b c d first second third fourth (inr (inr (inl x))) = rose_since f0 f2 f4 (omega arith) (rose_still f2 f3 f4 (third x) d)
one_rose f0 f1 f2 f3 f4 A B C D a b c d first second third fourth (inr (inr (inr x))) = rose_since f0 f3 f4 (omega arith) (fourth x)
