-- Snapshots that are met one by one.
use Rattle.std.proofs.Common.{◌≡◌, ℕ, List, [], ◌∷◌, ap, ◌∙◌}
use Rattle.world_rules.specs.Worlds.{World, meets}

-- one is met, and then the rest
pub meets-more : {S : Type 0} (w v total : World S) (snapshot : List ℕ) (rest all : List (List ℕ)) → v ≡ meets w (snapshot ∷ []) → all ≡ snapshot ∷ rest → meets w all ≡ total
    → meets v rest ≡ total
meets-more {S = S} w v total snapshot rest all one is so_far =
    let e : meets w (snapshot ∷ rest) ≡ total = rw is at so_far in
    ap (λ (x : World S). meets x rest) one ∙ e
