-- The entries that end a group: those that install a replica. Such an entry waits for the switch to the snapshot of that replica.
use Rattle.std.specs.Prelude.{ℕ, ◌==◌, Bool, false, List, [], ◌∷◌}

-- entries by their first byte, which is 7 for those that install
unfoldable pub is_installed : List ℕ → Bool
is_installed [] = false
is_installed (kind ∷ content) = kind == 7
