-- Hosts at which something may happen.
use Rattle.std.specs.Prelude.{Bool, false, not, ◌&&◌, Option, Some, None}
use Rattle.world_rules.specs.Worlds.{Host, World, is_up, is_halted}

-- a host at which something may happen: the play goes on, and the node runs
abbrev pub acts : {S : Type 0} → World S → Option (Host S) → Bool
acts w None = false
acts w (Some h) = not (is_halted w) && is_up w h
