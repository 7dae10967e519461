-- What a client makes of bytes.
use Rattle.std.specs.Prelude.{ℕ, Option, Some, None, slice_get, if◌then◌else◌}
use Rattle.client_quorum.specs.declared.client.Client.{Client}
use Rattle.client_quorum.specs.declared.client.Word.{Word}
use Rattle.world_rules.specs.Worlds.{World, client_hears, is_halted}

-- the world after a client heard a member's word, or ignored what is none
abbrev pub takes_by : {S : Type 0} → World S → ℕ → Option Word → Option Client → World S
takes_by w i word None = w
takes_by w i word (Some c) = client_hears w i c word

-- the world after the client at an index did
unfoldable pub takes_word : {S : Type 0} → ℕ → Option Word → World S → World S
takes_word i word w = if is_halted w then w else takes_by w i word (slice_get w.clients i)
