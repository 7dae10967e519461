-- To take the word that bytes are is to take the bytes.
use Rattle.std.proofs.Common.{◌≡◌, ℕ, List, Option, Some, None, cond, refl, ap}
use Rattle.std.specs.Prelude.{slice_get}
use Rattle.smart_messages.specs.Messages.{decoded}
use Rattle.world_rules.specs.Worlds.{World, hears_bytes, client_takes, is_halted}
use Rattle.client_quorum.specs.declared.client.Client.{Client}
use Rattle.client_quorum.specs.Readings.{word_read}
use Rattle.world_clients.specs.Words.{takes_by, takes_word}

-- a client, if there is one
takes-found : {S : Type 0} (w : World S) (i : ℕ) (bytes : List ℕ) (found : Option Client) → takes_by w i (word_read (decoded bytes)) found ≡ hears_bytes w i bytes found
takes-found w i bytes None = refl
takes-found w i bytes (Some c) = refl

pub takes_bytes : {S : Type 0} (w : World S) (i : ℕ) (bytes : List ℕ) → takes_word i (word_read (decoded bytes)) w ≡ client_takes i bytes w
unfolding takes_word client_takes
takes_bytes w i bytes = ap (λ v. cond (is_halted w) w v) (takes-found w i bytes (slice_get w.clients i))
