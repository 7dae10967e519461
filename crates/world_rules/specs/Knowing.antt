-- What a transcript tells of what clients know.
use Rattle.std.specs.Prelude.{ℕ, ◌==◌, List, [], ◌∷◌, if◌then◌else◌, Option, option_map, slice_get, max}
use Rattle.world_rules.specs.Worlds.{World}
use Rattle.world_rules.specs.declared.line.OutLine.{OutLine}
use Rattle.world_rules.specs.declared.line.OutLine.TheVariants as outs

-- the place that a transcript line tells a client: of the reply that it accepted, or as learned; 0 if it tells none
abbrev pub place_told : ℕ → OutLine → ℕ
place_told client (outs.Accepted c seq place index reply) = if c == client then place else 0
place_told client (outs.Learned c place) = if c == client then place else 0
place_told client (outs.Group members faulty app period) = 0
place_told client (outs.Sent number origin summary) = 0
place_told client (outs.Decided member place) = 0
place_told client (outs.Installed member place) = 0
place_told client (outs.Delivered member place executed) = 0
place_told client (outs.View member number) = 0
place_told client (outs.Promised member number regency) = 0
place_told client (outs.Synced member number regency base bound) = 0
place_told client (outs.Dropped member why) = 0
place_told client (outs.Counted c have need) = 0
place_told client (outs.Viewed c have need) = 0
place_told client (outs.Moved c number) = 0
place_told client (outs.Ignored c why) = 0
place_told client (outs.Busy c seq) = 0
place_told client (outs.Absent member) = 0
place_told client (outs.Crashed member) = 0
place_told client (outs.Restarted member place entries) = 0
place_told client (outs.Down member) = 0
place_told client (outs.Idle member) = 0
place_told client (outs.IdleClient c) = 0
place_told client (outs.Stands member place number regency) = 0
place_told client (outs.Seen c place) = 0
place_told client (outs.End lines messages) = 0

-- the greatest place that a transcript tells a client; 0 if it tells none
abbrev pub known_by : ℕ → List OutLine → ℕ
known_by client [] = 0
known_by client (line ∷ lines) = max (place_told client line) (known_by client lines)

-- the greatest place that a client of a world knows, if there is that client
abbrev pub seen_by : {S : Type 0} → World S → ℕ → Option ℕ
seen_by w client = option_map (λ c. c.seen) (slice_get w.clients client)
