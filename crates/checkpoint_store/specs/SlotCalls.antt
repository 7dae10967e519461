-- The jobs of a slot, as lists of device calls.
use Rattle.std.specs.Prelude.{ℕ, List, [], ◌∷◌}
use Rattle.disk_model.specs.declared.call.DeviceCall.{DeviceCall}
use Rattle.disk_model.specs.declared.call.DeviceCall.TheVariants.{Write, Sync}

-- the gate is closed
abbrev pub close_calls : List DeviceCall
close_calls = Write 0 (0 ∷ []) ∷ (Sync ∷ [])

-- these bytes are written after the closed gate
abbrev pub fill_calls : List ℕ → List DeviceCall
fill_calls text = Write 1 text ∷ (Sync ∷ [])

-- the gate is opened
abbrev pub gate_calls : List DeviceCall
gate_calls = Write 0 (1 ∷ []) ∷ (Sync ∷ [])
