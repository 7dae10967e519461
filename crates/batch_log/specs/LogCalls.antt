-- The jobs of a log, as lists of device calls. `end` is the index of the gate after its groups.
use Rattle.std.specs.Prelude.{ℕ, ◌+◌, List, [], ◌∷◌, ◌++◌}
use Rattle.disk_model.specs.declared.call.DeviceCall.{DeviceCall}
use Rattle.disk_model.specs.declared.call.DeviceCall.TheVariants.{Write, Cut, Sync}
use Rattle.store_form.specs.Spelling.{Group, group_text}

-- the bytes that are written after the gate of a group: its spelling, and the next gate, closed
abbrev pub body_text : Group → List ℕ
body_text g = group_text g ++ 0 ∷ []

-- the bytes of a whole log with one group
abbrev pub anew_text : Group → List ℕ
anew_text g = 1 ∷ body_text g

-- a gate that is not sure is closed
abbrev pub repair_calls : ℕ → List DeviceCall
repair_calls end = Write end (0 ∷ []) ∷ (Sync ∷ [])

-- a group with this body is added after a closed gate
abbrev pub group_calls : ℕ → List ℕ → List DeviceCall
group_calls end body = Write (end + 1) body ∷ (Sync ∷ (Write end (1 ∷ []) ∷ (Sync ∷ [])))

-- a log that is not in use begins anew with these bytes
abbrev pub anew_calls : List ℕ → List DeviceCall
anew_calls text = Cut 0 ∷ (Write 0 text ∷ (Sync ∷ []))
