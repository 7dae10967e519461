-- The texts of trails that a room keeps.
use Rattle.std.specs.Prelude.{◌≡◌, ℕ, List, [], Option, Some, None}
use Rattle.smart_io.specs.declared.memory.MemSink.{MemSink}

-- a text that is empty, if it is told
abbrev pub IsEmpty : Option (List ℕ) → Type 0
IsEmpty None = Unit {0}
IsEmpty (Some text) = text ≡ []

-- what was written into a sink in memory, if there is one
abbrev pub text_of : Option MemSink → Option (List ℕ)
text_of None = None
text_of (Some sink) = Some sink.bytes.items
