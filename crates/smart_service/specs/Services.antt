-- The meaning of a service.
use Rattle.std.specs.Prelude.{◌≡◌, ℕ, ◌≤◌, List, Result, Ok, Err, Option, Some, None}
use Rattle.smart_base.specs.Cuts.{IsBytes}
use Rattle.smart_service.specs.declared.fault.RestoreError.{RestoreError}
use Rattle.smart_service.specs.declared.fault.RestoreError.TheVariants as errors

-- The meaning of a service: its first state, and the state and the reply after an operation. Also the bytes of a state, and the state that
-- bytes are, if they are one.
pub record Meaning (S : Type 0) : Type 0 where
  pub first : S
  pub next : S → List ℕ → S
  pub reply : S → List ℕ → List ℕ
  pub snapshot : S → List ℕ
  pub restore : List ℕ → Option S

-- the states that a service reaches: the first, the one after an operation, and one restored from bytes
pub data Comes {S : Type 0} (m : Meaning S) : S → Type 0 where
  comes_first : Comes m m.first
  comes_next : (s : S) (op : List ℕ) → Comes m s → Comes m (m.next s op)
  comes_restored : (s : S) (bytes : List ℕ) → IsBytes bytes → m.restore bytes ≡ Some s → Comes m s

-- An answer of `restore`. Success gives the state that the bytes are; a bad snapshot means that they are none. Want of memory is allowed.
abbrev pub Restores : {S : Type 0} → Result S RestoreError → Option S → Type 0
Restores (Ok s) state = state ≡ Some s
Restores (Err errors.NoMemory) state = Unit {0}
Restores (Err errors.BadSnapshot) state = state ≡ None

-- a byte that prints: 32 to 126
abbrev pub IsPrintable : ℕ → Type 0
IsPrintable byte = (32 ≤ byte) × (byte ≤ 126)
