-- What is left of a device, and why a store was not crashed.
use Rattle.std.specs.Prelude.{◌≡◌, ℕ, List, length, take, Option, Some}
use Rattle.member_store.specs.declared.left.Left.{Left}
use Rattle.world_rules.specs.declared.crash.NotAnImage.{NotAnImage as Wrong}
use Rattle.member_store.specs.declared.crash.CrashFault.{CrashFault}
use Rattle.member_store.specs.declared.crash.CrashFault.TheVariants.{NotAnImage, NoMemory}

-- the first bytes of what is left, and the length of all that is left
pub record IsLeft (greatest : ℕ) (whole : List ℕ) (l : Left) : Type 0 where
  pub bytes : l.bytes.items ≡ take greatest whole
  pub length : l.length ≡ length whole

-- the fault of a crash, which names what is wrong, or want of memory
abbrev pub Tells : CrashFault → Option Wrong → Type 0
Tells (NotAnImage fault) wrong = wrong ≡ Some fault
Tells NoMemory wrong = Unit {0}
