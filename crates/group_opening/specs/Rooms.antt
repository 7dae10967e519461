-- What a run leaves in a room of disks or of trails, of which it takes what belongs to a range of parties.
use Rattle.std.specs.Prelude.{◌≡◌, ◌≤◌, ◌<◌, ℕ, List, None}
use Rattle.disk_model.specs.Rooms.{Address, address}
use Rattle.member_opening.specs.Rooms.{Room}

-- The address of one of so many devices of a party, whose number is in a range.
pub record IsOf (dir : List ℕ) (first behind devices : ℕ) (a : Address) : Type 0 where
  pub member : ℕ
  pub device : ℕ
  pub within : (first ≤ member) × ((member < behind) × (device < devices))
  pub is : a ≡ address dir member device

-- a change that leaves all addresses as they are, but for those of the parties of a range
abbrev pub KeepsBut : {A : Type 0} → List ℕ → ℕ → ℕ → ℕ → (Address → A) → (Address → A) → Type 0
KeepsBut dir first behind devices old new = (a : Address) → (IsOf dir first behind devices a → ⊥) → new a ≡ old a

module _ {Content : Type 0} (dir : List ℕ) (first behind devices : ℕ) (room : Room Content) where
  -- What belongs to a range of parties was taken. None of it had been taken before.
  pub record IsLent : Type 0 where
    pub kept : KeepsBut dir first behind devices room.before room.after
    pub taken : KeepsBut dir first behind devices room.taken_before room.taken_after
    pub free : (a : Address) → IsOf dir first behind devices a → room.taken_before a ≡ None

  -- What belongs to a range of parties was put back. None of it is taken any more.
  pub record IsReturned : Type 0 where
    pub kept : KeepsBut dir first behind devices room.before room.after
    pub taken : KeepsBut dir first behind devices room.taken_before room.taken_after
    pub free : (a : Address) → IsOf dir first behind devices a → room.taken_after a ≡ None

  -- Whatever belongs to others is as it was. Of that which belongs to a range of parties as much is taken as before.
  pub record KeepsRest : Type 0 where
    pub kept : KeepsBut dir first behind devices room.before room.after
    pub taken : KeepsBut dir first behind devices room.taken_before room.taken_after
    pub back : (a : Address) → IsOf dir first behind devices a → room.taken_after a ≡ room.taken_before a
