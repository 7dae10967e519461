-- A room before a run and after it.
use Rattle.std.specs.Prelude.{◌≡◌, ℕ, Option}
use Rattle.disk_model.specs.Rooms.{Address}

-- A room before a run and after it: what it keeps at each address, and, of what is taken, how often it had failed when it was taken.
pub record Room (Content : Type 0) : Type 0 where
  pub before : Address → Content
  pub after : Address → Content
  pub taken_before : Address → Option ℕ
  pub taken_after : Address → Option ℕ

-- a room that is as it was
pub record IsStill {Content : Type 0} (room : Room Content) : Type 0 where
  pub kept : room.after ≡ room.before
  pub taken : room.taken_after ≡ room.taken_before
