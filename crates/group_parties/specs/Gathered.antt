-- What is gathered for a group before it runs.
use Rattle.std.specs.Prelude.{◌≡◌, ℕ, suc, List, [], ◌∷◌, Option, IsSome}
use Rattle.audit_rules.specs.declared.recorded.Recorded.{Recorded}
use Rattle.disk_model.specs.Rooms.{Address, address}
use Rattle.member_opening.specs.Devices.{AreHeld}
use Rattle.trail.specs.declared.opening.TrailOpening.{TrailOpening}
use Rattle.group_parties.specs.declared.crew.Headed.{Headed}
use Rattle.group_parties.specs.declared.ending.Lived.{Lived}
use Rattle.group_parties.specs.declared.ending.MemberEnd.{MemberEnd}

-- the trail of a party, with what begins it
abbrev pub recorded_of : TrailOpening → List (List ℕ) → Lived → Recorded
recorded_of head entries lived = record { opening = head; entries = entries; events = lived.events }

-- the trails of members, each with its head
abbrev pub trails_in : List Headed → List Lived → List Recorded
trails_in [] lives = []
trails_in (h ∷ heads) [] = []
trails_in (h ∷ heads) (l ∷ lives) = recorded_of h.head h.entries l ∷ trails_in heads lives

-- The devices of members with the numbers from this one on are taken from a room, and the sinks of their trails from another.
abbrev pub AreTaken : {D O : Type 0} → (Address → Option ℕ) → (D → ℕ) → (Address → Option ℕ) → List ℕ → ℕ → List (MemberEnd D O) → Type 0
AreTaken taken faults trails dir first [] = Unit {0}
AreTaken taken faults trails dir first (e ∷ ends) =
    (e.member ≡ first) × (AreHeld taken faults dir first e.store.disks × (IsSome (trails (address dir first 0)) × AreTaken taken faults trails dir (suc first) ends))
