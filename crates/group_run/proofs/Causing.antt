-- Why a sink or a device of a group that has run failed, when all goes back to its rooms.
use Rattle.std.proofs.Common.{◌≡◌, ◌∙◌, ℕ, suc, ◌+◌, ◌<◌, ◌⊎◌, inl, inr, true, List, [], ◌∷◌, length, get_or, Option, Some, IsSome, sym, ap, subst, arith}
use Rattle.faults.specs.Counts.{Rose}
use Rattle.disk_model.specs.Cells.{Cells}
use Rattle.disk_model.specs.Rooms.{Address, address}
use Rattle.durable_store.specs.Disks.{DiskRose}
use Rattle.durable_store.specs.declared.disks.Disks.{Disks}
use Rattle.durable_store.specs.declared.store.Store.{Store}
use Rattle.member_opening.specs.Devices.{AreHeld}
use Rattle.durable_store.proofs.Faults.{rose_after}
use Rattle.smart_service.specs.Services.{Meaning}
use Rattle.group_client.specs.Loops.{Output}
use Rattle.group_parties.specs.Gathered.{AreTaken}
use Rattle.group_parties.specs.Rests.{WasRun}
use Rattle.group_parties.specs.declared.course.Rest.{Rest}
use Rattle.group_parties.specs.declared.ending.MemberEnd.{MemberEnd}
use Rattle.group_opening.specs.declared.settings.GroupSettings.{GroupSettings}
use Rattle.group_parties.proofs.Stationed.{some-of}
use Rattle.group_run.proofs.Returned.{failed-at, held-some, many-ended, taken-by, worn-at}

-- members that are as they were but for what they have lived
module _ {D O : Type 0} where
  abbrev pub AreAlike : List (MemberEnd D O) → List (MemberEnd D O) → Type 0
  AreAlike es now =
      (i : ℕ) (e : MemberEnd D O) → i < length es → ((get_or now i e).member ≡ (get_or es i e).member) × (((get_or now i e).sink ≡ (get_or es i e).sink) × (((get_or now i e).failed ≡ (get_or es i e).failed) × (((get_or now i e).store ≡ (get_or es i e).store) × ((get_or now i e).worn ≡ (get_or es i e).worn))))

module _ {D O : Type 0} (disks : Address → Option ℕ) (counts : D → ℕ) (trails : Address → Option ℕ) (dir : List ℕ) where
  -- what is taken for members is taken for the same ones
  pub taken-same : (first : ℕ) (es now : List (MemberEnd D O)) → length now ≡ length es → AreAlike es now → AreTaken disks counts trails dir first es → AreTaken disks counts trails dir first now
  taken-same first [] [] many alike taken = tt
  taken-same first [] (x ∷ now) many alike taken = absurd (omega (arith, many))
  taken-same first (e ∷ es) [] many alike taken = absurd (omega (arith, many))
  taken-same first (e ∷ es) (x ∷ now) many alike taken =
      let within : 0 < length (e ∷ es) = omega arith in
      let fewer : length now ≡ length es = omega (arith, many) in
      let one = alike 0 e within in (
        one.0 ∙ taken.0,
        (
          subst (λ (store : Store D). AreHeld disks counts dir first store.disks) (sym one.1.1.1.0) taken.1.0,
          (
            taken.1.1.0,
            taken-same (suc first) es now fewer (λ i y few.
                let below : suc i < length (e ∷ es) = omega (arith, few) in
                alike (suc i) y below) taken.1.1.1,
          ),
        ),
      )

module _ {S D O : Type 0} (m : Meaning S) (told remembers : Type 0) (cells : D → Cells) (moment : D → ℕ) (left_since : D → ℕ → List ℕ → Type 0) (counts : D → ℕ) (written : O → Option (List ℕ)) (faults : O → ℕ) (s : GroupSettings) (disks trails : Address → Option ℕ) (rest : Rest D O) (after : Output)
    (was : WasRun m told remembers cells moment left_since counts written faults s disks trails rest after) where
  -- the members have what was taken from the rooms
  pub rest-taken : AreTaken disks counts trails s.dir 1 rest.members.items × IsSome (trails (address s.dir 0 0))
  rest-taken = (
    taken-by disks counts trails faults s.dir m told remembers cells moment left_since written was.images s 1 was.crew.heads.items was.crew.stations.items was.is.fit rest.members.items was.run.members was.out.1,
    held-some (trails (address s.dir 0 0)) (faults was.crew.client.sink) was.out.0,
  )

  -- and as many heads
  pub rest-many : length rest.heads.items ≡ length rest.members.items
  rest-many =
      ap length was.run.heads ∙ sym (many-ended disks counts trails faults s.dir m told remembers cells moment left_since written was.images s 1 was.crew.heads.items was.crew.stations.items was.is.fit rest.members.items was.run.members).0

  -- as many members as the group has
  pub rest-all : length rest.members.items ≡ s.members
  rest-all = (many-ended disks counts trails faults s.dir m told remembers cells moment left_since written was.images s 1 was.crew.heads.items was.crew.stations.items was.is.fit rest.members.items was.run.members).1 ∙ was.is.many

  module _ (now : List (MemberEnd D O)) (many : length now ≡ length rest.members.items) (alike : AreAlike rest.members.items now) (sink : O) (own : sink ≡ rest.client.sink) (R : Type 0) where
    -- a sink has failed
    pub trail-rose : ((i : ℕ) (e : MemberEnd D O) (before : ℕ) → i < length now → trails (address s.dir (i + 1) 0) ≡ Some before → Rose before (faults (get_or now i e).sink) → R)
        → ((before : ℕ) → trails (address s.dir 0 0) ≡ Some before → Rose before (faults sink) → R)
        → (rest.client.failed ≡ true) ⊎ ((i : ℕ) × ((i < length rest.members.items) × ((e : MemberEnd D O) → (get_or rest.members.items i e).failed ≡ true))) → R
    trail-rose each client (inl failed) =
        let held = was.out.0 in
        client held.before held.is
        (subst (λ (o : O). Rose held.before (faults o)) (sym own) (rose_after held.before (faults was.crew.client.sink) (faults rest.client.sink) held.later (was.run.client.failed failed)))
    trail-rose each client (inr found) =
        let i = found.0 in
        let within = found.1.0 in
        let e = some-of rest.members.items i within in
        let at = failed-at disks counts trails faults s.dir m told remembers cells moment left_since written was.images s 1 was.crew.heads.items was.crew.stations.items was.is.fit rest.members.items was.run.members was.out.1 i e within (found.1.1 e) in
        let next : 1 + i ≡ i + 1 = omega arith in
        let few : i < length now = omega (arith, within, many) in
        each i e at.0 few (subst (λ (n : ℕ). trails (address s.dir n 0) ≡ Some at.0) next at.1.0) (subst (λ (o : O). Rose at.0 (faults o)) (sym (alike i e within).1.0) at.1.1)

    -- a device has failed
    pub disk-rose : ((i : ℕ) (e : MemberEnd D O) (begun : Disks D) → i < length now → AreHeld disks counts s.dir (i + 1) begun → DiskRose counts begun (get_or now i e).store.disks → R)
        → (i : ℕ) × ((i < length rest.members.items) × ((e : MemberEnd D O) → (get_or rest.members.items i e).worn ≡ true)) → R
    disk-rose each found =
        let i = found.0 in
        let within = found.1.0 in
        let e = some-of rest.members.items i within in
        let at = worn-at disks counts trails faults s.dir m told remembers cells moment left_since written was.images s 1 was.crew.heads.items was.crew.stations.items was.is.fit rest.members.items was.run.members was.out.1 i e within (found.1.1 e) in
        let next : 1 + i ≡ i + 1 = omega arith in
        let few : i < length now = omega (arith, within, many) in
        each i e at.0 few (subst (λ (n : ℕ). AreHeld disks counts s.dir n at.0) next at.1.0) (subst (λ (store : Store D). DiskRose counts at.0 store.disks) (sym (alike i e within).1.1.1.0) at.1.1)
