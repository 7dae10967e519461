-- What a group took from its rooms, and how it goes back.
use Rattle.std.proofs.Common.{◌≡◌, ℕ, zero, suc, ◌+◌, ◌<◌, ◌≤◌, true, List, [], ◌∷◌, length, get_or, Option, Some, IfSome, IsSome, refl, ap, subst, arith}
use Rattle.faults.specs.Counts.{Rose}
use Rattle.disk_model.specs.Cells.{Cells}
use Rattle.disk_model.specs.Rooms.{Address, address}
use Rattle.durable_store.specs.Disks.{DiskRose, NoneFell, cells_of}
use Rattle.durable_store.specs.declared.disks.Disks.{Disks}
use Rattle.durable_store.specs.declared.store.Store.{Store}
use Rattle.member_opening.specs.Devices.{AreHeld, IsHeld, devices_at}
use Rattle.durable_store.proofs.Faults.{rose_after}
use Rattle.smart_service.specs.Services.{Meaning}
use Rattle.store_laws.specs.Restored.{Images}
use Rattle.group_opening.specs.Berths.{AllHeld}
use Rattle.group_parties.specs.Crews.{AreFit}
use Rattle.group_parties.specs.Gathered.{AreTaken}
use Rattle.group_parties.specs.Rests.{AreEnded, AreOut}
use Rattle.group_opening.specs.declared.berth.Berth.{Berth}
use Rattle.group_parties.specs.declared.crew.Headed.{Headed}
use Rattle.group_parties.specs.declared.ending.MemberEnd.{MemberEnd}
use Rattle.group_parties.specs.declared.seating.Station.{Station}
use Rattle.group_opening.specs.declared.settings.GroupSettings.{GroupSettings}

held-later : (taken : Option ℕ) (old new : ℕ) → IsHeld taken old → old ≤ new → IsHeld taken new
held-later taken old new held later = record { before = held.before; is = held.is; later = omega (arith, held.later, later) }

pub held-some : (taken : Option ℕ) (now : ℕ) → IsHeld taken now → IsSome taken
held-some taken now held = rw held.is refl

module _ {D : Type 0} (disks : Address → Option ℕ) (counts : D → ℕ) (dir : List ℕ) where
  held-since : (member : ℕ) (old new : Disks D) → AreHeld disks counts dir member old → NoneFell counts old new → AreHeld disks counts dir member new
  held-since member old new held later = record {
    even_log = held-later (disks (address dir member 0)) (counts old.even_log) (counts new.even_log) held.even_log later.even_log;
    odd_log = held-later (disks (address dir member 1)) (counts old.odd_log) (counts new.odd_log) held.odd_log later.odd_log;
    even_slot = held-later (disks (address dir member 2)) (counts old.even_slot) (counts new.even_slot) held.even_slot later.even_slot;
    odd_slot = held-later (disks (address dir member 3)) (counts old.odd_slot) (counts new.odd_slot) held.odd_slot later.odd_slot;
  }

module _ {S D O : Type 0} (disks : Address → Option ℕ) (counts : D → ℕ) (trails : Address → Option ℕ) (faults : O → ℕ) (dir : List ℕ) where
  -- ---- before a group runs

  pub held-at : (first : ℕ) (berths : List (Berth S D)) → AllHeld disks counts dir first berths → (i : ℕ) (d : Berth S D) → i < length berths → AreHeld disks counts dir (first + i) (get_or berths i d).store.disks
  held-at first [] held i d within = absurd (omega (arith, within))
  held-at first (b ∷ berths) held zero d within =
      let here : first ≡ first + 0 = omega arith in
      subst (λ (n : ℕ). AreHeld disks counts dir n b.store.disks) here held.1.0
  held-at first (b ∷ berths) held (suc i) d within =
      let next : suc first + i ≡ first + suc i = omega arith in
      subst (λ (n : ℕ). AreHeld disks counts dir n (get_or berths i d).store.disks) next (held-at (suc first) berths held.1.1 i d (omega (arith, within)))

  -- what is taken for each member
  pub out-by : (first : ℕ) (bs : List (Station S D O)) → ((i : ℕ) (b : Station S D O) → i < length bs → AreHeld disks counts dir (first + i) (get_or bs i b).store.disks × IsHeld (trails (address dir (first + i) 0)) (faults (get_or bs i b).sink))
      → AreOut disks counts trails faults dir first bs
  out-by first [] each = tt
  out-by first (b ∷ bs) each =
      let here : first + 0 ≡ first = omega arith in
      let within : 0 < length (b ∷ bs) = omega arith in
      let one = each 0 b within in (
        subst (λ (n : ℕ). AreHeld disks counts dir n b.store.disks) here one.0,
        (
          subst (λ (n : ℕ). IsHeld (trails (address dir n 0)) (faults b.sink)) here one.1,
          out-by (suc first) bs (λ i c few.
              let next : first + suc i ≡ suc first + i = omega arith in
              let below : suc i < length (b ∷ bs) = omega (arith, few) in
              let other = each (suc i) c below in (
                subst (λ (n : ℕ). AreHeld disks counts dir n (get_or bs i c).store.disks) next other.0,
                subst (λ (n : ℕ). IsHeld (trails (address dir n 0)) (faults (get_or bs i c).sink)) next other.1,
              )),
        ),
      )

  -- ---- behind its run

  module _ (m : Meaning S) (told remembers : Type 0) (cells : D → Cells) (moment : D → ℕ) (left_since : D → ℕ → List ℕ → Type 0) (written : O → Option (List ℕ)) (images : ℕ → Images) (s : GroupSettings) where
    pub taken-by : (first : ℕ) (hs : List Headed) (bs : List (Station S D O)) (fit : AreFit m told cells written images s first hs bs) (es : List (MemberEnd D O))
        → AreEnded m told remembers cells moment left_since counts written faults images s first hs bs fit es → AreOut disks counts trails faults dir first bs → AreTaken disks counts trails dir first es
    taken-by first [] [] fit [] ended out = tt
    taken-by first [] [] fit (e ∷ es) ended out = absurd ended
    taken-by first [] (b ∷ bs) fit es ended out = absurd fit
    taken-by first (h ∷ hs) [] fit es ended out = absurd fit
    taken-by first (h ∷ hs) (b ∷ bs) fit [] ended out = absurd ended
    taken-by first (h ∷ hs) (b ∷ bs) fit (e ∷ es) ended out = (
      ended.0.number,
      (
        held-since disks counts dir first b.store.disks e.store.disks out.0 ended.0.later,
        (held-some (trails (address dir first 0)) (faults b.sink) out.1.0, taken-by (suc first) hs bs fit.1 es ended.1 out.1.1),
      ),
    )

    -- a sink that has failed since it was taken
    pub failed-at : (first : ℕ) (hs : List Headed) (bs : List (Station S D O)) (fit : AreFit m told cells written images s first hs bs) (es : List (MemberEnd D O))
        → AreEnded m told remembers cells moment left_since counts written faults images s first hs bs fit es → AreOut disks counts trails faults dir first bs
        → (i : ℕ) (e : MemberEnd D O) → i < length es → (get_or es i e).failed ≡ true → (before : ℕ) × ((trails (address dir (first + i) 0) ≡ Some before) × Rose before (faults (get_or es i e).sink))
    failed-at first [] [] fit [] ended out i d within failed = absurd (omega (arith, within))
    failed-at first [] [] fit (e ∷ es) ended out i d within failed = absurd ended
    failed-at first [] (b ∷ bs) fit es ended out i d within failed = absurd fit
    failed-at first (h ∷ hs) [] fit es ended out i d within failed = absurd fit
    failed-at first (h ∷ hs) (b ∷ bs) fit [] ended out i d within failed = absurd ended
    failed-at first (h ∷ hs) (b ∷ bs) fit (e ∷ es) ended out zero d within failed =
        let here : first ≡ first + 0 = omega arith in
        let held = out.1.0 in
        (held.before, (subst (λ (n : ℕ). trails (address dir n 0) ≡ Some held.before) here held.is, rose_after held.before (faults b.sink) (faults e.sink) held.later (ended.0.failed failed)))
    failed-at first (h ∷ hs) (b ∷ bs) fit (e ∷ es) ended out (suc i) d within failed =
        let next : suc first + i ≡ first + suc i = omega arith in
        let rest = failed-at (suc first) hs bs fit.1 es ended.1 out.1.1 i d (omega (arith, within)) failed in
        (rest.0, (subst (λ (n : ℕ). trails (address dir n 0) ≡ Some rest.0) next rest.1.0, rest.1.1))

    -- devices of which one has failed since they were taken
    pub worn-at : (first : ℕ) (hs : List Headed) (bs : List (Station S D O)) (fit : AreFit m told cells written images s first hs bs) (es : List (MemberEnd D O))
        → AreEnded m told remembers cells moment left_since counts written faults images s first hs bs fit es → AreOut disks counts trails faults dir first bs
        → (i : ℕ) (e : MemberEnd D O) → i < length es → (get_or es i e).worn ≡ true → (begun : Disks D) × (AreHeld disks counts dir (first + i) begun × DiskRose counts begun (get_or es i e).store.disks)
    worn-at first [] [] fit [] ended out i d within worn = absurd (omega (arith, within))
    worn-at first [] [] fit (e ∷ es) ended out i d within worn = absurd ended
    worn-at first [] (b ∷ bs) fit es ended out i d within worn = absurd fit
    worn-at first (h ∷ hs) [] fit es ended out i d within worn = absurd fit
    worn-at first (h ∷ hs) (b ∷ bs) fit [] ended out i d within worn = absurd ended
    worn-at first (h ∷ hs) (b ∷ bs) fit (e ∷ es) ended out zero d within worn =
        let here : first ≡ first + 0 = omega arith in
        (b.store.disks, (subst (λ (n : ℕ). AreHeld disks counts dir n b.store.disks) here out.0, ended.0.worn worn))
    worn-at first (h ∷ hs) (b ∷ bs) fit (e ∷ es) ended out (suc i) d within worn =
        let next : suc first + i ≡ first + suc i = omega arith in
        let rest = worn-at (suc first) hs bs fit.1 es ended.1 out.1.1 i d (omega (arith, within)) worn in
        (rest.0, (subst (λ (n : ℕ). AreHeld disks counts dir n rest.0) next rest.1.0, rest.1.1))

    -- as many are left as there were
    pub many-ended : (first : ℕ) (hs : List Headed) (bs : List (Station S D O)) (fit : AreFit m told cells written images s first hs bs) (es : List (MemberEnd D O))
        → AreEnded m told remembers cells moment left_since counts written faults images s first hs bs fit es → (length es ≡ length hs) × (length es ≡ length bs)
    many-ended first [] [] fit [] ended = (refl, refl)
    many-ended first [] [] fit (e ∷ es) ended = absurd ended
    many-ended first [] (b ∷ bs) fit es ended = absurd fit
    many-ended first (h ∷ hs) [] fit es ended = absurd fit
    many-ended first (h ∷ hs) (b ∷ bs) fit [] ended = absurd ended
    many-ended first (h ∷ hs) (b ∷ bs) fit (e ∷ es) ended =
        let rest = many-ended (suc first) hs bs fit.1 es ended.1 in
        (ap suc rest.0, ap suc rest.1)

-- ---- the texts of trails

-- texts that are kept of sinks are kept of the same ones
pub kept-same : {D O : Type 0} (written : O → Option (List ℕ)) (after : Address → Option (List ℕ)) (dir : List ℕ) (es now : List (MemberEnd D O)) → length now ≡ length es
    → ((i : ℕ) (e : MemberEnd D O) → i < length es → (get_or now i e).sink ≡ (get_or es i e).sink)
    → ((i : ℕ) (e : MemberEnd D O) → i < length now → IfSome (written (get_or now i e).sink) (λ text. after (address dir (i + 1) 0) ≡ Some text))
    → (i : ℕ) (e : MemberEnd D O) → i < length es → IfSome (written (get_or es i e).sink) (λ text. after (address dir (1 + i) 0) ≡ Some text)
kept-same written after dir es now many same kept i e within =
    let next : i + 1 ≡ 1 + i = omega arith in
    let few : i < length now = omega (arith, within, many) in
    subst (λ (n : ℕ). IfSome (written (get_or es i e).sink) (λ text. after (address dir n 0) ≡ Some text)) next
    (subst (λ sink. IfSome (written sink) (λ text. after (address dir (i + 1) 0) ≡ Some text)) (same i e within) (kept i e few))

-- ---- the devices

-- devices that are in their room again are those of the same members
pub devices-same : {D O : Type 0} (told : Type 0) (cells : D → Cells) (after : Address → Cells) (dir : List ℕ) (es now : List (MemberEnd D O)) → length now ≡ length es
    → ((i : ℕ) (e : MemberEnd D O) → i < length es → (get_or now i e).store ≡ (get_or es i e).store)
    → ((i : ℕ) (e : MemberEnd D O) → i < length now → told → devices_at after dir (i + 1) ≡ cells_of cells (get_or now i e).store.disks)
    → (i : ℕ) (e : MemberEnd D O) → i < length es → told → devices_at after dir (1 + i) ≡ cells_of cells (get_or es i e).store.disks
devices-same {D} told cells after dir es now many same back i e within tells =
    let next : i + 1 ≡ 1 + i = omega arith in
    let few : i < length now = omega (arith, within, many) in
    subst (λ (n : ℕ). devices_at after dir n ≡ cells_of cells (get_or es i e).store.disks) next
    (subst (λ (store : Store D). devices_at after dir (i + 1) ≡ cells_of cells store.disks) (same i e within) (back i e few tells))
