-- What is left of a member whose trail has ended.
use Rattle.std.proofs.Common.{◌≡◌, ◌∙◌, ℕ, Bool, true, false, ◌||◌, List, [], ◌∷◌, ◌++◌, Option, IfSome, refl, ap}
use Rattle.faults.specs.Counts.{Rose}
use Rattle.disk_model.specs.Cells.{Cells}
use Rattle.smart_service.specs.Services.{Meaning}
use Rattle.durable_store.specs.Disks.{DiskRose, NoneFell}
use Rattle.durable_store.specs.declared.disks.Disks.{Disks}
use Rattle.trail.specs.declared.event.TrailEvent.{TrailEvent}
use Rattle.trail.specs.declared.event.TrailEvent.TheVariants.{End}
use Rattle.group_ends.specs.Journals.{is_end, has_end}
use Rattle.group_threads.specs.declared.desk.Desk.{Desk}
use Rattle.group_threads.specs.declared.desk.MemberEnds.{MemberEnds}
use Rattle.group_parties.specs.Manned.{HasDesk, HasWorked, IsLeftOver, IsSinceOpened}
use Rattle.group_parties.specs.Origins.{Origin}
use Rattle.group_parties.specs.Stations.{Names}
use Rattle.group_parties.specs.declared.ending.MemberEnd.{MemberEnd}

or-true : (b : Bool) → (b || true) ≡ true
or-true true = refl
or-true false = refl

end-behind : (es : List TrailEvent) → has_end (es ++ End ∷ []) ≡ true
end-behind [] = refl
end-behind (e ∷ es) = ap (λ (b : Bool). is_end e || b) (end-behind es) ∙ or-true (is_end e)

-- a trail has its end where that was put behind its events
pub has-ended : (new es : List TrailEvent) → new ≡ es ++ End ∷ [] → has_end new ≡ true
has-ended new es is = ap has_end is ∙ end-behind es

-- What is left of the member with this number, whose desk was this one when its loops had ended.
pub record IsFinished {S D O : Type 0} (n : Names S) (told remembers : Type 0) (cells : D → Cells) (moment : D → ℕ) (left_since : D → ℕ → List ℕ → Type 0) (counts : D → ℕ) (m : Meaning S) (written : O → Option (List ℕ)) (faults : O → ℕ)
    (number : ℕ) (ends : MemberEnds) (desk : Option (Desk D)) (e : MemberEnd D O) : Type 0 where
  pub same : e.member ≡ number
  pub lived : (origin : Origin) → HasDesk told remembers cells moment left_since m origin (n.lane number) (n.opening number) (n.restored number) desk
      → IfSome e.lived (IsLeftOver told remembers cells moment left_since m written origin (n.opening number) (n.restored number) (n.head number) (n.entries number) (n.begun number) (n.receivers number) (n.leaving number) (n.arriving number) e.store e.sink)
  pub since : (origin : Origin) → HasDesk told remembers cells moment left_since m origin (n.lane number) (n.opening number) (n.restored number) desk
      → IsSinceOpened told remembers cells moment left_since m origin (n.opening number) (n.restored number) e.store
  pub cause : e.failed ≡ true → Rose (n.failures number) (faults e.sink)
  pub devices : (begun : Disks D) → HasWorked counts begun ends desk → NoneFell counts begun e.store.disks × (e.worn ≡ true → DiskRose counts begun e.store.disks)
