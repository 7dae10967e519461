-- The desk and the course of a member at its opening.
use Rattle.std.proofs.Common.{◌≡◌, ◌∙◌, ℕ, Bool, false, Some, sym, subst}
use Rattle.atomic_table.specs.Seated.{TableId}
use Rattle.disk_model.specs.Cells.{Cells}
use Rattle.durable_store.specs.Disks.{NoneFell}
use Rattle.durable_store.specs.Stores.{state_of, Stands}
use Rattle.durable_store.specs.declared.disks.Disks.{Disks}
use Rattle.durable_store.specs.declared.store.Store.{Store}
use Rattle.member_opening.specs.Restorings.{KeepsCounts}
use Rattle.node_endings.specs.declared.ending.LoopEnd.TheVariants.{Over}
use Rattle.durable_store.proofs.Faults.{fell_none}
use Rattle.node_endings.proofs.Ends.{over_failed}
use Rattle.node_rules.specs.Nodes.{Node}
use Rattle.member_opening.specs.Opened.{IsAsOpened}
use Rattle.group_threads.specs.Desks.{IsDeskOf, IsReady}
use Rattle.group_threads.specs.declared.desk.Desk.{Desk}
use Rattle.group_threads.specs.declared.desk.MemberEnds.{MemberEnds}
use Rattle.group_parties.specs.Manned.{HasWorked}

module _ {D : Type 0} where
  -- the workers may begin at a desk whose store is that of a worker with no round
  pub desk-ready : (told : Type 0) (cells : D → Cells) (lane : TableId × TableId) (restored : ℕ) (desk : Desk D) (store : Store D) (faulty : Bool) → IsDeskOf lane restored desk → desk.store ≡ store → desk.faulty ≡ faulty → faulty ≡ false
      → (told → Stands (state_of cells store)) → IsReady told cells lane restored (Some desk)
  desk-ready told cells lane restored desk store faulty of same is whole stands =
      (of, record { whole = is ∙ whole; sound = λ tells. subst (λ (s : Store D). Stands (state_of cells s)) (sym same) (stands tells) })

  -- the store of a desk is that of its worker
  pub as-opened-by : (told : Type 0) (opened store : Store D) (desk : Desk D) → desk.store ≡ store → IsAsOpened told opened store → IsAsOpened told opened desk.store
  as-opened-by told opened store desk same is = subst (λ (s : Store D). IsAsOpened told opened s) (sym same) is

  -- the devices of a member that has done nothing
  pub worked-first : (counts : D → ℕ) (told : Type 0) (opened : Store D) (ends : MemberEnds) (desk : Desk D) → IsAsOpened told opened desk.store → ends.logged ≡ Over → HasWorked counts opened.disks ends (Some desk)
  worked-first counts told opened ends desk is over = (
    subst (λ (d : Disks D). NoneFell counts opened.disks d) (sym is.disks) (fell_none counts opened.disks),
    record { rose = λ failed. absurd (over_failed (sym over ∙ failed)) },
  )

-- ---- its node, at the number of its journal

pub counts-at : {S : Type 0} (restored : ℕ → ℕ) (opening : ℕ → Node S) (node : Node S) (number at : ℕ) → at ≡ number → node ≡ opening number → KeepsCounts (restored number) node → KeepsCounts (restored at) (opening at)
counts-at {S} restored opening node number at same is counts =
    subst (λ (n : ℕ). KeepsCounts (restored n) (opening n)) (sym same) (subst (λ (x : Node S). KeepsCounts (restored number) x) is counts)

pub core-at : {S : Type 0} (opening : ℕ → Node S) (node : Node S) (broken : Bool) (number at : ℕ) → at ≡ number → (node ≡ opening number) × (broken ≡ false) → (node ≡ opening at) × (broken ≡ false)
core-at opening node broken number at same is = subst (λ (n : ℕ). (node ≡ opening n) × (broken ≡ false)) (sym same) is
