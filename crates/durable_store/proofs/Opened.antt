-- The opening of a store over given bytes.
use Rattle.std.proofs.Common.{◌≡◌, ℕ, ◌==◌, min, Bool, true, false, cond, List, [], ◌∷◌, length, Option, Some, None, refl, sym, ◌∙◌, subst}
use Rattle.disk_model.specs.Cells.{Cells}
use Rattle.store_form.specs.declared.checkpoint.Checkpoint.{Checkpoint}
use Rattle.batch_log.specs.Exact.{end_opened}
use Rattle.checkpoint_store.specs.Slots.{slot_of, generation_of}
use Rattle.checkpoint_store.specs.Exact.{slot_opened, counts_or_torn as job_or_torn}
use Rattle.checkpoint_store.specs.declared.job.SlotJob.TheVariants.{Shut}
use Rattle.store_laws.specs.declared.job.Gate.TheVariants.{Closed}
use Rattle.store_laws.specs.declared.job.Ending.TheVariants.{Repairs}
use Rattle.store_laws.specs.declared.job.Kept.{Kept}
use Rattle.store_laws.specs.Restored.{Images, log_image, side_of, present_in, restores, slot_gate, log_torn, counts_or_torn}
use Rattle.store_laws.specs.States.{Devices, StoreState, greatest, all_settled, store_opened}
use Rattle.store_laws.specs.Lives.{StoreWire}
use Rattle.store_laws.specs.Stands.{IsRead, at_rest, instead, StoreStands, IsOwn}
use Rattle.store_laws.proofs.AnyGoes.{any_opened}
use Rattle.store_laws.proofs.Goes.{own_opened}
use Rattle.store_laws.proofs.Restores.{store_restores}
use Rattle.store_plan.specs.declared.plan.Plan.{Plan}
use Rattle.store_plan.specs.Plans.{state_with}
use Rattle.durable_store.specs.Disks.{contents, cells_of, AreSettled, AreSame}
use Rattle.durable_store.specs.Opens.{gate_by}
use Rattle.durable_store.specs.Stores.{Stands}
use Rattle.durable_store.specs.declared.disks.Disks.{Disks}

-- ---- gates

pub slot_gate_is : (odd : Bool) (bytes : List ℕ) → gate_by (slot_opened odd bytes) ≡ slot_gate odd bytes
slot_gate_is odd [] = refl
slot_gate_is odd (gate ∷ rest) = by (gate == 0) (slot_of odd (gate ∷ rest))
  where
    by : (t : Bool) (has : Option Checkpoint) → gate_by (cond t Shut (job_or_torn has)) ≡ cond t Closed (counts_or_torn has)
    by true has = refl
    by false None = refl
    by false (Some x) = refl

-- ---- the state

pub record PlanOpened (p : Plan) (images : Images) : Type 0 where
  pub even : p.even ≡ slot_gate false images.even_slot
  pub odd : p.odd ≡ slot_gate true images.odd_slot
  pub torn : p.torn ≡ log_torn (log_image (side_of (present_in images)) images)
  pub end : p.end ≡ end_opened (log_image (side_of (present_in images)) images)
  pub generation : p.generation ≡ generation_of (present_in images)
  pub running : p.running ≡ []
  pub ending : p.ending ≡ Repairs
  pub adding : p.adding ≡ []
  pub waiting : p.waiting ≡ []
  pub asked : p.asked ≡ None
  pub restored : p.restored ≡ min (length (restores images).entries) greatest
  pub firm : p.firm ≡ min (length (restores images).entries) greatest

pub state_opened : (p : Plan) (images : Images) (d : Devices) → d ≡ all_settled images → PlanOpened p images → state_with p d ≡ store_opened images
state_opened p images d devices o = λ i. record {
  devices = devices i;
  even = o.even i;
  odd = o.odd i;
  torn = o.torn i;
  end = o.end i;
  generation = o.generation i;
  running = o.running i;
  ending = o.ending i;
  adding = o.adding i;
  waiting = o.waiting i;
  asked = o.asked i;
  restored = o.restored i;
  firm = o.firm i;
}

module _ {D : Type 0} (cells : D → Cells) where
  pub same_settled : (old new : Disks D) → AreSettled cells old → AreSame cells old new → cells_of cells new ≡ all_settled (contents cells old)
  same_settled old new sure same = λ i. record { even_log = (same.even_log ∙ sure.even_log) i; odd_log = (same.odd_log ∙ sure.odd_log) i; even_slot = (same.even_slot ∙ sure.even_slot) i; odd_slot = (same.odd_slot ∙ sure.odd_slot) i }

-- ---- what it stands for

module _ (s : StoreState) (images : Images) (is : s ≡ store_opened images) where
  pub opened_keeps : (kept : Kept) → kept ≡ restores images → IsRead (log_image (side_of (present_in images)) images) → (next : Checkpoint) → StoreStands s (at_rest kept (instead (store_opened images) images) next)
  opened_keeps kept kept_is read next =
      subst (λ (q : StoreState). StoreStands q (at_rest kept (instead (store_opened images) images) next)) (sym is)
      (subst (λ (k : Kept). StoreStands (store_opened images) (at_rest k (instead (store_opened images) images) next)) (sym kept_is) (any_opened images next read))

  pub opened_stands : IsRead (log_image (side_of (present_in images)) images) → Stands s
  opened_stands read =
      let next : Checkpoint = record { generation = 0; snapshot = [] } in
      (at_rest (restores images) (instead (store_opened images) images) next, opened_keeps (restores images) refl read next)

  pub opened_lives : (x : Kept) → x ≡ restores images → (kept other : Kept) (next : Checkpoint) → StoreWire images kept other → (x ≡ kept) × IsOwn s (at_rest kept other next)
  opened_lives x x_is kept other next wire = (
    x_is ∙ store_restores images kept other wire,
    subst (λ (q : StoreState). IsOwn q (at_rest kept other next)) (sym is) (own_opened images kept other next wire),
  )
