-- The next call of a store, from the plan that is ready for it.
use Rattle.std.proofs.Common.{◌≡◌, inl, inr, ⊎_elim, ℕ, Bool, true, false, not, cond, List, [], ◌∷◌, Result, Ok, Err, IfOk, OnOk, OnErr, refl, sym, ◌∙◌, ap, subst, arith}
use Rattle.disk_model.specs.Cells.{Cells}
use Rattle.disk_model.specs.DeviceCalls.{made, during, CanBeMade}
use Rattle.disk_model.specs.declared.call.DeviceCall.{DeviceCall}
use Rattle.store_form.specs.Spelling.{IsGroup, payload}
use Rattle.store_laws.specs.Restored.{Images}
use Rattle.store_laws.specs.States.{Devices, StoreState, change, cells_on, some, writes_tail, Begun, NoJob, Close, Repair, Switch, AddGroup, due_job, begins, begun, ended, job_called, store_called, devices_during, MayLeave}
use Rattle.store_form.specs.declared.ends.LogFault.{LogFault}
use Rattle.store_form.specs.declared.ends.State.TheVariants.{Open}
use Rattle.store_laws.specs.Runs.{CallFits, CallLeaves}
use Rattle.store_laws.specs.Lives.{Either}
use Rattle.store_laws.specs.Stands.{AnyRests, StandsBy, Runs, HasSpelling, aim_called, aim_after}
use Rattle.store_laws.specs.declared.job.Device.{Device}
use Rattle.store_laws.specs.declared.job.StoreCall.{StoreCall}
use Rattle.store_laws.specs.declared.job.StoreCall.TheVariants.{On, WriteTail}
use Rattle.store_laws.specs.declared.job.Tail.{Tail}
use Rattle.store_laws.proofs.Goes.{goes}
use Rattle.store_laws.proofs.AnyGoes.{any_begins}
use Rattle.store_plan.specs.declared.plan.Plan.{Plan}
use Rattle.store_plan.specs.Plans.{state_with, leaves_calls, with_tail, readied}
use Rattle.store_plan.proofs.Due.{nowhere}
use Rattle.store_plan.proofs.Ready.{readied_first, readied_called, readied_during, readied_stands, first_can}
use Rattle.disk_model.specs.Cells.{IsImage, Within}
use Rattle.disk_model.specs.Calls.{Elapses}
use Rattle.durable_store.specs.Disks.{disk_at, OthersSame, OthersBy, cells_of, LeftSince}
use Rattle.durable_store.specs.Stores.{state_of, Stands}
use Rattle.durable_store.specs.Calls.{FirstCan, FirstCalled}
use Rattle.durable_store.specs.Runs.{no_tail}
use Rattle.durable_store.specs.declared.disks.Disks.{Disks}
use Rattle.durable_store.specs.declared.store.Store.{Store}
use Rattle.durable_store.proofs.Four.{at_device, same_others, four_made, four_torn, four_still_moments, four_moments}

pub no_tail_fits : IsGroup []
unfolding payload
no_tail_fits = record { few = omega arith; each = tt; small = omega arith }

-- a plan over the devices that a state has
pub at_devices : (p : Plan) (d : Devices) (q : StoreState) → state_with p d ≡ q → state_with p q.devices ≡ q
at_devices p d q is = ap (λ (e : Devices). state_with p e) (sym (ap (λ (s : StoreState). s.devices) is)) ∙ is

-- ---- the devices that a call leaves alone

abbrev device_in : Device → List StoreCall → Device
device_in none [] = none
device_in none (On device call ∷ left) = device
device_in none (WriteTail ∷ left) = none

first_others : {D : Type 0} (tail : Tail) (calls : List StoreCall) (s : StoreState) (device : Device) (call : DeviceCall) (left : List StoreCall) (before after : Disks D) → s.running ≡ calls → (with_tail tail calls s).running ≡ On device call ∷ left → OthersSame device before after
    → OthersBy s calls before after
first_others tail [] s device call left before after is first same =
    let clash : [] ≡ On device call ∷ left = sym is ∙ first in
    absurd cc
first_others tail (On there made_there ∷ more) s device call left before after is first same = subst (λ (x : Device). OthersSame x before after) (sym (ap (λ (calls : List StoreCall). device_in device calls) (sym is ∙ first))) same
first_others tail (WriteTail ∷ more) s device call left before after is first same = subst (λ (x : Device). OthersSame x before after) (sym (ap (λ (calls : List StoreCall). device_in device calls) first)) same

module _ (stops : List ℕ → Bool) (tail : Tail) (old now : Plan) (ready : (d : Devices) → state_with now d ≡ readied stops tail (state_with old d)) where
  pub next_others : {D : Type 0} (device : Device) (call : DeviceCall) (left : List StoreCall) → now.running ≡ On device call ∷ left → (before after : Disks D) → OthersSame device before after → (d : Devices)
      → OthersBy (begun stops (state_with old d)) (begun stops (state_with old d)).running before after
  next_others device call left first before after same d =
      first_others tail (begun stops (state_with old d)).running (begun stops (state_with old d)) device call left before after refl (sym (ap (λ (q : StoreState). q.running) (ready d)) ∙ first) same

  -- nothing is due
  pub still_called : now.running ≡ [] → (d : Devices) → state_with now d ≡ store_called stops tail (state_with old d)
  still_called idle d =
      ap (λ (calls : List StoreCall). job_called tail calls (state_with now d)) (sym idle)
      ∙ ap (λ (q : StoreState). job_called tail q.running q) (ready d)
      ∙ readied_called stops tail (state_with old d)

  module _ (device : Device) (call : DeviceCall) (left : List StoreCall) (first : now.running ≡ On device call ∷ left) where
    -- the state after a call that goes well
    pub next_called : (new : Plan) → ((d : Devices) (c : StoreCall) (l : List StoreCall) → now.running ≡ c ∷ l → state_with new d ≡ ended l (leaves_calls l (state_with now d)))
        → (d : Devices) → state_with new (change (made call) device d) ≡ store_called stops tail (state_with old d)
    next_called new advance d =
        advance (change (made call) device d) (On device call) left first
        ∙ ap (λ (calls : List StoreCall). job_called tail calls (state_with now d)) (sym first)
        ∙ ap (λ (q : StoreState). job_called tail q.running q) (ready d)
        ∙ readied_called stops tail (state_with old d)

    -- the devices during the call
    pub next_during : (d : Devices) → change (during call) device d ≡ devices_during tail (begun stops (state_with old d)).running (begun stops (state_with old d))
    next_during d =
        ap (λ (calls : List StoreCall). devices_during tail calls (state_with now d)) (sym first)
        ∙ ap (λ (q : StoreState). devices_during tail q.running q) (ready d)
        ∙ readied_during stops tail (state_with old d)

    module _ (d : Devices) (spelled : some old.running ≡ false → HasSpelling (due_job stops (state_with old d))) (fits : writes_tail old.running ≡ true → IsGroup tail.entries) (stands : Stands (state_with old d)) where
      ready_stands : Stands (state_with now d)
      ready_stands =
          let has = readied_stands Either AnyRests any_begins stops tail (state_with old d) stands.0 spelled fits stands.1 in
          subst (λ (q : StoreState). Stands q) (sym (ready d)) (has.0, has.1)

      -- the call can be made
      pub next_can : CanBeMade call (cells_on device d)
      next_can = first_can Either AnyRests (state_with now d) ready_stands.0 device call left no_tail no_tail_fits first ready_stands.1

      -- and the store stands after it
      pub next_stands : (new : Plan) → ((e : Devices) (c : StoreCall) (l : List StoreCall) → now.running ≡ c ∷ l → state_with new e ≡ ended l (leaves_calls l (state_with now e))) → Stands (state_with new (change (made call) device d))
      next_stands new advance =
          let has = ready_stands in
          let runs : Runs Either AnyRests (On device call ∷ left) (state_with now d) has.0 = subst (λ (calls : List StoreCall). StandsBy Either AnyRests calls (state_with now d) has.0) first has.1 in
          let then = goes Either AnyRests (state_with now d) has.0 no_tail (On device call) left no_tail_fits runs in
          let next : Stands (job_called no_tail (On device call ∷ left) (state_with now d)) = (aim_after left then.0 (aim_called no_tail (On device call) left has.0), then.1) in
          subst (λ (q : StoreState). Stands q) (sym (advance (change (made call) device d) (On device call) left first)) next

  -- where nothing is due, the store stands as it did
  pub still_stands : (d : Devices) → (some old.running ≡ false → HasSpelling (due_job stops (state_with old d))) → (writes_tail old.running ≡ true → IsGroup tail.entries) → Stands (state_with old d) → Stands (state_with now d)
  still_stands d spelled fits stands =
      let has = readied_stands Either AnyRests any_begins stops tail (state_with old d) stands.0 spelled fits stands.1 in
      subst (λ (q : StoreState). Stands q) (sym (ready d)) (has.0, has.1)

  -- ---- over devices

  module _ {D : Type 0} (cells : D → Cells) (before after : Disks D) (device : Device) (call : DeviceCall) (left : List StoreCall) (first : now.running ≡ On device call ∷ left) where
    -- the call can be made
    pub disk_can : (some old.running ≡ false → HasSpelling (due_job stops (state_with old (cells_of cells before)))) → (writes_tail old.running ≡ true → IsGroup tail.entries) → Stands (state_with old (cells_of cells before))
        → CanBeMade call (cells (disk_at device before))
    disk_can spelled fits stands = subst (λ (c : Cells). CanBeMade call c) (sym (at_device cells device before)) (next_can device call left first (cells_of cells before) spelled fits stands)

    module _ (same : OthersSame device before after) where
      -- what a crash leaves after the call, and at any moment of it
      pub disk_crash : (some old.running ≡ false → HasSpelling (due_job stops (state_with old (cells_of cells before)))) → (writes_tail old.running ≡ true → IsGroup tail.entries)
          → Within (cells (disk_at device after)) (during call (cells (disk_at device before))) → (images : Images) → MayLeave (cells_of cells after) images → CallLeaves stops tail (state_with old (cells_of cells before)) images
      disk_crash spelled fits within images m =
          inr ((spelled, fits), subst (λ (d : Devices). MayLeave d images) (next_during device call left first (cells_of cells before)) (four_torn cells (during call) device before after same within images m))

      pub disk_moments : (some old.running ≡ false → HasSpelling (due_job stops (state_with old (cells_of cells before)))) → (writes_tail old.running ≡ true → IsGroup tail.entries)
          → (moment : D → ℕ) (left_since : D → ℕ → List ℕ → Type 0) → ((disk : D) (c : List ℕ) → left_since disk (moment disk) c → IsImage (cells disk) c)
          → Elapses (moment (disk_at device before)) (moment (disk_at device after)) (left_since (disk_at device before)) (left_since (disk_at device after)) (IsImage (cells (disk_at device after)))
          → Within (cells (disk_at device after)) (during call (cells (disk_at device before))) → (images : Images) → LeftSince moment left_since before after images → CallLeaves stops tail (state_with old (cells_of cells before)) images
      disk_moments spelled fits moment left_since only goes within images l =
          ⊎_elim (λ (m : MayLeave (cells_of cells before) images). inl m) (λ (m : MayLeave (cells_of cells after) images). disk_crash spelled fits within images m)
          (four_moments moment left_since cells only device before after same goes images l)

      module _ (new : Plan) (advance : (d : Devices) (c : StoreCall) (l : List StoreCall) → now.running ≡ c ∷ l → state_with new d ≡ ended l (leaves_calls l (state_with now d))) where
        -- the state after a call that goes well, whatever the devices hold
        pub plan_called : (d : Devices) → state_with new (store_called stops tail (state_with old d)).devices ≡ store_called stops tail (state_with old d)
        plan_called d = at_devices new (change (made call) device d) (store_called stops tail (state_with old d)) (next_called device call left first new advance d)

        module _ (is : cells (disk_at device after) ≡ made call (cells (disk_at device before))) where
          pub disk_made : cells_of cells after ≡ (store_called stops tail (state_with old (cells_of cells before))).devices
          disk_made =
              four_made cells (made call) device before after same is
              ∙ ap (λ (s : StoreState). s.devices) (next_called device call left first new advance (cells_of cells before))

          pub disk_stands : (some old.running ≡ false → HasSpelling (due_job stops (state_with old (cells_of cells before)))) → (writes_tail old.running ≡ true → IsGroup tail.entries)
              → Stands (state_with old (cells_of cells before)) → Stands (state_with new (cells_of cells after))
          disk_stands spelled fits stands =
              subst (λ (d : Devices). Stands (state_with new d)) (sym (four_made cells (made call) device before after same is)) (next_stands device call left first (cells_of cells before) spelled fits stands new advance)

  -- where nothing is due
  pub plan_still : now.running ≡ [] → (d : Devices) → state_with now (store_called stops tail (state_with old d)).devices ≡ store_called stops tail (state_with old d)
  plan_still idle d = at_devices now d (store_called stops tail (state_with old d)) (still_called idle d)

  pub disk_still : {D : Type 0} (cells : D → Cells) (disks : Disks D) → now.running ≡ [] → cells_of cells disks ≡ (store_called stops tail (state_with old (cells_of cells disks))).devices
  disk_still cells disks idle = ap (λ (s : StoreState). s.devices) (still_called idle (cells_of cells disks))

-- ---- what a plan that is ready has kept

tail_firm : (tail : Tail) (calls : List StoreCall) (s : StoreState) → (with_tail tail calls s).firm ≡ s.firm
tail_firm tail [] s = refl
tail_firm tail (On device call ∷ left) s = refl
tail_firm tail (WriteTail ∷ left) s = refl

tail_generation : (tail : Tail) (calls : List StoreCall) (s : StoreState) → (with_tail tail calls s).generation ≡ s.generation
tail_generation tail [] s = refl
tail_generation tail (On device call ∷ left) s = refl
tail_generation tail (WriteTail ∷ left) s = refl

pub begins_firm : (job : Begun) (s : StoreState) → (begins job s).firm ≡ s.firm
begins_firm NoJob s = refl
begins_firm (Close odd) s = refl
begins_firm Repair s = refl
begins_firm (Switch snapshot) s = refl
begins_firm (AddGroup group) s = refl

begins_generation : (job : Begun) (s : StoreState) → (begins job s).generation ≡ s.generation
begins_generation NoJob s = refl
begins_generation (Close odd) s = refl
begins_generation Repair s = refl
begins_generation (Switch snapshot) s = refl
begins_generation (AddGroup group) s = refl

pub begun_firm : (stops : List ℕ → Bool) (s : StoreState) → (begun stops s).firm ≡ s.firm
begun_firm stops s = by (some s.running)
  where
    by : (t : Bool) → (cond t s (begins (due_job stops s) s)).firm ≡ s.firm
    by true = refl
    by false = begins_firm (due_job stops s) s

begun_generation : (stops : List ℕ → Bool) (s : StoreState) → (begun stops s).generation ≡ s.generation
begun_generation stops s = by (some s.running)
  where
    by : (t : Bool) → (cond t s (begins (due_job stops s) s)).generation ≡ s.generation
    by true = refl
    by false = begins_generation (due_job stops s) s

pub ready_held : (stops : List ℕ → Bool) (tail : Tail) (old now : Plan) → ((d : Devices) → state_with now d ≡ readied stops tail (state_with old d)) → (now.firm ≡ old.firm) × (now.generation ≡ old.generation)
ready_held stops tail old now ready = (
  ap (λ (q : StoreState). q.firm) (ready nowhere) ∙ tail_firm tail (begun stops (state_with old nowhere)).running (begun stops (state_with old nowhere)) ∙ begun_firm stops (state_with old nowhere),
  ap (λ (q : StoreState). q.generation) (ready nowhere) ∙ tail_generation tail (begun stops (state_with old nowhere)).running (begun stops (state_with old nowhere)) ∙ begun_generation stops (state_with old nowhere),
)

-- ---- the call that was made, or none

on_ok : {T E : Type 0} (r : Result T E) (X : Type 0) → X → OnOk r X
on_ok (Ok x) X is = is
on_ok (Err e) X is = tt

on_both : {T E : Type 0} (r : Result T E) (X Y Z : Type 0) → (X → Y → Z) → OnOk r X → OnOk r Y → OnOk r Z
on_both (Ok x) X Y Z f is also = f is also
on_both (Err e) X Y Z f is also = tt

on_error : {T E : Type 0} (r : Result T E) (X Y : Type 0) → (X → Y) → OnErr r X → OnErr r Y
on_error (Ok x) X Y f is = tt
on_error (Err e) X Y f is = f is

-- what holds after a call that went well holds of a store that is open, since a fault closes it
where_open : {T E : Type 0} (r : Result T E) (X Y Z W : Type 0) → (X → Y → Z) → OnOk r X → OnOk r Y → OnErr r (W → ⊥) → W → Z
where_open (Ok x) X Y Z W f is also shut is_open = f is also
where_open (Err e) X Y Z W f is also shut is_open = absurd (shut is_open)

module _ {D : Type 0} (told : Type 0) (cells : D → Cells) (moment : D → ℕ) (left_since : D → ℕ → List ℕ → Type 0) (stops : List ℕ → Bool) (tail : Tail) (old : Plan) (ready : Store D)
    (is_ready : (d : Devices) → state_with ready.plan d ≡ readied stops tail (state_with old d)) where
  pub first_there : writes_tail ready.plan.running ≡ false
  first_there = ap (λ (q : StoreState). writes_tail q.running) (is_ready nowhere) ∙ readied_first stops tail (state_with old nowhere)

  module _ (fits : (d : Devices) → CallFits stops tail (state_with old d)) where
    pub first_goes : Stands (state_with old (cells_of cells ready.disks)) → FirstCan ready.plan.running (cells_of cells ready.disks)
    first_goes stands = by ready.plan.running refl
      where
        by : (calls : List StoreCall) → ready.plan.running ≡ calls → FirstCan calls (cells_of cells ready.disks)
        by [] is = tt
        by (On device call ∷ left) is = next_can stops tail old ready.plan is_ready device call left is (cells_of cells ready.disks) (fits (cells_of cells ready.disks)).0 (fits (cells_of cells ready.disks)).1 stands
        by (WriteTail ∷ left) is = tt

    module _ (new : Store D) (result : Result Bool LogFault) where
      pub went_called : FirstCalled told cells moment left_since ready new result
          → OnOk result ((d : Devices) → state_with new.plan (store_called stops tail (state_with old d)).devices ≡ store_called stops tail (state_with old d))
      went_called (inl w) =
          on_ok result ((d : Devices) → state_with new.plan (store_called stops tail (state_with old d)).devices ≡ store_called stops tail (state_with old d))
          (subst (λ (q : Store D). (d : Devices) → state_with q.plan (store_called stops tail (state_with old d)).devices ≡ store_called stops tail (state_with old d)) (sym w.same) (plan_still stops tail old ready.plan is_ready w.idle))
      went_called (inr w) =
          on_both result ((d : Devices) (c : StoreCall) (l : List StoreCall) → ready.plan.running ≡ c ∷ l → state_with new.plan d ≡ ended l (leaves_calls l (state_with ready.plan d)))
          ((d : Devices) (c : StoreCall) (l : List StoreCall) → ready.plan.running ≡ c ∷ l → state_with new.plan d ≡ ended l (leaves_calls l (state_with ready.plan d)))
          ((d : Devices) → state_with new.plan (store_called stops tail (state_with old d)).devices ≡ store_called stops tail (state_with old d))
          (λ next also. plan_called stops tail old ready.plan is_ready cells ready.disks new.disks w.device w.call w.left w.first w.others new.plan next) w.next w.next

      pub went_made : FirstCalled told cells moment left_since ready new result
          → OnOk result (told → cells_of cells new.disks ≡ (store_called stops tail (state_with old (cells_of cells ready.disks))).devices)
      went_made (inl w) =
          on_ok result (told → cells_of cells new.disks ≡ (store_called stops tail (state_with old (cells_of cells ready.disks))).devices)
          (λ t. subst (λ (q : Store D). cells_of cells q.disks ≡ (store_called stops tail (state_with old (cells_of cells ready.disks))).devices) (sym w.same) (disk_still stops tail old ready.plan is_ready cells ready.disks w.idle))
      went_made (inr w) =
          on_both result ((d : Devices) (c : StoreCall) (l : List StoreCall) → ready.plan.running ≡ c ∷ l → state_with new.plan d ≡ ended l (leaves_calls l (state_with ready.plan d)))
          (told → cells (disk_at w.device new.disks) ≡ made w.call (cells (disk_at w.device ready.disks)))
          (told → cells_of cells new.disks ≡ (store_called stops tail (state_with old (cells_of cells ready.disks))).devices)
          (λ next is t. disk_made stops tail old ready.plan is_ready cells ready.disks new.disks w.device w.call w.left w.first w.others new.plan next (is t)) w.next w.made

      pub went_done : FirstCalled told cells moment left_since ready new result → IfOk result (λ done. done ≡ not (some new.plan.running))
      went_done (inl w) =
          subst (λ (r : Result Bool LogFault). IfOk r (λ done. done ≡ not (some new.plan.running))) (sym w.done)
          (sym (ap (λ (q : Store D). not (some q.plan.running)) w.same ∙ ap (λ (calls : List StoreCall). not (some calls)) w.idle))
      went_done (inr w) = w.done

      pub went_one : FirstCalled told cells moment left_since ready new result → (d : Devices) → OthersBy (begun stops (state_with old d)) (begun stops (state_with old d)).running ready.disks new.disks
      went_one (inl w) d =
          subst (λ (q : Store D). OthersBy (begun stops (state_with old d)) (begun stops (state_with old d)).running ready.disks q.disks) (sym w.same) (same_others (begun stops (state_with old d)) (begun stops (state_with old d)).running ready.disks)
      went_one (inr w) d = next_others stops tail old ready.plan is_ready w.device w.call w.left w.first ready.disks new.disks w.others d

      pub went_unchanged : (X : Type 0) → FirstCalled told cells moment left_since ready new result → OnErr result (new.state ≡ Open → X)
      went_unchanged X (inl w) = subst (λ (r : Result Bool LogFault). OnErr r (new.state ≡ Open → X)) (sym w.done) tt
      went_unchanged X (inr w) = on_error result (new.state ≡ Open → ⊥) (new.state ≡ Open → X) (λ shut is_open. absurd (shut is_open)) w.shut

      pub went_held : FirstCalled told cells moment left_since ready new result → OnErr result ((new.plan.firm ≡ old.firm) × (new.plan.generation ≡ old.generation))
      went_held (inl w) = subst (λ (r : Result Bool LogFault). OnErr r ((new.plan.firm ≡ old.firm) × (new.plan.generation ≡ old.generation))) (sym w.done) tt
      went_held (inr w) =
          on_error result (new.plan ≡ ready.plan) ((new.plan.firm ≡ old.firm) × (new.plan.generation ≡ old.generation))
          (λ same. subst (λ (p : Plan). (p.firm ≡ old.firm) × (p.generation ≡ old.generation)) (sym same) (ready_held stops tail old ready.plan is_ready)) w.same

      pub went_crash : FirstCalled told cells moment left_since ready new result → told → (images : Images) → MayLeave (cells_of cells new.disks) images → CallLeaves stops tail (state_with old (cells_of cells ready.disks)) images
      went_crash (inl w) t images m = inl (subst (λ (q : Store D). MayLeave (cells_of cells q.disks) images) w.same m)
      went_crash (inr w) t images m =
          disk_crash stops tail old ready.plan is_ready cells ready.disks new.disks w.device w.call w.left w.first w.others (fits (cells_of cells ready.disks)).0 (fits (cells_of cells ready.disks)).1 (w.torn t) images m

      pub went_moments : ((disk : D) (c : List ℕ) → left_since disk (moment disk) c → IsImage (cells disk) c) → FirstCalled told cells moment left_since ready new result → told → (images : Images) → LeftSince moment left_since ready.disks new.disks images
          → CallLeaves stops tail (state_with old (cells_of cells ready.disks)) images
      went_moments only (inl w) t images l =
          inl (four_still_moments moment left_since cells only ready.disks images (subst (λ (q : Store D). LeftSince moment left_since ready.disks q.disks images) w.same l))
      went_moments only (inr w) t images l =
          disk_moments stops tail old ready.plan is_ready cells ready.disks new.disks w.device w.call w.left w.first w.others (fits (cells_of cells ready.disks)).0 (fits (cells_of cells ready.disks)).1 moment left_since only w.time (w.torn t) images l

      pub went_stands : (told → Stands (state_with old (cells_of cells ready.disks))) → FirstCalled told cells moment left_since ready new result → new.state ≡ Open → told → Stands (state_of cells new)
      went_stands stood (inl w) is_open t =
          subst (λ (q : Store D). Stands (state_of cells q)) (sym w.same)
          (still_stands stops tail old ready.plan is_ready (cells_of cells ready.disks) (fits (cells_of cells ready.disks)).0 (fits (cells_of cells ready.disks)).1 (stood t))
      went_stands stood (inr w) is_open t =
          where_open result ((d : Devices) (c : StoreCall) (l : List StoreCall) → ready.plan.running ≡ c ∷ l → state_with new.plan d ≡ ended l (leaves_calls l (state_with ready.plan d)))
          (told → cells (disk_at w.device new.disks) ≡ made w.call (cells (disk_at w.device ready.disks))) (Stands (state_of cells new)) (new.state ≡ Open)
          (λ next is. disk_stands stops tail old ready.plan is_ready cells ready.disks new.disks w.device w.call w.left w.first w.others new.plan next (is t) (fits (cells_of cells ready.disks)).0 (fits (cells_of cells ready.disks)).1 (stood t))
          w.next w.made w.shut is_open
