-- A store without the contents of its devices.
use Rattle.std.specs.Prelude.{ℕ, ◌+◌, Bool, not, List, [], ◌∷◌, length}
use Rattle.disk_model.specs.declared.call.DeviceCall.TheVariants.{Write}
use Rattle.store_form.specs.Spelling.{group_text}
use Rattle.batch_log.specs.LogCalls.{anew_text}
use Rattle.store_laws.specs.States.{Devices, StoreState, side, with_job, begun}
use Rattle.store_laws.specs.declared.job.Device.TheVariants.{Log}
use Rattle.store_laws.specs.declared.job.Ending.{Ending}
use Rattle.store_laws.specs.declared.job.Ending.TheVariants.{Switches}
use Rattle.store_laws.specs.declared.job.StoreCall.{StoreCall}
use Rattle.store_laws.specs.declared.job.StoreCall.TheVariants.{On, WriteTail}
use Rattle.store_laws.specs.declared.job.Tail.{Tail}
use Rattle.store_plan.specs.declared.plan.Plan.{Plan}

-- the state of a store with this plan, over these devices
abbrev pub state_with : Plan → Devices → StoreState
state_with p d = record {
  devices = d;
  even = p.even;
  odd = p.odd;
  torn = p.torn;
  end = p.end;
  generation = p.generation;
  running = p.running;
  ending = p.ending;
  adding = p.adding;
  waiting = p.waiting;
  asked = p.asked;
  restored = p.restored;
  firm = p.firm;
}

-- the store if these entries wait
abbrev pub waits : List (List ℕ) → StoreState → StoreState
waits entries s = with_job s.running s.ending s.adding entries s.asked s

-- the store if these calls are left
abbrev pub leaves_calls : List StoreCall → StoreState → StoreState
leaves_calls left s = with_job left s.ending s.adding s.waiting s.asked s

-- the store with the tail that its next call writes, if that call writes one
abbrev pub with_tail : Tail → List StoreCall → StoreState → StoreState
with_tail tail [] s = s
with_tail tail (On device call ∷ left) s = s
with_tail tail (WriteTail ∷ left) s =
    with_job (On (Log (not (side s))) (Write 0 (anew_text tail.entries)) ∷ left) (Switches (1 + length (group_text tail.entries)) tail.made) s.adding s.waiting s.asked s

-- the store with this group under way
abbrev pub leaves_adding : List (List ℕ) → StoreState → StoreState
leaves_adding entries s = with_job s.running s.ending entries s.waiting s.asked s

-- the store if its job makes these calls, and this end
abbrev pub writes : List StoreCall → Ending → StoreState → StoreState
writes calls ending s = with_job calls ending s.adding s.waiting s.asked s

-- the store before its next call: the first job that applies has begun if none ran, and the tail is there if this call writes it
abbrev pub readied : (List ℕ → Bool) → Tail → StoreState → StoreState
readied stops tail s = with_tail tail (begun stops s).running (begun stops s)
