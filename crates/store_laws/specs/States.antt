-- The state of a store between two device calls, and what the next call makes of it.
use Rattle.std.specs.Prelude.{ℕ, ◌+◌, ◌-◌, ◌^◌, min, max, nat_lt, Bool, true, false, not, cond, List, [], ◌∷◌, ◌++◌, length, drop, map, Option, Some, None}
use Rattle.disk_model.specs.Cells.{Cells, IsImage, settled}
use Rattle.disk_model.specs.DeviceCalls.{made, during}
use Rattle.disk_model.specs.declared.call.DeviceCall.{DeviceCall}
use Rattle.disk_model.specs.declared.call.DeviceCall.TheVariants.{Write, Cut, Sync}
use Rattle.store_form.specs.Spelling.{group_text, checkpoint_text}
use Rattle.batch_log.specs.Exact.{end_opened}
use Rattle.batch_log.specs.LogCalls.{body_text, anew_text, repair_calls, group_calls}
use Rattle.checkpoint_store.specs.Slots.{is_odd, generation_of}
use Rattle.checkpoint_store.specs.SlotCalls.{close_calls, fill_calls, gate_calls}
use Rattle.store_laws.specs.Restored.{Images, log_image, slot_image, side_of, present_in, restores, slot_gate, log_torn}
use Rattle.store_laws.specs.declared.job.Device.{Device}
use Rattle.store_laws.specs.declared.job.Device.TheVariants.{Log, Slot}
use Rattle.store_laws.specs.declared.job.Gate.{Gate}
use Rattle.store_laws.specs.declared.job.Gate.TheVariants.{Absent, Closed, Torn, Open}
use Rattle.store_laws.specs.declared.job.StoreCall.{StoreCall}
use Rattle.store_laws.specs.declared.job.StoreCall.TheVariants.{On, WriteTail}
use Rattle.store_laws.specs.declared.job.Ending.{Ending}
use Rattle.store_laws.specs.declared.job.Ending.TheVariants.{Closes, Repairs, Adds, Switches}
use Rattle.store_laws.specs.declared.job.Tail.{Tail}

-- the contents of the four devices
pub record Devices : Type 0 where
  pub even_log : Cells
  pub odd_log : Cells
  pub even_slot : Cells
  pub odd_slot : Cells

abbrev pub log_at : Bool → Devices → Cells
log_at false d = d.even_log
log_at true d = d.odd_log

abbrev pub slot_at : Bool → Devices → Cells
slot_at false d = d.even_slot
slot_at true d = d.odd_slot

-- devices of which one has other contents
abbrev pub change : (Cells → Cells) → Device → Devices → Devices
change f (Log false) d = record { even_log = f d.even_log; odd_log = d.odd_log; even_slot = d.even_slot; odd_slot = d.odd_slot }
change f (Log true) d = record { even_log = d.even_log; odd_log = f d.odd_log; even_slot = d.even_slot; odd_slot = d.odd_slot }
change f (Slot false) d = record { even_log = d.even_log; odd_log = d.odd_log; even_slot = f d.even_slot; odd_slot = d.odd_slot }
change f (Slot true) d = record { even_log = d.even_log; odd_log = d.odd_log; even_slot = d.even_slot; odd_slot = f d.odd_slot }

abbrev pub cells_on : Device → Devices → Cells
cells_on (Log odd) d = log_at odd d
cells_on (Slot odd) d = slot_at odd d

-- The state of a store. `even` and `odd` are the gates of the slots. `torn` says that the gate after the groups of the present log is not
-- sure to be closed, and `end` is its index. These and `generation` change at a job's end alone: while it runs they are as it found them.
-- `running` are the calls that the running job still makes, and `ending` is what its end makes. At rest `ending` is that of the last job, and
-- says nothing. `adding` are the entries of the running group, and `waiting` those that wait for a group. `asked` is the snapshot of the
-- switch that waits.
pub record StoreState : Type 0 where
  pub devices : Devices
  pub even : Gate
  pub odd : Gate
  pub torn : Bool
  pub end : ℕ
  pub generation : ℕ
  pub running : List StoreCall
  pub ending : Ending
  pub adding : List (List ℕ)
  pub waiting : List (List ℕ)
  pub asked : Option (List ℕ)
  pub restored : ℕ
  pub firm : ℕ

abbrev pub greatest : ℕ
greatest = 2 ^ 64 - 1

abbrev pub side : StoreState → Bool
side s = is_odd s.generation

abbrev pub slot_gate_of : Bool → StoreState → Gate
slot_gate_of false s = s.even
slot_gate_of true s = s.odd

abbrev pub is_torn : Gate → Bool
is_torn Absent = false
is_torn Closed = false
is_torn Torn = true
is_torn Open = false

abbrev pub is_closed : Gate → Bool
is_closed Absent = false
is_closed Closed = true
is_closed Torn = false
is_closed Open = false

abbrev pub some : {A : Type 0} → List A → Bool
some [] = false
some (x ∷ xs) = true

-- ---- the jobs

abbrev pub calls_on : Device → List DeviceCall → List StoreCall
calls_on device calls = map (λ call. On device call) calls

-- The calls of a switch, to the generation whose slot and log are those of `odd`. If the gate of that slot is sure to be closed, nothing is
-- written over it: a 0 over a 0 might leave a 1.
abbrev pub switch_calls : Bool → Gate → List ℕ → List StoreCall
switch_calls odd gate text =
    cond (is_closed gate) [] (calls_on (Slot odd) close_calls)
    ++ (calls_on (Slot odd) (fill_calls text)
    ++ (On (Log odd) (Cut 0) ∷ (WriteTail ∷ (On (Log odd) Sync ∷ calls_on (Slot odd) gate_calls))))

-- the entries that make a group: those before the first one that ends a group
abbrev pub group_of : (List ℕ → Bool) → List (List ℕ) → List (List ℕ)
group_of stops [] = []
group_of stops (entry ∷ entries) = cond (stops entry) [] (entry ∷ group_of stops entries)

-- a store whose job begins with these calls
abbrev pub with_job : List StoreCall → Ending → List (List ℕ) → List (List ℕ) → Option (List ℕ) → StoreState → StoreState
with_job calls ending adding waiting asked s = record {
  devices = s.devices;
  even = s.even;
  odd = s.odd;
  torn = s.torn;
  end = s.end;
  generation = s.generation;
  running = calls;
  ending = ending;
  adding = adding;
  waiting = waiting;
  asked = asked;
  restored = s.restored;
  firm = s.firm;
}

abbrev pub close_begins : Bool → StoreState → StoreState
close_begins odd s = with_job (calls_on (Slot odd) close_calls) (Closes odd) [] s.waiting s.asked s

abbrev pub repair_begins : StoreState → StoreState
repair_begins s = with_job (calls_on (Log (side s)) (repair_calls s.end)) Repairs [] s.waiting s.asked s

abbrev pub switch_begins : List ℕ → StoreState → StoreState
switch_begins snapshot s =
    with_job (switch_calls (not (side s)) (slot_gate_of (not (side s)) s) (checkpoint_text (record { generation = s.generation + 1; snapshot = snapshot }))) (Switches 0 0) [] s.waiting None s

abbrev pub group_begins : List (List ℕ) → StoreState → StoreState
group_begins group s =
    with_job (calls_on (Log (side s)) (group_calls s.end (body_text group))) (Adds (s.end + (1 + length (group_text group)))) group (drop (length group) s.waiting) s.asked s

-- the job that begins if none runs
pub data Begun : Type 0 where
  NoJob : Begun
  Close : Bool → Begun
  Repair : Begun
  Switch : List ℕ → Begun
  AddGroup : List (List ℕ) → Begun

abbrev pub of_group : List (List ℕ) → Begun
of_group [] = NoJob
of_group (entry ∷ entries) = AddGroup (entry ∷ entries)

abbrev pub of_asked : Option (List ℕ) → Begun → Begun
of_asked None next = next
of_asked (Some snapshot) next = Switch snapshot

-- the first job that applies
abbrev pub due_job : (List ℕ → Bool) → StoreState → Begun
due_job stops s =
    cond (is_torn s.even) (Close false)
    (cond (is_torn s.odd) (Close true)
    (cond s.torn Repair
    (of_asked (cond (nat_lt s.generation greatest) s.asked None) (of_group (group_of stops s.waiting)))))

abbrev pub begins : Begun → StoreState → StoreState
begins NoJob s = s
begins (Close odd) s = close_begins odd s
begins Repair s = repair_begins s
begins (Switch snapshot) s = switch_begins snapshot s
begins (AddGroup group) s = group_begins group s

-- the store after the first job that applies has begun, if none runs; no device is called
abbrev pub begun : (List ℕ → Bool) → StoreState → StoreState
begun stops s = cond (some s.running) s (begins (due_job stops s) s)

-- a store with a device call to make
abbrev pub is_due : (List ℕ → Bool) → StoreState → Bool
is_due stops s = some (begun stops s).running

-- ---- the next call

-- the device and the call, if the tail is this one
abbrev pub device_of : StoreState → StoreCall → Device
device_of s (On device call) = device
device_of s WriteTail = Log (not (side s))

abbrev pub call_of : Tail → StoreCall → DeviceCall
call_of tail (On device call) = call
call_of tail WriteTail = Write 0 (anew_text tail.entries)

-- what the end of the job makes, once the tail is written
abbrev pub ending_of : Tail → StoreCall → Ending → Ending
ending_of tail (On device call) ending = ending
ending_of tail WriteTail ending = Switches (1 + length (group_text tail.entries)) tail.made

-- the store after a call of its job, with the calls that are left
abbrev pub advanced : Tail → StoreCall → List StoreCall → StoreState → StoreState
advanced tail call left s = record {
  devices = change (made (call_of tail call)) (device_of s call) s.devices;
  even = s.even;
  odd = s.odd;
  torn = s.torn;
  end = s.end;
  generation = s.generation;
  running = left;
  ending = ending_of tail call s.ending;
  adding = s.adding;
  waiting = s.waiting;
  asked = s.asked;
  restored = s.restored;
  firm = s.firm;
}

abbrev pub closes : Bool → StoreState → StoreState
closes odd s = record {
  devices = s.devices;
  even = cond odd s.even Closed;
  odd = cond odd Closed s.odd;
  torn = s.torn;
  end = s.end;
  generation = s.generation;
  running = [];
  ending = s.ending;
  adding = [];
  waiting = s.waiting;
  asked = s.asked;
  restored = s.restored;
  firm = s.firm;
}

abbrev pub repairs : StoreState → StoreState
repairs s = record {
  devices = s.devices;
  even = s.even;
  odd = s.odd;
  torn = false;
  end = s.end;
  generation = s.generation;
  running = [];
  ending = s.ending;
  adding = [];
  waiting = s.waiting;
  asked = s.asked;
  restored = s.restored;
  firm = s.firm;
}

abbrev pub adds : ℕ → StoreState → StoreState
adds end s = record {
  devices = s.devices;
  even = s.even;
  odd = s.odd;
  torn = false;
  end = end;
  generation = s.generation;
  running = [];
  ending = s.ending;
  adding = [];
  waiting = s.waiting;
  asked = s.asked;
  restored = s.restored;
  firm = min (s.firm + length s.adding) greatest;
}

-- the number of firm entries after a switch whose tail ends with the entry of this number
abbrev pub firm_by : ℕ → StoreState → ℕ
firm_by last s = max s.firm (min (s.restored + last) greatest)

abbrev pub switches : ℕ → ℕ → StoreState → StoreState
switches end last s = record {
  devices = s.devices;
  even = cond (side s) Open s.even;
  odd = cond (side s) s.odd Open;
  torn = false;
  end = end;
  generation = s.generation + 1;
  running = [];
  ending = s.ending;
  adding = [];
  waiting = drop (firm_by last s - s.firm) s.waiting;
  asked = s.asked;
  restored = s.restored;
  firm = firm_by last s;
}

-- the store after its job's last call
abbrev pub ends : Ending → StoreState → StoreState
ends (Closes odd) s = closes odd s
ends Repairs s = repairs s
ends (Adds end) s = adds end s
ends (Switches end last) s = switches end last s

abbrev pub ended : List StoreCall → StoreState → StoreState
ended [] s = ends s.ending s
ended (call ∷ left) s = s

-- the store after the next call of the running job
abbrev pub job_called : Tail → List StoreCall → StoreState → StoreState
job_called tail [] s = s
job_called tail (call ∷ left) s = ended left (advanced tail call left s)

-- the store after its next device call
abbrev pub store_called : (List ℕ → Bool) → Tail → StoreState → StoreState
store_called stops tail s = job_called tail (begun stops s).running (begun stops s)

-- a store whose next call writes the tail
abbrev pub writes_tail : List StoreCall → Bool
writes_tail [] = false
writes_tail (On device call ∷ left) = false
writes_tail (WriteTail ∷ left) = true

abbrev pub wants_tail : StoreState → Bool
wants_tail s = writes_tail s.running

-- ---- what a crash leaves

-- bytes that a crash now may leave
pub record MayLeave (d : Devices) (images : Images) : Type 0 where
  pub logs : (odd : Bool) → IsImage (log_at odd d) (log_image odd images)
  pub slots : (odd : Bool) → IsImage (slot_at odd d) (slot_image odd images)

-- devices of which a crash leaves what a crash during the next call may leave, whether it goes well or fails
abbrev pub devices_during : Tail → List StoreCall → StoreState → Devices
devices_during tail [] s = s.devices
devices_during tail (call ∷ left) s = change (during (call_of tail call)) (device_of s call) s.devices

-- ---- what is given, and a store that is opened

-- the store after it was given entries, which wait
abbrev pub given : List (List ℕ) → StoreState → StoreState
given entries s = with_job s.running s.ending s.adding (s.waiting ++ entries) s.asked s

-- the store after it was asked for a switch; one that waited is forgotten
abbrev pub asked : List ℕ → StoreState → StoreState
asked snapshot s = with_job s.running s.ending s.adding s.waiting (Some snapshot) s

abbrev pub all_settled : Images → Devices
all_settled images = record { even_log = settled images.even_log; odd_log = settled images.odd_log; even_slot = settled images.even_slot; odd_slot = settled images.odd_slot }

-- the store that is opened over these bytes
abbrev pub store_opened : Images → StoreState
store_opened images = record {
  devices = all_settled images;
  even = slot_gate false images.even_slot;
  odd = slot_gate true images.odd_slot;
  torn = log_torn (log_image (side_of (present_in images)) images);
  end = end_opened (log_image (side_of (present_in images)) images);
  generation = generation_of (present_in images);
  running = [];
  ending = Repairs;
  adding = [];
  waiting = [];
  asked = None;
  restored = min (length (restores images).entries) greatest;
  firm = min (length (restores images).entries) greatest;
}
