use Rattle.std.proofs.Common.{◌≡◌, ◌∙◌, inr, Err, refl, sym, ap, subst, arith, List, ℕ, drop, true, false}
use Rattle.faults.specs.declared.Fault.{Fault}
use Rattle.checkpoint_store.specs.Slots.{is_odd, generation_of}
use Rattle.store_laws.specs.Restored.{Images, present_in, restores, slot_gate}
use Rattle.store_laws.specs.declared.job.Device.TheVariants.{Log}
use Rattle.log_stream.specs.Stream.{Reads}
use Rattle.durable_store.specs.Disks.{contents, AreSame}
use Rattle.durable_store.proofs.Four.{four_later, four_rose, four_time}
use Rattle.durable_store.proofs.Runs.{fell_on}
use Rattle.durable_store.proofs.Streams.{log_of, log_same, same_on, same_contents, settled_on, time_on, slots_same, slots_time, rose_since}
use Rattle.durable_store.proofs.store.Store.reopen_start.Goals as goal

pub returns-in-Err-clause-back : goal.returns-in-Err-clause-back
returns-in-Err-clause-back g c = λ told. slots_same g.D.Disk.cells g.D.Disk.moment g.D.Disk.left_since c.args.disks (record { even_log = c.args.disks.even_log; odd_log = c.args.disks.odd_log; even_slot = c.read_slots.new.even; odd_slot = c.read_slots.new.odd }) refl refl (c.read_slots.ensures.even_still told) (c.read_slots.ensures.odd_still told)

pub returns-in-Err-clause-back_time : goal.returns-in-Err-clause-back_time
returns-in-Err-clause-back_time g c = λ told. slots_time g.D.Disk.cells g.D.Disk.moment g.D.Disk.left_since c.args.disks (record { even_log = c.args.disks.even_log; odd_log = c.args.disks.odd_log; even_slot = c.read_slots.new.even; odd_slot = c.read_slots.new.odd }) refl refl (c.read_slots.ensures.even_still told) (c.read_slots.ensures.odd_still told)

pub returns-in-Err-clause-back_later : goal.returns-in-Err-clause-back_later
returns-in-Err-clause-back_later g c = (record { even_log = omega arith; odd_log = omega arith; even_slot = c.read_slots.ensures.later.0; odd_slot = c.read_slots.ensures.later.1 })

pub returns-in-Err-clause-back_wants : goal.returns-in-Err-clause-back_wants
returns-in-Err-clause-back_wants g c = (record { even_log = omega arith; odd_log = omega arith; even_slot = c.read_slots.ensures.wants_later.0; odd_slot = c.read_slots.ensures.wants_later.1 })

pub returns-in-Err-clause-cause : goal.returns-in-Err-clause-cause
returns-in-Err-clause-cause g c = λ is. inr (inr (c.in-Err.ensures.cause (ap (λ (f : Fault). Err f) (c.answer_of.ensures.failed is))))

pub returns-in-Err-begin_log-clause-back : goal.returns-in-Err-begin_log-clause-back
returns-in-Err-begin_log-clause-back g c = λ told. same_on g.D.Disk.cells c.args.disks (record { even_log = c.args.disks.even_log; odd_log = c.args.disks.odd_log; even_slot = c.read_slots.new.even; odd_slot = c.read_slots.new.odd }) c.begin_log.new.disks (slots_same g.D.Disk.cells g.D.Disk.moment g.D.Disk.left_since c.args.disks (record { even_log = c.args.disks.even_log; odd_log = c.args.disks.odd_log; even_slot = c.read_slots.new.even; odd_slot = c.read_slots.new.odd }) refl refl (c.read_slots.ensures.even_still told) (c.read_slots.ensures.odd_still told)) (log_same g.D.Disk.cells c.is_odd-is_odd.result (record { even_log = c.args.disks.even_log; odd_log = c.args.disks.odd_log; even_slot = c.read_slots.new.even; odd_slot = c.read_slots.new.odd }) c.begin_log.new.disks c.begin_log.ensures.others (c.begin_log.ensures.still told).same)

pub returns-in-Err-begin_log-clause-back_time : goal.returns-in-Err-begin_log-clause-back_time
returns-in-Err-begin_log-clause-back_time g c = λ told. time_on g.D.Disk.cells g.D.Disk.moment g.D.Disk.left_since c.args.disks (record { even_log = c.args.disks.even_log; odd_log = c.args.disks.odd_log; even_slot = c.read_slots.new.even; odd_slot = c.read_slots.new.odd }) c.begin_log.new.disks (slots_same g.D.Disk.cells g.D.Disk.moment g.D.Disk.left_since c.args.disks (record { even_log = c.args.disks.even_log; odd_log = c.args.disks.odd_log; even_slot = c.read_slots.new.even; odd_slot = c.read_slots.new.odd }) refl refl (c.read_slots.ensures.even_still told) (c.read_slots.ensures.odd_still told)) (log_same g.D.Disk.cells c.is_odd-is_odd.result (record { even_log = c.args.disks.even_log; odd_log = c.args.disks.odd_log; even_slot = c.read_slots.new.even; odd_slot = c.read_slots.new.odd }) c.begin_log.new.disks c.begin_log.ensures.others (c.begin_log.ensures.still told).same) (slots_time g.D.Disk.cells g.D.Disk.moment g.D.Disk.left_since c.args.disks (record { even_log = c.args.disks.even_log; odd_log = c.args.disks.odd_log; even_slot = c.read_slots.new.even; odd_slot = c.read_slots.new.odd }) refl refl (c.read_slots.ensures.even_still told) (c.read_slots.ensures.odd_still told)) (four_time g.D.Disk.moment g.D.Disk.left_since g.D.Disk.cells (Log c.is_odd-is_odd.result) (record { even_log = c.args.disks.even_log; odd_log = c.args.disks.odd_log; even_slot = c.read_slots.new.even; odd_slot = c.read_slots.new.odd }) c.begin_log.new.disks c.begin_log.ensures.others (c.begin_log.ensures.still told).time)

pub returns-in-Err-begin_log-clause-back_later : goal.returns-in-Err-begin_log-clause-back_later
returns-in-Err-begin_log-clause-back_later g c = fell_on g.D.Disk.faults c.args.disks (record { even_log = c.args.disks.even_log; odd_log = c.args.disks.odd_log; even_slot = c.read_slots.new.even; odd_slot = c.read_slots.new.odd }) c.begin_log.new.disks (record { even_log = omega arith; odd_log = omega arith; even_slot = c.read_slots.ensures.later.0; odd_slot = c.read_slots.ensures.later.1 }) (four_later g.D.Disk.faults (Log c.is_odd-is_odd.result) (record { even_log = c.args.disks.even_log; odd_log = c.args.disks.odd_log; even_slot = c.read_slots.new.even; odd_slot = c.read_slots.new.odd }) c.begin_log.new.disks c.begin_log.ensures.others c.begin_log.ensures.cause.later)

pub returns-in-Err-begin_log-clause-back_wants : goal.returns-in-Err-begin_log-clause-back_wants
returns-in-Err-begin_log-clause-back_wants g c = fell_on g.D.Disk.wants c.args.disks (record { even_log = c.args.disks.even_log; odd_log = c.args.disks.odd_log; even_slot = c.read_slots.new.even; odd_slot = c.read_slots.new.odd }) c.begin_log.new.disks (record { even_log = omega arith; odd_log = omega arith; even_slot = c.read_slots.ensures.wants_later.0; odd_slot = c.read_slots.ensures.wants_later.1 }) (four_later g.D.Disk.wants (Log c.is_odd-is_odd.result) (record { even_log = c.args.disks.even_log; odd_log = c.args.disks.odd_log; even_slot = c.read_slots.new.even; odd_slot = c.read_slots.new.odd }) c.begin_log.new.disks c.begin_log.ensures.others c.begin_log.ensures.want.later)

pub returns-in-Err-begin_log-clause-cause : goal.returns-in-Err-begin_log-clause-cause
returns-in-Err-begin_log-clause-cause g c = λ is. rose_since g.D.Disk.faults c.args.disks (record { even_log = c.args.disks.even_log; odd_log = c.args.disks.odd_log; even_slot = c.read_slots.new.even; odd_slot = c.read_slots.new.odd }) c.begin_log.new.disks (record { even_log = omega arith; odd_log = omega arith; even_slot = c.read_slots.ensures.later.0; odd_slot = c.read_slots.ensures.later.1 }) (four_rose g.D.Disk.faults (Log c.is_odd-is_odd.result) (record { even_log = c.args.disks.even_log; odd_log = c.args.disks.odd_log; even_slot = c.read_slots.new.even; odd_slot = c.read_slots.new.odd }) c.begin_log.new.disks (c.in-Err-begin_log.ensures.cause.failed (ap (λ (f : Fault). Err f) (c.answer_of-in-Err-begin_log.ensures.failed is))))

pub returns-in-Ok-begin_log-clause-same : goal.returns-in-Ok-begin_log-clause-same
returns-in-Ok-begin_log-clause-same g c = λ told. same_on g.D.Disk.cells c.args.disks (record { even_log = c.args.disks.even_log; odd_log = c.args.disks.odd_log; even_slot = c.read_slots.new.even; odd_slot = c.read_slots.new.odd }) c.begin_log.new.disks (slots_same g.D.Disk.cells g.D.Disk.moment g.D.Disk.left_since c.args.disks (record { even_log = c.args.disks.even_log; odd_log = c.args.disks.odd_log; even_slot = c.read_slots.new.even; odd_slot = c.read_slots.new.odd }) refl refl (c.read_slots.ensures.even_still told) (c.read_slots.ensures.odd_still told)) (log_same g.D.Disk.cells c.is_odd-is_odd.result (record { even_log = c.args.disks.even_log; odd_log = c.args.disks.odd_log; even_slot = c.read_slots.new.even; odd_slot = c.read_slots.new.odd }) c.begin_log.new.disks c.begin_log.ensures.others (c.begin_log.ensures.still told).same)

pub returns-in-Ok-begin_log-clause-time : goal.returns-in-Ok-begin_log-clause-time
returns-in-Ok-begin_log-clause-time g c = λ told. time_on g.D.Disk.cells g.D.Disk.moment g.D.Disk.left_since c.args.disks (record { even_log = c.args.disks.even_log; odd_log = c.args.disks.odd_log; even_slot = c.read_slots.new.even; odd_slot = c.read_slots.new.odd }) c.begin_log.new.disks (slots_same g.D.Disk.cells g.D.Disk.moment g.D.Disk.left_since c.args.disks (record { even_log = c.args.disks.even_log; odd_log = c.args.disks.odd_log; even_slot = c.read_slots.new.even; odd_slot = c.read_slots.new.odd }) refl refl (c.read_slots.ensures.even_still told) (c.read_slots.ensures.odd_still told)) (log_same g.D.Disk.cells c.is_odd-is_odd.result (record { even_log = c.args.disks.even_log; odd_log = c.args.disks.odd_log; even_slot = c.read_slots.new.even; odd_slot = c.read_slots.new.odd }) c.begin_log.new.disks c.begin_log.ensures.others (c.begin_log.ensures.still told).same) (slots_time g.D.Disk.cells g.D.Disk.moment g.D.Disk.left_since c.args.disks (record { even_log = c.args.disks.even_log; odd_log = c.args.disks.odd_log; even_slot = c.read_slots.new.even; odd_slot = c.read_slots.new.odd }) refl refl (c.read_slots.ensures.even_still told) (c.read_slots.ensures.odd_still told)) (four_time g.D.Disk.moment g.D.Disk.left_since g.D.Disk.cells (Log c.is_odd-is_odd.result) (record { even_log = c.args.disks.even_log; odd_log = c.args.disks.odd_log; even_slot = c.read_slots.new.even; odd_slot = c.read_slots.new.odd }) c.begin_log.new.disks c.begin_log.ensures.others (c.begin_log.ensures.still told).time)

pub returns-in-Ok-begin_log-clause-later : goal.returns-in-Ok-begin_log-clause-later
returns-in-Ok-begin_log-clause-later g c = fell_on g.D.Disk.faults c.args.disks (record { even_log = c.args.disks.even_log; odd_log = c.args.disks.odd_log; even_slot = c.read_slots.new.even; odd_slot = c.read_slots.new.odd }) c.begin_log.new.disks (record { even_log = omega arith; odd_log = omega arith; even_slot = c.read_slots.ensures.later.0; odd_slot = c.read_slots.ensures.later.1 }) (four_later g.D.Disk.faults (Log c.is_odd-is_odd.result) (record { even_log = c.args.disks.even_log; odd_log = c.args.disks.odd_log; even_slot = c.read_slots.new.even; odd_slot = c.read_slots.new.odd }) c.begin_log.new.disks c.begin_log.ensures.others c.begin_log.ensures.cause.later)

pub returns-in-Ok-begin_log-clause-wants_later : goal.returns-in-Ok-begin_log-clause-wants_later
returns-in-Ok-begin_log-clause-wants_later g c = fell_on g.D.Disk.wants c.args.disks (record { even_log = c.args.disks.even_log; odd_log = c.args.disks.odd_log; even_slot = c.read_slots.new.even; odd_slot = c.read_slots.new.odd }) c.begin_log.new.disks (record { even_log = omega arith; odd_log = omega arith; even_slot = c.read_slots.ensures.wants_later.0; odd_slot = c.read_slots.ensures.wants_later.1 }) (four_later g.D.Disk.wants (Log c.is_odd-is_odd.result) (record { even_log = c.args.disks.even_log; odd_log = c.args.disks.odd_log; even_slot = c.read_slots.new.even; odd_slot = c.read_slots.new.odd }) c.begin_log.new.disks c.begin_log.ensures.others c.begin_log.ensures.want.later)

pub returns-in-Ok-begin_log-clause-opens : goal.returns-in-Ok-begin_log-clause-opens
returns-in-Ok-begin_log-clause-opens g c = λ told.
    let same : AreSame g.D.Disk.cells c.args.disks c.begin_log.new.disks = same_on g.D.Disk.cells c.args.disks (record { even_log = c.args.disks.even_log; odd_log = c.args.disks.odd_log; even_slot = c.read_slots.new.even; odd_slot = c.read_slots.new.odd }) c.begin_log.new.disks (slots_same g.D.Disk.cells g.D.Disk.moment g.D.Disk.left_since c.args.disks (record { even_log = c.args.disks.even_log; odd_log = c.args.disks.odd_log; even_slot = c.read_slots.new.even; odd_slot = c.read_slots.new.odd }) refl refl (c.read_slots.ensures.even_still told) (c.read_slots.ensures.odd_still told)) (log_same g.D.Disk.cells c.is_odd-is_odd.result (record { even_log = c.args.disks.even_log; odd_log = c.args.disks.odd_log; even_slot = c.read_slots.new.even; odd_slot = c.read_slots.new.odd }) c.begin_log.new.disks c.begin_log.ensures.others (c.begin_log.ensures.still told).same) in
    let are : contents g.D.Disk.cells c.args.disks ≡ contents g.D.Disk.cells c.begin_log.new.disks = sym (same_contents g.D.Disk.cells c.args.disks c.begin_log.new.disks same) in
    let present = c.in-Ok.ensures.found told ∙ ap present_in are in
    record {
      settled = settled_on g.D.Disk.cells c.args.disks c.begin_log.new.disks (c.requires told) same;
      even = (c.in-Ok.ensures.gates told).0 ∙ ap (λ (x : Images). slot_gate false x.even_slot) are;
      odd = (c.in-Ok.ensures.gates told).1 ∙ ap (λ (x : Images). slot_gate true x.odd_slot) are;
      present = present;
      side = c.is_odd-is_odd.ensures ∙ ap is_odd (c.generation_of-generation.ensures ∙ ap generation_of present);
      reads = subst (λ (bytes : List ℕ). Reads bytes c.in-Ok-begin_log.reader) (log_of g.D.Disk.cells c.is_odd-is_odd.result c.begin_log.new.disks) (c.in-Ok-begin_log.ensures.reads told);
    }

pub returns-in-Ok-begin_log-clause-begins : goal.returns-in-Ok-begin_log-clause-begins
returns-in-Ok-begin_log-clause-begins g c = λ told.
    let same : AreSame g.D.Disk.cells c.args.disks c.begin_log.new.disks = same_on g.D.Disk.cells c.args.disks (record { even_log = c.args.disks.even_log; odd_log = c.args.disks.odd_log; even_slot = c.read_slots.new.even; odd_slot = c.read_slots.new.odd }) c.begin_log.new.disks (slots_same g.D.Disk.cells g.D.Disk.moment g.D.Disk.left_since c.args.disks (record { even_log = c.args.disks.even_log; odd_log = c.args.disks.odd_log; even_slot = c.read_slots.new.even; odd_slot = c.read_slots.new.odd }) refl refl (c.read_slots.ensures.even_still told) (c.read_slots.ensures.odd_still told)) (log_same g.D.Disk.cells c.is_odd-is_odd.result (record { even_log = c.args.disks.even_log; odd_log = c.args.disks.odd_log; even_slot = c.read_slots.new.even; odd_slot = c.read_slots.new.odd }) c.begin_log.new.disks c.begin_log.ensures.others (c.begin_log.ensures.still told).same) in
    λ i. drop (c.in-Ok-begin_log.ensures.restored i) (restores (same_contents g.D.Disk.cells c.args.disks c.begin_log.new.disks same i)).entries
