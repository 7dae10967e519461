use Rattle.std.proofs.Common.{◌∙◌, ap}
use Rattle.checkpoint_store.specs.Slots.{generation_of}
use Rattle.store_laws.specs.Restored.{log_image, side_of, present_in}
use Rattle.durable_store.specs.Disks.{contents, cells_of}
use Rattle.durable_store.proofs.Opened.{state_opened, same_settled}
use Rattle.durable_store.proofs.Streams.{all_same, opening_read, is_read, small_count, few}
use Rattle.durable_store.proofs.opening.Opening.into_parts.Goals as goal

pub returns-clause-counted : goal.returns-clause-counted
returns-clause-counted g c = λ told. (opening_read g.D.Disk.cells c.args.self (c.requires.opens told) c.requires.ended).count

pub returns-clause-read : goal.returns-clause-read
returns-clause-read g c = λ told.
    let images = contents g.D.Disk.cells c.args.self.disks in
    is_read (log_image (side_of (present_in images)) images) c.args.self.reader (opening_read g.D.Disk.cells c.args.self (c.requires.opens told) c.requires.ended)

pub returns-clause-opened : goal.returns-clause-opened
returns-clause-opened g c = λ told.
    let cells = g.D.Disk.cells in
    let o = c.args.self in
    let opens = c.requires.opens told in
    let h = opening_read cells o opens c.requires.ended in
    let plan = c.plan_of-plan.ensures in
    state_opened c.plan_of-plan.result (contents cells o.disks) (cells_of cells o.disks) (same_settled cells o.disks o.disks opens.settled (all_same cells o.disks))
    (record {
      even = plan.gates.0 ∙ opens.even;
      odd = plan.gates.1 ∙ opens.odd;
      torn = plan.log.0 ∙ h.torn;
      end = plan.log.1 ∙ h.end;
      generation = plan.generation ∙ c.generation_of-generation.ensures ∙ ap generation_of opens.present;
      running = plan.idle.0;
      ending = plan.idle.1.0;
      adding = plan.idle.1.1;
      waiting = plan.waiting.0;
      asked = plan.waiting.1;
      restored = plan.counts.0 ∙ few o.reader.restored _ h.count (small_count o.reader);
      firm = plan.counts.1 ∙ few o.reader.restored _ h.count (small_count o.reader);
    })
