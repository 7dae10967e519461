use Rattle.std.proofs.Common.{refl, ◌∙◌, ap, arith}
use Rattle.checkpoint_store.specs.Slots.{is_odd}
use Rattle.checkpoint_store.specs.Stores.{slot}
use Rattle.checkpoint_store.specs.SlotJobs.{slot_stake, end_of}
use Rattle.checkpoint_store.proofs.Phases.{stakes}
use Rattle.checkpoint_store.proofs.Runs.{end_after, reaches, reaches_further, reached_leaves, call_leaves, begins, goes_further}
use Rattle.checkpoint_store.proofs.store.CheckpointStore.run.Goals as goal

pub loop-self-init : goal.loop-self-init
loop-self-init g c =
    let odd = is_odd c.args.generation in
    let own = slot c.args.generation c.args.self.now in
    record {
      is_open = c.requires.open;
      ends = refl;
      underway = c.requires.stands;
      stands = λ told next has other s. reaches odd (g.D.Disk.cells own.device) own.job next has other s;
      moments = λ told remembers next has other s.
          begins g.D.Disk.moment g.D.Disk.left_since g.D.Disk.cells odd own.device has (slot_stake own.job next other)
          (stakes odd (g.D.Disk.cells own.device) own.job next has other s) (g.met.D.Disk.only_now remembers own.device);
      apart = refl;
      later = omega arith;
      wants = omega arith;
    }

pub loop-self-preserved : goal.loop-self-preserved
loop-self-preserved g c =
    let i = c.loop-self.invariant in
    let e = c.in_ok-next_call.ensures in
    let odd = is_odd c.args.generation in
    let first = slot c.args.generation c.args.self.now in
    let old = slot c.args.generation c.loop-self.self in
    let new = slot c.args.generation c.next_call.new.self in
    record {
      is_open = e.closes.1;
      ends = ap end_of e.next ∙ end_after old.job ∙ i.ends;
      underway = e.underway;
      stands = λ told next has other s.
          let r = i.stands told next has other s in
          reaches_further odd (g.D.Disk.cells old.device) (g.D.Disk.cells new.device) first.job old.job new.job next has other e.next r (e.goes told next r.now r.instead r.stands);
      moments = λ told remembers next has other s.
          let r = i.stands told next has other s in
          goes_further g.D.Disk.moment g.D.Disk.left_since g.D.Disk.cells odd first.device old.device new.device has (slot_stake first.job next other) (i.moments told remembers next has other s) e.time
          (call_leaves odd (g.D.Disk.cells old.device) (g.D.Disk.cells new.device) first.job old.job next has other r (e.crash told next r.now r.instead r.stands));
      apart = e.beside ∙ i.apart;
      later = omega (arith, i.later, e.later);
      wants = omega (arith, i.wants, e.wants_later);
    }

pub returns-clause-crash : goal.returns-clause-crash
returns-clause-crash g c = λ told next has other s.
    let first = slot c.args.generation c.args.self.now in
    let own = slot c.args.generation c.loop-self.self in
    reached_leaves (is_odd c.args.generation) (g.D.Disk.cells own.device) first.job own.job next has other (c.loop-self.invariant.stands told next has other s)
