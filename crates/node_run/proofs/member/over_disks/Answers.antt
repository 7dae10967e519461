use Rattle.std.proofs.Common.{◌∙◌, inl, refl, sym, ap, arith}
use Rattle.store_laws.specs.States.{StoreState}
use Rattle.durable_store.specs.Disks.{contents}
use Rattle.durable_store.proofs.Faults.{disk_rose_after, fell_after}
use Rattle.node_run.specs.Members.{Run}
use Rattle.node_run.specs.declared.status.NodeStatus.TheVariants as ends
use Rattle.node_run.proofs.Refused.{for-store, store-else, store-failed}
use Rattle.node_run.proofs.Running.{over-opened}
use Rattle.node_run.proofs.member.over_disks.Goals as goal

-- ---- over the store that was opened

pub over_store-requires-clause-restored : goal.over_store-requires-clause-restored
over_store-requires-clause-restored g c = λ _ _. c.in-Ok.ensures.firm.1

pub over_store-requires-clause-opened : goal.over_store-requires-clause-opened
over_store-requires-clause-opened g c = λ _ _.
    let e = c.in-Ok.ensures in record {
      few = omega (arith, e.firm.1, c.len-restored.ensures.value, c.len-restored.ensures.small);
      firm = e.firm.0 ∙ sym e.firm.1;
      idle = e.idle;
      unasked = e.waiting.1;
      is_open = e.open;
      none = λ told. ap (λ (s : StoreState). s.adding) (e.opened told);
      stands = e.stands;
    }

pub returns-in-Ok-clause-ended : goal.returns-in-Ok-clause-ended
returns-in-Ok-clause-ended g c =
    let r : Run g.row.S.Denot =
    record {
      meaning = g.S.Service.meaning;
      settings = c.args.settings.now;
      disk = g.row.D.Denot;
      told = g.D.Disk.told;
      remembers = g.D.Disk.remembers;
      cells = g.D.Disk.cells;
      moment = g.D.Disk.moment;
      left_since = g.D.Disk.left_since;
      images = contents g.D.Disk.cells c.args.disks;
      left_before = g.I.Source.left c.args.input.now;
      left_after = g.I.Source.left c.over_store.new.input;
      written_before = g.W.Sink.written c.args.output.now;
      written_after = g.W.Sink.written c.over_store.new.output;
      sink = g.row.T-Sink.Denot;
      text_of = g.T.Sink.Sink.written;
      trails = record {
        before = g.T.TrailRoom.kept c.args.trails.now;
        after = g.T.TrailRoom.kept c.over_store.new.trails;
        taken_before = g.T.TrailRoom.taken c.args.trails.now;
        taken_after = g.T.TrailRoom.taken c.over_store.new.trails;
      };
    } in
    over-opened r c.args.disks c.in-Ok.store.disks c.over_store.result.disks c.over_store.result.status c.in-Ok.ensures.same
    (c.over_store.ensures.ended (contents g.D.Disk.cells c.args.disks) c.in-Ok.ensures.kept
    (record {
      firm = c.in-Ok.ensures.firm.0;
      generation = c.in-Ok.ensures.generation;
      waiting = c.in-Ok.ensures.waiting.0;
      is_open = c.in-Ok.ensures.open;
      state = c.in-Ok.ensures.opened;
      stands = c.in-Ok.ensures.stands;
    }))

pub returns-in-Ok-clause-disk : goal.returns-in-Ok-clause-disk
returns-in-Ok-clause-disk g c e = disk_rose_after g.D.Disk.faults _ _ _ c.in-Ok.ensures.later (c.over_store.ensures.disk e)

pub returns-in-Ok-clause-later : goal.returns-in-Ok-clause-later
returns-in-Ok-clause-later g c = fell_after g.D.Disk.faults _ _ _ c.in-Ok.ensures.later c.over_store.ensures.later

-- ---- the store was not opened

pub returns-in-Err-clause-ended : goal.returns-in-Err-clause-ended
returns-in-Err-clause-ended g c =
    let r : Run g.row.S.Denot =
    record {
      meaning = g.S.Service.meaning;
      settings = c.args.settings.now;
      disk = g.row.D.Denot;
      told = g.D.Disk.told;
      remembers = g.D.Disk.remembers;
      cells = g.D.Disk.cells;
      moment = g.D.Disk.moment;
      left_since = g.D.Disk.left_since;
      images = contents g.D.Disk.cells c.args.disks;
      left_before = g.I.Source.left c.args.input.now;
      left_after = g.I.Source.left c.args.input.now;
      written_before = g.W.Sink.written c.args.output.now;
      written_after = g.W.Sink.written c.args.output.now;
      sink = g.row.T-Sink.Denot;
      text_of = g.T.Sink.Sink.written;
      trails = record {
        before = g.T.TrailRoom.kept c.args.trails.now;
        after = g.T.TrailRoom.kept c.args.trails.now;
        taken_before = g.T.TrailRoom.taken c.args.trails.now;
        taken_after = g.T.TrailRoom.taken c.args.trails.now;
      };
    } in
    inl (record { none = for-store r c.store_status.result refl refl (record { kept = refl; taken = refl }) c.in-Err.fault c.store_status.ensures; same = c.in-Err.ensures.back })

pub returns-in-Err-clause-read : goal.returns-in-Err-clause-read
returns-in-Err-clause-read g c e = absurd (store-else c.in-Err.fault ends.ReadFault (λ e. cc) (λ e. cc) (sym c.store_status.ensures ∙ e))

pub returns-in-Err-clause-write : goal.returns-in-Err-clause-write
returns-in-Err-clause-write g c e = absurd (store-else c.in-Err.fault ends.WriteFault (λ e. cc) (λ e. cc) (sym c.store_status.ensures ∙ e))

pub returns-in-Err-clause-trail : goal.returns-in-Err-clause-trail
returns-in-Err-clause-trail g c e = absurd (store-else c.in-Err.fault ends.TrailFault (λ e. cc) (λ e. cc) (sym c.store_status.ensures ∙ e))

pub returns-in-Err-clause-disk : goal.returns-in-Err-clause-disk
returns-in-Err-clause-disk g c e = store-failed g.D.Disk.faults c.args.disks c.in-Err.disks c.in-Err.fault c.in-Err.ensures.cause c.in-Err.ensures.not_closed (sym c.store_status.ensures ∙ e)
