use Rattle.std.proofs.Common.{◌∙◌, inl, inr, ℕ, refl, sym, subst}
use Rattle.durable_store.proofs.Faults.{rose_after}
use Rattle.node_run.specs.Members.{Run}
use Rattle.node_run.specs.Rounds.{IsLeftBy}
use Rattle.node_run.specs.declared.status.NodeStatus.TheVariants as ends
use Rattle.node_run.proofs.Closing.{not-stored}
use Rattle.node_run.proofs.Refused.{for-trail, none-fell, trail-else, trail-failed}
use Rattle.node_run.proofs.Running.{keeps-trails, stays}
use Rattle.node_run.proofs.member.live.Goals as goal

-- ---- no memory for the head or for the wires

pub returns-in_default-clause-ended : goal.returns-in_default-clause-ended
returns-in_default-clause-ended g c = λ images.
    inl (record { none = record { why = tt; unread = refl; unwritten = refl; trails = record { kept = refl; taken = refl } }; same = λ told. stays g.D.Disk.cells c.args.store.disks c.into_disks.result c.into_disks.ensures })

pub returns-in_default-clause-later : goal.returns-in_default-clause-later
returns-in_default-clause-later g c = none-fell g.D.Disk.faults c.args.store.disks c.into_disks.result c.into_disks.ensures

-- ---- no sink for the trail

pub returns-in-Err-clause-ended : goal.returns-in-Err-clause-ended
returns-in-Err-clause-ended g c = λ images.
    let r : Run g.row.S.Denot =
    record {
      meaning = g.S.Service.meaning;
      settings = c.args.settings.now;
      disk = g.row.D.Denot;
      told = g.D.Disk.told;
      remembers = g.D.Disk.remembers;
      cells = g.D.Disk.cells;
      moment = g.D.Disk.moment;
      left_since = g.D.Disk.left_since;
      images = images;
      left_before = g.I.Source.left c.args.input.now;
      left_after = g.I.Source.left c.args.input.now;
      written_before = g.W.Sink.written c.args.output.now;
      written_after = g.W.Sink.written c.args.output.now;
      sink = g.row.T-Sink.Denot;
      text_of = g.T.Sink.Sink.written;
      trails = record {
        before = g.T.TrailRoom.kept c.args.trails.now;
        after = g.T.TrailRoom.kept c.get.new.self;
        taken_before = g.T.TrailRoom.taken c.args.trails.now;
        taken_after = g.T.TrailRoom.taken c.get.new.self;
      };
    } in
    inl
    (record {
      none = for-trail r c.trail_status.result refl refl (record { kept = c.in-Err.ensures.refused.1; taken = c.in-Err.ensures.refused.0 }) c.in-Err.fault c.trail_status.ensures;
      same = λ told. stays g.D.Disk.cells c.args.store.disks c.into_disks-in-Err.result c.into_disks-in-Err.ensures;
    })

pub returns-in-Err-clause-refused : goal.returns-in-Err-clause-refused
returns-in-Err-clause-refused g c entry e = trail-else c.in-Err.fault (ends.Store entry) (λ e. cc) (λ e. cc) (sym c.trail_status.ensures ∙ e)

pub returns-in-Err-clause-read : goal.returns-in-Err-clause-read
returns-in-Err-clause-read g c e = absurd (trail-else c.in-Err.fault ends.ReadFault (λ e. cc) (λ e. cc) (sym c.trail_status.ensures ∙ e))

pub returns-in-Err-clause-write : goal.returns-in-Err-clause-write
returns-in-Err-clause-write g c e = absurd (trail-else c.in-Err.fault ends.WriteFault (λ e. cc) (λ e. cc) (sym c.trail_status.ensures ∙ e))

pub returns-in-Err-clause-trail : goal.returns-in-Err-clause-trail
returns-in-Err-clause-trail g c e = trail-failed _ _ c.in-Err.fault c.in-Err.ensures.cause (sym c.trail_status.ensures ∙ e)

pub returns-in-Err-clause-disk : goal.returns-in-Err-clause-disk
returns-in-Err-clause-disk g c e = absurd (trail-else c.in-Err.fault ends.DiskFault (λ e. cc) (λ e. cc) (sym c.trail_status.ensures ∙ e))

pub returns-in-Err-clause-later : goal.returns-in-Err-clause-later
returns-in-Err-clause-later g c = none-fell g.D.Disk.faults c.args.store.disks c.into_disks-in-Err.result c.into_disks-in-Err.ensures

-- ---- a life

pub returns-in-Ok-get-clause-ended : goal.returns-in-Ok-get-clause-ended
returns-in-Ok-get-clause-ended g c = λ images.
    let ended = rw (c.in-Ok.ensures.head, c.as_slice.ensures) at c.run_life-store.ensures.ended in
    inr
    (record {
      begun = ended.begun;
      as_opened = ended.as_opened;
      over = record {
        store = c.run_life-store.result.store;
        left = c.into_disks-in-Ok-get.ensures;
        begun = c.in-Ok-get.sink;
        empty = c.in-Ok-get.ensures.empty;
        told = c.run_life-store.result.sink;
        trail = rw c.as_slice-dir.ensures at c.keep.ensures.text;
        keeps = keeps-trails c.args.settings.now (g.T.TrailRoom.kept c.args.trails.now) (g.T.TrailRoom.kept c.get.new.self) (g.T.TrailRoom.kept c.keep.new.self)
            (g.T.TrailRoom.taken c.args.trails.now) (g.T.TrailRoom.taken c.get.new.self) (g.T.TrailRoom.taken c.keep.new.self)
            (rw c.as_slice-dir.ensures at c.in-Ok-get.ensures.others) (rw c.as_slice-dir.ensures at c.keep.ensures.others)
            (rw c.as_slice-dir.ensures at c.in-Ok-get.ensures.others_taken) (rw c.as_slice-dir.ensures at c.keep.ensures.others_taken)
            (rw c.as_slice-dir.ensures at c.in-Ok-get.ensures.free) (rw c.as_slice-dir.ensures at c.keep.ensures.back);
        life = ended.end;
        rounds = subst (λ (restored : ℕ). IsLeftBy g.D.Disk.told g.D.Disk.remembers g.D.Disk.cells g.D.Disk.moment g.D.Disk.left_since g.S.Service.meaning c.args.core.node ended.end.lived.trail restored c.run_life-store.result.status ended.begun c.run_life-store.result.store) c.requires.restored ended.left_by;
      };
    })

pub returns-in-Ok-get-clause-refused : goal.returns-in-Ok-get-clause-refused
returns-in-Ok-get-clause-refused g c entry e = not-stored _ _ entry c.run_life-store.ensures.ended.end e

pub returns-in-Ok-get-clause-trail : goal.returns-in-Ok-get-clause-trail
returns-in-Ok-get-clause-trail g c e =
    rose_after _ _ _ c.in-Ok-get.ensures.cause.later (c.keep.ensures.rose (g.T.Sink.Sink.faults c.in-Ok-get.sink) c.in-Ok-get.ensures.taken (c.run_life-store.ensures.trail e))

pub returns-in-Ok-get-clause-disk : goal.returns-in-Ok-get-clause-disk
returns-in-Ok-get-clause-disk g c = rw (← c.into_disks-in-Ok-get.ensures) at c.run_life-store.ensures.disk

pub returns-in-Ok-get-clause-later : goal.returns-in-Ok-get-clause-later
returns-in-Ok-get-clause-later g c = rw (← c.into_disks-in-Ok-get.ensures) at c.run_life-store.ensures.later
