use Rattle.std.proofs.Common.{◌∙◌, inl, ℕ, length, Err, refl, sym, ap, subst}
use Rattle.node_rules.specs.declared.node.Parts.{Parts}
use Rattle.member_opening.specs.declared.fault.RestoreFault.{RestoreFault}
use Rattle.member_opening.specs.Restorings.{KeepsCounts}
use Rattle.node_run.specs.Members.{Run}
use Rattle.node_run.specs.declared.status.NodeStatus.TheVariants as ends
use Rattle.node_run.proofs.Refused.{for-restored, none-fell, restore-else}
use Rattle.node_run.proofs.Running.{is-refused, run-over, stays}
use Rattle.node_run.proofs.member.over_store.Goals as goal

-- ---- a life over what was restored

pub live-requires-clause-core : goal.live-requires-clause-core
live-requires-clause-core g c = λ _ _. (
  c.in-Ok.ensures.broken,
  subst (λ (k : ℕ). KeepsCounts k c.in-Ok.core.node) (ap (λ (p : Parts). length p.entries) c.parts_in-parts.ensures ∙ sym c.requires.restored) c.in-Ok.ensures.counts,
)

pub live-requires-clause-restored : goal.live-requires-clause-restored
live-requires-clause-restored g c = λ _ _. c.requires.restored ∙ sym (ap (λ (p : Parts). length p.entries) c.parts_in-parts.ensures)

pub returns-in-Ok-clause-ended : goal.returns-in-Ok-clause-ended
returns-in-Ok-clause-ended g c = λ images restored opens.
    let r : Run g.row.S.Denot =
    record {
      meaning = g.S.Service.meaning;
      settings = c.args.settings.now;
      disk = g.row.D.Denot;
      told = g.D.Disk.told;
      remembers = g.D.Disk.remembers;
      cells = g.D.Disk.cells;
      moment = g.D.Disk.moment;
      left_since = g.D.Disk.left_since;
      images = images;
      left_before = g.I.Source.left c.args.input.now;
      left_after = g.I.Source.left c.live.new.input;
      written_before = g.W.Sink.written c.args.output.now;
      written_after = g.W.Sink.written c.live.new.output;
      sink = g.row.T-Sink.Denot;
      text_of = g.T.Sink.Sink.written;
      trails = record {
        before = g.T.TrailRoom.kept c.args.trails.now;
        after = g.T.TrailRoom.kept c.live.new.trails;
        taken_before = g.T.TrailRoom.taken c.args.trails.now;
        taken_after = g.T.TrailRoom.taken c.live.new.trails;
      };
    } in
    run-over r c.args.kept restored c.parts_in-parts.result c.parts_in-parts.ensures c.in-Ok.core.node c.args.store opens c.live.result.disks c.live.result.status c.in-Ok.ensures.whole c.in-Ok.ensures.node (c.live.ensures.ended images)

-- ---- an entry has no meaning, or there is no memory

pub returns-clause-ended : goal.returns-clause-ended
returns-clause-ended g c = λ images restored opens.
    let r : Run g.row.S.Denot =
    record {
      meaning = g.S.Service.meaning;
      settings = c.args.settings.now;
      disk = g.row.D.Denot;
      told = g.D.Disk.told;
      remembers = g.D.Disk.remembers;
      cells = g.D.Disk.cells;
      moment = g.D.Disk.moment;
      left_since = g.D.Disk.left_since;
      images = images;
      left_before = g.I.Source.left c.args.input.now;
      left_after = g.I.Source.left c.args.input.now;
      written_before = g.W.Sink.written c.args.output.now;
      written_after = g.W.Sink.written c.args.output.now;
      sink = g.row.T-Sink.Denot;
      text_of = g.T.Sink.Sink.written;
      trails = record {
        before = g.T.TrailRoom.kept c.args.trails.now;
        after = g.T.TrailRoom.kept c.args.trails.now;
        taken_before = g.T.TrailRoom.taken c.args.trails.now;
        taken_after = g.T.TrailRoom.taken c.args.trails.now;
      };
    } in
    inl
    (record {
      none = for-restored r c.restore_status.result refl refl (record { kept = refl; taken = refl }) c.in-Err.fault
          (λ entry is. is-refused r c.args.kept restored c.parts_in-parts.result c.parts_in-parts.ensures entry (c.in-Err.ensures.cause entry (ap (λ (f : RestoreFault). Err f) is)))
          c.restore_status.ensures;
      same = λ told. stays g.D.Disk.cells c.args.store.disks c.into_disks.result c.into_disks.ensures;
    })

pub returns-clause-read : goal.returns-clause-read
returns-clause-read g c e = absurd (restore-else c.in-Err.fault ends.ReadFault (λ n e. cc) (λ e. cc) (sym c.restore_status.ensures ∙ e))

pub returns-clause-write : goal.returns-clause-write
returns-clause-write g c e = absurd (restore-else c.in-Err.fault ends.WriteFault (λ n e. cc) (λ e. cc) (sym c.restore_status.ensures ∙ e))

pub returns-clause-trail : goal.returns-clause-trail
returns-clause-trail g c e = absurd (restore-else c.in-Err.fault ends.TrailFault (λ n e. cc) (λ e. cc) (sym c.restore_status.ensures ∙ e))

pub returns-clause-disk : goal.returns-clause-disk
returns-clause-disk g c e = absurd (restore-else c.in-Err.fault ends.DiskFault (λ n e. cc) (λ e. cc) (sym c.restore_status.ensures ∙ e))

pub returns-clause-later : goal.returns-clause-later
returns-clause-later g c = none-fell g.D.Disk.faults c.args.store.disks c.into_disks.result c.into_disks.ensures
