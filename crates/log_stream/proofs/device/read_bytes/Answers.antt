use Rattle.std.proofs.Common.{arith}
use Rattle.log_stream.proofs.Pieces.{read_on, read_more}
use Rattle.log_stream.proofs.device.read_bytes.Goals as goal

pub loop-done-preserved : goal.loop-done-preserved
loop-done-preserved g c =
    let i = c.loop-done.invariant in
    record {
      within = omega (arith, i.within, c.least-next.ensures);
      read = λ told.
          read_more (g.D.Disk.cells c.args.device.now) (g.D.Disk.cells c.loop-done.device) c.loop-done.bytes.items c.push_piece.new.bytes.items c.in_ok-piece.piece c.as_slice.result.now c.args.at c.loop-done.done c.least-next.result
          (i.still told).same (i.read told) (c.in_ok-piece.ensures.bytes told) c.as_slice.ensures c.in_ok-push_piece.ensures.ok;
      still = λ told. read_on g.D.Disk.cells g.D.Disk.moment g.D.Disk.left_since c.args.device.now c.loop-done.device c.read.new.self (i.still told) (record { same = c.read.ensures.same told; time = c.read.ensures.time });
      faults = omega (arith, i.faults, c.read.ensures.cause.later);
      wants = omega (arith, i.wants, c.read.ensures.want.later);
    }
