use Rattle.std.proofs.KnownBytes.{Appends-kept}
use Rattle.frame_stream.specs.Frames.{framed}
use Rattle.node_ends.proofs.Written.{wrote-all}
use Rattle.node_ends.proofs.outlet.write_message.Goals as goal

pub returns-in-Err-flush-clause-err : goal.returns-in-Err-flush-clause-err
returns-in-Err-flush-clause-err g c =
    wrote-all _ _ (framed c.args.payload.now) (Appends-kept _ _ _ (framed c.args.payload.now) c.in_default.ensures.ok c.in-Err-flush.ensures.bytes)
