use Rattle.std.proofs.Common.{◌++◌, take, drop, ◌∷◌, [], suc, get_or}
use Rattle.script_play.specs.Apps.{core_courses}
use Rattle.smart_top.proofs.Feeding.{halted-later, piece-split}
use Rattle.smart_top.proofs.reader.feed.Goals as goal

pub returns-in-Err-clause-halted : goal.returns-in-Err-clause-halted
returns-in-Err-clause-halted g c = λ bytes written taken.
    halted-later core_courses bytes (take c.loop-byte.byte-index c.args.piece.now) (get_or c.args.piece.now c.loop-byte.byte-index 0 ∷ [])
    (drop (suc c.loop-byte.byte-index) c.args.piece.now) c.args.piece.now written _ _ c.in-Err.halt (piece-split c.args.piece.now c.loop-byte.byte-index 0 c.loop-byte-test.true)
    (c.in-Err.ensures.halted (bytes ++ take c.loop-byte.byte-index c.args.piece.now) written (c.loop-byte.invariant.taken bytes written taken))
