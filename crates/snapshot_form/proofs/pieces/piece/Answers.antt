use Rattle.std.proofs.Common.{arith}
use Rattle.std.proofs.lemmas.Bool.Decides.{nat_tests}
use Rattle.snapshot_form.proofs.Joined.{last_piece}
use Rattle.snapshot_form.proofs.pieces.piece.Goals as goal

pub returns-then-rest-le-PIECE_BYTES : goal.returns-then-rest-le-PIECE_BYTES
returns-then-rest-le-PIECE_BYTES c =
    last_piece c.args.bytes.now c.split_at.result.1.now c.args.i (grind (arith, nat_tests, c.if-bytes-start.false)) c.split_at.ensures.back
    (grind (arith, nat_tests, c.if-rest-le-PIECE_BYTES.true))
