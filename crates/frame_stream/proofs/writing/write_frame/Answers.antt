use Rattle.frame_stream.proofs.Cutting.{head-part, body-part, given-on, of-refusal}
use Rattle.frame_stream.proofs.writing.write_frame.Goals as goal

pub returns-in_err-write_all-clause-err : goal.returns-in_err-write_all-clause-err
returns-in_err-write_all-clause-err g c = of-refusal c.from_residual.result (head-part _ _ _ c.args.payload.now c.head.ensures c.in_err-write_all.ensures.err)

pub returns-clause-err : goal.returns-clause-err
returns-clause-err g c = given-on c.write_all-2.result (body-part _ _ _ _ c.args.payload.now c.head.ensures c.in_ok-write_all.ensures.ok) c.write_all-2.ensures.err
