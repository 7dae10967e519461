use Rattle.delivery.proofs.Moves.{moved_by, moved_past, moved_took}
use Rattle.delivery.proofs.execute.note.Goals as goal

pub returns-in-None-clause-moved : goal.returns-in-None-clause-moved
returns-in-None-clause-moved c first second third is stays = moved_past first second third c.args.moved.now c.args.done c.in-None.is is stays

pub returns-in_err-push-in-Some-clause-moved : goal.returns-in_err-push-in-Some-clause-moved
returns-in_err-push-in-Some-clause-moved c first second third is goes =
    c.both_moves.ensures first second third (moved_took first second c.args.moved.now c.take.result c.take.ensures.value is) (moved_by second third c.args.done c.in-Some.field-0 c.in-Some.is goes)

pub returns-in_ok-push-in-Some-clause-moved : goal.returns-in_ok-push-in-Some-clause-moved
returns-in_ok-push-in-Some-clause-moved c first second third is goes =
    c.both_moves.ensures first second third (moved_took first second c.args.moved.now c.take.result c.take.ensures.value is) (moved_by second third c.args.done c.in-Some.field-0 c.in-Some.is goes)
