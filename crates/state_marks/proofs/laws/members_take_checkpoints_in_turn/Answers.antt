use Rattle.state_marks.proofs.Turns.{own_turn, within_period, only_turn, alone_turn, marks_of_some}
use Rattle.state_marks.proofs.laws.members_take_checkpoints_in_turn.Goals as goal

pub returns : goal.returns
returns c = record { own = own_turn; within = within_period; only = only_turn; alone = alone_turn; marked = marks_of_some }
