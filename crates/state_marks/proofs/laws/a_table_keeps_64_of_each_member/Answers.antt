use Rattle.state_marks.proofs.Tables.{none_kept, more_kept, others_kept}
use Rattle.state_marks.proofs.laws.a_table_keeps_64_of_each_member.Goals as goal

pub returns : goal.returns
returns c = record { none = none_kept; more = more_kept; others = others_kept }
