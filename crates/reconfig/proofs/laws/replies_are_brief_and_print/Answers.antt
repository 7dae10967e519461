use Rattle.reconfig.proofs.Replies.{brief, prints}
use Rattle.reconfig.proofs.laws.replies_are_brief_and_print.Goals as goal

pub returns : goal.returns
returns c = record { brief = brief; print = prints }
