use Rattle.smart_statements.proofs.Batches.{batch_is}
use Rattle.smart_statements.proofs.laws.batches_with_one_text_are_one.Goals as goal

pub returns : goal.returns
returns c = batch_is
