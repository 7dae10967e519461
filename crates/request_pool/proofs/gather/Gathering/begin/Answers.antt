use Rattle.std.proofs.Common.{◌++◌, ◌∷◌, [], ap, ◌∙◌}
use Rattle.smart_statements.specs.Batches.{Batch}
use Rattle.request_pool.proofs.Batches.{counted_one}
use Rattle.request_pool.proofs.gather.Gathering.begin.Goals as goal

pub invariant_of-result : goal.invariant_of-result
invariant_of-result c =
    counted_one c.push.new.self c.args.first c.text_len-bytes.result
    (c.in_ok-push.ensures.ok ∙ ap (λ (batch : Batch). batch ++ c.args.first ∷ []) c.new-list.ensures) c.text_len-bytes.ensures.value c.text_len-bytes.ensures.small
