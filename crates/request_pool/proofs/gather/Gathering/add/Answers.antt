use Rattle.std.proofs.Common.{◌++◌, ◌∷◌, [], ap, ◌∙◌}
use Rattle.smart_statements.specs.Batches.{Batch}
use Rattle.replica_rules.specs.Pools.{is_within}
use Rattle.request_pool.proofs.Batches.{counted_more}
use Rattle.request_pool.proofs.gather.Gathering.add.Goals as goal

pub invariant_of-self-2 : goal.invariant_of-self-2
invariant_of-self-2 c =
    counted_more c.self.inside.list c.push.new.self c.args.request c.self.inside.bytes c.text_len.result c.in_ok-push.ensures.ok c.self.invariant.2 c.text_len.ensures.value
    (ap (λ (batch : Batch). is_within (batch ++ c.args.request ∷ [])) c.self.view_is ∙ c.requires)
