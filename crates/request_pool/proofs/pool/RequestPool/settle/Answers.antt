use Rattle.std.proofs.Common.{rules}
use Rattle.smart_statements.specs.Forms.{SignedBy}
use Rattle.smart_statements.specs.declared.statement.Request.{Request}
use Rattle.replica_rules.specs.Replicas.{is_next}
use Rattle.indexmap.proofs.CallerLemmas.{filter-RetainsPairs}
use Rattle.request_pool.proofs.Entries.{settled_stands, settled_values}
use Rattle.request_pool.proofs.pool.RequestPool.settle.Goals as goal

pub invariant_of-self : goal.invariant_of-self
invariant_of-self c =
    settled_stands (λ (q : SignedBy Request). is_next c.args.table.now q.statement) c.self.inside.requests.entries c.retain.new.self.entries c.self.invariant
    (filter-RetainsPairs _ _ _ (λ k v b w g call. search rules) _ _ c.retain.ensures.filtered)

pub returns : goal.returns
returns c =
    settled_values (λ (q : SignedBy Request). is_next c.args.table.now q.statement) c.self.inside.requests.entries c.retain.new.self.entries c.args.self.now c.self.view_is
    (filter-RetainsPairs _ _ _ (λ k v b w g call. search rules) _ _ c.retain.ensures.filtered)
