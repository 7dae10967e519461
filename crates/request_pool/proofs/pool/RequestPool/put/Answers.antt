use Rattle.std.proofs.Common.{◌≡◌, ap, ◌∙◌}
use Rattle.smart_statements.specs.declared.statement.Request.{Request}
use Rattle.request_pool.proofs.Entries.{put_stands, put_values, put_found}
use Rattle.request_pool.proofs.pool.RequestPool.put.Goals as goal

pub invariant_of-self-2 : goal.invariant_of-self-2
invariant_of-self-2 c =
    let client : c.get-client.result ≡ c.args.request.statement.client = c.get-client.ensures ∙ ap (λ (r : Request). r.client) c.statement.ensures in
    put_stands c.self.inside.requests.entries c.insert.new.self.entries c.get-client.result c.args.request client c.self.invariant c.in_ok-old.ensures.entries

pub returns-clause-replaced : goal.returns-clause-replaced
returns-clause-replaced c =
    let client : c.get-client.result ≡ c.args.request.statement.client = c.get-client.ensures ∙ ap (λ (r : Request). r.client) c.statement.ensures in
    c.is_some.ensures ∙ put_found c.self.inside.requests.entries c.args.self.now c.get-client.result c.args.request c.in_ok-old.old client c.self.invariant c.self.view_is c.in_ok-old.ensures.old

pub returns-clause-pool : goal.returns-clause-pool
returns-clause-pool c =
    let client : c.get-client.result ≡ c.args.request.statement.client = c.get-client.ensures ∙ ap (λ (r : Request). r.client) c.statement.ensures in
    put_values c.self.inside.requests.entries c.insert.new.self.entries c.args.self.now c.get-client.result c.args.request client c.self.invariant c.self.view_is c.in_ok-old.ensures.entries
