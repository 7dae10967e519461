use Rattle.std.proofs.Common.{◌+◌, ◌<◌, ◌++◌, ◌∷◌, [], ◌&&◌, Bool, ap, sym, ◌∙◌, arith, length, nat_le}
use Rattle.std.proofs.lemmas.Bool.{lt-ltb}
use Rattle.smart_statements.specs.Batches.{Batch}
use Rattle.replica_rules.specs.Pools.{is_within}
use Rattle.request_pool.proofs.Batches.{within_by_count}
use Rattle.request_pool.proofs.gather.Gathering.has_room.Goals as goal

pub returns-then-len : goal.returns-then-len
returns-then-len c =
    let list = c.self.inside.list in
    let fits = nat_le (c.self.inside.bytes + c.text_len.result) 262144 in
    let few : length list < 64 = omega (arith, c.len.ensures.value, c.if-len.true) in
    ap (λ (b : Bool). b && fits) (sym (lt-ltb (length list) 64 few))
    ∙ (sym (within_by_count list c.args.request.now c.self.inside.bytes c.text_len.result c.self.invariant.2 c.text_len.ensures.value)
    ∙ ap (λ (batch : Batch). is_within (batch ++ c.args.request.now ∷ [])) c.self.view_is)
