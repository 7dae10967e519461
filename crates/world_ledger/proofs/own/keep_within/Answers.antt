use Rattle.std.proofs.Common.{map}
use Rattle.world_ledger.specs.Statements.{claim_of}
use Rattle.world_ledger.proofs.ClaimLaws.{own_in}
use Rattle.world_ledger.proofs.own.keep_within.Goals as goal

pub returns : goal.returns
returns c =
    own_in c.args.origin.now (map claim_of c.args.found.now.items) (map claim_of c.keep_each.new.found.items) c.in_ok-items.items c.as_slice.result.now c.args.message.now c.as_slice.ensures
    c.in_ok-items.ensures c.in_ok-keep_each.ensures
