use Rattle.std.proofs.Common.{map}
use Rattle.world_ledger.specs.Statements.{claim_of}
use Rattle.world_ledger.proofs.ClaimLaws.{kept_in}
use Rattle.world_ledger.proofs.claims.claims_in.Goals as goal

pub returns : goal.returns
returns c =
    kept_in (map claim_of c.args.found.now.items) (map claim_of c.keep_each.new.found.items) c.in_ok-items.items c.as_slice.result.now c.args.message.now c.as_slice.ensures
    c.in_ok-items.ensures c.in_ok-keep_each.ensures
