use Rattle.std.proofs.Common.{◌||◌, ◌∙◌, ap}
use Rattle.std.specs.HashSet.{contains}
use Rattle.std.specs.List.{list_any}
use Rattle.world_ledger.specs.Statements.{same_stated}
use Rattle.world_ledger.proofs.StatedLaws.{stated-more}
use Rattle.world_ledger.proofs.ledger.read_message.Goals as goal

pub returns-clause-ok : goal.returns-clause-ok
returns-clause-ok c =
    λ before index.
    stated-more (contains same_stated c.args.stated.now) (contains same_stated c.put_all.new.index) before c.args.sent.now c.in_ok-own.own.items index c.in_ok-own.ensures
    (λ q. c.put_all.ensures q ∙ ap (λ b. list_any (λ o. same_stated o q) c.in_ok-own.own.items || b) (c.in_ok-reserve.ensures.keys.2 q))
