use Rattle.group_ends.proofs.Offering.{offered-at, unoffered}
use Rattle.group_ends.proofs.sending.offer_at.Goals as goal

pub returns-clause-ok : goal.returns-clause-ok
returns-clause-ok g c = offered-at c.args.to.now c.args.text.now c.args.ports.now.items c.args.index c.index_mut.result.now c.offer.new.self c.offer.result c.index_mut.ensures.value c.offer.ensures.ok

pub returns-clause-err : goal.returns-clause-err
returns-clause-err g c = unoffered c.args.ports.now.items c.args.index c.index_mut.result.now c.offer.new.self c.offer.result c.index_mut.ensures.value c.offer.ensures.err
