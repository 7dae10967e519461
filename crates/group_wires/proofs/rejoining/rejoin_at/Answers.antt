use Rattle.std.proofs.Common.{◌<◌, length, arith}
use Rattle.group_wires.proofs.Rejoined.{rejoined-at}
use Rattle.group_wires.proofs.rejoining.rejoin_at.Goals as goal

pub returns-in-Some-clause-rejoined : goal.returns-in-Some-clause-rejoined
returns-in-Some-clause-rejoined c =
    let all = c.args.inboxes.now.items in
    let within : c.args.index < length all = omega (arith, c.requires.within, c.args.inboxes.now.ok.0) in
    rejoined-at all c.args.index c.index_mut.result.now (record { links = c.pop.new.self; next = c.index_mut.result.now.next }) c.in-Some.outward c.args.port c.rejoin.ensures.order.0 within c.index_mut.ensures.value c.requires.last
    c.in-Some.ensures.items c.rejoin.ensures.order.1
