use Rattle.std.proofs.Common.{◌<◌, length, arith}
use Rattle.queue_ends.specs.Ends.{told_put, told_queue}
use Rattle.group_ends.proofs.Telling.{ends-set, port-links-set, puts-set, port-link-at, put-at}
use Rattle.group_ends.proofs.sending.tell_at.Goals as goal

pub returns-clause-link : goal.returns-clause-link
returns-clause-link c =
    let within : c.args.index < length c.args.ports.now.items = omega (arith, c.requires, c.args.ports.now.ok.0) in
    port-link-at c.args.ports.now.items c.args.index c.index_mut.result.now (told_queue c.tell.result) within c.index_mut.ensures.value c.tell.ensures.told.0

pub returns-clause-told : goal.returns-clause-told
returns-clause-told c =
    let within : c.args.index < length c.args.ports.now.items = omega (arith, c.requires, c.args.ports.now.ok.0) in
    put-at c.args.ports.now.items c.args.index c.index_mut.result.now (told_put c.tell.result) within c.index_mut.ensures.value c.tell.ensures.told.1

pub returns-clause-same : goal.returns-clause-same
returns-clause-same c =
    let ps = c.args.ports.now.items in
    let i = c.args.index in
    let p = c.index_mut.result.now in
    let q = c.tell.new.self in
    let within : i < length ps = omega (arith, c.requires, c.args.ports.now.ok.0) in
    (ends-set ps i p q within c.index_mut.ensures.value c.tell.ensures.same.0, (port-links-set ps i p q within c.index_mut.ensures.value c.tell.ensures.same.1.0, puts-set ps i p q within c.index_mut.ensures.value c.tell.ensures.same.1.1))
