use Rattle.std.proofs.Common.{◌<◌, length, arith, rules}
use Rattle.group_ends.proofs.Polling.{polled, links-set, none-polled, empty-polled, some-polled}
use Rattle.group_ends.proofs.Telling.{heard-puts-same}
use Rattle.group_ends.proofs.inbox.poll_at.Goals as goal

pub returns-clause-links : goal.returns-clause-links
returns-clause-links g c =
    let within : c.args.index < length c.args.links.now.items = omega (arith, c.requires, c.args.links.now.ok.0) in
    (links-set c.args.links.now.items c.args.index c.index_mut.result.now c.poll.new.self within c.index_mut.ensures.value c.poll.ensures.link, search rules)

pub returns-clause-none : goal.returns-clause-none
returns-clause-none g c =
    let l = c.index_mut.result.now in
    let within : c.args.index < length c.args.links.now.items = omega (arith, c.requires, c.args.links.now.ok.0) in
    none-polled c.args.links.now.items c.args.index l c.poll.new.self within c.index_mut.ensures.value c.poll.result (polled l c.poll.new.self c.poll.result c.poll.ensures.taken) c.poll.ensures.heard

pub returns-clause-empty : goal.returns-clause-empty
returns-clause-empty g c =
    let l = c.index_mut.result.now in
    let within : c.args.index < length c.args.links.now.items = omega (arith, c.requires, c.args.links.now.ok.0) in
    empty-polled c.args.links.now.items c.args.index l c.poll.new.self within c.index_mut.ensures.value c.poll.result (polled l c.poll.new.self c.poll.result c.poll.ensures.taken)

pub returns-clause-some : goal.returns-clause-some
returns-clause-some g c =
    let l = c.index_mut.result.now in
    let within : c.args.index < length c.args.links.now.items = omega (arith, c.requires, c.args.links.now.ok.0) in
    some-polled c.args.links.now.items c.args.index l c.poll.new.self within c.index_mut.ensures.value c.poll.result (polled l c.poll.new.self c.poll.result c.poll.ensures.taken)

pub returns-clause-heard : goal.returns-clause-heard
returns-clause-heard g c =
    let within : c.args.index < length c.args.links.now.items = omega (arith, c.requires, c.args.links.now.ok.0) in
    heard-puts-same c.args.links.now.items c.args.index c.index_mut.result.now c.poll.new.self within c.index_mut.ensures.value c.poll.ensures.heard
