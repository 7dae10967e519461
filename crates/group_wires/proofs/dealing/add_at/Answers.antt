use Rattle.std.proofs.Common.{◌<◌, length, arith}
use Rattle.group_wires.proofs.Dealt.{added-at}
use Rattle.group_wires.proofs.dealing.add_at.Goals as goal

pub returns-clause-added : goal.returns-clause-added
returns-clause-added c =
    let all = c.args.inboxes.now.items in
    let within : c.args.index < length all = omega (arith, c.requires, c.args.inboxes.now.ok.0) in
    added-at all c.args.index c.index_mut.result.now (record { links = c.push.new.self; next = c.index_mut.result.now.next }) c.args.outward within c.index_mut.ensures.value c.in_ok-push.ensures.items
