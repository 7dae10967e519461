use Rattle.std.proofs.Common.{◌∙◌, ◌<◌, length, slice_set, ap, arith}
use Rattle.queue_ends.specs.Ends.{told_queue}
use Rattle.group_ends.specs.Ports.{heard_puts}
use Rattle.group_ends.proofs.Polling.{links-set}
use Rattle.group_ends.proofs.Telling.{heard-puts-set, takings-same, link-at}
use Rattle.group_ends.proofs.inbox.hear_at.Goals as goal

pub hear-requires : goal.hear-requires
hear-requires c =
    let within : c.args.index < length c.args.links.now.items = omega (arith, c.requires.within, c.args.links.now.ok.0) in
    link-at c.args.links.now.items c.args.index c.index_mut.result.now (told_queue c.args.told) within c.index_mut.ensures.value c.requires.link

pub returns-clause-heard : goal.returns-clause-heard
returns-clause-heard c =
    heard-puts-set c.args.links.now.items c.args.index c.hear.new.self ∙ ap (slice_set (heard_puts c.args.links.now.items) c.args.index) c.hear.ensures.heard

pub returns-clause-same : goal.returns-clause-same
returns-clause-same c =
    let ys = c.args.links.now.items in
    let i = c.args.index in
    let l = c.index_mut.result.now in
    let new = c.hear.new.self in
    let within : i < length ys = omega (arith, c.requires.within, c.args.links.now.ok.0) in
    (links-set ys i l new within c.index_mut.ensures.value c.hear.ensures.link, takings-same ys i l new within c.index_mut.ensures.value c.hear.ensures.same)
