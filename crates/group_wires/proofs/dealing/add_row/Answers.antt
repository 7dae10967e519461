use Rattle.std.proofs.Common.{◌∙◌, ◌<◌, List, [], ◌∷◌, ◌++◌, length, length-append, get_or, sym, ap, subst, arith}
use Rattle.smart_base.specs.Lists.{Each}
use Rattle.group_ends.specs.Ports.{ends, port_links}
use Rattle.group_ends.specs.declared.port.Port.{Port}
use Rattle.group_wires.specs.Wires.{at, all_links, IsUnused}
use Rattle.group_wires.proofs.Columns.{each-push}
use Rattle.group_wires.proofs.Dealt.{ends-more, links-more}
use Rattle.group_wires.proofs.dealing.add_row.Goals as goal

pub loop-index-preserved : goal.loop-index-preserved
loop-index-preserved c =
    let l = c.loop-index in
    let was = l.invariant in
    let ports = l.ports.items in
    let rs = c.args.receivers.now in
    let linked = c.in_ok-add_link.ensures.linked in
    let more = linked.ports_are in
    let end = c.index-receivers-index.result in
    let within : l.index < length rs = omega arith in record {
      ends_are = ap (λ (ps : List Port). ends ps) more ∙ ends-more ports linked.port rs l.index end was.ends_are linked.end_is c.index-receivers-index.is within;
      unused = subst (λ (ps : List Port). Each IsUnused ps) (sym more) (each-push IsUnused ports linked.port was.unused linked.unused);
      links = λ i.
          links-more i ports linked.port c.args.inboxes.now.items l.inboxes.items c.add_link.new.inboxes.items (was.links i) (linked.links i)
          ∙ ap (λ (ps : List Port). get_or (all_links c.args.inboxes.now.items) i [] ++ at i (port_links ps)) (sym more);
      untaken = λ none. linked.untaken (was.untaken none);
      many = c.in_ok-add_link.ensures.many ∙ was.many;
      count = omega (arith, was.count, l.ports.ok.0, c.add_link.new.ports.ok.0, ap length more, length-append ports (linked.port ∷ []));
    }
