use Rattle.std.proofs.Common.{◌<◌, ◌∙◌, ap, sym, subst, length}
use Rattle.std.specs.Prelude.{slice_get}
use Rattle.node_rules.specs.Kept.{core_step}
use Rattle.world_rules.specs.Worlds.{core_course, host_after}
use Rattle.world_nodes.proofs.Calling.{get_set}
use Rattle.world_nodes.proofs.Hosts.{read_there, set_within}
use Rattle.world_nodes.proofs.Stepping.{stepped_at, idle_at}
use Rattle.world_nodes.proofs.events.step_at.Goals as goal

pub leave-requires : goal.leave-requires
leave-requires g c =
    let w = c.args.world.now in
    let h = c.index-hosts-i.result in
    let there = read_there w.hosts c.hosts.result.now c.args.i h h c.hosts.ensures c.requires.within c.index-hosts-i.is in
    let after = host_after (core_course g.S.Service.meaning) h (core_step g.S.Service.meaning h.node c.args.event.now) in
    let hosts_are = ap (λ v. v.hosts) c.keep_few.ensures ∙ ap (λ v. v.hosts) (c.in_ok-left.ensures.world h there) in
    subst (λ hs. c.args.i < length hs) (sym hosts_are) (set_within w.hosts c.args.i after c.requires.within)

pub returns-clause-world : goal.returns-clause-world
returns-clause-world g c =
    let w = c.args.world.now in
    let h = c.index-hosts-i.result in
    let there = read_there w.hosts c.hosts.result.now c.args.i h h c.hosts.ensures c.requires.within c.index-hosts-i.is in
    let after = host_after (core_course g.S.Service.meaning) h (core_step g.S.Service.meaning h.node c.args.event.now) in
    let x_is = c.in_ok-left.ensures.world h there in
    let hosts_are = ap (λ v. v.hosts) c.keep_few.ensures ∙ ap (λ v. v.hosts) x_is in
    stepped_at g.S.Service.meaning c.args.i c.args.event.now w c.step_in.new.world c.keep_few.new.self c.leave.new.self h c.id-id.result c.in_ok-left.marked.items c.in_ok-left.left.messages there c.id-id.ensures x_is
    c.keep_few.ensures
    (c.in_ok-left.ensures.marked h there)
    (c.in_ok-left.ensures.left h there)
    (c.in_ok-leave.ensures after (ap (λ hs. slice_get hs c.args.i) hosts_are ∙ get_set w.hosts c.args.i after c.requires.within))

pub returns-clause-idle : goal.returns-clause-idle
returns-clause-idle g c =
    let w = c.args.world.now in
    let h = c.index-hosts-i.result in
    let there = read_there w.hosts c.hosts.result.now c.args.i h h c.hosts.ensures c.requires.within c.index-hosts-i.is in
    idle_at g.S.Service.meaning c.args.event.now w.hosts c.args.i h c.in_ok-left.left.idle there (c.in_ok-left.ensures.idle h there)
