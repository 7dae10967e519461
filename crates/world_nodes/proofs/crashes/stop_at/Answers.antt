use Rattle.std.proofs.Common.{◌≡◌, ◌∙◌, ap, sym, subst, Some}
use Rattle.member_store.specs.Left.{Tells}
use Rattle.member_store.specs.declared.crash.CrashFault.{CrashFault}
use Rattle.world_rules.specs.Crashes.{images_left, wrong_images}
use Rattle.world_rules.specs.Worlds.{core_course}
use Rattle.world_nodes.proofs.Hosts.{read_there}
use Rattle.world_nodes.proofs.Stopping.{stopped_at, refused_at}
use Rattle.world_nodes.proofs.crashes.stop_at.Goals as goal

pub returns-in_ok-tell-in-Ok : goal.returns-in_ok-tell-in-Ok
returns-in_ok-tell-in-Ok g c =
    let w = c.args.world.now in
    let h = c.index-hosts-i.result in
    let there = read_there w.hosts c.hosts.result.now c.args.i h h c.hosts.ensures c.requires.within c.index-hosts-i.is in
    stopped_at (core_course g.S.Service.meaning) c.args.image c.args.patches.now c.args.i w c.crash_host.new.world c.tell.new.self h c.id-member.result there c.id-member.ensures
    (c.in-Ok.ensures.right h there) (c.in-Ok.ensures.left h there) c.in_ok-tell-in-Ok.ensures

pub returns-in-Err-NotAnImage : goal.returns-in-Err-NotAnImage
returns-in-Err-NotAnImage g c =
    let w = c.args.world.now in
    let h = c.index-hosts-i.result in
    let there = read_there w.hosts c.hosts.result.now c.args.i h h c.hosts.ensures c.requires.within c.index-hosts-i.is in
    let wrong : wrong_images h.store (images_left c.args.image c.args.patches.now h.store) ≡ Some c.in-Err-NotAnImage.wrong =
    subst (λ (e : CrashFault). Tells e (wrong_images h.store (images_left c.args.image c.args.patches.now h.store))) c.in-Err-NotAnImage.field-0-is (c.in-Err-NotAnImage.ensures.wrong h there) in
    refused_at (core_course g.S.Service.meaning) c.args.image c.args.patches.now c.args.i w c.crash_host.new.world c.end.new.world h _ there
    (wrong ∙ ap (λ y. Some y) (sym c.in-Err-NotAnImage.wrong-is))
    c.in-Err-NotAnImage.ensures.same
    c.end.ensures
