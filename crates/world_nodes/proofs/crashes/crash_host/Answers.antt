use Rattle.std.proofs.Common.{◌≡◌, None, subst}
use Rattle.std.specs.Prelude.{OnOk, IfErr}
use Rattle.member_store.specs.Left.{Tells}
use Rattle.member_store.specs.declared.crash.CrashFault.{CrashFault}
use Rattle.world_rules.specs.Crashes.{images_left, wrong_images}
use Rattle.world_rules.specs.Worlds.{Host, core_course, host_crashed}
use Rattle.world_nodes.proofs.Hosts.{read_is, put_at, kept_at}
use Rattle.world_nodes.proofs.crashes.crash_host.Goals as goal

pub returns-clause-right : goal.returns-clause-right
returns-clause-right g c = λ h there.
    let is = read_is _ c.args.world.now c.args.i h c.index_mut.result.now _ c.world.view_is c.requires.within c.index_mut.ensures.value there in
    subst (λ (k : Host g.row.S.Denot). OnOk c.crash.result (wrong_images k.store (images_left c.args.image c.args.patches.now k.store) ≡ None)) is c.crash.ensures.right

pub returns-clause-left : goal.returns-clause-left
returns-clause-left g c = λ h there.
    let is = read_is _ c.args.world.now c.args.i h c.index_mut.result.now _ c.world.view_is c.requires.within c.index_mut.ensures.value there in
    put_at c.crash.result _ c.args.world.now c.args.i h c.index_mut.result.now c.crash.new.self (λ k. host_crashed (core_course g.S.Service.meaning) k (images_left c.args.image c.args.patches.now k.store)) c.world.view_is is c.crash.ensures.left

pub returns-clause-wrong : goal.returns-clause-wrong
returns-clause-wrong g c = λ h there.
    let is = read_is _ c.args.world.now c.args.i h c.index_mut.result.now _ c.world.view_is c.requires.within c.index_mut.ensures.value there in
    subst (λ (k : Host g.row.S.Denot). IfErr c.crash.result (λ (e : CrashFault). Tells e (wrong_images k.store (images_left c.args.image c.args.patches.now k.store)))) is c.crash.ensures.wrong

pub returns-clause-same : goal.returns-clause-same
returns-clause-same g c =
    kept_at c.crash.result _ c.args.world.now c.args.i c.index_mut.result.now c.crash.new.self _ c.world.view_is c.requires.within c.index_mut.ensures.value c.crash.ensures.err
