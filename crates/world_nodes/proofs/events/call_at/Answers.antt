use Rattle.std.proofs.Common.{◌≡◌, ◌<◌, refl, sym, subst, length, true}
use Rattle.std.specs.Prelude.{slice_get}
use Rattle.world_rules.specs.Worlds.{core_course, disk_called}
use Rattle.world_nodes.specs.Calling.{calls}
use Rattle.world_nodes.specs.Crashes.{runs}
use Rattle.world_nodes.proofs.Calling.{called_at}
use Rattle.world_nodes.proofs.Hosts.{at_there, set_within}
use Rattle.world_nodes.proofs.Stopping.{still_runs}
use Rattle.world_nodes.proofs.events.call_at.Goals as goal

pub step_if-requires-clause-within : goal.step_if-requires-clause-within
step_if-requires-clause-within g c =
    let w = c.args.world.now in
    at_there w.hosts c.args.i (c.args.i < length c.call_host.new.world.hosts) c.requires.within (λ h there.
    subst (λ v. c.args.i < length v.hosts) (sym (c.in_ok-event.ensures.world h there)) (set_within w.hosts c.args.i (disk_called (core_course g.S.Service.meaning) h) c.requires.within))

pub step_if-requires-clause-up : goal.step_if-requires-clause-up
step_if-requires-clause-up g c =
    let w = c.args.world.now in
    at_there w.hosts c.args.i (runs (slice_get c.call_host.new.world.hosts c.args.i) ≡ true) c.requires.within (λ h there.
    subst (λ v. runs (slice_get v.hosts c.args.i) ≡ true) (sym (c.in_ok-event.ensures.world h there))
    (still_runs (core_course g.S.Service.meaning) w.hosts c.args.i h c.requires.within (subst (λ found. runs found ≡ true) there c.requires.up)))

pub returns : goal.returns
returns g c =
    let w = c.args.world.now in
    at_there w.hosts c.args.i (c.step_if.new.world ≡ calls (core_course g.S.Service.meaning) c.args.i w (slice_get w.hosts c.args.i)) c.requires.within (λ h there.
    called_at (core_course g.S.Service.meaning) c.args.i w c.call_host.new.world c.step_if.new.world h (disk_called (core_course g.S.Service.meaning) h) c.in_ok-event.event c.requires.within there
    refl
    (c.in_ok-event.ensures.world h there)
    (c.in_ok-event.ensures.event h there)
    c.in_ok-step_if.ensures)
