use Rattle.std.proofs.Common.{◌≡◌, ◌<◌, ◌∙◌, ap, sym, subst, length, true}
use Rattle.std.specs.Prelude.{slice_get}
use Rattle.world_rules.specs.Worlds.{core_course}
use Rattle.world_nodes.specs.Crashes.{runs}
use Rattle.world_nodes.proofs.Meeting.{met_hosts, halted_at, taken_at}
use Rattle.world_nodes.proofs.events.takes_met.Goals as goal

pub step_at-requires-clause-within : goal.step_at-requires-clause-within
step_at-requires-clause-within g c =
    let w = c.args.world.now in
    subst (λ hs. c.args.i < length hs) (sym (ap (λ v. v.hosts) c.in_ok-meet_completed.ensures ∙ met_hosts c.args.event.now w (slice_get w.hosts c.args.i))) c.requires.within

pub step_at-requires-clause-up : goal.step_at-requires-clause-up
step_at-requires-clause-up g c =
    let w = c.args.world.now in
    subst (λ hs. runs (slice_get hs c.args.i) ≡ true) (sym (ap (λ v. v.hosts) c.in_ok-meet_completed.ensures ∙ met_hosts c.args.event.now w (slice_get w.hosts c.args.i))) c.requires.up

pub returns-then-is_halted : goal.returns-then-is_halted
returns-then-is_halted g c =
    halted_at (core_course g.S.Service.meaning) c.args.i c.args.event.now c.args.world.now c.meet_completed.new.world c.in_ok-meet_completed.ensures (sym c.is_halted.ensures ∙ c.if-is_halted.true)

pub returns : goal.returns
returns g c =
    taken_at (core_course g.S.Service.meaning) c.args.i c.args.event.now c.args.world.now c.meet_completed.new.world c.step_at.new.world
    c.in_ok-meet_completed.ensures (sym c.is_halted.ensures ∙ c.if-is_halted.false) c.in_ok-step_at.ensures.world
