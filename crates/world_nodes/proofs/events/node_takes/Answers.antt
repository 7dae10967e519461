use Rattle.std.proofs.Common.{◌≡◌, ◌∙◌, sym, subst}
use Rattle.std.specs.Prelude.{OnOk}
use Rattle.world_rules.specs.Worlds.{World, core_course}
use Rattle.world_nodes.proofs.Acting.{acts_within, acts_runs, takes_on, takes_none}
use Rattle.world_nodes.proofs.events.node_takes.Goals as goal

pub takes_met-requires-clause-within : goal.takes_met-requires-clause-within
takes_met-requires-clause-within g c = acts_within c.args.i c.args.world.now (sym c.acts.ensures ∙ c.if-acts.true)

pub takes_met-requires-clause-up : goal.takes_met-requires-clause-up
takes_met-requires-clause-up g c = acts_runs c.args.world.now _ (sym c.acts.ensures ∙ c.if-acts.true)

pub returns-then-acts : goal.returns-then-acts
returns-then-acts g c =
    subst (λ (w : World g.row.S.Denot). OnOk c.takes_met.result (c.takes_met.new.world ≡ w))
    (takes_on (core_course g.S.Service.meaning) c.args.i c.args.event.now c.args.world.now (sym c.acts.ensures ∙ c.if-acts.true)) c.takes_met.ensures

pub returns : goal.returns
returns g c = takes_none (core_course g.S.Service.meaning) c.args.i c.args.event.now c.args.world.now (sym c.acts.ensures ∙ c.if-acts.false)
