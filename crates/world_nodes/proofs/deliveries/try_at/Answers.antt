use Rattle.std.proofs.Common.{◌≡◌, ◌∙◌, sym, subst}
use Rattle.std.specs.Prelude.{OnOk}
use Rattle.world_rules.specs.Worlds.{World, core_course}
use Rattle.world_nodes.proofs.Acting.{acts_within, acts_runs, tries_on, tries_none}
use Rattle.world_nodes.proofs.deliveries.try_at.Goals as goal

pub try_up-requires-clause-within : goal.try_up-requires-clause-within
try_up-requires-clause-within g c = acts_within c.args.i c.args.world.now (sym c.acts.ensures ∙ c.if-acts.true)

pub try_up-requires-clause-up : goal.try_up-requires-clause-up
try_up-requires-clause-up g c = acts_runs c.args.world.now _ (sym c.acts.ensures ∙ c.if-acts.true)

pub returns-then-acts : goal.returns-then-acts
returns-then-acts g c =
    subst (λ (w : World g.row.S.Denot). OnOk c.try_up.result (c.try_up.new.world ≡ w))
    (tries_on (core_course g.S.Service.meaning) c.args.i c.args.event.now c.args.world.now (sym c.acts.ensures ∙ c.if-acts.true)) c.try_up.ensures

pub returns : goal.returns
returns g c = tries_none (core_course g.S.Service.meaning) c.args.i c.args.event.now c.args.world.now (sym c.acts.ensures ∙ c.if-acts.false)
