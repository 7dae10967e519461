use Rattle.std.proofs.Common.{◌∙◌, sym}
use Rattle.world_rules.specs.Worlds.{core_course, settle_once}
use Rattle.world_nodes.proofs.Acting.{acts_within, acts_runs, rests}
use Rattle.world_nodes.proofs.events.settle_once.Goals as goal

pub settle_up-requires-clause-within : goal.settle_up-requires-clause-within
settle_up-requires-clause-within g c = acts_within c.args.i c.args.world.now (sym c.acts.ensures ∙ c.if-acts.true)

pub settle_up-requires-clause-up : goal.settle_up-requires-clause-up
settle_up-requires-clause-up g c = acts_runs c.args.world.now _ (sym c.acts.ensures ∙ c.if-acts.true)

pub returns-then-acts : goal.returns-then-acts
unfolding settle_once
returns-then-acts g c = c.settle_up.ensures

pub returns-clause-world : goal.returns-clause-world
returns-clause-world g c = rests (core_course g.S.Service.meaning) c.args.i c.args.world.now (sym c.acts.ensures ∙ c.if-acts.false)
