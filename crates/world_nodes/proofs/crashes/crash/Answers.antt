use Rattle.std.proofs.Common.{◌≡◌, ◌∙◌, sym, subst}
use Rattle.std.specs.Prelude.{OnOk}
use Rattle.world_rules.specs.Worlds.{World, core_course}
use Rattle.world_nodes.proofs.Acting.{acts_within, acts_runs, crashes_on, crashes_none}
use Rattle.world_nodes.proofs.crashes.crash.Goals as goal

pub stop_at-requires-clause-within : goal.stop_at-requires-clause-within
stop_at-requires-clause-within g c = acts_within c.args.i c.args.world.now (sym c.acts.ensures ∙ c.if-acts.true)

pub stop_at-requires-clause-up : goal.stop_at-requires-clause-up
stop_at-requires-clause-up g c = acts_runs c.args.world.now _ (sym c.acts.ensures ∙ c.if-acts.true)

pub returns-then-acts : goal.returns-then-acts
returns-then-acts g c =
    subst (λ (w : World g.row.S.Denot). OnOk c.stop_at.result (c.stop_at.new.world ≡ w))
    (crashes_on (core_course g.S.Service.meaning) c.args.image c.args.patches.now c.args.i c.args.world.now (sym c.acts.ensures ∙ c.if-acts.true)) c.stop_at.ensures

pub returns : goal.returns
returns g c = crashes_none (core_course g.S.Service.meaning) c.args.image c.args.patches.now c.args.i c.args.world.now (sym c.acts.ensures ∙ c.if-acts.false)
