use Rattle.node_rules.specs.Nodes.{next_place}
use Rattle.node_rules.specs.Rules.{fired_if, deciding, decides}
use Rattle.node_rules.specs.declared.node.Fired.TheVariants as fires
use Rattle.node_state.proofs.Broken.{on_err}
use Rattle.node_state.proofs.Stopped.{row_is}
use Rattle.node_core.proofs.Broken.{ends_pass, decides_stops, times_stops}
use Rattle.node_core.proofs.passes.ends.Goals as goal

pub returns-clause-pass : goal.returns-clause-pass
returns-clause-pass g c =
    ends_pass c.args.node.now c.decides.new.node c.act_on_time.new.node c.args.cause.now c.args.fired.now c.decides.new.fired c.act_on_time.new.fired
    (row_is decides (λ n. fired_if (fires.Decided (next_place n)) (deciding n)) _ _ c.args.cause.now _ _ c.in_ok-decides.ensures.node c.in_ok-decides.ensures.fired) c.in_ok-act_on_time.ensures.row

pub returns-in_err-decides-clause-err : goal.returns-in_err-decides-clause-err
returns-in_err-decides-clause-err g c = on_err _ (decides_stops c.args.node.now c.decides.new.node c.args.cause.now c.args.fired.now c.in_err-decides.ensures.err)

pub returns-in_err-act_on_time-clause-err : goal.returns-in_err-act_on_time-clause-err
returns-in_err-act_on_time-clause-err g c =
    on_err _ (times_stops c.args.node.now c.decides.new.node c.act_on_time.new.node c.args.cause.now c.args.fired.now c.decides.new.fired
    (row_is decides (λ n. fired_if (fires.Decided (next_place n)) (deciding n)) _ _ c.args.cause.now _ _ c.in_ok-decides.ensures.node c.in_ok-decides.ensures.fired) c.in_err-act_on_time.ensures.err)
