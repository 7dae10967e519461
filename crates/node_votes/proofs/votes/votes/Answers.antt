use Rattle.node_rules.specs.Rules.{fired_if, proposing, proposes, writing, writes}
use Rattle.node_rules.specs.declared.node.Fired.TheVariants as fires
use Rattle.node_state.proofs.Broken.{on_err}
use Rattle.node_state.proofs.Stopped.{row_is}
use Rattle.node_votes.proofs.Broken.{proposes_stops, writes_stops, accepts_stops}
use Rattle.node_votes.proofs.votes.votes.Goals as goal

pub returns-in_err-proposes-clause-err : goal.returns-in_err-proposes-clause-err
returns-in_err-proposes-clause-err g c =
    on_err _ (proposes_stops c.args.node.now c.proposes.new.node c.args.cause.now c.args.fired.now c.in_err-proposes.ensures.err)

pub returns-in_err-writes-clause-err : goal.returns-in_err-writes-clause-err
returns-in_err-writes-clause-err g c =
    on_err _ (writes_stops c.args.node.now c.proposes.new.node c.writes.new.node c.args.cause.now c.args.fired.now c.proposes.new.fired
    (row_is proposes (λ n. fired_if fires.Proposed (proposing n)) _ _ c.args.cause.now _ _ c.in_ok-proposes.ensures.node c.in_ok-proposes.ensures.fired) c.in_err-writes.ensures.err)

pub returns-in_err-accepts-clause-err : goal.returns-in_err-accepts-clause-err
returns-in_err-accepts-clause-err g c =
    on_err _ (accepts_stops c.args.node.now c.proposes.new.node c.writes.new.node c.accepts.new.node c.args.cause.now c.args.fired.now c.proposes.new.fired c.writes.new.fired
    (row_is proposes (λ n. fired_if fires.Proposed (proposing n)) _ _ c.args.cause.now _ _ c.in_ok-proposes.ensures.node c.in_ok-proposes.ensures.fired)
    (row_is writes (λ n. fired_if fires.Wrote (writing n)) _ _ c.args.cause.now _ _ c.in_ok-writes.ensures.node c.in_ok-writes.ensures.fired) c.in_err-accepts.ensures.err)
