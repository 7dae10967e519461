use Rattle.node_state.proofs.Broken.{on_err}
use Rattle.node_turns.proofs.Broken.{reach_stops, begin_stops}
use Rattle.node_turns.proofs.starts.adopt_start.Goals as goal

pub returns-in_err-reach-clause-err : goal.returns-in_err-reach-clause-err
returns-in_err-reach-clause-err g c =
    on_err _ (reach_stops c.args.node.now c.reach.new.node (record { view = c.args.start.view; regency = c.args.start.regency }) c.args.start c.in_err-reach.ensures.err)

pub returns-in_err-begin_at-clause-err : goal.returns-in_err-begin_at-clause-err
returns-in_err-begin_at-clause-err g c =
    on_err _ (begin_stops c.args.node.now c.reach.new.node c.begin_at.new.node (record { view = c.args.start.view; regency = c.args.start.regency }) c.args.start c.in_ok-reach.ensures.node c.in_err-begin_at.ensures.err)
