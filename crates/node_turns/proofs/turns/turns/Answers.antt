use Rattle.node_rules.specs.Rules.{fired_if}
use Rattle.node_rules.specs.Changes.{fired_when, fired_adopt, adoption, adopts, joining, joins, next_promise, promising, promises}
use Rattle.node_rules.specs.declared.node.Fired.TheVariants as fires
use Rattle.node_state.proofs.Broken.{on_err}
use Rattle.node_state.proofs.Stopped.{row_is}
use Rattle.node_turns.proofs.Broken.{adopts_stops, joins_stops, promises_stops, leads_stops}
use Rattle.node_turns.proofs.turns.turns.Goals as goal

pub returns-in_err-adopts-clause-err : goal.returns-in_err-adopts-clause-err
returns-in_err-adopts-clause-err g c =
    on_err _ (adopts_stops c.args.node.now c.adopts.new.node c.args.cause.now c.args.fired.now c.in_err-adopts.ensures.err)

pub returns-in_err-joins-clause-err : goal.returns-in_err-joins-clause-err
returns-in_err-joins-clause-err g c =
    on_err _ (joins_stops c.args.node.now c.adopts.new.node c.joins.new.node c.args.cause.now c.args.fired.now c.adopts.new.fired
    (row_is adopts (λ n. fired_adopt (adoption n)) _ _ c.args.cause.now _ _ c.in_ok-adopts.ensures.node c.in_ok-adopts.ensures.fired) c.in_err-joins.ensures.err)

pub returns-in_err-promises-clause-err : goal.returns-in_err-promises-clause-err
returns-in_err-promises-clause-err g c =
    on_err _ (promises_stops c.args.node.now c.adopts.new.node c.joins.new.node c.promises.new.node c.args.cause.now c.args.fired.now c.adopts.new.fired c.joins.new.fired
    (row_is adopts (λ n. fired_adopt (adoption n)) _ _ c.args.cause.now _ _ c.in_ok-adopts.ensures.node c.in_ok-adopts.ensures.fired)
    (row_is joins (λ n. fired_when fires.Joined (joining n)) _ _ c.args.cause.now _ _ c.in_ok-joins.ensures.node c.in_ok-joins.ensures.fired) c.in_err-promises.ensures.err)

pub returns-in_err-leads-clause-err : goal.returns-in_err-leads-clause-err
returns-in_err-leads-clause-err g c =
    on_err _ (leads_stops c.args.node.now c.adopts.new.node c.joins.new.node c.promises.new.node c.leads.new.node c.args.cause.now c.args.fired.now c.adopts.new.fired
    c.joins.new.fired c.promises.new.fired (row_is adopts (λ n. fired_adopt (adoption n)) _ _ c.args.cause.now _ _ c.in_ok-adopts.ensures.node c.in_ok-adopts.ensures.fired)
    (row_is joins (λ n. fired_when fires.Joined (joining n)) _ _ c.args.cause.now _ _ c.in_ok-joins.ensures.node c.in_ok-joins.ensures.fired)
    (row_is promises (λ n. fired_when (fires.Promised (next_promise n)) (promising n)) _ _ c.args.cause.now _ _ c.in_ok-promises.ensures.node c.in_ok-promises.ensures.fired)
    c.in_err-leads.ensures.err)
