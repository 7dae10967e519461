use Rattle.node_rules.specs.Transfers.{installing, install_told, installs}
use Rattle.node_state.proofs.Broken.{on_err}
use Rattle.node_state.proofs.Stopped.{row_is}
use Rattle.node_core.proofs.Broken.{front_pass, installs_stops, delivers_stops, turns_stops, votes_stops, ends_stops}
use Rattle.node_core.proofs.passes.pass.Goals as goal

pub returns-clause-pass : goal.returns-clause-pass
returns-clause-pass g c =
    let m = g.S.Service.meaning in
    let installed = row_is (installs m) (λ n. install_told m n (installing n)) c.args.node.now c.installs.new.node c.args.cause.now c.args.fired.now c.installs.new.fired c.in_ok-installs.ensures.node
    c.in_ok-installs.ensures.fired in
    front_pass m c.args.node.now c.installs.new.node c.deliver_due.new.node c.turns.new.node c.votes.new.node c.ends.new.node c.args.cause.now c.args.fired.now c.installs.new.fired
    c.deliver_due.new.fired c.turns.new.fired c.votes.new.fired c.ends.new.fired installed c.in_ok-deliver_due.ensures.row c.in_ok-turns.ensures.pass c.in_ok-votes.ensures.pass
    c.in_ok-ends.ensures.pass

pub returns-in_err-installs-clause-err : goal.returns-in_err-installs-clause-err
returns-in_err-installs-clause-err g c =
    on_err _ (installs_stops g.S.Service.meaning c.args.node.now c.installs.new.node c.args.cause.now c.args.fired.now c.in_err-installs.ensures.err)

pub returns-in_err-deliver_due-clause-err : goal.returns-in_err-deliver_due-clause-err
returns-in_err-deliver_due-clause-err g c =
    let m = g.S.Service.meaning in
    let installed = row_is (installs m) (λ n. install_told m n (installing n)) c.args.node.now c.installs.new.node c.args.cause.now c.args.fired.now c.installs.new.fired c.in_ok-installs.ensures.node
    c.in_ok-installs.ensures.fired in
    on_err _ (delivers_stops m c.args.node.now c.installs.new.node c.deliver_due.new.node c.args.cause.now c.args.fired.now c.installs.new.fired installed c.in_err-deliver_due.ensures.err)

pub returns-in_err-turns-clause-err : goal.returns-in_err-turns-clause-err
returns-in_err-turns-clause-err g c =
    let m = g.S.Service.meaning in
    let installed = row_is (installs m) (λ n. install_told m n (installing n)) c.args.node.now c.installs.new.node c.args.cause.now c.args.fired.now c.installs.new.fired c.in_ok-installs.ensures.node
    c.in_ok-installs.ensures.fired in
    on_err _ (turns_stops m c.args.node.now c.installs.new.node c.deliver_due.new.node c.turns.new.node c.args.cause.now c.args.fired.now c.installs.new.fired c.deliver_due.new.fired installed
    c.in_ok-deliver_due.ensures.row c.in_err-turns.ensures.err)

pub returns-in_err-votes-clause-err : goal.returns-in_err-votes-clause-err
returns-in_err-votes-clause-err g c =
    let m = g.S.Service.meaning in
    let installed = row_is (installs m) (λ n. install_told m n (installing n)) c.args.node.now c.installs.new.node c.args.cause.now c.args.fired.now c.installs.new.fired c.in_ok-installs.ensures.node
    c.in_ok-installs.ensures.fired in
    on_err _ (votes_stops m c.args.node.now c.installs.new.node c.deliver_due.new.node c.turns.new.node c.votes.new.node c.args.cause.now c.args.fired.now c.installs.new.fired c.deliver_due.new.fired
    c.turns.new.fired installed c.in_ok-deliver_due.ensures.row c.in_ok-turns.ensures.pass c.in_err-votes.ensures.err)

pub returns-in_err-ends-clause-err : goal.returns-in_err-ends-clause-err
returns-in_err-ends-clause-err g c =
    let m = g.S.Service.meaning in
    let installed = row_is (installs m) (λ n. install_told m n (installing n)) c.args.node.now c.installs.new.node c.args.cause.now c.args.fired.now c.installs.new.fired c.in_ok-installs.ensures.node
    c.in_ok-installs.ensures.fired in
    on_err _ (ends_stops m c.args.node.now c.installs.new.node c.deliver_due.new.node c.turns.new.node c.votes.new.node c.ends.new.node c.args.cause.now c.args.fired.now c.installs.new.fired
    c.deliver_due.new.fired c.turns.new.fired c.votes.new.fired installed c.in_ok-deliver_due.ensures.row c.in_ok-turns.ensures.pass c.in_ok-votes.ensures.pass c.in_err-ends.ensures.err)
