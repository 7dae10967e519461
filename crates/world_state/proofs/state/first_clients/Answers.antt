use Rattle.std.proofs.Common.{◌++◌, ◌∙◌, append_assoc, ap, sym}
use Rattle.std.proofs.lemmas.List.{append-nil}
use Rattle.world_state.proofs.Counting.{clients_more, clients_done}
use Rattle.world_state.proofs.state.first_clients.Goals as goal

pub loop-i-preserved : goal.loop-i-preserved
loop-i-preserved c =
    let e = clients_more c.args.view.now c.args.count c.loop-i.i c.loop-i-test.true in
    rw (c.in_ok-push.ensures.items, c.in_ok-first_client.ensures, c.new.ensures) (append_assoc c.loop-i.clients.items _ _ ∙ (ap (λ more. c.loop-i.clients.items ++ more) (sym e) ∙ c.loop-i.invariant))

pub returns : goal.returns
returns c =
    let e = clients_done c.args.view.now c.args.count c.loop-i.i c.loop-i-test.false in
    sym (append-nil c.loop-i.clients.items) ∙ (ap (λ more. c.loop-i.clients.items ++ more) (sym e) ∙ c.loop-i.invariant)
