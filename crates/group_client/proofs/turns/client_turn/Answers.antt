use Rattle.std.proofs.Common.{◌∙◌, [], refl, sym, arith, append-nil}
use Rattle.group_client.specs.Lines.{accepted}
use Rattle.group_client.proofs.Asked.{up-to-next}
use Rattle.group_client.proofs.Told.{told-nothing}
use Rattle.group_client.proofs.turns.client_turn.Goals as goal

pub returns-in-Err-ask_next-clause-err : goal.returns-in-Err-ask_next-clause-err
returns-in-Err-ask_next-clause-err g c =
    let s = c.args.seat.now in
    up-to-next c.args.asks s.client.last s.journal.events.items c.ask_next.new.seat.journal.events.items (omega (arith, c.if-asked-from.false, c.asked.ensures, c.from.ensures)) c.requires.asked c.in-Err-ask_next.ensures.err

pub returns-in-Err-ask_next-clause-told_first : goal.returns-in-Err-ask_next-clause-told_first
returns-in-Err-ask_next-clause-told_first g c =
    let head = g.P.Owner.head 0 in
    let old = accepted head c.args.seat.now.journal.events.items in
    told-nothing old (accepted head c.ask_next.new.seat.journal.events.items) [] (g.W.Sink.written c.args.output.now) (g.W.Sink.written c.args.output.now) (c.ask_next.ensures.same ∙ sym (append-nil old)) refl
