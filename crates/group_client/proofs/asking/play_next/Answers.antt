use Rattle.std.proofs.Common.{◌∙◌, [], sym, append-nil}
use Rattle.group_ends.proofs.Leaving.{on-ok, more-err, on-err}
use Rattle.group_client.specs.Lines.{accepted}
use Rattle.client_seat.specs.Asks.{told_polls}
use Rattle.group_client.proofs.Asked.{asked-told}
use Rattle.group_client.proofs.Behind.{more-then, more-played}
use Rattle.group_client.proofs.Told.{accepted-told}
use Rattle.group_client.proofs.Played.{asked-played, accepted-behind, last-played, last-same, more-behind}
use Rattle.group_client.proofs.asking.play_next.Goals as goal

pub returns-clause-asked : goal.returns-clause-asked
returns-clause-asked g c =
    let s = c.args.seat.now in
    let mid = c.tell_polls.new.self in
    let new = c.play.new.self.journal.events.items in
    asked-played (g.P.Owner.head 0) mid.pending mid.client mid.journal.events.items new c.play.result c.play.ensures.ok c.play.ensures.err
    ∙ asked-told s.journal.events.items mid.journal.events.items s.idle c.tell_polls.ensures.events

pub returns-clause-client : goal.returns-clause-client
returns-clause-client g c =
    let mid = c.tell_polls.new.self in
    let new = c.play.new.self in
    on-ok c.play.result
    (last-played (g.P.Owner.head 0) mid.pending mid.client mid.journal.events.items new.journal.events.items c.play.result new.client (mid.kept c.in_ok-tell_polls.ensures.ok)
    (on-ok c.play.result c.play.ensures.played (λ p. new.kept p.1)) c.play.ensures.ok)
    (last-same c.args.seat.now.client mid.client new.client c.tell_polls.ensures.same.0)

pub returns-clause-accepted : goal.returns-clause-accepted
returns-clause-accepted g c =
    let s = c.args.seat.now in
    let mid = c.tell_polls.new.self in
    let new = c.play.new.self.journal.events.items in
    accepted-behind (g.P.Owner.head 0) mid.pending mid.client mid.journal.events.items new c.play.result (accepted (g.P.Owner.head 0) s.journal.events.items)
    (accepted-told (g.P.Owner.head 0) s.journal.events.items mid.journal.events.items s.idle c.tell_polls.ensures.events) (mid.kept c.in_ok-tell_polls.ensures.ok) c.play.ensures.ok

pub returns-clause-more : goal.returns-clause-more
returns-clause-more g c =
    let s = c.args.seat.now in
    let mid = c.tell_polls.new.self in
    let new = c.play.new.self.journal.events.items in
    more-err c.play.result c.play.ensures.err
    (more-behind (g.P.Owner.head 0) mid.pending mid.client mid.journal.events.items new (accepted (g.P.Owner.head 0) s.journal.events.items)
    (accepted-told (g.P.Owner.head 0) s.journal.events.items mid.journal.events.items s.idle c.tell_polls.ensures.events))

pub returns-in_err-tell_polls-clause-asked : goal.returns-in_err-tell_polls-clause-asked
returns-in_err-tell_polls-clause-asked g c =
    let s = c.args.seat.now in
    asked-told s.journal.events.items c.tell_polls.new.self.journal.events.items s.idle c.tell_polls.ensures.events

pub returns-in_err-tell_polls-clause-more : goal.returns-in_err-tell_polls-clause-more
returns-in_err-tell_polls-clause-more g c =
    let s = c.args.seat.now in
    let head = g.P.Owner.head 0 in
    on-err c.from_residual.result ([], accepted-told head s.journal.events.items c.tell_polls.new.self.journal.events.items s.idle c.tell_polls.ensures.events ∙ sym (append-nil (accepted head s.journal.events.items)))

-- ---- its trail

pub returns-clause-behind : goal.returns-clause-behind
returns-clause-behind g c =
    let s = c.args.seat.now in
    let mid = c.tell_polls.new.self in
    let new = c.play.new.self.journal.events.items in
    more-then s.journal.events.items mid.journal.events.items new (told_polls s.idle, c.tell_polls.ensures.events)
    (more-played (g.P.Owner.head 0) mid.pending mid.client mid.journal.events.items new c.play.result c.play.ensures.ok c.play.ensures.err)

pub returns-in_err-tell_polls-clause-behind : goal.returns-in_err-tell_polls-clause-behind
returns-in_err-tell_polls-clause-behind g c = (told_polls c.args.seat.now.idle, c.tell_polls.ensures.events)
