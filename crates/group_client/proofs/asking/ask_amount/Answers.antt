use Rattle.std.proofs.Common.{inl}
use Rattle.client_seat.specs.Asks.{ask_by, told_polls}
use Rattle.group_ends.proofs.Leaving.{on-ok, more-err, on-err}
use Rattle.group_client.proofs.Asked.{asked-told}
use Rattle.group_client.proofs.Behind.{more-then, more-posted, more-maybe}
use Rattle.group_client.proofs.Told.{accepted-told}
use Rattle.group_client.proofs.Played.{amount-is, client-asks, by-either, asked-both, asked-maybe, accepted-both, accepted-maybe}
use Rattle.group_client.proofs.asking.ask_amount.Goals as goal

pub returns-clause-asked : goal.returns-clause-asked
returns-clause-asked g c =
    let head = g.P.Owner.head 0 in
    let s = c.args.seat.now in
    let mid = c.tell_polls.new.self in
    let op = amount-is s.client mid.client c.asked.result c.in-Ok.op c.tell_polls.ensures.same.0 c.asked.ensures c.in-Ok.ensures in
    on-ok c.ask.result c.ask.ensures.ok
    (asked-both head s.client c.in-Ok.op (g.P.Owner.receivers 0) s.journal.events.items mid.journal.events.items c.ask.new.self.journal.events.items s.idle c.tell_polls.ensures.events mid.client op)

pub returns-clause-client : goal.returns-clause-client
returns-clause-client g c =
    let mid = c.tell_polls.new.self in
    on-ok c.ask.result c.ask.ensures.client (client-asks c.args.seat.now.client mid.client c.ask.new.self.client c.in-Ok.op c.tell_polls.ensures.same.0)

pub returns-clause-err : goal.returns-clause-err
returns-clause-err g c =
    let head = g.P.Owner.head 0 in
    let s = c.args.seat.now in
    let mid = c.tell_polls.new.self in
    let op = amount-is s.client mid.client c.asked.result c.in-Ok.op c.tell_polls.ensures.same.0 c.asked.ensures c.in-Ok.ensures in
    more-err c.ask.result c.ask.ensures.err
    (λ e. asked-maybe head s.client c.in-Ok.op (g.P.Owner.receivers 0) s.journal.events.items mid.journal.events.items c.ask.new.self.journal.events.items s.idle c.tell_polls.ensures.events mid.client op e.1)

pub returns-clause-same : goal.returns-clause-same
returns-clause-same g c =
    let head = g.P.Owner.head 0 in
    let s = c.args.seat.now in
    let mid = c.tell_polls.new.self in
    let a = ask_by head.secret mid.client c.in-Ok.op in
    by-either c.ask.result c.ask.ensures.ok c.ask.ensures.err
    (accepted-both head s.client c.in-Ok.op (g.P.Owner.receivers 0) s.journal.events.items mid.journal.events.items c.ask.new.self.journal.events.items s.idle c.tell_polls.ensures.events a)
    (λ e. accepted-maybe head s.client c.in-Ok.op (g.P.Owner.receivers 0) s.journal.events.items mid.journal.events.items c.ask.new.self.journal.events.items s.idle c.tell_polls.ensures.events a e.1)

pub returns-in_err-tell_polls-clause-err : goal.returns-in_err-tell_polls-clause-err
returns-in_err-tell_polls-clause-err g c =
    let s = c.args.seat.now in
    on-err c.from_residual.result (inl (asked-told s.journal.events.items c.tell_polls.new.self.journal.events.items s.idle c.tell_polls.ensures.events))

pub returns-in_err-tell_polls-clause-same : goal.returns-in_err-tell_polls-clause-same
returns-in_err-tell_polls-clause-same g c =
    let s = c.args.seat.now in
    accepted-told (g.P.Owner.head 0) s.journal.events.items c.tell_polls.new.self.journal.events.items s.idle c.tell_polls.ensures.events

pub returns-in_default-clause-err : goal.returns-in_default-clause-err
returns-in_default-clause-err g c =
    let s = c.args.seat.now in
    inl (asked-told s.journal.events.items c.tell_polls.new.self.journal.events.items s.idle c.tell_polls.ensures.events)

pub returns-in_default-clause-same : goal.returns-in_default-clause-same
returns-in_default-clause-same g c =
    let s = c.args.seat.now in
    accepted-told (g.P.Owner.head 0) s.journal.events.items c.tell_polls.new.self.journal.events.items s.idle c.tell_polls.ensures.events

-- ---- its trail

pub returns-clause-behind : goal.returns-clause-behind
returns-clause-behind g c =
    let head = g.P.Owner.head 0 in
    let s = c.args.seat.now in
    let mid = c.tell_polls.new.self in
    let a = ask_by head.secret mid.client c.in-Ok.op in
    let targets = g.P.Owner.receivers 0 in
    let new = c.ask.new.self.journal.events.items in
    more-then s.journal.events.items mid.journal.events.items new (told_polls s.idle, c.tell_polls.ensures.events)
    (by-either c.ask.result c.ask.ensures.ok c.ask.ensures.err (more-posted a targets mid.journal.events.items new) (λ e. more-maybe a targets mid.journal.events.items new e.1))

pub returns-in_err-tell_polls-clause-behind : goal.returns-in_err-tell_polls-clause-behind
returns-in_err-tell_polls-clause-behind g c = (told_polls c.args.seat.now.idle, c.tell_polls.ensures.events)

pub returns-in_default-clause-behind : goal.returns-in_default-clause-behind
returns-in_default-clause-behind g c = (told_polls c.args.seat.now.idle, c.tell_polls.ensures.events)
