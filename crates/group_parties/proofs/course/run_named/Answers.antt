use Rattle.std.proofs.Common.{◌≡◌, ◌∙◌, ◌<◌, ◌≤◌, ◌+◌, ◌-◌, ℕ, List, length, get_or, refl, sym, ap, subst, arith}
use Rattle.group_client.specs.Loops.{Output}
use Rattle.client_quorum.specs.declared.client.Client.{Client}
use Rattle.group_parties.specs.Stations.{Names}
use Rattle.group_parties.specs.Unseated.{IsUnseated}
use Rattle.group_parties.proofs.Ended.{opened-of, origins_of}
use Rattle.group_parties.proofs.Named.{named-ended, named-entries, named-head, named-links, named-sink, named-stations, named-unseated, seated-client, seatless-client}
use Rattle.group_parties.proofs.Stationed.{some-of}
use Rattle.group_parties.proofs.course.run_named.Goals as goal

-- ---- no place for the members that run

pub unseated_all-requires : goal.unseated_all-requires
unseated_all-requires g c = record { room = omega (arith, c.requires.places.1, c.requires.crew.1.many, ap length c.requires.places.0, c.args.left.ok.0, c.args.crew.stations.ok.0); empty = c.requires.places.0 }

pub returns-in_default : goal.returns-in_default
returns-in_default g c = λ images is.
    let d = g.D.Disk in
    let o = g.O.Sink in
    let w = g.N.Named in
    let m = g.S.Service.meaning in
    let s = c.args.settings.now in
    let crew = c.args.crew in
    let n : Names g.row.S.Denot = record { head = w.head; entries = w.entries; begun = w.begun; failures = w.failures; receivers = w.receivers; leaving = w.leaving; arriving = w.arriving; lane = w.lane; restored = w.restored; opening = w.opening m } in
    let out : Output = record { written = g.W.Sink.written c.args.output.now; faults = g.W.Sink.faults c.args.output.now; wants = g.W.Sink.wants c.args.output.now } in
    let all = crew.stations in
    let left = c.unseated_all.result in record {
      heads = refl;
      members = named-unseated m d.told d.remembers d.cells d.moment d.left_since d.faults o.written o.faults images s crew is n c.requires.named left.items (omega (arith, c.unseated_all.ensures.many, left.ok.0, all.ok.0)) (λ i b e few. c.unseated_all.ensures.each i e b (omega (arith, few, all.ok.0)));
      client = seatless-client m d.told d.remembers d.cells d.moment d.left_since d.faults o.written o.faults images s crew is n c.requires.named c.client_without.result out c.client_without.ensures.1.0 c.client_without.ensures.1.1;
    }

-- ---- no seat for the client

pub unseated_all-requires-in-Err : goal.unseated_all-requires-in-Err
unseated_all-requires-in-Err g c = record { room = omega (arith, c.requires.places.1, c.requires.crew.1.many, ap length c.requires.places.0, c.args.left.ok.0, c.args.crew.stations.ok.0); empty = c.requires.places.0 }

pub returns-in-Err : goal.returns-in-Err
returns-in-Err g c = λ images is.
    let d = g.D.Disk in
    let o = g.O.Sink in
    let w = g.N.Named in
    let m = g.S.Service.meaning in
    let s = c.args.settings.now in
    let crew = c.args.crew in
    let n : Names g.row.S.Denot = record { head = w.head; entries = w.entries; begun = w.begun; failures = w.failures; receivers = w.receivers; leaving = w.leaving; arriving = w.arriving; lane = w.lane; restored = w.restored; opening = w.opening m } in
    let out : Output = record { written = g.W.Sink.written c.args.output.now; faults = g.W.Sink.faults c.args.output.now; wants = g.W.Sink.wants c.args.output.now } in
    let all = crew.stations in
    let left = c.unseated_all-in-Err.result in record {
      heads = refl;
      members = named-unseated m d.told d.remembers d.cells d.moment d.left_since d.faults o.written o.faults images s crew is n c.requires.named left.items (omega (arith, c.unseated_all-in-Err.ensures.many, left.ok.0, all.ok.0)) (λ i b e few. c.unseated_all-in-Err.ensures.each i e b (omega (arith, few, all.ok.0)));
      client = seatless-client m d.told d.remembers d.cells d.moment d.left_since d.faults o.written o.faults images s crew is n c.requires.named c.client_without-in-Err.result out c.client_without-in-Err.ensures.1.0 c.client_without-in-Err.ensures.1.1;
    }

-- ---- the client has a seat

pub seat_client-requires : goal.seat_client-requires
seat_client-requires g c =
    let d = g.D.Disk in
    let o = g.O.Sink in
    let w = g.N.Named in
    let m = g.S.Service.meaning in
    let s = c.args.settings.now in
    let crew = c.args.crew in
    let n : Names g.row.S.Denot = record { head = w.head; entries = w.entries; begun = w.begun; failures = w.failures; receivers = w.receivers; leaving = w.leaving; arriving = w.arriving; lane = w.lane; restored = w.restored; opening = w.opening m } in
    record {
      head = (named-head m d.told d.remembers d.cells d.moment d.left_since d.faults o.written o.faults c.requires.crew.0 s crew c.requires.crew.1 n c.requires.named, named-entries m d.told d.remembers d.cells d.moment d.left_since d.faults o.written o.faults c.requires.crew.0 s crew c.requires.crew.1 n c.requires.named);
      links = named-links m d.told d.remembers d.cells d.moment d.left_since d.faults o.written o.faults c.requires.crew.0 s crew c.requires.crew.1 n c.requires.named;
      sink = named-sink m d.told d.remembers d.cells d.moment d.left_since d.faults o.written o.faults c.requires.crew.0 s crew c.requires.crew.1 n c.requires.named;
    }

pub seat_all-runners-requires : goal.seat_all-runners-requires
seat_all-runners-requires g c =
    let d = g.D.Disk in
    let o = g.O.Sink in
    let w = g.N.Named in
    let m = g.S.Service.meaning in
    let s = c.args.settings.now in
    let crew = c.args.crew in
    let n : Names g.row.S.Denot = record { head = w.head; entries = w.entries; begun = w.begun; failures = w.failures; receivers = w.receivers; leaving = w.leaving; arriving = w.arriving; lane = w.lane; restored = w.restored; opening = w.opening m } in
    let all = crew.stations in record {
      stations = named-stations m d.told d.remembers d.cells d.moment d.left_since d.faults o.written o.faults c.requires.crew.0 s crew c.requires.crew.1 n c.requires.named;
      empty = (c.in-Ok.ensures.0, c.requires.places.0);
      room = (omega (arith, c.in-Ok.ensures.1, c.len.ensures), omega (arith, c.requires.places.1, c.requires.crew.1.many, all.ok.0));
    }

pub run_seated-members-requires-clause-head : goal.run_seated-members-requires-clause-head
run_seated-members-requires-clause-head g c = λ _ _.
    let d = g.D.Disk in
    let o = g.O.Sink in
    let w = g.N.Named in
    let m = g.S.Service.meaning in
    let s = c.args.settings.now in
    let crew = c.args.crew in
    let n : Names g.row.S.Denot = record { head = w.head; entries = w.entries; begun = w.begun; failures = w.failures; receivers = w.receivers; leaving = w.leaving; arriving = w.arriving; lane = w.lane; restored = w.restored; opening = w.opening m } in
    named-head m d.told d.remembers d.cells d.moment d.left_since d.faults o.written o.faults c.requires.crew.0 s crew c.requires.crew.1 n c.requires.named

pub run_seated-members-requires-clause-fresh : goal.run_seated-members-requires-clause-fresh
run_seated-members-requires-clause-fresh g c = λ _ _.
    let fresh = c.in-Ok-seat_client.ensures.client in
    (fresh.1.0, (fresh.1.1.0, (fresh.1.1.1.1, ap (λ (x : Client). x.last) fresh.0)))

pub run_seated-members-requires-clause-manned : goal.run_seated-members-requires-clause-manned
run_seated-members-requires-clause-manned g c = λ _ _.
    let d = g.D.Disk in
    let o = g.O.Sink in
    let w = g.N.Named in
    let m = g.S.Service.meaning in
    let s = c.args.settings.now in
    let crew = c.args.crew in
    let n : Names g.row.S.Denot = record { head = w.head; entries = w.entries; begun = w.begun; failures = w.failures; receivers = w.receivers; leaving = w.leaving; arriving = w.arriving; lane = w.lane; restored = w.restored; opening = w.opening m } in
    let origins = origins_of m d.told d.cells o.written c.requires.crew.0 s crew.heads.items crew.stations.items c.requires.crew.1.fit in
    (origins, c.seat_all-runners.ensures.manned origins (opened-of m d.told d.cells o.written c.requires.crew.0 s crew.heads.items crew.stations.items c.requires.crew.1.fit))

pub run_seated-members-requires-clause-room : goal.run_seated-members-requires-clause-room
run_seated-members-requires-clause-room g c = omega (arith, c.seat_all-runners.ensures.many, c.seat_all-runners.ensures.room)

pub returns-in-Ok-seat_client : goal.returns-in-Ok-seat_client
returns-in-Ok-seat_client g c = λ images is.
    let d = g.D.Disk in
    let o = g.O.Sink in
    let w = g.N.Named in
    let m = g.S.Service.meaning in
    let s = c.args.settings.now in
    let crew = c.args.crew in
    let n : Names g.row.S.Denot = record { head = w.head; entries = w.entries; begun = w.begun; failures = w.failures; receivers = w.receivers; leaving = w.leaving; arriving = w.arriving; lane = w.lane; restored = w.restored; opening = w.opening m } in
    let out : Output = record { written = g.W.Sink.written c.args.output.now; faults = g.W.Sink.faults c.args.output.now; wants = g.W.Sink.wants c.args.output.now } in
    let ran = c.run_seated-members in
    let done : Output = record { written = g.W.Sink.written ran.new.output; faults = g.W.Sink.faults ran.new.output; wants = g.W.Sink.wants ran.new.output } in
    let all = crew.stations in
    let bs = all.items in
    let seats = c.seat_all-runners in
    let runners = seats.result.runners in
    let left = seats.result.left in
    let es = ran.result.members in
    let r = ran.ensures in
    let many : left.len + runners.len ≡ all.len = seats.ensures.many in record {
      heads = refl;
      members = named-ended m d.told d.remembers d.cells d.moment d.left_since d.faults o.written o.faults images s crew is n c.requires.named es.items runners.len (omega (arith, r.many, many, es.ok.0, all.ok.0))
          (λ i e b few.
          let x = some-of runners.items i (omega (arith, few, runners.ok.0)) in
          r.numbers i e x few ∙ seats.ensures.seated i x b few)
          (λ origins begun opened were i e few. r.ended origins begun (seats.ensures.manned origins opened) (seats.ensures.worked begun were) i e few)
          (λ i b e high low.
          let within : i < all.len = omega (arith, low, all.ok.0) in
          let below : i < left.len + runners.len = omega (arith, within, many) in
          let index : left.len + runners.len - (i + 1) ≡ all.len - (i + 1) = omega (arith, many) in
          let same : get_or es.items i e ≡ get_or left.items (all.len - (i + 1)) e = r.behind i e e high below ∙ ap (λ (k : ℕ). get_or left.items k e) index in
          subst (λ x. IsUnseated (get_or bs i b) x) (sym same) (seats.ensures.unseated i e b high within));
      client = seated-client m d.told d.remembers d.cells d.moment d.left_since d.faults o.written o.faults images s crew is n c.requires.named ran.result.client ran.result.end out done r.some r.client r.cause r.failed r.want r.later;
    }
