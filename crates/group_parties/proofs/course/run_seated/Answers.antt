use Rattle.std.proofs.Common.{◌≡◌, ◌∙◌, ◌<◌, ◌≤◌, ◌+◌, ◌-◌, ℕ, length, get_or, refl, sym, ap, subst, arith}
use Rattle.trail.specs.declared.opening.TrailOpening.{TrailOpening}
use Rattle.group_client.specs.Loops.{Output}
use Rattle.group_parties.specs.Manned.{HasDesk, HasWorked, HoldsDesk}
use Rattle.group_parties.specs.Origins.{Origin}
use Rattle.group_parties.specs.Courses.{CourseMade}
use Rattle.group_parties.specs.Seated.{IsClientLeft}
use Rattle.group_parties.specs.Stations.{Names}
use Rattle.group_parties.proofs.Ended.{all-at, all-so, as-many, ended-from, has-holds, numbers-same}
use Rattle.group_parties.proofs.Muted.{client-ended}
use Rattle.group_parties.proofs.Stationed.{some-of}
use Rattle.group_parties.proofs.course.run_seated.Goals as goal

pub finish_all-requires : goal.finish_all-requires
finish_all-requires g c =
    let d = g.D.Disk in
    let p = g.P.GroupLife in
    let origins = c.requires.manned.0 in
    let now = c.run_if_seated-end.new.members.runners.items in
    let many = as-many (λ r. r.member) now c.args.runners.items c.run_if_seated-end.ensures.same in record {
      desks = all-so now (λ r. HasDesk d.told d.remembers d.cells d.moment d.left_since g.S.Service.meaning (origins r.member) (p.lane r.member) (p.opening r.member) (p.restored r.member) r.desk)
          (λ r. HoldsDesk (p.lane r.member) (p.restored r.member) r.desk)
          (λ r has. has-holds d.told d.remembers d.cells d.moment d.left_since g.S.Service.meaning (origins r.member) (p.lane r.member) (p.opening r.member) (p.restored r.member) r.desk has)
          (c.run_if_seated-end.ensures.since origins c.requires.manned.1);
      room = omega (arith, c.requires.room, many, c.args.runners.ok.0, c.run_if_seated-end.new.members.runners.ok.0);
    }

pub returns : goal.returns
returns g c =
    let d = g.D.Disk in
    let p = g.P.GroupLife in
    let w = g.P.Owner in
    let m = g.S.Service.meaning in
    let o = g.O.Sink in
    let s = c.args.settings.now in
    let ran = c.run_if_seated-end in
    let before = c.args.runners in
    let after = ran.new.members.runners in
    let all = before.items in
    let now = after.items in
    let left = c.args.left in
    let made = ran.ensures.made in
    let f = c.finish_all.ensures in
    let own = c.finish_client.ensures in
    let many : length now ≡ length all = as-many (λ r. r.member) now all ran.ensures.same in
    let few : (i : ℕ) → i < before.len → i < length now = λ i within. omega (arith, within, many, before.ok.0) in
    let fewer : (i : ℕ) → i < before.len → i < after.len = λ i within. omega (arith, within, many, before.ok.0, after.ok.0) in
    let out : Output = record { written = g.W.Sink.written c.args.output.now; faults = g.W.Sink.faults c.args.output.now; wants = g.W.Sink.wants c.args.output.now } in
    let done : Output = record { written = g.W.Sink.written ran.new.output; faults = g.W.Sink.faults ran.new.output; wants = g.W.Sink.wants ran.new.output } in
    let n : Names g.row.S.Denot = record { head = w.head; entries = w.entries; begun = w.begun; failures = w.failures; receivers = w.receivers; leaving = w.leaving; arriving = w.arriving; lane = p.lane; restored = p.restored; opening = p.opening } in record {
      many = omega (arith, f.many, many, before.ok.0, after.ok.0);
      numbers = λ i e r within. f.members i e r (fewer i within) ∙ numbers-same (λ x. x.member) now all ran.ensures.same i r r (omega (arith, within, before.ok.0));
      ended = λ origins begun has worked i e within.
          let r = some-of now i (few i within) in
          let one = get_or now i r in
          let at = fewer i within in
          let has-one = all-at now (λ x. HasDesk d.told d.remembers d.cells d.moment d.left_since m (origins x.member) (p.lane x.member) (p.opening x.member) (p.restored x.member) x.desk) (ran.ensures.since origins has) i r (few i within) in
          let worked-one = all-at now (λ x. HasWorked d.faults (begun x.member) x.ends x.desk) (ran.ensures.worked begun worked) i r (few i within) in
          let devices = f.devices begun i e r at worked-one in
          ended-from n m d.told d.remembers d.cells d.moment d.left_since d.faults o.written o.faults (λ k. (origins k).images) s origins begun one.member (get_or c.finish_all.result.items i e) (f.members i e r at) devices.0 devices.1 (f.cause i e r at) (f.since origins i e r at has-one) (f.lived origins i e r at has-one);
      behind = λ i e x high low.
          let index : left.len + after.len - (i + 1) ≡ left.len + before.len - (i + 1) = omega (arith, many, before.ok.0, after.ok.0) in
          f.behind i e x (omega (arith, high, many, before.ok.0, after.ok.0)) (omega (arith, low, many, before.ok.0, after.ok.0)) ∙ ap (λ (k : ℕ). get_or left.items k x) index;
      some = own.some;
      client = client-ended (IsClientLeft (w.head 0) (w.entries 0) o.written (w.begun 0) (w.receivers 0) (w.leaving 0) (w.arriving 0) c.finish_client.result.sink) s c.finish_client.result.polls ran.result ran.new.seat.client
          ran.new.seat.journal.events.items out done c.finish_client.result.lived own.left own.behind (rw c.requires.head at own.waits) own.polls
          (subst (λ (head : TrailOpening). CourseMade head s.asks s.turns ran.result ran.new.seat.client ran.new.seat.journal.events.items out done) c.requires.head made);
      cause = own.cause;
      failed = made.output;
      want = made.want;
      later = made.later;
    }
