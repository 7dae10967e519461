use Rattle.std.proofs.Common.{◌≡◌, None, rules, ap}
use Rattle.trail_rules.specs.Replays.{arrivals}
use Rattle.group_ends.specs.Ports.{takings}
use Rattle.group_ends.proofs.Seated.{come-links, come-same, most-same}
use Rattle.group_seat.proofs.Links.{most-links}
use Rattle.group_seat.proofs.seat.GroupSeat.into_parts.Goals as goal

pub invariant_of-self : goal.invariant_of-self
invariant_of-self g c =
    let s = c.args.self in record {
      uncut = s.uncut;
      whole = s.whole;
      came = s.came;
      all_came = s.all_came;
      left = s.left;
      all_left = s.all_left;
      late = s.late;
      apart = s.apart;
      named = s.named;
      own = s.own;
    }

pub returns-clause-came : goal.returns-clause-came
returns-clause-came g c =
    let s = c.args.self in
    let es = s.inner.journal.events.items in
    let new = c.into_parts.result.journal.events.items in
    let old = s.inbox.links.items in
    let links = c.into_links.result.items in
    let noted : new ≡ es = search rules in
    let kept : links ≡ old = search rules in
    most-same es new links (ap arrivals noted) (most-links es old links (ap takings kept) s.came)

pub returns-clause-all_came : goal.returns-clause-all_came
returns-clause-all_came g c = λ uncut.
    let s = c.args.self in
    let es = s.inner.journal.events.items in
    let new = c.into_parts.result.journal.events.items in
    let old = s.inbox.links.items in
    let links = c.into_links.result.items in
    let noted : new ≡ es = search rules in
    let kept : links ≡ old = search rules in
    come-same es new None links (ap arrivals noted) (come-links es None old links (ap takings kept) (s.all_came uncut))
