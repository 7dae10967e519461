use Rattle.std.proofs.Common.{◌≡◌, ◌∙◌, refl, sym, ap, subst, true≢false}
use Rattle.group_links.specs.Link.{link_put, link_taken}
use Rattle.std.specs.Io.KnownBytes.{Appends}
use Rattle.trail.specs.Trails.{trail_text}
use Rattle.trail_rules.specs.Replays.{arrivals}
use Rattle.node_seat.specs.Seats.{payloads}
use Rattle.node_seat.proofs.Fronts.{first-same, wrote-all}
use Rattle.node_seat.proofs.seat.Seat.new.Goals as goal

pub invariant_of-result : goal.invariant_of-result
invariant_of-result g c =
    let a = c.args in
    let place = g.P.Place in
    let none = c.requires.inner.0 in
    let new = a.inner.trail.items in
    let came : link_taken a.from ≡ arrivals new = c.requires.from.1 ∙ sym (ap arrivals none) in
    let left : link_put a.to ≡ payloads new = c.requires.to.1 ∙ sym (ap payloads none) in
    let text = subst (λ es. Appends place.begun (g.O.Sink.written a.sink) (trail_text place.head place.entries es)) (sym none) c.requires.sink in record {
      whole = λ _. c.requires.inner.1;
      uncut = λ _. refl;
      came = first-same (arrivals new) (link_taken a.from) came;
      all_came = λ _. came;
      left = first-same (link_put a.to) (payloads new) (sym left);
      all_left = λ _. left;
      text = wrote-all place.begun (g.O.Sink.written a.sink) (trail_text place.head place.entries new) text;
      all_text = λ _. text;
      named = (c.requires.from.0, c.requires.to.0);
      later = c.requires.later;
      cause = λ failed. absurd (true≢false (sym failed));
    }
