use Rattle.std.proofs.Common.{◌≡◌, ◌∙◌, [], ◌∷◌, ◌++◌, refl, sym, true≢false}
use Rattle.group_links.specs.Link.{link_put, link_taken, link_heard_put}
use Rattle.trail.specs.Events.{event_text}
use Rattle.trail.specs.Trails.{trail_text}
use Rattle.trail.specs.declared.event.TrailEvent.TheVariants.{Happens}
use Rattle.smart_statements.specs.declared.entry.NodeEvent.TheVariants.{Arrive}
use Rattle.trail_rules.specs.Replays.{arrivals}
use Rattle.node_seat.specs.Seats.{payloads}
use Rattle.node_seat.proofs.Fronts.{first-same, wrote-all}
use Rattle.node_seat.proofs.Seated.{came-by, left-own, text-all, text-first, heard-came, later-still, rose-still}
use Rattle.node_seat.proofs.seat.Seat.arrive.Goals as goal

pub invariant_of-self-2 : goal.invariant_of-self-2
invariant_of-self-2 g c =
    let s = c.args.self.now in
    let es = s.inner.trail.items in
    let new = c.event.new.self.trail.items in
    let e = Happens (Arrive c.in-Some.bytes) in
    let longer : new ≡ es ++ e ∷ [] = c.in_ok-text.ensures.ok.0 in
    let is : c.as_slice.result.now ≡ event_text e = c.as_slice.ensures ∙ c.in_ok-text.ensures.text.0 in
    let place = g.P.Place in
    let before = g.O.Sink.written s.sink in
    let now = g.O.Sink.written c.write_part.new.sink in
    let came : link_taken c.poll.new.self ≡ arrivals new = came-by es new e longer (link_taken s.from) (link_taken c.poll.new.self) (s.all_came (s.uncut c.requires.over)) c.in-Some.ensures.taken in
    let left : link_put s.to ≡ payloads new = left-own es new e longer (link_put s.to) (s.all_left (s.uncut c.requires.over)) refl in
    let text = text-all es new e longer place.head place.entries place.begun before now c.as_slice.result.now is (s.all_text (s.uncut c.requires.over)) c.in_ok-write_part.ensures.ok in record {
      whole = λ _. c.in_ok-text.ensures.ok.1;
      uncut = λ _. refl;
      came = first-same (arrivals new) (link_taken c.poll.new.self) came;
      all_came = λ _. came;
      left = first-same (link_put s.to) (payloads new) (sym left);
      all_left = λ _. left;
      text = wrote-all place.begun now (trail_text place.head place.entries new) text;
      all_text = λ _. text;
      named = (c.poll.ensures.link ∙ s.named.0, s.named.1);
      later = later-still place.failures (g.O.Sink.faults s.sink) (g.O.Sink.faults c.write_part.new.sink) s.later c.write_part.ensures.later;
      cause = rose-still place.failures (g.O.Sink.faults s.sink) (g.O.Sink.faults c.write_part.new.sink) s.failed c.write_part.new.failed s.cause s.later c.write_part.ensures.later c.write_part.ensures.failed;
    }

pub invariant_of-self-in-Break-branch-2 : goal.invariant_of-self-in-Break-branch-2
invariant_of-self-in-Break-branch-2 g c =
    let s = c.args.self.now in
    let es = s.inner.trail.items in
    let new = c.event.new.self.trail.items in
    let e = Happens (Arrive c.in-Some.bytes) in
    let longer : new ≡ es ++ e ∷ [] = c.in_ok-text.ensures.ok.0 in
    let is : c.as_slice.result.now ≡ event_text e = c.as_slice.ensures ∙ c.in_ok-text.ensures.text.0 in
    let place = g.P.Place in
    let before = g.O.Sink.written s.sink in
    let now = g.O.Sink.written c.write_part.new.sink in
    let came : link_taken c.poll.new.self ≡ arrivals new = came-by es new e longer (link_taken s.from) (link_taken c.poll.new.self) (s.all_came (s.uncut c.requires.over)) c.in-Some.ensures.taken in
    let left : link_put s.to ≡ payloads new = left-own es new e longer (link_put s.to) (s.all_left (s.uncut c.requires.over)) refl in
    let wrote = c.in_err-write_part.ensures.err in record {
      whole = λ over. absurd (true≢false over);
      uncut = λ over. absurd (true≢false over);
      came = first-same (arrivals new) (link_taken c.poll.new.self) came;
      all_came = λ cut. absurd (true≢false cut);
      left = first-same (link_put s.to) (payloads new) (sym left);
      all_left = λ cut. absurd (true≢false cut);
      text = text-first es new e longer place.head place.entries place.begun before now c.as_slice.result.now is wrote.0 (s.all_text (s.uncut c.requires.over)) wrote.1;
      all_text = λ cut. absurd (true≢false cut);
      named = (c.poll.ensures.link ∙ s.named.0, s.named.1);
      later = later-still place.failures (g.O.Sink.faults s.sink) (g.O.Sink.faults c.write_part.new.sink) s.later c.write_part.ensures.later;
      cause = rose-still place.failures (g.O.Sink.faults s.sink) (g.O.Sink.faults c.write_part.new.sink) s.failed c.write_part.new.failed s.cause s.later c.write_part.ensures.later c.write_part.ensures.failed;
    }

pub returns-in_default-clause-nothing : goal.returns-in_default-clause-nothing
returns-in_default-clause-nothing g c =
    let s = c.args.self.now in
    λ _. heard-came (link_heard_put s.from) (link_taken s.from) (arrivals s.inner.trail.items) c.in_default.ensures.taken.1 (s.all_came (s.uncut c.requires.over))
