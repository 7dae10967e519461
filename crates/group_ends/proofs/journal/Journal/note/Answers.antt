use Rattle.std.proofs.Common.{◌≡◌, ◌∙◌, [], ◌∷◌, ◌++◌, true≢false, sym}
use Rattle.trail.specs.Events.{event_text}
use Rattle.trail.specs.Trails.{trail_text}
use Rattle.group_ends.proofs.Ending.{end-more, last-by}
use Rattle.group_ends.proofs.Texts.{has-all, text-all, text-none, text-front, later-still, rose-still}
use Rattle.group_ends.proofs.journal.Journal.note.Goals as goal

pub invariant_of-self-2 : goal.invariant_of-self-2
invariant_of-self-2 g c =
    let s = c.args.self.now in
    let owner = g.P.Owner in
    let head = owner.head s.number in
    let entries = owner.entries s.number in
    let begun = owner.begun s.number in
    let es = s.events.items in
    let new = c.push.new.events.items in
    let e = c.args.event in
    let longer : new ≡ es ++ e ∷ [] = c.push.ensures.events in
    let is : c.as_slice.result.now ≡ event_text e = c.as_slice.ensures ∙ c.in-Ok.ensures.text in
    let before = g.O.Sink.written s.sink in
    let now = g.O.Sink.written c.write_part.new.sink in
    let text = text-all head entries es new e longer begun before now (s.all_text c.requires.whole) c.as_slice.result.now is c.in_ok-write_part.ensures.ok in record {
      room = λ _. c.in-Ok.ensures.room;
      text = has-all begun now (trail_text head entries new) text;
      all_text = λ _. text;
      later = later-still (owner.failures s.number) (g.O.Sink.faults s.sink) (g.O.Sink.faults c.write_part.new.sink) s.later c.write_part.ensures.later;
      cause = rose-still (owner.failures s.number) (g.O.Sink.faults s.sink) (g.O.Sink.faults c.write_part.new.sink) s.failed c.write_part.new.failed s.cause s.later c.write_part.ensures.later c.write_part.ensures.failed;
      ends = c.is_end-self.ensures ∙ sym (end-more es new e longer c.requires.going);
      end_last = last-by es new e longer c.requires.going;
    }

pub invariant_of-self-in-Break-1 : goal.invariant_of-self-in-Break-1
invariant_of-self-in-Break-1 g c =
    let s = c.args.self.now in
    let owner = g.P.Owner in
    let head = owner.head s.number in
    let entries = owner.entries s.number in
    let begun = owner.begun s.number in
    let es = s.events.items in
    let new = c.push.new.events.items in
    let e = c.args.event in
    let longer : new ≡ es ++ e ∷ [] = c.push.ensures.events in
    let is : c.as_slice.result.now ≡ event_text e = c.as_slice.ensures ∙ c.in-Ok.ensures.text in
    let before = g.O.Sink.written s.sink in
    let now = g.O.Sink.written c.write_part.new.sink in
    let wrote = c.in_err-write_part.ensures.err in record {
      room = λ whole. absurd (true≢false (sym whole));
      text = text-front head entries es new e longer begun before now (s.all_text c.requires.whole) c.as_slice.result.now is wrote.0 wrote.1;
      all_text = λ whole. absurd (true≢false (sym whole));
      later = later-still (owner.failures s.number) (g.O.Sink.faults s.sink) (g.O.Sink.faults c.write_part.new.sink) s.later c.write_part.ensures.later;
      cause = rose-still (owner.failures s.number) (g.O.Sink.faults s.sink) (g.O.Sink.faults c.write_part.new.sink) s.failed c.write_part.new.failed s.cause s.later c.write_part.ensures.later c.write_part.ensures.failed;
      ends = c.is_end-self.ensures ∙ sym (end-more es new e longer c.requires.going);
      end_last = last-by es new e longer c.requires.going;
    }

pub invariant_of-self : goal.invariant_of-self
invariant_of-self g c =
    let s = c.args.self.now in
    let owner = g.P.Owner in
    let head = owner.head s.number in
    let entries = owner.entries s.number in
    let begun = owner.begun s.number in
    let es = s.events.items in
    let new = c.push.new.events.items in
    let e = c.args.event in
    let longer : new ≡ es ++ e ∷ [] = c.push.ensures.events in record {
      room = λ whole. absurd (true≢false (sym whole));
      text = text-none head entries es new e longer begun (g.O.Sink.written s.sink) (g.O.Sink.written s.sink) (s.all_text c.requires.whole);
      all_text = λ whole. absurd (true≢false (sym whole));
      later = s.later;
      cause = s.cause;
      ends = c.is_end-self.ensures ∙ sym (end-more es new e longer c.requires.going);
      end_last = last-by es new e longer c.requires.going;
    }

pub returns-clause-ended : goal.returns-clause-ended
returns-clause-ended g c = end-more c.args.self.now.events.items c.push.new.events.items c.args.event c.push.ensures.events c.requires.going

pub returns-in_err-write_part-clause-ended : goal.returns-in_err-write_part-clause-ended
returns-in_err-write_part-clause-ended g c = end-more c.args.self.now.events.items c.push.new.events.items c.args.event c.push.ensures.events c.requires.going

pub returns-in_default-clause-ended : goal.returns-in_default-clause-ended
returns-in_default-clause-ended g c = end-more c.args.self.now.events.items c.push.new.events.items c.args.event c.push.ensures.events c.requires.going
