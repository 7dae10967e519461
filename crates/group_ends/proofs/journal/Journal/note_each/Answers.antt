use Rattle.std.proofs.Common.{◌≡◌, ◌∙◌, ◌++◌, ◌∷◌, [], ◌≤◌, List, length, length-append, append_assoc, ap, sym, arith}
use Rattle.trail.specs.declared.event.TrailEvent.{TrailEvent}
use Rattle.group_ends.specs.Journals.{is_end, has_end}
use Rattle.group_ends.proofs.Ending.{neither}
use Rattle.group_ends.proofs.Texts.{later-still, rose-later}
use Rattle.group_ends.proofs.Offering.{front-split}
use Rattle.group_ends.proofs.Leaving.{on-err, same-fault}
use Rattle.group_ends.proofs.journal.Journal.note_each.Goals as goal

pub loop-event-preserved : goal.loop-event-preserved
loop-event-preserved g c =
    let inv = c.loop-event.invariant in
    let was = c.loop-event.self.events.items in
    let rest = c.next.new.self.rest.items in
    let e = c.in-Some.event in
    let new = c.note.new.self.events.items in
    let is : c.loop-event.event-iterator.rest.items ≡ e ∷ rest = c.in-Some.ensures.steps.0 in
    let both = neither (is_end e) (has_end rest) (sym (ap has_end is) ∙ inv.none) in record {
      noted = ap (λ (l : List TrailEvent). l ++ rest) c.note.ensures.events ∙ append_assoc was (e ∷ []) rest ∙ ap (λ (l : List TrailEvent). was ++ l) (sym is) ∙ inv.noted;
      longer = omega (arith, inv.longer, ap length c.note.ensures.events, length-append was (e ∷ []));
      whole = c.in_ok-note.ensures.whole;
      going = c.note.ensures.ended ∙ both.0;
      none = both.1;
      later = later-still (g.O.Sink.faults c.args.self.now.sink) (g.O.Sink.faults c.loop-event.self.sink) (g.O.Sink.faults c.note.new.self.sink) inv.later c.note.ensures.later;
      number = c.note.ensures.number ∙ inv.number;
    }

pub returns-in_err-note-clause-err : goal.returns-in_err-note-clause-err
returns-in_err-note-clause-err g c =
    let inv = c.loop-event.invariant in
    let es = c.args.self.now.events.items in
    let was = c.loop-event.self.events.items in
    let rest = c.next.new.self.rest.items in
    let e = c.in-Some.event in
    let new = c.note.new.self.events.items in
    let is : c.loop-event.event-iterator.rest.items ≡ e ∷ rest = c.in-Some.ensures.steps.0 in
    let longer : length es ≤ length new = omega (arith, inv.longer, ap length c.note.ensures.events, length-append was (e ∷ [])) in
    let same : new ++ rest ≡ es ++ c.args.events.items = ap (λ (l : List TrailEvent). l ++ rest) c.note.ensures.events ∙ append_assoc was (e ∷ []) rest ∙ ap (λ (l : List TrailEvent). was ++ l) (sym is) ∙ inv.noted in
    on-err c.from_residual.result (front-split es c.args.events.items new rest same longer)

pub returns-in_err-note-clause-going : goal.returns-in_err-note-clause-going
returns-in_err-note-clause-going g c =
    let is = c.in-Some.ensures.steps.0 in
    c.note.ensures.ended ∙ (neither (is_end c.in-Some.event) (has_end c.next.new.self.rest.items) (sym (ap has_end is) ∙ c.loop-event.invariant.none)).0

pub returns-in_err-note-clause-later : goal.returns-in_err-note-clause-later
returns-in_err-note-clause-later g c =
    later-still (g.O.Sink.faults c.args.self.now.sink) (g.O.Sink.faults c.loop-event.self.sink) (g.O.Sink.faults c.note.new.self.sink) c.loop-event.invariant.later c.note.ensures.later

pub returns-in_err-note-clause-cause : goal.returns-in_err-note-clause-cause
returns-in_err-note-clause-cause g c = λ failed.
    let caused = c.note.ensures.cause (same-fault c.note.result c.from_residual.result c.in_err-note.field-0.0 _ c.in_err-note.was c.from_residual.ensures.1 failed) in
    (caused.0, rose-later (g.O.Sink.faults c.args.self.now.sink) (g.O.Sink.faults c.loop-event.self.sink) (g.O.Sink.faults c.note.new.self.sink) c.loop-event.invariant.later caused.1)
