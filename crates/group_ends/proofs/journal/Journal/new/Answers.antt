use Rattle.std.proofs.Common.{◌≡◌, [], ap, sym, subst, true≢false, rules}
use Rattle.std.specs.Io.KnownBytes.{Appends}
use Rattle.trail.specs.Trails.{trail_text}
use Rattle.group_ends.specs.Journals.{has_end}
use Rattle.group_ends.proofs.Ending.{last-none}
use Rattle.group_ends.proofs.Texts.{has-all}
use Rattle.group_ends.proofs.journal.Journal.new.Goals as goal

pub invariant_of-result : goal.invariant_of-result
invariant_of-result g c =
    let a = c.args in
    let owner = g.P.Owner in
    let head = owner.head a.number in
    let entries = owner.entries a.number in
    let begun = owner.begun a.number in
    let events = c.reserve.new.self.items in
    let none : events ≡ [] = search rules in
    let text = subst (λ es. Appends begun (g.O.Sink.written a.sink) (trail_text head entries es)) (sym none) c.requires.sink in record {
      room = search rules;
      text = has-all begun (g.O.Sink.written a.sink) (trail_text head entries events) text;
      all_text = λ _. text;
      later = c.requires.later;
      cause = λ failed. absurd (true≢false (sym failed));
      ends = sym (ap has_end none);
      end_last = last-none events none;
    }
