use Rattle.std.proofs.Common.{◌≡◌, ◌≤◌, ◌++◌, true, false, length}
use Rattle.group_ends.specs.Journals.{has_end}
use Rattle.group_ends.proofs.journal.Journal.note_each.Given as goal

-- what is noted and what is left are all
abbrev pub invariant-loop-event : goal.invariant-loop-event
invariant-loop-event g l = record {
  noted : l.self.events.items ++ l.event-iterator.rest.items ≡ l.initial.self.events.items ++ l.fn.events.items;
  longer : length l.initial.self.events.items ≤ length l.self.events.items;
  whole : l.self.whole ≡ true;
  going : has_end l.self.events.items ≡ false;
  none : has_end l.event-iterator.rest.items ≡ false;
  later : g.O.Sink.faults l.initial.self.sink ≤ g.O.Sink.faults l.self.sink;
  number : l.self.number ≡ l.initial.self.number;
}
