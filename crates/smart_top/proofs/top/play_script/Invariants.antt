use Rattle.std.proofs.Common.{◌≡◌, ◌≤◌, List, length, ℕ, None}
use Rattle.script_play.specs.Apps.{core_courses}
use Rattle.smart_top.specs.Feeds.{GoesOn}
use Rattle.smart_top.proofs.top.play_script.Given as goal

-- the bytes that were read so far are taken, and each read gave some
abbrev pub invariant-loop : goal.invariant-loop
invariant-loop g l =
    record {
      going : l.reader.script.refused ≡ None;
      taken : (bytes : List ℕ) × GoesOn core_courses bytes (g.I.Source.left l.fn.input) (g.I.Source.left l.input) (g.O.Sink.written l.fn.output) (g.O.Sink.written l.output) l.reader.line l.reader.script × (l.counter ≤ length bytes);
      reads : g.I.Source.faults l.fn.input ≤ g.I.Source.faults l.input;
      faults : g.O.Sink.faults l.fn.output ≤ g.O.Sink.faults l.output;
      wants : g.O.Sink.wants l.fn.output ≤ g.O.Sink.wants l.output;
    }
