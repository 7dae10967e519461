use Rattle.std.proofs.Common.{◌≡◌, ◌≤◌, ◌++◌, List, ℕ, Option, None, take}
use Rattle.script_play.specs.Apps.{core_courses}
use Rattle.smart_top.specs.Feeds.{HasTaken}
use Rattle.smart_top.proofs.reader.feed.Given as goal

-- the bytes so far are taken
abbrev pub invariant-loop-byte : goal.invariant-loop-byte
invariant-loop-byte g l =
    record {
      going : l.reader.script.refused ≡ None;
      taken : (bytes : List ℕ) (written : Option (List ℕ)) → HasTaken core_courses bytes written (g.O.Sink.written l.fn.output) l.fn.reader.line l.fn.reader.script
          → HasTaken core_courses (bytes ++ take l.byte-index l.piece) written (g.O.Sink.written l.output) l.reader.line l.reader.script;
      faults : g.O.Sink.faults l.fn.output ≤ g.O.Sink.faults l.output;
      wants : g.O.Sink.wants l.fn.output ≤ g.O.Sink.wants l.output;
    }
