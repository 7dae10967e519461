use Rattle.std.proofs.Common.{◌≡◌, ℕ, ◌++◌, List, length}
use Rattle.std.specs.List.{flat_map}
use Rattle.smart_base.specs.Lists.{Each}
use Rattle.frame_stream.specs.Frames.{framed, IsShort}
use Rattle.frame_stream.proofs.stream.take_frames.Given as goal

abbrev pub invariant-loop-length : goal.invariant-loop-length
invariant-loop-length l = record {
  more : List (List ℕ);
  ready : l.ready.items ≡ l.initial.ready.items ++ more;
  is : l.bytes ≡ flat_map framed more ++ l.left;
  short : Each IsShort more;
}

abbrev pub decreases-loop-length : goal.decreases-loop-length
decreases-loop-length l = length l.left
