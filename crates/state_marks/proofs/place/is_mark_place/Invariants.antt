use Rattle.std.proofs.Common.{◌≡◌, false}
use Rattle.state_marks.specs.Places.{is_mark_of_first}
use Rattle.state_marks.proofs.place.is_mark_place.Given as goal

-- none of the members so far takes its checkpoint there
abbrev pub invariant-loop-index : goal.invariant-loop-index
invariant-loop-index l = is_mark_of_first l.view l.period l.place l.index ≡ false
