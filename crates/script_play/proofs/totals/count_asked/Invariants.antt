use Rattle.std.proofs.Common.{◌≡◌, ◌≤◌, take}
use Rattle.std.specs.List.{count_by}
use Rattle.script_play.specs.Totals.{is_asked}
use Rattle.script_play.proofs.totals.count_asked.Given as goal

-- those so far are counted
abbrev pub invariant-loop-message : goal.invariant-loop-message
invariant-loop-message l = record {
  so_far : l.count ≡ count_by is_asked (take l.message-index l.sent);
  small : l.count ≤ l.message-index;
}
