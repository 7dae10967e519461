use Rattle.std.proofs.Common.{◌≤◌, ℕ, [], get_or, length, vec_len}
use Rattle.smart_base.specs.Lists.{Each}
use Rattle.group_wires.specs.declared.row.Row.{Row}
use Rattle.group_wires.specs.Wires.{column, all_takings, row_links, row_puts, AreFronts, AreLinked}
use Rattle.group_wires.proofs.rejoining.rejoin_all.Given as goal

abbrev pub invariant-loop-row : goal.invariant-loop-row
invariant-loop-row l = record {
  came : (i : ℕ) → AreFronts (get_or (all_takings l.inboxes.items) i []) (column i (row_puts l.rows.items)) → AreFronts (get_or (all_takings l.initial.inboxes.items) i []) (column i (row_puts l.initial.rows.items));
  linked : AreLinked (row_links l.rows.items) l.inboxes.items;
  within : Each (λ (row : Row). length row.ports.items ≤ vec_len l.inboxes) l.rows.items;
}

abbrev pub decreases-loop-row : goal.decreases-loop-row
decreases-loop-row l = vec_len l.rows
