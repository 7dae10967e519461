use Rattle.std.proofs.Common.{◌≡◌, ◌≤◌, ℕ, length, vec_len}
use Rattle.group_wires.proofs.Rejoined.{IsPartly}
use Rattle.group_wires.proofs.rejoining.rejoin_row.Given as goal

abbrev pub invariant-loop-port : goal.invariant-loop-port
invariant-loop-port l = record {
  partly : (i : ℕ) → IsPartly i l.initial.ports.items l.ports.items l.initial.inboxes.items l.inboxes.items;
  many : vec_len l.inboxes ≡ vec_len l.initial.inboxes;
  few : length l.ports.items ≤ length l.initial.ports.items;
}

abbrev pub decreases-loop-port : goal.decreases-loop-port
decreases-loop-port l = vec_len l.ports
