use Rattle.std.proofs.Common.{◌≡◌, ◌≤◌, false, None}
use Rattle.group_ends.specs.Journals.{has_end}
use Rattle.group_ends.specs.Ports.{heard_puts}
use Rattle.group_client.specs.Amounts.{amounts, asked_in}
use Rattle.group_client.specs.Lines.{accepted, IsTold}
use Rattle.group_client.proofs.turns.client_loop.Given as goal

abbrev pub invariant-loop : goal.invariant-loop
invariant-loop g l = record {
  whole : l.seat.over ≡ false;
  played : l.seat.pending ≡ None;
  asked : asked_in l.seat.journal.events.items ≡ amounts l.seat.client.last;
  few : l.seat.client.last ≤ l.task.asks;
  unended : has_end l.seat.journal.events.items ≡ false;
  heard : heard_puts l.seat.inbox.links.items ≡ heard_puts l.fn.seat.inbox.links.items;
  told : IsTold (accepted (g.P.Owner.head 0) l.fn.seat.journal.events.items) (accepted (g.P.Owner.head 0) l.seat.journal.events.items) (g.W.Sink.written l.fn.output) (g.W.Sink.written l.output);
  later : (g.W.Sink.faults l.fn.output ≤ g.W.Sink.faults l.output) × (g.W.Sink.wants l.fn.output ≤ g.W.Sink.wants l.output);
}
