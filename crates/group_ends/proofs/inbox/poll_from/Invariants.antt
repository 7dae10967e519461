use Rattle.std.proofs.Common.{◌≡◌, take, vec_len}
use Rattle.smart_base.specs.Lists.{Each}
use Rattle.group_ends.specs.Ports.{inbox_links, heard_and_taken, heard_puts, IsEmptied}
use Rattle.group_ends.proofs.inbox.poll_from.Given as goal

-- no link polled so far had a message
abbrev pub invariant-loop-index : goal.invariant-loop-index
invariant-loop-index g l = record {
  links : inbox_links l.links.items ≡ inbox_links l.initial.links.items;
  none : heard_and_taken l.links.items ≡ heard_and_taken l.initial.links.items;
  heard : heard_puts l.links.items ≡ heard_puts l.initial.links.items;
  many : vec_len l.links ≡ vec_len l.initial.links;
  empty : l.first ≡ 0 → Each IsEmptied (take l.index (heard_and_taken l.initial.links.items));
}
