use Rattle.std.proofs.Common.{◌≡◌, take, drop, vec_len}
use Rattle.group_ends.specs.Ports.{AreOffered}
use Rattle.group_ends.proofs.sending.offer_all.Given as goal

-- the links before the index were offered the message, and the others are as they were
abbrev pub invariant-loop-index : goal.invariant-loop-index
invariant-loop-index g l = record {
  offered : AreOffered l.to l.text (take l.index l.initial.ports.items) l.dropped.items (take l.index l.ports.items);
  others : drop l.index l.initial.ports.items ≡ drop l.index l.ports.items;
  many : vec_len l.ports ≡ vec_len l.initial.ports;
}
