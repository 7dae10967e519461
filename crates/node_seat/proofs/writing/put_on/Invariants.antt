use Rattle.std.proofs.Common.{◌≡◌}
use Rattle.group_links.specs.Link.{link_put, in_link}
use Rattle.node_seat.proofs.writing.put_on.Given as goal

abbrev pub invariant-loop : goal.invariant-loop
invariant-loop g l = record {
  link : in_link l.link ≡ in_link l.initial.link;
  put : link_put l.link ≡ link_put l.initial.link;
  payload : l.payload ≡ l.initial.payload;
}
