use Rattle.std.proofs.Common.{◌≡◌, ℕ, [], ◌++◌, get_or, take, vec_len}
use Rattle.smart_base.specs.Lists.{Each}
use Rattle.group_ends.specs.Ports.{ends, port_links}
use Rattle.group_wires.specs.Wires.{at, all_links, all_takings, IsUnused, AreUntaken}
use Rattle.group_wires.proofs.dealing.add_row.Given as goal

abbrev pub invariant-loop-index : goal.invariant-loop-index
invariant-loop-index l = record {
  ends_are : ends l.ports.items ≡ take l.index l.receivers;
  unused : Each IsUnused l.ports.items;
  links : (i : ℕ) → get_or (all_links l.inboxes.items) i [] ≡ get_or (all_links l.initial.inboxes.items) i [] ++ at i (port_links l.ports.items);
  untaken : AreUntaken (all_takings l.initial.inboxes.items) → AreUntaken (all_takings l.inboxes.items);
  many : vec_len l.inboxes ≡ vec_len l.initial.inboxes;
  count : vec_len l.ports ≡ l.index;
}
