use Rattle.std.proofs.Common.{◌≡◌, ◌≤◌, ◌||◌, length}
use Rattle.std.specs.HashSet.{contains, spare}
use Rattle.std.specs.List.{list_any}
use Rattle.sent_statements.specs.declared.made.Made.{Made}
use Rattle.sent_statements.specs.Indexes.{same_made}
use Rattle.sent_statements.proofs.made.put_all.Given as goal

-- those left and those in the index are all, and there is room for those left
abbrev pub invariant-loop-made : goal.invariant-loop-made
invariant-loop-made l = record {
  all : (m : Made) → (list_any (λ o. same_made o m) l.made-iterator.rest.items || contains same_made l.index m) ≡ (list_any (λ o. same_made o m) l.fn.all.items || contains same_made l.fn.index m);
  room : length l.made-iterator.rest.items ≤ spare l.index;
}
