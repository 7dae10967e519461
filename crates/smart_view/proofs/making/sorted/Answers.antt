use Rattle.std.proofs.lemmas.List.Sorted.{IsNonDecreasingBy-from_sort}
use Rattle.smart_view.proofs.Sorting.{sorted-unique}
use Rattle.smart_view.proofs.making.sorted.Goals as goal

pub returns : goal.returns
returns c =
    sorted-unique c.args.members.items c.sort_unstable.new.self.items c.sort_unstable.ensures.permutation
    (IsNonDecreasingBy-from_sort (λ m. m) c.sort_unstable.new.self.items c.sort_unstable.ensures.sorted)
