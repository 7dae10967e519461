use Rattle.smart_base.specs.Lists.{Each}
use Rattle.store_form.specs.Spelling.{IsEntry}
use Rattle.benches.proofs.groups.entries.Given as goal

abbrev pub invariant-loop : goal.invariant-loop
invariant-loop l = Each IsEntry l.entries.items
