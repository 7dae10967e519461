use Rattle.std.proofs.Common.{◌≡◌, ℕ, List, ◌++◌, length, take, drop, sym, subst, arith}
use Rattle.std.proofs.lemmas.Grind.{common_steps}
use Rattle.std.specs.Fork.{ChangesEach}
use Rattle.group_threads.proofs.group.run_each.Goals as goal

-- a whole list that is written back leaves nothing of the old one
back_whole : {A : Type 0} (xs old : List A) (n : ℕ) → length old ≡ n → length xs ≡ n → take n (xs ++ drop (length xs) old) ≡ xs
back_whole xs old n p q = grind (arith, common_steps)

pub returns-clause-each : goal.returns-clause-each
returns-clause-each g c =
    let were : length c.args.runners.now.items ≡ c.args.runners.now.len = omega (arith, c.args.runners.now.ok.0) in
    let are : length c.for_each_mut.new.s ≡ c.args.runners.now.len = omega (arith, c.for_each_mut.auto.s, c.as_mut_slice.ensures.len) in
    subst (λ (ys : List g.row.T.Denot). ChangesEach g.F.Fn c.args.run.now c.args.runners.now.items ys) (sym (back_whole c.for_each_mut.new.s c.args.runners.now.items c.args.runners.now.len were are))
    (subst (λ (xs : List g.row.T.Denot). ChangesEach g.F.Fn c.args.run.now xs c.for_each_mut.new.s) c.as_mut_slice.ensures.value c.for_each_mut.ensures)
