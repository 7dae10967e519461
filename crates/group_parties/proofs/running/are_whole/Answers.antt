use Rattle.std.proofs.Common.{◌≡◌, ℕ, ◌+◌, ◌<◌, ◌≤◌, false, List, length, get_or, take, Option, Some, sym, subst, arith}
use Rattle.std.proofs.lemmas.List.{take_all}
use Rattle.std.proofs.lemmas.List.Elements.{All-more}
use Rattle.std.specs.List.{All}
use Rattle.group_threads.specs.declared.desk.Desk.{Desk}
use Rattle.group_parties.specs.Manned.{IsWholeDesk}
use Rattle.group_parties.proofs.running.are_whole.Goals as goal

-- one more has a desk at which no round has failed
whole-more : {R D : Type 0} (desk : R → Option (Desk D)) (xs : List R) (i : ℕ) (x : R) (d : Desk D) → i < length xs → x ≡ get_or xs i x → desk x ≡ Some d → d.faulty ≡ false
    → All (λ r. IsWholeDesk (desk r)) (take i xs) → All (λ r. IsWholeDesk (desk r)) (take (i + 1) xs)
whole-more {R} {D} desk xs i x d within is some fine before =
    let here : IsWholeDesk (desk x) = subst (λ (o : Option (Desk D)). IsWholeDesk o) (sym some) fine in
    All-more (λ r. IsWholeDesk (desk r)) xs i x within before (subst (λ (r : R). IsWholeDesk (desk r)) is here)

whole-all : {R D : Type 0} (desk : R → Option (Desk D)) (xs : List R) (i : ℕ) → length xs ≤ i → All (λ r. IsWholeDesk (desk r)) (take i xs) → All (λ r. IsWholeDesk (desk r)) xs
whole-all {R} desk xs i all = subst (λ (l : List R). All (λ r. IsWholeDesk (desk r)) l) (take_all i xs all)

pub loop-runner-preserved : goal.loop-runner-preserved
loop-runner-preserved g c =
    let l = c.loop-runner in
    whole-more (λ r. r.desk) c.args.runners.now l.runner-index c.runner-item.result c.in-Some.desk (omega (arith, c.loop-runner-test.true)) c.runner-item.is c.in-Some.is c.if-desk.false l.invariant

pub returns : goal.returns
returns g c = λ _. whole-all (λ r. r.desk) c.args.runners.now c.loop-runner.runner-index (omega (arith, c.loop-runner-test.false)) c.loop-runner.invariant
