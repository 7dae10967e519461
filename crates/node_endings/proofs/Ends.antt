-- What a loop's answer says of the call that made it.
use Rattle.std.proofs.Common.{◌≡◌, ◌≤◌, ℕ, Bool, true, false, not, List, Option, sym, subst, arith}
use Rattle.std.proofs.lemmas.Bool.Decides.{nat_tests}
use Rattle.check_worker.specs.Hands.{last_then}
use Rattle.node_ends.specs.Intakes.{Reads}
use Rattle.node_ends.specs.Outlets.{Writes}
use Rattle.node_ends.specs.declared.intake.Intake.{Intake}
use Rattle.node_ends.specs.declared.outlet.Outlet.{Outlet}
use Rattle.node_endings.specs.Loops.{gave_up}
use Rattle.node_endings.specs.declared.ending.LoopEnd.{LoopEnd}
use Rattle.node_endings.specs.declared.ending.LoopEnd.TheVariants.{Done, Over, Form, Failed, NoMemory}

pub reads-by : (a b : Option (List ℕ)) (cut early : Bool) (i j : Intake) → cut ≡ early → Reads a b early i j → Reads a b cut i j
reads-by a b cut early i j is p = subst (λ (l : Bool). Reads a b l i j) (sym is) p

pub writes-by : (a b : Option (List ℕ)) (up : Bool) (i j : Outlet) → up ≡ true → Writes a b false i j → Writes a b (not up) i j
writes-by a b up i j is p = subst (λ (l : Bool). Writes a b (not l) i j) (sym is) p

pub last_up : (last place : ℕ) → last ≤ last_then last place
last_up last place = grind (arith, nat_tests)

-- a loop that gave up is not done
pub not_done : (end : LoopEnd) → gave_up end ≡ true → end ≡ Done → ⊥
not_done Done gave is = cc
not_done Over gave is = cc
not_done (Form frame) gave is = cc
not_done Failed gave is = cc
not_done NoMemory gave is = cc

-- ---- ends of loops that are others

pub over_done : Over ≡ Done → ⊥
over_done is = cc

pub over_failed : Over ≡ Failed → ⊥
over_failed is = cc

pub done_failed : Done ≡ Failed → ⊥
done_failed is = cc

-- ---- counts that do not fall

pub at_least : (a : ℕ) → a ≤ a
at_least a = omega arith

pub up_more : (a b c : ℕ) → a ≤ b → b ≤ c → a ≤ c
up_more a b c p q = omega (arith, p, q)
