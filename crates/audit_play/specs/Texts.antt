-- The line that tells what an audit finds.
use Rattle.std.specs.Prelude.{ℕ, List, [], ◌∷◌, ◌++◌, codes}
use Rattle.std.specs.Fmt.{decimal}
use Rattle.audit_rules.specs.declared.recorded.Difference.{Difference}
use Rattle.audit_rules.specs.declared.recorded.Found.{Found}
use Rattle.audit_rules.specs.declared.recorded.Found.TheVariants as finds
use Rattle.audit_rules.specs.declared.recorded.Verdict.{Verdict}
use Rattle.audit_rules.specs.declared.recorded.Verdict.TheVariants as verdicts

-- The number of a difference's kind. 1: a message was sent that is not the next one that leaves. 2: a statement came that was not sent.
abbrev pub kind_number : Found → ℕ
kind_number (finds.Sent expected found) = 1
kind_number (finds.Stated statement) = 2

-- `differs KIND nM EVENT`: the kind, the number in the trail's opening, and the event's number in the trail
abbrev pub difference_text : Difference → List ℕ
difference_text d = codes "differs " ++ (decimal (kind_number d.found) ++ (codes " n" ++ (decimal d.member ++ (32 ∷ (decimal d.event ++ (10 ∷ []))))))

-- the line that tells a verdict
abbrev pub verdict_text : Verdict → List ℕ
verdict_text verdicts.Coherent = codes "coherent" ++ (10 ∷ [])
verdict_text (verdicts.Differs d) = difference_text d
