-- A line that was played, or that its play refuses.
use Rattle.std.proofs.Common.{◌≡◌, ◌∙◌, List, ap, sym, subst, Some, None, OnOk}
use Rattle.std.specs.Prelude.{Result, Ok, Err}
use Rattle.world_rules.specs.declared.line.Line.{Line}
use Rattle.world_rules.specs.declared.line.OutLine.{OutLine}
use Rattle.script_play.specs.Apps.{Courses, app_after, app_answer}
use Rattle.script_play.specs.Readings.{Reading, counted, refusing, played_to, line_done, told_by, told_done}
use Rattle.script_play.specs.declared.app.AppPlay.{AppPlay}
use Rattle.script_play.specs.declared.status.Refusal.{Refusal}

-- the script whose play is this one
abbrev pub with_play : Reading → AppPlay → Reading
with_play r p = record r { play = Some p }

-- what was told, or why the line was refused, is what the line tells
pub told-done : (courses : Courses) (p : AppPlay) (line : Line) (answer answer' : Result (List OutLine) Refusal)
    → answer ≡ app_answer courses p line → answer ≡ answer' → told_by answer' ≡ told_done courses p (Ok line)
told-done courses p line answer answer' is same = ap told_by (sym same ∙ is)

-- the play after a line that was not refused
pub after-line : (courses : Courses) (p q : AppPlay) (line : Line) (answer : Result (List OutLine) Refusal) (told : List OutLine)
    → answer ≡ Ok told → OnOk answer (q ≡ app_after courses p line) → q ≡ app_after courses p line
after-line courses p q line answer told same after = subst (λ (x : Result (List OutLine) Refusal). OnOk x (q ≡ app_after courses p line)) same after

-- the script after a line that was played
pub line-done : (courses : Courses) (r s : Reading) (p q : AppPlay) (line : Line) (answer : Result (List OutLine) Refusal) (told : List OutLine)
    → s ≡ r → answer ≡ app_answer courses p line → answer ≡ Ok told → q ≡ app_after courses p line
    → with_play (counted s) q ≡ line_done courses (with_play r p) p (Ok line)
line-done courses r s p q line answer told view is same after =
    ap (λ x. with_play (counted s) x) after
    ∙ (ap (λ x. with_play (counted x) (app_after courses p line)) view
    ∙ ap (λ a. played_to (with_play r p) (app_after courses p line) a) (sym same ∙ is))

-- the script after a line that its play refused
pub line-refused : (courses : Courses) (r : Reading) (p : AppPlay) (line : Line) (answer : Result (List OutLine) Refusal) (why : Refusal)
    → answer ≡ app_answer courses p line → answer ≡ Err why → refusing (with_play r p) why ≡ line_done courses (with_play r p) p (Ok line)
line-refused courses r p line answer why is same = ap (λ a. played_to (with_play r p) (app_after courses p line) a) (sym same ∙ is)

-- a line that is refused has a reason
pub none_refused : (why : Refusal) → Some why ≡ None → ⊥
none_refused why same = absurd (cc)
