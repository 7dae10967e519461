-- The header of a load.
use Rattle.std.proofs.Common.{◌≡◌, ◌∙◌, List, [], ◌∷◌, ℕ, None, Some, codes, refl, ap}
use Rattle.smart_base.specs.Views.{View}
use Rattle.world_rules.specs.Scripts.{app_line, group_line, members_from, period_line}
use Rattle.world_rules.specs.declared.line.App.TheVariants as apps
use Rattle.script_play.specs.Apps.{Courses, app_begun}
use Rattle.script_play.specs.Readings.{Reading, unread, with_period, line_taken, reading_after}

-- the view of four members, of which one may be faulty
abbrev pub four : View
four = record { number = 0; start = 1; f = 1; members = 1 ∷ 2 ∷ 3 ∷ 4 ∷ [] }

-- a script behind the header of a load
abbrev pub headed : Reading
headed = record { group = Some four; app = Some apps.Count; play = Some (app_begun apps.Count (with_period four 16)); count = 3; refused = None }

-- the header, line by line

abbrev grouped : Reading
grouped = record { group = Some four; app = None; play = None; count = 1; refused = None }

abbrev named : Reading
named = record { group = Some four; app = Some apps.Count; play = None; count = 2; refused = None }

takes-group : (courses : Courses) → line_taken courses unread (codes "group 4 1") ≡ grouped
unfolding line_taken group_line members_from
takes-group courses = refl

takes-app : (courses : Courses) → line_taken courses grouped (codes "app count") ≡ named
unfolding line_taken app_line
takes-app courses = refl

takes-period : (courses : Courses) → line_taken courses named (codes "period 16") ≡ headed
unfolding line_taken period_line
takes-period courses = refl

pub takes-header : (courses : Courses) (ls : List (List ℕ)) → reading_after courses unread (codes "group 4 1" ∷ codes "app count" ∷ codes "period 16" ∷ ls) ≡ reading_after courses headed ls
takes-header courses ls =
    ap (λ r. reading_after courses r (codes "app count" ∷ codes "period 16" ∷ ls)) (takes-group courses)
    ∙ (ap (λ r. reading_after courses r (codes "period 16" ∷ ls)) (takes-app courses) ∙ ap (λ r. reading_after courses r ls) (takes-period courses))
