-- A line that is not refused is counted.
use Rattle.std.proofs.Common.{◌≡◌, ◌<◌, ◌+◌, ◌^◌, ◌∙◌, ℕ, true, false, List, length, refl, ap, sym, subst, Option, Some, None, is_some}
use Rattle.std.specs.Prelude.{not, Result, Ok, Err}
use Rattle.std.proofs.lemmas.Bool.{leb-false, lt-leb}
use Rattle.smart_base.specs.Views.{View}
use Rattle.world_rules.specs.Scripts.{is_printed, is_short, is_nothing, line_of, group_line, app_line, period_line}
use Rattle.world_rules.specs.declared.line.App.{App}
use Rattle.world_rules.specs.declared.line.Line.{Line}
use Rattle.world_rules.specs.declared.line.OutLine.{OutLine}
use Rattle.world_rules.specs.declared.line.Kind.{Kind}
use Rattle.smart_base.specs.declared.limits.TheConstants.{PERIOD}
use Rattle.script_play.specs.Apps.{Courses, app_begun, app_after, app_answer}
use Rattle.script_play.specs.Readings.{Reading, with_period, closed, closed_by, group_taken, app_taken, period_taken, header_taken, played_to, line_done, taken_at, is_full, line_taken}
use Rattle.script_play.specs.declared.app.AppPlay.{AppPlay}
use Rattle.script_play.specs.declared.status.Refusal.{Refusal}
use Rattle.script_play.proofs.ReadingLaws.{chosen_false}
use Rattle.agreement_laws.proofs.Lists.{either, either_by}

-- a script that has counted one more line than another, unless it refuses one
abbrev Counts : Reading → Reading → Type 0
Counts r q = q.refused ≡ None → q.count ≡ r.count + 1

-- a header that ends counts no line
pub closed_counts : (r : Reading) (group : Option View) (app : Option App) → (closed_by r group app).count ≡ r.count
closed_counts r None app = refl
closed_counts r (Some view) None = refl
closed_counts r (Some view) (Some app) = refl

-- a line of a header that has words
pub words-taken : (courses : Courses) (r : Reading) (l : List ℕ) → is_printed l ≡ true → is_short l ≡ true → is_nothing l ≡ false → taken_at courses r l None ≡ header_taken courses r l r.group r.app
words-taken courses r l printed short words =
    chosen_false (not (is_printed l)) _ _ (ap not printed) ∙ (chosen_false (not (is_short l)) _ _ (ap not short) ∙ chosen_false (is_nothing l) _ _ words)

-- a line where no play has begun
open-taken : (courses : Courses) (r : Reading) (l : List ℕ) (play : Option AppPlay) → r.refused ≡ None → r.count < 2 ^ 20 → r.play ≡ None → play ≡ None
    → line_taken courses r l ≡ taken_at courses (record r { play = play }) l None
unfolding line_taken
open-taken courses r l play going room start none =
    chosen_false (is_some r.refused) _ _ (ap (λ x. is_some x) going)
    ∙ (chosen_false (is_full r) _ _ (lt-leb (2 ^ 20) r.count room)
    ∙ (ap (λ p. taken_at courses r l p) start ∙ ap (λ p. taken_at courses (record r { play = p }) l None) (start ∙ sym none)))

-- so for an equal script
pub open-same : (courses : Courses) (r s : Reading) (l : List ℕ) (play : Option AppPlay) → r ≡ s → r.refused ≡ None → s.count < 2 ^ 20 → s.play ≡ None → play ≡ None
    → line_taken courses r l ≡ taken_at courses (record s { play = play }) l None
open-same courses r s l play same going room start none =
    subst (λ (q : Reading). q.refused ≡ None → line_taken courses q l ≡ taken_at courses (record s { play = play }) l None) (sym same)
    (λ is. open-taken courses s l play is room start none) going

-- the line that begins a group
group-counts : (r : Reading) (view : Option View) → Counts r (group_taken r view)
group-counts r None = λ none. absurd (cc)
group-counts r (Some view) = λ none. refl

-- the line that names a service
app-counts : (r : Reading) (app : Option App) → Counts r (app_taken r app)
app-counts r None = λ none. absurd (cc)
app-counts r (Some app) = λ none. refl

-- a line that leads to a play
played-counts : (r : Reading) (p : AppPlay) (answer : Result (List OutLine) Refusal) → Counts r (played_to r p answer)
played-counts r p (Ok told) = λ none. refl
played-counts r p (Err why) = λ none. absurd (cc)

-- a line behind the header
done-counts : (courses : Courses) (r : Reading) (p : AppPlay) (read : Result Line Kind) → Counts r (line_done courses r p read)
done-counts courses r p (Err kind) = λ none. absurd (cc)
done-counts courses r p (Ok line) = played-counts r (app_after courses p line) (app_answer courses p line)

-- the line after the one that names a service
period-counts : (courses : Courses) (r : Reading) (view : View) (app : App) (l : List ℕ) (period : Option (Option ℕ)) → Counts r (period_taken courses r view app l period)
period-counts courses r view app l (Some (Some period)) = λ none. refl
period-counts courses r view app l (Some None) = λ none. absurd (cc)
period-counts courses r view app l None = done-counts courses (closed r view app PERIOD) (app_begun app (with_period view PERIOD)) (line_of l)

-- a line of the header
header-counts : (courses : Courses) (r : Reading) (l : List ℕ) (group : Option View) (app : Option App) → Counts r (header_taken courses r l group app)
header-counts courses r l None app = group-counts r (group_line l)
header-counts courses r l (Some view) None = app-counts r (app_line l)
header-counts courses r l (Some view) (Some app) = period-counts courses r view app l (period_line (length view.members) l)

-- a line by where the script stands
at-counts : (courses : Courses) (r : Reading) (l : List ℕ) (play : Option AppPlay) → Counts r (taken_at courses r l play)
at-counts courses r l None =
    either (Counts r) (not (is_printed l)) _ _ (λ none. absurd (cc))
    (either (Counts r) (not (is_short l)) _ _ (λ none. absurd (cc)) (either (Counts r) (is_nothing l) _ _ (λ none. refl) (header-counts courses r l r.group r.app)))
at-counts courses r l (Some p) = done-counts courses r p (line_of l)

-- a script has counted one more line than another, which was not full, unless it refuses one
abbrev CountsOne : Reading → Reading → Type 0
CountsOne r q = q.refused ≡ None → (q.count ≡ r.count + 1) × (r.count < 2 ^ 20)

-- one more line
pub taken-counts : (courses : Courses) (r : Reading) (l : List ℕ) → CountsOne r (line_taken courses r l)
unfolding line_taken
taken-counts courses r l =
    either_by (CountsOne r) (is_some r.refused) _ _ (λ is none. absurd (no (sym is ∙ ap (λ x. is_some x) none)))
    (λ going. either_by (CountsOne r) (is_full r) _ _ (λ full none. absurd (cc)) (λ room none. (at-counts courses r l r.play none, leb-false (2 ^ 20) r.count room)))
  where
    no : true ≡ false → ⊥
    no same = absurd (cc)
