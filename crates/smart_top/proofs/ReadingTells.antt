-- What is read tells what its play tells.
use Rattle.std.proofs.Common.{◌≡◌, ℕ, Bool, true, false, List, [], ◌∷◌, ◌++◌, length, refl, ap, sym, ◌∙◌, cond, Option, Some, None, is_some}
use Rattle.std.specs.Prelude.{not, Result, Ok, Err}
use Rattle.std.proofs.lemmas.List.{append_assoc, append-nil}
use Rattle.smart_base.specs.Views.{View}
use Rattle.smart_base.specs.declared.limits.TheConstants.{PERIOD}
use Rattle.smart_service.specs.Services.{Meaning}
use Rattle.app_count.specs.Counts.{counting}
use Rattle.app_kv.specs.Snapshots.{keeping}
use Rattle.world_rules.specs.Worlds.{World, Course, course_of, begun}
use Rattle.world_rules.specs.Plays.{Play, line_played, rested, world_after, lines_told}
use Rattle.world_rules.specs.Scripts.{is_printed, is_short, is_nothing, line_of, group_line, app_line, period_line}
use Rattle.world_rules.specs.Texts.{header_line}
use Rattle.world_rules.specs.declared.line.App.{App}
use Rattle.world_rules.specs.declared.line.App.TheVariants as apps
use Rattle.world_rules.specs.declared.line.Header.{Header}
use Rattle.world_rules.specs.declared.line.Line.{Line}
use Rattle.world_rules.specs.declared.line.Kind.{Kind}
use Rattle.world_rules.specs.declared.line.OutLine.{OutLine}
use Rattle.script_play.specs.Apps.{node_courses, play_after, play_answer, app_begun, app_after, app_answer}
use Rattle.script_play.specs.Readings.{Reading, unread, with_period, closed, closing, closed_by, closing_by, closed_of, closing_of, group_taken, app_taken, period_taken, period_told, header_taken, header_told, played_to, told_by, line_done, told_done, taken_at, told_at, is_full, line_taken, line_told, reading_after, told_after}
use Rattle.smart_top.specs.Runs.{play_told, app_told, all_told}
use Rattle.script_play.specs.declared.app.AppPlay.{AppPlay}
use Rattle.script_play.specs.declared.app.AppPlay.TheVariants as plays
use Rattle.script_play.specs.declared.status.Refusal.{Refusal}
use Rattle.smart_top.proofs.ReadingPlays.{BeginsGroup, ForView, IsSound, SoundApp, SoundReading, SoundPlay, answer-tells, begun-app, usual_fits, sound-taken, sound-read}

-- a play of one service

-- what one more line tells comes behind what the lines tell
lines_told-end : {S : Type 0} (course : Course S) (w : World S) (ls : List Line) (l : Line)
    → lines_told course w (ls ++ l ∷ []) ≡ lines_told course w ls ++ (line_played course (world_after course w ls) l).told
lines_told-end course w [] l = append-nil (line_played course w l).told
lines_told-end course w (k ∷ ls) l =
    ap (λ told. (line_played course w k).told ++ told) (lines_told-end course (rested (line_played course w k)) ls l)
    ∙ sym (append_assoc (line_played course w k).told (lines_told course (rested (line_played course w k)) ls) (line_played course (world_after course w (k ∷ ls)) l).told)

-- what the play of a service tells behind one more line
play-tells : {S : Type 0} (app : App) (m : Meaning S) (p : Play S) (line : Line) (told : List OutLine) → IsSound m p → play_answer (course_of m) p line ≡ Ok told
    → play_told app m p ++ told ≡ play_told app m (play_after (course_of m) p line)
play-tells app m p line told sound is =
    ap (λ ls. play_told app m p ++ ls) (sym (answer-tells m p line told is).1)
    ∙ ap (λ ls. header_line p.group app ∷ ls)
    (ap (λ v. lines_told (course_of m) (begun m p.group) p.lines ++ (line_played (course_of m) v line).told) sound.stands ∙ sym (lines_told-end (course_of m) (begun m p.group) p.lines line))

-- the play of the service that the header names

-- at the end of the header it tells the header's line
begun-tells : (g : Header) (app : App) → header_line g app ∷ [] ≡ app_told (app_begun app g)
begun-tells g apps.Count = refl
begun-tells g apps.Kv = refl

-- behind one more line
app-tells : (p : AppPlay) (line : Line) (told : List OutLine) → SoundApp p → app_answer node_courses p line ≡ Ok told → app_told p ++ told ≡ app_told (app_after node_courses p line)
app-tells (plays.Count p) line told sound is = play-tells apps.Count counting p line told sound is
app-tells (plays.Kv p) line told sound is = play-tells apps.Kv keeping p line told sound is

-- readings

-- lines that told this, and then these, have told what the play of a reading tells
abbrev Tells : List OutLine → Reading → List OutLine → Type 0
Tells told r more = told ++ more ≡ all_told r.play

-- two choices by one test
both : {A B : Type 0} (P : A → B → Type 0) (t : Bool) (a a' : A) (b b' : B) → P a b → P a' b' → P (cond t a a') (cond t b b')
both P true a a' b b' px py = px
both P false a a' b b' px py = py

-- a line that tells nothing and leaves the play as it is
tells-nothing : (told : List OutLine) (r : Reading) → told ≡ all_told r.play → Tells told r []
tells-nothing told r is = append-nil told ∙ is

-- the line that begins a group
tells-group : (told : List OutLine) (r : Reading) (view : Option View) → told ≡ all_told r.play → Tells told (group_taken r view) []
tells-group told r None is = tells-nothing told r is
tells-group told r (Some view) is = tells-nothing told r is

-- the line that names a service
tells-app : (told : List OutLine) (r : Reading) (app : Option App) → told ≡ all_told r.play → Tells told (app_taken r app) []
tells-app told r None is = tells-nothing told r is
tells-app told r (Some app) is = tells-nothing told r is

-- a header that is whole
tells-closed : (told : List OutLine) (r : Reading) (view : View) (app : App) (period : ℕ) → told ≡ [] → Tells told (closed r view app period) (closing view app period)
tells-closed told r view app period none = ap (λ ls. ls ++ closing view app period) none ∙ begun-tells (with_period view period) app

-- a header that ends before a line
tells-closed_by : (told : List OutLine) (r : Reading) (group : Option View) (app : Option App) → told ≡ [] → told ≡ all_told r.play → Tells told (closed_by r group app) (closing_by group app)
tells-closed_by told r None app none is = tells-nothing told r is
tells-closed_by told r (Some view) None none is = tells-nothing told r is
tells-closed_by told r (Some view) (Some app) none is = tells-closed told r view app PERIOD none

tells-closed_of : (told : List OutLine) (r : Reading) (play : Option AppPlay) → r.play ≡ play → told ≡ all_told r.play → Tells told (closed_of r play) (closing_of r play)
tells-closed_of told r None at is = tells-closed_by told r r.group r.app (is ∙ ap all_told at) is
tells-closed_of told r (Some p) at is = tells-nothing told r is

-- a line that leads to a play
tells-played : (told : List OutLine) (r : Reading) (p : AppPlay) (line : Line) → r.play ≡ Some p → SoundApp p → told ≡ all_told r.play → (answer : Result (List OutLine) Refusal)
    → app_answer node_courses p line ≡ answer → Tells told (played_to r (app_after node_courses p line) answer) (told_by answer)
tells-played told r p line at sound is (Ok more) answers = ap (λ ls. ls ++ more) (is ∙ ap all_told at) ∙ app-tells p line more sound answers
tells-played told r p line at sound is (Err why) answers = tells-nothing told r is

-- a line behind the header
tells-done : (told : List OutLine) (r : Reading) (p : AppPlay) (read : Result Line Kind) → r.play ≡ Some p → SoundApp p → told ≡ all_told r.play
    → Tells told (line_done node_courses r p read) (told_done node_courses p read)
tells-done told r p (Err kind) at sound is = tells-nothing told r is
tells-done told r p (Ok line) at sound is = tells-played told r p line at sound is (app_answer node_courses p line) refl

-- the line after the one that names a service
tells-period : (told : List OutLine) (r : Reading) (view : View) (app : App) (l : List ℕ) (period : Option (Option ℕ)) → BeginsGroup view → told ≡ []
    → Tells told (period_taken node_courses r view app l period) (period_told node_courses view app l period)
tells-period told r view app l (Some (Some period)) viewed none = tells-closed told r view app period none
tells-period told r view app l (Some None) viewed none = tells-closed told r view app PERIOD none
tells-period told r view app l None viewed none =
    let p : AppPlay = app_begun app (with_period view PERIOD) in
    let sound : SoundApp p = begun-app app (with_period view PERIOD) (record { viewed = viewed.viewed; begins = viewed.begins; period_fits = usual_fits }) in
    sym (append_assoc told (closing view app PERIOD) (told_done node_courses p (line_of l)))
    ∙ tells-done (told ++ closing view app PERIOD) (closed r view app PERIOD) p (line_of l) refl sound (tells-closed told r view app PERIOD none)

-- a line of the header
tells-header : (told : List OutLine) (r : Reading) (l : List ℕ) (group : Option View) (app : Option App) → ForView group → told ≡ [] → told ≡ all_told r.play
    → Tells told (header_taken node_courses r l group app) (header_told node_courses l group app)
tells-header told r l None app viewed none is = tells-group told r (group_line l) is
tells-header told r l (Some view) None viewed none is = tells-app told r (app_line l) is
tells-header told r l (Some view) (Some app) viewed none is = tells-period told r view app l (period_line (length view.members) l) viewed none

-- a line by where the script stands
tells-at : (told : List OutLine) (r : Reading) (l : List ℕ) (play : Option AppPlay) → r.play ≡ play → ForView r.group → SoundPlay play → told ≡ all_told r.play
    → Tells told (taken_at node_courses r l play) (told_at node_courses r l play)
tells-at told r l None at viewed sound is =
    let none : told ≡ [] = is ∙ ap all_told at in
    let ends : Tells told (closed_by r r.group r.app) (closing_by r.group r.app) = tells-closed_by told r r.group r.app none is in
    both (Tells told) (not (is_printed l)) _ _ _ _ ends
    (both (Tells told) (not (is_short l)) _ _ _ _ ends
    (both (Tells told) (is_nothing l) _ _ _ _ (tells-nothing told r is) (tells-header told r l r.group r.app viewed none is)))
tells-at told r l (Some p) at viewed sound is = tells-done told r p (line_of l) at sound is

-- one more line
tells-taken : (told : List OutLine) (r : Reading) (l : List ℕ) → SoundReading r → told ≡ all_told r.play → Tells told (line_taken node_courses r l) (line_told node_courses r l)
unfolding line_taken line_told
tells-taken told r l sound is =
    both (Tells told) (is_some r.refused) _ _ _ _ (tells-nothing told r is)
    (both (Tells told) (is_full r) _ _ _ _ (tells-closed_of told r r.play refl is) (tells-at told r l r.play refl sound.of_group sound.of_play is))

-- lines, behind some that told this
tells-after : (told : List OutLine) (r : Reading) (ls : List (List ℕ)) → SoundReading r → told ≡ all_told r.play
    → told ++ told_after node_courses r ls ≡ all_told (reading_after node_courses r ls).play
tells-after told r [] sound is = append-nil told ∙ is
tells-after told r (l ∷ ls) sound is =
    sym (append_assoc told (line_told node_courses r l) (told_after node_courses (line_taken node_courses r l) ls))
    ∙ tells-after (told ++ line_told node_courses r l) (line_taken node_courses r l) ls (sound-taken r l sound) (tells-taken told r l sound is)

-- whatever is read tells what its play tells
pub tells-read : (ls : List (List ℕ)) → told_after node_courses unread ls ≡ all_told (reading_after node_courses unread ls).play
tells-read ls = tells-after [] unread ls (sound-read []) refl
