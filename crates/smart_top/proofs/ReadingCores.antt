-- A script that is read by cores is read as by the nodes that keep all.
use Rattle.std.proofs.Common.{◌≡◌, ℕ, ◌++◌, Bool, true, false, List, [], ◌∷◌, length, refl, ap, sym, ◌∙◌, cond, Option, Some, None, is_some}
use Rattle.std.specs.Prelude.{not, option_map, Result, Ok, Err}
use Rattle.smart_base.specs.Views.{View}
use Rattle.smart_base.specs.declared.limits.TheConstants.{PERIOD}
use Rattle.smart_service.specs.Services.{Meaning}
use Rattle.app_count.specs.Counts.{counting}
use Rattle.app_kv.specs.Snapshots.{keeping}
use Rattle.world_rules.specs.Worlds.{World, course_of, core_course}
use Rattle.world_rules.specs.Plays.{Play, is_there, line_played, rested}
use Rattle.world_rules.specs.Scripts.{is_printed, is_short, is_nothing, line_of, group_line, app_line, period_line}
use Rattle.world_rules.specs.declared.message.Ending.{Ending}
use Rattle.world_rules.specs.declared.line.App.{App}
use Rattle.world_rules.specs.declared.line.App.TheVariants as apps
use Rattle.world_rules.specs.declared.line.Header.{Header}
use Rattle.world_rules.specs.declared.line.Line.{Line}
use Rattle.world_rules.specs.declared.line.OutLine.{OutLine}
use Rattle.world_rules.specs.declared.line.Kind.{Kind}
use Rattle.world_rules.specs.declared.line.Kind.TheVariants as kinds
use Rattle.world_laws.specs.Cores.{trimmed_world}
use Rattle.world_laws.proofs.CoreWorlds.{core_line, there_same, begun_same, choice_same, rested_same}
use Rattle.script_play.specs.Apps.{core_courses, node_courses, play_begun, play_after, answer_until, answer_in, play_answer, app_begun, app_after, app_answer}
use Rattle.script_play.specs.Readings.{Reading, unread, refusing, counted, with_period, closed, closing, closed_by, closed_of, closing_of, group_taken, app_taken, period_taken, period_told, header_taken, header_told, played_to, line_done, told_by, told_done, taken_at, told_at, is_full, line_taken, line_told, reading_after, told_after, end_by, end_of, last_told}
use Rattle.script_play.specs.declared.app.AppPlay.{AppPlay}
use Rattle.script_play.specs.declared.app.AppPlay.TheVariants as plays
use Rattle.script_play.specs.declared.status.Refusal.{Refusal}
use Rattle.script_play.specs.declared.status.Refusal.TheVariants as refusals

-- a choice of what is told
choice_told : {A : Type 0} (b : Bool) (x y v w : A) → v ≡ x → w ≡ y → cond b v w ≡ cond b x y
choice_told true x y v w left right = left
choice_told false x y v w left right = right

-- a play of one service

-- a play of which each node keeps no more than it needs
abbrev pub trimmed_play : {S : Type 0} → Play S → Play S
trimmed_play p = record p { world = trimmed_world p.world }

-- a play that begins
begun_play : {S : Type 0} (m : Meaning S) (g : Header) → play_begun m g ≡ trimmed_play (play_begun m g)
begun_play m g = ap (λ w. record (play_begun m g) { world = w }) (sym (begun_same m g))

-- a play behind one more line
after_play : {S : Type 0} (m : Meaning S) (p : Play S) (line : Line) → play_after (core_course m) (trimmed_play p) line ≡ trimmed_play (play_after (course_of m) p line)
after_play m p line =
    ap (λ w. record (play_after (course_of m) p line) { world = w })
    (ap rested (core_line m p.world line) ∙ rested_same (line_played (course_of m) p.world line))

-- what a world tells
answer_until_same : {S : Type 0} (w : World S) (ending : Option Ending) → answer_until (trimmed_world w) ending ≡ answer_until w ending
unfolding trimmed_world
answer_until_same w None = refl
answer_until_same w (Some ending) = refl

answer_in_same : {S : Type 0} (w : World S) → answer_in (trimmed_world w) ≡ answer_in w
unfolding trimmed_world
answer_in_same w = answer_until_same w w.ending

-- what a line tells
answer_play : {S : Type 0} (m : Meaning S) (p : Play S) (line : Line) → play_answer (core_course m) (trimmed_play p) line ≡ play_answer (course_of m) p line
answer_play m p line =
    ap (λ t. cond t (answer_in (line_played (core_course m) (trimmed_world p.world) line)) (Err (refusals.Script kinds.Refer))) (there_same p.world line)
    ∙ ap (λ answer. cond (is_there p.world line) answer (Err (refusals.Script kinds.Refer))) (ap answer_in (core_line m p.world line) ∙ answer_in_same (line_played (course_of m) p.world line))

-- the play of the service that the header names

-- of which each node keeps no more than it needs
abbrev pub trimmed_app : AppPlay → AppPlay
trimmed_app (plays.Count p) = plays.Count (trimmed_play p)
trimmed_app (plays.Kv p) = plays.Kv (trimmed_play p)

begun_app : (app : App) (g : Header) → app_begun app g ≡ trimmed_app (app_begun app g)
begun_app apps.Count g = ap (λ p. plays.Count p) (begun_play counting g)
begun_app apps.Kv g = ap (λ p. plays.Kv p) (begun_play keeping g)

after_app : (p : AppPlay) (line : Line) → app_after core_courses (trimmed_app p) line ≡ trimmed_app (app_after node_courses p line)
after_app (plays.Count p) line = ap (λ q. plays.Count q) (after_play counting p line)
after_app (plays.Kv p) line = ap (λ q. plays.Kv q) (after_play keeping p line)

answer_app : (p : AppPlay) (line : Line) → app_answer core_courses (trimmed_app p) line ≡ app_answer node_courses p line
answer_app (plays.Count p) line = answer_play counting p line
answer_app (plays.Kv p) line = answer_play keeping p line

-- readings

-- a reading with such a play
abbrev pub trimmed_reading : Reading → Reading
trimmed_reading r = record r { play = option_map trimmed_app r.play }

-- the line that begins a group
group_same : (r : Reading) (view : Option View) → group_taken (trimmed_reading r) view ≡ trimmed_reading (group_taken r view)
group_same r None = refl
group_same r (Some view) = refl

-- the line that names a service
app_same : (r : Reading) (app : Option App) → app_taken (trimmed_reading r) app ≡ trimmed_reading (app_taken r app)
app_same r None = refl
app_same r (Some app) = refl

-- a header that is whole
closed_same : (r : Reading) (view : View) (app : App) (period : ℕ) → closed (trimmed_reading r) view app period ≡ trimmed_reading (closed r view app period)
closed_same r view app period = ap (λ p. record r { play = Some p }) (begun_app app (with_period view period))

-- a header that ends before a line
closed_by_same : (r : Reading) (group : Option View) (app : Option App) → closed_by (trimmed_reading r) group app ≡ trimmed_reading (closed_by r group app)
closed_by_same r None app = refl
closed_by_same r (Some view) None = refl
closed_by_same r (Some view) (Some app) = closed_same r view app PERIOD

closed_of_same : (r : Reading) (play : Option AppPlay) → closed_of (trimmed_reading r) (option_map trimmed_app play) ≡ trimmed_reading (closed_of r play)
closed_of_same r None = closed_by_same r r.group r.app
closed_of_same r (Some p) = refl

-- what tells that a header ends does not rest on the play
closing_of_same : (r : Reading) (play : Option AppPlay) → closing_of (trimmed_reading r) (option_map trimmed_app play) ≡ closing_of r play
closing_of_same r None = refl
closing_of_same r (Some p) = refl

-- a line that leads to a play
played_same : (r : Reading) (p : AppPlay) (answer : Result (List OutLine) Refusal) → played_to (trimmed_reading r) (trimmed_app p) answer ≡ trimmed_reading (played_to r p answer)
played_same r p (Ok told) = refl
played_same r p (Err why) = refl

-- a line behind the header
done_same : (r : Reading) (p : AppPlay) (read : Result Line Kind) → line_done core_courses (trimmed_reading r) (trimmed_app p) read ≡ trimmed_reading (line_done node_courses r p read)
done_same r p (Err kind) = refl
done_same r p (Ok line) =
    ap (λ q. played_to (trimmed_reading r) q (app_answer core_courses (trimmed_app p) line)) (after_app p line)
    ∙ (ap (λ answer. played_to (trimmed_reading r) (trimmed_app (app_after node_courses p line)) answer) (answer_app p line)
    ∙ played_same r (app_after node_courses p line) (app_answer node_courses p line))

-- what a line behind the header tells
told_done_same : (p : AppPlay) (read : Result Line Kind) → told_done core_courses (trimmed_app p) read ≡ told_done node_courses p read
told_done_same p (Err kind) = refl
told_done_same p (Ok line) = ap told_by (answer_app p line)

-- the line after the one that names a service
period_same : (r : Reading) (view : View) (app : App) (l : List ℕ) (period : Option (Option ℕ))
    → period_taken core_courses (trimmed_reading r) view app l period ≡ trimmed_reading (period_taken node_courses r view app l period)
period_same r view app l (Some (Some period)) = ap counted (closed_same r view app period)
period_same r view app l (Some None) = ap (λ q. refusing q (refusals.Script kinds.Header)) (closed_same r view app PERIOD)
period_same r view app l None =
    let p = app_begun app (with_period view PERIOD) in
    ap (λ q. line_done core_courses q p (line_of l)) (closed_same r view app PERIOD)
    ∙ (ap (λ q. line_done core_courses (trimmed_reading (closed r view app PERIOD)) q (line_of l)) (begun_app app (with_period view PERIOD)) ∙ done_same (closed r view app PERIOD) p (line_of l))

-- what it tells
told_period_same : (view : View) (app : App) (l : List ℕ) (period : Option (Option ℕ)) → period_told core_courses view app l period ≡ period_told node_courses view app l period
told_period_same view app l (Some (Some period)) = refl
told_period_same view app l (Some None) = refl
told_period_same view app l None =
    let p = app_begun app (with_period view PERIOD) in
    ap (λ told. closing view app PERIOD ++ told) (ap (λ q. told_done core_courses q (line_of l)) (begun_app app (with_period view PERIOD)) ∙ told_done_same p (line_of l))

-- a line of the header
header_same : (r : Reading) (l : List ℕ) (group : Option View) (app : Option App) → header_taken core_courses (trimmed_reading r) l group app ≡ trimmed_reading (header_taken node_courses r l group app)
header_same r l None app = group_same r (group_line l)
header_same r l (Some view) None = app_same r (app_line l)
header_same r l (Some view) (Some app) = period_same r view app l (period_line (length view.members) l)

-- what it tells
told_header_same : (l : List ℕ) (group : Option View) (app : Option App) → header_told core_courses l group app ≡ header_told node_courses l group app
told_header_same l None app = refl
told_header_same l (Some view) None = refl
told_header_same l (Some view) (Some app) = told_period_same view app l (period_line (length view.members) l)

-- a line by where the script stands
taken_at_same : (r : Reading) (l : List ℕ) (play : Option AppPlay) → taken_at core_courses (trimmed_reading r) l (option_map trimmed_app play) ≡ trimmed_reading (taken_at node_courses r l play)
taken_at_same r l None =
    choice_same trimmed_reading (not (is_printed l)) _ _ _ _ (ap (λ q. refusing q (refusals.Script kinds.Byte)) (closed_by_same r r.group r.app))
    (choice_same trimmed_reading (not (is_short l)) _ _ _ _ (ap (λ q. refusing q (refusals.Script kinds.Long)) (closed_by_same r r.group r.app))
    (choice_same trimmed_reading (is_nothing l) _ _ _ _ refl (header_same r l r.group r.app)))
taken_at_same r l (Some p) = done_same r p (line_of l)

-- what it tells
told_at_same : (r : Reading) (l : List ℕ) (play : Option AppPlay) → told_at core_courses (trimmed_reading r) l (option_map trimmed_app play) ≡ told_at node_courses r l play
told_at_same r l None =
    choice_told (not (is_printed l)) _ _ _ _ refl
    (choice_told (not (is_short l)) _ _ _ _ refl (choice_told (is_nothing l) _ _ _ _ refl (told_header_same l r.group r.app)))
told_at_same r l (Some p) = told_done_same p (line_of l)

-- cores take one more line as the nodes do
pub core-taken : (r : Reading) (l : List ℕ) → line_taken core_courses (trimmed_reading r) l ≡ trimmed_reading (line_taken node_courses r l)
unfolding line_taken
core-taken r l =
    choice_same trimmed_reading (is_some r.refused) _ _ _ _ refl
    (choice_same trimmed_reading (is_full r) _ _ _ _ (ap (λ q. refusing q refusals.Limit) (closed_of_same r r.play)) (taken_at_same r l r.play))

-- they tell the same of it
pub core-told : (r : Reading) (l : List ℕ) → line_told core_courses (trimmed_reading r) l ≡ line_told node_courses r l
unfolding line_told
core-told r l = choice_told (is_some r.refused) _ _ _ _ refl (choice_told (is_full r) _ _ _ _ (closing_of_same r r.play) (told_at_same r l r.play))

-- cores take lines as the nodes do
pub core-after : (r : Reading) (ls : List (List ℕ)) → reading_after core_courses (trimmed_reading r) ls ≡ trimmed_reading (reading_after node_courses r ls)
core-after r [] = refl
core-after r (l ∷ ls) = ap (λ q. reading_after core_courses q ls) (core-taken r l) ∙ core-after (line_taken node_courses r l) ls

-- they tell the same of them
pub core-told_after : (r : Reading) (ls : List (List ℕ)) → told_after core_courses (trimmed_reading r) ls ≡ told_after node_courses r ls
core-told_after r [] = refl
core-told_after r (l ∷ ls) =
    ap (λ told. told ++ told_after core_courses (line_taken core_courses (trimmed_reading r) l) ls) (core-told r l)
    ∙ ap (λ told. line_told node_courses r l ++ told)
    (ap (λ q. told_after core_courses q ls) (core-taken r l) ∙ core-told_after (line_taken node_courses r l) ls)

-- cores take lines from the first one on as the nodes do
pub core-after-unread : (ls : List (List ℕ)) → reading_after core_courses unread ls ≡ trimmed_reading (reading_after node_courses unread ls)
core-after-unread ls = core-after unread ls

-- they tell the same of them
pub core-told-unread : (ls : List (List ℕ)) → told_after core_courses unread ls ≡ told_after node_courses unread ls
core-told-unread ls = core-told_after unread ls

-- how a script ends

-- how it ends, by whether a line is refused
end_by_same : (r : Reading) (play : Option AppPlay) (why : Option Refusal) → end_by (record r { play = option_map trimmed_app play }) why ≡ end_by (record r { play = play }) why
end_by_same r None None = refl
end_by_same r (Some p) None = refl
end_by_same r None (Some why) = refl
end_by_same r (Some p) (Some why) = refl

-- a script ends alike for both
pub core-end : (r : Reading) → end_of (trimmed_reading r) ≡ end_of r
core-end r = end_by_same r r.play r.refused

-- the last line, by whether a line is refused
last_same : (r : Reading) (play : Option AppPlay) (why : Option Refusal) → last_told (record r { play = option_map trimmed_app play }) why ≡ last_told (record r { play = play }) why
unfolding trimmed_world
last_same r None None = refl
last_same r (Some (plays.Count p)) None = refl
last_same r (Some (plays.Kv p)) None = refl
last_same r None (Some why) = refl
last_same r (Some p) (Some why) = refl

-- both have the same last line
pub core-last : (r : Reading) → last_told (trimmed_reading r) (trimmed_reading r).refused ≡ last_told r r.refused
core-last r = last_same r r.play r.refused

-- the same line is refused, for the same reason
pub core-refused : (ls : List (List ℕ)) → (reading_after core_courses unread ls).refused ≡ (reading_after node_courses unread ls).refused
core-refused ls = ap (λ (r : Reading). r.refused) (core-after-unread ls)

-- as many lines have a meaning
pub core-count : (ls : List (List ℕ)) → (reading_after core_courses unread ls).count ≡ (reading_after node_courses unread ls).count
core-count ls = ap (λ (r : Reading). r.count) (core-after-unread ls)
