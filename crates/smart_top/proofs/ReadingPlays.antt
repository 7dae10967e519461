-- What is read keeps one list.
use Rattle.std.proofs.Common.{◌≡◌, ◌<◌, ◌^◌, length, ℕ, ◌+◌, Bool, true, false, List, [], ◌∷◌, ◌++◌, refl, ap, sym, ◌∙◌, arith, cond, Option, Some, None, is_some}
use Rattle.std.specs.Prelude.{not, nat_le, ◌&&◌, ◌*◌, Result, Ok, Err}
use Rattle.std.proofs.lemmas.Bool.Decides.{nat_tests}
use Rattle.smart_base.specs.Decimals.{number_of}
use Rattle.smart_base.specs.Views.{View, is_view}
use Rattle.snapshot_form.specs.Replicas.{is_first_view}
use Rattle.smart_base.specs.declared.limits.TheConstants.{LAST_PERIOD, PERIOD}
use Rattle.smart_service.specs.Services.{Meaning}
use Rattle.app_count.specs.Counts.{counting}
use Rattle.app_kv.specs.Snapshots.{keeping}
use Rattle.world_rules.specs.Worlds.{World, course_of, begun}
use Rattle.world_rules.specs.Plays.{Play, is_there, line_played, rested, world_after}
use Rattle.world_laws.specs.Promises.{IsHeader, OneListThroughout}
use Rattle.world_rules.specs.Scripts.{is_printed, is_short, is_nothing, words_in, line_of, members_from, view_for, group_words, group_by, group_line, app_line, is_period, period_words, period_line, in_range}
use Rattle.world_rules.specs.declared.line.App.{App}
use Rattle.world_rules.specs.declared.line.App.TheVariants as apps
use Rattle.world_rules.specs.declared.line.Header.{Header}
use Rattle.world_rules.specs.declared.line.Line.{Line}
use Rattle.world_rules.specs.declared.line.OutLine.{OutLine}
use Rattle.world_rules.specs.declared.line.Kind.{Kind}
use Rattle.world_rules.specs.declared.line.Kind.TheVariants as kinds
use Rattle.world_rules.specs.declared.message.Ending.{Ending}
use Rattle.world_script.proofs.Members.{first_view}
use Rattle.world_laws.proofs.Grows.{world_after-append}
use Rattle.script_play.specs.Apps.{node_courses, play_begun, play_after, answer_until, play_answer, app_begun, app_after, app_answer}
use Rattle.script_play.specs.Readings.{Reading, unread, counted, refusing, with_period, closed, closed_by, closed_of, group_taken, app_taken, period_taken, header_taken, played_to, line_done, taken_at, is_full, line_taken, reading_after}
use Rattle.smart_top.specs.Runs.{OneListOf, OneListHolds}
use Rattle.script_play.specs.declared.app.AppPlay.{AppPlay}
use Rattle.script_play.specs.declared.app.AppPlay.TheVariants as plays
use Rattle.script_play.specs.declared.status.Refusal.{Refusal}
use Rattle.script_play.specs.declared.status.Refusal.TheVariants as refusals
use Rattle.agreement_laws.proofs.Lists.{either, either_by}

-- the group of a header

-- a view that keeps the rule of views, and with which a group begins
pub record BeginsGroup (view : View) : Type 0 where
  pub viewed : is_view view ≡ true
  pub begins : is_first_view view ≡ true

-- a view, if there is one, is such a view
abbrev pub ForView : Option View → Type 0
ForView None = Unit {0}
ForView (Some view) = BeginsGroup view

-- so does the view for two numbers
is_view-view_for : (n f : Option ℕ) → ForView (view_for n f)
is_view-view_for None f = tt
is_view-view_for (Some n) None = tt
is_view-view_for (Some n) (Some f) =
    either_by ForView (nat_le 1 n && nat_le n 31 && nat_le f 10 && nat_le (3 * f + 1) n) (Some (record { number = 0; start = 1; f = f; members = members_from 1 n })) None
    (λ is. record { viewed = first_view n f (grind (arith, nat_tests, is)) (grind (arith, nat_tests, is)) (grind (arith, nat_tests, is)) (grind (arith, nat_tests, is)); begins = refl })
    (λ is. tt)

-- so does the view of two words
is_view-group_words : (words : List (List ℕ)) → ForView (group_words words)
is_view-group_words [] = tt
is_view-group_words (n ∷ []) = tt
is_view-group_words (n ∷ f ∷ []) = is_view-view_for (number_of n) (number_of f)
is_view-group_words (n ∷ f ∷ more ∷ words) = tt

-- so does the view of words
is_view-group_by : (words : List (List ℕ)) → ForView (group_by words)
is_view-group_by [] = tt
is_view-group_by (word ∷ words) = either ForView _ (group_words words) None (is_view-group_words words) tt

-- so does the view of a line
pub is_view-group_line : (bytes : List ℕ) → ForView (group_line bytes)
unfolding group_line
is_view-group_line bytes = is_view-group_by (words_in bytes)

-- the period of a header

-- a period, if there is one, fits its field
abbrev pub ForPeriod : Option (Option ℕ) → Type 0
ForPeriod None = Unit {0}
ForPeriod (Some None) = Unit {0}
ForPeriod (Some (Some period)) = period < 2 ^ 32

-- so does a number in the range of periods
fits-between : (members n : ℕ) → (nat_le members n && nat_le n 1048576) ≡ true → n < 2 ^ 32
fits-between members n is = grind (arith, nat_tests, is)

fits-in_range : (members : ℕ) (n : Option ℕ) → ForPeriod (Some (in_range members LAST_PERIOD n))
fits-in_range members None = tt
fits-in_range members (Some n) =
    either_by (λ o. ForPeriod (Some o)) (nat_le members n && nat_le n 1048576) (Some n) None (λ is. fits-between members n is) (λ is. tt)

-- so does the period of words
fits-period_words : (members : ℕ) (words : List (List ℕ)) → ForPeriod (Some (period_words members words))
fits-period_words members [] = tt
fits-period_words members (word ∷ []) = tt
fits-period_words members (word ∷ number ∷ []) = fits-in_range members (number_of number)
fits-period_words members (word ∷ number ∷ more ∷ words) = tt

-- so does the period of a line
fits-period_line : (members : ℕ) (bytes : List ℕ) → ForPeriod (period_line members bytes)
unfolding period_line
fits-period_line members bytes = either ForPeriod (is_period (words_in bytes)) (Some (period_words members (words_in bytes))) None (fits-period_words members (words_in bytes)) tt

-- a play of one service

-- a play that was read stands for its lines and goes on, and a play may begin of its header
pub record IsSound {S : Type 0} (m : Meaning S) (p : Play S) : Type 0 where
  pub going : p.over ≡ false
  pub stands : p.world ≡ world_after (course_of m) (begun m p.group) p.lines
  pub open_world : p.world.ending ≡ None
  pub headed : IsHeader p.group

-- a play that begins
pub begun-sound : {S : Type 0} (m : Meaning S) (g : Header) → IsHeader g → IsSound m (play_begun m g)
begun-sound m g headed = record { going = refl; stands = refl; open_world = refl; headed = headed }

-- a world that tells has not ended, and tells what it has told
answered : {S : Type 0} (t : Bool) (w : World S) (ending : Option Ending) (why : Refusal) (told : List OutLine) → cond t (answer_until w ending) (Err why) ≡ Ok told → (ending ≡ None) × (w.told ≡ told)
answered true w None why told is = (refl, cc)
answered true w (Some e) why told is = absurd (cc)
answered false w ending why told is = absurd (cc)

-- a line that tells
pub answer-tells : {S : Type 0} (m : Meaning S) (p : Play S) (line : Line) (told : List OutLine) → play_answer (course_of m) p line ≡ Ok told
    → ((line_played (course_of m) p.world line).ending ≡ None) × ((line_played (course_of m) p.world line).told ≡ told)
answer-tells m p line told is = answered (is_there p.world line) (line_played (course_of m) p.world line) (line_played (course_of m) p.world line).ending (refusals.Script kinds.Refer) told is

-- the world behind one more line
stands-more : {S : Type 0} (m : Meaning S) (p : Play S) (line : Line) → IsSound m p
    → rested (line_played (course_of m) p.world line) ≡ world_after (course_of m) (begun m p.group) (p.lines ++ line ∷ [])
stands-more m p line sound =
    ap (λ w. rested (line_played (course_of m) w line)) sound.stands ∙ sym (world_after-append (course_of m) (begun m p.group) p.lines (line ∷ []))

-- a play behind one more line
pub after-sound : {S : Type 0} (m : Meaning S) (p : Play S) (line : Line) (told : List OutLine) → IsSound m p → play_answer (course_of m) p line ≡ Ok told → IsSound m (play_after (course_of m) p line)
after-sound m p line told sound is = record { going = refl; stands = stands-more m p line sound; open_world = (answer-tells m p line told is).0; headed = sound.headed }

-- the play of the service that the header names

abbrev pub SoundApp : AppPlay → Type 0
SoundApp (plays.Count p) = IsSound counting p
SoundApp (plays.Kv p) = IsSound keeping p

pub begun-app : (app : App) (g : Header) → IsHeader g → SoundApp (app_begun app g)
begun-app apps.Count g headed = begun-sound counting g headed
begun-app apps.Kv g headed = begun-sound keeping g headed

after-app : (p : AppPlay) (line : Line) (told : List OutLine) → SoundApp p → app_answer node_courses p line ≡ Ok told → SoundApp (app_after node_courses p line)
after-app (plays.Count p) line told sound is = after-sound counting p line told sound is
after-app (plays.Kv p) line told sound is = after-sound keeping p line told sound is

-- readings

-- a play is sound, if there is one
abbrev pub SoundPlay : Option AppPlay → Type 0
SoundPlay None = Unit {0}
SoundPlay (Some p) = SoundApp p

-- a reading whose group keeps the rule of views and whose play is sound
pub record SoundReading (r : Reading) : Type 0 where
  pub of_group : ForView r.group
  pub of_play : SoundPlay r.play

-- a line that is refused
sound-refused : (r : Reading) (why : Refusal) → SoundReading r → SoundReading (refusing r why)
sound-refused r why sound = record { of_group = sound.of_group; of_play = sound.of_play }

-- a line that is counted
sound-counted : (r : Reading) → SoundReading r → SoundReading (counted r)
sound-counted r sound = record { of_group = sound.of_group; of_play = sound.of_play }

-- the line that begins a group
sound-group : (r : Reading) (view : Option View) → ForView view → SoundReading r → SoundReading (group_taken r view)
sound-group r None viewed sound = record { of_group = sound.of_group; of_play = sound.of_play }
sound-group r (Some view) viewed sound = record { of_group = viewed; of_play = sound.of_play }

-- the line that names a service
sound-app : (r : Reading) (app : Option App) → SoundReading r → SoundReading (app_taken r app)
sound-app r None sound = record { of_group = sound.of_group; of_play = sound.of_play }
sound-app r (Some app) sound = record { of_group = sound.of_group; of_play = sound.of_play }

-- a header that is whole
sound-closed : (r : Reading) (view : View) (app : App) (period : ℕ) → BeginsGroup view → period < 2 ^ 32 → SoundReading r → SoundReading (closed r view app period)
sound-closed r view app period viewed fits sound =
    record { of_group = sound.of_group; of_play = begun-app app (with_period view period) (record { viewed = viewed.viewed; begins = viewed.begins; period_fits = fits }) }

-- the usual period fits its field
pub usual_fits : PERIOD < 2 ^ 32
usual_fits = omega arith

-- a header that ends before a line
sound-closed_by : (r : Reading) (group : Option View) (app : Option App) → ForView group → SoundReading r → SoundReading (closed_by r group app)
sound-closed_by r None app viewed sound = sound
sound-closed_by r (Some view) None viewed sound = sound
sound-closed_by r (Some view) (Some app) viewed sound = sound-closed r view app PERIOD viewed usual_fits sound

sound-closed_of : (r : Reading) (play : Option AppPlay) → SoundReading r → SoundReading (closed_of r play)
sound-closed_of r None sound = sound-closed_by r r.group r.app sound.of_group sound
sound-closed_of r (Some p) sound = sound

-- a line that leads to a play
sound-played : (r : Reading) (p : AppPlay) (line : Line) → SoundApp p → SoundReading r → (answer : Result (List OutLine) Refusal) → app_answer node_courses p line ≡ answer
    → SoundReading (played_to r (app_after node_courses p line) answer)
sound-played r p line of sound (Ok told) is = record { of_group = sound.of_group; of_play = after-app p line told of is }
sound-played r p line of sound (Err why) is = sound-refused r why sound

-- a line behind the header
sound-done : (r : Reading) (p : AppPlay) (read : Result Line Kind) → SoundApp p → SoundReading r → SoundReading (line_done node_courses r p read)
sound-done r p (Err kind) of sound = sound-refused r (refusals.Script kind) sound
sound-done r p (Ok line) of sound = sound-played r p line of sound (app_answer node_courses p line) refl

-- the line after the one that names a service
sound-period : (r : Reading) (view : View) (app : App) (l : List ℕ) (period : Option (Option ℕ)) → BeginsGroup view → ForPeriod period → SoundReading r
    → SoundReading (period_taken node_courses r view app l period)
sound-period r view app l (Some (Some period)) viewed fits sound = sound-counted (closed r view app period) (sound-closed r view app period viewed fits sound)
sound-period r view app l (Some None) viewed fits sound = sound-refused (closed r view app PERIOD) (refusals.Script kinds.Header) (sound-closed r view app PERIOD viewed usual_fits sound)
sound-period r view app l None viewed fits sound =
    let whole : SoundReading (closed r view app PERIOD) = sound-closed r view app PERIOD viewed usual_fits sound in
    sound-done (closed r view app PERIOD) (app_begun app (with_period view PERIOD)) (line_of l) whole.of_play whole

-- a line of the header
sound-header : (r : Reading) (l : List ℕ) (group : Option View) (app : Option App) → ForView group → SoundReading r → SoundReading (header_taken node_courses r l group app)
sound-header r l None app viewed sound = sound-group r (group_line l) (is_view-group_line l) sound
sound-header r l (Some view) None viewed sound = sound-app r (app_line l) sound
sound-header r l (Some view) (Some app) viewed sound = sound-period r view app l (period_line (length view.members) l) viewed (fits-period_line (length view.members) l) sound

-- a line by where the script stands
sound-taken_at : (r : Reading) (l : List ℕ) (play : Option AppPlay) → SoundPlay play → SoundReading r → SoundReading (taken_at node_courses r l play)
sound-taken_at r l None of sound =
    let ends : SoundReading (closed_by r r.group r.app) = sound-closed_by r r.group r.app sound.of_group sound in
    either SoundReading (not (is_printed l)) _ _ (sound-refused (closed_by r r.group r.app) (refusals.Script kinds.Byte) ends)
    (either SoundReading (not (is_short l)) _ _ (sound-refused (closed_by r r.group r.app) (refusals.Script kinds.Long) ends)
    (either SoundReading (is_nothing l) _ _ (sound-counted r sound) (sound-header r l r.group r.app sound.of_group sound)))
sound-taken_at r l (Some p) of sound = sound-done r p (line_of l) of sound

-- one more line keeps a reading sound
pub sound-taken : (r : Reading) (l : List ℕ) → SoundReading r → SoundReading (line_taken node_courses r l)
unfolding line_taken
sound-taken r l sound =
    either SoundReading (is_some r.refused) _ _ sound
    (either SoundReading (is_full r) _ _ (sound-refused (closed_of r r.play) refusals.Limit (sound-closed_of r r.play sound)) (sound-taken_at r l r.play sound.of_play sound))

-- lines keep a reading sound
pub sound-after : (r : Reading) (ls : List (List ℕ)) → SoundReading r → SoundReading (reading_after node_courses r ls)
sound-after r [] sound = sound
sound-after r (l ∷ ls) sound = sound-after (line_taken node_courses r l) ls (sound-taken r l sound)

-- whatever is read is sound
pub sound-read : (ls : List (List ℕ)) → SoundReading (reading_after node_courses unread ls)
sound-read ls = sound-after unread ls (record { of_group = tt; of_play = tt })

-- the law of one list over a service
abbrev pub Law : {S : Type 0} → Meaning S → Type 0
Law m = (g : Header) → IsHeader g → (lines : List Line) → OneListThroughout m g lines

-- by it one list holds of a play that is sound
one_list-of : {S : Type 0} (m : Meaning S) → Law m → (p : Play S) → IsSound m p → OneListOf m p
one_list-of m law p of = record { stands = of.stands; throughout = law p.group of.headed p.lines }

one_list-play : Law counting → Law keeping → (play : Option AppPlay) → SoundPlay play → OneListHolds play
one_list-play sums values None of = tt
one_list-play sums values (Some (plays.Count p)) of = one_list-of counting sums p of
one_list-play sums values (Some (plays.Kv p)) of = one_list-of keeping values p of

-- so it holds of whatever is read
pub one_list_holds : Law counting → Law keeping → (ls : List (List ℕ)) → OneListHolds (reading_after node_courses unread ls).play
one_list_holds sums values ls = one_list-play sums values (reading_after node_courses unread ls).play (sound-read ls).of_play
