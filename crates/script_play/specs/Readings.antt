-- The reading of a script's bytes: line by line, and each line is played when it is read.
use Rattle.std.specs.Prelude.{ℕ, ◌+◌, ◌^◌, ◌==◌, nat_le, Bool, not, List, [], ◌∷◌, ◌++◌, length, if◌then◌else◌, Option, Some, None, is_some, Result, Ok, Err}
use Rattle.smart_base.specs.Views.{View}
use Rattle.smart_base.specs.declared.limits.TheConstants.{PERIOD}
use Rattle.world_rules.specs.Scripts.{is_printed, is_short, is_nothing, line_of, group_line, app_line, period_line}
use Rattle.world_rules.specs.Texts.{header_line}
use Rattle.world_rules.specs.declared.line.App.{App}
use Rattle.world_rules.specs.declared.line.Header.{Header}
use Rattle.world_rules.specs.declared.line.Line.{Line}
use Rattle.world_rules.specs.declared.line.OutLine.{OutLine}
use Rattle.world_rules.specs.declared.line.OutLine.TheVariants as outs
use Rattle.world_rules.specs.declared.line.Kind.{Kind}
use Rattle.world_rules.specs.declared.line.Kind.TheVariants as kinds
use Rattle.script_play.specs.Apps.{Courses, app_begun, app_after, app_answer, sent_count}
use Rattle.script_play.specs.declared.app.AppPlay.{AppPlay}
use Rattle.script_play.specs.declared.status.Refusal.{Refusal}
use Rattle.script_play.specs.declared.status.Refusal.TheVariants as refusals
use Rattle.script_play.specs.declared.status.Status.{Status}
use Rattle.script_play.specs.declared.status.Status.TheVariants as ends

-- the lines of bytes

-- the lines that end with a line feed, if a line has begun already
abbrev pub whole_lines : List ℕ → List ℕ → List (List ℕ)
whole_lines line [] = []
whole_lines line (b ∷ bs) = if b == 10 then line ∷ whole_lines [] bs else whole_lines (line ++ b ∷ []) bs

-- the bytes after the last line feed, if a line has begun already
abbrev pub rest_of : List ℕ → List ℕ → List ℕ
rest_of line [] = line
rest_of line (b ∷ bs) = if b == 10 then rest_of [] bs else rest_of (line ++ b ∷ []) bs

-- the last line, which may lack its line feed
abbrev pub last_line : List ℕ → List (List ℕ)
last_line [] = []
last_line (b ∷ bs) = (b ∷ bs) ∷ []

-- all lines of an input
abbrev pub script_lines : List ℕ → List (List ℕ)
script_lines bytes = whole_lines [] bytes ++ last_line (rest_of [] bytes)

-- a script that is read

-- a script as far as it was read
pub record Reading : Type 0 where
  -- the view that the line `group N F` states
  pub group : Option View
  -- the service that the line after it names
  pub app : Option App
  -- the play, after the header is whole
  pub play : Option AppPlay
  -- the number of lines that had a meaning
  pub count : ℕ
  -- the reason for which the next line is refused, if it is
  pub refused : Option Refusal

-- a script before its first line
abbrev pub unread : Reading
unread = record { group = None; app = None; play = None; count = 0; refused = None }

-- a script whose next line is refused
abbrev pub refusing : Reading → Refusal → Reading
refusing r why = record r { refused = Some why }

-- a script with one more line that had a meaning
abbrev pub counted : Reading → Reading
counted r = record r { count = r.count + 1 }

-- the script after the line `group N F`
abbrev pub group_taken : Reading → Option View → Reading
group_taken r None = refusing r (refusals.Script kinds.Header)
group_taken r (Some view) = record (counted r) { group = Some view }

-- the script after the line `app count` or `app kv`; the next line may still state a period
abbrev pub app_taken : Reading → Option App → Reading
app_taken r None = refusing r (refusals.Script kinds.Header)
app_taken r (Some app) = record (counted r) { app = Some app }

-- the header that states a view and a period
abbrev pub with_period : View → ℕ → Header
with_period view period = record { view = view; period = period }

-- the script whose header is whole, with which the play of its service begins
abbrev pub closed : Reading → View → App → ℕ → Reading
closed r view app period = record r { play = Some (app_begun app (with_period view period)) }

-- what tells that a header is whole
abbrev pub closing : View → App → ℕ → List OutLine
closing view app period = header_line (with_period view period) app ∷ []

-- a script whose header ends, if it names a service: its period is the usual one
abbrev pub closed_by : Reading → Option View → Option App → Reading
closed_by r None app = r
closed_by r (Some view) None = r
closed_by r (Some view) (Some app) = closed r view app PERIOD

-- what that tells
abbrev pub closing_by : Option View → Option App → List OutLine
closing_by None app = []
closing_by (Some view) None = []
closing_by (Some view) (Some app) = closing view app PERIOD

-- a script whose header ends here, unless its play has begun
abbrev pub closed_of : Reading → Option AppPlay → Reading
closed_of r None = closed_by r r.group r.app
closed_of r (Some p) = r

-- what that tells
abbrev pub closing_of : Reading → Option AppPlay → List OutLine
closing_of r None = closing_by r.group r.app
closing_of r (Some p) = []

-- the script after a line that led to a play, unless the line is refused
abbrev pub played_to : Reading → AppPlay → Result (List OutLine) Refusal → Reading
played_to r p (Ok told) = record (counted r) { play = Some p }
played_to r p (Err why) = refusing r why

-- the script after a line that follows the header
abbrev pub line_done : Courses → Reading → AppPlay → Result Line Kind → Reading
line_done courses r p (Err kind) = refusing r (refusals.Script kind)
line_done courses r p (Ok line) = played_to r (app_after courses p line) (app_answer courses p line)

-- what a line tells, unless it is refused
abbrev pub told_by : Result (List OutLine) Refusal → List OutLine
told_by (Ok told) = told
told_by (Err why) = []

-- what a line that follows the header tells
abbrev pub told_done : Courses → AppPlay → Result Line Kind → List OutLine
told_done courses p (Err kind) = []
told_done courses p (Ok line) = told_by (app_answer courses p line)

-- the script after the line that follows `app`, by the period that it states. Another line ends the header, and follows it.
abbrev pub period_taken : Courses → Reading → View → App → List ℕ → Option (Option ℕ) → Reading
period_taken courses r view app bytes (Some (Some period)) = counted (closed r view app period)
period_taken courses r view app bytes (Some None) = refusing (closed r view app PERIOD) (refusals.Script kinds.Header)
period_taken courses r view app bytes None = line_done courses (closed r view app PERIOD) (app_begun app (with_period view PERIOD)) (line_of bytes)

-- what the line that follows `app` tells
abbrev pub period_told : Courses → View → App → List ℕ → Option (Option ℕ) → List OutLine
period_told courses view app bytes (Some (Some period)) = closing view app period
period_told courses view app bytes (Some None) = closing view app PERIOD
period_told courses view app bytes None = closing view app PERIOD ++ told_done courses (app_begun app (with_period view PERIOD)) (line_of bytes)

-- the script after a line that is no comment, where the header is not whole
abbrev pub header_taken : Courses → Reading → List ℕ → Option View → Option App → Reading
header_taken courses r bytes None app = group_taken r (group_line bytes)
header_taken courses r bytes (Some view) None = app_taken r (app_line bytes)
header_taken courses r bytes (Some view) (Some app) = period_taken courses r view app bytes (period_line (length view.members) bytes)

-- what such a line tells
abbrev pub header_told : Courses → List ℕ → Option View → Option App → List OutLine
header_told courses bytes None app = []
header_told courses bytes (Some view) None = []
header_told courses bytes (Some view) (Some app) = period_told courses view app bytes (period_line (length view.members) bytes)

-- the script after a line, by whether its header is whole
abbrev pub taken_at : Courses → Reading → List ℕ → Option AppPlay → Reading
taken_at courses r bytes None =
    if not (is_printed bytes) then refusing (closed_by r r.group r.app) (refusals.Script kinds.Byte)
    else if not (is_short bytes) then refusing (closed_by r r.group r.app) (refusals.Script kinds.Long)
    else if is_nothing bytes then counted r
    else header_taken courses r bytes r.group r.app
taken_at courses r bytes (Some p) = line_done courses r p (line_of bytes)

-- what a line tells, by whether the header is whole
abbrev pub told_at : Courses → Reading → List ℕ → Option AppPlay → List OutLine
told_at courses r bytes None =
    if not (is_printed bytes) then closing_by r.group r.app
    else if not (is_short bytes) then closing_by r.group r.app
    else if is_nothing bytes then []
    else header_told courses bytes r.group r.app
told_at courses r bytes (Some p) = told_done courses p (line_of bytes)

-- a script with 2^20 lines, the most there may be
abbrev pub is_full : Reading → Bool
is_full r = nat_le (2 ^ 20) r.count

-- the script after one more line. Nothing is read after a refused line.
unfoldable pub line_taken : Courses → Reading → List ℕ → Reading
line_taken courses r bytes =
    if is_some r.refused then r
    else if is_full r then refusing (closed_of r r.play) refusals.Limit
    else taken_at courses r bytes r.play

-- what one more line tells
unfoldable pub line_told : Courses → Reading → List ℕ → List OutLine
line_told courses r bytes =
    if is_some r.refused then []
    else if is_full r then closing_of r r.play
    else told_at courses r bytes r.play

-- the script after lines
abbrev pub reading_after : Courses → Reading → List (List ℕ) → Reading
reading_after courses r [] = r
reading_after courses r (l ∷ ls) = reading_after courses (line_taken courses r l) ls

-- what lines tell, in order
abbrev pub told_after : Courses → Reading → List (List ℕ) → List OutLine
told_after courses r [] = []
told_after courses r (l ∷ ls) = line_told courses r l ++ told_after courses (line_taken courses r l) ls

-- a whole input

-- the script after a whole input
abbrev pub script_read : Courses → List ℕ → Reading
script_read courses bytes = reading_after courses unread (script_lines bytes)

-- the status of a refused line
abbrev pub refused_end : ℕ → Refusal → Status
refused_end line (refusals.Script kind) = ends.Script line kind
refused_end line (refusals.Premise which) = ends.Premise line which
refused_end line refusals.Limit = ends.Limit line

-- the status at the end of an input: well if its header names a service
abbrev pub end_at : ℕ → Option App → Status
end_at count None = ends.Script (count + 1) kinds.Empty
end_at count (Some app) = ends.Ok

-- the status of a script that was read whole, or up to a refused line
abbrev pub end_by : Reading → Option Refusal → Status
end_by r None = end_at r.count r.app
end_by r (Some why) = refused_end (r.count + 1) why

-- the status of a script that was read whole, or up to a refused line
abbrev pub end_of : Reading → Status
end_of r = end_by r r.refused

-- the last line of the transcript: the numbers of lines and of messages. A header that names a service is whole there, also without a play.
abbrev pub open_end : ℕ → Option View → Option App → List OutLine
open_end count None app = []
open_end count (Some view) None = []
open_end count (Some view) (Some app) = closing view app PERIOD ++ outs.End count 0 ∷ []

abbrev pub end_told : Reading → Option AppPlay → List OutLine
end_told r None = open_end r.count r.group r.app
end_told r (Some p) = outs.End r.count (sent_count p) ∷ []

-- what the end of a script tells
abbrev pub last_told : Reading → Option Refusal → List OutLine
last_told r None = end_told r r.play
last_told r (Some why) = []

-- the transcript of a whole input
abbrev pub transcript : Courses → List ℕ → List OutLine
transcript courses bytes =
    told_after courses unread (script_lines bytes) ++ last_told (script_read courses bytes) (script_read courses bytes).refused
