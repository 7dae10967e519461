-- How a load is played, and how its run ends.
use Rattle.std.proofs.Common.{◌≡◌, ◌∙◌, ℕ, true, List, [], ◌∷◌, Option, None, Some, is_some, map, take, refl, ap, sym, subst, inl, inr}
use Rattle.std.specs.Prelude.{◌⊎◌, option_map, Result, Ok, Err}
use Rattle.std.specs.Io.KnownBytes.{Appends}
use Rattle.load_maker.specs.Loads.{asks_left, line_text, load_lines, load_script}
use Rattle.load_maker.specs.declared.line.LoadLine.{LoadLine}
use Rattle.app_count.specs.declared.Count.{Count}
use Rattle.world_rules.specs.Plays.{Play}
use Rattle.world_rules.specs.Scripts.{line_of}
use Rattle.world_rules.specs.declared.line.Kind.{Kind}
use Rattle.world_rules.specs.declared.line.Line.{Line}
use Rattle.world_rules.specs.declared.line.OutLine.{OutLine}
use Rattle.world_laws.specs.Cores.{trimmed_world}
use Rattle.agreement_laws.proofs.Lists.{either}
use Rattle.script_play.specs.Apps.{Courses, core_courses, node_courses, app_after, app_answer}
use Rattle.script_play.specs.Readings.{Reading, unread, closed_of, line_done, line_taken, is_full, played_to, reading_after, refusing, taken_at, end_by, end_of}
use Rattle.script_play.specs.Totals.{totals_of, summary_text}
use Rattle.smart_top.specs.Loads.{load_read, IsCount, HasCount, IsLoadPlay, IsOfPlay, WroteSummary, WroteSummaryFront, RefusedLine, LoadEnd}
use Rattle.script_play.specs.declared.app.AppPlay.{AppPlay}
use Rattle.script_play.specs.declared.app.AppPlay.TheVariants as plays
use Rattle.script_play.specs.declared.status.Refusal.{Refusal}
use Rattle.script_play.specs.declared.status.Refusal.TheVariants as refusals
use Rattle.script_play.specs.declared.status.Status.{Status}
use Rattle.script_play.specs.declared.status.Status.TheVariants as ends
use Rattle.script_play.proofs.ReadingLaws.{after-refused}
use Rattle.smart_top.proofs.LoadHeader.{headed, takes-header}
use Rattle.smart_top.proofs.LoadMeanings.{load_means}
use Rattle.smart_top.proofs.ReadingCores.{trimmed_play, trimmed_app, trimmed_reading, core-after-unread, core-end}
use Rattle.smart_top.proofs.Ending.{appends-nothing, end-refused, played}

-- ---- lines of a load

-- a script from which the lines that are left lead to the end of the load
abbrev pub LeadsOn : ℕ → Reading → List LoadLine → Type 0
LeadsOn n script lines = load_read core_courses n ≡ reading_after core_courses script (map line_text lines)

-- the first line leads on
pub line_goes_on : (n : ℕ) (script next : Reading) (line : LoadLine) (lines rest : List LoadLine) → lines ≡ line ∷ rest → next ≡ line_taken core_courses script (line_text line)
    → LeadsOn n script lines → LeadsOn n next rest
line_goes_on n script next line lines rest left is leads =
    leads
    ∙ (ap (λ ls. reading_after core_courses script (map line_text ls)) left
    ∙ ap (λ r. reading_after core_courses r (map line_text rest)) (sym is))

-- a line that is refused is the last that is read
pub line_ends : (n : ℕ) (script next : Reading) (line : LoadLine) (lines rest : List LoadLine) → lines ≡ line ∷ rest
    → next.refused ≡ (line_taken core_courses script (line_text line)).refused → is_some next.refused ≡ true → LeadsOn n script lines
    → load_read core_courses n ≡ line_taken core_courses script (line_text line)
line_ends n script next line lines rest left same is leads =
    leads
    ∙ (ap (λ ls. reading_after core_courses script (map line_text ls)) left
    ∙ after-refused core_courses (line_taken core_courses script (line_text line)) (map line_text rest) (ap (λ x. is_some x) (sym same) ∙ is))

-- where no line is left the load is read
pub lines_read : (n : ℕ) (script : Reading) (lines : List LoadLine) → lines ≡ [] → LeadsOn n script lines → load_read core_courses n ≡ script
lines_read n script lines none leads = leads ∙ ap (λ ls. reading_after core_courses script (map line_text ls)) none

-- all lines lead from the start
pub lines_begin : (n : ℕ) (script : Reading) (lines : List LoadLine) → script ≡ unread → lines ≡ load_lines n → LeadsOn n script lines
lines_begin n script lines start all =
    ap (λ ls. reading_after core_courses unread (map line_text ls)) (sym all) ∙ ap (λ r. reading_after core_courses r (map line_text lines)) (sym start)

-- ---- the play of a load is one over a sum

-- a header that ends
count-closed : (r : Reading) (play : Option AppPlay) → IsCount play → HasCount r → HasCount (refusing (closed_of r play) refusals.Limit)
count-closed r None of has = absurd of
count-closed r (Some p) of has = has

-- a play behind one more line
count-line : (courses : Courses) (p : AppPlay) (line : Line) → IsCount (Some p) → IsCount (Some (app_after courses p line))
count-line courses (plays.Count p) line of = tt
count-line courses (plays.Kv p) line of = absurd of

-- a line that leads to a play
count-played : (courses : Courses) (r : Reading) (p : AppPlay) (line : Line) → IsCount (Some p) → HasCount r → (answer : Result (List OutLine) Refusal)
    → HasCount (played_to r (app_after courses p line) answer)
count-played courses r p line of has (Ok told) = count-line courses p line of
count-played courses r p line of has (Err why) = has

-- a line behind the header
count-done : (courses : Courses) (r : Reading) (p : AppPlay) (read : Result Line Kind) → IsCount (Some p) → HasCount r → HasCount (line_done courses r p read)
count-done courses r p (Err kind) of has = has
count-done courses r p (Ok line) of has = count-played courses r p line of has (app_answer courses p line)

-- a line by where the script stands
count-at : (courses : Courses) (r : Reading) (l : List ℕ) (play : Option AppPlay) → IsCount play → HasCount r → HasCount (taken_at courses r l play)
count-at courses r l None of has = absurd of
count-at courses r l (Some p) of has = count-done courses r p (line_of l) of has

-- one more line
count-taken : (courses : Courses) (r : Reading) (l : List ℕ) → HasCount r → HasCount (line_taken courses r l)
unfolding line_taken
count-taken courses r l has =
    either HasCount (is_some r.refused) _ _ has
    (either HasCount (is_full r) _ _ (count-closed r r.play has has) (count-at courses r l r.play has has))

-- more lines
count-after : (courses : Courses) (r : Reading) (ls : List (List ℕ)) → HasCount r → HasCount (reading_after courses r ls)
count-after courses r [] has = has
count-after courses r (l ∷ ls) has = count-after courses (line_taken courses r l) ls (count-taken courses r l has)

-- the play of a load, whatever its lines come to
count-load : (courses : Courses) (n : ℕ) → HasCount (load_read courses n)
count-load courses n =
    subst HasCount (sym (takes-header courses (map line_text (asks_left n n n)))) (count-after courses headed (map line_text (asks_left n n n)) tt)

-- no other play
pub never_another : (n : ℕ) (script : Reading) → script ≡ load_read core_courses n → HasCount script
never_another n script is = subst HasCount (sym is) (count-load core_courses n)

-- ---- the play of cores is the play of nodes

-- a play that cores play as this one
record PlayedAs (play : Option AppPlay) (w : Play Count) : Type 0 where
  p : Play Count
  is : play ≡ Some (plays.Count p)
  same : trimmed_play p ≡ w

played-as : (play : Option AppPlay) (w : Play Count) → option_map trimmed_app play ≡ Some (plays.Count w) → PlayedAs play w
played-as None w is = absurd (cc)
played-as (Some (plays.Count p)) w is = record { p = p; is = refl; same = cc }
played-as (Some (plays.Kv p)) w is = absurd (cc)

-- both come to the same totals
totals-same : (p : Play Count) → totals_of (trimmed_play p) ≡ totals_of p
unfolding trimmed_world
totals-same p = refl

-- the play of a whole load, with the totals that cores have of it
pub load-play : (n : ℕ) (script : Reading) (w : Play Count) → script ≡ load_read core_courses n → script.refused ≡ None → script.play ≡ Some (plays.Count w)
    → (p : Play Count) × IsLoadPlay n p × (totals_of w ≡ totals_of p)
load-play n script w read whole of =
    let cores : script ≡ trimmed_reading (load_read node_courses n) = read ∙ core-after-unread (load_script n) in
    let found : PlayedAs (load_read node_courses n).play w = played-as (load_read node_courses n).play w (ap (λ (r : Reading). r.play) (sym cores) ∙ of) in (
      found.p,
      record {
        whole = ap (λ (r : Reading). r.refused) (sym cores) ∙ whole;
        play_is = found.is;
        played = played (load_script n);
      },
      ap totals_of (sym found.same) ∙ totals-same found.p,
    )

-- the summary of the totals that cores have is that of the load's play
pub load_summarized : (n : ℕ) (script : Reading) (w : Play Count) (text : List ℕ) → script ≡ load_read core_courses n → script.refused ≡ None → script.play ≡ Some (plays.Count w)
    → text ≡ summary_text n (totals_of w) → (p : Play Count) × IsLoadPlay n p × (text ≡ summary_text n (totals_of p))
load_summarized n script w text read whole of is =
    let some = load-play n script w read whole of in
    (some.0, some.1, is ∙ ap (λ t. summary_text n t) some.2)

-- ---- how the run of a load ends

-- it had no memory before it wrote anything
pub unread_load : (n : ℕ) (written : Option (List ℕ)) (wants wants' : ℕ) → LoadEnd n written written wants wants' ends.NoMemory
unread_load n written wants wants' = inl (appends-nothing written)

-- a refused line ends it by its status
refused-status : (n : ℕ) (written : Option (List ℕ)) (wants wants' : ℕ) (r : Reading) (why : Option Refusal) → is_some why ≡ true → IsOfPlay why
    → RefusedLine n written written (end_by r why) → LoadEnd n written written wants wants' (end_by r why)
refused-status n written wants wants' r None is of e = absurd (cc)
refused-status n written wants wants' r (Some (refusals.Script kind)) is of e = absurd of
refused-status n written wants wants' r (Some (refusals.Premise which)) is of e = e
refused-status n written wants wants' r (Some refusals.Limit) is of e = e

pub refused_load : (n : ℕ) (written : Option (List ℕ)) (wants wants' : ℕ) (script : Reading) → is_some script.refused ≡ true
    → script.refused ≡ (load_read core_courses n).refused → script.count ≡ (load_read core_courses n).count
    → LoadEnd n written written wants wants' (end_of script)
refused_load n written wants wants' script is refused count =
    let cores : load_read core_courses n ≡ trimmed_reading (load_read node_courses n) = core-after-unread (load_script n) in
    let same : (load_read node_courses n).refused ≡ script.refused = ap (λ (r : Reading). r.refused) (sym cores) ∙ sym refused in
    refused-status n written wants wants' script script.refused is (subst IsOfPlay same (load_means n))
    (record {
      refused = ap (λ x. is_some x) same ∙ is;
      status_is = end-refused script (load_read core_courses n) is refused count ∙ (ap end_of cores ∙ core-end (load_read node_courses n));
      text = appends-nothing written;
      played = played (load_script n);
    })

-- it has written its summary
pub summary_written : (n : ℕ) (written now : Option (List ℕ)) (text : List ℕ) → (p : Play Count) × IsLoadPlay n p × (text ≡ summary_text n (totals_of p))
    → Appends written now text → WroteSummary n written now
summary_written n written now text some appends =
    record { play = some.0; is = some.1; text = subst (λ t. Appends written now t) some.2 appends }

-- it has written a front of its summary
pub summary_broken : (n : ℕ) (written now : Option (List ℕ)) (text : List ℕ) → (p : Play Count) × IsLoadPlay n p × (text ≡ summary_text n (totals_of p))
    → (count : ℕ) × Appends written now (take count text) → WroteSummaryFront n written now
summary_broken n written now text some front =
    record { play = some.0; is = some.1; count = front.0; text = subst (λ t. Appends written now (take front.0 t)) some.2 front.1 }

-- ---- completeness

none-refused : (why : Option Refusal) → why ≡ None → is_some why ≡ true → ⊥
none-refused None none is = absurd (cc)
none-refused (Some why) none is = absurd (cc)

-- a load of which no line is refused, and whose output does not fail, ends well or for want of memory
pub is_complete : (n : ℕ) (written now : Option (List ℕ)) (wants wants' : ℕ) (status : Status) → LoadEnd n written now wants wants' status → (load_read node_courses n).refused ≡ None
    → (status ≡ ends.WriteFault → ⊥) → (status ≡ ends.Ok) ⊎ (status ≡ ends.NoMemory)
is_complete n written now wants wants' ends.Ok e whole fine = inl refl
is_complete n written now wants wants' ends.Words e whole fine = absurd e
is_complete n written now wants wants' (ends.Script line kind) e whole fine = absurd e
is_complete n written now wants wants' (ends.Store entry) e whole fine = absurd e
is_complete n written now wants wants' ends.ReadFault e whole fine = absurd e
is_complete n written now wants wants' ends.WriteFault e whole fine = absurd (fine refl)
is_complete n written now wants wants' ends.TrailFault e whole fine = absurd e
is_complete n written now wants wants' ends.DiskFault e whole fine = absurd e
is_complete n written now wants wants' (ends.Premise line which) e whole fine = absurd (none-refused (load_read node_courses n).refused whole e.refused)
is_complete n written now wants wants' (ends.Limit line) e whole fine = absurd (none-refused (load_read node_courses n).refused whole e.refused)
is_complete n written now wants wants' (ends.Differs kind member event) e whole fine = absurd e
is_complete n written now wants wants' (ends.GaveUp client polls) e whole fine = absurd e
is_complete n written now wants wants' ends.NoMemory e whole fine = inr refl
