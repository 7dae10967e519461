-- How runs end where their input does.
use Rattle.std.proofs.Common.{◌≡◌, ◌≤◌, ◌==◌, ◌++◌, ◌∙◌, ℕ, true, false, length, arith, eqb-true, List, [], ◌∷◌, Option, None, Some, take, refl, ap, sym, subst, inl, inr, suc}
use Rattle.std.proofs.lemmas.List.{append-nil}
use Rattle.std.specs.Io.KnownBytes.{Appends, IsAtEnd}
use Rattle.faults.specs.Counts.{Rose}
use Rattle.world_rules.specs.Texts.{text_of}
use Rattle.world_rules.specs.declared.line.App.{App}
use Rattle.script_play.specs.declared.status.Refusal.{Refusal}
use Rattle.smart_top.specs.declared.reader.Halt.{Halt}
use Rattle.smart_top.specs.declared.reader.Halt.TheVariants as halts
use Rattle.script_play.specs.Apps.{core_courses, node_courses}
use Rattle.script_play.specs.Readings.{Reading, unread, whole_lines, rest_of, last_line, script_lines, reading_after, told_after, script_read, end_of, end_by, end_at, end_told, last_told, transcript}
use Rattle.smart_top.specs.Feeds.{text_after, HasTaken, Halted, Within, halt_end}
use Rattle.smart_top.specs.Runs.{IsLeft, Ends, WroteLines, WroteFront, RunEnd}
use Rattle.script_play.proofs.ReadingLaws.{text-append, front_behind, whole-feed, rest-feed}
use Rattle.smart_top.proofs.ReadingCores.{trimmed_reading, core-after-unread, core-end, core-last}
use Rattle.smart_top.proofs.Feeding.{appends-then}
use Rattle.smart_top.proofs.Ending.{Starts, begins, played, same-text, told-lines, broken-front, refused-run, refused-ends}

-- the lines of an input that were all taken

-- a script that took all lines ends as the input does
all-read : (written now : Option (List ℕ)) (bytes input line : List ℕ) (script : Reading) → script_lines input ≡ whole_lines [] bytes
    → HasTaken core_courses bytes written now line script → script ≡ trimmed_reading (script_read node_courses input)
all-read written now bytes input line script all taken =
    taken.script_is ∙ (core-after-unread (whole_lines [] bytes) ∙ ap (λ ls. trimmed_reading (reading_after node_courses unread ls)) (sym all))

-- the transcript is what the lines told, and the end
all-told : (written now : Option (List ℕ)) (bytes input line : List ℕ) (script : Reading) → script_lines input ≡ whole_lines [] bytes
    → HasTaken core_courses bytes written now line script → text_after core_courses bytes ++ text_of (end_told script script.play) ≡ text_of (transcript node_courses input)
all-told written now bytes input line script all taken =
    let r : Reading = script_read node_courses input in
    let read : script ≡ trimmed_reading r = all-read written now bytes input line script all taken in
    let last : end_told script script.play ≡ last_told r r.refused =
    ap (λ x. last_told script x) (sym taken.going) ∙ (ap (λ (q : Reading). last_told q q.refused) read ∙ core-last r) in
    ap (λ lines. text_after core_courses bytes ++ text_of lines) last
    ∙ (ap (λ text. text ++ text_of (last_told r r.refused)) (same-text bytes ∙ ap (λ ls. text_of (told_after node_courses unread ls)) (sym all))
    ∙ sym (text-append (told_after node_courses unread (script_lines input)) (last_told r r.refused)))

ended-app : (left left' written now : Option (List ℕ)) (wants wants' count : ℕ) (app : Option App) → IsAtEnd left' → Ends left written now (end_at count app)
    → RunEnd left left' written now wants wants' (end_at count app)
ended-app left left' written now wants wants' count None end e = e
ended-app left left' written now wants wants' count (Some app) end e = (e, end)

ended-run : (left left' written now : Option (List ℕ)) (wants wants' : ℕ) (r : Reading) (x : Option Refusal) → x ≡ None → IsAtEnd left'
    → Ends left written now (end_by r x) → RunEnd left left' written now wants wants' (end_by r x)
ended-run left left' written now wants wants' r None is end e = ended-app left left' written now wants wants' r.count r.app end e
ended-run left left' written now wants wants' r (Some why) is end e = absurd (cc)

-- a run that has written its whole transcript
pub close-ended : (left left' written now now' : Option (List ℕ)) (wants wants' : ℕ) (bytes input line : List ℕ) (script : Reading)
    → script_lines input ≡ whole_lines [] bytes → IsLeft left input → IsAtEnd left' → HasTaken core_courses bytes written now line script → Appends now now' (text_of (end_told script script.play))
    → RunEnd left left' written now' wants wants' (end_of script)
close-ended left left' written now now' wants wants' bytes input line script all is_left end taken told =
    let r : Reading = script_read node_courses input in
    let read : script ≡ trimmed_reading r = all-read written now bytes input line script all taken in
    ended-run left left' written now' wants wants' script script.refused taken.going end
    (record {
      input = input;
      is_left = is_left;
      status_is = ap (λ (q : Reading). end_of q) read ∙ core-end r;
      text = subst (λ text. Appends written now' text) (all-told written now bytes input line script all taken)
          (appends-then written now now' (text_after core_courses bytes) (text_of (end_told script script.play)) taken.text told);
      played = played (script_lines input);
    })

-- a run whose end was not written
pub close-unwritten : (left written now now' : Option (List ℕ)) (bytes input line : List ℕ) (script : Reading)
    → script_lines input ≡ whole_lines [] bytes → IsLeft left input → now' ≡ now → HasTaken core_courses bytes written now line script → WroteLines left written now'
close-unwritten left written now now' bytes input line script all is_left same taken =
    told-lines left written now' bytes input (record { more = []; split = all ∙ sym (append-nil (whole_lines [] bytes)) }) is_left
    (record { text = subst (λ w. Appends written w (text_after core_courses bytes)) (sym same) taken.text })

-- a run of whose end only a front was written
close-broken : (left written now now' : Option (List ℕ)) (bytes input line : List ℕ) (script : Reading) (count : ℕ)
    → script_lines input ≡ whole_lines [] bytes → IsLeft left input → HasTaken core_courses bytes written now line script → Appends now now' (take count (text_of (end_told script script.play)))
    → WroteFront left written now'
close-broken left written now now' bytes input line script count all is_left taken told =
    let some = front_behind (text_after core_courses bytes) (text_of (end_told script script.play)) [] count in
    let whole = ap (λ text. text_after core_courses bytes ++ text) (append-nil (text_of (end_told script script.play))) ∙ all-told written now bytes input line script all taken in
    record {
      input = input;
      is_left = is_left;
      count = some.0;
      text = subst (λ text. Appends written now' text) (sym some.1 ∙ ap (λ text. take some.0 text) whole)
          (appends-then written now now' (text_after core_courses bytes) (take count (text_of (end_told script script.play))) taken.text told);
      played = played (script_lines input);
    }

-- a run that stopped at its end
pub close-halted : (left left' written now now' : Option (List ℕ)) (wants wants' : ℕ) (bytes input line : List ℕ) (script : Reading) (halt : Halt)
    → script_lines input ≡ whole_lines [] bytes → IsLeft left input → HasTaken core_courses bytes written now line script → (halt ≡ halts.Refused → ⊥) → (halt ≡ halts.NoMemory → now' ≡ now)
    → (halt ≡ halts.SinkMemory → Rose wants wants') → (count : ℕ) × Appends now now' (take count (text_of (end_told script script.play)))
    → RunEnd left left' written now' wants wants' (halt_end script halt)
close-halted left left' written now now' wants wants' bytes input line script halts.Refused all is_left taken never same rose told = absurd (never refl)
close-halted left left' written now now' wants wants' bytes input line script halts.WriteFault all is_left taken never same rose told =
    close-broken left written now now' bytes input line script told.0 all is_left taken told.1
close-halted left left' written now now' wants wants' bytes input line script halts.SinkMemory all is_left taken never same rose told =
    inr (rose refl, close-broken left written now now' bytes input line script told.0 all is_left taken told.1)
close-halted left left' written now now' wants wants' bytes input line script halts.NoMemory all is_left taken never same rose told =
    inl (close-unwritten left written now now' bytes input line script all is_left (same refl) taken)

-- the last line

-- where no line has begun, the lines are those that ended
pub lines-ended : (bytes : List ℕ) → rest_of [] bytes ≡ [] → script_lines bytes ≡ whole_lines [] bytes
lines-ended bytes none = ap (λ rest. whole_lines [] bytes ++ last_line rest) none ∙ append-nil (whole_lines [] bytes)

last-there : (rest : List ℕ) → (rest ≡ [] → ⊥) → last_line rest ≡ rest ∷ []
last-there [] some = absurd (some refl)
last-there (b ∷ bs) some = refl

-- where one has, its end may be taken for a line feed
pub lines-begun : (bytes : List ℕ) → (rest_of [] bytes ≡ [] → ⊥) → script_lines bytes ≡ whole_lines [] (bytes ++ 10 ∷ [])
lines-begun bytes some = ap (λ rest. whole_lines [] bytes ++ rest) (last-there (rest_of [] bytes) some) ∙ sym (whole-feed [] bytes 10 refl)

-- what stopped the last line
last-starts : (bytes : List ℕ) (P : List ℕ → Type 0) → (rest_of [] bytes ≡ [] → ⊥) → (w : Within bytes (10 ∷ []) P) → Starts (bytes ++ w.front) bytes
last-starts bytes P some w = of_front w.front w.rest w.split
  where
    of_front : (front rest : List ℕ) → 10 ∷ [] ≡ front ++ rest → Starts (bytes ++ front) bytes
    of_front [] rest split = record { rest = []; same = ap script_lines (sym (append-nil bytes) ∙ sym (append-nil (bytes ++ []))) }
    of_front (b ∷ []) rest split =
        let ten : 10 ≡ b = cc in
        record {
          rest = [];
          same = lines-begun bytes some
              ∙ (ap (λ x. whole_lines [] (bytes ++ x ∷ [])) ten
              ∙ (sym (lines-ended (bytes ++ b ∷ []) (rest-feed [] bytes b (sym ten))) ∙ ap script_lines (sym (append-nil (bytes ++ b ∷ [])))));
        }
    of_front (b ∷ c ∷ front) rest split = absurd (cc)

-- a run that the last line has stopped
pub last-halted : (left left' written now : Option (List ℕ)) (wants wants' : ℕ) (bytes : List ℕ) (script : Reading) (halt : Halt)
    → (rest_of [] bytes ≡ [] → ⊥) → IsLeft left bytes → (halt ≡ halts.SinkMemory → Rose wants wants') → Halted core_courses bytes (10 ∷ []) written now script halt
    → RunEnd left left' written now wants wants' (halt_end script halt)
last-halted left left' written now wants wants' bytes script halts.Refused some is_left rose w =
    refused-run left left' written now wants wants' script script.refused w.holds.is (refused-ends left written now (bytes ++ w.front) bytes script (last-starts bytes _ some w) is_left w.holds)
last-halted left left' written now wants wants' bytes script halts.WriteFault some is_left rose w = broken-front left written now (bytes ++ w.front) bytes (last-starts bytes _ some w) is_left w.holds
last-halted left left' written now wants wants' bytes script halts.SinkMemory some is_left rose w =
    inr (rose refl, broken-front left written now (bytes ++ w.front) bytes (last-starts bytes _ some w) is_left w.holds)
last-halted left left' written now wants wants' bytes script halts.NoMemory some is_left rose w = inl (told-lines left written now (bytes ++ w.front) bytes (begins _ _ (last-starts bytes _ some w)) is_left w.holds)

-- a line that is not empty is one
pub not_empty : (line : List ℕ) → (length line == 0) ≡ false → line ≡ [] → ⊥
not_empty [] is none = absurd (cc)
not_empty (b ∷ bs) is none = absurd (cc)

-- a line without bytes is empty
pub is_empty : (line : List ℕ) → (length line == 0) ≡ true → line ≡ []
is_empty [] is = refl
is_empty (b ∷ bs) is = absurd (no (length bs) (eqb-true (length (b ∷ bs)) 0 is))
  where
    no : (n : ℕ) → suc n ≡ 0 → ⊥
    no n same = omega (arith, same)

-- a count that rose later has risen
pub rose-later : (a b c : ℕ) → a ≤ b → Rose b c → Rose a c
rose-later a b c le rose = omega (arith, le, rose)
