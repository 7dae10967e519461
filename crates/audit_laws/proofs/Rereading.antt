-- Trails that were written are read as they are.
use Rattle.std.proofs.Common.{◌≡◌, ◌∙◌, ◌<◌, ◌≤◌, ◌^◌, ℕ, suc, ◌+◌, Bool, true, false, cond, List, [], ◌∷◌, ◌++◌, length, Option, Some, None, refl, ap, sym, subst, arith, append-nil, append_assoc, length-append}
use Rattle.std.proofs.lemmas.Bool.{lt-ltb, le-ltb}
use Rattle.std.specs.Prelude.{Ok, not, ◌||◌, option_map}
use Rattle.std.specs.Int.{w32}
use Rattle.std.specs.List.{flat_map}
use Rattle.std.specs.Option.{option_and_then}
use Rattle.smart_base.specs.Cuts.{Cut, Read, anything, bytes_at}
use Rattle.smart_base.specs.Laws.{refit, contents_law, text_field, wide32}
use Rattle.smart_base.specs.Lists.{Each}
use Rattle.smart_base.specs.Spelling.{Law, behind}
use Rattle.trail.specs.Events.{event_text, event_decoded}
use Rattle.trail.specs.Openings.{opening_text, opening_decoded, text_field_at}
use Rattle.trail.specs.Trails.{part, events_text}
use Rattle.trail.specs.declared.event.TrailEvent.{TrailEvent}
use Rattle.trail.specs.declared.event.TrailEvent.TheVariants.{End}
use Rattle.trail.specs.declared.opening.TrailOpening.{TrailOpening}
use Rattle.trail.proofs.Opened as openings
use Rattle.trail.proofs.Spelled as events
use Rattle.audit_rules.specs.declared.recorded.Recorded.{Recorded}
use Rattle.audit_rules.specs.declared.recorded.Reading.{Reading}
use Rattle.audit_rules.specs.Audits.{is_client, CanBegin}
use Rattle.audit_rules.specs.Readings.{unread, is_known, beginning, may_happen, is_end, with_event, takes, Reached, reaches, next_part, after_parts, parts_read, part_count, AreRead}
use Rattle.audit_laws.specs.Written.{IsShort, IsWithin, IsWritten, AreApart, AreWritten, parts_of, text_of, texts_of}

-- ---- one part

field-law : Law IsShort (behind w32) text_field_at
field-law =
    refit (λ t. (length t < 2 ^ 32) × (anything (length t) ≡ true)) IsShort (behind w32) text_field_at
    (contents_law _ (behind w32) bytes_at (text_field w32 (2 ^ 32) anything wide32)) (λ t h. h.0) (λ t h. (h, refl))

-- what is left behind a part
abbrev past : Cut → List ℕ → List ℕ → Cut
past c text rest = record { at = c.at + length (part text); left = rest }

field-read : (c : Cut) (text rest : List ℕ) → IsShort text → c.left ≡ part text ++ rest → text_field_at c ≡ Ok (text, past c text rest)
field-read c text rest short left = field-law.again c text (past c text rest) short (record { left = left; at = refl })

part-read : (x : Reached) (text rest : List ℕ) (s : Reading) → IsShort text → x.cut.left ≡ part text ++ rest → takes x.reading text ≡ Some s
    → next_part x ≡ Some (record { reading = s; cut = past x.cut text rest })
unfolding next_part
part-read x text rest s short left taken =
    ap (λ (r : Read (List ℕ)). reaches x.reading r) (field-read x.cut text rest short left)
    ∙ ap (λ (o : Option Reading). option_map (λ (r : Reading). record { reading = r; cut = past x.cut text rest }) o) taken

-- ---- what each part makes of a reading

-- these trails are whole
abbrev whole : List Recorded → Reading
whole ts = record { trails = ts; begun = None }

-- and one has begun
abbrev begun : List Recorded → Recorded → Reading
begun ts t = record { trails = ts; begun = Some t }

opening-taken : (ts : List Recorded) (o : TrailOpening) → is_known ts o.member ≡ false → opening_decoded (opening_text o) ≡ Ok o → takes (whole ts) (opening_text o) ≡ Some (begun ts (beginning o))
unfolding takes
opening-taken ts o new read = rw (read, new) refl

entry-taken : (ts : List Recorded) (t : Recorded) (bytes : List ℕ) → is_client t ≡ false → length t.entries < t.opening.entries
    → takes (begun ts t) bytes ≡ Some (begun ts (record t { entries = t.entries ++ bytes ∷ [] }))
unfolding takes
entry-taken ts t bytes member more = rw (lt-ltb (length t.entries) t.opening.entries more, member) refl

may-be : (client may : Bool) → (client ≡ true → may ≡ true) → (not client || may) ≡ true
may-be true may each = each refl
may-be false may each = refl

event-taken : (ts : List Recorded) (t : Recorded) (e : TrailEvent) (end : Bool) → is_end e ≡ end → event_decoded (event_text e) ≡ Ok e → t.opening.entries ≤ length t.entries
    → (is_client t ≡ true → may_happen e ≡ true) → takes (begun ts t) (event_text e) ≡ Some (cond end (whole (ts ++ with_event t e ∷ [])) (begun ts (with_event t e)))
unfolding takes
event-taken ts t e end ends read all may = rw (le-ltb (length t.entries) t.opening.entries all, read, may-be (is_client t) (may_happen e) may, ends) refl

-- ---- parts one after the other

abbrev first : List ℕ → Reached
first bytes = record { reading = unread; cut = record { at = 0; left = bytes } }

-- so many parts of bytes make a reading and leave bytes
record ComesTo (bytes : List ℕ) (count : ℕ) (reading : Reading) (left : List ℕ) : Type 0 where
  at : ℕ
  is : after_parts count (Some (first bytes)) ≡ Some (record { reading = reading; cut = record { at = at; left = left } })

module _ (bytes : List ℕ) where
  one-more : (count : ℕ) (r s : Reading) (text rest : List ℕ) → ComesTo bytes count r (part text ++ rest) → IsShort text → takes r text ≡ Some s → ComesTo bytes (suc count) s rest
  one-more count r s text rest so_far short taken =
      let x : Reached = record { reading = r; cut = record { at = so_far.at; left = part text ++ rest } } in
      record {
        at = so_far.at + length (part text);
        is = ap (λ (o : Option Reached). option_and_then next_part o) so_far.is ∙ part-read x text rest s short refl taken;
      }

  as-left : (count : ℕ) (r : Reading) (left other : List ℕ) → left ≡ other → ComesTo bytes count r left → ComesTo bytes count r other
  as-left count r left other same so_far = subst (λ (l : List ℕ). ComesTo bytes count r l) same so_far

  as-count : (count other : ℕ) (r : Reading) (left : List ℕ) → count ≡ other → ComesTo bytes count r left → ComesTo bytes other r left
  as-count count other r left same so_far = subst (λ (k : ℕ). ComesTo bytes k r left) same so_far

  as-read : (count : ℕ) (r other : Reading) (left : List ℕ) → r ≡ other → ComesTo bytes count r left → ComesTo bytes count other left
  as-read count r other left same so_far = subst (λ (s : Reading). ComesTo bytes count s left) same so_far

  never-empty : (client : Bool) (e : List ℕ) (es : List (List ℕ)) → (client ≡ true → e ∷ es ≡ []) → client ≡ false
  never-empty false e es empty = refl
  never-empty true e es empty = absurd (some (empty refl))
    where
      some : e ∷ es ≡ [] → ⊥
      some is = absurd (cc)

  both : (client : Bool) → client ≡ false → client ≡ true → ⊥
  both client member is = absurd (cc)

  with-entries : (ts : List Recorded) (es : List (List ℕ)) (count : ℕ) (t : Recorded) (rest : List ℕ) → Each IsShort es → (is_client t ≡ true → es ≡ [])
      → length t.entries + length es ≡ t.opening.entries → ComesTo bytes count (begun ts t) (flat_map part es ++ rest)
      → ComesTo bytes (length es + count) (begun ts (record t { entries = t.entries ++ es })) rest
  with-entries ts [] count t rest short none all so_far =
      as-count count (length {A = List ℕ} [] + count) (begun ts (record t { entries = t.entries ++ [] })) rest (omega arith)
      (as-read count (begun ts t) (begun ts (record t { entries = t.entries ++ [] })) rest (ap (λ (xs : List (List ℕ)). begun ts (record t { entries = xs })) (sym (append-nil t.entries))) so_far)
  with-entries ts (e ∷ es) count t rest short none all so_far =
      let member : is_client t ≡ false = never-empty (is_client t) e es none in
      let u : Recorded = record t { entries = t.entries ++ e ∷ [] } in
      let here = as-left count (begun ts t) ((part e ++ flat_map part es) ++ rest) (part e ++ (flat_map part es ++ rest)) (append_assoc (part e) (flat_map part es) rest) so_far in
      let next = one-more count (begun ts t) (begun ts u) e (flat_map part es ++ rest) here short.0 (entry-taken ts t e member (omega (arith, all))) in
      let long = length-append t.entries (e ∷ []) in
      let later = with-entries ts es (suc count) u rest short.1 (λ client. absurd (both (is_client t) member client)) (omega (arith, long, all)) next in
      let moved = as-count (length es + suc count) (length (e ∷ es) + count) (begun ts (record u { entries = u.entries ++ es })) rest (omega arith) later in
      as-read (length (e ∷ es) + count) (begun ts (record u { entries = u.entries ++ es })) (begun ts (record t { entries = t.entries ++ e ∷ es })) rest
      (ap (λ (xs : List (List ℕ)). begun ts (record t { entries = xs })) (append_assoc t.entries (e ∷ []) es)) moved

  with-events : (ts : List Recorded) (es : List TrailEvent) (count : ℕ) (t : Recorded) (rest : List ℕ) → Each IsWithin es → (is_client t ≡ true → Each (λ e. may_happen e ≡ true) es)
      → t.opening.entries ≤ length t.entries → ComesTo bytes count (begun ts t) (events_text es ++ rest) → ComesTo bytes (length es + count) (begun ts (record t { events = t.events ++ es })) rest
  with-events ts [] count t rest within may all so_far =
      as-count count (length {A = TrailEvent} [] + count) (begun ts (record t { events = t.events ++ [] })) rest (omega arith)
      (as-read count (begun ts t) (begun ts (record t { events = t.events ++ [] })) rest (ap (λ (xs : List TrailEvent). begun ts (record t { events = xs })) (sym (append-nil t.events))) so_far)
  with-events ts (e ∷ es) count t rest within may all so_far =
      let u : Recorded = with_event t e in
      let here =
      as-left count (begun ts t) ((part (event_text e) ++ events_text es) ++ rest) (part (event_text e) ++ (events_text es ++ rest)) (append_assoc (part (event_text e)) (events_text es) rest) so_far in
      let next =
      one-more count (begun ts t) (begun ts u) (event_text e) (events_text es ++ rest) here within.0.short
      (event-taken ts t e false within.0.goes_on (events.spelling-is e within.0.fits) all (λ client. (may client).0)) in
      let later = with-events ts es (suc count) u rest within.1 (λ client. (may client).1) all next in
      let moved = as-count (length es + suc count) (length (e ∷ es) + count) (begun ts (record u { events = u.events ++ es })) rest (omega arith) later in
      as-read (length (e ∷ es) + count) (begun ts (record u { events = u.events ++ es })) (begun ts (record t { events = t.events ++ e ∷ es })) rest
      (ap (λ (xs : List TrailEvent). begun ts (record t { events = xs })) (append_assoc t.events (e ∷ []) es)) moved

-- ---- a trail

-- the parts of events, and that of the last one
events-last : (es : List TrailEvent) → events_text (es ++ End ∷ []) ≡ events_text es ++ (part (event_text End) ++ [])
events-last [] = refl
events-last (e ∷ es) = ap (λ (text : List ℕ). part (event_text e) ++ text) (events-last es) ∙ sym (append_assoc (part (event_text e)) (events_text es) (part (event_text End) ++ []))

short-end : IsShort (event_text End)
unfolding event_text
short-end = omega arith

-- the parts of a trail, one by one, before others
abbrev in_parts : TrailOpening → List (List ℕ) → List TrailEvent → List ℕ → List ℕ
in_parts o entries es rest = part (opening_text o) ++ (flat_map part entries ++ (events_text es ++ (part (event_text End) ++ rest)))

text-is : (t : Recorded) (es : List TrailEvent) (rest : List ℕ) → t.events ≡ es ++ End ∷ [] → text_of t ++ rest ≡ in_parts t.opening t.entries es rest
text-is t es rest ends =
    let o : List ℕ = part (opening_text t.opening) in
    let entries : List ℕ = flat_map part t.entries in
    let end : List ℕ = part (event_text End) in
    ap (λ (xs : List TrailEvent). (o ++ (entries ++ events_text xs)) ++ rest) ends
    ∙ (ap (λ (text : List ℕ). (o ++ (entries ++ text)) ++ rest) (events-last es)
    ∙ (ap (λ (text : List ℕ). (o ++ (entries ++ (events_text es ++ text))) ++ rest) (append-nil end)
    ∙ (append_assoc o (entries ++ (events_text es ++ end)) rest
    ∙ ap (λ (text : List ℕ). o ++ text) (append_assoc entries (events_text es ++ end) rest ∙ ap (λ (text : List ℕ). entries ++ text) (append_assoc (events_text es) end rest)))))

module _ (bytes : List ℕ) (ts : List Recorded) (t : Recorded) (written : IsWritten t) (new : is_known ts t.opening.member ≡ false) (before : ℕ) (rest : List ℕ)
    (so_far : ComesTo bytes before (whole ts) (text_of t ++ rest)) where
  abbrev end_and_rest : List ℕ
  end_and_rest = part (event_text End) ++ rest

  abbrev behind_entries : List ℕ
  behind_entries = events_text written.events ++ end_and_rest

  abbrev opened : Recorded
  opened = beginning t.opening

  abbrev entered : Recorded
  entered = record { opening = t.opening; entries = t.entries; events = [] }

  abbrev going : Recorded
  going = record { opening = t.opening; entries = t.entries; events = written.events }

  at-opening : ComesTo bytes (suc before) (begun ts opened) (flat_map part t.entries ++ behind_entries)
  at-opening =
      one-more bytes before (whole ts) (begun ts opened) (opening_text t.opening) (flat_map part t.entries ++ behind_entries)
      (as-left bytes before (whole ts) (text_of t ++ rest) (in_parts t.opening t.entries written.events rest) (text-is t written.events rest written.ends) so_far) written.short
      (opening-taken ts t.opening new (openings.spelling-is t.opening written.opening))

  at-entries : ComesTo bytes (length t.entries + suc before) (begun ts entered) behind_entries
  at-entries =
      let all = written.entries in
      with-entries bytes ts t.entries (suc before) opened behind_entries written.texts written.none (omega (arith, all)) at-opening

  at-events : ComesTo bytes (length written.events + (length t.entries + suc before)) (begun ts going) end_and_rest
  at-events =
      let all = written.entries in
      with-events bytes ts written.events (length t.entries + suc before) entered end_and_rest written.within written.may (omega (arith, all)) at-entries

  at-end : ComesTo bytes (suc (length written.events + (length t.entries + suc before))) (whole (ts ++ with_event going End ∷ [])) rest
  at-end =
      let all = written.entries in
      one-more bytes (length written.events + (length t.entries + suc before)) (begun ts going) (whole (ts ++ with_event going End ∷ [])) (event_text End) rest at-events short-end
      (event-taken ts going End true refl (events.spelling-is End tt) (omega (arith, all)) (λ client. refl))

  same : with_event going End ≡ t
  same = ap (λ (es : List TrailEvent). record { opening = t.opening; entries = t.entries; events = es }) (sym written.ends)

  counted : suc (length written.events + (length t.entries + suc before)) ≡ part_count t + before
  counted =
      let long = ap (λ (es : List TrailEvent). length es) written.ends in
      let added = length-append written.events (End ∷ []) in
      omega (arith, long, added)

  trail-read : ComesTo bytes (part_count t + before) (whole (ts ++ t ∷ [])) rest
  trail-read =
      as-read bytes (part_count t + before) (whole (ts ++ with_event going End ∷ [])) (whole (ts ++ t ∷ [])) rest (ap (λ (u : Recorded). whole (ts ++ u ∷ [])) same)
      (as-count bytes (suc (length written.events + (length t.entries + suc before))) (part_count t + before) (whole (ts ++ with_event going End ∷ [])) rest counted at-end)

-- ---- trails

trails-read : (bytes : List ℕ) (us ts : List Recorded) (before : ℕ) → Each IsWritten us → AreApart ts us → ComesTo bytes before (whole ts) (texts_of us) → ComesTo bytes (parts_of us + before) (whole (ts ++ us)) []
trails-read bytes [] ts before written apart so_far =
    as-count bytes before (parts_of [] + before) (whole (ts ++ [])) [] (omega arith) (as-read bytes before (whole ts) (whole (ts ++ [])) [] (ap whole (sym (append-nil ts))) so_far)
trails-read bytes (u ∷ us) ts before written apart so_far =
    let here = trail-read bytes ts u written.0 apart.0 before (texts_of us) so_far in
    let later = trails-read bytes us (ts ++ u ∷ []) (part_count u + before) written.1 apart.1 here in
    as-read bytes (parts_of (u ∷ us) + before) (whole ((ts ++ u ∷ []) ++ us)) (whole (ts ++ u ∷ us)) [] (ap whole (append_assoc ts (u ∷ []) us))
    (as-count bytes (parts_of us + (part_count u + before)) (parts_of (u ∷ us) + before) (whole ((ts ++ u ∷ []) ++ us)) [] (omega arith) later)

all-begin : (trails : List Recorded) → Each IsWritten trails → Each CanBegin trails
all-begin [] written = tt
all-begin (t ∷ ts) written = (written.0.begins, all-begin ts written.1)

some-parts : (trails : List Recorded) → 0 < length trails → 0 < parts_of trails
some-parts [] some = absurd (omega (arith, some))
some-parts (t ∷ ts) some = omega arith

pub written-read : (trails : List Recorded) → AreWritten trails → AreRead (texts_of trails) trails
unfolding parts_read
written-read trails written =
    let read : ComesTo (texts_of trails) (parts_of trails + 0) (whole trails) [] = trails-read (texts_of trails) trails [] 0 written.each written.apart (record { at = 0; is = refl }) in
    let few = written.few in
    record {
      count = parts_of trails + 0;
      some = let least = some-parts trails written.some in omega (arith, least);
      few = omega (arith, few);
      last = record { at = read.at; left = [] };
      reached = read.is;
      all = refl;
      begin = all-begin trails written.each;
    }
