-- Bytes that are taken, one line after the other.
use Rattle.std.proofs.Common.{Bool, eqb-true, ◌≡◌, ◌<◌, ◌≤◌, ◌++◌, ◌==◌, ◌∙◌, ℕ, zero, suc, drop, length, get_or, arith, true, false, List, [], ◌∷◌, Option, None, Some, is_some, take, refl, ap, sym, subst, append_assoc, inl, inr}
use Rattle.std.proofs.lemmas.List.{append-nil, length-append}
use Rattle.std.specs.Io.KnownBytes.{Appends, Keeps}
use Rattle.world_rules.specs.Texts.{text_of}
use Rattle.smart_top.specs.declared.reader.Halt.{Halt}
use Rattle.smart_top.specs.declared.reader.Halt.TheVariants as halts
use Rattle.script_play.specs.Apps.{Courses}
use Rattle.script_play.specs.Readings.{Reading, unread, whole_lines, rest_of, line_taken, line_told, reading_after, told_after}
use Rattle.smart_top.specs.Feeds.{text_after, script_after, HasTaken, HasRefused, HasBroken, HasTold, Within, Halted}
use Rattle.script_play.proofs.LongLines.{IsLong, long-refused}
use Rattle.script_play.proofs.ReadingCounts.{taken-counts}
use Rattle.script_play.proofs.ReadingLaws.{after-append, told-append, text-append, whole-feed, whole-more, rest-feed, rest-more, front_behind}

-- what was written

pub appends-then : (a b c : Option (List ℕ)) (xs ys : List ℕ) → Appends a b xs → Appends b c ys → Appends a c (xs ++ ys)
appends-then None b c xs ys first next = tt
appends-then (Some a) None c xs ys first next = absurd first
appends-then (Some a) (Some b) None xs ys first next = absurd next
appends-then (Some a) (Some b) (Some c) xs ys first next = next ∙ (ap (λ zs. zs ++ ys) first ∙ append_assoc a xs ys)

-- a line that ends

pub script-feed : (courses : Courses) (bytes : List ℕ) → script_after courses (bytes ++ 10 ∷ []) ≡ line_taken courses (script_after courses bytes) (rest_of [] bytes)
script-feed courses bytes =
    ap (λ ls. reading_after courses unread ls) (whole-feed [] bytes 10 refl) ∙ after-append courses unread (whole_lines [] bytes) (rest_of [] bytes ∷ [])

pub text-feed : (courses : Courses) (bytes : List ℕ)
    → text_after courses (bytes ++ 10 ∷ []) ≡ text_after courses bytes ++ text_of (line_told courses (script_after courses bytes) (rest_of [] bytes))
text-feed courses bytes =
    ap (λ ls. text_of (told_after courses unread ls)) (whole-feed [] bytes 10 refl)
    ∙ (ap text_of (told-append courses unread (whole_lines [] bytes) (rest_of [] bytes ∷ []))
    ∙ (text-append (told_after courses unread (whole_lines [] bytes)) _
    ∙ ap (λ text. text_after courses bytes ++ text) (ap text_of (append-nil (line_told courses (script_after courses bytes) (rest_of [] bytes))))))

-- what a line tells behind bytes that were taken
told-line : (courses : Courses) (bytes line : List ℕ) (script : Reading) → line ≡ rest_of [] bytes → script ≡ script_after courses bytes
    → text_after courses bytes ++ text_of (line_told courses script line) ≡ text_after courses (bytes ++ 10 ∷ [])
told-line courses bytes line script line_is script_is =
    ap (λ text. text_after courses bytes ++ text_of text)
    (ap (λ (r : Reading). line_told courses r line) script_is ∙ ap (λ l. line_told courses (script_after courses bytes) l) line_is)
    ∙ sym (text-feed courses bytes)

taken-line : (courses : Courses) (bytes line : List ℕ) (script : Reading) → line ≡ rest_of [] bytes → script ≡ script_after courses bytes
    → line_taken courses script line ≡ script_after courses (bytes ++ 10 ∷ [])
taken-line courses bytes line script line_is script_is =
    ap (λ (r : Reading). line_taken courses r line) script_is ∙ (ap (λ l. line_taken courses (script_after courses bytes) l) line_is ∙ sym (script-feed courses bytes))

-- a line that was played and told
pub line-played : (courses : Courses) (bytes : List ℕ) (written now now' : Option (List ℕ)) (line line' : List ℕ) (script script' : Reading)
    → HasTaken courses bytes written now line script → script' ≡ line_taken courses script line → script'.refused ≡ None → line' ≡ [] → Appends now now' (text_of (line_told courses script line))
    → HasTaken courses (bytes ++ 10 ∷ []) written now' line' script'
line-played courses bytes written now now' line line' script script' taken is going ended told =
    let count : script'.count ≡ (line_taken courses script line).count = ap (λ (r : Reading). r.count) is in
    let counts = taken-counts courses script line (ap (λ (r : Reading). r.refused) (sym is) ∙ going) in
    record {
      line_is = ended ∙ sym (rest-feed [] bytes 10 refl);
      script_is = is ∙ taken-line courses bytes line script taken.line_is taken.script_is;
      going = going;
      text = subst (λ text. Appends written now' text) (told-line courses bytes line script taken.line_is taken.script_is)
          (appends-then written now now' (text_after courses bytes) (text_of (line_told courses script line)) taken.text told);
      short = omega (arith, ap (λ l. length l) ended);
      within = omega (arith, counts.0, counts.1, count);
      few = omega (arith, counts.0, count, taken.few, taken.short, length-append bytes (10 ∷ []));
    }

-- a line that was refused
pub line-refused : (courses : Courses) (bytes : List ℕ) (written now now' : Option (List ℕ)) (line : List ℕ) (script script' : Reading)
    → HasTaken courses bytes written now line script → script'.refused ≡ (line_taken courses script line).refused → script'.count ≡ (line_taken courses script line).count → is_some script'.refused ≡ true
    → Appends now now' (text_of (line_told courses script line))
    → Within bytes (10 ∷ []) (λ taken. HasRefused courses taken written now' script')
line-refused courses bytes written now now' line script script' taken refused count is told =
    let same = taken-line courses bytes line script taken.line_is taken.script_is in
    record {
      front = 10 ∷ [];
      rest = [];
      split = refl;
      holds = record {
        closed = bytes ++ 10 ∷ [];
        closes = inl refl;
        refused = refused ∙ ap (λ (r : Reading). r.refused) same;
        count = count ∙ ap (λ (r : Reading). r.count) same;
        is = is;
        text = subst (λ text. Appends written now' text) (told-line courses bytes line script taken.line_is taken.script_is)
            (appends-then written now now' (text_after courses bytes) (text_of (line_told courses script line)) taken.text told);
      };
    }

-- a line of which only a front was written
pub line-broken : (courses : Courses) (bytes : List ℕ) (written now now' : Option (List ℕ)) (line : List ℕ) (script : Reading) (count : ℕ)
    → HasTaken courses bytes written now line script → Appends now now' (take count (text_of (line_told courses script line)))
    → Within bytes (10 ∷ []) (λ taken. HasBroken courses taken written now')
line-broken courses bytes written now now' line script count taken told =
    let more = front_behind (text_after courses bytes) (text_of (line_told courses script line)) [] count in
    let whole = ap (λ text. text_after courses bytes ++ text) (append-nil (text_of (line_told courses script line))) ∙ told-line courses bytes line script taken.line_is taken.script_is in
    record {
      front = 10 ∷ [];
      rest = [];
      split = refl;
      holds = record {
        closed = bytes ++ 10 ∷ [];
        closes = inl refl;
        count = more.0;
        text = subst (λ text. Appends written now' text) (sym more.1 ∙ ap (λ text. take more.0 text) whole)
            (appends-then written now now' (text_after courses bytes) (take count (text_of (line_told courses script line))) taken.text told);
      };
    }

-- nothing of a line was written
pub line-unwritten : (courses : Courses) (bytes piece : List ℕ) (written now now' : Option (List ℕ)) (line : List ℕ) (script : Reading)
    → HasTaken courses bytes written now line script → now' ≡ now → Within bytes piece (λ taken. HasTold courses taken written now')
line-unwritten courses bytes piece written now now' line script taken same =
    record {
      front = [];
      rest = piece;
      split = refl;
      holds = record { text = subst (λ text. Appends written now' text) (ap (λ b. text_after courses b) (sym (append-nil bytes))) (subst (λ w. Appends written w (text_after courses bytes)) (sym same) taken.text) };
    }

-- a line that was not written whole
pub line-halted : (courses : Courses) (bytes : List ℕ) (written now now' : Option (List ℕ)) (line : List ℕ) (script script' : Reading) (halt : Halt)
    → HasTaken courses bytes written now line script → (halt ≡ halts.Refused → ⊥) → (halt ≡ halts.NoMemory → now' ≡ now) → (count : ℕ) × Appends now now' (take count (text_of (line_told courses script line)))
    → Halted courses bytes (10 ∷ []) written now' script' halt
line-halted courses bytes written now now' line script script' halts.Refused taken never same told = absurd (never refl)
line-halted courses bytes written now now' line script script' halts.WriteFault taken never same told = line-broken courses bytes written now now' line script told.0 taken told.1
line-halted courses bytes written now now' line script script' halts.SinkMemory taken never same told = line-broken courses bytes written now now' line script told.0 taken told.1
line-halted courses bytes written now now' line script script' halts.NoMemory taken never same told = line-unwritten courses bytes (10 ∷ []) written now now' line script taken (same refl)

-- a byte that ends no line

byte-line : (bytes line line' : List ℕ) (b : ℕ) → (b == 10) ≡ false → line' ≡ line ++ b ∷ [] → line ≡ rest_of [] bytes → line' ≡ rest_of [] (bytes ++ b ∷ [])
byte-line bytes line line' b other more is = more ∙ (ap (λ l. l ++ b ∷ []) is ∙ sym (rest-more [] bytes b other))

byte-script : (courses : Courses) (bytes : List ℕ) (b : ℕ) → (b == 10) ≡ false → script_after courses bytes ≡ script_after courses (bytes ++ b ∷ [])
byte-script courses bytes b other = ap (λ ls. reading_after courses unread ls) (sym (whole-more [] bytes b other))

byte-text : (courses : Courses) (bytes : List ℕ) (b : ℕ) → (b == 10) ≡ false → text_after courses bytes ≡ text_after courses (bytes ++ b ∷ [])
byte-text courses bytes b other = ap (λ ls. text_of (told_after courses unread ls)) (sym (whole-more [] bytes b other))

pub byte-taken : (courses : Courses) (bytes : List ℕ) (written now : Option (List ℕ)) (line line' : List ℕ) (script : Reading) (b : ℕ)
    → (b == 10) ≡ false → line' ≡ line ++ b ∷ [] → length line' ≤ 65536 → HasTaken courses bytes written now line script → HasTaken courses (bytes ++ b ∷ []) written now line' script
byte-taken courses bytes written now line line' script b other more short taken =
    record {
      line_is = byte-line bytes line line' b other more taken.line_is;
      script_is = taken.script_is ∙ byte-script courses bytes b other;
      going = taken.going;
      text = subst (λ text. Appends written now text) (byte-text courses bytes b other) taken.text;
      short = short;
      within = taken.within;
      few = omega (arith, taken.few, length-append bytes (b ∷ []), ap (λ l. length l) more, length-append line (b ∷ []));
    }

-- a byte that makes a line too long: what that line tells
byte-told : (courses : Courses) (bytes : List ℕ) (written now : Option (List ℕ)) (line line' : List ℕ) (script : Reading) (b : ℕ)
    → (b == 10) ≡ false → line' ≡ line ++ b ∷ [] → HasTaken courses bytes written now line script
    → text_after courses bytes ++ text_of (line_told courses script line') ≡ text_after courses ((bytes ++ b ∷ []) ++ 10 ∷ [])
byte-told courses bytes written now line line' script b other more taken =
    ap (λ text. text ++ text_of (line_told courses script line')) (byte-text courses bytes b other)
    ∙ told-line courses (bytes ++ b ∷ []) line' script (byte-line bytes line line' b other more taken.line_is) (taken.script_is ∙ byte-script courses bytes b other)

-- it was refused then
pub byte-refused : (courses : Courses) (bytes : List ℕ) (written now now' : Option (List ℕ)) (line line' : List ℕ) (script script' : Reading) (b : ℕ)
    → (b == 10) ≡ false → line' ≡ line ++ b ∷ [] → IsLong line' → HasTaken courses bytes written now line script
    → script'.refused ≡ (line_taken courses script line').refused → script'.count ≡ (line_taken courses script line').count → Appends now now' (text_of (line_told courses script line'))
    → Within bytes (b ∷ []) (λ taken. HasRefused courses taken written now' script')
byte-refused courses bytes written now now' line line' script script' b other more long taken refused count told =
    let begun : List ℕ = bytes ++ b ∷ [] in
    let line_is : line' ≡ rest_of [] begun = byte-line bytes line line' b other more taken.line_is in
    let script_is : script ≡ script_after courses begun = taken.script_is ∙ byte-script courses bytes b other in
    let same : line_taken courses script line' ≡ script_after courses (begun ++ 10 ∷ []) = taken-line courses begun line' script line_is script_is in
    record {
      front = b ∷ [];
      rest = [];
      split = refl;
      holds = record {
        closed = begun ++ 10 ∷ [];
        closes = inr (refl, subst (λ l. IsLong l) line_is long);
        refused = refused ∙ ap (λ (r : Reading). r.refused) same;
        count = count ∙ ap (λ (r : Reading). r.count) same;
        is = ap (λ x. is_some x) refused ∙ long-refused courses script line' long;
        text = subst (λ text. Appends written now' text) (byte-told courses bytes written now line line' script b other more taken)
            (appends-then written now now' (text_after courses bytes) (text_of (line_told courses script line')) taken.text told);
      };
    }

-- only a front of it was written
byte-broken : (courses : Courses) (bytes : List ℕ) (written now now' : Option (List ℕ)) (line line' : List ℕ) (script : Reading) (b count : ℕ)
    → (b == 10) ≡ false → line' ≡ line ++ b ∷ [] → IsLong line' → HasTaken courses bytes written now line script → Appends now now' (take count (text_of (line_told courses script line')))
    → Within bytes (b ∷ []) (λ taken. HasBroken courses taken written now')
byte-broken courses bytes written now now' line line' script b count other more long taken told =
    let front = front_behind (text_after courses bytes) (text_of (line_told courses script line')) [] count in
    let whole = ap (λ text. text_after courses bytes ++ text) (append-nil (text_of (line_told courses script line'))) ∙ byte-told courses bytes written now line line' script b other more taken in
    record {
      front = b ∷ [];
      rest = [];
      split = refl;
      holds = record {
        closed = (bytes ++ b ∷ []) ++ 10 ∷ [];
        closes = inr (refl, subst (λ l. IsLong l) (byte-line bytes line line' b other more taken.line_is) long);
        count = front.0;
        text = subst (λ text. Appends written now' text) (sym front.1 ∙ ap (λ text. take front.0 text) whole)
            (appends-then written now now' (text_after courses bytes) (take count (text_of (line_told courses script line'))) taken.text told);
      };
    }

-- it was not written whole
pub byte-halted : (courses : Courses) (bytes : List ℕ) (written now now' : Option (List ℕ)) (line line' : List ℕ) (script script' : Reading) (b : ℕ) (halt : Halt)
    → (b == 10) ≡ false → line' ≡ line ++ b ∷ [] → IsLong line' → HasTaken courses bytes written now line script → (halt ≡ halts.Refused → ⊥) → (halt ≡ halts.NoMemory → now' ≡ now)
    → (count : ℕ) × Appends now now' (take count (text_of (line_told courses script line'))) → Halted courses bytes (b ∷ []) written now' script' halt
byte-halted courses bytes written now now' line line' script script' b halts.Refused other more long taken never same told = absurd (never refl)
byte-halted courses bytes written now now' line line' script script' b halts.WriteFault other more long taken never same told =
    byte-broken courses bytes written now now' line line' script b told.0 other more long taken told.1
byte-halted courses bytes written now now' line line' script script' b halts.SinkMemory other more long taken never same told =
    byte-broken courses bytes written now now' line line' script b told.0 other more long taken told.1
byte-halted courses bytes written now now' line line' script script' b halts.NoMemory other more long taken never same told = line-unwritten courses bytes (b ∷ []) written now now' line script taken (same refl)

-- a front of a piece behind a front of a longer piece is a front of that
within-later : (bytes front piece rest whole : List ℕ) (P : List ℕ → Type 0) → whole ≡ front ++ (piece ++ rest) → Within (bytes ++ front) piece P → Within bytes whole P
within-later bytes front piece rest whole P split w =
    record {
      front = front ++ w.front;
      rest = w.rest ++ rest;
      split = split ∙ (ap (λ xs. front ++ (xs ++ rest)) w.split ∙ (ap (λ xs. front ++ xs) (append_assoc w.front w.rest rest) ∙ sym (append_assoc front w.front (w.rest ++ rest))));
      holds = subst P (append_assoc bytes front w.front) w.holds;
    }

-- what stopped a piece behind a front of a longer piece stopped that
pub halted-later : (courses : Courses) (bytes front piece rest whole : List ℕ) (written now : Option (List ℕ)) (script : Reading) (halt : Halt)
    → whole ≡ front ++ (piece ++ rest) → Halted courses (bytes ++ front) piece written now script halt → Halted courses bytes whole written now script halt
halted-later courses bytes front piece rest whole written now script halts.Refused split w = within-later bytes front piece rest whole _ split w
halted-later courses bytes front piece rest whole written now script halts.WriteFault split w = within-later bytes front piece rest whole _ split w
halted-later courses bytes front piece rest whole written now script halts.SinkMemory split w = within-later bytes front piece rest whole _ split w
halted-later courses bytes front piece rest whole written now script halts.NoMemory split w = within-later bytes front piece rest whole _ split w

-- a list by one of its values
pub piece-split : (xs : List ℕ) (i d : ℕ) → i < length xs → xs ≡ take i xs ++ ((get_or xs i d ∷ []) ++ drop (suc i) xs)
piece-split [] i d within = absurd (omega arith)
piece-split (x ∷ xs) zero d within = refl
piece-split (x ∷ xs) (suc i) d within = ap (λ ys. x ∷ ys) (piece-split xs i d (omega arith))

-- numbers that differ are found other
pub is_other : (a b : ℕ) → (a ≡ b → ⊥) → (a == b) ≡ false
is_other a b differ = by_test (a == b) (λ same. differ (eqb-true a b same))
  where
    by_test : (t : Bool) → (t ≡ true → ⊥) → t ≡ false
    by_test true never = absurd (never refl)
    by_test false never = refl

pub appends-keeps : (a b c : Option (List ℕ)) (xs : List ℕ) → Appends a b xs → Keeps b c → Appends a c xs
appends-keeps None b c xs first keeps = tt
appends-keeps (Some a) None c xs first keeps = absurd first
appends-keeps (Some a) (Some b) None xs first keeps = absurd keeps
appends-keeps (Some a) (Some b) (Some c) xs first keeps = keeps ∙ first

-- a list is a front of itself
pub take-all : (xs : List ℕ) → take (length xs) xs ≡ xs
take-all [] = refl
take-all (x ∷ xs) = ap (λ ys. x ∷ ys) (take-all xs)
