-- How a reader goes on in a log.
use Rattle.std.proofs.Common.{◌≡◌, ℕ, ◌+◌, ◌-◌, ◌*◌, ◌%◌, ◌<◌, ◌≤◌, ◌==◌, Bool, true, false, not, get_or, List, [], ◌∷◌, ◌++◌, length, take, drop, Option, Some, None, unwrap_or, min, refl, sym, ap, subst, ◌∙◌, append_assoc, arith, true≢false, length-append, length-drop, take_at, drop_at, drop-drop, get_or-drop}
use Rattle.std.proofs.lemmas.Grind.{flat_map-append}
use Rattle.std.proofs.lemmas.List.{append-nil, nil_from_length, drop_all}
use Rattle.std.specs.Int.{w8, w32, to_be_bytes, from_be_bytes}
use Rattle.smart_base.specs.Lists.{Each}
use Rattle.smart_base.specs.Spelling.{behind}
use Rattle.smart_base.specs.Laws.{wide32}
use Rattle.store_form.specs.Spelling.{Group, group_text, IsEntry}
use Rattle.batch_log.specs.Log.{log_bytes, AreGroups, restored_by, restored}
use Rattle.batch_log.specs.Exact.{end_opened}
use Rattle.batch_log.proofs.Restored.{restored_is, groups_by, length-groups, length-push}
use Rattle.batch_log.proofs.Spelled.{pushed}
use Rattle.disk_model.specs.Cells.{Cells}
use Rattle.log_stream.specs.declared.reader.LogReader.{LogReader}
use Rattle.log_stream.specs.declared.window.Window.{Window}
use Rattle.log_stream.specs.Windows.{Shows, IsAt}
use Rattle.log_stream.specs.Walks.{texts, Whole}
use Rattle.log_stream.specs.Stream.{entries_of, entries_in, to_come, Place, IsEnd, Reads, HasRead}
use Rattle.log_stream.proofs.Walks.{texts_long}

-- ---- the begin

pub place_first : (bytes : List ℕ) → Place bytes 0 0 0 0
place_first bytes = record { groups = []; fit = tt; are = refl; ends = refl; given = []; coming = []; parts = refl; gave = refl; gives = refl; each = tt; there = refl }

-- a place, told with other numbers
pub place_is : (bytes : List ℕ) (at left end count there less to given : ℕ) → there ≡ at → less ≡ left → to ≡ end → given ≡ count → Place bytes at left end count → Place bytes there less to given
place_is bytes at left end count there less to given a b c d p =
    subst (λ (n : ℕ). Place bytes there less to n) (sym d) (subst (λ (n : ℕ). Place bytes there less n count) (sym c) (subst (λ (n : ℕ). Place bytes there n end count) (sym b) (subst (λ (n : ℕ). Place bytes n left end count) (sym a) p)))

-- ---- a gate

module _ (bytes : List ℕ) (end : ℕ) where
  pub gate_there : (gate : ℕ) → IsAt w8 bytes end (Some gate) → drop end bytes ≡ gate ∷ drop (end + 1) bytes
  gate_there gate is =
      let fits : gate < 256 = is.0 in
      let byte : to_be_bytes w8 gate ≡ gate ∷ [] = one gate fits in
      is.1 ∙ ap (λ (l : List ℕ). l ++ drop (end + 1) bytes) byte
    where
      one : (n : ℕ) → n < 256 → to_be_bytes w8 n ≡ n ∷ []
      one n fits = let same : n % 256 ≡ n = omega (arith, fits) in ap (λ (x : ℕ). x ∷ []) same

-- ---- the entries that are restored

-- what was given and what is left of the groups that were walked over, and then more
entries_front : (bytes : List ℕ) (at left end count : ℕ) → (p : Place bytes at left end count) → (more : Group) × (entries_in bytes ≡ p.given ++ (p.coming ++ more))
entries_front bytes at left end count p =
    let m = length bytes - length p.groups in
    let more : List Group = restored_by m (drop end bytes) in
    let enough : length bytes ≡ length p.groups + m = omega (arith, ap length p.are, length-append (log_bytes p.groups) (drop end bytes), length-groups p.groups) in
    let groups : restored bytes ≡ p.groups ++ more = ap (λ (l : List ℕ). restored_by (length bytes) l) p.are ∙ groups_by p.groups (drop end bytes) (length bytes) m p.fit enough in (
      entries_of more,
      ap entries_of groups ∙ flat_map-append (λ (g : Group). g) p.groups more ∙ ap (λ (l : Group). l ++ entries_of more) p.parts ∙ append_assoc p.given p.coming (entries_of more),
    )

-- ---- all was given

module _ (bytes : List ℕ) (at left end count : ℕ) (torn : Bool) (p : Place bytes at left end count) (none : left ≡ 0) (e : IsEnd bytes end torn) where
  pub all_groups : restored bytes ≡ p.groups
  all_groups = ap restored p.are ∙ restored_is p.groups (drop end bytes) p.fit e.nothing

  all_given : entries_in bytes ≡ p.given
  all_given =
      let nothing : p.coming ≡ [] = nil_from_length p.coming (p.gives ∙ none) in
      ap entries_of all_groups ∙ p.parts ∙ ap (λ (l : Group). p.given ++ l) nothing ∙ append-nil p.given

  pub read_count : count ≡ length (entries_in bytes)
  read_count = sym (ap length all_given ∙ p.gave)

  pub read_all : drop count (entries_in bytes) ≡ []
  read_all = drop_all count (entries_in bytes) (omega (arith, read_count))

  pub read_end : end ≡ end_opened bytes
  read_end = p.ends ∙ ap (λ (gs : List Group). length (log_bytes gs)) (sym all_groups)

  pub read_torn : torn ≡ not (get_or bytes (end_opened bytes) 1 == 0)
  read_torn =
      let same : end + 0 ≡ end_opened bytes = omega (arith, read_end) in
      e.gate ∙ ap (λ (b : ℕ). not (b == 0)) (get_or-drop end bytes 0 1 ∙ ap (λ (n : ℕ). get_or bytes n 1) same)

  pub read_are : bytes ≡ log_bytes (restored bytes) ++ drop end bytes
  read_are = p.are ∙ ap (λ (gs : List Group). log_bytes gs ++ drop end bytes) (sym all_groups)

  pub read_fit : AreGroups (restored bytes)
  read_fit = subst (λ (gs : List Group). AreGroups gs) (sym all_groups) p.fit

pub has_read : (bytes : List ℕ) (reader : LogReader) → Reads bytes reader → reader.left ≡ 0 → reader.ended ≡ true → HasRead bytes reader
has_read bytes reader r none ended =
    let e = r.over ended in
    record {
      all = read_all bytes reader.at reader.left reader.end reader.restored reader.torn r.place none e;
      count = read_count bytes reader.at reader.left reader.end reader.restored reader.torn r.place none e;
      end = read_end bytes reader.at reader.left reader.end reader.restored reader.torn r.place none e;
      torn = read_torn bytes reader.at reader.left reader.end reader.restored reader.torn r.place none e;
      are = read_are bytes reader.at reader.left reader.end reader.restored reader.torn r.place none e;
      fit = read_fit bytes reader.at reader.left reader.end reader.restored reader.torn r.place none e;
      nothing = e.nothing;
    }

-- ---- one group more

pub place_further : (bytes : List ℕ) (at left end count gate many to : ℕ) → Place bytes at left end count → left ≡ 0 → IsAt w8 bytes end (Some gate) → gate ≡ 1 → Whole bytes end many to → Place bytes (end + 17) many to count
place_further bytes at left end count gate many to p none is one w =
    let there : drop end bytes ≡ 1 ∷ drop (end + 1) bytes = gate_there bytes end gate is ∙ ap (λ (n : ℕ). n ∷ drop (end + 1) bytes) one in
    let read : drop end bytes ≡ 1 ∷ (group_text w.group ++ drop to bytes) = there ∙ ap (λ (l : List ℕ). 1 ∷ l) w.are in
    let both = pushed p.groups w.group bytes (drop end bytes) (drop to bytes) p.are p.fit read w.fits in
    let nothing : p.coming ≡ [] = nil_from_length p.coming (p.gives ∙ none) in
    record {
      groups = p.groups ++ w.group ∷ [];
      fit = both.1;
      are = both.0;
      ends = omega (arith, w.goes_to, p.ends, length-push p.groups w.group);
      given = p.given;
      coming = w.group;
      parts =
          flat_map-append (λ (g : Group). g) p.groups (w.group ∷ []) ∙ ap (λ (l : Group). entries_of p.groups ++ l) (append-nil w.group)
          ∙ ap (λ (l : Group). l ++ w.group) (p.parts ∙ ap (λ (l : Group). p.given ++ l) nothing ∙ append-nil p.given);
      gave = p.gave;
      gives = w.many;
      each = w.fits.each;
      there = w.entries;
    }

-- ---- one entry more

-- the length that is read is that of the entry
size_is : (bytes : List ℕ) (at : ℕ) (e more : List ℕ) (o : Option ℕ) → drop at bytes ≡ behind w32 e ++ more → IsEntry e → IsAt w32 bytes at o → unwrap_or o 0 ≡ length e
size_is bytes at e more None there fits is = absurd (omega (arith, is, ap length there, length-append (behind w32 e) more, length-append (to_be_bytes w32 (length e)) e))
size_is bytes at e more (Some n) there fits is =
    let same : to_be_bytes w32 n ++ drop (at + 4) bytes ≡ to_be_bytes w32 (length e) ++ (e ++ more) = sym is.1 ∙ there ∙ append_assoc (to_be_bytes w32 (length e)) e more in
    let front : to_be_bytes w32 n ≡ to_be_bytes w32 (length e) = sym (take_at (to_be_bytes w32 n) (drop (at + 4) bytes) 4 refl) ∙ ap (take 4) same ∙ take_at (to_be_bytes w32 (length e)) (e ++ more) 4 refl in
    sym (wide32.again n is.0) ∙ ap (from_be_bytes w32) front ∙ wide32.again (length e) fits

-- the bytes after the length
entry_is : (bytes : List ℕ) (at : ℕ) (e more : List ℕ) → drop at bytes ≡ behind w32 e ++ more → (drop (at + 4) bytes ≡ e ++ more) × (drop (at + 4 + length e) bytes ≡ more)
entry_is bytes at e more there =
    let after : drop (at + 4) bytes ≡ e ++ more = sym (drop-drop 4 at bytes) ∙ ap (drop 4) (there ∙ append_assoc (to_be_bytes w32 (length e)) e more) ∙ drop_at (to_be_bytes w32 (length e)) (e ++ more) 4 refl in
    (after, sym (drop-drop (length e) (at + 4) bytes) ∙ ap (drop (length e)) after ∙ drop_at e more (length e) refl)

-- the place after an entry was given
pub record Gives (bytes : List ℕ) (end count : ℕ) (entry : List ℕ) (next less : ℕ) : Type 0 where
  pub place : Place bytes next less end (count + 1)
  pub comes : drop count (entries_in bytes) ≡ entry ∷ drop (count + 1) (entries_in bytes)

pub place_gives : (bytes : List ℕ) (at left end count size : ℕ) (o : Option ℕ) (entry : List ℕ) (next less : ℕ) → Place bytes at left end count → 0 < left → at + 4 * left ≤ end → end ≤ length bytes
    → IsAt w32 bytes at o → size ≡ min (unwrap_or o 0) (end - at - 4 * left) → entry ≡ take size (drop (at + 4) bytes) → next ≡ at + 4 + size → less + 1 ≡ left → Gives bytes end count entry next less
place_gives bytes at left end count size o entry next less p some room inside is least read goes falls = by p.coming refl
  where
    by : (coming : Group) → p.coming ≡ coming → Gives bytes end count entry next less
    by [] same = absurd (omega (arith, some, p.gives, ap length same))
    by (e ∷ es) same =
        let fits : IsEntry e × Each IsEntry es = subst (λ (l : Group). Each IsEntry l) same p.each in
        let front = entries_front bytes at left end count p in
        let whole : entries_in bytes ≡ p.given ++ (e ∷ (es ++ front.0)) = front.1 ∙ ap (λ (l : Group). p.given ++ (l ++ front.0)) same in
        let more = texts es ++ drop end bytes in
        let there : drop at bytes ≡ behind w32 e ++ more = p.there ∙ ap (λ (l : Group). texts l ++ drop end bytes) same ∙ append_assoc (behind w32 e) (texts es) (drop end bytes) in
        let parts = entry_is bytes at e more there in
        let many : length es ≡ less = omega (arith, falls, p.gives, ap length same) in
        let long : 4 + length e + (length (texts es) + length (drop end bytes)) ≡ length (drop at bytes) = omega (arith, ap length there, length-append (behind w32 e) more, length-append (to_be_bytes w32 (length e)) e, length-append (texts es) (drop end bytes)) in
        let sized : size ≡ length e = omega (arith, least, size_is bytes at e more o there fits.0 is, room, inside, falls, many, texts_long es, long, length-drop at bytes, length-drop end bytes) in
        let entry_same : entry ≡ e = read ∙ ap (λ (n : ℕ). take n (drop (at + 4) bytes)) sized ∙ ap (take (length e)) parts.0 ∙ take_at e more (length e) refl in
        let after : drop next bytes ≡ more = ap (λ (n : ℕ). drop n bytes) (goes ∙ ap (λ (n : ℕ). at + 4 + n) sized) ∙ parts.1 in
        let gave : length (p.given ++ e ∷ []) ≡ count + 1 = omega (arith, length-append p.given (e ∷ []), p.gave) in
        let behind_one : entries_in bytes ≡ (p.given ++ e ∷ []) ++ (es ++ front.0) = whole ∙ sym (append_assoc p.given (e ∷ []) (es ++ front.0)) in
        record {
          place = record {
            groups = p.groups;
            fit = p.fit;
            are = p.are;
            ends = p.ends;
            given = p.given ++ e ∷ [];
            coming = es;
            parts = p.parts ∙ ap (λ (l : Group). p.given ++ l) same ∙ sym (append_assoc p.given (e ∷ []) es);
            gave = gave;
            gives = many;
            each = fits.1;
            there = after;
          };
          comes =
              ap (drop count) whole ∙ drop_at p.given (e ∷ (es ++ front.0)) count p.gave ∙ ap (λ (x : List ℕ). x ∷ (es ++ front.0)) (sym entry_same)
              ∙ ap (λ (l : Group). entry ∷ l) (sym (ap (drop (count + 1)) behind_one ∙ drop_at (p.given ++ e ∷ []) (es ++ front.0) (count + 1) gave));
        }

-- ---- the reader, over a device that was read since

pub to_come_still : (old new : Cells) (was is : LogReader) → new ≡ old → is.restored ≡ was.restored → to_come old.now was ≡ to_come new.now is
to_come_still old new was is same count = ap (λ (s : Cells). drop was.restored (entries_in s.now)) (sym same) ∙ ap (λ (n : ℕ). drop n (entries_in new.now)) (sym count)

-- a reader that has come further
module _ (old new : Cells) (was is : LogReader) (same : new ≡ old) (place : Place old.now is.at is.left is.end is.restored) (long : is.length ≡ was.length) (shows : Shows new.now is.window) (r : Reads old.now was) (goes_on : is.ended ≡ false) where
  pub reads_further : Reads new.now is
  reads_further = record {
    place = subst (λ (s : Cells). Place s.now is.at is.left is.end is.restored) (sym same) place;
    shows = shows;
    long = long ∙ r.long ∙ ap (λ (s : Cells). length s.now) (sym same);
    over = λ is_over. absurd (true≢false (sym is_over ∙ goes_on));
  }

-- ---- an entry is given

-- the reader after an entry of so many bytes
pub record Goes (was is : LogReader) (window : Window) (size : ℕ) : Type 0 where
  pub shown : is.window ≡ window
  pub at : is.at ≡ was.at + 4 + size
  pub left : is.left + 1 ≡ was.left
  pub end : is.end ≡ was.end
  pub restored : is.restored ≡ was.restored + 1
  pub ended : is.ended ≡ was.ended
  pub long : is.length ≡ was.length

some_left : (over : Bool) (left : ℕ) → (over ≡ true → left ≡ 0) → 0 < left → over ≡ false
some_left true left none some = absurd (omega (arith, none refl, some))
some_left false left none some = refl

module _ (s0 s1 s2 : Cells) (was is : LogReader) (window : Window) (found : Option ℕ) (size : ℕ) (entry : List ℕ) (r : Reads s0.now was) (some : 0 < was.left) (same : s1 ≡ s0) (same_too : s2 ≡ s1) (sized : IsAt w32 s0.now was.at found)
    (least : size ≡ min (unwrap_or found 0) (was.end - was.at - 4 * was.left)) (read : entry ≡ take size (drop (was.at + 4) s1.now)) (shows : Shows s1.now window) (goes : Goes was is window size) where
  gives : Gives s0.now was.end was.restored entry is.at is.left
  gives =
      let inside : was.end ≤ length s0.now = omega (arith, was.inside, r.long) in
      place_gives s0.now was.at was.left was.end was.restored size found entry is.at is.left r.place some was.room inside sized least
      (read ∙ ap (λ (s : Cells). take size (drop (was.at + 4) s.now)) same) goes.at goes.left

  pub give_reads : Reads s2.now is
  give_reads =
      let there : Shows s2.now window = subst (λ (s : Cells). Shows s.now window) (sym same_too) shows in
      reads_further s0 s2 was is (same_too ∙ same) (place_is s0.now is.at is.left was.end (was.restored + 1) is.at is.left is.end is.restored refl refl goes.end goes.restored gives.place) goes.long
      (subst (λ (w : Window). Shows s2.now w) (sym goes.shown) there) r (goes.ended ∙ some_left was.ended was.left was.over some)

  pub give_comes : to_come s0.now was ≡ entry ∷ to_come s2.now is
  give_comes = gives.comes ∙ ap (λ (l : List (List ℕ)). entry ∷ l) (ap (λ (s : Cells). drop (was.restored + 1) (entries_in s.now)) (sym (same_too ∙ same)) ∙ ap (λ (n : ℕ). drop n (entries_in s2.now)) (sym goes.restored))
