-- What lasts of a member through its lives: its diary, what it has put aside, and what its store has of all that it has written.
use Rattle.std.proofs.Common.{◌≡◌, ℕ, zero, suc, ◌+◌, ◌-◌, ◌^◌, max, ◌<◌, ◌≤◌, ◌++◌, ◌∙◌, sym, ap, refl, arith, subst, nat_lt, Bool, true, false, not, ◌&&◌, cond, List, [], ◌∷◌, length, take, drop, append-nil, append_assoc, min, length-append, is_some}
use Rattle.std.proofs.lemmas.List.{take-append-drop, take-append-le, drop-append-le, drop-drop, take-take, length-take-le, length-drop, length-map}
use Rattle.std.proofs.Math.Seq.{take-append_seam, drop-append_seam, take-add}
use Rattle.std.specs.Prelude.{map}
use Rattle.smart_base.specs.Lists.{Each}
use Rattle.smart_base.specs.Views.{View}
use Rattle.smart_service.specs.Services.{Meaning}
use Rattle.vote_book.specs.Books.{HasMade, Lawful}
use Rattle.vote_book.specs.Tidy.{IsTidy}
use Rattle.vote_book.specs.Entries.{entry_text}
use Rattle.vote_book.specs.declared.entry.LogEntry.{LogEntry}
use Rattle.vote_book.proofs.Tidy.{front_tidy}
use Rattle.book_laws.specs.BookCuts.{cut_at, until_installed, InstallUpTo}
use Rattle.book_laws.proofs.CutAgain.{cut_more, cut_cut, more_made}
use Rattle.store_laws.specs.Restored.{Images, restores}
use Rattle.store_laws.specs.States.{StoreState, greatest, MayLeave, wants_tail, given, store_opened}
use Rattle.store_laws.specs.Stops.{is_installed}
use Rattle.store_laws.specs.Unswitched.{no_tail}
use Rattle.store_laws.specs.Runs.{CallFits}
use Rattle.store_laws.specs.Lives.{no_bytes, nothing}
use Rattle.store_laws.specs.Logs.{counted}
use Rattle.store_laws.specs.Asked.{IsOneOf, Snapshot}
use Rattle.store_laws.specs.declared.job.Kept.{Kept}
use Rattle.store_laws.proofs.Restores.{store_restores}
use Rattle.store_laws.proofs.Crashes.{empty_wire}
use Rattle.world_rules.specs.Crashes.{bytes_held, is_unclosed, written_book, still_aside}
use Rattle.world_rules.specs.Stated.{HasDiary}
use Rattle.world_rules.specs.Fronts.{checkpoint_place, count_kept}
use Rattle.member_store.specs.Cuts.{IsFrontOf, HoldsWritten, LeavesFront, IsWholeTail, GivesTail, asked_place, place_then}
use Rattle.member_store.proofs.BookCalled.{all_counted, holds_higher, given_book, called_book, called_firm_book}
use Rattle.member_store.proofs.BookCrashed.{empty_book, crash_leaves_front}
use Rattle.member_store.proofs.Fronts.{front_count, front_taken, taken_length}
use Rattle.member_store.proofs.SwitchPlaces.{placed}
use Rattle.node_rules.specs.Nodes.{Node}
use Rattle.node_rules.specs.Marks.{wanted}
use Rattle.node_rules.specs.declared.node.OwnSnapshot.{OwnSnapshot}
use Rattle.node_rules.specs.Tails.{tail_of}
use Rattle.node_rules.specs.Steps.{Outcome, opened, outset}
use Rattle.world_rules.specs.Worlds.{course_of, Host, Life, from_to, with_front, life_firm, life_called, written, life_crashed, spelled_behind, newly_wanted, log_tail, tail_due, place_of_own, switching_after, store_after, host_of_node, host_after, host_crashed, host_resumed}
use Rattle.world_laws.proofs.Keeps.{after_call}
use Rattle.world_laws.proofs.Stores.{Fits}
use Rattle.world_laws.proofs.Untils.{Until, until_at, until_holds, until_made, CutUntil, cut_until, until_lawful}
use Rattle.world_laws.proofs.Switching.{IsTaken, wanted_made, all_with, asking_firm, asking_restored, holds-asking, asks-wanted, call_leaves, same_place}
use Rattle.agreement_laws.proofs.Lists.{each_take, either, each_append}
use Rattle.smart_base.proofs.ViewFacts.{each-weaken}

-- A host whose node runs. What is firm of the node's book is the cut of the diary at the place of the checkpoint with which this life began, 0 without one.
-- The life began with the first entries of the diary, and restored the cut of these. The store holds all that was written. It was asked for the snapshot that
-- the node wants, and switches to a place that was made. The wanted one is not before it. The checkpoint that is kept is not past both that place and the one
-- with which this life began.
pub record Running {S : Type 0} (all : List (List ℕ)) (past : ℕ) (h : Host S) : Type 0 where
  pub diary : take h.node.firm h.node.entries ≡ cut_at h.node.opening h.life.diary
  pub made : 0 < h.node.opening → HasMade h.life.diary h.node.opening
  pub first : List LogEntry
  pub later : List LogEntry
  pub both : h.life.diary ≡ first ++ later
  pub first_made : 0 < h.node.opening → HasMade first h.node.opening
  pub first_is : h.node.restored ≡ length (cut_at h.node.opening first)
  pub heard : h.node.firm ≤ h.store.firm
  pub begun : h.store.restored ≡ h.node.restored
  pub old : h.node.restored ≤ h.node.firm
  pub long : length h.life.diary ≡ h.node.firm + past
  pub taken : Each (IsTaken h.node.opening (written h)) h.node.taken
  pub reached : Each (λ (x : OwnSnapshot). x.place ≤ h.node.replica.place) h.node.taken
  pub asks : is_some h.store.asked ≡ true → asked_place h.store.asked ≡ place_of_own (wanted h.node)
  pub going : 0 < h.switching → HasMade (written h) h.switching
  pub forward : 0 < h.switching → h.node.opening ≤ h.switching
  pub ahead : h.switching ≤ place_of_own (wanted h.node)
  pub holds : HoldsWritten all h.store past (max h.node.opening h.switching) h.switching (written h) h.life.aside

-- the store of a member that has crashed: opened over what was left, which restores the cut of the diary
pub record Stopped {S : Type 0} (all : List (List ℕ)) (past : ℕ) (h : Host S) : Type 0 where
  pub left : Images
  pub opened : h.store ≡ store_opened left
  pub front : IsFrontOf (restores left) h.life.diary (length h.life.diary)
  pub past_is : length (restores left).entries + past ≡ length h.life.diary
  -- its checkpoint is of a snapshot that the store was asked for
  pub asked : Snapshot (IsOneOf all) (restores left)
  pub holds : (place : ℕ) → HoldsWritten all h.store past (checkpoint_place (restores left).present) place h.life.diary h.life.aside

-- What lasts of a host. `all` are the snapshots that its store was asked for, in any life. Cuts have left `past` entries of what was written out of the book
-- of this life, or of the one to come.
pub record Lasts {S : Type 0} (all : List (List ℕ)) (past : ℕ) (h : Host S) : Type 0 where
  pub low : h.node.firm ≤ length h.node.entries
  pub up : h.up ≡ true → Running all past h
  pub down : h.up ≡ false → Stopped all past h

-- the book of which a crash leaves a front
abbrev pub book_left : {S : Type 0} → Host S → List LogEntry
book_left h = written_book h.store (written h) h.life.aside

both_ways : {S : Type 0} (h : Host S) (X : Type 0) → h.up ≡ true → h.up ≡ false → X
both_ways h X up down = let same = sym up ∙ down in absurd cc

-- ---- fronts

-- the first entries of a book, with those from them on up to a count
pub take-from : (low high : ℕ) (es : List LogEntry) → low ≤ high → take low es ++ from_to low high es ≡ take high es
take-from low high es le =
    let all : low + (high - low) ≡ high = omega (arith, le) in
    sym (take-add low (high - low) es) ∙ ap (λ (k : ℕ). take k es) all

-- all of a list
pub take_whole : (es : List LogEntry) → take (length es) es ≡ es
take_whole es = sym (ap (λ (xs : List LogEntry). take (length es) xs) (append-nil es)) ∙ take-append_seam es []

-- while a node runs, its book is the cut of all that was written
pub written_is : {S : Type 0} (all : List (List ℕ)) (past : ℕ) (h : Host S) → Running all past h → h.node.entries ≡ cut_at h.node.opening (written h)
written_is all past h r =
    sym (cut_more h.node.opening h.life.diary (drop h.node.firm h.node.entries) r.made
    ∙ (ap (λ (es : List LogEntry). es ++ drop h.node.firm h.node.entries) (sym r.diary) ∙ take-append-drop h.node.firm h.node.entries))

pub written_long : {S : Type 0} (all : List (List ℕ)) (past : ℕ) (h : Host S) → h.node.firm ≤ length h.node.entries → Running all past h → length (written h) ≡ length h.node.entries + past
written_long all past h low r =
    let both = length-append h.life.diary (drop h.node.firm h.node.entries) in
    let rest = length-drop h.node.firm h.node.entries in
    let long = r.long in
    omega (arith, both, rest, long, low)

-- so the store counts the entries of its node's book
pub counts_now : {S : Type 0} (all : List (List ℕ)) (past : ℕ) (h : Host S) → h.node.firm ≤ length h.node.entries → Running all past h → counted h.store ≡ length h.node.entries
counts_now all past h low r =
    let count = all_counted all h.store past (max h.node.opening h.switching) h.switching (written h) h.life.aside r.holds in
    let long = written_long all past h low r in
    omega (arith, count, long)

-- and fits its book
pub fits_now : {S : Type 0} (all : List (List ℕ)) (past : ℕ) (h : Host S) → h.up ≡ true → Lasts all past h → Fits h.node h.store
fits_now all past h up is =
    let r = is.up up in
    let old = r.old in
    let heard = r.heard in
    let count = counts_now all past h is.low r in
    let few = r.holds.few in
    let long = written_long all past h is.low r in
    record { restored = omega (arith, old, heard); low = omega (arith, count, few, long); written = omega (arith, count) }

-- what holds of each entry, holds of each behind the first ones
pub each_drop : (P : LogEntry → Type 0) (k : ℕ) (es : List LogEntry) → Each P es → Each P (drop k es)
each_drop P zero es each = each
each_drop P (suc k) [] each = tt
each_drop P (suc k) (e ∷ es) each = each_drop P k es each.1

-- what holds of each entry of both, holds of each of that
each-with_front : (P : LogEntry → Type 0) (diary book : List LogEntry) (count : ℕ) → Each P diary → Each P book → Each P (with_front diary count book)
each-with_front P diary book count own other =
    each_append P diary (drop (length diary) (take count book)) own (each_drop P (length diary) (take count book) (each_take P count book other))

-- what holds of each entry in a member's diary and in what it has put aside
pub record EachLife (P : LogEntry → Type 0) (l : Life) : Type 0 where
  pub diary : Each P l.diary
  pub aside : Each P l.aside

pub life-weaker : (P Q : LogEntry → Type 0) → ((e : LogEntry) → P e → Q e) → (l : Life) → EachLife P l → EachLife Q l
life-weaker P Q weaker l is = record { diary = each-weaken P Q weaker l.diary is.diary; aside = each-weaken P Q weaker l.aside is.aside }

each-aside : (P : LogEntry → Type 0) (s : StoreState) (es : List LogEntry) → Each P es → Each P (still_aside s es)
each-aside P s es is = either (λ (xs : List LogEntry). Each P xs) (is_unclosed s) es [] is tt

-- it holds so where more is firm of a book of which it holds
pub life-firm : {S : Type 0} (P : LogEntry → Type 0) (l : Life) (n later : Node S) → Each P later.entries → EachLife P l → EachLife P (life_firm l n later)
life-firm P l n later book is = record {
  diary = each_append P l.diary (from_to n.firm later.firm later.entries) is.diary
      (each_take P (later.firm - n.firm) (drop n.firm later.entries) (each_drop P n.firm later.entries book));
  aside = is.aside;
}

pub life-called : (P : LogEntry → Type 0) (l : Life) (s : StoreState) → EachLife P l → EachLife P (life_called l s)
life-called P l s is = record { diary = is.diary; aside = each-aside P s l.aside is.aside }

each_left : {S : Type 0} (P : LogEntry → Type 0) (h : Host S) → Each P h.node.entries → EachLife P h.life → Each P (book_left h)
each_left P h own life =
    either (λ (es : List LogEntry). Each P es) (is_unclosed h.store) h.life.aside (written h) life.aside
    (each_append P h.life.diary (drop h.node.firm h.node.entries) life.diary (each_drop P h.node.firm h.node.entries own))

-- and where its member crashes
pub life-crashed : {S : Type 0} (P : LogEntry → Type 0) (h : Host S) (left : Images) → Each P h.node.entries → EachLife P h.life → EachLife P (life_crashed h left)
life-crashed P h left book is = record {
  diary = each-with_front P h.life.diary (book_left h) (count_kept left (book_left h)) is.diary (each_left P h book is);
  aside = each-aside P (store_opened left) (book_left h) (each_left P h book is);
}

-- ---- a step

-- what was written, and then more
written_more : (d es rest : List LogEntry) (firm more : ℕ) → firm ≤ length es → firm ≤ more → (d ++ from_to firm more (es ++ rest)) ++ drop more (es ++ rest) ≡ (d ++ drop firm es) ++ rest
written_more d es rest firm more low le =
    let all : List LogEntry = es ++ rest in
    let over : firm + (more - firm) ≡ more = omega (arith, le) in
    append_assoc d (from_to firm more all) (drop more all)
    ∙ (ap (λ (xs : List LogEntry). d ++ xs)
    (ap (λ (xs : List LogEntry). from_to firm more all ++ xs) (sym (drop-drop (more - firm) firm all ∙ ap (λ (k : ℕ). drop k all) over))
    ∙ (take-append-drop (more - firm) (drop firm all) ∙ drop-append-le firm es rest low))
    ∙ sym (append_assoc d (drop firm es) rest))

-- what is firm of a longer book
firm_more : (opening : ℕ) (d es rest : List LogEntry) (firm more : ℕ) → take firm es ≡ cut_at opening d → (0 < opening → HasMade d opening) → firm ≤ length es → firm ≤ more
    → take more (es ++ rest) ≡ cut_at opening (d ++ from_to firm more (es ++ rest))
firm_more opening d es rest firm more is made low le =
    sym (take-from firm more (es ++ rest) le)
    ∙ (ap (λ (xs : List LogEntry). xs ++ from_to firm more (es ++ rest)) (take-append-le firm es rest low ∙ is) ∙ sym (cut_more opening d (from_to firm more (es ++ rest)) made))

long_more : (d es : List LogEntry) (firm more past : ℕ) → length d ≡ firm + past → firm ≤ more → more ≤ length es → length (d ++ from_to firm more es) ≡ more + past
long_more d es firm more past long le low =
    let both = length-append d (from_to firm more es) in
    let behind = length-drop firm es in
    let taken = length-take-le (more - firm) (drop firm es) (omega (arith, behind, le, low)) in
    omega (arith, both, taken, long, le)

-- What a step makes of a host: more is written behind its book, and no less is firm. Of the snapshots that it took, each is of a place that was made.
pub record Goes {S : Type 0} (h : Host S) (n : Node S) (rest : List LogEntry) : Type 0 where
  pub book : n.entries ≡ h.node.entries ++ rest
  pub more : h.node.firm ≤ n.firm
  pub low : n.firm ≤ length n.entries
  pub heard : n.firm ≤ h.store.firm
  pub restored_is : n.restored ≡ h.node.restored
  pub opening_is : n.opening ≡ h.node.opening
  pub taken : Each (IsTaken h.node.opening (written h ++ rest)) n.taken
  pub reached : Each (λ (x : OwnSnapshot). x.place ≤ n.replica.place) n.taken
  pub same : nat_lt (length h.node.taken) (length n.taken) ≡ false → wanted n ≡ wanted h.node
  pub ahead : place_of_own (wanted h.node) ≤ place_of_own (wanted n)
  pub few : length (written h ++ rest) ≤ greatest

module _ {S : Type 0} (m : Meaning S) (h : Host S) (o : Outcome S) (all : List (List ℕ)) (past : ℕ) (rest : List LogEntry) (low : h.node.firm ≤ length h.node.entries) (r : Running all past h) (g : Goes h o.node rest) where
  abbrev own_diary : List LogEntry
  own_diary = h.life.diary ++ from_to h.node.firm o.node.firm o.node.entries

  abbrev given_now : StoreState
  given_now = given (spelled_behind (length h.node.entries) o.node.entries) h.store

  pub written_then : own_diary ++ drop o.node.firm o.node.entries ≡ written h ++ rest
  written_then =
      ap (λ (es : List LogEntry). (h.life.diary ++ from_to h.node.firm o.node.firm es) ++ drop o.node.firm es) g.book
      ∙ written_more h.life.diary h.node.entries rest h.node.firm o.node.firm low g.more

  behind_is : drop (length h.node.entries) o.node.entries ≡ rest
  behind_is = ap (λ (es : List LogEntry). drop (length h.node.entries) es) g.book ∙ drop-append_seam h.node.entries rest

  holds_then : HoldsWritten all given_now past (max o.node.opening h.switching) h.switching (own_diary ++ drop o.node.firm o.node.entries) h.life.aside
  holds_then =
      subst (λ (k : ℕ). HoldsWritten all given_now past (max k h.switching) h.switching (own_diary ++ drop o.node.firm o.node.entries) h.life.aside) (sym g.opening_is)
      (subst (λ (es : List LogEntry). HoldsWritten all given_now past (max h.node.opening h.switching) h.switching es h.life.aside) (sym written_then)
      (subst (λ (es : List LogEntry). HoldsWritten all (given (map entry_text es) h.store) past (max h.node.opening h.switching) h.switching (written h ++ rest) h.life.aside) (sym behind_is)
      (given_book all h.store past (max h.node.opening h.switching) h.switching (written h) h.life.aside rest r.holds g.few)))

  diary_then : take o.node.firm o.node.entries ≡ cut_at o.node.opening own_diary
  diary_then =
      ap (λ (es : List LogEntry). take o.node.firm es) g.book
      ∙ (firm_more h.node.opening h.life.diary h.node.entries rest h.node.firm o.node.firm r.diary r.made low g.more
      ∙ (ap (λ (es : List LogEntry). cut_at h.node.opening (h.life.diary ++ from_to h.node.firm o.node.firm es)) (sym g.book)
      ∙ ap (λ (k : ℕ). cut_at k own_diary) (sym g.opening_is)))

  made_then : 0 < o.node.opening → HasMade own_diary o.node.opening
  made_then some =
      subst (λ (k : ℕ). HasMade own_diary k) (sym g.opening_is)
      (more_made h.node.opening h.life.diary (from_to h.node.firm o.node.firm o.node.entries) (r.made (subst (λ (k : ℕ). 0 < k) g.opening_is some)))

  taken_then : Each (IsTaken o.node.opening (own_diary ++ drop o.node.firm o.node.entries)) o.node.taken
  taken_then =
      subst (λ (es : List LogEntry). Each (IsTaken o.node.opening es) o.node.taken) (sym written_then)
      (subst (λ (k : ℕ). Each (IsTaken k (written h ++ rest)) o.node.taken) (sym g.opening_is) g.taken)

  going_then : 0 < h.switching → HasMade (own_diary ++ drop o.node.firm o.node.entries) h.switching
  going_then some = subst (λ (es : List LogEntry). HasMade es h.switching) (sym written_then) (more_made h.switching (written h) rest (r.going some))

  pub running-after : Running (all_with (newly_wanted h.node o.node) all) past (host_after (course_of m) h o)
  running-after =
      let heard = g.heard in
      let firm = asking_firm (newly_wanted h.node o.node) given_now in
      let old = r.old in
      let more = g.more in
      let restored = g.restored_is in
      record {
        diary = diary_then;
        made = made_then;
        first = r.first;
        later = r.later ++ from_to h.node.firm o.node.firm o.node.entries;
        both = ap (λ (es : List LogEntry). es ++ from_to h.node.firm o.node.firm o.node.entries) r.both ∙ append_assoc r.first r.later (from_to h.node.firm o.node.firm o.node.entries);
        first_made = subst (λ (k : ℕ). 0 < k → HasMade r.first k) (sym g.opening_is) r.first_made;
        first_is = g.restored_is ∙ (r.first_is ∙ ap (λ (k : ℕ). length (cut_at k r.first)) (sym g.opening_is));
        heard = omega (arith, heard, firm);
        begun = asking_restored (newly_wanted h.node o.node) given_now ∙ (r.begun ∙ sym g.restored_is);
        old = omega (arith, old, more, restored);
        long = long_more h.life.diary o.node.entries h.node.firm o.node.firm past r.long g.more g.low;
        taken = taken_then;
        reached = g.reached;
        asks = asks-wanted o.node.opening (own_diary ++ drop o.node.firm o.node.entries) h.node.taken o.node.taken given_now taken_then r.asks g.same;
        going = going_then;
        forward = λ some. subst (λ (k : ℕ). k ≤ h.switching) (sym g.opening_is) (r.forward some);
        ahead = (let before = r.ahead in let later = g.ahead in omega (arith, before, later));
        holds = holds-asking all given_now past (max o.node.opening h.switching) h.switching (own_diary ++ drop o.node.firm o.node.entries) h.life.aside (newly_wanted h.node o.node) holds_then;
      }

pub lasts-after : {S : Type 0} (m : Meaning S) (all : List (List ℕ)) (past : ℕ) (h : Host S) (o : Outcome S) (rest : List LogEntry) → h.up ≡ true → Goes h o.node rest → Lasts all past h
    → Lasts (all_with (newly_wanted h.node o.node) all) past (host_after (course_of m) h o)
lasts-after m all past h o rest up g is = record {
  low = g.low;
  up = λ up. running-after m h o all past rest is.low (is.up up) g;
  down = λ down. both_ways h (Stopped (all_with (newly_wanted h.node o.node) all) past (host_after (course_of m) h o)) up down;
}

-- ---- a device call

-- all that was written has made the place of the checkpoint with which this life began
opened_made : {S : Type 0} (all : List (List ℕ)) (past : ℕ) (h : Host S) → Running all past h → 0 < h.node.opening → HasMade (written h) h.node.opening
opened_made all past h r some = more_made h.node.opening h.life.diary (drop h.node.firm h.node.entries) (r.made some)

-- what is firm at a store that writes a tail installs no place past that of its switch
firm_upto : {S : Type 0} (all : List (List ℕ)) (past : ℕ) (h : Host S) → (r : Running all past h) → 0 < h.switching → InstallUpTo h.switching (take (h.store.firm + past) (written h))
firm_upto all past h r some i there =
    let kept = r.holds.kept.upto i there in
    let low = r.holds.low in
    let forward = r.forward some in
    omega (arith, kept, low, forward)

-- the tail that a store writes is the cut of all that was written before the first installation past the place of its switch
pub gives_tail : {S : Type 0} (all : List (List ℕ)) (past : ℕ) (h : Host S) → h.node.firm ≤ length h.node.entries → Running all past h → Lawful 0 0 (written h) → IsTidy (written h)
    → (wants_tail h.store ≡ true → 0 < h.switching) → GivesTail h.store h.switching (written h) (tail_due h)
unfolding tail_of
gives_tail all past h low r lawful tidy some wants =
    let count = counts_now all past h low r in
    let begun = r.begun in
    let old = r.old in
    let heard = r.heard in
    let switches = some wants in
    let whole : List LogEntry = written h in
    let front : List LogEntry = until_installed h.switching whole in
    let u : Until h.switching whole = until_at h.switching whole in
    let cut : CutUntil h.node.opening h.switching whole = cut_until h.node.opening h.switching whole lawful (r.forward switches) (opened_made all past h r) in
    let own : until_installed h.switching h.node.entries ≡ cut_at h.node.opening front = ap (λ (es : List LogEntry). until_installed h.switching es) (written_is all past h r) ∙ cut.front in
    let entries_long : length h.node.entries ≡ length (cut_at h.node.opening whole) = ap (λ (es : List LogEntry). length es) (written_is all past h r) in
    let front_long : length (until_installed h.switching h.node.entries) ≡ length (until_installed h.switching (cut_at h.node.opening whole)) =
    ap (λ (es : List LogEntry). length (until_installed h.switching es)) (written_is all past h r) in
    let long = written_long all past h low r in
    let whole_long = cut.whole in
    let cut_long = cut.cut in
    let firm = until_holds h.switching (h.store.firm + past) whole (firm_upto all past h r switches) r.holds.kept.few in
    let made : 0 < h.switching → HasMade front h.switching = λ ahead. until_made h.switching h.switching whole lawful (omega arith) ahead (r.going ahead) in
    subst (λ (b : Bool). IsWholeTail h.store h.switching (written h) (cond b (log_tail h.node h.switching) no_tail)) (sym wants)
    (record {
      number = omega (arith, count, begun, old, heard, entries_long, front_long, long, whole_long, cut_long, firm);
      high = omega (arith, begun, old, heard, entries_long, front_long, long, whole_long, cut_long, firm);
      made = made;
      entries = ap (λ (es : List LogEntry). map entry_text es)
          (ap (λ (es : List LogEntry). cut_at h.switching es) own
          ∙ cut_cut h.node.opening h.switching front (until_lawful h.switching whole lawful) (front_tidy front u.rest (subst (λ (es : List LogEntry). IsTidy es) u.is tidy)) (r.forward switches) made);
    })

-- to which place the store switches then
switching_is : {S : Type 0} (all : List (List ℕ)) (past : ℕ) (h : Host S) → Running all past h → place_then is_installed h.store h.switching ≡ switching_after h (store_after h)
switching_is all past h r =
    placed is_installed h.store h.switching (tail_due h)
    ∙ same_place (is_some h.store.asked) (is_some (store_after h).asked) (asked_place h.store.asked) (place_of_own (wanted h.node)) h.switching r.asks

-- it was made, and is not before that of the checkpoint with which this life began
switching_right : {S : Type 0} (all : List (List ℕ)) (past : ℕ) (h : Host S) → Running all past h → 0 < switching_after h (store_after h)
    → HasMade (written h) (switching_after h (store_after h)) × (h.node.opening ≤ switching_after h (store_after h))
switching_right all past h r = by (is_some h.store.asked && not (is_some (store_after h).asked))
  where
    by : (b : Bool) → 0 < cond b (place_of_own (wanted h.node)) h.switching
        → HasMade (written h) (cond b (place_of_own (wanted h.node)) h.switching) × (h.node.opening ≤ cond b (place_of_own (wanted h.node)) h.switching)
    by true some = wanted_made h.node.opening (written h) h.node.taken r.taken some
    by false some = (r.going some, r.forward some)

-- and not before that to which it switched until then
switching_ahead : {S : Type 0} (all : List (List ℕ)) (past : ℕ) (h : Host S) → Running all past h → (h.switching ≤ switching_after h (store_after h)) × (switching_after h (store_after h) ≤ place_of_own (wanted h.node))
switching_ahead all past h r = by (is_some h.store.asked && not (is_some (store_after h).asked))
  where
    by : (b : Bool) → (h.switching ≤ cond b (place_of_own (wanted h.node)) h.switching) × (cond b (place_of_own (wanted h.node)) h.switching ≤ place_of_own (wanted h.node))
    by true = let ahead = r.ahead in (omega (arith, ahead), omega arith)
    by false = let ahead = r.ahead in (omega arith, omega (arith, ahead))

pub running-called : {S : Type 0} (m : Meaning S) (all : List (List ℕ)) (past : ℕ) (h : Host S) → Running all past h → CallFits is_installed (tail_due h) h.store → GivesTail h.store h.switching (written h) (tail_due h)
    → Running all past (after_call (course_of m) h)
running-called m all past h r fits gives =
    let leaves = call_leaves is_installed (tail_due h) h.store in
    let more = called_firm_book all is_installed h.store past (max h.node.opening h.switching) h.switching (written h) h.life.aside (tail_due h) r.holds in
    let heard = r.heard in
    record {
      diary = r.diary;
      made = r.made;
      first = r.first;
      later = r.later;
      both = r.both;
      first_made = r.first_made;
      first_is = r.first_is;
      heard = omega (arith, heard, more);
      begun = leaves.0 ∙ r.begun;
      old = r.old;
      long = r.long;
      taken = r.taken;
      reached = r.reached;
      asks = λ some.
          let same = leaves.1 some in
          ap asked_place same ∙ r.asks (ap (λ (x : _). is_some x) (sym same) ∙ some);
      going = λ some. (switching_right all past h r some).0;
      forward = λ some. (switching_right all past h r some).1;
      ahead = (switching_ahead all past h r).1;
      holds = holds_higher all (store_after h) past (max (max h.node.opening h.switching) (switching_after h (store_after h))) (max h.node.opening (switching_after h (store_after h))) (switching_after h (store_after h)) (written h)
          (still_aside (store_after h) h.life.aside) (let ahead = (switching_ahead all past h r).0 in omega (arith, ahead))
          (subst (λ (k : ℕ). HoldsWritten all (store_after h) past (max (max h.node.opening h.switching) k) k (written h) (still_aside (store_after h) h.life.aside)) (switching_is all past h r)
          (called_book all is_installed h.store past (max h.node.opening h.switching) h.switching (written h) h.life.aside (tail_due h) r.holds fits gives (λ text is. is)));
    }

pub lasts-called : {S : Type 0} (m : Meaning S) (all : List (List ℕ)) (past : ℕ) (h : Host S) → h.up ≡ true → CallFits is_installed (tail_due h) h.store → GivesTail h.store h.switching (written h) (tail_due h) → Lasts all past h
    → Lasts all past (after_call (course_of m) h)
lasts-called m all past h up fits gives is = record {
  low = is.low;
  up = λ up. running-called m all past h (is.up up) fits gives;
  down = λ down. both_ways h (Stopped all past (after_call (course_of m) h)) up down;
}

-- ---- a crash

-- a diary that begins a book, and then has more of it, is a front of the book
pub front_whole : (d book : List LogEntry) (count : ℕ) → length d ≤ count → take (length d) book ≡ d → with_front d count book ≡ take count book
front_whole d book count le same =
    ap (λ (xs : List LogEntry). xs ++ drop (length d) (take count book)) (sym (take-take (length d) count book le ∙ same)) ∙ take-append-drop (length d) (take count book)

-- both have the same first entries, and one begins with these
pub begins_both : (d rest book : List LogEntry) (count : ℕ) → length d ≤ count → take count book ≡ take count (d ++ rest) → take (length d) book ≡ d
begins_both d rest book count le same =
    sym (take-take (length d) count book le)
    ∙ (ap (λ (xs : List LogEntry). take (length d) xs) same ∙ (take-take (length d) count (d ++ rest) le ∙ take-append_seam d rest))

-- What a crash leaves of a host: a front of one book, which is the diary then.
pub record Crashed {S : Type 0} (all : List (List ℕ)) (past : ℕ) (h : Host S) (left : Images) : Type 0 where
  pub leaves : LeavesFront all h.store past (written h) h.life.aside left
  pub count_is : count_kept left (book_left h) ≡ leaves.count
  pub front : (life_crashed h left).diary ≡ take leaves.count (book_left h)

pub crashed : {S : Type 0} (all : List (List ℕ)) (past : ℕ) (h : Host S) (left : Images) → MayLeave h.store.devices left → Running all past h → Crashed all past h left
crashed all past h left may r =
    let l : LeavesFront all h.store past (written h) h.life.aside left = crash_leaves_front all h.store past (max h.node.opening h.switching) h.switching (written h) h.life.aside r.holds left may in
    let count : count_kept left (book_left h) ≡ l.count = front_count (restores left) (book_left h) l.count l.front in
    let long = r.long in
    let heard = r.heard in
    let firm = l.firm in
    let most : length h.life.diary ≤ h.store.firm + past = omega (arith, long, heard) in
    record {
      leaves = l;
      count_is = count;
      front = ap (λ (k : ℕ). with_front h.life.diary k (book_left h)) count
          ∙ front_whole h.life.diary (book_left h) l.count (omega (arith, most, firm)) (begins_both h.life.diary (drop h.node.firm h.node.entries) (book_left h) (h.store.firm + past) most l.same);
    }

pub stopped-crashed : {S : Type 0} (m : Meaning S) (all : List (List ℕ)) (past : ℕ) (h : Host S) (left : Images) → (c : Crashed all past h left)
    → Stopped all (c.leaves.count - length (restores left).entries) (host_crashed (course_of m) h left)
stopped-crashed m all past h left c =
    let l : LeavesFront all h.store past (written h) h.life.aside left = c.leaves in
    let d : List LogEntry = (life_crashed h left).diary in
    let long : length d ≡ l.count = ap (λ (es : List LogEntry). length es) c.front ∙ taken_length l.count (book_left h) l.front.few in
    let shorter = l.shorter in
    record {
      left = left;
      opened = refl;
      front = subst (λ (k : ℕ). IsFrontOf (restores left) d k) (sym long) (subst (λ (es : List LogEntry). IsFrontOf (restores left) es l.count) (sym c.front) (front_taken (restores left) (book_left h) l.count l.front));
      past_is = omega (arith, long, shorter);
      asked = l.checkpoint;
      holds = λ place.
          subst (λ (es : List LogEntry). HoldsWritten all (store_opened left) (l.count - length (restores left).entries) (checkpoint_place (restores left).present) place es (still_aside (store_opened left) (book_left h))) (sym c.front) (l.holds place);
    }

pub lasts-crashed : {S : Type 0} (m : Meaning S) (all : List (List ℕ)) (past : ℕ) (h : Host S) (left : Images) → (c : Crashed all past h left) → Lasts all past h
    → Lasts all (c.leaves.count - length (restores left).entries) (host_crashed (course_of m) h left)
lasts-crashed m all past h left c is = record { low = is.low; up = λ up. absurd (apart up); down = λ down. stopped-crashed m all past h left c }
  where
    apart : false ≡ true → ⊥
    apart same = cc

-- what a stopped member has is all firm
pub stopped_long : {S : Type 0} (all : List (List ℕ)) (past : ℕ) (h : Host S) → (s : Stopped all past h) → length h.life.diary ≤ 2 ^ 64 - 1 → h.store.firm + past ≡ length h.life.diary
stopped_long all past h s few =
    let is = s.past_is in
    let firm : h.store.firm ≡ length (restores s.left).entries = ap (λ (t : StoreState). t.firm) s.opened ∙ least (length (restores s.left).entries) (omega (arith, is, few)) in
    omega (arith, is, firm)
  where
    least : (x : ℕ) → x ≤ 2 ^ 64 - 1 → min x (2 ^ 64 - 1) ≡ x
    least x low = omega (arith, low)

-- ---- a restart

-- what a node that goes on has of what was written: its cut at the checkpoint's place, and what it has opened
pub record Resumed {S : Type 0} (place : ℕ) (d : List LogEntry) (n : Node S) : Type 0 where
  pub more : List LogEntry
  pub opening_is : n.opening ≡ place
  pub book : n.entries ≡ cut_at place d ++ more
  pub restored_is : n.restored ≡ length (cut_at place d)
  pub firm_is : n.firm ≡ length (cut_at place d)
  pub none : n.taken ≡ []

-- the place of the checkpoint that a stopped member has
abbrev pub place_left : {S : Type 0} {all : List (List ℕ)} {past : ℕ} {h : Host S} → Stopped all past h → ℕ
place_left s = checkpoint_place (restores s.left).present

-- what its devices restore is the cut of its diary
pub left_texts : {S : Type 0} (all : List (List ℕ)) (past : ℕ) (h : Host S) → (s : Stopped all past h) → (restores s.left).entries ≡ map entry_text (cut_at (place_left s) h.life.diary)
left_texts all past h s = s.front.entries ∙ ap (λ (es : List LogEntry). map entry_text (cut_at (place_left s) es)) (take_whole h.life.diary)

pub left_made : {S : Type 0} (all : List (List ℕ)) (past : ℕ) (h : Host S) → (s : Stopped all past h) → 0 < place_left s → HasMade h.life.diary (place_left s)
left_made all past h s some = subst (λ (es : List LogEntry). HasMade es (place_left s)) (take_whole h.life.diary) (s.front.made some)

-- and which installs no later place
pub left_upto : {S : Type 0} (all : List (List ℕ)) (past : ℕ) (h : Host S) → (s : Stopped all past h) → InstallUpTo (place_left s) h.life.diary
left_upto all past h s = subst (λ (es : List LogEntry). InstallUpTo (place_left s) es) (take_whole h.life.diary) s.front.upto

module _ {S : Type 0} (h : Host S) (n : Node S) (all : List (List ℕ)) (past : ℕ) (s : Stopped all past h) (r : Resumed (place_left s) h.life.diary n) (few : length (h.life.diary ++ r.more) ≤ greatest) where
  behind_cut : (k : ℕ) → k ≡ length (cut_at (place_left s) h.life.diary) → drop k n.entries ≡ r.more
  behind_cut k is =
      ap (λ (j : ℕ). drop j n.entries) is
      ∙ (ap (λ (es : List LogEntry). drop (length (cut_at (place_left s) h.life.diary)) es) r.book ∙ drop-append_seam (cut_at (place_left s) h.life.diary) r.more)

  firm_all : h.store.firm ≡ length (cut_at (place_left s) h.life.diary)
  firm_all =
      let text : length (restores s.left).entries ≡ length (cut_at (place_left s) h.life.diary) =
      ap (λ (l : List (List ℕ)). length l) (left_texts all past h s) ∙ length-map (cut_at (place_left s) h.life.diary) entry_text in
      let all_of = s.past_is in
      let both = length-append h.life.diary r.more in
      ap (λ (t : StoreState). t.firm) s.opened ∙ least (length (restores s.left).entries) (length (cut_at (place_left s) h.life.diary)) text (omega (arith, text, all_of, both, few))
    where
      least : (x y : ℕ) → x ≡ y → y ≤ 2 ^ 64 - 1 → min x (2 ^ 64 - 1) ≡ y
      least x y same le = omega (arith, same, le)

  holds_resumed : HoldsWritten all (given (spelled_behind n.restored n.entries) h.store) past (max n.opening 0) 0 (h.life.diary ++ drop n.firm n.entries) h.life.aside
  holds_resumed =
      subst (λ (es : List LogEntry). HoldsWritten all (given (map entry_text es) h.store) past (max n.opening 0) 0 (h.life.diary ++ drop n.firm n.entries) h.life.aside) (sym (behind_cut n.restored r.restored_is))
      (subst (λ (es : List LogEntry). HoldsWritten all (given (map entry_text r.more) h.store) past (max n.opening 0) 0 (h.life.diary ++ es) h.life.aside) (sym (behind_cut n.firm r.firm_is))
      (holds_higher all (given (map entry_text r.more) h.store) past (place_left s) (max n.opening 0) 0 (h.life.diary ++ r.more) h.life.aside (let begins = r.opening_is in omega (arith, begins))
      (given_book all h.store past (place_left s) 0 h.life.diary h.life.aside r.more (s.holds 0) few)))

  pub running-resumed : Running all past (host_resumed h n)
  running-resumed =
      let all_firm = firm_all in
      let firm = r.firm_is in
      let restored = r.restored_is in
      let text : length (restores s.left).entries ≡ length (cut_at (place_left s) h.life.diary) =
      ap (λ (l : List (List ℕ)). length l) (left_texts all past h s) ∙ length-map (cut_at (place_left s) h.life.diary) entry_text in
      let all_of = s.past_is in
      record {
        diary = ap (λ (k : ℕ). take k n.entries) r.firm_is
            ∙ (ap (λ (es : List LogEntry). take (length (cut_at (place_left s) h.life.diary)) es) r.book
            ∙ (take-append_seam (cut_at (place_left s) h.life.diary) r.more ∙ ap (λ (k : ℕ). cut_at k h.life.diary) (sym r.opening_is)));
        made = subst (λ (k : ℕ). 0 < k → HasMade h.life.diary k) (sym r.opening_is) (left_made all past h s);
        first = h.life.diary;
        later = [];
        both = sym (append-nil h.life.diary);
        first_made = subst (λ (k : ℕ). 0 < k → HasMade h.life.diary k) (sym r.opening_is) (left_made all past h s);
        first_is = r.restored_is ∙ ap (λ (k : ℕ). length (cut_at k h.life.diary)) (sym r.opening_is);
        heard = omega (arith, all_firm, firm);
        begun = ap (λ (t : StoreState). t.restored) s.opened ∙ (sym (ap (λ (t : StoreState). t.firm) s.opened) ∙ (firm_all ∙ sym r.restored_is));
        old = omega (arith, firm, restored);
        long = omega (arith, text, all_of, firm);
        taken = subst (λ (xs : _). Each (IsTaken n.opening (h.life.diary ++ drop n.firm n.entries)) xs) (sym r.none) tt;
        reached = subst (λ (xs : List OwnSnapshot). Each (λ (x : OwnSnapshot). x.place ≤ n.replica.place) xs) (sym r.none) tt;
        asks = λ some. absurd (none_asked (ap (λ (t : StoreState). is_some t.asked) s.opened) some);
        going = λ some. absurd (omega (arith, some));
        forward = λ some. absurd (omega (arith, some));
        ahead = omega arith;
        holds = holds_resumed;
      }
    where
      none_asked : is_some h.store.asked ≡ false → is_some h.store.asked ≡ true → ⊥
      none_asked none some = let same = sym some ∙ none in cc

pub lasts-resumed : {S : Type 0} (h : Host S) (n : Node S) (all : List (List ℕ)) (past : ℕ) → (s : Stopped all past h) → (r : Resumed (place_left s) h.life.diary n) → length (h.life.diary ++ r.more) ≤ greatest
    → Lasts all past (host_resumed h n)
lasts-resumed h n all past s r few =
    let firm = r.firm_is in
    let long : length n.entries ≡ length (cut_at (place_left s) h.life.diary) + length r.more = ap (λ (es : List LogEntry). length es) r.book ∙ length-append (cut_at (place_left s) h.life.diary) r.more in
    record {
      low = omega (arith, firm, long);
      up = λ up. running-resumed h n all past s r few;
      down = λ down. absurd (apart down);
    }
  where
    apart : true ≡ false → ⊥
    apart same = cc

-- ---- the diary

-- the book of a node that runs is firm as its diary says, and so is what the devices of a crashed member restore
pub has_diary : {S : Type 0} (all : List (List ℕ)) (past : ℕ) (h : Host S) → Lasts all past h → HasDiary h
has_diary all past h is = record {
  up = λ up. (is.up up).diary;
  up_made = λ up. (is.up up).made;
  down = λ down.
      let s : Stopped all past h = is.down down in
      subst (λ (t : StoreState). (restores (bytes_held t)).entries ≡ map entry_text (cut_at (checkpoint_place (restores (bytes_held t)).present) h.life.diary)) (sym s.opened) (left_texts all past h s);
  down_made = λ down.
      let s : Stopped all past h = is.down down in
      subst (λ (t : StoreState). 0 < checkpoint_place (restores (bytes_held t)).present → HasMade h.life.diary (checkpoint_place (restores (bytes_held t)).present)) (sym s.opened) (left_made all past h s);
}

-- ---- the beginning

pub lasts-opened : {S : Type 0} (m : Meaning S) (secret : List ℕ) (id : ℕ) (view : View) (period : ℕ) → Lasts [] 0 (host_of_node (opened (outset m secret id view period)))
lasts-opened {S = S} m secret id view period =
    let n : Node S = opened (outset m secret id view period) in
    record {
      low = omega arith;
      up = λ up. record {
        diary = refl;
        made = λ some. absurd (omega (arith, some));
        first = [];
        later = [];
        both = refl;
        first_made = λ some. absurd (omega (arith, some));
        first_is = refl;
        heard = omega arith;
        begun = ap (λ (k : Kept). min (length k.entries) greatest) (store_restores no_bytes nothing nothing empty_wire);
        old = omega arith;
        long = refl;
        taken = tt;
        reached = tt;
        asks = λ some. absurd (apart some);
        going = λ some. absurd (omega (arith, some));
        forward = λ some. absurd (omega (arith, some));
        ahead = omega arith;
        holds = given_book [] (store_opened no_bytes) 0 (max n.opening 0) 0 [] [] n.entries
            (holds_higher [] (store_opened no_bytes) 0 0 (max n.opening 0) 0 [] [] (omega arith) (empty_book [] 0)) (omega arith);
      };
      down = λ down. absurd (down_apart down);
    }
  where
    apart : false ≡ true → ⊥
    apart same = cc

    down_apart : true ≡ false → ⊥
    down_apart same = cc
