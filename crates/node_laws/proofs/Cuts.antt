-- The cut of a sound book: what it promises and decides, and that a member may go on with it behind its checkpoint.
use Rattle.std.proofs.Common.{Bool, List, None, Option, Some, ap, append-nil, append_assoc, arith, cond, drop, false, inl, inr, length, length-append, max, nat_lt, refl, subst, suc, sym, take, true, zero, ℕ, ⊎_elim, ◌≡◌, ◌⊎◌, ◌≤◌, ◌<◌, ◌∙◌, ◌+◌, ◌++◌, ◌∷◌, []}
use Rattle.std.proofs.lemmas.Bool.{le-ltb, ltb-false, ltb-true}
use Rattle.std.proofs.lemmas.List.{length-take-le}
use Rattle.std.proofs.Math.Seq.{take-add}
use Rattle.std.specs.List.{cons_option}
use Rattle.std.specs.Prelude.{map, slice_get}
use Rattle.agreement_laws.specs.Statements.{Statement}
use Rattle.agreement_laws.proofs.Lists.{among_either, each_among, each_from}
use Rattle.smart_base.specs.Lists.{Each}
use Rattle.smart_base.specs.Views.{View}
use Rattle.smart_statements.specs.Batches.{Batch}
use Rattle.smart_service.specs.Services.{Meaning}
use Rattle.smart_service.specs.declared.replica.Replica.{Replica}
use Rattle.replica_rules.specs.Replicas.{after_batches, batch_at, state}
use Rattle.replica_rules.proofs.Places.{state_place}
use Rattle.vote_book.proofs.Locks.{made_most}
use Rattle.vote_book.specs.Books.{Among, HasMade, last_made, latest_made, place_made}
use Rattle.vote_book.specs.Entries.{FitsEntry, entry_text}
use Rattle.vote_book.specs.declared.entry.Decision.{Decision}
use Rattle.vote_book.specs.declared.entry.Opening.{Opening}
use Rattle.vote_book.specs.declared.entry.Promise.{Promise}
use Rattle.vote_book.specs.declared.entry.LogEntry.{LogEntry}
use Rattle.vote_book.specs.declared.entry.LogEntry.TheVariants.{Accepted, Decided, Installed, Marked, Opened, Promised, Synced, Wrote}
use Rattle.book_laws.specs.BookCuts.{InstallUpTo, before_place, cut_at, from_place, greatest_promise, has_cut, kept_of}
use Rattle.book_laws.proofs.Cut.{cut_makes, cut_past, front_low, parts_lawful}
use Rattle.book_laws.proofs.CutEntries.{cut_among, cut_begun}
use Rattle.book_laws.proofs.CutLawful.{cut_lawful}
use Rattle.book_laws.proofs.Kept.{kept, promise_kept}
use Rattle.book_laws.proofs.Lists.{among_left, among_right, split_at}
use Rattle.book_laws.proofs.Places.{begins, both_parts, latest_second}
use Rattle.book_laws.proofs.Promises.{IsAtLeast, Under, greatest_from, greatest_most}
use Rattle.node_rules.specs.Nodes.{greatest_regency}
use Rattle.node_rules.specs.Reopening.{batch_past, decided_of, entries_in, is_opening, reopened, stopped}
use Rattle.node_rules.specs.Steps.{Outset}
use Rattle.node_rules.specs.declared.node.OwnSnapshot.{OwnSnapshot}
use Rattle.node_laws.proofs.Books.{fewer_promise, greatest_append, promise_most, promised_greatest}
use Rattle.node_laws.proofs.Views.{numbered_has}
use Rattle.node_laws.proofs.InTurn.{InTurn, TurnAt, all_in_turn, decided_in_turn}
use Rattle.node_laws.proofs.Reopened.{after_append, count_is, counted_past, in_turn, latest_is, reopened_is}
use Rattle.node_laws.proofs.Restored.{decided_append, decided_here, decided_last, decided_low, decided_none, front_of}
use Rattle.node_laws.proofs.Undamaged.{read_again}
use Rattle.node_laws.specs.Restored.{IsSoundBook}
use Rattle.node_laws.specs.Restoring.{AreAlong, DecidesInTurn, outset_behind, resumed_node}
use Rattle.node_laws.specs.Sound.{ArePromisedUpTo, IsBegun, place_if}

-- ---- what a sound book promises

-- a book's promises are of known views
pub book_upto : (secret : List ℕ) (stated : List Statement) (views : List View) (entries : List LogEntry) → IsSoundBook secret stated views entries
    → (number : ℕ) → ((v : View) → Among v views → v.number ≤ number) → ArePromisedUpTo number entries
book_upto secret stated views entries book number most p there =
    let s = split_at entries (Promised p) there in
    let known = (book.ranged s.before (Promised p) s.after s.is).within.of_view in
    let has = numbered_has views p.view known.view known.is in
    let low = most known.view has.there in
    let same = has.number_is in
    omega (arith, low, same)

-- ---- the regency in force

under_low : (v r w s : ℕ) → (Under v r w s → ⊥) → w ≤ v
under_low v r w s none = by (nat_lt v w) refl
  where
    by : (t : Bool) → nat_lt v w ≡ t → w ≤ v
    by true less = absurd (none (inl (ltb-true v w less)))
    by false less = ltb-false v w less

not_under : (v r w s : ℕ) → v ≡ w → (Under v r w s → ⊥) → s ≤ r
not_under v r w s same none = by (nat_lt r s) refl
  where
    by : (t : Bool) → nat_lt r s ≡ t → s ≤ r
    by true less = absurd (none (inr (same, ltb-true r s less)))
    by false less = ltb-false r s less

-- what is kept promises as much of the latest view and of those behind it
pub kept_regency : (view : ℕ) (front : List LogEntry) → ArePromisedUpTo view front → greatest_regency view (kept_of front) ≡ greatest_regency view front
kept_regency view front of =
    let fewer : greatest_regency view (kept_of front) ≤ greatest_regency view front = fewer_promise view (kept_of front) front (λ e there. (kept front e there).there) in
    let more : greatest_regency view front ≤ greatest_regency view (kept_of front) = by (greatest_regency view front) refl in
    omega (arith, fewer, more)
  where
    by : (r : ℕ) → greatest_regency view front ≡ r → r ≤ greatest_regency view (kept_of front)
    by zero is = omega arith
    by (suc r) is =
        let some : 0 < greatest_regency view front = omega (arith, is) in
        let least : IsAtLeast (greatest_promise front) view (greatest_regency view front) =
        greatest_most front (record { view = view; regency = greatest_regency view front }) (promised_greatest view front some) in
        let low : least.promise.view ≤ view = of least.promise (greatest_from front least.promise least.is) in
        let up : view ≤ least.promise.view = under_low least.promise.view least.promise.regency view (greatest_regency view front) least.most in
        let at : least.promise.view ≡ view = omega (arith, low, up) in
        let most : least.promise.regency ≤ greatest_regency view (kept_of front) = promise_most view (kept_of front) least.promise at (promise_kept front least.promise least.is) in
        let high : greatest_regency view front ≤ least.promise.regency = not_under least.promise.view least.promise.regency view (greatest_regency view front) at least.most in
        omega (arith, most, high, is)

pub cut_regency : (place view : ℕ) (diary : List LogEntry) → ArePromisedUpTo view diary → greatest_regency view (cut_at place diary) ≡ greatest_regency view diary
cut_regency place view diary of = by (has_cut place diary)
  where
    front : List LogEntry
    front = before_place place diary

    behind : List LogEntry
    behind = from_place place diary

    of_front : ArePromisedUpTo view front
    of_front p there = of p (subst (λ (es : List LogEntry). Among (Promised p) es) (both_parts place diary) (among_left (Promised p) front behind there))

    by : (t : Bool) → greatest_regency view (cond t (kept_of front ++ behind) diary) ≡ greatest_regency view diary
    by true =
        greatest_append view (kept_of front) behind
        ∙ (ap (λ (n : ℕ). max n (greatest_regency view behind)) (kept_regency view front of_front)
        ∙ (sym (greatest_append view front behind) ∙ ap (λ (es : List LogEntry). greatest_regency view es) (both_parts place diary)))
    by false = refl

-- what a cut promises up to a view, all of it does
pub cut_upto : (place view : ℕ) (diary : List LogEntry) → ArePromisedUpTo view (cut_at place diary) → ArePromisedUpTo view diary
cut_upto place view diary = by (has_cut place diary)
  where
    front : List LogEntry
    front = before_place place diary

    behind : List LogEntry
    behind = from_place place diary

    of_kept : ArePromisedUpTo view (kept_of front ++ behind) → (p : Promise) → Among (Promised p) front → p.view ≤ view
    of_kept upto p there =
        let least : IsAtLeast (greatest_promise front) p.view p.regency = greatest_most front p there in
        let up : p.view ≤ least.promise.view = under_low least.promise.view least.promise.regency p.view p.regency least.most in
        let most : least.promise.view ≤ view = upto least.promise (among_left (Promised least.promise) (kept_of front) behind (promise_kept front least.promise least.is)) in
        omega (arith, up, most)

    parts : ArePromisedUpTo view (kept_of front ++ behind) → (p : Promise) → Among (Promised p) (front ++ behind) → p.view ≤ view
    parts upto p there =
        ⊎_elim (λ early. of_kept upto p early) (λ late. upto p (among_right (Promised p) (kept_of front) behind late)) (among_either (Promised p) front behind there)

    by : (t : Bool) → ArePromisedUpTo view (cond t (kept_of front ++ behind) diary) → ArePromisedUpTo view diary
    by true upto = λ p there. parts upto p (subst (λ (es : List LogEntry). Among (Promised p) es) (sym (both_parts place diary)) there)
    by false upto = upto

-- ---- a cut is read again

pub cut_each : (P : LogEntry → Type 0) (place : ℕ) (diary : List LogEntry) → Each P diary → Each P (cut_at place diary)
cut_each P place diary each = each_from P (cut_at place diary) (λ e there. each_among P diary e each (cut_among place diary e there))

begins_with : (xs : List LogEntry) (o : Opening) → take 1 xs ≡ Opened o ∷ [] → IsBegun xs
begins_with [] o is = absurd (cc)
begins_with (x ∷ xs) o is = let same : x ≡ Opened o = cc in ap (λ (y : LogEntry). is_opening y) same

first_begun : (place : ℕ) (e : LogEntry) (es : List LogEntry) → is_opening e ≡ true → IsBegun (cut_at place (e ∷ es))
first_begun place (Opened o) es begun = begins_with (cut_at place (Opened o ∷ es)) o (cut_begun place o es)
first_begun place (Wrote w) es begun = absurd (cc)
first_begun place (Accepted a) es begun = absurd (cc)
first_begun place (Promised p) es begun = absurd (cc)
first_begun place (Synced s) es begun = absurd (cc)
first_begun place (Decided d) es begun = absurd (cc)
first_begun place (Installed i) es begun = absurd (cc)
first_begun place (Marked k) es begun = absurd (cc)

pub cut_of_begun : (place : ℕ) (entries : List LogEntry) → IsBegun entries → IsBegun (cut_at place entries)
cut_of_begun place [] begun = absurd begun
cut_of_begun place (e ∷ es) begun = first_begun place e es begun

none_of_none : (t : Bool) (place : ℕ) → cond t (kept_of (before_place place []) ++ from_place place []) [] ≡ []
none_of_none true place = refl
none_of_none false place = refl

pub begun_cut : (place : ℕ) (entries : List LogEntry) → (entries ≡ []) ⊎ IsBegun entries → (cut_at place entries ≡ []) ⊎ IsBegun (cut_at place entries)
begun_cut place [] begun = inl (none_of_none (has_cut place []) place)
begun_cut place (e ∷ es) (inl none) = absurd (cc)
begun_cut place (e ∷ es) (inr begun) = inr (first_begun place e es begun)

pub read_cut : (place : ℕ) (entries : List LogEntry) → Each FitsEntry entries → entries_in (map entry_text (cut_at place entries)) ≡ cut_at place entries
read_cut place entries fit = read_again (cut_at place entries) (cut_each FitsEntry place entries fit)

-- ---- the latest place of a cut

pub cut_latest : (place : ℕ) (diary : List LogEntry) → latest_made (cut_at place diary) ≡ latest_made diary
cut_latest place diary = by (has_cut place diary) refl
  where
    front : List LogEntry
    front = before_place place diary

    behind : List LogEntry
    behind = from_place place diary

    by : (t : Bool) → has_cut place diary ≡ t → latest_made (cond t (kept_of front ++ behind) diary) ≡ latest_made diary
    by true is =
        let b = begins place diary (cut_makes place diary is) in
        let there : Among b.first behind = subst (λ (es : List LogEntry). Among b.first es) (sym b.is) (inl refl) in
        latest_second (kept_of front) behind b.first place there b.made
        ∙ (sym (latest_second front behind b.first place there b.made) ∙ ap (λ (es : List LogEntry). latest_made es) (both_parts place diary))
    by false is = refl

-- ---- what a cut decides

no_batch : (past : ℕ) (e : LogEntry) (bs : List Batch) → place_made e ≡ None → cons_option (batch_past past e) bs ≡ bs
no_batch past (Opened o) bs none = refl
no_batch past (Wrote w) bs none = refl
no_batch past (Accepted a) bs none = refl
no_batch past (Promised p) bs none = refl
no_batch past (Synced s) bs none = refl
no_batch past (Decided d) bs none = absurd (cc)
no_batch past (Installed i) bs none = absurd (cc)
no_batch past (Marked k) bs none = refl

none_decided : (past : ℕ) (es : List LogEntry) → ((e : LogEntry) → Among e es → place_made e ≡ None) → decided_of past es ≡ []
none_decided past [] none = refl
none_decided past (e ∷ es) none = no_batch past e (decided_of past es) (none e (inl refl)) ∙ none_decided past es (λ x there. none x (inr there))

-- what stands before the place is decided at no later one
low_none : (past : ℕ) (es : List LogEntry) → last_made es ≤ past → decided_of past es ≡ []
low_none past [] low = refl
low_none past (Opened o ∷ es) low = low_none past es (omega (arith, low))
low_none past (Wrote w ∷ es) low = low_none past es (omega (arith, low))
low_none past (Accepted a ∷ es) low = low_none past es (omega (arith, low))
low_none past (Promised p ∷ es) low = low_none past es (omega (arith, low))
low_none past (Synced s ∷ es) low = low_none past es (omega (arith, low))
low_none past (Decided d ∷ es) low = decided_low past d es (le-ltb past d.slot.place (omega (arith, low))) ∙ low_none past es (omega (arith, low))
low_none past (Installed i ∷ es) low = low_none past es (omega (arith, low))
low_none past (Marked k ∷ es) low = low_none past es (omega (arith, low))

-- past its place a cut decides what the whole decides there
pub cut_decides : (secret : List ℕ) (stated : List Statement) (views : List View) (place : ℕ) (entries : List LogEntry) → IsSoundBook secret stated views entries
    → decided_of place (cut_at place entries) ≡ decided_of place entries
cut_decides secret stated views place entries book = by (has_cut place entries) refl
  where
    front : List LogEntry
    front = before_place place entries

    behind : List LogEntry
    behind = from_place place entries

    by : (t : Bool) → has_cut place entries ≡ t → decided_of place (cond t (kept_of front ++ behind) entries) ≡ decided_of place entries
    by true is =
        let low : last_made front < place =
        front_low place front behind (cut_past place entries is) (parts_lawful place entries book.lawful) (begins place entries (cut_makes place entries is)) in
        decided_append place (kept_of front) behind
        ∙ (ap (λ (bs : List Batch). bs ++ decided_of place behind) (none_decided place (kept_of front) (λ e there. (kept front e there).no_place))
        ∙ (sym (ap (λ (bs : List Batch). bs ++ decided_of place behind) (low_none place front (omega (arith, low))))
        ∙ (sym (decided_append place front behind) ∙ ap (λ (es : List LogEntry). decided_of place es) (both_parts place entries))))
    by false is = refl

-- ---- a list along which entries decide

get_drop : {A : Type 0} (past i : ℕ) (xs : List A) → slice_get (drop past xs) i ≡ slice_get xs (past + i)
get_drop zero i xs = (let same : i ≡ 0 + i = omega arith in drop_none_get i xs ∙ ap (λ (k : ℕ). slice_get xs k) same)
  where
    drop_none_get : {A : Type 0} (k : ℕ) (ys : List A) → slice_get (drop 0 ys) k ≡ slice_get ys k
    drop_none_get k [] = refl
    drop_none_get k (y ∷ ys) = refl
get_drop (suc past) i [] = refl
get_drop (suc past) i (x ∷ xs) =
    let next : suc (past + i) ≡ suc past + i = omega arith in
    get_drop past i xs ∙ ap (λ (k : ℕ). slice_get (x ∷ xs) k) next

take_next : {A : Type 0} (xs : List A) (p : ℕ) (x : A) → slice_get xs p ≡ Some x → take (p + 1) xs ≡ take p xs ++ x ∷ []
take_next [] p x at = absurd (cc)
take_next (y ∷ xs) zero x at = cc
take_next (y ∷ xs) (suc p) x at = let e : suc p + 1 ≡ suc (p + 1) = omega arith in rw e (ap (λ ys. y ∷ ys) (take_next xs p x at))

-- the batch at a place of a list stands among those past an earlier place
past_get : (batches : List Batch) (past count : ℕ) (batch : Batch) → batch_at batches (past + count + 1) ≡ Some batch → slice_get (drop past batches) count ≡ Some batch
past_get batches past count batch at =
    let next : past + count + 1 ≡ suc (past + count) = omega arith in
    get_drop past count batches ∙ (sym (ap (λ (k : ℕ). batch_at batches k) next) ∙ at)

module _ (batches : List Batch) (past : ℕ) (whole : List LogEntry) (turn : DecidesInTurn past whole) (along : (d : Decision) → Among (Decided d) whole → batch_at batches d.slot.place ≡ Some d.batch) where
  -- a front decides a front of the batches past the place
  abbrev Slices : List LogEntry → Type 0
  Slices es = decided_of past es ≡ take (length (decided_of past es)) (drop past batches)

  slices_same : (before : List LogEntry) (e : LogEntry) → decided_of past (e ∷ []) ≡ [] → Slices before → Slices (before ++ e ∷ [])
  slices_same before e none is =
      let same = decided_none past before e none in
      same ∙ (is ∙ ap (λ (bs : List Batch). take (length bs) (drop past batches)) (sym same))

  slices_more : (before : List LogEntry) (d : Decision) (after : List LogEntry) → whole ≡ before ++ Decided d ∷ after → past < d.slot.place → Slices before → Slices (before ++ Decided d ∷ [])
  slices_more before d after split some is =
      let ds : List Batch = decided_of past before in
      let at : d.slot.place ≡ past + length ds + 1 = turn before d after split some in
      let there : Among (Decided d) whole = subst (λ (es : List LogEntry). Among (Decided d) es) (sym split) (among_right (Decided d) before (Decided d ∷ after) (inl refl)) in
      let here : slice_get (drop past batches) (length ds) ≡ Some d.batch =
      past_get batches past (length ds) d.batch (subst (λ (k : ℕ). batch_at batches k ≡ Some d.batch) at (along d there)) in
      let more : decided_of past (before ++ Decided d ∷ []) ≡ ds ++ d.batch ∷ [] = decided_last past before d some in
      let long : length (decided_of past (before ++ Decided d ∷ [])) ≡ length ds + 1 = ap (λ (bs : List Batch). length bs) more ∙ length-append ds (d.batch ∷ []) in
      more
      ∙ (ap (λ (bs : List Batch). bs ++ d.batch ∷ []) is
      ∙ (sym (take_next (drop past batches) (length ds) d.batch here) ∙ ap (λ (k : ℕ). take k (drop past batches)) (sym long)))

  slices_step : (before : List LogEntry) (e : LogEntry) (after : List LogEntry) → whole ≡ before ++ e ∷ after → Slices before → Slices (before ++ e ∷ [])
  slices_step before (Opened o) after split is = slices_same before (Opened o) refl is
  slices_step before (Wrote w) after split is = slices_same before (Wrote w) refl is
  slices_step before (Accepted a) after split is = slices_same before (Accepted a) refl is
  slices_step before (Promised p) after split is = slices_same before (Promised p) refl is
  slices_step before (Synced s) after split is = slices_same before (Synced s) refl is
  slices_step before (Decided d) after split is = by (nat_lt past d.slot.place) refl
    where
      by : (t : Bool) → nat_lt past d.slot.place ≡ t → Slices (before ++ Decided d ∷ [])
      by true some = slices_more before d after split (ltb-true past d.slot.place some) is
      by false low = slices_same before (Decided d) (decided_low past d [] low) is
  slices_step before (Installed i) after split is = slices_same before (Installed i) refl is
  slices_step before (Marked k) after split is = slices_same before (Marked k) refl is

  slices_on : (before es : List LogEntry) → whole ≡ before ++ es → Slices before → Slices whole
  slices_on before [] split is = subst Slices (sym (split ∙ append-nil before)) is
  slices_on before (e ∷ es) split is = slices_on (before ++ e ∷ []) es (split ∙ sym (append_assoc before (e ∷ []) es)) (slices_step before e es split is)

  -- entries that decide in turn along a list decide what the list has past the place
  pub decided_slice : Slices whole
  decided_slice = slices_on [] whole refl refl

-- a place that was made is no later than the last
pub place_low : (place : ℕ) (entries : List LogEntry) → (0 < place → HasMade entries place) → place ≤ last_made entries
place_low zero entries has = omega arith
place_low (suc k) entries has = made_most entries (suc k) (has (omega arith))

-- ---- what a cut decides along a list

-- how many batches a cut decides past its place
pub cut_counts : (secret : List ℕ) (stated : List Statement) (views : List View) (place : ℕ) (entries : List LogEntry) → IsSoundBook secret stated views entries → (0 < place → HasMade entries place)
    → InstallUpTo place entries → last_made entries ≡ place + length (decided_of place (cut_at place entries))
cut_counts secret stated views place entries book has upto =
    let cut : List LogEntry = cut_at place entries in
    let turn : InTurn place cut = all_in_turn place cut (cut_lawful place (length cut) entries book.lawful book.tidy upto) in
    let latest : latest_made cut ≡ place_if (last_made entries) = cut_latest place entries ∙ latest_is secret stated views entries book in
    counted_past place (last_made entries) (length (decided_of place cut)) (place_low place entries has) (subst (λ (o : Option ℕ). TurnAt place o (length (decided_of place cut))) latest turn)

pub cut_slice : (secret : List ℕ) (stated : List Statement) (views : List View) (place : ℕ) (batches : List Batch) (entries : List LogEntry) → IsSoundBook secret stated views entries → InstallUpTo place entries
    → AreAlong batches entries → decided_of place (cut_at place entries) ≡ take (length (decided_of place (cut_at place entries))) (drop place batches)
cut_slice secret stated views place batches entries book upto along =
    let cut : List LogEntry = cut_at place entries in
    decided_slice batches place cut (decided_in_turn place cut (cut_lawful place (length cut) entries book.lawful book.tidy upto)) (λ d there. along.decided d (cut_among place entries (Decided d) there))

-- the replica at the place of the checkpoint
pub behind_place : {S : Type 0} (m : Meaning S) (view : View) (place : ℕ) (batches : List Batch) (entries : List LogEntry) → (0 < place → HasMade entries place) → AreAlong batches entries
    → (state m view (take place batches)).place ≡ place
behind_place m view place batches entries has along =
    let low = place_low place entries has in
    let most = along.reached in
    state_place m view (take place batches) ∙ length-take-le place batches (omega (arith, low, most))

-- ---- the node that goes on from a checkpoint and the cut behind it

goes_by : {S : Type 0} (m : Meaning S) (o : Outset S) (cut : List LogEntry) (place : ℕ) (replica : Replica S) → IsBegun cut → o.replica.place ≡ place → after_batches m o.replica (decided_of place cut) ≡ replica
    → reopened m o cut ≡ record (stopped o) { opening = place; entries = cut; replica = replica; restored = length cut; firm = length cut }
goes_by m o [] place replica begun at is = absurd begun
goes_by {S = S} m o (x ∷ xs) place replica begun at is =
    reopened_is m o x xs
    ∙ (ap (λ (k : ℕ). record (stopped o) { opening = o.replica.place; entries = x ∷ xs; replica = after_batches m o.replica (decided_of k (x ∷ xs)); restored = length (x ∷ xs); firm = length (x ∷ xs) }) at
    ∙ (ap (λ (k : ℕ). record (stopped o) { opening = k; entries = x ∷ xs; replica = after_batches m o.replica (decided_of place (x ∷ xs)); restored = length (x ∷ xs); firm = length (x ∷ xs) }) at
    ∙ ap (λ (r : Replica S). record (stopped o) { opening = place; entries = x ∷ xs; replica = r; restored = length (x ∷ xs); firm = length (x ∷ xs) }) is))

-- the state after batches, and then after those past them
behind_batches : {S : Type 0} (m : Meaning S) (view : View) (place count : ℕ) (batches : List Batch)
    → after_batches m (state m view (take place batches)) (take count (drop place batches)) ≡ state m view (take (place + count) batches)
behind_batches m view place count batches =
    after_append m (state m view []) (take place batches) (take count (drop place batches)) ∙ ap (λ (bs : List Batch). state m view bs) (sym (take-add place count batches))

pub cut_state : {S : Type 0} (m : Meaning S) (secret : List ℕ) (stated : List Statement) (view : View) (views : List View) (place : ℕ) (batches : List Batch) (entries : List LogEntry) → IsSoundBook secret stated views entries
    → (0 < place → HasMade entries place) → InstallUpTo place entries → AreAlong batches entries
    → after_batches m (state m view (take place batches)) (decided_of place (cut_at place entries)) ≡ state m view (take (last_made entries) batches)
cut_state m secret stated view views place batches entries book has upto along =
    let ds : List Batch = decided_of place (cut_at place entries) in
    ap (λ (bs : List Batch). after_batches m (state m view (take place batches)) bs) (cut_slice secret stated views place batches entries book upto along)
    ∙ (behind_batches m view place (length ds) batches ∙ ap (λ (k : ℕ). state m view (take k batches)) (sym (cut_counts secret stated views place entries book has upto)))

pub some_begun : (x : LogEntry) (xs : List LogEntry) → (x ∷ xs ≡ []) ⊎ IsBegun (x ∷ xs) → IsBegun (x ∷ xs)
some_begun x xs (inl none) = absurd (cc)
some_begun x xs (inr is) = is

pub cut_reopened : {S : Type 0} (m : Meaning S) (secret : List ℕ) (id : ℕ) (stated : List Statement) (view : View) (views : List View) (period place : ℕ) (batches : List Batch) (checkpoint : Option OwnSnapshot) (e : LogEntry)
    (es : List LogEntry) → IsSoundBook secret stated views (e ∷ es) → (0 < place → HasMade (e ∷ es) place) → InstallUpTo place (e ∷ es) → AreAlong batches (e ∷ es)
    → reopened m (outset_behind m secret id view period place batches checkpoint) (cut_at place (e ∷ es)) ≡ resumed_node m secret id view period place batches checkpoint (e ∷ es)
cut_reopened {S = S} m secret id stated view views period place batches checkpoint e es book has upto along =
    goes_by m (outset_behind m secret id view period place batches checkpoint) (cut_at place (e ∷ es)) place (state m view (take (last_made (e ∷ es)) batches))
    (cut_of_begun place (e ∷ es) (some_begun e es book.begun)) (behind_place m view place batches (e ∷ es) has along) (cut_state m secret stated view views place batches (e ∷ es) book has upto along)

-- ---- entries that install nothing decide their own list

pub own_along : (secret : List ℕ) (stated : List Statement) (views : List View) (entries : List LogEntry) → IsSoundBook secret stated views entries → InstallUpTo 0 entries → AreAlong (decided_of 0 entries) entries
own_along secret stated views entries book none = record {
  decided = λ d there.
      let s = split_at entries (Decided d) there in
      let at = in_turn secret stated views s.before d s.after (subst (λ (es : List LogEntry). IsSoundBook secret stated views es) s.is book) in
      let front = front_of secret stated views s.before (Decided d ∷ s.after) (subst (λ (es : List LogEntry). IsSoundBook secret stated views es) s.is book) in
      let few : InstallUpTo 0 s.before = λ i here. none i (subst (λ (es : List LogEntry). Among (Installed i) es) (sym s.is) (among_left (Installed i) s.before (Decided d ∷ s.after) here)) in
      let count = count_is secret stated views s.before front few in
      let place : d.slot.place ≡ suc (length (decided_of 0 s.before)) = omega (arith, at, count) in
      let parts : decided_of 0 entries ≡ decided_of 0 s.before ++ d.batch ∷ decided_of 0 s.after =
      ap (λ (es : List LogEntry). decided_of 0 es) s.is ∙ (decided_append 0 s.before (Decided d ∷ s.after) ∙ ap (λ (bs : List Batch). decided_of 0 s.before ++ bs) (decided_here 0 d s.after (omega (arith, place)))) in
      ap (λ (k : ℕ). batch_at (decided_of 0 entries) k) place
      ∙ (ap (λ (bs : List Batch). slice_get bs (length (decided_of 0 s.before))) parts ∙ seam (decided_of 0 s.before) d.batch (decided_of 0 s.after));
  reached = (let count = count_is secret stated views entries book none in omega (arith, count));
}
  where
    seam : (xs : List Batch) (y : Batch) (ys : List Batch) → slice_get (xs ++ y ∷ ys) (length xs) ≡ Some y
    seam [] y ys = refl
    seam (x ∷ xs) y ys = seam xs y ys
