-- A host stays right where its store makes a call, where its member crashes, and where its node goes on.
use Rattle.node_laws.specs.Restored.{IsSoundBook}
use Rattle.world_laws.proofs.ListViews.{IsTame, book_list, book_own, node_views}
use Rattle.std.proofs.Common.{◌≡◌, ℕ, zero, suc, ◌+◌, ◌-◌, ◌^◌, ◌<◌, ◌≤◌, ◌++◌, ◌∙◌, true, false, List, [], ◌∷◌, length, take, drop, Option, Some, None, IfSome, refl, ap, sym, subst, arith, append-nil, length-append, inl, inr, ◌⊎◌}
use Rattle.std.specs.Prelude.{option_map}
use Rattle.std.proofs.Math.Seq.{drop-append_seam}
use Rattle.smart_base.specs.Lists.{Each}
use Rattle.smart_base.specs.Views.{View, is_view}
use Rattle.smart_base.proofs.ViewFacts.{each-weaken}
use Rattle.smart_statements.specs.Batches.{Batch}
use Rattle.smart_service.specs.Services.{Meaning}
use Rattle.smart_service.specs.declared.replica.Replica.{Replica}
use Rattle.vote_book.specs.Books.{HasMade, last_made}
use Rattle.vote_book.specs.Entries.{FitsEntry}
use Rattle.vote_book.specs.declared.entry.LogEntry.{LogEntry}
use Rattle.book_laws.specs.BookCuts.{cut_at, InstallUpTo}
use Rattle.book_laws.proofs.CutAgain.{cut_more, more_made}
use Rattle.store_form.specs.Spelling.{IsEntry}
use Rattle.store_form.specs.declared.checkpoint.Checkpoint.{Checkpoint}
use Rattle.store_laws.specs.Restored.{Images, restores}
use Rattle.store_laws.specs.States.{StoreState, MayLeave, store_opened}
use Rattle.store_laws.specs.Asked.{IsOneOf}
use Rattle.world_rules.specs.Crashes.{bytes_held, is_unclosed, still_aside}
use Rattle.world_rules.specs.Fronts.{stated_place, checkpoint_place}
use Rattle.replica_rules.specs.Replicas.{state, views_after}
use Rattle.snapshot_form.specs.Replicas.{IsOfClients, is_first_view}
use Rattle.node_rules.specs.Nodes.{Node, next_place}
use Rattle.node_rules.specs.Reopening.{entries_in, reopened, replica_from, or_empty, outset_from, reopened_from, checkpoint_of}
use Rattle.node_rules.specs.Steps.{Outset, outset}
use Rattle.node_laws.specs.Sound.{IsSound, IsBegun, IsWithin}
use Rattle.node_laws.specs.Restoring.{outset_behind, resumed_node}
use Rattle.node_laws.proofs.CutNodes.{sound_reopened}
use Rattle.node_laws.proofs.Restored.{book_sound}
use Rattle.node_laws.proofs.Cuts.{cut_reopened, read_cut, cut_of_begun}
use Rattle.node_laws.proofs.CutNodes.{sound_behind}
use Rattle.world_rules.specs.Secrets.{group_secret}
use Rattle.world_rules.specs.Worlds.{course_of, Host, written, host_crashed, parts_of, parts_held, host_resumed}
use Rattle.world_rules.specs.declared.message.Sent.{Sent}
use Rattle.world_rules.specs.Stated.{stated}
use Rattle.world_laws.specs.Promises.{IsChosenAt}
use Rattle.world_laws.proofs.Keeps.{after_call}
use Rattle.world_laws.proofs.Snapshots.{IsRestorable, IsSnapshotAt, snapshot_place, snapshot_replica, snapshot_short}
use Rattle.world_laws.proofs.Lives.{book_left, Running, Stopped, Lasts, Crashed, crashed, gives_tail, lasts-called, lasts-crashed, Resumed, place_left, left_texts, left_made, lasts-resumed}
use Rattle.world_laws.proofs.Additions.{IsMarkPast}
use Rattle.world_laws.proofs.Ahead.{one_of, tail_ahead, call_fits}
use Rattle.world_laws.proofs.Few.{few-called, few-crashed, sources}
use Rattle.world_laws.proofs.Fitting.{FitHost, spelled-life}
use Rattle.world_laws.proofs.Chosen.{BookRight, HostRight, front_right, none_right}
use Rattle.agreement_laws.proofs.Lists.{either, each_append}
use Rattle.world_laws.proofs.Grounded.{EntryMet}
use Rattle.replica_laws.proofs.Sources.{FromBook, FromSources, from-opened}
use Rattle.replica_laws.proofs.MarkPlaces.{IsMarkUpTo, marks_reached}
use Rattle.world_laws.proofs.NoClash.{IsMet}
use Rattle.world_laws.proofs.Reopens.{node_behind, none_made, GoesBehind}
use Rattle.world_laws.proofs.CutSources.{from-behind}
use Rattle.replica_rules.proofs.Places.{state_place}
use Rattle.node_rules.specs.declared.node.OwnSnapshot.{OwnSnapshot}
use Rattle.std.proofs.lemmas.List.{length-take-le}
use Rattle.world_laws.proofs.Wholes.{IsAt, made_low}

-- ---- a device call

aside_right : (sent : List Sent) (view : View) (chosen : List Batch) (s : StoreState) (es : List LogEntry) → BookRight sent view chosen es → BookRight sent view chosen (still_aside s es)
aside_right sent view chosen s es b = either (λ (xs : List LogEntry). BookRight sent view chosen xs) (is_unclosed s) es [] b (none_right sent view chosen es b)

-- each snapshot that a right host's store was asked for states a place, and is short
module _ {S : Type 0} (sent : List Sent) (m : Meaning S) (restorable : IsRestorable m) (view : View) (chosen : List Batch) (viewed : is_view view ≡ true) (begins : is_first_view view ≡ true) (low : length chosen < 2 ^ 63)
    (of : Each IsOfClients chosen) where
  pub all_states : (all : List (List ℕ)) → Each (IsSnapshotAt m view chosen) all → Each (λ x. 0 < stated_place x) all
  all_states all each =
      each-weaken (IsSnapshotAt m view chosen) (λ x. 0 < stated_place x) (λ x is. subst (λ (k : ℕ). 0 < k) (sym (snapshot_place m view chosen x low is)) is.some) all each

  pub all_short : (all : List (List ℕ)) → Each (IsSnapshotAt m view chosen) all → Each IsEntry all
  all_short all each =
      each-weaken (IsSnapshotAt m view chosen) IsEntry (λ x is. let short = snapshot_short m restorable view chosen x viewed begins low of is in omega (arith, short)) all each

  -- the store of such a host makes its next call; all that was written has few entries
  pub host-called : (h : Host S) → h.up ≡ true → length (written h) < 2 ^ 28 → FitHost m h → HostRight sent m view chosen h → HostRight sent m view chosen (after_call (course_of m) h)
  host-called h up few fit r =
      let is : Lasts r.all r.past h = r.lasts in
      let run : Running r.all r.past h = is.up up in
      let book : BookRight sent view chosen (written h) = subst (λ (es : List LogEntry). BookRight sent view chosen es) (r.wrote.is up) r.wrote.right in
      record {
        sound = r.sound;
        shared = r.shared;
        all = r.all;
        past = r.past;
        lasts = lasts-called m r.all r.past h up
            (call_fits r.all r.past h is.low run (spelled-life h.life fit.life).diary fit.node.book few (all_short r.all r.snapshots))
            (gives_tail r.all r.past h is.low run book.sound.lawful book.sound.tidy (tail_ahead r.all r.past h run (all_states r.all r.snapshots))) is;
        snapshots = r.snapshots;
        whole = r.whole;
        wrote = record { is = r.wrote.is; cut = r.wrote.cut; made = r.wrote.made; right = r.wrote.right; met = r.wrote.met; past = r.wrote.past; at = r.wrote.at; knows = r.wrote.knows; bounded = r.wrote.bounded };
        count = r.count;
        places = r.places;
        agrees = r.agrees;
        earlier = r.earlier;
        diary = r.diary;
        aside = aside_right sent view chosen (after_call (course_of m) h).store h.life.aside r.aside;
        few = few-called m sent r.whole h r.few;
      }

-- ---- a crash

-- the book of which a front is left
pub left_right : {S : Type 0} (sent : List Sent) (m : Meaning S) (view : View) (chosen : List Batch) (h : Host S) → h.up ≡ true → HostRight sent m view chosen h
    → BookRight sent view chosen (book_left h)
left_right sent m view chosen h up r =
    either (λ (xs : List LogEntry). BookRight sent view chosen xs) (is_unclosed h.store) h.life.aside (written h) r.aside
    (subst (λ (xs : List LogEntry). BookRight sent view chosen xs) (r.wrote.is up) r.wrote.right)

pub host-crash : {S : Type 0} (sent : List Sent) (m : Meaning S) (view : View) (chosen : List Batch) (h : Host S) (left : Images) → (up : h.up ≡ true) → MayLeave h.store.devices left → (r : HostRight sent m view chosen h)
    → Crashed r.all r.past h left
host-crash sent m view chosen h left up may r = crashed r.all r.past h left may (r.lasts.up up)

pub host-crashes : {S : Type 0} (sent : List Sent) (m : Meaning S) (view : View) (chosen : List Batch) (h : Host S) (left : Images) → h.up ≡ true → MayLeave h.store.devices left
    → HostRight sent m view chosen h → HostRight sent m view chosen (host_crashed (course_of m) h left)
host-crashes sent m view chosen h left up may r =
    let c : Crashed r.all r.past h left = host-crash sent m view chosen h left up may r in
    let book : BookRight sent view chosen (book_left h) = left_right sent m view chosen h up r in
    record {
      sound = r.sound;
      shared = r.shared;
      all = r.all;
      past = c.leaves.count - length (restores left).entries;
      lasts = lasts-crashed m r.all r.past h left c r.lasts;
      snapshots = r.snapshots;
      whole = r.whole;
      wrote = record { is = λ up. absurd (apart up); cut = r.wrote.cut; made = r.wrote.made; right = r.wrote.right; met = r.wrote.met; past = r.wrote.past; at = r.wrote.at; knows = r.wrote.knows; bounded = r.wrote.bounded };
      count = r.count;
      places = r.places;
      agrees = r.agrees;
      earlier = r.earlier;
      diary = subst (λ (es : List LogEntry). BookRight sent view chosen es) (sym c.front) (front_right sent view chosen c.leaves.count (book_left h) book);
      aside = aside_right sent view chosen (store_opened left) (book_left h) book;
      few = few-crashed m sent r.whole h left c.leaves.count (r.wrote.is up) c.front r.few;
    }
  where
    apart : false ≡ true → ⊥
    apart same = cc

-- ---- a restart

-- What a node that goes on over a checkpoint and the cut of its member's diary is.
pub record GoesOn {S : Type 0} (sent : List Sent) (m : Meaning S) (view : View) (chosen : List Batch) (id place : ℕ) (d : List LogEntry) (n : Node S) : Type 0 where
  pub resumed : Resumed place d n
  pub name : n.id ≡ id
  pub shared : n.secret ≡ group_secret
  pub sound : IsSound (stated sent) view n
  pub at : IsAt m view chosen n
  pub past : place ≤ n.replica.place
  pub right : BookRight sent view chosen (d ++ resumed.more)
  pub knows : IsSoundBook group_secret (stated sent) n.replica.views (d ++ resumed.more)
  pub bounded : Each (IsWithin n.replica.views (next_place n) (d ++ resumed.more)) (d ++ resumed.more)
  pub short : length resumed.more ≤ 1
  pub reached : last_made d ≤ n.replica.place
  pub met : Each (EntryMet (IsMet sent)) (d ++ resumed.more)
  pub sourced : FromSources (sources sent) n
  pub begun : 0 < length n.entries
  pub written_from : FromBook (sources sent) (d ++ resumed.more)
  pub marks : Each (IsMarkUpTo n.replica.place) (d ++ resumed.more)
  pub unmarked : (k : ℕ) → Each (IsMarkPast k) resumed.more
  pub fetches : n.fetch ≡ None

no_install : (place : ℕ) → InstallUpTo place []
no_install place i there = absurd there

-- nothing was written: it opens a new book
first_goes_on : {S : Type 0} (sent : List Sent) (m : Meaning S) (view : View) (period : ℕ) (chosen : List Batch) (id : ℕ) → IsTame view chosen → BookRight sent view chosen [] → FromBook (sources sent) []
    → GoesOn sent m view chosen id 0 [] (node_behind m group_secret id view period 0 chosen None [])
unfolding reopened
first_goes_on {S = S} sent m view period chosen id tame b from =
    let n : Node S = reopened m (outset m group_secret id view period) [] in
    let sound : IsSound (stated sent) view n = sound_reopened m group_secret id (stated sent) view period [] tame.viewed (book_own group_secret (stated sent) view chosen [] tame b.within b.sound).sound (no_install 0) in
    let here : IsAt m view chosen n = record { reached = omega arith; replica = refl } in
    let f = from-opened (sources sent) m group_secret id view period in
    let sourced : FromSources (sources sent) n =
    record { arrivals = f.arrivals; stops = f.stops; syncs = f.syncs; decisions = f.decisions; fetch = f.fetch; waiting = f.waiting; book = f.book; marks = f.marks } in
    record {
      resumed = record { more = n.entries; opening_is = refl; book = refl; restored_is = refl; firm_is = refl; none = refl };
      name = refl;
      shared = refl;
      sound = sound;
      at = record { reached = omega arith; replica = refl };
      past = omega arith;
      right = record { sound = book_list m group_secret (stated sent) view chosen n n.entries tame here sound.within (book_sound (stated sent) view n sound refl); within = omega arith };
      knows = book_sound (stated sent) view n sound refl;
      bounded = sound.within;
      short = omega arith;
      reached = omega arith;
      met = (tt, tt);
      sourced = sourced;
      begun = omega arith;
      written_from = sourced.book;
      marks = sourced.marks;
      unmarked = λ k. (tt, tt);
      fetches = refl;
    }

later_goes_on : {S : Type 0} (sent : List Sent) (m : Meaning S) (view : View) (period : ℕ) (chosen : List Batch) (id place : ℕ) (checkpoint : Option OwnSnapshot) (e : LogEntry) (es : List LogEntry)
    → IsTame view chosen → BookRight sent view chosen (e ∷ es) → GoesBehind group_secret (stated sent) view place chosen (e ∷ es) → Each (EntryMet (IsMet sent)) (e ∷ es) → FromBook (sources sent) (e ∷ es)
    → GoesOn sent m view chosen id place (e ∷ es) (node_behind m group_secret id view period place chosen checkpoint (e ∷ es))
later_goes_on {S = S} sent m view period chosen id place checkpoint e es tame b goes met from =
    let d : List LogEntry = e ∷ es in
    let x : Node S = resumed_node m group_secret id view period place chosen checkpoint (e ∷ es) in
    let same = cut_reopened m group_secret id (stated sent) view (views_after view chosen) period place chosen checkpoint e es goes.sound goes.made goes.upto goes.along in
    let all : (e ∷ es) ++ [] ≡ e ∷ es = append-nil (e ∷ es) in
    let reached = goes.along.reached in
    let place_is : x.replica.place ≡ last_made (e ∷ es) = state_place m view (take (last_made (e ∷ es)) chosen) ∙ length-take-le (last_made (e ∷ es)) chosen goes.along.reached in
    let low = made_low place (e ∷ es) goes.made in
    let own = book_own group_secret (stated sent) view chosen (e ∷ es) tame goes.along.reached goes.sound in
    let here : IsAt m view chosen x = record { reached = omega (arith, place_is, reached); replica = ap (λ (k : ℕ). state m view (take k chosen)) (sym place_is) } in
    let views : x.replica.views ≡ views_after view (take (last_made (e ∷ es)) chosen) = node_views m view chosen x here ∙ ap (λ (k : ℕ). views_after view (take k chosen)) place_is in
    subst (λ (n : Node S). GoesOn sent m view chosen id place (e ∷ es) n) (sym same) (record {
      resumed = record { more = []; opening_is = refl; book = sym (append-nil (cut_at place (e ∷ es))); restored_is = refl; firm_is = refl; none = refl };
      name = refl;
      shared = refl;
      sound = subst (λ (n : Node S). IsSound (stated sent) view n) same (sound_behind m group_secret id (stated sent) view period place chosen checkpoint e es own.are own.sound goes.made goes.upto goes.along);
      at = record { reached = omega (arith, place_is, reached); replica = ap (λ (k : ℕ). state m view (take k chosen)) (sym place_is) };
      past = omega (arith, place_is, low);
      right = subst (λ (xs : List LogEntry). BookRight sent view chosen xs) (sym all) b;
      knows = subst (λ (xs : List LogEntry). IsSoundBook group_secret (stated sent) x.replica.views xs) (sym all)
          (subst (λ (vs : List View). IsSoundBook group_secret (stated sent) vs d) (sym views) own.sound);
      bounded = subst (λ (xs : List LogEntry). Each (IsWithin x.replica.views (next_place x) xs) xs) (sym all)
          (subst (λ (k : ℕ). Each (IsWithin x.replica.views (k + 1) d) d) (sym place_is) (subst (λ (vs : List View). Each (IsWithin vs (last_made d + 1) d) d) (sym views) own.within));
      short = omega arith;
      reached = omega (arith, place_is);
      met = subst (λ (xs : List LogEntry). Each (EntryMet (IsMet sent)) xs) (sym all) met;
      sourced = from-behind (sources sent) group_secret (stated sent) (views_after view chosen) m view id period place chosen checkpoint (e ∷ es) goes.sound goes.along.reached from;
      begun = some_entries (cut_at place (e ∷ es)) (cut_of_begun place (e ∷ es) (begun_book e es b.sound.begun));
      written_from = subst (λ (xs : List LogEntry). FromBook (sources sent) xs) (sym all) from;
      marks = subst (λ (xs : List LogEntry). Each (IsMarkUpTo x.replica.place) xs) (sym all)
          (subst (λ (k : ℕ). Each (IsMarkUpTo k) (e ∷ es)) (sym place_is) (marks_reached group_secret (stated sent) (views_after view chosen) (e ∷ es) b.sound));
      unmarked = λ k. tt;
      fetches = refl;
    })
  where
    some_entries : (xs : List LogEntry) → IsBegun xs → 0 < length xs
    some_entries [] begun = absurd begun
    some_entries (x ∷ xs) begun = omega arith

    begun_book : (x : LogEntry) (xs : List LogEntry) → (x ∷ xs ≡ []) ⊎ IsBegun (x ∷ xs) → IsBegun (x ∷ xs)
    begun_book x xs (inl none) = absurd (cc)
    begun_book x xs (inr is) = is

pub goes_on : {S : Type 0} (sent : List Sent) (m : Meaning S) (view : View) (period : ℕ) (chosen : List Batch) (id place : ℕ) (checkpoint : Option OwnSnapshot) (d : List LogEntry) → IsTame view chosen
    → BookRight sent view chosen d → GoesBehind group_secret (stated sent) view place chosen d → (place ≡ 0 → checkpoint ≡ None) → Each (EntryMet (IsMet sent)) d → FromBook (sources sent) d
    → GoesOn sent m view chosen id place d (node_behind m group_secret id view period place chosen checkpoint d)
goes_on {S = S} sent m view period chosen id zero checkpoint [] tame b goes none met from =
    subst (λ (o : Option OwnSnapshot). GoesOn sent m view chosen id zero [] (node_behind m group_secret id view period zero chosen o [])) (sym (none refl)) (first_goes_on sent m view period chosen id tame b from)
goes_on sent m view period chosen id (suc k) checkpoint [] tame b goes none met from = absurd (none_made k goes.made)
goes_on sent m view period chosen id place checkpoint (e ∷ es) tame b goes none met from = later_goes_on sent m view period chosen id place checkpoint e es tame b goes met from

-- the own snapshot of a checkpoint
abbrev pub own_left : Option Checkpoint → Option OwnSnapshot
own_left None = None
own_left (Some x) = Some (record { place = stated_place x.snapshot; snapshot = x.snapshot; needs = 0 })

-- what it begins from, by the checkpoint that its devices hold: the state of the list after that place
pub outset_left : {S : Type 0} (m : Meaning S) → IsRestorable m → (view : View) (period : ℕ) (chosen : List Batch) (id : ℕ) → is_view view ≡ true → is_first_view view ≡ true → length chosen < 2 ^ 63 → Each IsOfClients chosen
    → (present : Option Checkpoint) → IfSome present (λ (x : Checkpoint). IsSnapshotAt m view chosen x.snapshot)
    → outset_from m group_secret id view period (option_map (λ x. x.snapshot) present) ≡ outset_behind m group_secret id view period (checkpoint_place present) chosen (own_left present)
outset_left m restorable view period chosen id viewed begins low of None is = refl
outset_left {S = S} m restorable view period chosen id viewed begins low of (Some x) is =
    let at : stated_place x.snapshot ≡ is.place = snapshot_place m view chosen x.snapshot low is in
    let r : Replica S = state m view (take is.place chosen) in
    let long : r.place ≡ is.place = state_place m view (take is.place chosen) ∙ length-take-le is.place chosen is.within in
    let read : replica_from m view (Some x.snapshot) ≡ Some (state m view (take is.place chosen)) = snapshot_replica m restorable view chosen x.snapshot viewed begins low of is in
    ap (λ (o : Option (Replica S)). record { member = id; secret = group_secret; period = period; replica = or_empty m view o; checkpoint = checkpoint_of o (Some x.snapshot) }) read
    ∙ (ap (λ (k : ℕ). record { member = id; secret = group_secret; period = period; replica = state m view (take is.place chosen); checkpoint = Some (record { place = k; snapshot = x.snapshot; needs = 0 }) }) (long ∙ sym at)
    ∙ ap (λ (k : ℕ). record { member = id; secret = group_secret; period = period; replica = state m view (take k chosen); checkpoint = Some (record { place = stated_place x.snapshot; snapshot = x.snapshot; needs = 0 }) }) (sym at))

-- a node that goes on from what its member's devices hold
pub node_left : {S : Type 0} (m : Meaning S) → IsRestorable m → (view : View) (period : ℕ) (chosen : List Batch) (h : Host S) (all : List (List ℕ)) (past : ℕ) → (s : Stopped all past h) → is_view view ≡ true
    → is_first_view view ≡ true → length chosen < 2 ^ 63 → Each IsOfClients chosen → Each (IsSnapshotAt m view chosen) all → Each FitsEntry h.life.diary
    → reopened_from m group_secret h.node.id view period (parts_held h) ≡ node_behind m group_secret h.node.id view period (place_left s) chosen (own_left (restores s.left).present) h.life.diary
unfolding reopened_from
node_left {S = S} m restorable view period chosen h all past s viewed begins low of each fits =
    let asked : IfSome (restores s.left).present (λ (x : Checkpoint). IsSnapshotAt m view chosen x.snapshot) = is_asked (restores s.left).present s.asked in
    ap (λ (t : StoreState). reopened_from m group_secret h.node.id view period (parts_of (restores (bytes_held t)))) s.opened
    ∙ (ap (λ (o : Outset S). reopened m o (entries_in (restores s.left).entries)) (outset_left m restorable view period chosen h.node.id viewed begins low of (restores s.left).present asked)
    ∙ ap (λ (es : List LogEntry). reopened m (outset_behind m group_secret h.node.id view period (place_left s) chosen (own_left (restores s.left).present)) es)
    (ap entries_in (left_texts all past h s) ∙ read_cut (place_left s) h.life.diary fits))
  where
    is_asked : (present : Option Checkpoint) → IfSome present (λ (x : Checkpoint). IsOneOf all x.snapshot) → IfSome present (λ (x : Checkpoint). IsSnapshotAt m view chosen x.snapshot)
    is_asked None is = tt
    is_asked (Some x) is = one_of (IsSnapshotAt m view chosen) all x.snapshot each is

-- the host with it
pub host-resumes : {S : Type 0} (sent : List Sent) (m : Meaning S) (view : View) (chosen : List Batch) (h : Host S) (n : Node S) → (r : HostRight sent m view chosen h) → (down : h.up ≡ false)
    → GoesOn sent m view chosen h.node.id (place_left (r.lasts.down down)) h.life.diary n → length h.life.diary < 2 ^ 28 → HostRight sent m view chosen (host_resumed h n)
host-resumes {S = S} sent m view chosen h n r down g few =
    let s : Stopped r.all r.past h = r.lasts.down down in
    let d : List LogEntry = h.life.diary in
    let more : List LogEntry = g.resumed.more in
    let cut : List LogEntry = cut_at (place_left s) d in
    let made : 0 < place_left s → HasMade d (place_left s) = left_made r.all r.past h s in
    let long = length-append d more in
    let one = g.short in
    let rest : drop n.firm n.entries ≡ more =
    ap (λ (k : ℕ). drop k n.entries) g.resumed.firm_is ∙ (ap (λ (es : List LogEntry). drop (length cut) es) g.resumed.book ∙ drop-append_seam cut more) in
    record {
      sound = g.sound;
      shared = g.shared;
      all = r.all;
      past = r.past;
      lasts = lasts-resumed h n r.all r.past s g.resumed (omega (arith, long, one, few));
      snapshots = r.snapshots;
      whole = d ++ more;
      wrote = record {
        is = λ up. ap (λ (es : List LogEntry). d ++ es) (sym rest);
        cut = g.resumed.book ∙ (sym (cut_more (place_left s) d more made) ∙ ap (λ (k : ℕ). cut_at k (d ++ more)) (sym g.resumed.opening_is));
        made = subst (λ (k : ℕ). 0 < k → HasMade (d ++ more) k) (sym g.resumed.opening_is) (λ some. more_made (place_left s) d more (made some));
        right = g.right;
        knows = g.knows;
        bounded = g.bounded;
        met = g.met;
        past = (let begins = g.resumed.opening_is in let past = g.past in omega (arith, begins, past));
        at = g.at;
      };
      count = omega arith;
      places = tt;
      agrees = tt;
      earlier = each_append (IsChosenAt m view chosen) h.earlier h.delivered r.earlier r.agrees;
      diary = r.diary;
      aside = r.aside;
      few = record { node = g.sourced; begun = g.begun; written_from = g.written_from; marks = g.marks; diary = r.few.diary; aside = r.few.aside };
    }
