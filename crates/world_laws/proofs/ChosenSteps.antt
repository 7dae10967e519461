-- A host stays right where its node takes an event. What the step writes goes on behind all that was written before.
use Rattle.vote_book.specs.Tidy.{promise_of}
use Rattle.node_laws.proofs.Delivering.{waits_alone}
use Rattle.node_laws.proofs.Books.{all_within_more, greatest_append, promise_most, promised_greatest}
use Rattle.std.proofs.Common.{◌≡◌, ℕ, ◌+◌, ◌<◌, ◌≤◌, ◌++◌, ◌∙◌, true, List, [], ◌∷◌, length, take, drop, refl, ap, sym, subst, arith, length-append, Bool, None, append-nil, cond, false, inl, inr, is_some, nat_lt, ◌^◌, ◌⊎◌, Option, zero, suc}
use Rattle.std.specs.List.{flat_map}
use Rattle.std.specs.Prelude.{slice_get, Some, IfSome}
use Rattle.std.proofs.lemmas.List.{length-take-le}
use Rattle.smart_base.specs.Lists.{Each, or_else}
use Rattle.smart_base.proofs.ViewFacts.{each-weaken}
use Rattle.smart_statements.specs.Batches.{Batch}
use Rattle.smart_statements.specs.declared.entry.NodeEvent.{NodeEvent}
use Rattle.smart_service.specs.Services.{Meaning}
use Rattle.vote_book.specs.Books.{HasMade, Among, last_made}
use Rattle.vote_book.specs.declared.entry.LogEntry.{LogEntry}
use Rattle.book_laws.specs.BookCuts.{cut_at, has_cut, kept_of, before_place, from_place}
use Rattle.book_laws.proofs.CutAgain.{cut_more, more_made}
use Rattle.replica_rules.specs.Replicas.{state, views_after}
use Rattle.node_rules.specs.Nodes.{Node, next_place, greatest_regency}
use Rattle.node_rules.specs.Deliveries.{delivery_in}
use Rattle.node_rules.specs.Steps.{Outcome, step_of, takes_in, made_firm}
use Rattle.node_laws.specs.Sound.{IsSound, HasDecided, IsWithin}
use Rattle.node_laws.specs.Restored.{IsSoundBook}
use Rattle.node_laws.proofs.Passes.{sound_step, sound_released, sound_takes_in}
use Rattle.node_laws.proofs.Restored.{front_of}
use Rattle.world_laws.proofs.ListViews.{IsTame, book_list}
use Rattle.world_laws.proofs.Views.{Grows, book-grows, grows-step}
use Rattle.node_laws.proofs.CutNodes.{sound_written}
use Rattle.replica_laws.proofs.Follows.{Waits, waits-takes_in, WasDue, due-step}
use Rattle.replica_laws.proofs.Counted.{counted-step}
use Rattle.replica_laws.proofs.Longer.{opening-step, Longer, longer-step, told_firm}
use Rattle.world_rules.specs.Secrets.{group_secret}
use Rattle.world_rules.specs.Worlds.{course_of, segment_of, Host, World, written, newly_wanted, place_of_own, chosen_with, host_after}
use Rattle.world_rules.specs.Stated.{stated, diary}
use Rattle.world_laws.specs.Promises.{IsChosenAt}
use Rattle.world_laws.proofs.Keeps.{MayRead}
use Rattle.world_laws.proofs.NoClash.{IsMet}
use Rattle.world_laws.proofs.Grounded.{EntryMet, step-met}
use Rattle.world_laws.proofs.Switching.{none_taken, all_with, IsTaken, each_last, last_both, last_rises}
use Rattle.world_laws.proofs.Snapshots.{IsRestorable, IsSnapshotAt, snapshot_longer, snapshot_place, states_place}
use Rattle.world_laws.proofs.Wholes.{IsAt, at_longer, whole_last}
use Rattle.node_laws.proofs.Installing.{IsReady}
use Rattle.node_laws.proofs.Planning.{IsTakenFrom}
use Rattle.replica_laws.proofs.FitNodes.{Settles}
use Rattle.replica_laws.proofs.Small.{IsBrief}
use Rattle.state_transfer.specs.Fetches.{are_all_there, joined_of}
use Rattle.state_transfer.specs.declared.fetch.Fetch.{Fetch}
use Rattle.world_laws.proofs.Fetching.{IsFetchMet}
use Rattle.world_laws.proofs.Fitting.{settled-by}
use Rattle.world_laws.proofs.Stands.{IsStateAt, installed-text, moved-at}
use Rattle.world_laws.proofs.Taken.{certified_replica}
use Rattle.replica_laws.proofs.Moves.{moved-step, moves_place, same-takes_in}
use Rattle.replica_laws.proofs.Segments.{segment_all}
use Rattle.world_laws.proofs.Lives.{Goes, lasts-after, written_then, Running, fits_now}
use Rattle.world_laws.proofs.Few.{begun-step, few-after, few-book, few-step, sources}
use Rattle.world_laws.proofs.Witnessing.{stated_event, running_shown}
use Rattle.world_laws.proofs.Chosen.{BookRight, HostRight, ChosenRight, are_restorable, book-along, book_longer, front_right, chosen-front, chosen_longer, right-marks, within-step, due-agrees, each-step, known-witnessed, low-step, right_tame}
use Rattle.agreement_laws.proofs.Lists.{each_append, among_right}
use Rattle.world_laws.proofs.Additions.{Adds, IsNewOf, IsOverOf, IsOwnOf, adds-step}
use Rattle.smart_statements.specs.declared.entry.NodeEvent.TheVariants.{Arrive, Deliver, Firm, Tick}
use Rattle.vote_book.specs.declared.entry.LogEntry.TheVariants.{Decided}
use Rattle.world_laws.proofs.Stores.{Fits, IsTold, firm-grows, firm-heard}
use Rattle.node_rules.proofs.Rulewise.{ForEvent}
use Rattle.replica_laws.proofs.Sources.{FromBook, FromSources, HasSource}
use Rattle.node_rules.specs.declared.node.Held.{Held}
use Rattle.agreement_laws.specs.Fronts.{IsFront}
use Rattle.replica_laws.proofs.MarkPlaces.{IsMarkUpTo, up_to_more}
use Rattle.agreement_laws.specs.Diaries.{IsShown}
use Rattle.smart_base.specs.declared.party.Party.TheVariants.{Member}
use Rattle.book_laws.proofs.CutEntries.{cut_among}
use Rattle.replica_rules.specs.Seals.{digest_of, is_alone}
use Rattle.world_laws.proofs.CutSources.{from-written, newest_behind}
use Rattle.world_laws.proofs.Fronts.{front-length, front-take}
use Rattle.node_rules.specs.Marks.{last_taken}
use Rattle.std.proofs.lemmas.Bool.{ltb-false, ltb-true}
use Rattle.agreement_laws.specs.Statements.{signer_of, statements}
use Rattle.snapshot_form.specs.Snapshots.{restored, snapshot_text}
use Rattle.world_rules.specs.Fronts.{stated_place}
use Rattle.std.proofs.Math.Seq.{take-append_seam}
use Rattle.node_rules.specs.declared.node.OwnSnapshot.{OwnSnapshot}
use Rattle.smart_service.specs.declared.replica.Replica.{Replica}
use Rattle.node_laws.specs.Restoring.{AreAlong}
use Rattle.node_rules.proofs.Entries.{takes_in_same}
use Rattle.node_rules.specs.declared.node.Delivery.{Delivery}
use Rattle.replica_rules.proofs.Places.{state_place}
use Rattle.world_rules.specs.Premises.{is_among}

-- ---- a step of its node

-- a longer book of the same member and life, of which more is firm
pub record Later {S : Type 0} (n n' : Node S) : Type 0 where
  pub named : n'.id ≡ n.id
  pub shared : n'.secret ≡ n.secret
  pub restored_is : n'.restored ≡ n.restored
  pub book : IsFront n.entries n'.entries
  pub firm : n.firm ≤ n'.firm
  pub low : n'.firm ≤ length n'.entries

later : {S : Type 0} (n a n' : Node S) → a.id ≡ n.id → a.secret ≡ n.secret → a.restored ≡ n.restored → a.entries ≡ n.entries → n.firm ≤ a.firm → a.firm ≤ length n.entries → Longer a n' → Later n n'
later {S = S} n a n' id secret restored entries firm low f =
    let book : IsFront n.entries n'.entries = subst (λ (es : List LogEntry). IsFront es n'.entries) entries f.book in
    let longer : length n'.entries ≡ length n.entries + length book.rest = ap (λ (es : List LogEntry). length es) book.is ∙ length-append n.entries book.rest in
    record { named = f.named ∙ id; shared = f.shared ∙ secret; restored_is = f.restored_is ∙ restored; book = book; firm = omega (arith, firm, f.firm_is); low = omega (arith, low, f.firm_is, longer) }

pub later-step : {S : Type 0} (m : Meaning S) (h : Host S) (event : NodeEvent) → IsTold h event → Fits h.node h.store → h.node.firm ≤ length h.node.entries → Later h.node (step_of m h.node event).node
later-step m h (Arrive bytes) told stored low = later h.node h.node _ refl refl refl refl (omega arith) low (longer-step m h.node (Arrive bytes))
later-step m h Tick told stored low = later h.node h.node _ refl refl refl refl (omega arith) low (longer-step m h.node Tick)
later-step m h Deliver told stored low = later h.node h.node _ refl refl refl refl (omega arith) low (longer-step m h.node Deliver)
later-step m h (Firm count) told stored low =
    let grows = firm-grows h count told stored in
    later h.node (made_firm h.node count) _ refl refl refl refl grows.0 grows.1 (longer-step m h.node (Firm count))

-- as much stays restored
pub restored-step : {S : Type 0} (m : Meaning S) (n : Node S) (event : NodeEvent) → (step_of m n event).node.restored ≡ n.restored
restored-step {S} m n event = (longer-step m n event).restored_is ∙ told n event
  where
    told : (x : Node S) (e : NodeEvent) → (told_firm x e).restored ≡ x.restored
    told x (Arrive bytes) = refl
    told x Tick = refl
    told x Deliver = refl
    told x (Firm count) = refl

-- as much is firm as the store tells
heard-step : {S : Type 0} (m : Meaning S) (h : Host S) (event : NodeEvent) → IsTold h event → Fits h.node h.store → h.node.firm ≤ h.store.firm → (step_of m h.node event).node.firm ≤ h.store.firm
heard-step m h (Arrive bytes) told stored heard = let same = (longer-step m h.node (Arrive bytes)).firm_is in omega (arith, same, heard)
heard-step m h Tick told stored heard = let same = (longer-step m h.node Tick).firm_is in omega (arith, same, heard)
heard-step m h Deliver told stored heard = let same = (longer-step m h.node Deliver).firm_is in omega (arith, same, heard)
heard-step {S = S} m h (Firm count) told stored heard =
    let same = (longer-step m h.node (Firm count)).firm_is in
    let all : (made_firm h.node count).firm ≡ h.store.firm = ap (λ (k : ℕ). (made_firm h.node k).firm) told.life ∙ firm-heard h.node h.store stored in
    omega (arith, same, all)

-- what comes has a source
abbrev pub IsSourced : {S : Type 0} → World S → NodeEvent → Type 0
IsSourced w event = ForEvent (λ message. HasSource (sources w.sent) message) event

-- ---- what is behind it

-- what holds of each entry of both, holds of each of the second
each_front : {A : Type 0} (P : A → Type 0) (xs ys : List A) → Each P (xs ++ ys) → Each P xs
each_front P [] ys each = tt
each_front P (x ∷ xs) ys each = (each.0, each_front P xs ys each.1)

each_rest : {A : Type 0} (P : A → Type 0) (xs ys : List A) → Each P (xs ++ ys) → Each P ys
each_rest P [] ys each = each
each_rest P (x ∷ xs) ys each = each_rest P xs ys each.1

-- the cut of no entries has none
some_cut : (place : ℕ) (whole : List LogEntry) → 0 < length (cut_at place whole) → whole ≡ [] → ⊥
some_cut place whole some none =
    let long : length (cut_at place whole) ≡ 0 = ap (λ (es : List LogEntry). length (cut_at place es)) none ∙ ap (λ (es : List LogEntry). length es) (by (has_cut place [])) in
    omega (arith, some, long)
  where
    by : (t : Bool) → cond t (kept_of (before_place place []) ++ from_place place []) [] ≡ []
    by true = refl
    by false = refl

some_long : (es : List LogEntry) → (es ≡ [] → ⊥) → 0 < length es
some_long [] none = absurd (none refl)
some_long (e ∷ es) none = omega arith

-- a batch that waits is decided in the book
waits_made : (entries : List LogEntry) (place : ℕ) (waiting : Option Batch) → IfSome waiting (HasDecided entries place) → is_some waiting ≡ true → HasMade entries place
waits_made entries place None decided waits = absurd cc
waits_made entries place (Some batch) decided waits = record { entry = Decided decided.decision; there = decided.there; made = ap (λ (k : ℕ). Some k) decided.place_is }

-- a cut makes no place that the whole does not
cut_made : (place : ℕ) (whole : List LogEntry) (k : ℕ) → HasMade (cut_at place whole) k → HasMade whole k
cut_made place whole k has = record { entry = has.entry; there = cut_among place whole has.entry has.there; made = has.made }

taken_more : (opening : ℕ) (book rest : List LogEntry) (own : OwnSnapshot) → IsTaken opening book own → IsTaken opening (book ++ rest) own
taken_more opening book rest own is = record { some = is.some; past = is.past; made = more_made own.place book rest is.made; states = is.states }

module _ {S : Type 0} (m : Meaning S) (w : World S) (i : ℕ) (h : Host S) (event : NodeEvent) (on : w.ending ≡ None) (up : h.up ≡ true) (at : slice_get w.hosts i ≡ Some h) (may : MayRead w h event) (came : IsSourced w event) (told : IsTold h event)
    (service : IsRestorable m) (r : ChosenRight m w) (hr : HostRight w.sent m w.view w.chosen h) (text : IsFetchMet w.sent w.marked (takes_in h.node event).node.fetch) where
  abbrev later_node : Node S
  later_node = (step_of m h.node event).node

  abbrev more : List Batch
  more = chosen_with w.chosen (next_place (step_of m h.node event).node) (step_of m h.node event).node.waiting

  abbrev taken : Node S
  taken = (takes_in h.node event).node

  abbrev adds : Adds m h.node (takes_in h.node event).node (step_of m h.node event).node
  adds = adds-step m h.node event

  abbrev rest : List LogEntry
  rest = (adds-step m h.node event).rest

  abbrev whole : List LogEntry
  whole = hr.whole ++ (adds-step m h.node event).rest

  abbrev running : Running hr.all hr.past h
  running = hr.lasts.up up

  pub goes_later : Later h.node (step_of m h.node event).node
  goes_later = later-step m h event told (fits_now hr.all hr.past h up hr.lasts) hr.lasts.low

  opening : later_node.opening ≡ h.node.opening
  opening = opening-step m h.node event

  sound : IsSound (stated w.sent) w.view later_node
  sound = sound_step m (stated w.sent) w.view h.node event hr.sound (stated_event w h h.node.secret event hr.shared may)

  shared : later_node.secret ≡ group_secret
  shared = goes_later.shared ∙ hr.shared

  entries : later_node.entries ≡ cut_at later_node.opening hr.whole ++ rest
  entries =
      adds.book_is
      ∙ (ap (λ (es : List LogEntry). es ++ rest) hr.wrote.cut ∙ ap (λ (k : ℕ). cut_at k hr.whole ++ rest) (sym opening))

  made : 0 < later_node.opening → HasMade hr.whole later_node.opening
  made = subst (λ (k : ℕ). 0 < k → HasMade hr.whole k) (sym opening) hr.wrote.made

  -- something was written before
  begun : 0 < length (cut_at later_node.opening hr.whole)
  begun = subst (λ (k : ℕ). 0 < length (cut_at k hr.whole)) (sym opening) (subst (λ (es : List LogEntry). 0 < length es) hr.wrote.cut hr.few.begun)

  some_whole : hr.whole ≡ [] → ⊥
  some_whole = some_cut later_node.opening hr.whole begun

  -- the node that has taken the event in is at the same place, with the same book
  same_waits : Waits h.node taken
  same_waits = waits-takes_in h.node event

  same_book : taken.entries ≡ h.node.entries
  same_book = takes_in_same h.node event

  same_secret : taken.secret ≡ group_secret
  same_secret = (same-takes_in h.node event).0 ∙ hr.shared

  same_opening : taken.opening ≡ h.node.opening
  same_opening = (same-takes_in h.node event).1

  taken_sound : IsSound (stated w.sent) w.view taken
  taken_sound = sound_takes_in (stated w.sent) w.view h.node event hr.sound (stated_event w h h.node.secret event hr.shared may)

  along : AreAlong w.chosen hr.whole
  along = book-along m w hr.whole r hr.wrote.met hr.wrote.right

  taken_at : IsAt m w.view w.chosen taken
  taken_at = record {
    reached = subst (λ (x : Replica S). x.place ≤ length w.chosen) (sym same_waits.replica_is) hr.wrote.at.reached;
    replica = subst (λ (x : Replica S). x ≡ state m w.view (take x.place w.chosen)) (sym same_waits.replica_is) hr.wrote.at.replica;
  }

  -- so is its replica behind the step
  pub stands : IsStateAt m w.view w.chosen later_node.replica
  stands =
      moved-at m group_secret (stated w.sent) w.view w.chosen w.sent w.marked (is_among w.faulty) (diary w) (known-witnessed m w r.1 on) (right-marks m w r.1 on) r.0.0.texts (are_restorable m w service r.1) hr.whole taken taken_sound same_secret
      (same_book ∙ (hr.wrote.cut ∙ ap (λ (k : ℕ). cut_at k hr.whole) (sym same_opening))) along taken_at text later_node.replica (moved-step m h.node event)

  place_grows : h.node.replica.place ≤ later_node.replica.place
  place_grows = let most = moves_place m taken later_node.replica (moved-step m h.node event) in let same = ap (λ (x : Replica S). x.place) same_waits.replica_is in omega (arith, most, same)

  at_list : IsAt m w.view w.chosen later_node
  at_list = record { reached = stands.reached; replica = stands.replica }

  front : take (length w.chosen) more ≡ w.chosen
  front = chosen-front w.chosen (next_place later_node) later_node.waiting

  longer_at : IsAt m w.view more later_node
  longer_at = at_longer m w.view w.chosen more later_node front at_list

  -- ---- its views

  -- those that it knew, and later ones
  grows : Grows h.node later_node
  grows = grows-step m (stated w.sent) w.view h.node event taken_sound

  -- so what was written before stays sound by them
  knows : IsSoundBook group_secret (stated w.sent) later_node.replica.views hr.whole × Each (IsWithin later_node.replica.views (next_place h.node) hr.whole) hr.whole
  knows = book-grows group_secret (stated w.sent) (stated w.sent) (stated w.sent) w.view h.node later_node hr.whole hr.sound sound grows hr.wrote.bounded hr.wrote.knows

  -- all of it is sound together
  whole_knows : IsSoundBook group_secret (stated w.sent) later_node.replica.views whole
  whole_knows =
      subst (λ (k : List ℕ). IsSoundBook k (stated w.sent) later_node.replica.views whole) shared
      (sound_written (stated w.sent) w.view later_node hr.whole rest sound (subst (λ (k : List ℕ). IsSoundBook k (stated w.sent) later_node.replica.views hr.whole) (sym shared) knows.0) entries made some_whole)

  -- a cut promises no more than the whole
  cut_most : (k : ℕ) → greatest_regency k (cut_at later_node.opening hr.whole) ≤ greatest_regency k hr.whole
  cut_most k = most (greatest_regency k (cut_at later_node.opening hr.whole)) refl
    where
      most : (g : ℕ) → greatest_regency k (cut_at later_node.opening hr.whole) ≡ g → g ≤ greatest_regency k hr.whole
      most zero is = omega arith
      most (suc g) is =
          let there : Among (promise_of k (greatest_regency k (cut_at later_node.opening hr.whole))) (cut_at later_node.opening hr.whole) = promised_greatest k (cut_at later_node.opening hr.whole) (omega (arith, is)) in
          let least = promise_most k hr.whole (record { view = k; regency = greatest_regency k (cut_at later_node.opening hr.whole) }) refl (cut_among later_node.opening hr.whole (promise_of k (greatest_regency k (cut_at later_node.opening hr.whole))) there) in
          omega (arith, is, least)

  -- and it names no place past the node's next one
  whole_bounded : Each (IsWithin later_node.replica.views (next_place later_node) whole) whole
  whole_bounded =
      each_append (IsWithin later_node.replica.views (next_place later_node) whole) hr.whole rest
      (all_within_more later_node.replica.views (next_place h.node) (next_place later_node) hr.whole whole hr.whole (omega (arith, place_grows))
      (λ k. let all = greatest_append k hr.whole rest in omega (arith, all)) knows.1)
      (all_within_more later_node.replica.views (next_place later_node) (next_place later_node) later_node.entries whole rest (omega arith)
      (λ k.
      let own = ap (λ (es : List LogEntry). greatest_regency k es) entries ∙ greatest_append k (cut_at later_node.opening hr.whole) rest in
      let all = greatest_append k hr.whole rest in
      let least = cut_most k in
      omega (arith, own, all, least))
      (each_rest (IsWithin later_node.replica.views (next_place later_node) later_node.entries) (cut_at later_node.opening hr.whole) rest
      (subst (λ (es : List LogEntry). Each (IsWithin later_node.replica.views (next_place later_node) later_node.entries) es) entries sound.within)))

  pub whole_sound : IsSoundBook group_secret (stated w.sent) (views_after w.view w.chosen) whole
  whole_sound = book_list m group_secret (stated w.sent) w.view w.chosen later_node whole (right_tame m w r.1) at_list whole_bounded whole_knows

  whole_cut : later_node.entries ≡ cut_at later_node.opening whole
  whole_cut = entries ∙ sym (cut_more later_node.opening hr.whole rest made)

  whole_made : 0 < later_node.opening → HasMade whole later_node.opening
  whole_made low = more_made later_node.opening hr.whole rest (made low)

  whole_met : Each (EntryMet (IsMet w.sent)) whole
  whole_met =
      each_append (EntryMet (IsMet w.sent)) hr.whole rest hr.wrote.met
      (each_rest (EntryMet (IsMet w.sent)) (cut_at later_node.opening hr.whole) rest
      (subst (λ (es : List LogEntry). Each (EntryMet (IsMet w.sent)) es) entries (step-met m w i h event at may r.0.0).entries))

  -- it has few entries
  sourced : FromSources (sources w.sent) later_node
  sourced = few-step m w.sent hr.whole h event came hr.few

  whole_from : FromBook (sources w.sent) whole
  whole_from =
      from-written (sources w.sent) later_node.opening h.node.replica.place hr.whole rest
      (newest_behind group_secret (stated w.sent) (views_after w.view w.chosen) hr.whole rest whole_sound) (some_long hr.whole some_whole) begun hr.few.written_from
      (subst (λ (es : List LogEntry). FromBook (sources w.sent) es) entries sourced.book) hr.few.marks adds.later

  pub whole_few : length whole < 2 ^ 28
  whole_few = few-book group_secret (stated w.sent) (views_after w.view w.chosen) w.sent whole whole_sound whole_from r.1.short

  -- the text of a replica that it takes over is a snapshot of the list, so that replica is small
  taken_text : (f : Fetch) (x : Replica S) → IsReady taken f → are_all_there f ≡ true → IsTakenFrom m f x → IsSnapshotAt m w.view w.chosen (joined_of f)
  taken_text f x due all is =
      installed-text m group_secret (stated w.sent) w.view w.chosen w.sent w.marked (is_among w.faulty) (diary w) (known-witnessed m w r.1 on) (right-marks m w r.1 on) r.0.0.texts (are_restorable m w service r.1) hr.whole taken taken_sound same_secret
      (same_book ∙ (hr.wrote.cut ∙ ap (λ (k : ℕ). cut_at k hr.whole) (sym same_opening))) along taken_at text f x due all is

  pub settles : IsBrief m → Settles m (takes_in h.node event).node
  settles brief = record { each = λ f x due all is. settled-by m brief w.view w.chosen (are_restorable m w service r.1) f x (taken_text f x due all is) is }

  whole_marks : Each (IsMarkUpTo later_node.replica.place) whole
  whole_marks =
      each_append (IsMarkUpTo later_node.replica.place) hr.whole rest
      (each-weaken (IsMarkUpTo h.node.replica.place) (IsMarkUpTo later_node.replica.place) (λ e up. up_to_more h.node.replica.place later_node.replica.place e place_grows up) hr.whole hr.few.marks)
      (each_rest (IsMarkUpTo later_node.replica.place) (cut_at later_node.opening hr.whole) rest (subst (λ (es : List LogEntry). Each (IsMarkUpTo later_node.replica.place) es) entries sourced.marks))

  -- one batch more is decided at most, and then it waits
  within : last_made whole ≤ length more
  within =
      let last = whole_last group_secret (stated w.sent) w.view (views_after w.view w.chosen) whole later_node whole_sound sound whole_cut in
      let most = within-step w.chosen later_node later_node.waiting refl stands.reached in
      omega (arith, last, most)

  -- in each batch of the longer list a request of the view manager stands alone
  waits_tame : (o : Option Batch) → later_node.waiting ≡ o → IfSome o (λ (b : Batch). (is_alone b ≡ true) × (next_place later_node < 2 ^ 63))
  waits_tame None is = tt
  waits_tame (Some b) is = waits_alone (stated w.sent) w.view later_node b sound is

  first_waits : (o : Option Batch) → IfSome o (λ (b : Batch). (is_alone b ≡ true) × (next_place later_node < 2 ^ 63)) → IfSome o (λ (b : Batch). is_alone b ≡ true)
  first_waits None is = tt
  first_waits (Some b) is = is.0

  second_waits : (o : Option Batch) → IfSome o (λ (b : Batch). (is_alone b ≡ true) × (next_place later_node < 2 ^ 63)) → IfSome o (λ (b : Batch). next_place later_node < 2 ^ 63)
  second_waits None is = tt
  second_waits (Some b) is = is.1

  pub tame : IsTame w.view more
  tame = record {
    viewed = r.1.viewed;
    alone = each-step (λ (b : Batch). is_alone b ≡ true) w.chosen later_node later_node.waiting (first_waits later_node.waiting (waits_tame later_node.waiting refl)) (right_tame m w r.1).alone;
    low = low-step w.chosen later_node later_node.waiting (second_waits later_node.waiting (waits_tame later_node.waiting refl)) r.1.low;
  }

  whole_right : BookRight w.sent w.view more whole
  whole_right = record { sound = book_list m group_secret (stated w.sent) w.view more later_node whole tame longer_at whole_bounded whole_knows; within = within }

  -- ---- its snapshots

  -- the place of one that is taken at its mark is the last that was made before
  own_made : (x : OwnSnapshot) → IsOwnOf m h.node later_node.replica x → HasMade hr.whole x.place
  own_made x is =
      subst (λ (k : ℕ). HasMade hr.whole k) (sym is.next)
      (cut_made h.node.opening hr.whole (next_place h.node) (subst (λ (es : List LogEntry). HasMade es (next_place h.node)) hr.wrote.cut (waits_made h.node.entries (next_place h.node) h.node.waiting hr.sound.waiting is.waits)))

  later_low : later_node.replica.place < 2 ^ 63
  later_low = let reached = stands.reached in let low = r.1.low in omega (arith, reached, low)

  written_is : hr.whole ≡ written h
  written_is = hr.wrote.is up

  own_taken : (x : OwnSnapshot) → IsOwnOf m h.node later_node.replica x → IsTaken h.node.opening (written h ++ rest) x
  own_taken x is =
      let next = is.next in
      let low = hr.wrote.past in
      record {
        some = omega (arith, next);
        past = omega (arith, next, low);
        made = subst (λ (es : List LogEntry). HasMade (es ++ rest) x.place) written_is (more_made x.place hr.whole rest (own_made x is));
        states = ap stated_place is.snapshot ∙ (states_place m later_node.replica later_low ∙ sym is.place);
      }

  own_snapshot_at : (x : OwnSnapshot) → IsOwnOf m h.node later_node.replica x → IsSnapshotAt m w.view more x.snapshot
  own_snapshot_at x is =
      let next = is.next in
      let place = is.place in
      let reached = stands.reached in
      let longer = front-length w.chosen more front in
      record {
        place = x.place;
        some = omega (arith, next);
        within = omega (arith, place, reached, longer);
        bytes_is = is.snapshot ∙ ap (λ (x : Replica S). snapshot_text m x) (stands.replica ∙ (ap (λ (k : ℕ). state m w.view (take k w.chosen)) (sym is.place) ∙ ap (λ (bs : List Batch). state m w.view bs) (front-take w.chosen more x.place front (omega (arith, place, reached)))));
      }

  -- one that was taken over is of the state of the list that it is read as
  over_at : (x : OwnSnapshot) → IsOverOf m taken later_node.replica x → IsSnapshotAt m w.view w.chosen x.snapshot
  over_at x is =
      subst (λ (bytes : List ℕ). IsSnapshotAt m w.view w.chosen bytes) (sym is.snapshot)
      (taken_text is.fetch later_node.replica is.due is.all is.taken)

  new_snapshot_at : (x : OwnSnapshot) → IsNewOf m h.node taken later_node.replica rest x → IsSnapshotAt m w.view more x.snapshot
  new_snapshot_at x (inl own) = own_snapshot_at x own
  new_snapshot_at x (inr over) = snapshot_longer m w.view w.chosen more front x.snapshot (over_at x over.0)

  -- which states its place
  over_states : (x : OwnSnapshot) → IsOverOf m taken later_node.replica x → stated_place x.snapshot ≡ x.place
  over_states x is =
      let at = over_at x is in
      let read : restored m x.snapshot ≡ Some later_node.replica = ap (λ (bytes : List ℕ). restored m bytes) is.snapshot ∙ is.taken.read in
      let state_is = certified_replica m w.view w.chosen x.snapshot later_node.replica (are_restorable m w service r.1) at read in
      let long : length (take at.place w.chosen) ≡ at.place = length-take-le at.place w.chosen at.within in
      let place : later_node.replica.place ≡ at.place = ap (λ (y : Replica S). y.place) state_is ∙ (state_place m w.view (take at.place w.chosen) ∙ long) in
      snapshot_place m w.view w.chosen x.snapshot r.1.low at ∙ (sym place ∙ (is.taken.place_is ∙ sym is.place))

  new_taken : (x : OwnSnapshot) → IsNewOf m h.node taken later_node.replica rest x → IsTaken h.node.opening (written h ++ rest) x
  new_taken x (inl own) = own_taken x own
  new_taken x (inr over) =
      let place = over.0.place in
      let later = over.0.due.later in
      let same = ap (λ (y : Replica S). y.place) same_waits.replica_is in
      let past = hr.wrote.past in
      record {
        some = omega (arith, place, later);
        past = omega (arith, place, later, same, past);
        made = record { entry = over.1.entry; there = among_right over.1.entry (written h) rest over.1.there; made = over.1.made };
        states = over_states x over.0;
      }

  -- each is of the place at which the node is then
  new_place : (x : OwnSnapshot) → IsNewOf m h.node taken later_node.replica rest x → x.place ≡ later_node.replica.place
  new_place x (inl own) = own.place
  new_place x (inr over) = over.0.place ∙ sym over.0.taken.place_is

  -- so no snapshot is of a later place, and the last one of no earlier place than before
  reached : Each (λ (x : OwnSnapshot). x.place ≤ later_node.replica.place) later_node.taken
  reached =
      subst (λ (ts : List OwnSnapshot). Each (λ (x : OwnSnapshot). x.place ≤ later_node.replica.place) ts) (sym adds.taken_is)
      (each_append (λ (x : OwnSnapshot). x.place ≤ later_node.replica.place) h.node.taken adds.news
      (each-weaken (λ (x : OwnSnapshot). x.place ≤ h.node.replica.place) (λ (x : OwnSnapshot). x.place ≤ later_node.replica.place) (λ x low. let grows = place_grows in omega (arith, low, grows)) h.node.taken running.reached)
      (each-weaken (IsNewOf m h.node taken later_node.replica rest) (λ (x : OwnSnapshot). x.place ≤ later_node.replica.place) (λ x new. let same = new_place x new in omega (arith, same)) adds.news adds.each))

  ahead : place_of_own (last_taken h.node.taken) ≤ place_of_own (last_taken later_node.taken)
  ahead =
      subst (λ (ts : List OwnSnapshot). place_of_own (last_taken h.node.taken) ≤ place_of_own (last_taken ts)) (sym adds.taken_is)
      (last_rises h.node.replica.place h.node.taken adds.news running.reached
      (each-weaken (IsNewOf m h.node taken later_node.replica rest) (λ (x : OwnSnapshot). h.node.replica.place ≤ x.place) (λ x new. let same = new_place x new in let grows = place_grows in omega (arith, same, grows)) adds.news adds.each))

  -- the one that is wanted since the step
  new_wanted : (news : List OwnSnapshot) → Each (λ (x : OwnSnapshot). IsSnapshotAt m w.view more x.snapshot) news → (t : Bool) → nat_lt (length h.node.taken) (length (h.node.taken ++ news)) ≡ t
      → Each (IsSnapshotAt m w.view more) hr.all → Each (IsSnapshotAt m w.view more) (all_with (cond t (last_taken (h.node.taken ++ news)) None) hr.all)
  new_wanted news each false less all = all
  new_wanted news each true more_taken all = by (last_taken news) refl
    where
      by : (o : Option OwnSnapshot) → last_taken news ≡ o → Each (IsSnapshotAt m w.view more) (all_with (last_taken (h.node.taken ++ news)) hr.all)
      by None none =
          let count = none_taken news none in
          let low = ltb-true (length h.node.taken) (length (h.node.taken ++ news)) more_taken in
          let long = length-append h.node.taken news in
          absurd (omega (arith, count, low, long))
      by (Some x) is =
          subst (λ (o : Option OwnSnapshot). Each (IsSnapshotAt m w.view more) (all_with o hr.all))
          (sym (last_both h.node.taken news ∙ ap (λ (o : Option OwnSnapshot). or_else o (last_taken h.node.taken)) is)) (each_last (λ (y : OwnSnapshot). IsSnapshotAt m w.view more y.snapshot) news x each is, all)

  snapshots : Each (IsSnapshotAt m w.view more) (all_with (newly_wanted h.node later_node) hr.all)
  snapshots =
      subst (λ (ts : List OwnSnapshot). Each (IsSnapshotAt m w.view more) (all_with (cond (nat_lt (length h.node.taken) (length ts)) (last_taken ts) None) hr.all)) (sym adds.taken_is)
      (new_wanted adds.news (each-weaken (IsNewOf m h.node taken later_node.replica rest) (λ (x : OwnSnapshot). IsSnapshotAt m w.view more x.snapshot) new_snapshot_at adds.news adds.each)
      (nat_lt (length h.node.taken) (length (h.node.taken ++ adds.news))) refl
      (each-weaken (IsSnapshotAt m w.view w.chosen) (IsSnapshotAt m w.view more) (snapshot_longer m w.view w.chosen more front) hr.all hr.snapshots))

  same_wanted : (news : List OwnSnapshot) → nat_lt (length h.node.taken) (length (h.node.taken ++ news)) ≡ false → last_taken (h.node.taken ++ news) ≡ last_taken h.node.taken
  same_wanted [] less = ap (λ (ts : List OwnSnapshot). last_taken ts) (append-nil h.node.taken)
  same_wanted (x ∷ xs) less =
      let long = length-append h.node.taken (x ∷ xs) in
      let most = ltb-false (length h.node.taken) (length (h.node.taken ++ x ∷ xs)) less in
      absurd (omega (arith, long, most))

  -- ---- the host behind it

  goes : Goes h later_node rest
  goes =
      let long : length (written h ++ rest) ≡ length whole = ap (λ (es : List LogEntry). length (es ++ rest)) (sym written_is) in
      let few = whole_few in
      record {
        book = adds.book_is;
        more = goes_later.firm;
        low = goes_later.low;
        heard = heard-step m h event told (fits_now hr.all hr.past h up hr.lasts) running.heard;
        restored_is = goes_later.restored_is;
        opening_is = opening;
        taken = subst (λ (ts : List OwnSnapshot). Each (IsTaken h.node.opening (written h ++ rest)) ts) (sym adds.taken_is)
            (each_append (IsTaken h.node.opening (written h ++ rest)) h.node.taken adds.news
            (each-weaken (IsTaken h.node.opening (written h)) (IsTaken h.node.opening (written h ++ rest)) (taken_more h.node.opening (written h) rest) h.node.taken running.taken)
            (each-weaken (IsNewOf m h.node taken later_node.replica rest) (IsTaken h.node.opening (written h ++ rest)) new_taken adds.news adds.each));
        reached = reached;
        ahead = ahead;
        same = λ less.
            ap (λ (ts : List OwnSnapshot). last_taken ts) adds.taken_is
            ∙ same_wanted adds.news (ap (λ (ts : List OwnSnapshot). nat_lt (length h.node.taken) (length ts)) (sym adds.taken_is) ∙ less);
        few = omega (arith, long, few);
      }

  abbrev after : Host S
  after = host_after (course_of m) h (step_of m h.node event)

  -- its diary begins all that is written then
  diary_front : after.life.diary ++ drop later_node.firm later_node.entries ≡ whole
  diary_front = written_then m h (step_of m h.node event) hr.all hr.past rest hr.lasts.low running goes ∙ ap (λ (es : List LogEntry). es ++ rest) (sym written_is)

  diary_right : BookRight w.sent w.view more after.life.diary
  diary_right =
      subst (λ (es : List LogEntry). BookRight w.sent w.view more es)
      (ap (λ (es : List LogEntry). take (length after.life.diary) es) (sym diary_front) ∙ take-append_seam after.life.diary (drop later_node.firm later_node.entries))
      (front_right w.sent w.view more (length after.life.diary) whole whole_right)

  -- each delivery that it knows is the list's
  listed : Each (IsChosenAt m w.view more) (after.earlier ++ after.delivered)
  listed =
      let o : Outcome S = step_of m h.node event in
      let longer = chosen_longer m w.view w.chosen more front in
      subst (λ (ds : List Delivery). Each (IsChosenAt m w.view more) ds) (sym (segment_all (segment_of h) o.fired))
      (each_append (IsChosenAt m w.view more) (h.earlier ++ h.delivered) (flat_map delivery_in o.fired)
      (each_append (IsChosenAt m w.view more) h.earlier h.delivered (each-weaken (IsChosenAt m w.view w.chosen) (IsChosenAt m w.view more) longer h.earlier hr.earlier)
      (each-weaken (IsChosenAt m w.view w.chosen) (IsChosenAt m w.view more) longer h.delivered hr.agrees))
      (each-weaken (WasDue m h.node) (IsChosenAt m w.view more)
      (λ x was. longer x (due-agrees m (stated w.sent) w.view w.chosen hr.whole h.node x hr.sound hr.wrote.cut along hr.wrote.at was)) (flat_map delivery_in o.fired) (due-step m h.node event)))

  pub host-stepped : HostRight w.sent m w.view more after
  host-stepped =
      let o : Outcome S = step_of m h.node event in
      let counted = counted-step m h.node event (segment_of h) (record { count = hr.count; places = hr.places }) in
      record {
        sound = sound_released (stated w.sent) w.view later_node sound;
        shared = shared;
        all = all_with (newly_wanted h.node later_node) hr.all;
        past = hr.past;
        lasts = lasts-after m hr.all hr.past h o rest up goes hr.lasts;
        snapshots = snapshots;
        whole = whole;
        wrote = record {
          is = λ up. sym diary_front;
          cut = whole_cut;
          made = whole_made;
          right = whole_right;
          met = whole_met;
          past = omega (arith, opening, hr.wrote.past, place_grows);
          at = record { reached = longer_at.reached; replica = longer_at.replica };
          knows = whole_knows;
          bounded = whole_bounded;
        };
        count = counted.count;
        places = counted.places;
        agrees = each_rest (IsChosenAt m w.view more) after.earlier after.delivered listed;
        earlier = each_front (IsChosenAt m w.view more) after.earlier after.delivered listed;
        diary = diary_right;
        aside = book_longer w.sent w.view w.chosen more tame front h.life.aside hr.aside;
        few = few-after m w.sent hr.whole whole (drop later_node.firm later_node.entries) h o sourced (begun-step m h.node event hr.few.begun) whole_from whole_marks diary_front hr.few;
      }

  -- ---- what leaves it

  -- each statement of a message that leaves has been stated, or is the member's own and shown by its diary
  pub leaves_shown : (x : Held) → Among x later_node.held → x.needs ≤ later_node.firm
      → Each (λ s. Among s (stated w.sent) ⊎ ((signer_of s ≡ Member later_node.id) × IsShown digest_of after.life.diary s)) (statements group_secret x.message)
  leaves_shown x there low =
      let run : Running host-stepped.all host-stepped.past after = host-stepped.lasts.up up in
      subst (λ (k : List ℕ). Each (λ s. Among s (stated w.sent) ⊎ ((signer_of s ≡ Member later_node.id) × IsShown digest_of after.life.diary s)) (statements k x.message)) shared
      (running_shown (stated w.sent) w.view later_node run.first run.later after.life.diary x sound
      (subst (λ (k : List ℕ). IsSoundBook k (stated w.sent) later_node.replica.views run.first) (sym shared)
      (first_sound after.life.diary run.first run.later run.both (first_sound whole after.life.diary (drop later_node.firm later_node.entries) (sym diary_front) whole_knows)))
      run.both run.diary run.first_is run.first_made goes_later.low there low)
    where
      first_sound : (d first behind : List LogEntry) → d ≡ first ++ behind → IsSoundBook group_secret (stated w.sent) later_node.replica.views d → IsSoundBook group_secret (stated w.sent) later_node.replica.views first
      first_sound d first behind parts book =
          front_of group_secret (stated w.sent) later_node.replica.views first behind (subst (λ (es : List LogEntry). IsSoundBook group_secret (stated w.sent) later_node.replica.views es) parts book)
