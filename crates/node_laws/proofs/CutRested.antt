-- The cut of what was written is not damaged behind its checkpoint: each entry's evidence holds in the view that has to judge it, by the views that
-- the checkpoint's replica knows and those that the decisions before the entry make.
use Rattle.std.proofs.Common.{Bool, List, None, Option, Some, ap, append-nil, append_assoc, arith, false, inl, inr, length, length-append, max, nat_lt, refl, subst, sym, take, true, ℕ, ◌≡◌, ◌⊎◌, ◌≤◌, ◌<◌, ◌∙◌, ◌+◌, ◌++◌, ◌∷◌, []}
use Rattle.std.proofs.lemmas.Bool.{ltb-false, ltb-true}
use Rattle.std.proofs.lemmas.List.{length-take-le, take_all}
use Rattle.std.proofs.Math.Seq.{take-add}
use Rattle.std.specs.Prelude.{map}
use Rattle.certificates.specs.Certificates.{IsCertificate, accept_of, write_of}
use Rattle.certificates.specs.Collects.{slot_of, view_numbered}
use Rattle.replica_rules.specs.Replicas.{Managed, managed, managed_from, views_after}
use Rattle.replica_rules.specs.Seals.{digest_of}
use Rattle.replica_rules.proofs.Managed.{managed_append, managed_views, views_begin}
use Rattle.agreement_laws.specs.Statements.{Statement}
use Rattle.agreement_laws.proofs.Lists.{among_either, each_among, some_equal}
use Rattle.node_rules.specs.Reopening.{damaged, decided_of, known_behind, rests}
use Rattle.smart_base.specs.Lists.{Each, or_else}
use Rattle.smart_base.specs.Views.{View, is_view}
use Rattle.smart_statements.specs.Batches.{Batch}
use Rattle.smart_statements.specs.declared.statement.Slot.{Slot}
use Rattle.vote_book.proofs.Last.{last_push}
use Rattle.vote_book.specs.Books.{Among, HasMade, last_made, number_or, place_made}
use Rattle.vote_book.specs.Entries.{FitsEntry, entry_text}
use Rattle.vote_book.specs.declared.entry.Decision.{Decision}
use Rattle.vote_book.specs.declared.entry.Installation.{Installation}
use Rattle.vote_book.specs.declared.entry.LogEntry.{LogEntry}
use Rattle.vote_book.specs.declared.entry.LogEntry.TheVariants.{Accepted, Decided, Installed, Marked, Opened, Promised, Synced, Wrote}
use Rattle.book_laws.specs.BookCuts.{InstallUpTo, cut_at}
use Rattle.book_laws.proofs.CutEntries.{cut_among}
use Rattle.book_laws.proofs.CutLawful.{cut_lawful}
use Rattle.book_laws.proofs.Lists.{among_right}
use Rattle.node_laws.proofs.CutNodes.{cut_ranged, each_right, entries_alone, own_views}
use Rattle.node_laws.proofs.Cuts.{begun_cut, cut_counts, cut_each, cut_slice, own_along, place_low}
use Rattle.node_laws.proofs.Damage.{back}
use Rattle.node_laws.proofs.Growing.{StartPast, holding_end, numbered_end, some_holder, start_past}
use Rattle.node_laws.proofs.InTurn.{decided_in_turn}
use Rattle.node_laws.proofs.ListedViews.{after_grown}
use Rattle.node_laws.proofs.Reopened.{count_is}
use Rattle.node_laws.proofs.Restored.{decided_append, decided_last, decided_low, decided_none}
use Rattle.node_laws.proofs.Resting.{resting}
use Rattle.node_laws.proofs.Views.{held_among, next_is, numbered_has, some_numbered}
use Rattle.node_laws.specs.Restored.{IsSoundBook}
use Rattle.node_laws.specs.Restoring.{AreAlong, AreRested, DecidesInTurn}
use Rattle.node_laws.specs.Sound.{AreRangedPast, AreViews, HasBatch, IsBackedIn, IsInstalledIn, IsKnown, IsWithin, view_for}
use Rattle.smart_base.proofs.SameLists.{and_true}
use Rattle.snapshot_form.specs.Replicas.{follow, is_next_view}

-- ---- how far entries get

module _ (past : ℕ) (whole : List LogEntry) (turn : DecidesInTurn past whole) (installs : InstallUpTo past whole) where
  -- entries make no place past the batches that they decide behind a place
  abbrev Reaches : List LogEntry → Type 0
  Reaches es = last_made es ≤ past + length (decided_of past es)

  reaches_same : (before : List LogEntry) (e : LogEntry) → decided_of past (e ∷ []) ≡ [] → number_or (place_made e) 0 ≤ past → Reaches before → Reaches (before ++ e ∷ [])
  reaches_same before e none low is =
      let same = ap (λ (bs : List Batch). length bs) (decided_none past before e none) in
      let pushed = last_push before e in
      omega (arith, same, low, is, pushed)

  reaches_more : (before : List LogEntry) (d : Decision) (after : List LogEntry) → whole ≡ before ++ Decided d ∷ after → past < d.slot.place → Reaches before → Reaches (before ++ Decided d ∷ [])
  reaches_more before d after split some is =
      let at = turn before d after split some in
      let long = ap (λ (bs : List Batch). length bs) (decided_last past before d some) in
      let pushed = last_push before (Decided d) in
      let more = length-end (decided_of past before) d.batch in
      omega (arith, at, long, is, pushed, more)
    where
      length-end : (bs : List Batch) (b : Batch) → length (bs ++ b ∷ []) ≡ length bs + 1
      length-end [] b = omega arith
      length-end (x ∷ xs) b = let rest = length-end xs b in omega (arith, rest)

  reaches_step : (before : List LogEntry) (e : LogEntry) (after : List LogEntry) → whole ≡ before ++ e ∷ after → Reaches before → Reaches (before ++ e ∷ [])
  reaches_step before (Opened o) after split is = reaches_same before (Opened o) refl (omega arith) is
  reaches_step before (Wrote w) after split is = reaches_same before (Wrote w) refl (omega arith) is
  reaches_step before (Accepted a) after split is = reaches_same before (Accepted a) refl (omega arith) is
  reaches_step before (Promised p) after split is = reaches_same before (Promised p) refl (omega arith) is
  reaches_step before (Synced s) after split is = reaches_same before (Synced s) refl (omega arith) is
  reaches_step before (Decided d) after split is = by (nat_lt past d.slot.place) refl
    where
      by : (t : Bool) → nat_lt past d.slot.place ≡ t → Reaches (before ++ Decided d ∷ [])
      by true some = reaches_more before d after split (ltb-true past d.slot.place some) is
      by false low = reaches_same before (Decided d) (decided_low past d [] low) (ltb-false past d.slot.place low) is
  reaches_step before (Installed i) after split is =
      reaches_same before (Installed i) refl (installs i (subst (λ (es : List LogEntry). Among (Installed i) es) (sym split) (among_right (Installed i) before (Installed i ∷ after) (inl refl)))) is
  reaches_step before (Marked k) after split is = reaches_same before (Marked k) refl (omega arith) is

  reaches_on : (done es after : List LogEntry) → whole ≡ (done ++ es) ++ after → Reaches done → Reaches (done ++ es)
  reaches_on done [] after split is = subst Reaches (sym (append-nil done)) is
  reaches_on done (e ∷ es) after split is =
      let here : whole ≡ done ++ e ∷ (es ++ after) = split ∙ append_assoc done (e ∷ es) after in
      let next : (done ++ e ∷ []) ++ es ≡ done ++ e ∷ es = append_assoc done (e ∷ []) es in
      subst Reaches next
      (reaches_on (done ++ e ∷ []) es after (split ∙ ap (λ (xs : List LogEntry). xs ++ after) (sym next)) (reaches_step done e (es ++ after) here is))

  pub reaches : (front after : List LogEntry) → whole ≡ front ++ after → last_made front ≤ past + length (decided_of past front)
  reaches front after split = reaches_on [] front after split (omega arith)

-- ---- the view that judges an entry

-- the holder of a place among some views is the one among them and more that start past it
for_front : (w : View) (ws more : List View) (place : ℕ) (u : View) → StartPast place more → view_for ((w ∷ ws) ++ more) place ≡ Some u → view_for (w ∷ ws) place ≡ Some u
for_front w ws more place u late is = sym (ap (λ (o : Option View). or_else o (Some w)) (holding_end ws more place late)) ∙ is

slot_of_view : (view : View) (s : Slot) → s.view ≡ view.number → slot_of view s.place s.regency ≡ s
slot_of_view view s same = ap (λ (v : ℕ). record { view = v; place = s.place; regency = s.regency }) (sym same)

-- the view that an installation names, and that is no later than the holder of its place, is known among the earlier views
named_front : (w : View) (ws more : List View) (i : Installation) → ((u : View) → Among u (w ∷ ws) → (v : View) → Among v more → u.number < v.number) → StartPast i.place more
    → IsInstalledIn ((w ∷ ws) ++ more) i → (x : View) × (view_numbered (w ∷ ws) i.view ≡ Some x) × Among x ((w ∷ ws) ++ more) × (i.view ≡ x.number)
named_front w ws more i apart late is =
    let known : IsKnown ((w ∷ ws) ++ more) i.view = is.of_view in
    let has = numbered_has ((w ∷ ws) ++ more) i.view known.view known.is in
    let held = some_holder w ws i.place in
    let upto : i.view ≤ held.0.number = is.upto held.0 (whole_for held.0 held.1) in
    by known.view known.is has.there has.number_is held.0 (held_among (w ∷ ws) i.place held.0 held.1) upto (among_either known.view (w ∷ ws) more has.there)
  where
    whole_for : (u : View) → view_for (w ∷ ws) i.place ≡ Some u → view_for ((w ∷ ws) ++ more) i.place ≡ Some u
    whole_for u holds = ap (λ (o : Option View). or_else o (Some w)) (holding_end ws more i.place late) ∙ holds

    by : (x : View) → view_numbered ((w ∷ ws) ++ more) i.view ≡ Some x → Among x ((w ∷ ws) ++ more) → x.number ≡ i.view → (u : View) → Among u (w ∷ ws) → i.view ≤ u.number
        → (Among x (w ∷ ws)) ⊎ (Among x more) → (x : View) × (view_numbered (w ∷ ws) i.view ≡ Some x) × Among x ((w ∷ ws) ++ more) × (i.view ≡ x.number)
    by x named there number u held upto (inl early) =
        let found : IsKnown (w ∷ ws) x.number = some_numbered (w ∷ ws) x early in
        let at : view_numbered (w ∷ ws) i.view ≡ Some found.view = ap (λ (k : ℕ). view_numbered (w ∷ ws) k) (sym number) ∙ found.is in
        let same : found.view ≡ x = some_equal found.view x (sym (numbered_end (w ∷ ws) more found.view i.view at) ∙ named) in
        (x, at ∙ ap (λ (v : View). Some v) same, there, sym number)
    by x named there number u held upto (inr late_one) = absurd (let past = apart u held x late_one in omega (arith, past, number, upto))

-- an entry of a sound book rests by the views that start by its place
entry_rests : (secret : List ℕ) (stated : List Statement) (w : View) (ws more : List View) (bound : ℕ) (es : List LogEntry) (e : LogEntry)
    → ((u : View) → Among u (w ∷ ws) → (v : View) → Among v more → u.number < v.number) → StartPast bound more → ((i : Installation) → e ≡ Installed i → i.place ≤ bound)
    → IsWithin ((w ∷ ws) ++ more) bound es e → IsBackedIn secret ((w ∷ ws) ++ more) stated e → HasBatch secret stated e → rests secret (w ∷ ws) e ≡ true
entry_rests secret stated w ws more bound es (Opened o) apart late low within backed has = refl
entry_rests secret stated w ws more bound es (Wrote x) apart late low within backed has = refl
entry_rests secret stated w ws more bound es (Accepted a) apart late low within backed has =
    let of = within.of_view in
    let holds = for_front w ws more a.slot.place of.view (start_past bound a.slot.place more within.place_is late) of.holds in
    let there : Among of.view ((w ∷ ws) ++ more) = held_among ((w ∷ ws) ++ more) a.slot.place of.view of.holds in
    resting secret (w ∷ ws) (Accepted a) (record {
      view = of.view;
      judges = holds;
      certified = record {
        of_view = sym of.number_is;
        writes = subst (λ (s : Slot). IsCertificate secret of.view (write_of s a.digest) a.writes) (slot_of_view of.view a.slot (sym of.number_is)) (backed of.view there (sym of.number_is)).holds;
        batch = has.may;
      };
    })
entry_rests secret stated w ws more bound es (Promised p) apart late low within backed has = refl
entry_rests secret stated w ws more bound es (Synced s) apart late low within backed has = refl
entry_rests secret stated w ws more bound es (Decided d) apart late low within backed has =
    let of = within.of_view in
    let holds = for_front w ws more d.slot.place of.view (start_past bound d.slot.place more within.place_is late) of.holds in
    let there : Among of.view ((w ∷ ws) ++ more) = held_among ((w ∷ ws) ++ more) d.slot.place of.view of.holds in
    resting secret (w ∷ ws) (Decided d) (record {
      view = of.view;
      judges = holds;
      certified = record {
        of_view = sym of.number_is;
        accepts = subst (λ (s : Slot). IsCertificate secret of.view (accept_of s (digest_of d.batch)) d.accepts) (slot_of_view of.view d.slot (sym of.number_is)) (backed of.view there (sym of.number_is)).holds;
        batch = has.may;
      };
    })
entry_rests secret stated w ws more bound es (Installed i) apart late low within backed has =
    let named = named_front w ws more i apart (start_past bound i.place more (low i refl) late) within in
    resting secret (w ∷ ws) (Installed i) (record { view = named.0; judges = named.1; certified = record { of_view = named.3; marks = (backed named.0 named.2 named.3).holds } })
entry_rests secret stated w ws more bound es (Marked k) apart late low within backed has = refl

-- ---- numbers ascend along views that follow each other

-- a view of a later part has a later number
follow_later : (place number start : ℕ) (vs more : List View) → follow place number start (vs ++ more) ≡ true → (v : View) → Among v more → number < v.number
follow_later place number start [] [] is v there = absurd there
follow_later place number start [] (x ∷ xs) is v (inl same) =
    let parts = and_true (is_next_view place number start x) (follow place x.number x.start xs) is in
    let next = (next_is place number start x parts.0).number_is in
    let here : v.number ≡ x.number = ap (λ (y : View). y.number) same in
    omega (arith, next, here)
follow_later place number start [] (x ∷ xs) is v (inr there) =
    let parts = and_true (is_next_view place number start x) (follow place x.number x.start xs) is in
    let next = (next_is place number start x parts.0).number_is in
    let rest = follow_later place x.number x.start [] xs parts.1 v there in
    omega (arith, next, rest)
follow_later place number start (x ∷ xs) more is v there =
    let parts = and_true (is_next_view place number start x) (follow place x.number x.start (xs ++ more)) is in
    let next = (next_is place number start x parts.0).number_is in
    let rest = follow_later place x.number x.start xs more parts.1 v there in
    omega (arith, next, rest)

-- a view of a later part has a later number than each of the earlier part
follow_apart : (place number start : ℕ) (vs more : List View) → follow place number start (vs ++ more) ≡ true → (u : View) → Among u vs → (v : View) → Among v more → u.number < v.number
follow_apart place number start [] more is u there v late = absurd there
follow_apart place number start (w ∷ ws) more is u (inl same) v late =
    let parts = and_true (is_next_view place number start w) (follow place w.number w.start (ws ++ more)) is in
    subst (λ (x : View). x.number < v.number) (sym same) (follow_later place w.number w.start ws more parts.1 v late)
follow_apart place number start (w ∷ ws) more is u (inr there) v late =
    follow_apart place w.number w.start ws more (and_true (is_next_view place number start w) (follow place w.number w.start (ws ++ more)) is).1 u there v late

apart_first : (first : View) (place : ℕ) (w : View) (ws more : List View) → AreViews first place ((w ∷ ws) ++ more) → (u : View) → Among u (w ∷ ws) → (v : View) → Among v more → u.number < v.number
apart_first first place w ws more are u there v late = by there
  where
    parts : (x y : View) (xs ys : List View) → (x ∷ xs) ≡ (y ∷ ys) → (x ≡ y) × (xs ≡ ys)
    parts x y xs ys same = (cc, cc)

    begins : (w ≡ first) × (ws ++ more ≡ are.rest)
    begins = parts w first (ws ++ more) are.rest are.begins

    follows : follow place w.number 0 (ws ++ more) ≡ true
    follows = subst (λ (x : View). follow place x.number 0 (ws ++ more) ≡ true) (sym begins.0) (subst (λ (vs : List View). follow place first.number 0 vs ≡ true) (sym begins.1) are.follows)

    by : Among u (w ∷ ws) → u.number < v.number
    by (inl same) = subst (λ (x : View). x.number < v.number) (sym same) (follow_later place w.number 0 ws more follows v late)
    by (inr early) = follow_apart place w.number 0 ws more follows u early v late

-- ---- the cut of what was written

module _ (secret : List ℕ) (stated : List Statement) (view : View) (place : ℕ) (batches : List Batch) (entries : List LogEntry)
    (are : AreViews view (last_made entries) (views_after view (take (last_made entries) batches))) (book : IsSoundBook secret stated (views_after view (take (last_made entries) batches)) entries)
    (has : 0 < place → HasMade entries place) (upto : InstallUpTo place entries) (along : AreAlong batches entries) where
  abbrev all_views : List View
  all_views = views_after view (take (last_made entries) batches)

  abbrev cut : List LogEntry
  cut = cut_at place entries

  abbrev checkpoint : Managed
  checkpoint = managed view (take place batches)

  long : length (take place batches) ≡ place
  long = (let low = place_low place entries has in let most = along.reached in length-take-le place batches (omega (arith, low, most)))

  listed : take (last_made entries) batches ≡ take place batches ++ decided_of place (cut_at place entries)
  listed =
      ap (λ (k : ℕ). take k batches) (cut_counts secret stated all_views place entries book has upto)
      ∙ (take-add place (length (decided_of place cut)) batches ∙ ap (λ (bs : List Batch). take place batches ++ bs) (sym (cut_slice secret stated all_views place batches entries book upto along)))

  ranged : AreRangedPast place all_views cut
  ranged = cut_ranged secret stated all_views place entries book has

  turn : DecidesInTurn place cut
  turn = decided_in_turn place cut (cut_lawful place (length cut) entries book.lawful book.tidy upto)

  installs : InstallUpTo place cut
  installs = λ i there. upto i (cut_among place entries (Installed i) there)

  known_is : (front : List LogEntry) → known_behind place checkpoint front ≡ views_after view (take place batches ++ decided_of place front)
  known_is front =
      let next : place + 1 ≡ 1 + length (take place batches) = omega (arith, long) in
      ap (λ (k : ℕ). (managed_from k checkpoint (decided_of place front)).views) next
      ∙ (sym (ap (λ (x : Managed). x.views) (managed_append 1 (record { seq = 0; views = view ∷ [] }) (take place batches) (decided_of place front)))
      ∙ managed_views view (take place batches ++ decided_of place front))

  rests_at : (before : List LogEntry) (e : LogEntry) (after : List LogEntry) → cut ≡ before ++ e ∷ after → rests secret (known_behind place checkpoint before) e ≡ true
  rests_at before e after split =
      let xs : List Batch = take place batches ++ decided_of place before in
      let ys : List Batch = decided_of place (e ∷ after) in
      let batched : Each (HasBatch secret stated) (before ++ e ∷ after) = subst (λ (es : List LogEntry). Each (HasBatch secret stated) es) split (cut_each (HasBatch secret stated) place entries book.batches) in
      let there : Among e (before ++ e ∷ after) = among_right e before (e ∷ after) (inl refl) in
      let whole : take (last_made entries) batches ≡ xs ++ ys =
      listed ∙ (ap (λ (bs : List Batch). take place batches ++ bs) (ap (λ (es : List LogEntry). decided_of place es) split ∙ decided_append place before (e ∷ after))
      ∙ sym (append_assoc (take place batches) (decided_of place before) ys)) in
      let grown = after_grown view xs ys (entries_alone secret stated place (e ∷ after) (each_right (HasBatch secret stated) before (e ∷ after) batched)) in
      let begun = views_begin view xs in
      let grows : all_views ≡ (view ∷ begun.0) ++ grown.0 =
      ap (λ (bs : List Batch). views_after view bs) whole ∙ (grown.1 ∙ ap (λ (vs : List View). vs ++ grown.0) begun.1) in
      let all_are : AreViews view (last_made entries) ((view ∷ begun.0) ++ grown.0) = subst (λ (vs : List View). AreViews view (last_made entries) vs) grows are in
      let size : length xs ≡ place + length (decided_of place before) = length-append (take place batches) (decided_of place before) ∙ ap (λ (k : ℕ). k + length (decided_of place before)) long in
      let most = reaches place cut turn installs before (e ∷ after) split in
      let bound : ℕ = max place (last_made before) + 1 in
      let late : StartPast bound grown.0 = start_past (length xs + 1) bound grown.0 (omega (arith, size, most)) grown.2 in
      let within : IsWithin ((view ∷ begun.0) ++ grown.0) bound (before ++ e ∷ []) e =
      subst (λ (vs : List View). IsWithin vs bound (before ++ e ∷ []) e) grows (ranged before e after split).within in
      let backed : IsBackedIn secret ((view ∷ begun.0) ++ grown.0) stated e =
      subst (λ (vs : List View). IsBackedIn secret vs stated e) grows
      (each_among (IsBackedIn secret all_views stated) cut e (cut_each (IsBackedIn secret all_views stated) place entries book.backed) (subst (λ (es : List LogEntry). Among e es) (sym split) there)) in
      subst (λ (vs : List View). rests secret vs e ≡ true) (sym (known_is before ∙ begun.1))
      (entry_rests secret stated view begun.0 grown.0 bound (before ++ e ∷ []) e (apart_first view (last_made entries) view begun.0 grown.0 all_are) late
      (λ i is. let few = installs i (subst (λ (es : List LogEntry). Among (Installed i) es) (sym split) (subst (λ (x : LogEntry). Among x (before ++ e ∷ after)) is there)) in omega (arith, few)) within backed
      (each_among (HasBatch secret stated) (before ++ e ∷ after) e batched there))

  all_rested : (before es : List LogEntry) → cut ≡ before ++ es → AreRested secret place checkpoint before es
  all_rested before [] split = tt
  all_rested before (e ∷ es) split = (rests_at before e es split, all_rested (before ++ e ∷ []) es (split ∙ sym (append_assoc before (e ∷ []) es)))

  -- a cut is not damaged behind its checkpoint
  pub undamaged_cut : Each FitsEntry entries → damaged secret place checkpoint (map entry_text cut) ≡ None
  undamaged_cut fit =
      back secret place checkpoint cut (cut_each FitsEntry place entries fit) (begun_cut place entries book.begun) (cut_lawful place (length cut) entries book.lawful book.tidy upto)
      (all_rested [] cut refl)

-- nor is a book that installs nothing, without a checkpoint
pub undamaged : (secret : List ℕ) (stated : List Statement) (view : View) (entries : List LogEntry) → is_view view ≡ true → IsSoundBook secret stated (views_after view (decided_of 0 entries)) entries
    → InstallUpTo 0 entries → Each FitsEntry entries → damaged secret 0 (record { seq = 0; views = view ∷ [] }) (map entry_text entries) ≡ None
undamaged secret stated view entries viewed book none fit =
    let list : List Batch = decided_of 0 entries in
    let along : AreAlong list entries = own_along secret stated (views_after view list) entries book none in
    let all : take (last_made entries) list ≡ list = take_all (last_made entries) list (let count = count_is secret stated (views_after view list) entries book none in omega (arith, count)) in
    undamaged_cut secret stated view 0 list entries
    (subst (λ (bs : List Batch). AreViews view (last_made entries) (views_after view bs)) (sym all) (own_views secret stated view (views_after view list) entries viewed book none))
    (subst (λ (bs : List Batch). IsSoundBook secret stated (views_after view bs) entries) (sym all) book) (λ some. absurd (omega (arith, some))) none along fit
