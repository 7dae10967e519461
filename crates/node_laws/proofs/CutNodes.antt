-- A node whose book is a cut: it is sound as the one that has all, and what it writes is sound behind all that was written.
use Rattle.std.proofs.Common.{Bool, List, None, Option, Some, ap, append-nil, append_assoc, arith, cond, false, inl, inr, length, max, nat_lt, refl, subst, suc, sym, take, true, zero, ℕ, ⊎_elim, ◌≡◌, ◌⊎◌, ◌≤◌, ◌<◌, ◌^◌, ◌∙◌, ◌+◌, ◌++◌, ◌∷◌, []}
use Rattle.std.proofs.lemmas.List.{length-take-le, take_all}
use Rattle.agreement_laws.specs.Diaries.{HasReached}
use Rattle.agreement_laws.specs.Statements.{Statement}
use Rattle.agreement_laws.proofs.Lists.{among_either, each_among, each_append, each_from, some_equal}
use Rattle.replica_rules.specs.Replicas.{after_batches, at_next, delivered, empty, execute, execute_all, state, views_after}
use Rattle.replica_rules.specs.Seals.{digest_of, is_alone}
use Rattle.replica_rules.proofs.Managed.{state_views}
use Rattle.replica_rules.proofs.Places.{place_delivered, place_execute, state_place}
use Rattle.smart_base.specs.Lists.{Each}
use Rattle.smart_base.specs.Views.{View, is_view}
use Rattle.smart_base.proofs.ViewFacts.{each-weaken}
use Rattle.smart_service.specs.Services.{Meaning}
use Rattle.smart_service.specs.Tables.{kept_in}
use Rattle.smart_service.specs.declared.replica.Replica.{Replica}
use Rattle.smart_service.specs.declared.table.Execution.{Execution}
use Rattle.smart_statements.specs.Batches.{Batch}
use Rattle.vote_book.proofs.Tested.{latest_has}
use Rattle.vote_book.specs.Books.{Among, HasMade, Lawful, last_made, latest_made, place_made}
use Rattle.vote_book.specs.Standing.{first_start}
use Rattle.vote_book.specs.Tidy.{IsTidy}
use Rattle.vote_book.specs.declared.entry.Opening.{Opening}
use Rattle.vote_book.specs.declared.entry.Promise.{Promise}
use Rattle.vote_book.specs.declared.entry.Start.{Start}
use Rattle.vote_book.specs.declared.entry.LogEntry.{LogEntry}
use Rattle.vote_book.specs.declared.entry.LogEntry.TheVariants.{Accepted, Decided, Installed, Marked, Opened, Promised, Synced, Wrote}
use Rattle.book_laws.specs.BookCuts.{InstallUpTo, as_opened, as_promised, as_synced, before_place, cut_at, first_opening, from_place, greatest_promise, has_cut, kept_of}
use Rattle.book_laws.proofs.Cut.{cut_last, cut_makes, cut_past, front_low, parts_lawful}
use Rattle.book_laws.proofs.CutGrown.{diary_grows}
use Rattle.book_laws.proofs.CutLawful.{cut_lawful}
use Rattle.book_laws.proofs.CutTidy.{cut_tidy}
use Rattle.book_laws.proofs.Kept.{kept, start_from}
use Rattle.book_laws.proofs.CutEntries.{cut_among}
use Rattle.book_laws.proofs.Lists.{among_left, among_right, first_or_second, split_at}
use Rattle.book_laws.proofs.Places.{begins, both_parts, last_append}
use Rattle.book_laws.proofs.Promises.{greatest_from}
use Rattle.node_rules.specs.Nodes.{Node, greatest_regency}
use Rattle.node_rules.specs.Reopening.{batch_past, decided_of, reopened}
use Rattle.node_rules.specs.Steps.{outset}
use Rattle.node_rules.specs.declared.node.OwnSnapshot.{OwnSnapshot}
use Rattle.node_laws.proofs.Books.{fewer_promise, greatest_append, newest_from, none_ranged, promise_most, ranged_of, ranged_push, within_more}
use Rattle.node_laws.proofs.Cuts.{cut_each, cut_latest, cut_of_begun, cut_reopened, cut_upto, kept_regency, own_along, place_low, some_begun}
use Rattle.node_laws.proofs.ListedViews.{after_are}
use Rattle.node_laws.proofs.Delivering.{table_execute}
use Rattle.node_laws.proofs.Passes.{sound_begun}
use Rattle.node_laws.proofs.Lists.{each_filter_map_in}
use Rattle.node_laws.proofs.Reopened.{count_is, latest_is}
use Rattle.node_laws.proofs.Restored.{front_of}
use Rattle.node_laws.proofs.Stated.{may_stand}
use Rattle.node_laws.specs.Restored.{IsSoundBook}
use Rattle.node_laws.specs.Restoring.{AreAlong, outset_behind, resumed_node}
use Rattle.node_laws.proofs.Views.{begun_later}
use Rattle.node_laws.specs.Sound.{ArePromisedUpTo, AreRanged, AreRangedPast, AreViews, HasBatch, HasBegun, IsBackedIn, IsBegun, IsKnown, IsRanged, IsSound, IsWithin, place_if}

-- ---- what each entry of a cut is within

-- entries behind others that are ranged
ranged_append : (opening : ℕ) (views : List View) (xs ys : List LogEntry) → AreRangedPast opening views xs
    → ((before : List LogEntry) (e : LogEntry) (after : List LogEntry) → ys ≡ before ++ e ∷ after → IsRanged views (max opening (last_made (xs ++ before)) + 1) (xs ++ before) e)
    → AreRangedPast opening views (xs ++ ys)
ranged_append opening views xs [] ranged behind = subst (λ (es : List LogEntry). AreRangedPast opening views es) (sym (append-nil xs)) ranged
ranged_append opening views xs (y ∷ ys) ranged behind =
    subst (λ (es : List LogEntry). AreRangedPast opening views es) (append_assoc xs (y ∷ []) ys)
    (ranged_append opening views (xs ++ y ∷ []) ys
    (ranged_push opening views xs y ranged (subst (λ (zs : List LogEntry). IsRanged views (max opening (last_made zs) + 1) zs y) (append-nil xs) (behind [] y ys refl)))
    (λ before e after split.
    subst (λ (zs : List LogEntry). IsRanged views (max opening (last_made zs) + 1) zs e) (sym (append_assoc xs (y ∷ []) before))
    (behind (y ∷ before) e after (ap (λ (zs : List LogEntry). y ∷ zs) split))))

-- what a book says of a promise and of a beginning
promise_ranged : (secret : List ℕ) (stated : List Statement) (views : List View) (entries : List LogEntry) (p : Promise) → IsSoundBook secret stated views entries → Among (Promised p) entries
    → (known : IsKnown views p.view) × HasBegun views (last_made entries + 1) known.view × (0 < p.regency)
promise_ranged secret stated views entries p book there =
    let s = split_at entries (Promised p) there in
    let is = (book.ranged s.before (Promised p) s.after s.is).within in
    let last = ap (λ (xs : List LogEntry). last_made xs) s.is ∙ last_append s.before (Promised p ∷ s.after) in
    (is.of_view, begun_later views (last_made s.before + 1) (last_made entries + 1) is.of_view.view (omega (arith, last)) is.begun, is.some)

start_ranged : (secret : List ℕ) (stated : List Statement) (views : List View) (entries : List LogEntry) (q : Start) → IsSoundBook secret stated views entries → Among (Synced q) entries
    → (known : IsKnown views q.view) × HasBegun views (last_made entries + 1) known.view × (0 < q.regency)
start_ranged secret stated views entries q book there =
    let s = split_at entries (Synced q) there in
    let is = (book.ranged s.before (Synced q) s.after s.is).within in
    let last = ap (λ (xs : List LogEntry). last_made xs) s.is ∙ last_append s.before (Synced q ∷ s.after) in
    (is.of_view, begun_later views (last_made s.before + 1) (last_made entries + 1) is.of_view.view (omega (arith, last)) is.begun, is.some)

-- the kept entries: an opening, a promise, and the beginning of its regency
kept_by : (opening : ℕ) (views : List View) (o : Option Opening) → AreRangedPast opening views (as_opened o)
kept_by opening views None = none_ranged opening views
kept_by opening views (Some o) = ranged_push opening views [] (Opened o) (none_ranged opening views) (record { within = tt; newest = tt })

-- an opening promises nothing
opened_upto : (k : ℕ) (o : Option Opening) → ArePromisedUpTo k (as_opened o)
opened_upto k None p none = absurd none
opened_upto k (Some o) p (inl clash) = absurd (cc)
opened_upto k (Some o) p (inr none) = absurd none

end_there : (xs : List LogEntry) (e : LogEntry) → Among e (xs ++ e ∷ [])
end_there [] e = inl refl
end_there (x ∷ xs) e = inr (end_there xs e)

promised_by : (opening : ℕ) (views : List View) (xs : List LogEntry) (p : Promise) → AreRangedPast opening views xs → ArePromisedUpTo p.view xs → (known : IsKnown views p.view)
    → HasBegun views (max opening (last_made xs) + 1) known.view → 0 < p.regency
    → AreRangedPast opening views (xs ++ Promised p ∷ [])
promised_by opening views xs p ranged upto known begun some =
    ranged_push opening views xs (Promised p) ranged (record {
      within = record { of_view = known; begun = begun; some = some; most = promise_most p.view (xs ++ Promised p ∷ []) p refl (end_there xs (Promised p)) };
      newest = upto;
    })

synced_by : (opening : ℕ) (views : List View) (xs : List LogEntry) (p : Promise) (q : Start) → AreRangedPast opening views xs → ArePromisedUpTo q.view xs → Among (Promised p) xs → (known : IsKnown views q.view)
    → HasBegun views (max opening (last_made xs) + 1) known.view → 0 < q.regency → q.view ≡ p.view → q.regency ≡ p.regency → AreRangedPast opening views (xs ++ Synced q ∷ [])
synced_by opening views xs p q ranged upto there known begun some of same =
    let most = promise_most q.view xs p (sym of) there in
    let longer = greatest_append q.view xs (Synced q ∷ []) in
    ranged_push opening views xs (Synced q) ranged (record { within = record { of_view = known; begun = begun; some = some; most = omega (arith, most, longer, same) }; newest = upto })

-- behind an opening a promise is the only one
one_promise : (o : Option Opening) (p : Promise) (k : ℕ) → p.view ≡ k → ArePromisedUpTo k (as_opened o ++ Promised p ∷ [])
one_promise o p k of r there = by (among_either (Promised r) (as_opened o) (Promised p ∷ []) there)
  where
    same : (a b : Promise) → Promised a ≡ Promised b → a ≡ b
    same a b is = cc

    by : (Among (Promised r) (as_opened o)) ⊎ (Among (Promised r) (Promised p ∷ [])) → r.view ≤ k
    by (inl early) = opened_upto k o r early
    by (inr (inl is)) = let here : r.view ≡ p.view = ap (λ (x : Promise). x.view) (same r p is) in omega (arith, here, of)
    by (inr (inr none)) = absurd none

kept_ranged : (secret : List ℕ) (stated : List Statement) (views : List View) (opening : ℕ) (front : List LogEntry) → IsSoundBook secret stated views front → last_made front < opening
    → AreRangedPast opening views (kept_of front)
kept_ranged secret stated views opening front book past = by (greatest_promise front) refl
  where
    begun : List LogEntry
    begun = as_opened (first_opening front)

    start : AreRangedPast opening views begun
    start = kept_by opening views (first_opening front)

    by_then : (xs : List LogEntry) (v : View) → HasBegun views (last_made front + 1) v → HasBegun views (max opening (last_made xs) + 1) v
    by_then xs v early = begun_later views (last_made front + 1) (max opening (last_made xs) + 1) v (omega (arith, past)) early

    with : (p : Promise) → greatest_promise front ≡ Some p → (o : Option Start) → first_start p.view p.regency front ≡ o → AreRangedPast opening views (begun ++ Promised p ∷ as_synced o)
    with p is None at =
        let it = promise_ranged secret stated views front p book (greatest_from front p is) in
        promised_by opening views begun p start (opened_upto p.view (first_opening front)) it.0 (by_then begun it.0.view it.1) it.2
    with p is (Some q) at =
        let it = promise_ranged secret stated views front p book (greatest_from front p is) in
        let starts = start_from p.view p.regency front q at in
        let its = start_ranged secret stated views front q book starts.there in
        subst (λ (es : List LogEntry). AreRangedPast opening views es) (append_assoc begun (Promised p ∷ []) (Synced q ∷ []))
        (synced_by opening views (begun ++ Promised p ∷ []) p q (promised_by opening views begun p start (opened_upto p.view (first_opening front)) it.0 (by_then begun it.0.view it.1) it.2)
        (one_promise (first_opening front) p q.view (sym starts.view_is)) (end_there begun (Promised p)) its.0 (by_then (begun ++ Promised p ∷ []) its.0.view its.1) its.2 starts.view_is starts.regency_is)

    by : (o : Option Promise) → greatest_promise front ≡ o → AreRangedPast opening views (begun ++ as_promised o front)
    by None is = subst (λ (es : List LogEntry). AreRangedPast opening views es) (sym (append-nil begun)) start
    by (Some p) is = with p is (first_start p.view p.regency front) refl

-- all of them
cut_parts_ranged : (secret : List ℕ) (stated : List Statement) (views : List View) (place : ℕ) (front behind : List LogEntry) → IsSoundBook secret stated views (front ++ behind) → IsSoundBook secret stated views front
    → last_made front < place → AreRangedPast place views (kept_of front ++ behind)
cut_parts_ranged secret stated views place front behind whole book low =
    ranged_append place views (kept_of front) behind (kept_ranged secret stated views place front book low)
    (λ before e after split.
    let in_whole : front ++ behind ≡ (front ++ before) ++ e ∷ after = ap (λ (es : List LogEntry). front ++ es) split ∙ sym (append_assoc front before (e ∷ after)) in
    let lasts = last_append front before in
    let others = last_append (kept_of front) before in
    ranged_of views (last_made (front ++ before) + 1) (max place (last_made (kept_of front ++ before)) + 1) (front ++ before) (kept_of front ++ before) e (omega (arith, lasts, others, low))
    (λ k upto.
    let same : greatest_regency k (kept_of front) ≡ greatest_regency k front = kept_regency k front (λ p there. upto p (among_left (Promised p) front before there)) in
    let r0 = greatest_append k (front ++ before) (e ∷ []) in
    let r1 = greatest_append k front before in
    let r2 = greatest_append k (kept_of front ++ before) (e ∷ []) in
    let r3 = greatest_append k (kept_of front) before in
    omega (arith, same, r0, r1, r2, r3))
    (λ p there. ⊎_elim (λ early. among_left (Promised p) front before (kept front (Promised p) early).there) (λ late. among_right (Promised p) front before late)
    (among_either (Promised p) (kept_of front) before there))
    (whole.ranged (front ++ before) e after in_whole))

pub cut_ranged : (secret : List ℕ) (stated : List Statement) (views : List View) (place : ℕ) (entries : List LogEntry) → IsSoundBook secret stated views entries → (0 < place → HasMade entries place)
    → AreRangedPast place views (cut_at place entries)
cut_ranged secret stated views place entries book has = by (has_cut place entries) refl
  where
    front : List LogEntry
    front = before_place place entries

    behind : List LogEntry
    behind = from_place place entries

    by : (t : Bool) → has_cut place entries ≡ t → AreRangedPast place views (cond t (kept_of front ++ behind) entries)
    by true is =
        let whole : IsSoundBook secret stated views (front ++ behind) = subst (λ (es : List LogEntry). IsSoundBook secret stated views es) (sym (both_parts place entries)) book in
        cut_parts_ranged secret stated views place front behind whole (front_of secret stated views front behind whole)
        (front_low place front behind (cut_past place entries is) (parts_lawful place entries book.lawful) (begins place entries (cut_makes place entries is)))
    by false is = λ before e after split.
        ranged_of views (last_made before + 1) (max place (last_made before) + 1) before before e (omega arith) (λ k upto. omega arith) (λ p there. there) (book.ranged before e after split)

-- ---- the replica of a list of batches

-- a reply that its table keeps is of a place that it has reached
table_low : {S : Type 0} (m : Meaning S) (r : Replica S) (place i : ℕ) (qs : Batch) → r.place ≡ place → Each (λ (line : Execution). line.place ≤ place) (kept_in r.table)
    → Each (λ (line : Execution). line.place ≤ place) (kept_in (execute_all m r i qs).table)
table_low m r place i [] at each = each
table_low m r place i (q ∷ qs) at each =
    table_low m (execute m r i q.statement) place (i + 1) qs (place_execute m r i q.statement ∙ at)
    (table_execute m r i q.statement (λ (line : Execution). line.place ≤ place) each (omega (arith, at)))

delivered_low : {S : Type 0} (m : Meaning S) (r : Replica S) (batch : Batch) → Each (λ (line : Execution). line.place ≤ r.place) (kept_in r.table)
    → Each (λ (line : Execution). line.place ≤ r.place + 1) (kept_in (delivered m r batch).table)
unfolding delivered
delivered_low m r batch each =
    table_low m (at_next r) (r.place + 1) 0 batch refl (each-weaken (λ (line : Execution). line.place ≤ r.place) (λ (line : Execution). line.place ≤ r.place + 1) (λ line low. omega (arith, low)) (kept_in r.table) each)

after_low : {S : Type 0} (m : Meaning S) (r : Replica S) (batches : List Batch) → Each (λ (line : Execution). line.place ≤ r.place) (kept_in r.table)
    → Each (λ (line : Execution). line.place ≤ (after_batches m r batches).place) (kept_in (after_batches m r batches).table)
after_low m r [] each = each
after_low m r (b ∷ bs) each =
    after_low m (delivered m r b) bs (subst (λ (k : ℕ). Each (λ (line : Execution). line.place ≤ k) (kept_in (delivered m r b).table)) (sym (place_delivered m r b)) (delivered_low m r b each))

pub state_low : {S : Type 0} (m : Meaning S) (view : View) (batches : List Batch) → Each (λ (line : Execution). line.place ≤ (state m view batches).place) (kept_in (state m view batches).table)
state_low m view batches = after_low m (empty m view) batches tt

-- ---- a node that goes on over a checkpoint and the cut of all that was written

-- each entry is within the last place and what all promise
pub ranged_each : (opening : ℕ) (views : List View) (es : List LogEntry) (place : ℕ) → AreRangedPast opening views es → max opening (last_made es) + 1 ≤ place → Each (IsWithin views place es) es
ranged_each opening views es place ranged low =
    each_from (IsWithin views place es) es
    (λ e there.
    let s = split_at es e there in
    let whole : es ≡ (s.before ++ e ∷ []) ++ s.after = s.is ∙ sym (append_assoc s.before (e ∷ []) s.after) in
    let last : last_made es ≡ max (last_made s.before) (last_made (e ∷ s.after)) = ap (λ (xs : List LogEntry). last_made xs) s.is ∙ last_append s.before (e ∷ s.after) in
    within_more views (max opening (last_made s.before) + 1) place (s.before ++ e ∷ []) es e (omega (arith, last, low))
    (λ k.
    let most : greatest_regency k es ≡ max (greatest_regency k (s.before ++ e ∷ [])) (greatest_regency k s.after) =
    ap (λ (xs : List LogEntry). greatest_regency k xs) whole ∙ greatest_append k (s.before ++ e ∷ []) s.after in
    omega (arith, most))
    (ranged s.before e s.after s.is).within)

pub sound_resumed : {S : Type 0} (m : Meaning S) (secret : List ℕ) (id : ℕ) (stated : List Statement) (view : View) (period place : ℕ) (batches : List Batch) (checkpoint : Option OwnSnapshot)
    (entries : List LogEntry) → AreViews view (last_made entries) (views_after view (take (last_made entries) batches))
    → IsSoundBook secret stated (views_after view (take (last_made entries) batches)) entries → IsBegun entries
    → (0 < place → HasMade entries place) → InstallUpTo place entries → last_made entries ≤ length batches
    → IsSound stated view (resumed_node m secret id view period place batches checkpoint entries)
sound_resumed {S = S} m secret id stated view period place batches checkpoint entries are given begun has upto reached =
    let cut : List LogEntry = cut_at place entries in
    let list : List Batch = take (last_made entries) batches in
    let r : Replica S = state m view list in
    let long : length list ≡ last_made entries = length-take-le (last_made entries) batches reached in
    let at : r.place ≡ last_made entries = state_place m view list ∙ long in
    let of : r.views ≡ views_after view list = state_views m view list in
    let book : IsSoundBook secret stated r.views entries = subst (λ (vs : List View). IsSoundBook secret stated vs entries) (sym of) given in
    let last : last_made cut ≡ last_made entries = cut_last place entries book.lawful in
    let low : place ≤ last_made entries = place_low place entries has in
    let ranged : AreRangedPast place r.views cut = cut_ranged secret stated r.views place entries book has in
    record {
      views = subst (λ (vs : List View). AreViews view r.place vs) (sym of) (subst (λ (k : ℕ). AreViews view k (views_after view list)) (sym at) are);
      begun = cut_of_begun place entries begun;
      lawful = cut_lawful place (length cut) entries book.lawful book.tidy upto;
      tidy = cut_tidy place entries book.lawful book.tidy;
      last = last ∙ sym at;
      latest = cut_latest place entries ∙ (latest_is secret stated r.views entries book ∙ ap place_if (sym at));
      within = ranged_each place r.views cut (r.place + 1) ranged (omega (arith, at, last, low));
      ranged = ranged;
      backed = cut_each (IsBackedIn secret r.views stated) place entries book.backed;
      batches = cut_each (HasBatch secret stated) place entries book.batches;
      waiting = tt;
      table = each-weaken (λ (line : Execution). line.place ≤ r.place) (λ (line : Execution). HasReached cut line.place) (λ line few. omega (arith, few, at, last)) (kept_in r.table)
          (state_low m view list);
      arrivals = tt;
      stops = tt;
      reports = tt;
      syncs = tt;
      decisions = tt;
      offers = tt;
      marked = tt;
      fetch = tt;
      pool = tt;
      held = tt;
      late = record { few = omega arith; each = tt };
    }

-- the node after a restart from a checkpoint and the cut behind it
pub sound_behind : {S : Type 0} (m : Meaning S) (secret : List ℕ) (id : ℕ) (stated : List Statement) (view : View) (period place : ℕ) (batches : List Batch) (checkpoint : Option OwnSnapshot)
    (e : LogEntry) (es : List LogEntry) → AreViews view (last_made (e ∷ es)) (views_after view (take (last_made (e ∷ es)) batches))
    → IsSoundBook secret stated (views_after view (take (last_made (e ∷ es)) batches)) (e ∷ es)
    → (0 < place → HasMade (e ∷ es) place) → InstallUpTo place (e ∷ es) → AreAlong batches (e ∷ es)
    → IsSound stated view (reopened m (outset_behind m secret id view period place batches checkpoint) (cut_at place (e ∷ es)))
sound_behind {S = S} m secret id stated view period place batches checkpoint e es are book has upto along =
    subst (λ (x : Node S). IsSound stated view x)
    (sym (cut_reopened m secret id stated view (views_after view (take (last_made (e ∷ es)) batches)) period place batches checkpoint e es book has upto along))
    (sound_resumed m secret id stated view period place batches checkpoint (e ∷ es) are book (some_begun e es book.begun) has upto along.reached)

-- in what a sound book decides, a request of the view manager stands alone
decides_alone : (past : ℕ) (e : LogEntry) (b : Batch) (secret : List ℕ) (stated : List Statement) → HasBatch secret stated e → batch_past past e ≡ Some b → is_alone b ≡ true
decides_alone past (Decided d) b secret stated has is = by (nat_lt past d.slot.place) is
  where
    by : (t : Bool) → cond t (Some d.batch) None ≡ Some b → is_alone b ≡ true
    by true said = subst (λ (x : Batch). is_alone x ≡ true) (some_equal d.batch b said) (may_stand secret d.slot.place (digest_of d.batch) d.batch has.may).alone
    by false said = absurd (cc)
decides_alone past (Opened o) b secret stated has is = absurd (cc)
decides_alone past (Wrote w) b secret stated has is = absurd (cc)
decides_alone past (Accepted a) b secret stated has is = absurd (cc)
decides_alone past (Promised p) b secret stated has is = absurd (cc)
decides_alone past (Synced q) b secret stated has is = absurd (cc)
decides_alone past (Installed i) b secret stated has is = absurd (cc)
decides_alone past (Marked k) b secret stated has is = absurd (cc)

pub entries_alone : (secret : List ℕ) (stated : List Statement) (past : ℕ) (es : List LogEntry) → Each (HasBatch secret stated) es → Each (λ (b : Batch). is_alone b ≡ true) (decided_of past es)
entries_alone secret stated past es all =
    each_filter_map_in (λ (b : Batch). is_alone b ≡ true) (batch_past past) es (λ e b there is. decides_alone past e b secret stated (each_among (HasBatch secret stated) es e all there) is)

-- a place that it makes, and does not install, has another behind it
decides_low : (secret : List ℕ) (stated : List Statement) (views : List View) (es : List LogEntry) → IsSoundBook secret stated views es → InstallUpTo 0 es → (e : LogEntry) (k : ℕ) → Among e es → place_made e ≡ Some k → k < 2 ^ 63
decides_low secret stated views es book none (Decided d) k there is =
    let s = split_at es (Decided d) there in
    subst (λ (x : ℕ). x < 2 ^ 63) (some_equal d.slot.place k is) (book.ranged s.before (Decided d) s.after s.is).within.low
decides_low secret stated views es book none (Installed i) k there is = let low = none i there in let same : i.place ≡ k = some_equal i.place k is in omega (arith, low, same)
decides_low secret stated views es book none (Opened o) k there is = absurd (cc)
decides_low secret stated views es book none (Wrote w) k there is = absurd (cc)
decides_low secret stated views es book none (Accepted a) k there is = absurd (cc)
decides_low secret stated views es book none (Promised p) k there is = absurd (cc)
decides_low secret stated views es book none (Synced q) k there is = absurd (cc)
decides_low secret stated views es book none (Marked x) k there is = absurd (cc)

pub decided_few : (secret : List ℕ) (stated : List Statement) (views : List View) (es : List LogEntry) → IsSoundBook secret stated views es → InstallUpTo 0 es → last_made es < 2 ^ 63
decided_few secret stated views es book none = by (last_made es) (latest_is secret stated views es book)
  where
    by : (k : ℕ) → latest_made es ≡ place_if k → k < 2 ^ 63
    by zero is = omega arith
    by (suc k) is = let has = latest_has es (suc k) is in decides_low secret stated views es book none has.entry (suc k) has.there has.made

-- so what it decides makes views of its last place
pub own_views : (secret : List ℕ) (stated : List Statement) (view : View) (views : List View) (es : List LogEntry) → is_view view ≡ true → IsSoundBook secret stated views es → InstallUpTo 0 es
    → AreViews view (last_made es) (views_after view (decided_of 0 es))
own_views secret stated view views es viewed book none =
    let count : last_made es ≡ length (decided_of 0 es) = count_is secret stated views es book none in
    let few = decided_few secret stated views es book none in
    after_are view (decided_of 0 es) (last_made es) viewed (entries_alone secret stated 0 es book.batches) (omega (arith, count, few)) (omega (arith, count))

-- the node after a restart without a checkpoint, from entries that install nothing
pub sound_reopened : {S : Type 0} (m : Meaning S) (secret : List ℕ) (id : ℕ) (stated : List Statement) (view : View) (period : ℕ) (entries : List LogEntry)
    → is_view view ≡ true → IsSoundBook secret stated (views_after view (decided_of 0 entries)) entries → InstallUpTo 0 entries
    → IsSound stated view (reopened m (outset m secret id view period) entries)
unfolding reopened
sound_reopened m secret id stated view period [] viewed book none =
    sound_begun m stated secret id view period (record { member = id; period = period; view = view }) viewed
sound_reopened m secret id stated view period (e ∷ es) viewed book none =
    let list : List Batch = decided_of 0 (e ∷ es) in
    let count : last_made (e ∷ es) ≡ length list = count_is secret stated (views_after view list) (e ∷ es) book none in
    let all : take (last_made (e ∷ es)) list ≡ list = take_all (last_made (e ∷ es)) list (omega (arith, count)) in
    sound_behind m secret id stated view period 0 list None e es
    (subst (λ (bs : List Batch). AreViews view (last_made (e ∷ es)) (views_after view bs)) (sym all) (own_views secret stated view (views_after view list) (e ∷ es) viewed book none))
    (subst (λ (bs : List Batch). IsSoundBook secret stated (views_after view bs) (e ∷ es)) (sym all) book) (λ some. absurd (omega (arith, some))) none
    (own_along secret stated (views_after view list) (e ∷ es) book none)

-- ---- what such a node writes

pub each_right : {A : Type 0} (P : A → Type 0) (xs ys : List A) → Each P (xs ++ ys) → Each P ys
each_right P [] ys each = each
each_right P (x ∷ xs) ys each = each_right P xs ys each.1

begun_more : (diary more : List LogEntry) → (diary ≡ []) ⊎ IsBegun diary → (diary ≡ [] → ⊥) → IsBegun (diary ++ more)
begun_more [] more begun some = absurd (some refl)
begun_more (e ∷ es) more (inl none) some = absurd (some none)
begun_more (e ∷ es) more (inr is) some = is

written_ranged : (secret : List ℕ) (stated : List Statement) (views : List View) (opening : ℕ) (diary more : List LogEntry) → IsSoundBook secret stated views diary → (0 < opening → HasMade diary opening)
    → AreRangedPast opening views (cut_at opening diary ++ more) → AreRanged views (diary ++ more)
written_ranged secret stated views opening diary more book has ranged before e after split =
    ⊎_elim (λ f. book.ranged before e f.rest f.split) (λ r. behind r.more r.before_is r.split) (first_or_second diary more before e after split)
  where
    cut : List LogEntry
    cut = cut_at opening diary

    fewer : (k : ℕ) → greatest_regency k cut ≤ greatest_regency k diary
    fewer k = fewer_promise k cut diary (λ x there. cut_among opening diary x there)

    upto : (m : List LogEntry) (k : ℕ) → ArePromisedUpTo k (cut ++ m) → ArePromisedUpTo k (diary ++ m)
    upto m k all p there =
        ⊎_elim (λ early. cut_upto opening k diary (λ q front. all q (among_left (Promised q) cut m front)) p early) (λ late. all p (among_right (Promised p) cut m late))
        (among_either (Promised p) diary m there)

    behind : (m : List LogEntry) → before ≡ diary ++ m → more ≡ m ++ e ∷ after → IsRanged views (last_made before + 1) before e
    behind m at rest =
        let there : cut ++ more ≡ (cut ++ m) ++ e ∷ after = ap (λ (es : List LogEntry). cut ++ es) rest ∙ sym (append_assoc cut m (e ∷ after)) in
        let lasts = last_append diary m in
        let others = last_append cut m in
        let same : last_made cut ≡ last_made diary = cut_last opening diary book.lawful in
        let most : opening ≤ last_made diary = place_low opening diary has in
        let was = ranged (cut ++ m) e after there in
        subst (λ (zs : List LogEntry). IsRanged views (last_made zs + 1) zs e) (sym at) (record {
          within = within_more views (max opening (last_made (cut ++ m)) + 1) (last_made (diary ++ m) + 1) ((cut ++ m) ++ e ∷ []) ((diary ++ m) ++ e ∷ []) e (omega (arith, lasts, others, same, most))
              (λ k.
              let low = fewer k in
              let r0 = greatest_append k (diary ++ m) (e ∷ []) in
              let r1 = greatest_append k diary m in
              let r2 = greatest_append k (cut ++ m) (e ∷ []) in
              let r3 = greatest_append k cut m in
              omega (arith, low, r0, r1, r2, r3)) was.within;
          newest = newest_from (cut ++ m) (diary ++ m) e (upto m) was.newest;
        })

-- Entries of which a node has the cut, with what the node wrote behind it: they are sound together.
pub sound_written : {S : Type 0} (stated : List Statement) (view : View) (n : Node S) (diary more : List LogEntry) → IsSound stated view n → IsSoundBook n.secret stated n.replica.views diary
    → n.entries ≡ cut_at n.opening diary ++ more → (0 < n.opening → HasMade diary n.opening) → (diary ≡ [] → ⊥) → IsSoundBook n.secret stated n.replica.views (diary ++ more)
sound_written stated view n diary more is book made has some =
    let vs : List View = n.replica.views in
    let lawful : Lawful n.opening n.restored (cut_at n.opening diary ++ more) = subst (λ (es : List LogEntry). Lawful n.opening n.restored es) made is.lawful in
    let tidy : IsTidy (cut_at n.opening diary ++ more) = subst (λ (es : List LogEntry). IsTidy es) made is.tidy in
    let grown : Lawful 0 0 (diary ++ more) × IsTidy (diary ++ more) = diary_grows n.opening n.restored diary more book.lawful book.tidy has lawful tidy in
    record {
      begun = inr (begun_more diary more book.begun some);
      lawful = grown.0;
      tidy = grown.1;
      ranged = written_ranged n.secret stated vs n.opening diary more book has (subst (λ (es : List LogEntry). AreRangedPast n.opening vs es) made is.ranged);
      backed = each_append (IsBackedIn n.secret vs stated) diary more book.backed
          (each_right (IsBackedIn n.secret vs stated) (cut_at n.opening diary) more (subst (λ (es : List LogEntry). Each (IsBackedIn n.secret vs stated) es) made is.backed));
      batches = each_append (HasBatch n.secret stated) diary more book.batches
          (each_right (HasBatch n.secret stated) (cut_at n.opening diary) more (subst (λ (es : List LogEntry). Each (HasBatch n.secret stated) es) made is.batches));
    }
