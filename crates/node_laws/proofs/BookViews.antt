-- A sound book and the views behind it: views that start past its next place may come, and may be left out.
use Rattle.std.proofs.Common.{Bool, List, Some, ap, arith, cond, false, inl, inr, length, max, refl, subst, sym, true, ℕ, ◌≡◌, ◌⊎◌, ◌≤◌, ◌<◌, ◌^◌, ◌∙◌, ◌+◌, ◌++◌, ◌==◌, [], ◌∷◌}
use Rattle.std.proofs.lemmas.Bool.{eq-eqb}
use Rattle.std.proofs.lemmas.List.{length-append}
use Rattle.certificates.specs.Collects.{view_numbered}
use Rattle.smart_base.specs.Lists.{Each}
use Rattle.smart_base.specs.Views.{View, is_view, present}
use Rattle.smart_base.proofs.ViewFacts.{each-weaken}
use Rattle.smart_statements.specs.Batches.{Batch}
use Rattle.snapshot_form.specs.Replicas.{follow}
use Rattle.agreement_laws.specs.Statements.{Statement}
use Rattle.agreement_laws.proofs.Lists.{among_left, each_among, each_append, some_equal}
use Rattle.replica_rules.specs.Replicas.{views_after}
use Rattle.replica_rules.specs.Seals.{is_alone}
use Rattle.replica_rules.proofs.Managed.{views_begin}
use Rattle.vote_book.specs.Books.{Among, last_made, place_made}
use Rattle.vote_book.specs.declared.entry.Installation.{Installation}
use Rattle.vote_book.specs.declared.entry.LogEntry.{LogEntry}
use Rattle.vote_book.specs.declared.entry.LogEntry.TheVariants.{Accepted, Decided, Installed, Marked, Opened, Promised, Synced, Wrote}
use Rattle.vote_book.proofs.Locks.{made_most}
use Rattle.node_laws.specs.Restored.{IsSoundBook}
use Rattle.node_laws.specs.Sound.{AreRanged, AreRangedPast, AreViews, HasBegun, IsBackedIn, IsIn, IsInstalledIn, IsKnown, IsLater, IsRanged, IsWithin, view_for}
use Rattle.book_laws.proofs.Places.{last_append}
use Rattle.node_laws.proofs.CutNodes.{ranged_each}
use Rattle.node_laws.proofs.Growing.{ArePast, NoLater, StartPast, all_grown, among_middle, each_backed_grown, for_end, past_first, ranged_grown, some_holder, start_past}
use Rattle.node_laws.proofs.ListedViews.{after_are, after_grown}
use Rattle.node_laws.proofs.Restored.{ranged_first}
use Rattle.node_laws.proofs.Views.{held_among, known_most, numbered_has, some_numbered}

-- ---- more views

-- places of a book that begins with none
past_none : (views : List View) (es : List LogEntry) → AreRanged views es → AreRangedPast 0 views es
past_none views es ranged before e after split =
    let same : last_made before ≡ max 0 (last_made before) = omega arith in subst (λ (k : ℕ). IsRanged views (k + 1) before e) same (ranged before e after split)

-- A book of views stays sound where later views come, which start past each place that it names.
pub book_within : (secret : List ℕ) (stated : List Statement) (first : View) (place bound : ℕ) (vs more : List View) (es : List LogEntry) → AreViews first place vs → ArePast (present vs).number more → StartPast bound more
    → Each (IsWithin vs bound es) es → IsSoundBook secret stated vs es → IsSoundBook secret stated (vs ++ more) es × Each (IsWithin (vs ++ more) bound es) es
book_within secret stated first place bound vs more es are newer late within is =
    let later : NoLater vs more =
    (λ number known u there. let most = known_most first place vs are number known in let past = each_among (λ (x : View). (present vs).number < x.number) more u newer there in omega (arith, most, past)) in (
      record {
        begun = is.begun;
        lawful = is.lawful;
        tidy = is.tidy;
        ranged = ranged_first (vs ++ more) 0 es refl (ranged_grown 0 vs more bound es later late within (past_none vs es is.ranged));
        backed = each_backed_grown first place vs are more secret stated bound es newer within is.backed;
        batches = is.batches;
      },
      all_grown vs more bound es later late within,
    )

-- it names none past its next one
pub book_ranged : (secret : List ℕ) (stated : List Statement) (vs : List View) (bound : ℕ) (es : List LogEntry) → last_made es + 1 ≤ bound → IsSoundBook secret stated vs es → Each (IsWithin vs bound es) es
book_ranged secret stated vs bound es low is = ranged_each 0 vs es bound (past_none vs es is.ranged) (omega (arith, low))

-- ---- fewer views

-- the holder of a place before the further views start
in_front : (v : View) (vs more : List View) (place number : ℕ) → StartPast place more → IsIn ((v ∷ vs) ++ more) place number → IsIn (v ∷ vs) place number
in_front v vs more place number late is =
    let held = some_holder v vs place in
    let same : is.view ≡ held.0 = some_equal is.view held.0 (sym is.holds ∙ for_end (v ∷ vs) more held.0 place late held.1) in
    record { view = held.0; holds = held.1; number_is = sym (ap (λ (u : View). u.number) same) ∙ is.number_is }

-- a number among views and more is one of the former, or of the latter
numbered_or : (vs more : List View) (number : ℕ) (u : View) → view_numbered (vs ++ more) number ≡ Some u → (view_numbered vs number ≡ Some u) ⊎ Among u more
numbered_or [] more number u is = inr (numbered_has more number u is).there
numbered_or (w ∷ ws) more number u is = by (w.number == number) is (λ said. numbered_or ws more number u said)
  where
    by : (t : Bool) → cond t (Some w) (view_numbered (ws ++ more) number) ≡ Some u → (view_numbered (ws ++ more) number ≡ Some u → (view_numbered ws number ≡ Some u) ⊎ Among u more)
        → (cond t (Some w) (view_numbered ws number) ≡ Some u) ⊎ Among u more
    by true said rest = inl said
    by false said rest = rest said

-- a view that has begun before the further ones start
begun_front : (v : View) (vs more : List View) (place number : ℕ) → StartPast place more → (known : IsKnown ((v ∷ vs) ++ more) number) → HasBegun ((v ∷ vs) ++ more) place known.view
    → (here : IsKnown (v ∷ vs) number) × HasBegun (v ∷ vs) place here.view
begun_front v vs more place number late known begun = by (numbered_or (v ∷ vs) more number known.view known.is) begun
  where
    first : (rest : List View) → (v ∷ vs) ++ more ≡ known.view ∷ rest → v ≡ known.view
    first rest same = cc

    here : v ≡ known.view → (here : IsKnown (v ∷ vs) number) × HasBegun (v ∷ vs) place here.view
    here same =
        let numbered : v.number ≡ number = ap (λ (u : View). u.number) same ∙ (numbered_has ((v ∷ vs) ++ more) number known.view known.is).number_is in
        (record { view = v; is = ap (λ (t : Bool). cond t (Some v) (view_numbered vs number)) (eq-eqb v.number number numbered) }, inr (vs, refl))

    by : (view_numbered (v ∷ vs) number ≡ Some known.view) ⊎ Among known.view more → HasBegun ((v ∷ vs) ++ more) place known.view → (here : IsKnown (v ∷ vs) number) × HasBegun (v ∷ vs) place here.view
    by (inl is) (inl low) = (record { view = known.view; is = is }, inl low)
    by (inr there) (inl low) = absurd (let past = each_among (λ (u : View). place < u.start) more known.view late there in omega (arith, past, low))
    by at (inr begins) = here (first begins.0 begins.1)

later_front : (v : View) (vs more : List View) (place : ℕ) (es : List LogEntry) (of r : ℕ) → StartPast place more → IsLater ((v ∷ vs) ++ more) place es of r → IsLater (v ∷ vs) place es of r
later_front v vs more place es of r late is =
    let here = begun_front v vs more place of late is.of_view is.begun in
    record { of_view = here.0; begun = here.1; some = is.some; most = is.most }

-- an installation of a place before the further views start is of none of them
installed_front : (first : View) (place : ℕ) (v : View) (vs more : List View) (i : Installation) → AreViews first place (v ∷ vs) → ArePast (present (v ∷ vs)).number more → StartPast i.place more
    → IsInstalledIn ((v ∷ vs) ++ more) i → IsInstalledIn (v ∷ vs) i
installed_front first place v vs more i are newer late is =
    let held = some_holder v vs i.place in
    let upto : i.view ≤ held.0.number = is.upto held.0 (for_end (v ∷ vs) more held.0 i.place late held.1) in
    record {
      of_view = by held.0 held.1 upto (numbered_or (v ∷ vs) more i.view is.of_view.view is.of_view.is);
      upto = λ u holds. is.upto u (for_end (v ∷ vs) more u i.place late holds);
      some = is.some;
    }
  where
    by : (h : View) → view_for (v ∷ vs) i.place ≡ Some h → i.view ≤ h.number → (view_numbered (v ∷ vs) i.view ≡ Some is.of_view.view) ⊎ Among is.of_view.view more → IsKnown (v ∷ vs) i.view
    by h holds upto (inl known) = record { view = is.of_view.view; is = known }
    by h holds upto (inr there) =
        let past = each_among (λ (u : View). (present (v ∷ vs)).number < u.number) more is.of_view.view newer there in
        let most = known_most first place (v ∷ vs) are h.number (some_numbered (v ∷ vs) h (held_among (v ∷ vs) i.place h holds)) in
        let same = (numbered_has ((v ∷ vs) ++ more) i.view is.of_view.view is.of_view.is).number_is in
        absurd (omega (arith, past, most, same, upto))

within_front : (first : View) (at : ℕ) (v : View) (vs more : List View) (bound place : ℕ) (es : List LogEntry) (e : LogEntry) → AreViews first at (v ∷ vs) → ArePast (present (v ∷ vs)).number more → StartPast bound more
    → place ≤ bound → ((i : Installation) → e ≡ Installed i → i.place ≤ bound) → IsWithin ((v ∷ vs) ++ more) place es e → IsWithin (v ∷ vs) place es e
within_front first at v vs more bound place es (Opened o) are newer late low made is = tt
within_front first at v vs more bound place es (Wrote w) are newer late low made is =
    let here = is.place_is in
    record { of_view = in_front v vs more w.slot.place w.slot.view (start_past bound w.slot.place more (omega (arith, here, low)) late) is.of_view; place_is = is.place_is; regency_is = is.regency_is }
within_front first at v vs more bound place es (Accepted a) are newer late low made is =
    let here = is.place_is in
    record { of_view = in_front v vs more a.slot.place a.slot.view (start_past bound a.slot.place more (omega (arith, here, low)) late) is.of_view; place_is = is.place_is; regency_is = is.regency_is }
within_front first at v vs more bound place es (Promised p) are newer late low made is = later_front v vs more place es p.view p.regency (start_past bound place more low late) is
within_front first at v vs more bound place es (Synced s) are newer late low made is = later_front v vs more place es s.view s.regency (start_past bound place more low late) is
within_front first at v vs more bound place es (Decided d) are newer late low made is =
    let here = is.place_is in
    record { of_view = in_front v vs more d.slot.place d.slot.view (start_past bound d.slot.place more (omega (arith, here, low)) late) is.of_view; place_is = is.place_is; low = is.low }
within_front first at v vs more bound place es (Installed i) are newer late low made is = installed_front first at v vs more i are newer (start_past bound i.place more (made i refl) late) is
within_front first at v vs more bound place es (Marked m) are newer late low made is = is

-- A book is sound by fewer views too, if those that are left out come later, and start past its next place.
pub book_front : (secret : List ℕ) (stated : List Statement) (first : View) (at : ℕ) (v : View) (vs more : List View) (es : List LogEntry) → AreViews first at (v ∷ vs) → ArePast (present (v ∷ vs)).number more
    → StartPast (last_made es + 1) more → IsSoundBook secret stated ((v ∷ vs) ++ more) es → IsSoundBook secret stated (v ∷ vs) es
book_front secret stated first at v vs more es are newer late is = record {
  begun = is.begun;
  lawful = is.lawful;
  tidy = is.tidy;
  ranged = λ before e after split.
      let there : Among e es = subst (λ (xs : List LogEntry). Among e xs) (sym split) (among_middle before e after) in
      let last : last_made es ≡ max (last_made before) (last_made (e ∷ after)) = ap (λ (xs : List LogEntry). last_made xs) split ∙ last_append before (e ∷ after) in
      record {
        within = within_front first at v vs more (last_made es + 1) (last_made before + 1) (before ++ e ∷ []) e are newer late (omega (arith, last))
            (λ i same. let most = made_most es i.place (record { entry = e; there = there; made = ap place_made same }) in omega (arith, most)) (is.ranged before e after split).within;
        newest = (is.ranged before e after split).newest;
      };
  backed = each-weaken (IsBackedIn secret ((v ∷ vs) ++ more) stated) (IsBackedIn secret (v ∷ vs) stated) (λ e rests u known. rests u (among_left u (v ∷ vs) more known)) es is.backed;
  batches = is.batches;
}

-- ---- along a list of batches

-- the views behind a longer list: those behind the list, and later ones
record Longer (view : View) (xs ys : List Batch) : Type 0 where
  rest : List View
  more : List View
  begins : views_after view xs ≡ view ∷ rest
  whole : views_after view (xs ++ ys) ≡ (view ∷ rest) ++ more
  are : AreViews view (length xs) (view ∷ rest)
  late : StartPast (length xs + 1) more
  past : ArePast (present (view ∷ rest)).number more

list_longer : (view : View) (xs ys : List Batch) → is_view view ≡ true → Each (λ (b : Batch). is_alone b ≡ true) xs → Each (λ (b : Batch). is_alone b ≡ true) ys → length (xs ++ ys) < 2 ^ 63 → Longer view xs ys
list_longer view xs ys viewed front behind few =
    let begun = views_begin view xs in
    let grown = after_grown view xs ys behind in
    let long = length-append xs ys in
    let are = after_are view (xs ++ ys) (length (xs ++ ys)) viewed (each_append (λ (b : Batch). is_alone b ≡ true) xs ys front behind) few (omega arith) in
    let whole : views_after view (xs ++ ys) ≡ view ∷ (begun.0 ++ grown.0) = grown.1 ∙ ap (λ (vs : List View). vs ++ grown.0) begun.1 in
    let tail : are.rest ≡ begun.0 ++ grown.0 = (let same : view ∷ are.rest ≡ view ∷ (begun.0 ++ grown.0) = sym are.begins ∙ whole in cc) in
    record {
      rest = begun.0;
      more = grown.0;
      begins = begun.1;
      whole = whole;
      are = subst (λ (vs : List View). AreViews view (length xs) vs) begun.1 (after_are view xs (length xs) viewed front (omega (arith, few, long)) (omega arith));
      late = grown.2;
      past = past_first (length (xs ++ ys)) view begun.0 grown.0 (subst (λ (vs : List View). follow (length (xs ++ ys)) view.number 0 vs ≡ true) tail are.follows);
    }

-- A book that names no place past the one behind a list is sound by the views behind a longer list, if it is by those behind the list.
pub listed_within : (secret : List ℕ) (stated : List Statement) (view : View) (bound : ℕ) (xs ys : List Batch) (es : List LogEntry) → is_view view ≡ true → Each (λ (b : Batch). is_alone b ≡ true) xs
    → Each (λ (b : Batch). is_alone b ≡ true) ys → length (xs ++ ys) < 2 ^ 63 → bound ≤ length xs + 1 → Each (IsWithin (views_after view xs) bound es) es
    → IsSoundBook secret stated (views_after view xs) es → IsSoundBook secret stated (views_after view (xs ++ ys)) es × Each (IsWithin (views_after view (xs ++ ys)) bound es) es
listed_within secret stated view bound xs ys es viewed front behind few low within is =
    let l = list_longer view xs ys viewed front behind few in
    subst (λ (vs : List View). IsSoundBook secret stated vs es × Each (IsWithin vs bound es) es) (sym l.whole)
    (book_within secret stated view (length xs) bound (view ∷ l.rest) l.more es l.are l.past (start_past (length xs + 1) bound l.more low l.late)
    (subst (λ (vs : List View). Each (IsWithin vs bound es) es) l.begins within) (subst (λ (vs : List View). IsSoundBook secret stated vs es) l.begins is))

-- A book that makes no place past a list is sound by the views behind it exactly where it is so by those behind a longer list.
pub book_longer : (secret : List ℕ) (stated : List Statement) (view : View) (xs ys : List Batch) (es : List LogEntry) → is_view view ≡ true → Each (λ (b : Batch). is_alone b ≡ true) xs
    → Each (λ (b : Batch). is_alone b ≡ true) ys → length (xs ++ ys) < 2 ^ 63 → last_made es ≤ length xs
    → IsSoundBook secret stated (views_after view xs) es → IsSoundBook secret stated (views_after view (xs ++ ys)) es
book_longer secret stated view xs ys es viewed front behind few made is =
    (listed_within secret stated view (last_made es + 1) xs ys es viewed front behind few (omega (arith, made)) (book_ranged secret stated (views_after view xs) (last_made es + 1) es (omega arith) is) is).0

pub book_shorter : (secret : List ℕ) (stated : List Statement) (view : View) (xs ys : List Batch) (es : List LogEntry) → is_view view ≡ true → Each (λ (b : Batch). is_alone b ≡ true) xs
    → Each (λ (b : Batch). is_alone b ≡ true) ys → length (xs ++ ys) < 2 ^ 63 → last_made es ≤ length xs
    → IsSoundBook secret stated (views_after view (xs ++ ys)) es → IsSoundBook secret stated (views_after view xs) es
book_shorter secret stated view xs ys es viewed front behind few made is =
    let l = list_longer view xs ys viewed front behind few in
    subst (λ (vs : List View). IsSoundBook secret stated vs es) (sym l.begins)
    (book_front secret stated view (length xs) view l.rest l.more es l.are l.past (start_past (length xs + 1) (last_made es + 1) l.more (omega (arith, made)) l.late)
    (subst (λ (vs : List View). IsSoundBook secret stated vs es) l.whole is))
