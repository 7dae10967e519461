-- Books and nodes of one list of batches: their views are those behind a front of the list.
use Rattle.std.proofs.Common.{List, ap, arith, drop, inl, length, refl, subst, suc, sym, take, true, zero, ℕ, ◌≡◌, ◌≤◌, ◌<◌, ◌^◌, ◌+◌, ◌++◌, ◌∙◌, [], ◌∷◌}
use Rattle.std.proofs.lemmas.List.{length-take-le, take-append-drop}
use Rattle.smart_base.specs.Lists.{Each}
use Rattle.smart_base.specs.Views.{View, is_view, present}
use Rattle.smart_statements.specs.Batches.{Batch}
use Rattle.smart_service.specs.Services.{Meaning}
use Rattle.smart_service.specs.declared.replica.Replica.{Replica}
use Rattle.vote_book.specs.Books.{Among, last_made}
use Rattle.vote_book.specs.declared.entry.LogEntry.{LogEntry}
use Rattle.replica_rules.specs.Replicas.{views_after}
use Rattle.replica_rules.specs.Seals.{is_alone}
use Rattle.replica_rules.proofs.Managed.{state_views, views_begin, views_grow}
use Rattle.agreement_laws.specs.Statements.{Statement}
use Rattle.agreement_laws.proofs.Lists.{among_left, each_take}
use Rattle.node_rules.specs.Nodes.{Node, next_place, view_of}
use Rattle.node_laws.specs.Restored.{IsSoundBook}
use Rattle.node_laws.specs.Sound.{AreViews, IsWithin}
use Rattle.node_laws.proofs.BookViews as books
use Rattle.node_laws.proofs.ListedViews.{after_are, present_there}
use Rattle.world_laws.proofs.Wholes.{IsAt}

-- what holds of each batch of a list holds of each behind a front
each_behind : (P : Batch → Type 0) (k : ℕ) (list : List Batch) → Each P list → Each P (drop k list)
each_behind P zero list all = all
each_behind P (suc k) [] all = tt
each_behind P (suc k) (b ∷ bs) all = each_behind P k bs all.1

-- ---- a list of batches in each of which a request of the view manager stands alone

pub record IsTame (view : View) (list : List Batch) : Type 0 where
  pub viewed : is_view view ≡ true
  pub alone : Each (λ (b : Batch). is_alone b ≡ true) list
  pub low : length list < 2 ^ 63

-- the first view is one of its views
pub first_there : (view : View) (list : List Batch) → Among view (views_after view list)
first_there view list = let begun = views_begin view list in subst (λ (vs : List View). Among view vs) (sym begun.1) (inl refl)

-- the views of a front are among those of the whole
pub front_there : (view : View) (k : ℕ) (list : List Batch) (u : View) → Among u (views_after view (take k list)) → Among u (views_after view list)
front_there view k list u there =
    let grown = views_grow view (take k list) (drop k list) in
    let whole : views_after view list ≡ views_after view (take k list) ++ grown.0 = ap (λ (bs : List Batch). views_after view bs) (sym (take-append-drop k list)) ∙ grown.1 in
    subst (λ (vs : List View). Among u vs) (sym whole) (among_left u (views_after view (take k list)) grown.0 there)

-- and so are those of a list that goes on from it
pub longer_there : (view : View) (xs ys : List Batch) (u : View) → take (length xs) ys ≡ xs → Among u (views_after view xs) → Among u (views_after view ys)
longer_there view xs ys u front there = front_there view (length xs) ys u (subst (λ (bs : List Batch). Among u (views_after view bs)) (sym front) there)

-- ---- books

-- a book that makes no place past a list is sound by a longer one
pub book_more_batches : (secret : List ℕ) (stated : List Statement) (view : View) (chosen more : List Batch) (es : List LogEntry) → IsTame view more → take (length chosen) more ≡ chosen → last_made es ≤ length chosen
    → IsSoundBook secret stated (views_after view chosen) es → IsSoundBook secret stated (views_after view more) es
book_more_batches secret stated view chosen more es tame front made is =
    let k : ℕ = length chosen in
    let whole : chosen ++ drop k more ≡ more = ap (λ (bs : List Batch). bs ++ drop k more) (sym front) ∙ take-append-drop k more in
    let P : Batch → Type 0 = λ b. is_alone b ≡ true in
    subst (λ (bs : List Batch). IsSoundBook secret stated (views_after view bs) es) whole
    (books.book_longer secret stated view chosen (drop k more) es tame.viewed (subst (λ (bs : List Batch). Each P bs) front (each_take P k more tame.alone)) (each_behind P k more tame.alone)
    (subst (λ (bs : List Batch). length bs < 2 ^ 63) (sym whole) tame.low) made is)

-- a book by the views of the list up to its own last place
pub record IsOwn (secret : List ℕ) (stated : List Statement) (view : View) (list : List Batch) (es : List LogEntry) : Type 0 where
  pub are : AreViews view (last_made es) (views_after view (take (last_made es) list))
  pub sound : IsSoundBook secret stated (views_after view (take (last_made es) list)) es
  pub within : Each (IsWithin (views_after view (take (last_made es) list)) (last_made es + 1) es) es

pub book_own : (secret : List ℕ) (stated : List Statement) (view : View) (list : List Batch) (es : List LogEntry) → IsTame view list → last_made es ≤ length list → IsSoundBook secret stated (views_after view list) es
    → IsOwn secret stated view list es
book_own secret stated view list es tame made is =
    let k : ℕ = last_made es in
    let P : Batch → Type 0 = λ b. is_alone b ≡ true in
    let front = each_take P k list tame.alone in
    let whole = take-append-drop k list in
    let long : length (take k list) ≡ k = length-take-le k list made in
    let low = tame.low in
    let sound = books.book_shorter secret stated view (take k list) (drop k list) es tame.viewed front (each_behind P k list tame.alone) (subst (λ (bs : List Batch). length bs < 2 ^ 63) (sym whole) tame.low) (omega (arith, long))
    (subst (λ (bs : List Batch). IsSoundBook secret stated (views_after view bs) es) (sym whole) is) in
    record {
      are = after_are view (take k list) k tame.viewed front (omega (arith, long, made, low)) (omega (arith, long));
      sound = sound;
      within = books.book_ranged secret stated (views_after view (take k list)) (k + 1) es (omega arith) sound;
    }

-- ---- nodes

-- a node along the list knows the views behind its place
pub node_views : {S : Type 0} (m : Meaning S) (view : View) (chosen : List Batch) (n : Node S) → IsAt m view chosen n → n.replica.views ≡ views_after view (take n.replica.place chosen)
node_views m view chosen n at = ap (λ (r : Replica _). r.views) at.replica ∙ state_views m view (take n.replica.place chosen)

-- its view in force is one of the list's
pub view_there : {S : Type 0} (m : Meaning S) (view : View) (chosen : List Batch) (n : Node S) → IsAt m view chosen n → Among (view_of n) (views_after view chosen)
view_there m view chosen n at =
    front_there view n.replica.place chosen (view_of n)
    (subst (λ (v : View). Among v (views_after view (take n.replica.place chosen))) (sym (ap (λ (vs : List View). present vs) (node_views m view chosen n at))) (present_there view (take n.replica.place chosen)))

-- a book that names no place past its next one is sound by the list's views, if it is by the node's
pub book_list : {S : Type 0} (m : Meaning S) (secret : List ℕ) (stated : List Statement) (view : View) (chosen : List Batch) (n : Node S) (es : List LogEntry) → IsTame view chosen → IsAt m view chosen n
    → Each (IsWithin n.replica.views (next_place n) es) es → IsSoundBook secret stated n.replica.views es → IsSoundBook secret stated (views_after view chosen) es
book_list m secret stated view chosen n es tame at within is =
    let k : ℕ = n.replica.place in
    let P : Batch → Type 0 = λ b. is_alone b ≡ true in
    let whole = take-append-drop k chosen in
    let long : length (take k chosen) ≡ k = length-take-le k chosen at.reached in
    let known = node_views m view chosen n at in
    subst (λ (bs : List Batch). IsSoundBook secret stated (views_after view bs) es) whole
    (books.listed_within secret stated view (k + 1) (take k chosen) (drop k chosen) es tame.viewed (each_take P k chosen tame.alone) (each_behind P k chosen tame.alone)
    (subst (λ (bs : List Batch). length bs < 2 ^ 63) (sym whole) tame.low) (omega (arith, long))
    (subst (λ (vs : List View). Each (IsWithin vs (k + 1) es) es) known within) (subst (λ (vs : List View). IsSoundBook secret stated vs es) known is)).0
