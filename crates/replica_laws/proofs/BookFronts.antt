-- A node knows the views that its batches make. So each front of its book is sound in the views behind what it decides.
use Rattle.std.proofs.Common.{◌≡◌, ℕ, ◌+◌, ◌-◌, ◌^◌, ◌<◌, ◌≤◌, ◌++◌, true, List, [], ◌∷◌, length, take, drop, refl, ap, sym, subst, ◌∙◌, arith, inl, inr}
use Rattle.std.proofs.lemmas.List.{length-take-le, take-append-drop}
use Rattle.smart_base.specs.Lists.{Each}
use Rattle.smart_base.specs.Views.{View, is_view}
use Rattle.smart_statements.specs.Batches.{Batch}
use Rattle.smart_statements.specs.declared.entry.NodeEvent.{NodeEvent}
use Rattle.smart_statements.specs.declared.entry.NodeEvent.TheVariants.{Arrive, Tick, Deliver, Firm}
use Rattle.smart_service.specs.Services.{Meaning}
use Rattle.smart_service.specs.declared.replica.Replica.{Replica}
use Rattle.vote_book.specs.Books.{Among, last_made}
use Rattle.vote_book.specs.declared.entry.LogEntry.{LogEntry}
use Rattle.vote_book.specs.declared.entry.LogEntry.TheVariants.{Installed}
use Rattle.book_laws.specs.BookCuts.{InstallUpTo}
use Rattle.replica_rules.specs.Replicas.{empty, state, views_after}
use Rattle.replica_rules.specs.Seals.{is_alone}
use Rattle.replica_rules.proofs.Managed.{state_views}
use Rattle.replica_rules.proofs.Places.{state_place}
use Rattle.agreement_laws.specs.Statements.{Statement}
use Rattle.agreement_laws.proofs.Lists.{among_left, each_among}
use Rattle.node_rules.specs.Kept.{node_after}
use Rattle.node_rules.specs.Nodes.{Node, next_place}
use Rattle.node_rules.specs.Reopening.{decided_of, reopened}
use Rattle.node_rules.specs.Steps.{outset, step_of}
use Rattle.node_laws.specs.Restored.{IsSoundBook}
use Rattle.node_laws.specs.Sound.{IsSound, IsWithin}
use Rattle.node_laws.proofs.BookViews.{book_longer, book_shorter, listed_within}
use Rattle.node_laws.proofs.CutNodes.{decided_few, each_right, entries_alone, sound_reopened}
use Rattle.node_laws.proofs.Reopened.{after_append, count_is}
use Rattle.node_laws.proofs.Restored.{book_sound, decided_append, front_sound}
use Rattle.replica_laws.specs.Books.{passing, is_installation, DeliversInOrder}
use Rattle.replica_laws.proofs.Alone.{count_after, count-step, order-step, place_within}
use Rattle.replica_laws.proofs.Longer.{longer-step}

-- ---- along events

-- A node that takes no replica over goes on to deliver in order, from its opening.
pub order_along : {S : Type 0} (m : Meaning S) (base : Replica S) (n : Node S) (events : List NodeEvent) → passing is_installation (node_after m n events).entries ≤ passing is_installation n.entries
    → DeliversInOrder m base n → DeliversInOrder m base (node_after m n events)
order_along m base n [] quiet d = d
order_along {S = S} m base n (e ∷ es) quiet d =
    let next : Node S = (step_of m n e).node in
    let one = count-step m n e in
    let rest = count_after m next es in
    order_along m base next es (omega (arith, quiet, one)) (order-step m base n e (omega (arith, quiet, rest)) d)

opening-step : {S : Type 0} (m : Meaning S) (n : Node S) (event : NodeEvent) → (step_of m n event).node.opening ≡ n.opening
opening-step m n (Arrive bytes) = (longer-step m n (Arrive bytes)).opening_is
opening-step m n Tick = (longer-step m n Tick).opening_is
opening-step m n Deliver = (longer-step m n Deliver).opening_is
opening-step m n (Firm count) = (longer-step m n (Firm count)).opening_is

pub opening_along : {S : Type 0} (m : Meaning S) (n : Node S) (events : List NodeEvent) → (node_after m n events).opening ≡ n.opening
opening_along m n [] = refl
opening_along m n (e ∷ es) = opening_along m (step_of m n e).node es ∙ opening-step m n e

-- ---- the views that a node knows

pub views_known : {S : Type 0} (m : Meaning S) (view : View) (list : List Batch) (n : Node S) → DeliversInOrder m (state m view list) n
    → n.replica.views ≡ views_after view (list ++ take (n.replica.place - length list) (decided_of (length list) n.entries))
views_known {S = S} m view list n d =
    let at : (state m view list).place ≡ length list = state_place m view list in
    let here : n.replica.place ≡ (state m view list).place + d.count = d.place in
    let count : d.count ≡ n.replica.place - length list = omega (arith, at, here) in
    let more : List Batch = take d.count (decided_of (state m view list).place n.entries) in
    ap (λ (r : Replica S). r.views) (d.replica ∙ after_append m (empty m view) list more)
    ∙ (state_views m view (list ++ more)
    ∙ (ap (λ (k : ℕ). views_after view (list ++ take k (decided_of (state m view list).place n.entries))) count
    ∙ ap (λ (k : ℕ). views_after view (list ++ take (n.replica.place - length list) (decided_of k n.entries))) at))

-- ---- longer lists

each_left : (P : Batch → Type 0) (xs ys : List Batch) → Each P (xs ++ ys) → Each P xs
each_left P [] ys each = tt
each_left P (x ∷ xs) ys each = (each.0, each_left P xs ys each.1)

pub sound_longer : (secret : List ℕ) (stated : List Statement) (view : View) (xs ys : List Batch) (es : List LogEntry) → is_view view ≡ true → Each (λ (b : Batch). is_alone b ≡ true) (xs ++ ys)
    → length (xs ++ ys) < 2 ^ 63 → last_made es ≤ length xs → IsSoundBook secret stated (views_after view xs) es → IsSoundBook secret stated (views_after view (xs ++ ys)) es
sound_longer secret stated view xs ys es viewed alone few made is =
    let P : Batch → Type 0 = λ b. is_alone b ≡ true in
    book_longer secret stated view xs ys es viewed (each_left P xs ys alone) (each_right P xs ys alone) few made is

pub sound_shorter : (secret : List ℕ) (stated : List Statement) (view : View) (xs ys : List Batch) (es : List LogEntry) → is_view view ≡ true → Each (λ (b : Batch). is_alone b ≡ true) (xs ++ ys)
    → length (xs ++ ys) < 2 ^ 63 → last_made es ≤ length xs → IsSoundBook secret stated (views_after view (xs ++ ys)) es → IsSoundBook secret stated (views_after view xs) es
sound_shorter secret stated view xs ys es viewed alone few made is =
    let P : Batch → Type 0 = λ b. is_alone b ≡ true in
    book_shorter secret stated view xs ys es viewed (each_left P xs ys alone) (each_right P xs ys alone) few made is

-- ---- the book of a node

-- entries of which none is an installation
none_there : (es : List LogEntry) → passing is_installation es ≡ 0 → InstallUpTo 0 es
none_there [] none i there = absurd there
none_there (e ∷ es) none i (inl same) =
    let one : passing is_installation (Installed i ∷ es) ≡ 0 = subst (λ (x : LogEntry). passing is_installation (x ∷ es) ≡ 0) (sym same) none in
    absurd (omega (arith, one))
none_there (e ∷ es) none i (inr there) = none_there es (omega (arith, none)) i there

-- the group's first view is valid
first_valid : {S : Type 0} (stated : List Statement) (first : View) (n : Node S) → IsSound stated first n → is_view first ≡ true
first_valid stated first n is = each_among (λ (v : View). is_view v ≡ true) n.replica.views first is.views.valid (subst (λ (vs : List View). Among first vs) (sym is.views.begins) (inl refl))

-- a sound node that began with the empty replica, and took over none
module _ {S : Type 0} (m : Meaning S) (stated : List Statement) (first : View) (n : Node S) (is : IsSound stated first n) (d : DeliversInOrder m (empty m first) n) (began : n.opening ≡ 0)
    (none : passing is_installation n.entries ≡ 0) where
  decided : List Batch
  decided = decided_of 0 n.entries

  viewed : is_view first ≡ true
  viewed = first_valid stated first n is

  book : IsSoundBook n.secret stated n.replica.views n.entries
  book = book_sound stated first n is began

  alone : Each (λ (b : Batch). is_alone b ≡ true) decided
  unfolding decided
  alone = entries_alone n.secret stated 0 n.entries book.batches

  few : length decided < 2 ^ 63
  unfolding decided
  few =
      let count = count_is n.secret stated n.replica.views n.entries book (none_there n.entries none) in
      let low = decided_few n.secret stated n.replica.views n.entries book (none_there n.entries none) in
      omega (arith, count, low)

  -- all that it decides makes the views in which its book is sound; the last batch may wait
  whole_sound : IsSoundBook n.secret stated (views_after first decided) n.entries
  unfolding decided
  whole_sound =
      let k : ℕ = d.count in
      let ds : List Batch = decided_of 0 n.entries in
      let P : Batch → Type 0 = λ b. is_alone b ≡ true in
      let place : n.replica.place ≡ 0 + k = d.place in
      let all : 0 + length ds ≡ _ = d.all in
      let within = place_within n in
      let low : k ≤ length ds = omega (arith, place, all, within) in
      let long : length (take k ds) ≡ k = length-take-le k ds low in
      let split : take k ds ++ drop k ds ≡ ds = take-append-drop k ds in
      let known : n.replica.views ≡ views_after first (take k ds) = ap (λ (r : Replica S). r.views) d.replica ∙ state_views m first (take k ds) in
      let both : Each P (take k ds ++ drop k ds) = subst (λ (bs : List Batch). Each P bs) (sym split) alone in
      subst (λ (bs : List Batch). IsSoundBook n.secret stated (views_after first bs) n.entries) split
      (listed_within n.secret stated first (next_place n) (take k ds) (drop k ds) n.entries viewed (each_left P (take k ds) (drop k ds) both) (each_right P (take k ds) (drop k ds) both)
      (subst (λ (bs : List Batch). length bs < 2 ^ 63) (sym split) few) (omega (arith, place, long))
      (subst (λ (vs : List View). Each (IsWithin vs (next_place n) n.entries) n.entries) known is.within)
      (subst (λ (vs : List View). IsSoundBook n.secret stated vs n.entries) known book)).0

  none_front : (k : ℕ) → InstallUpTo 0 (take k n.entries)
  none_front k i there =
      none_there n.entries none i (subst (λ (es : List LogEntry). Among (Installed i) es) (take-append-drop k n.entries) (among_left (Installed i) (take k n.entries) (drop k n.entries) there))

  -- each front is sound in the views behind what it decides
  pub front_by_itself : (k : ℕ) → IsSoundBook n.secret stated (views_after first (decided_of 0 (take k n.entries))) (take k n.entries)
  unfolding decided
  front_by_itself k =
      let es : List LogEntry = take k n.entries in
      let front : IsSoundBook n.secret stated (views_after first (decided_of 0 n.entries)) es = front_sound n.secret stated (views_after first (decided_of 0 n.entries)) n.entries k whole_sound in
      let count = count_is n.secret stated (views_after first (decided_of 0 n.entries)) es front (none_front k) in
      let split : decided_of 0 n.entries ≡ decided_of 0 es ++ decided_of 0 (drop k n.entries) =
      ap (λ (xs : List LogEntry). decided_of 0 xs) (sym (take-append-drop k n.entries)) ∙ decided_append 0 es (drop k n.entries) in
      sound_shorter n.secret stated first (decided_of 0 es) (decided_of 0 (drop k n.entries)) es viewed (subst (λ (bs : List Batch). Each (λ (b : Batch). is_alone b ≡ true) bs) split alone)
      (subst (λ (bs : List Batch). length bs < 2 ^ 63) split few) (omega (arith, count))
      (subst (λ (bs : List Batch). IsSoundBook n.secret stated (views_after first bs) es) split front)

  -- so a member may restart from it
  pub front_restarts : (id period k : ℕ) → IsSound stated first (reopened m (outset m n.secret id first period) (take k n.entries))
  front_restarts id period k = sound_reopened m n.secret id stated first period (take k n.entries) viewed (front_by_itself k) (none_front k)
