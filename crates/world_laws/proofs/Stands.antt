-- A step leaves a node at its place of the list. What it installs is the state that more than f members marked.
use Rattle.std.proofs.Common.{◌≡◌, ℕ, zero, suc, ◌+◌, ◌<◌, ◌≤◌, ◌++◌, ◌∙◌, Bool, true, List, [], ◌∷◌, length, take, ap, sym, arith, subst, Option, Some, None}
use Rattle.std.proofs.lemmas.List.{length-take-le}
use Rattle.std.specs.Prelude.{IfSome, slice_get}
use Rattle.smart_base.specs.Views.{View}
use Rattle.smart_statements.specs.Batches.{Batch}
use Rattle.smart_service.specs.Services.{Meaning}
use Rattle.smart_service.specs.declared.replica.Replica.{Replica}
use Rattle.state_transfer.specs.Fetches.{are_all_there, joined_of}
use Rattle.state_transfer.specs.declared.fetch.Fetch.{Fetch}
use Rattle.state_transfer.specs.declared.choice.Plan.{Plan}
use Rattle.vote_book.specs.Books.{Among}
use Rattle.vote_book.specs.declared.entry.LogEntry.{LogEntry}
use Rattle.book_laws.specs.BookCuts.{cut_at}
use Rattle.replica_rules.specs.Replicas.{batch_at, delivered, empty, state, views_after}
use Rattle.replica_rules.specs.Seals.{digest_of}
use Rattle.replica_rules.proofs.Managed.{state_views}
use Rattle.replica_rules.proofs.Places.{place_delivered, state_place}
use Rattle.agreement_laws.specs.Law.{Witnessed}
use Rattle.agreement_laws.specs.Statements.{Statement}
use Rattle.agreement_laws.proofs.Lists.{some_equal}
use Rattle.node_rules.specs.Nodes.{Node, next_place}
use Rattle.node_laws.specs.Restoring.{AreAlong}
use Rattle.node_laws.specs.Sound.{IsPlanned, IsSound}
use Rattle.node_laws.proofs.Planning.{IsTakenFrom}
use Rattle.node_laws.proofs.Installing.{IsReady}
use Rattle.node_laws.proofs.Reopened.{after_append}
use Rattle.node_laws.proofs.Views.{numbered_has}
use Rattle.replica_laws.proofs.Moves.{Moves, moves_none, moves_on, moves_to}
use Rattle.world_rules.specs.declared.message.Sent.{Sent}
use Rattle.world_laws.proofs.Fetching.{IsFetchMet, some-joined}
use Rattle.world_laws.proofs.Fronts.{batch_at-next}
use Rattle.world_laws.proofs.NoClash.{IsTextMet, TextsExact}
use Rattle.world_laws.proofs.Snapshots.{AreRestorable, IsSnapshotAt}
use Rattle.world_laws.proofs.Taken.{AreMarksRight, certified_replica, certified_text}
use Rattle.world_laws.proofs.Wholes.{IsAt, decided_at, waiting_decided}

-- a replica that is the state at its place of a list
pub record IsStateAt {S : Type 0} (m : Meaning S) (view : View) (chosen : List Batch) (r : Replica S) : Type 0 where
  pub reached : r.place ≤ length chosen
  pub replica : r ≡ state m view (take r.place chosen)

-- ---- the list's next batch is delivered

take_next : {A : Type 0} (xs : List A) (p : ℕ) (x : A) → slice_get xs p ≡ Some x → take (p + 1) xs ≡ take p xs ++ x ∷ []
take_next [] p x at = absurd (cc)
take_next (y ∷ xs) zero x at = cc
take_next (y ∷ xs) (suc p) x at = let e : suc p + 1 ≡ suc (p + 1) = omega arith in rw e (ap (λ ys. y ∷ ys) (take_next xs p x at))

pub get_within : {A : Type 0} (xs : List A) (p : ℕ) (x : A) → slice_get xs p ≡ Some x → p < length xs
get_within [] p x at = absurd (cc)
get_within (y ∷ xs) zero x at = omega arith
get_within (y ∷ xs) (suc p) x at = let rest = get_within xs p x at in omega (arith, rest)

state_next : {S : Type 0} (m : Meaning S) (view : View) (chosen : List Batch) (p : ℕ) (batch : Batch) → slice_get chosen p ≡ Some batch
    → state m view (take (p + 1) chosen) ≡ delivered m (state m view (take p chosen)) batch
state_next m view chosen p batch at =
    ap (λ (bs : List Batch). state m view bs) (take_next chosen p batch at) ∙ sym (after_append m (empty m view) (take p chosen) (batch ∷ []))

-- ---- a step

module _ {S : Type 0} (m : Meaning S) (secret : List ℕ) (stated : List Statement) (view : View) (chosen : List Batch) (sent : List Sent) (marked : List (List ℕ)) (faulty : ℕ → Bool) (diary : ℕ → List LogEntry)
    (witnessed : (u : View) (k : ℕ) → Among u (views_after view (take k chosen)) → Witnessed secret digest_of u faulty diary stated) (right : AreMarksRight m view chosen sent marked faulty diary) (exact : TextsExact sent marked) (may : AreRestorable m view chosen)
    (whole : List LogEntry) (n : Node S) (sound : IsSound stated view n) (shared : n.secret ≡ secret) (cut : n.entries ≡ cut_at n.opening whole) (along : AreAlong chosen whole) (at : IsAt m view chosen n)
    (met : IsFetchMet sent marked n.fetch) where
  stays : (r : Replica S) → r ≡ n.replica → IsStateAt m view chosen r
  stays r is = subst (λ (x : Replica S). IsStateAt m view chosen x) (sym is) (record { reached = at.reached; replica = at.replica })

  goes_on : (batch : Batch) (r : Replica S) → n.waiting ≡ Some batch → r ≡ delivered m n.replica batch → IsStateAt m view chosen r
  goes_on batch r waits is =
      let listed : batch_at chosen (n.replica.place + 1) ≡ Some batch = decided_at chosen whole (next_place n) batch along (waiting_decided stated view whole n batch sound cut waits) in
      let here : slice_get chosen n.replica.place ≡ Some batch = sym (batch_at-next chosen n.replica.place) ∙ listed in
      let below = get_within chosen n.replica.place batch here in
      let next : (delivered m n.replica batch).place ≡ n.replica.place + 1 = place_delivered m n.replica batch in
      subst (λ (x : Replica S). IsStateAt m view chosen x) (sym is) (record {
        reached = omega (arith, next, below);
        replica = ap (λ (x : Replica S). delivered m x batch) at.replica
            ∙ (sym (state_next m view chosen n.replica.place batch here) ∙ ap (λ (k : ℕ). state m view (take k chosen)) (sym next));
      })

  stands_planned : (fetch : Option Fetch) (f : Fetch) → fetch ≡ Some f → IfSome fetch (λ (x : Fetch). IsPlanned n.secret n.replica.views stated x.plan) → IsPlanned n.secret n.replica.views stated f.plan
  stands_planned None f is planned = absurd (cc)
  stands_planned (Some x) f is planned = subst (λ (y : Fetch). IsPlanned n.secret n.replica.views stated y.plan) (some_equal x f is) planned

  stands_met : (fetch : Option Fetch) (f : Fetch) → fetch ≡ Some f → IsFetchMet sent marked fetch → are_all_there f ≡ true → (joined_of f ≡ [] → ⊥) → IsTextMet sent marked (joined_of f)
  stands_met None f is texts = absurd (cc)
  stands_met (Some x) f is texts =
      subst (λ (y : Fetch). are_all_there y ≡ true → (joined_of y ≡ [] → ⊥) → IsTextMet sent marked (joined_of y)) (some_equal x f is) texts

  -- a view that the node knows is one of the list's
  known : (u : View) → Among u n.replica.views → Among u (views_after view (take n.replica.place chosen))
  known u there = subst (λ (vs : List View). Among u vs) (ap (λ (r : Replica S). r.views) at.replica ∙ state_views m view (take n.replica.place chosen)) there

  -- so the view in which a plan's marks certify has witnesses
  planned_by : (p : Plan) (planned : IsPlanned secret n.replica.views stated p) → Witnessed secret digest_of planned.of_view.view faulty diary stated
  planned_by p planned = witnessed planned.of_view.view n.replica.place (known planned.of_view.view (numbered_has n.replica.views p.view planned.of_view.view planned.of_view.is).there)

  installs : (f : Fetch) (r : Replica S) → IsReady n f → are_all_there f ≡ true → IsTakenFrom m f r → IsStateAt m view chosen r
  installs f r due all taken =
      let planned : IsPlanned secret n.replica.views stated f.plan = subst (λ (s : List ℕ). IsPlanned s n.replica.views stated f.plan) shared (stands_planned n.fetch f due.stands sound.fetch) in
      let text = certified_text m secret planned.of_view.view view chosen sent marked faulty diary stated f.plan.place f.plan.digest f.plan.marks (joined_of f) (planned_by f.plan planned) right exact planned.certified planned.drawn
      (stands_met n.fetch f due.stands met all (some-joined m f r taken)) taken.digest_is in
      let state_is : r ≡ state m view (take text.1.place chosen) = certified_replica m view chosen (joined_of f) r may text.1 taken.read in
      let long : length (take text.1.place chosen) ≡ text.1.place = length-take-le text.1.place chosen text.1.within in
      let place : r.place ≡ text.1.place = ap (λ (x : Replica S). x.place) state_is ∙ (state_place m view (take text.1.place chosen) ∙ long) in
      let within = text.1.within in
      record { reached = omega (arith, place, within); replica = state_is ∙ ap (λ (k : ℕ). state m view (take k chosen)) (sym place) }

  -- the text that it joined is a snapshot of the list
  pub installed-text : (f : Fetch) (r : Replica S) → IsReady n f → are_all_there f ≡ true → IsTakenFrom m f r → IsSnapshotAt m view chosen (joined_of f)
  installed-text f r due all taken =
      let planned : IsPlanned secret n.replica.views stated f.plan = subst (λ (s : List ℕ). IsPlanned s n.replica.views stated f.plan) shared (stands_planned n.fetch f due.stands sound.fetch) in
      (certified_text m secret planned.of_view.view view chosen sent marked faulty diary stated f.plan.place f.plan.digest f.plan.marks (joined_of f) (planned_by f.plan planned) right exact planned.certified planned.drawn
      (stands_met n.fetch f due.stands met all (some-joined m f r taken)) taken.digest_is).1

  pub moved-at : (r : Replica S) → Moves m n r → IsStateAt m view chosen r
  moved-at r (moves_none is) = stays r is
  moved-at r (moves_on batch waits is) = goes_on batch r waits is
  moved-at r (moves_to f due all taken of) = installs f r due all taken
