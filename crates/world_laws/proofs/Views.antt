-- How a step changes the views that a node knows: later ones may come behind them.
use Rattle.std.proofs.Common.{◌≡◌, ◌≤◌, ◌+◌, ◌++◌, ℕ, List, [], ◌∷◌, ap, append-nil, arith, ◌∙◌, inl, inr, subst, sym}
use Rattle.smart_base.specs.Lists.{Each}
use Rattle.smart_base.specs.Views.{View}
use Rattle.smart_statements.specs.declared.entry.NodeEvent.{NodeEvent}
use Rattle.smart_service.specs.Services.{Meaning}
use Rattle.smart_service.specs.declared.replica.Replica.{Replica}
use Rattle.vote_book.specs.declared.entry.LogEntry.{LogEntry}
use Rattle.agreement_laws.specs.Statements.{Statement}
use Rattle.replica_rules.specs.Replicas.{delivered}
use Rattle.replica_rules.proofs.Managed.{AtMostOne, delivered_one}
use Rattle.node_rules.specs.Nodes.{Node, next_place, view_of}
use Rattle.node_rules.specs.Steps.{step_of, takes_in}
use Rattle.node_laws.specs.Restored.{IsSoundBook}
use Rattle.node_laws.specs.Sound.{AreViews, IsSound, IsWithin}
use Rattle.node_laws.proofs.BookViews.{book_within}
use Rattle.node_laws.proofs.Delivering.{waits_alone}
use Rattle.node_laws.proofs.Growing.{ArePast, StartPast}
use Rattle.node_laws.proofs.Installing.{group_views, taken_past}
use Rattle.replica_laws.proofs.Follows.{waits-takes_in}
use Rattle.replica_laws.proofs.Moves.{Moves, moved-step, moves_none, moves_on, moves_place, moves_to}

-- the views that a later node knows: those of a node, and more that start past its next place
pub record Grows {S : Type 0} (n n' : Node S) : Type 0 where
  pub rest : List View
  pub is : n'.replica.views ≡ n.replica.views ++ rest
  pub late : StartPast (next_place n) rest

grows_none : {S : Type 0} (n n' : Node S) → n'.replica.views ≡ n.replica.views → Grows n n'
grows_none n n' same = record { rest = []; is = same ∙ sym (append-nil n.replica.views); late = tt }

grows_by : {S : Type 0} (n n' : Node S) (views : List View) → n'.replica.views ≡ views → AtMostOne (next_place n) n.replica.views views → Grows n n'
grows_by n n' views is (inl same) = grows_none n n' (is ∙ same)
grows_by n n' views is (inr one) = let start = one.2.start_is in record { rest = one.0 ∷ []; is = is ∙ one.1; late = (omega (arith, start), tt) }

moved-grows : {S : Type 0} (m : Meaning S) (stated : List Statement) (view : View) (n n' : Node S) → IsSound stated view n → Moves m n n'.replica → Grows n n'
moved-grows {S = S} m stated view n n' sound (moves_none is) = grows_none n n' (ap (λ (r : Replica S). r.views) is)
moved-grows {S = S} m stated view n n' sound (moves_on batch waits is) =
    grows_by n n' (delivered m n.replica batch).views (ap (λ (r : Replica S). r.views) is) (delivered_one m n.replica batch (waits_alone stated view n batch sound waits).0)
moved-grows m stated view n n' sound (moves_to f due all taken of) = let on = group_views n n'.replica of in record { rest = on.rest; is = on.is; late = on.late }

-- so do those of a node behind a step
pub grows-step : {S : Type 0} (m : Meaning S) (stated : List Statement) (view : View) (n : Node S) (event : NodeEvent) → IsSound stated view (takes_in n event).node → Grows n (step_of m n event).node
grows-step {S = S} m stated view n event sound =
    let t : Node S = (takes_in n event).node in
    let g = moved-grows m stated view t (step_of m n event).node sound (moved-step m n event) in
    let same : t.replica ≡ n.replica = (waits-takes_in n event).replica_is in
    record { rest = g.rest; is = g.is ∙ ap (λ (r : Replica S). r.views ++ g.rest) same; late = subst (λ (r : Replica S). StartPast (r.place + 1) g.rest) same g.late }

-- no step takes a place back
pub place-step : {S : Type 0} (m : Meaning S) (n : Node S) (event : NodeEvent) → n.replica.place ≤ (step_of m n event).node.replica.place
place-step {S = S} m n event =
    let most = moves_place m (takes_in n event).node (step_of m n event).node.replica (moved-step m n event) in
    let same = ap (λ (r : Replica S). r.place) (waits-takes_in n event).replica_is in
    omega (arith, most, same)

-- a book that names no place past a node's next one stays sound
pub book-grows : {S : Type 0} (secret : List ℕ) (told stated stated' : List Statement) (view : View) (n n' : Node S) (es : List LogEntry) → IsSound stated view n → IsSound stated' view n' → Grows n n'
    → Each (IsWithin n.replica.views (next_place n) es) es → IsSoundBook secret told n.replica.views es
    → IsSoundBook secret told n'.replica.views es × Each (IsWithin n'.replica.views (next_place n) es) es
book-grows secret told stated stated' view n n' es sound sound' g within is =
    let are : AreViews view n'.replica.place (n.replica.views ++ g.rest) = subst (λ (vs : List View). AreViews view n'.replica.place vs) g.is sound'.views in
    let past : ArePast (view_of n).number g.rest = taken_past view n.replica.place n'.replica.place n.replica.views g.rest sound.views are in
    subst (λ (vs : List View). IsSoundBook secret told vs es × Each (IsWithin vs (next_place n) es) es) (sym g.is)
    (book_within secret told view n.replica.place (next_place n) n.replica.views g.rest es sound.views past g.late within is)
