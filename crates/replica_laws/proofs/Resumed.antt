-- A node that goes on from entries: it delivers in order, and each reply that it holds tells an execution that it knows.
use Rattle.std.proofs.Common.{◌≡◌, ◌+◌, ◌++◌, List, [], ◌∷◌, length, arith, ap, subst, sym, refl}
use Rattle.std.proofs.lemmas.List.{take_all}
use Rattle.smart_statements.specs.Batches.{Batch}
use Rattle.smart_statements.specs.declared.entry.NodeEvent.{NodeEvent}
use Rattle.smart_service.specs.Services.{Meaning}
use Rattle.smart_service.specs.Tables.{kept_in}
use Rattle.vote_book.specs.declared.entry.LogEntry.{LogEntry}
use Rattle.replica_rules.specs.Replicas.{after_batches}
use Rattle.node_rules.specs.Nodes.{Node}
use Rattle.node_rules.specs.Kept.{node_after}
use Rattle.node_rules.specs.Reopening.{decided_of, reopened, stopped}
use Rattle.node_rules.specs.Steps.{Outset, opened}
use Rattle.node_laws.proofs.Reopened.{reopened_is}
use Rattle.replica_laws.specs.Books.{passing, is_installation, DeliversInOrder}
use Rattle.replica_laws.specs.Bases.{lines_of}
use Rattle.replica_laws.specs.Lines.{HoldsAmong}
use Rattle.replica_laws.proofs.InOrder.{get-past}
use Rattle.replica_laws.proofs.Telling.{tells_after, tells_first}
use Rattle.replica_rules.proofs.Places.{after_place}

-- the node that goes on from some entries
unfoldable pub going : {S : Type 0} → Meaning S → Outset S → List LogEntry → Node S
going m o es =
    record (stopped o) { entries = es; replica = after_batches m o.replica (decided_of o.replica.place es); restored = length es; firm = length es }

-- it has delivered what they decide, in order
going_order : {S : Type 0} (m : Meaning S) (o : Outset S) (es : List LogEntry) → DeliversInOrder m o.replica (going m o es)
unfolding going
going_order {S = S} m o es =
    let ds : List Batch = decided_of o.replica.place es in
    let at : (after_batches m o.replica ds).place ≡ o.replica.place + length ds = after_place m o.replica ds in
    record {
      count = length ds;
      place = at;
      replica = ap (λ (bs : List Batch). after_batches m o.replica bs) (sym (take_all (length ds) ds (omega arith)));
      waiting = sym (get-past ds (length ds) (omega arith));
      all = sym at;
    }

pub order_reopened : {S : Type 0} (m : Meaning S) (o : Outset S) (entries : List LogEntry) → DeliversInOrder m o.replica (reopened m o entries)
unfolding reopened going
order_reopened m o [] = record { count = 0; place = omega arith; replica = refl; waiting = refl; all = omega arith }
order_reopened {S = S} m o (e ∷ es) =
    subst (λ (n : Node S). DeliversInOrder m o.replica n) (sym (reopened_is m o e es)) (going_order m o (e ∷ es))

-- it holds nothing yet
pub holds_none : {S : Type 0} (m : Meaning S) (o : Outset S) (entries : List LogEntry) → (reopened m o entries).held ≡ []
unfolding reopened
holds_none m o [] = refl
holds_none {S = S} m o (e ∷ es) = ap (λ (n : Node S). n.held) (reopened_is m o e es)

-- its book is those entries, or a new one
pub book_reopened : {S : Type 0} (m : Meaning S) (o : Outset S) (entries : List LogEntry) → passing is_installation (reopened m o entries).entries ≡ passing is_installation entries
unfolding reopened
book_reopened m o [] = refl
book_reopened {S = S} m o (e ∷ es) = ap (λ (n : Node S). passing is_installation n.entries) (reopened_is m o e es)

-- whatever comes, each reply that it holds tells an execution that it knows
pub tells_reopened : {S : Type 0} (m : Meaning S) (o : Outset S) (entries : List LogEntry) (events : List NodeEvent)
    → HoldsAmong (kept_in (reopened m o entries).replica.table ++ lines_of m (reopened m o entries) events) (node_after m (reopened m o entries) events)
tells_reopened m o entries events =
    (tells_after (kept_in (reopened m o entries).replica.table) m (reopened m o entries) events (tells_first (reopened m o entries) (holds_none m o entries))).held

pub tells_opened : {S : Type 0} (m : Meaning S) (o : Outset S) (events : List NodeEvent) → HoldsAmong (kept_in o.replica.table ++ lines_of m (opened o) events) (node_after m (opened o) events)
tells_opened m o events = (tells_after (kept_in o.replica.table) m (opened o) events (tells_first (opened o) refl)).held
