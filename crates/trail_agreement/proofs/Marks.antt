-- Each mark of a member is of a replica that it had behind a delivery.
use Rattle.std.proofs.Common.{◌≡◌, ◌⊎◌, inl, inr, ⊎_elim, ℕ, ◌+◌, ◌<◌, ◌++◌, ◌∙◌, true, false, List, [], ◌∷◌, refl, ap, sym, subst, arith, Option, Some, None, is_some}
use Rattle.smart_base.specs.Lists.{Each}
use Rattle.smart_base.proofs.SameLists.{and_true}
use Rattle.smart_base.proofs.ViewFacts.{each-weaken}
use Rattle.smart_keys.specs.Keys.{digest}
use Rattle.smart_statements.specs.Batches.{Batch}
use Rattle.smart_statements.specs.declared.entry.NodeEvent.{NodeEvent}
use Rattle.smart_statements.specs.declared.report.Mark.{Mark}
use Rattle.smart_service.specs.Services.{Meaning}
use Rattle.smart_service.specs.declared.replica.Replica.{Replica}
use Rattle.snapshot_form.specs.Snapshots.{snapshot_text}
use Rattle.vote_book.specs.declared.entry.LogEntry.{LogEntry}
use Rattle.vote_book.specs.declared.entry.LogEntry.TheVariants.{Opened, Wrote, Accepted, Promised, Synced, Decided, Installed, Marked}
use Rattle.replica_rules.specs.Pools.{settled}
use Rattle.replica_rules.specs.Replicas.{delivered}
use Rattle.replica_rules.proofs.Places.{place_delivered}
use Rattle.node_rules.specs.Marks.{mark_of, mark_place}
use Rattle.node_rules.specs.Nodes.{Node, enters}
use Rattle.node_rules.specs.Rules.{deliver_batch, delivers, lines_to_answer}
use Rattle.node_rules.specs.Steps.{step_of, takes_in}
use Rattle.node_rules.specs.Transfers.{installs}
use Rattle.node_rules.proofs.Entries.{delivers_same, takes_in_same}
use Rattle.node_rules.proofs.Rulewise.{KeptByRules, by_mark, keeps_from}
use Rattle.node_rules.specs.declared.node.Fired.{Fired}
use Rattle.agreement_laws.proofs.Lists.{each_append, each_both, some_equal}
use Rattle.node_laws.proofs.CutNodes.{each_right}
use Rattle.replica_laws.proofs.Follows.{waits-takes_in}
use Rattle.replica_laws.proofs.Installs.{OneMore, installs-none, takes-installs}
use Rattle.replica_laws.proofs.Moves.{Moves, moved-step, moves_none, moves_on, moves_to}
use Rattle.replica_laws.proofs.Replying.{replica-replying}
use Rattle.world_laws.proofs.Additions.{IsMarkPast, Plain, plain-accepts, plain-adopts, plain-answers_again, plain-answers_state, plain-decides, plain-joins, plain-leads, plain-plans, plain-promises, plain-proposes, plain-times, plain-writes}
use Rattle.world_laws.proofs.MarksTold.{IsToldMark, writes-step}

-- ---- marks of replicas

-- what a mark states of a replica
abbrev pub mark_behind : {S : Type 0} → Meaning S → Replica S → Mark
mark_behind m r = record { place = r.place; digest = digest (snapshot_text m r) }

-- an entry that, if it is a mark, is that of a replica of which something holds
abbrev pub IsMarkOf : {S : Type 0} → Meaning S → (Replica S → Type 0) → LogEntry → Type 0
IsMarkOf m R (Opened o) = Unit {0}
IsMarkOf m R (Wrote w) = Unit {0}
IsMarkOf m R (Accepted a) = Unit {0}
IsMarkOf m R (Promised p) = Unit {0}
IsMarkOf m R (Synced s) = Unit {0}
IsMarkOf m R (Decided d) = Unit {0}
IsMarkOf m R (Installed i) = Unit {0}
IsMarkOf {S} m R (Marked k) = (r : Replica S) × (k ≡ mark_behind m r) × R r

mark_weaker : {S : Type 0} (m : Meaning S) (R Q : Replica S → Type 0) → ((r : Replica S) → R r → Q r) → (e : LogEntry) → IsMarkOf m R e → IsMarkOf m Q e
mark_weaker m R Q how (Marked k) is = (is.0, is.1, how is.0 is.2)
mark_weaker m R Q how (Opened o) is = tt
mark_weaker m R Q how (Wrote w) is = tt
mark_weaker m R Q how (Accepted a) is = tt
mark_weaker m R Q how (Promised p) is = tt
mark_weaker m R Q how (Synced s) is = tt
mark_weaker m R Q how (Decided d) is = tt
mark_weaker m R Q how (Installed i) is = tt

unmarked : {S : Type 0} (m : Meaning S) (R : Replica S → Type 0) (e : LogEntry) → ((place : ℕ) → IsMarkPast place e) → IsMarkOf m R e
unmarked m R (Marked k) none = let less : k.place < k.place = none k.place in absurd (omega (arith, less))
unmarked m R (Opened o) none = tt
unmarked m R (Wrote w) none = tt
unmarked m R (Accepted a) none = tt
unmarked m R (Promised p) none = tt
unmarked m R (Synced s) none = tt
unmarked m R (Decided d) none = tt
unmarked m R (Installed i) none = tt

each_unmarked : {S : Type 0} (m : Meaning S) (R : Replica S → Type 0) (es : List LogEntry) → ((place : ℕ) → Each (IsMarkPast place) es) → Each (IsMarkOf m R) es
each_unmarked m R [] none = tt
each_unmarked m R (e ∷ es) none = (unmarked m R e (λ place. (none place).0), each_unmarked m R es (λ place. (none place).1))

-- ---- what is marked behind a delivery

-- the replica behind the batch that waits at a node
abbrev pub IsDue : {S : Type 0} → Meaning S → Node S → Replica S → Type 0
IsDue m n r = (batch : Batch) × (n.waiting ≡ Some batch) × (r ≡ delivered m n.replica batch)

module _ {S : Type 0} (m : Meaning S) (R : Replica S → Type 0) where
  abbrev MarksRight : Node S → Type 0
  MarksRight n = Each (IsMarkOf m R) n.entries

  marks-as : (es es' : List LogEntry) → es' ≡ es → Each (IsMarkOf m R) es → Each (IsMarkOf m R) es'
  marks-as es es' same is = subst (λ (xs : List LogEntry). Each (IsMarkOf m R) xs) (sym same) is

  marks-plain : (n n' : Node S) → Plain n n' → MarksRight n → MarksRight n'
  marks-plain n n' p is = marks-as (n.entries ++ p.more) n'.entries p.book_is (each_append (IsMarkOf m R) n.entries p.more is (each_unmarked m R p.more p.unmarked))

  marks-rules : KeptByRules {S = S} (λ n. MarksRight n)
  marks-rules = record {
    by_adopts = λ n is. marks-plain n _ (plain-adopts n) is;
    by_joins = λ n is. marks-plain n _ (plain-joins n) is;
    by_promises = λ n is. marks-plain n _ (plain-promises n) is;
    by_leads = λ n is. marks-plain n _ (plain-leads n) is;
    by_proposes = λ n is. marks-plain n _ (plain-proposes n) is;
    by_writes = λ n is. marks-plain n _ (plain-writes n) is;
    by_accepts = λ n is. marks-plain n _ (plain-accepts n) is;
    by_decides = λ n is. marks-plain n _ (plain-decides n) is;
    by_times = λ n is. marks-plain n _ (plain-times n) is;
    by_answers = λ n asked is. marks-plain n _ (plain-answers_again n asked) is;
    by_states = λ n a is. marks-plain n _ (plain-answers_state n a) is;
    by_plans = λ n is. marks-plain n _ (plain-plans n) is;
  }

  -- an installation is no mark
  marks-installs : (n : Node S) → MarksRight n → MarksRight (installs m n)
  marks-installs n is =
      ⊎_elim {C = MarksRight (installs m n)} (λ (same : (installs m n).entries ≡ n.entries). marks-as n.entries (installs m n).entries same is)
      (λ (one : OneMore n.entries (installs m n).entries).
      marks-as (n.entries ++ Installed one.installation ∷ []) (installs m n).entries one.is (each_append (IsMarkOf m R) n.entries (Installed one.installation ∷ []) is (tt, tt)))
      (takes-installs m n).book

  -- a mark is of the replica that the node has then
  marks-mark : (n : Node S) → R n.replica → MarksRight n → MarksRight (mark_place m n)
  unfolding mark_place
  marks-mark n has is = each_append (IsMarkOf m R) n.entries (Marked (mark_of m n) ∷ []) is ((n.replica, refl, has), tt)

  -- the replica behind a delivery
  behind_batch : (i : Node S) (waiting : Option Batch) → is_some waiting ≡ true → ((batch : Batch) → waiting ≡ Some batch → R (delivered m i.replica batch)) → R (deliver_batch m i waiting).replica
  unfolding deliver_batch
  behind_batch i None waits due = absurd (cc)
  behind_batch i (Some batch) waits due =
      let r : Replica S = delivered m i.replica batch in
      subst R
      (sym (replica-replying (enters i (record i { replica = r; waiting = None; pool = settled r.table i.pool; impatient = false })) (lines_to_answer m i batch)))
      (due batch refl)

  behind_delivery : (i : Node S) → is_some i.waiting ≡ true → ((batch : Batch) → i.waiting ≡ Some batch → R (delivered m i.replica batch)) → R (delivers m i).replica
  unfolding delivers
  behind_delivery i waits due = behind_batch i i.waiting waits due

  -- so it is where something is delivered in a step
  behind_installs : (t : Node S) → ((batch : Batch) → t.waiting ≡ Some batch → R (delivered m t.replica batch)) → is_some (installs m t).waiting ≡ true → R (delivers m (installs m t)).replica
  behind_installs t due waits =
      let some : is_some t.waiting ≡ true = ap (λ (w : Option Batch). is_some w) (sym (takes-installs m t).waits) ∙ waits in
      subst (λ (x : Node S). R (delivers m x).replica) (sym (installs-none m t some)) (behind_delivery t some due)

  marks-delivery : (n : Node S) (event : NodeEvent) → ((batch : Batch) → n.waiting ≡ Some batch → R (delivered m n.replica batch)) → MarksRight n → MarksRight (step_of m n event).node
  marks-delivery n event due is =
      let t : Node S = (takes_in n event).node in
      let i : Node S = installs m t in
      let d : Node S = delivers m i in
      let w = waits-takes_in n event in
      let taken : MarksRight t = marks-as n.entries t.entries (takes_in_same n event) is in
      let installed : MarksRight i = marks-installs t taken in
      let there : MarksRight d = marks-as i.entries d.entries (delivers_same m i) installed in
      keeps_from m (λ (x : Node S). MarksRight x) n event marks-rules taken installed
      (by_mark m (λ (x : Node S). MarksRight x) (is_some i.waiting) d there
      (λ marks. marks-mark d
      (behind_installs t (λ batch waits. subst (λ (r : Replica S). R (delivered m r batch)) (sym w.replica_is) (due batch (sym w.waits ∙ waits)))
      (and_true (is_some i.waiting) _ marks).0) there))

-- ---- a step

-- the replica behind a step, if it is the one behind the batch that waited
due_moved : {S : Type 0} (m : Meaning S) (n t : Node S) (r r' : Replica S) → t.replica ≡ n.replica → t.waiting ≡ n.waiting → IsDue m n r → r'.place ≡ r.place → Moves m t r' → r ≡ r'
due_moved {S = S} m n t r r' same waits due place (moves_none is) =
    let at : r'.place ≡ n.replica.place = ap (λ (x : Replica S). x.place) (is ∙ same) in
    let next : r.place ≡ n.replica.place + 1 = ap (λ (x : Replica S). x.place) due.2 ∙ place_delivered m n.replica due.0 in
    absurd (omega (arith, at, next, place))
due_moved {S = S} m n t r r' same waits due place (moves_on batch at is) =
    let one : batch ≡ due.0 = some_equal batch due.0 (sym at ∙ (waits ∙ due.1)) in
    due.2 ∙ (ap (λ (b : Batch). delivered m n.replica b) (sym one) ∙ (ap (λ (x : Replica S). delivered m x batch) (sym same) ∙ sym is))
due_moved m n t r r' same waits due place (moves_to f ready all taken of) =
    let none : n.waiting ≡ None = sym waits ∙ ready.free in
    absurd (let both : None ≡ Some due.0 = sym none ∙ due.1 in cc)

-- so a mark that was told is of the replica behind the step
module _ {S : Type 0} (m : Meaning S) (R : Replica S → Type 0) (n t : Node S) (r' : Replica S) (told : List Fired) (same : t.replica ≡ n.replica) (waits : t.waiting ≡ n.waiting) (moved : Moves m t r')
    (due : IsDue m n r' → R r') where
  new_mark : (k : Mark) → k ≡ mark_behind m r' → (r : Replica S) → k ≡ mark_behind m r → R r ⊎ IsDue m n r → IsMarkOf m R (Marked k)
  new_mark k here r mark (inl has) = (r, mark, has)
  new_mark k here r mark (inr behind) =
      let place : r'.place ≡ r.place = ap (λ (x : Mark). x.place) (sym here ∙ mark) in
      let one : r ≡ r' = due_moved m n t r r' same waits behind place moved in
      (r, mark, subst R (sym one) (due (subst (IsDue m n) one behind)))

  new_entry : (e : LogEntry) → IsMarkOf m (λ r. R r ⊎ IsDue m n r) e → IsToldMark m r' told e → IsMarkOf m R e
  new_entry (Marked k) is was = new_mark k was.0.0 is.0 is.1 is.2
  new_entry (Opened o) is was = tt
  new_entry (Wrote w) is was = tt
  new_entry (Accepted a) is was = tt
  new_entry (Promised p) is was = tt
  new_entry (Synced s) is was = tt
  new_entry (Decided d) is was = tt
  new_entry (Installed i) is was = tt

-- A mark that a step writes down is of the replica behind the step, which is that behind the batch that waited.
pub marks-step : {S : Type 0} (m : Meaning S) (R : Replica S → Type 0) (n : Node S) (event : NodeEvent) → (IsDue m n (step_of m n event).node.replica → R (step_of m n event).node.replica)
    → Each (IsMarkOf m R) n.entries → Each (IsMarkOf m R) (step_of m n event).node.entries
marks-step {S = S} m R n event due is =
    let n' : Node S = (step_of m n event).node in
    let t : Node S = (takes_in n event).node in
    let told : List Fired = (step_of m n event).fired in
    let w = waits-takes_in n event in
    let writes = writes-step m n event in
    let Q : Replica S → Type 0 = λ r. R r ⊎ IsDue m n r in
    let all : Each (IsMarkOf m Q) n'.entries =
    marks-delivery m Q n event (λ batch waits. inr (batch, waits, refl)) (each-weaken (IsMarkOf m R) (IsMarkOf m Q) (mark_weaker m R Q (λ r has. inl has)) n.entries is) in
    let new : Each (IsMarkOf m Q) writes.rest = each_right (IsMarkOf m Q) n.entries writes.rest (subst (λ (es : List LogEntry). Each (IsMarkOf m Q) es) writes.book_is all) in
    subst (λ (es : List LogEntry). Each (IsMarkOf m R) es) (sym writes.book_is)
    (each_append (IsMarkOf m R) n.entries writes.rest is
    (each_both (IsMarkOf m Q) (IsToldMark m n'.replica told) (IsMarkOf m R) (new_entry m R n t n'.replica told w.replica_is w.waits (moved-step m n event) due) writes.rest new writes.marks))
