-- No rule before the answers reads the snapshots that a node took before: a pass leaves them in front of what it takes.
use Rattle.std.proofs.Common.{◌≡◌, ◌++◌, Bool, true, false, cond, List, [], ◌∷◌, Option, Some, None, is_some, Result, Ok, Err, refl, ap, sym, subst, ◌∙◌, ℕ, length, take}
use Rattle.std.proofs.lemmas.List.{append_assoc, append-nil}
use Rattle.smart_base.specs.Lists.{Each}
use Rattle.smart_statements.specs.Forms.{SignedBy}
use Rattle.smart_statements.specs.Batches.{Batch}
use Rattle.smart_statements.specs.declared.report.Report.{Report}
use Rattle.smart_statements.specs.declared.statement.Request.{Request}
use Rattle.smart_messages.specs.declared.message.Proposed.{Proposed}
use Rattle.smart_messages.specs.declared.regency.Sync.{Sync}
use Rattle.smart_service.specs.Services.{Meaning}
use Rattle.smart_service.specs.declared.replica.Replica.{Replica}
use Rattle.smart_service.specs.declared.table.Execution.{Execution}
use Rattle.state_transfer.specs.Fetches.{finished}
use Rattle.state_transfer.specs.declared.fetch.Fetch.{Fetch}
use Rattle.state_transfer.specs.declared.fetch.Spoiled.{Spoiled}
use Rattle.vote_book.specs.declared.entry.Decision.{Decision}
use Rattle.vote_book.specs.declared.entry.LogEntry.{LogEntry}
use Rattle.replica_rules.specs.Pools.{offered, settled}
use Rattle.replica_rules.specs.Replicas.{is_next, delivered}
use Rattle.node_rules.specs.Nodes.{Node, enters, informs, regency_of, start_of, recording}
use Rattle.node_rules.specs.Arrivals.{why_dropped, noted, kept}
use Rattle.node_rules.specs.declared.node.Why.{Why}
use Rattle.smart_messages.specs.Messages.{decoded}
use Rattle.smart_messages.specs.declared.message.Message.{Message}
use Rattle.smart_messages.specs.declared.message.Message.TheVariants.{Ask}
use Rattle.smart_statements.specs.declared.entry.NodeEvent.{NodeEvent}
use Rattle.smart_statements.specs.declared.entry.NodeEvent.TheVariants.{Arrive, Tick, Deliver, Firm}
use Rattle.node_rules.specs.Transfers.{taken_over, installed_by, install_replica, is_of_group, spoil, install_by, install_fetch, install_told, installing, installs}
use Rattle.node_rules.specs.Rules.{fired_if, replies_with, replying, lines_to_answer, deliver_batch, delivery, delivers, batch_under, proposing, propose_batch, proposes, writing, write_batch, writes, accepting, accept_batch, accepts, decision_in, deciding, decide_batch, decides}
use Rattle.node_rules.specs.Changes.{adopts_by, adoption, adopts, asks_next, joining, joins, report_of, promising, promise_next, promises, leading, lead_with, leads, lags, asks_state, timing, passes_on, presses, times}
use Rattle.node_rules.specs.Marks.{mark_of, snapshots_due, mark_place, marking, marks_place, marked}
use Rattle.node_rules.specs.Steps.{Row, install_row, deliver_row, adopt_row, join_row, promise_row, lead_row, propose_row, write_row, accept_row, decide_row, time_row, turn_rows, vote_rows, judged, reads, takes_in, pass}
use Rattle.node_core.specs.Apart.{front_rows, KeepsTaken}
use Rattle.node_rules.specs.declared.node.Cause.{Cause}
use Rattle.node_rules.specs.declared.node.Cause.TheVariants.{Came, Ticked, Delivering, Firmed}
use Rattle.node_rules.specs.declared.node.Fired.{Fired}
use Rattle.node_rules.specs.declared.node.Fired.TheVariants as fires
use Rattle.node_rules.specs.declared.node.OwnSnapshot.{OwnSnapshot}
use Rattle.node_rules.proofs.Rulewise.{pass_first}
use Rattle.node_state.specs.Broken.{IsPartly}
use Rattle.node_state.proofs.Broken.{partly_all}
use Rattle.node_state.proofs.Stopped.{pass_grows}
use Rattle.node_core.proofs.Broken.{front_grow}
use Rattle.node_replica.proofs.Marking.{stating}

-- a node with snapshots in front of those that it took
abbrev pub with_front : {S : Type 0} → List OwnSnapshot → Node S → Node S
with_front front n = record n { taken = front ++ n.taken }

front_if : {S : Type 0} (front : List OwnSnapshot) (t : Bool) (x y : Node S) → cond t (with_front front x) (with_front front y) ≡ with_front front (cond t x y)
front_if front true x y = refl
front_if front false x y = refl

pair_is : {S : Type 0} (a b : Node S) (f g : List Fired) → a ≡ b → f ≡ g → ◌≡◌ {A = Node S × List Fired} (a, f) (b, g)
pair_is {S = S} a b f g same told = rw (same, told) refl

-- ---- deliver and mark

replying_front : {S : Type 0} (front : List OwnSnapshot) (n : Node S) (lines : List Execution) → replying (with_front front n) lines ≡ with_front front (replying n lines)
replying_front front n [] = refl
replying_front front n (line ∷ lines) = replying_front front (replies_with n line) lines

deliver_front : {S : Type 0} (m : Meaning S) (front : List OwnSnapshot) (n : Node S) (batch : Option Batch) → deliver_batch m (with_front front n) batch ≡ with_front front (deliver_batch m n batch)
unfolding deliver_batch
deliver_front m front n None = refl
deliver_front {S = S} m front n (Some batch) =
    ap (λ (x : Node S). informs n x)
    (replying_front front (enters n (record n { replica = delivered m n.replica batch; waiting = None; pool = settled (delivered m n.replica batch).table n.pool; impatient = false })) (lines_to_answer m n batch))

delivers_front : {S : Type 0} (m : Meaning S) (front : List OwnSnapshot) (n : Node S) → delivers m (with_front front n) ≡ with_front front (delivers m n)
unfolding delivers
delivers_front m front n = deliver_front m front n n.waiting

delivery_front : {S : Type 0} (m : Meaning S) (front : List OwnSnapshot) (n : Node S) (batch : Option Batch) → delivery m (with_front front n) batch ≡ delivery m n batch
unfolding delivery
delivery_front m front n None = refl
delivery_front m front n (Some batch) = refl

mark_front : {S : Type 0} (m : Meaning S) (front : List OwnSnapshot) (n : Node S) → mark_place m (with_front front n) ≡ with_front front (mark_place m n)
unfolding mark_place
mark_front {S = S} m front n =
    ap (λ (ss : List OwnSnapshot). record (stating n (mark_of m n)) { taken = ss }) (append_assoc front n.taken (snapshots_due m (stating n (mark_of m n))))

marks_if : {S : Type 0} (m : Meaning S) (front : List OwnSnapshot) (n : Node S) (t : Bool) → cond t (mark_place m (with_front front n)) (with_front front n) ≡ with_front front (cond t (mark_place m n) n)
marks_if m front n true = mark_front m front n
marks_if m front n false = refl

marks_front : {S : Type 0} (m : Meaning S) (delivered : Bool) (front : List OwnSnapshot) (n : Node S) → marks_place m delivered (with_front front n) ≡ with_front front (marks_place m delivered n)
marks_front m delivered front n = marks_if m front n (marking delivered n)

-- ---- rows

-- a row that reads no snapshot of before
abbrev RowApart : {S : Type 0} → Row S → Type 0
RowApart {S} r =
    (front : List OwnSnapshot) (n : Node S) (cause : Cause) (fired : List Fired)
    → ◌≡◌ {A = Node S × List Fired} (r (with_front front n) cause fired) (with_front front (r n cause fired).0, (r n cause fired).1)

deliver_apart : {S : Type 0} (m : Meaning S) → RowApart (deliver_row m)
deliver_apart {S = S} m front n Delivering fired =
    pair_is _ _ _ _
    (ap (λ (x : Node S). marks_place m (is_some n.waiting) x) (delivers_front m front n) ∙ marks_front m (is_some n.waiting) front (delivers m n))
    (ap (λ (told : List Fired). (fired ++ told) ++ marked m (is_some n.waiting) (delivers m (with_front front n))) (delivery_front m front n n.waiting)
    ∙ ap (λ (x : Node S). (fired ++ delivery m n n.waiting) ++ marked m (is_some n.waiting) x) (delivers_front m front n))
deliver_apart m front n (Came called) fired = refl
deliver_apart m front n Ticked fired = refl
deliver_apart m front n Firmed fired = refl

-- an installation takes a snapshot
replica_front : {S : Type 0} (front : List OwnSnapshot) (n : Node S) (f : Fetch) (r : Replica S) → install_replica (with_front front n) f r ≡ with_front front (install_replica n f r)
unfolding install_replica
replica_front {S = S} front n f r =
    let installed : Node S = enters n (record (recording n (installed_by f.plan)) { replica = r; pool = settled r.table n.pool; fetch = None }) in
    ap (λ (ss : List OwnSnapshot). record (install_replica n f r) { taken = ss }) (append_assoc front n.taken (taken_over installed f ∷ []))

spoil_front : {S : Type 0} (front : List OwnSnapshot) (n : Node S) (f : Fetch) → spoil (with_front front n) f ≡ with_front front (spoil n f)
unfolding spoil
spoil_front front n f = refl

by_front : {S : Type 0} (front : List OwnSnapshot) (n : Node S) (f : Fetch) (made : Result (Replica S) Spoiled) → install_by (with_front front n) f made ≡ with_front front (install_by n f made)
by_front {S = S} front n f (Ok r) =
    ap (λ (x : Node S). cond (is_of_group n r) x (spoil (with_front front n) f)) (replica_front front n f r)
    ∙ (ap (λ (x : Node S). cond (is_of_group n r) (with_front front (install_replica n f r)) x) (spoil_front front n f) ∙ front_if front (is_of_group n r) (install_replica n f r) (spoil n f))
by_front front n f (Err why) = spoil_front front n f

fetch_front : {S : Type 0} (m : Meaning S) (front : List OwnSnapshot) (n : Node S) (due : Option Fetch) → install_fetch m (with_front front n) due ≡ with_front front (install_fetch m n due)
unfolding install_fetch
fetch_front m front n None = refl
fetch_front m front n (Some f) = by_front front n f (finished m f)

told_front : {S : Type 0} (m : Meaning S) (front : List OwnSnapshot) (n : Node S) (due : Option Fetch) → install_told m (with_front front n) due ≡ install_told m n due
unfolding install_told
told_front m front n None = refl
told_front m front n (Some f) = refl

install_apart : {S : Type 0} (m : Meaning S) → RowApart (install_row m)
unfolding installs installing
install_apart m front n cause fired =
    pair_is _ _ _ _ (fetch_front m front n (installing n)) (ap (λ (told : List Fired). fired ++ told) (told_front m front n (installing n)))

-- a rule that reads none
abbrev Apart : {S : Type 0} → (Node S → Node S) → Type 0
Apart {S} rule = (front : List OwnSnapshot) (n : Node S) → rule (with_front front n) ≡ with_front front (rule n)

adopt_front : {S : Type 0} (front : List OwnSnapshot) (n : Node S) (sync : Option (SignedBy Sync)) → adopts_by (with_front front n) sync ≡ with_front front (adopts_by n sync)
unfolding adopts_by regency_of
adopt_front front n None = refl
adopt_front front n (Some sync) = refl

adopts_front : (S : Type 0) → Apart {S = S} adopts
unfolding adopts adoption regency_of
adopts_front S front n = adopt_front front n (adoption n)

joins_front : (S : Type 0) → Apart {S = S} joins
unfolding joins joining regency_of
joins_front S front n = front_if front (joining n) (asks_next n) n

promises_front : (S : Type 0) → Apart {S = S} promises
unfolding promises promising promise_next report_of regency_of
promises_front S front n = front_if front (promising n) (promise_next n) n

lead_front : {S : Type 0} (front : List OwnSnapshot) (n : Node S) (collect : Option (List (SignedBy Report))) → lead_with (with_front front n) collect ≡ with_front front (lead_with n collect)
unfolding lead_with regency_of
lead_front front n None = refl
lead_front front n (Some collect) = refl

leads_front : (S : Type 0) → Apart {S = S} leads
unfolding leads leading regency_of
leads_front S front n = lead_front front n (leading n)

propose_front : {S : Type 0} (front : List OwnSnapshot) (n : Node S) (batch : Option Batch) → propose_batch (with_front front n) batch ≡ with_front front (propose_batch n batch)
unfolding propose_batch regency_of
propose_front front n None = refl
propose_front front n (Some batch) = refl

proposes_front : (S : Type 0) → Apart {S = S} proposes
unfolding proposes proposing batch_under regency_of start_of
proposes_front S front n = propose_front front n (proposing n)

write_front : {S : Type 0} (front : List OwnSnapshot) (n : Node S) (found : Option Proposed) → write_batch (with_front front n) found ≡ with_front front (write_batch n found)
unfolding write_batch regency_of
write_front front n None = refl
write_front front n (Some p) = refl

writes_front : (S : Type 0) → Apart {S = S} writes
unfolding writes writing regency_of start_of
writes_front S front n = write_front front n (writing n)

accept_front : {S : Type 0} (front : List OwnSnapshot) (n : Node S) (found : Option Proposed) → accept_batch (with_front front n) found ≡ with_front front (accept_batch n found)
unfolding accept_batch regency_of
accept_front front n None = refl
accept_front front n (Some p) = refl

accepts_front : (S : Type 0) → Apart {S = S} accepts
unfolding accepts accepting regency_of start_of
accepts_front S front n = accept_front front n (accepting n)

decide_front : {S : Type 0} (front : List OwnSnapshot) (n : Node S) (found : Option Decision) → decide_batch (with_front front n) found ≡ with_front front (decide_batch n found)
unfolding decide_batch
decide_front front n None = refl
decide_front front n (Some d) = refl

decides_front : (S : Type 0) → Apart {S = S} decides
unfolding decides deciding decision_in regency_of
decides_front S front n = decide_front front n (deciding n)

passes_front : {S : Type 0} (front : List OwnSnapshot) (n : Node S) (pool : List (SignedBy Request)) → passes_on (with_front front n) pool ≡ with_front front (passes_on n pool)
unfolding regency_of
passes_front front n [] = refl
passes_front front n (q ∷ qs) = refl

presses_front : (S : Type 0) → Apart {S = S} presses
unfolding presses regency_of
presses_front S front n =
    ap (λ (x : Node S). cond n.impatient (with_front front (asks_next n)) x) (passes_front front (record n { impatient = true }) n.pool)
    ∙ front_if front n.impatient (asks_next n) (passes_on (record n { impatient = true }) n.pool)

asks_front : (S : Type 0) → Apart {S = S} asks_state
unfolding asks_state
asks_front S front n = refl

times_front : (S : Type 0) → Apart {S = S} times
unfolding times timing regency_of start_of
times_front S front n =
    ap (λ (x : Node S). cond (lags n) (asks_state (with_front front n)) (cond (timing n) x (with_front front n))) (presses_front S front n)
    ∙ (ap (λ (x : Node S). cond (lags n) (asks_state (with_front front n)) x) (front_if front (timing n) (presses n) n)
    ∙ (ap (λ (x : Node S). cond (lags n) x (with_front front (cond (timing n) (presses n) n))) (asks_front S front n) ∙ front_if front (lags n) (asks_state n) (cond (timing n) (presses n) n)))

time_apart : (S : Type 0) → RowApart {S = S} time_row
unfolding timing regency_of start_of
time_apart S front n Ticked fired = pair_is _ _ _ _ (times_front S front n) refl
time_apart S front n (Came called) fired = refl
time_apart S front n Delivering fired = refl
time_apart S front n Firmed fired = refl

adopt_apart : (S : Type 0) → RowApart {S = S} adopt_row
unfolding adoption regency_of
adopt_apart S front n cause fired = pair_is _ _ _ _ (adopts_front S front n) refl

join_apart : (S : Type 0) → RowApart {S = S} join_row
unfolding joining regency_of
join_apart S front n cause fired = pair_is _ _ _ _ (joins_front S front n) refl

promise_apart : (S : Type 0) → RowApart {S = S} promise_row
unfolding promising regency_of
promise_apart S front n cause fired = pair_is _ _ _ _ (promises_front S front n) refl

lead_apart : (S : Type 0) → RowApart {S = S} lead_row
unfolding leading regency_of
lead_apart S front n cause fired = pair_is _ _ _ _ (leads_front S front n) refl

propose_apart : (S : Type 0) → RowApart {S = S} propose_row
unfolding proposing batch_under regency_of start_of
propose_apart S front n cause fired = pair_is _ _ _ _ (proposes_front S front n) refl

write_apart : (S : Type 0) → RowApart {S = S} write_row
unfolding writing regency_of start_of
write_apart S front n cause fired = pair_is _ _ _ _ (writes_front S front n) refl

accept_apart : (S : Type 0) → RowApart {S = S} accept_row
unfolding accepting regency_of start_of
accept_apart S front n cause fired = pair_is _ _ _ _ (accepts_front S front n) refl

decide_apart : (S : Type 0) → RowApart {S = S} decide_row
unfolding deciding decision_in regency_of
decide_apart S front n cause fired = pair_is _ _ _ _ (decides_front S front n) refl

front_apart : {S : Type 0} (m : Meaning S) → Each (RowApart {S = S}) (front_rows m)
unfolding turn_rows vote_rows
front_apart {S = S} m = (
  install_apart m,
  (
    deliver_apart m,
    (
      adopt_apart S,
      (
        join_apart S,
        (promise_apart S, (lead_apart S, (propose_apart S, (write_apart S, (accept_apart S, (decide_apart S, (time_apart S, tt))))))),
      ),
    ),
  ),
)

pass_apart : {S : Type 0} (rows : List (Row S)) → Each (RowApart {S = S}) rows → (front : List OwnSnapshot) (n : Node S) (cause : Cause) (fired : List Fired)
    → ◌≡◌ {A = Node S × List Fired} (pass rows (with_front front n) cause fired) (with_front front (pass rows n cause fired).0, (pass rows n cause fired).1)
unfolding pass
pass_apart [] each front n cause fired = refl
pass_apart (r ∷ rows) each front n cause fired =
    pass_first r rows (with_front front n) (with_front front (r n cause fired).0) cause fired (r n cause fired).1 _ (each.0 front n cause fired)
    (pass_apart rows each.1 front (r n cause fired).0 cause (r n cause fired).1)

-- ---- a pass

abbrev pub without : {S : Type 0} → Node S → Node S
without n = record n { taken = [] }

whole_again : {S : Type 0} (n : Node S) → with_front n.taken (without n) ≡ n
whole_again n = ap (λ (ss : List OwnSnapshot). record n { taken = ss }) (append-nil n.taken)

-- a pass of the node, by that of the node without the snapshots that were set aside
pass_whole : {S : Type 0} (m : Meaning S) (n : Node S) (cause : Cause) (fired : List Fired)
    → ◌≡◌ {A = Node S × List Fired} (pass (front_rows m) n cause fired) (with_front n.taken (pass (front_rows m) (without n) cause fired).0, (pass (front_rows m) (without n) cause fired).1)
pass_whole {S = S} m n cause fired =
    ap (λ (x : Node S). pass (front_rows m) x cause fired) (sym (whole_again n)) ∙ pass_apart (front_rows m) (front_apart m) n.taken (without n) cause fired

pub pass_joined : {S : Type 0} (m : Meaning S) (n start x y : Node S) (cause : Cause) (fired told : List Fired) (before : List OwnSnapshot) → start ≡ without n
    → pass (front_rows m) start cause fired ≡ (x, told) → before ≡ n.taken → y ≡ record x { taken = before ++ x.taken } → pass (front_rows m) n cause fired ≡ (y, told)
pass_joined {S = S} m n start x y cause fired told before begins passes set joined =
    let bare : pass (front_rows m) (without n) cause fired ≡ (x, told) = ap (λ (z : Node S). pass (front_rows m) z cause fired) (sym begins) ∙ passes in
    pass_whole m n cause fired
    ∙ pair_is _ _ _ _
    (ap (λ (z : Node S × List Fired). with_front n.taken z.0) bare ∙ sym (joined ∙ ap (λ (front : List OwnSnapshot). with_front front x) set))
    (ap (λ (z : Node S × List Fired). z.1) bare)

take_front : {A : Type 0} (xs ys : List A) → take (length xs) (xs ++ ys) ≡ xs
take_front [] ys = refl
take_front (x ∷ xs) ys = ap (λ zs. x ∷ zs) (take_front xs ys)

pub taken_joined : {S : Type 0} (n x y : Node S) (before : List OwnSnapshot) → before ≡ n.taken → y ≡ record x { taken = before ++ x.taken } → KeepsTaken n y
taken_joined {S = S} n x y before set joined = record {
  same = ap (λ (z : Node S). take (length n.taken) z.taken) joined ∙ (ap (λ (front : List OwnSnapshot). take (length n.taken) (front ++ x.taken)) set ∙ take_front n.taken x.taken);
}

entries_same : {S : Type 0} (m : Meaning S) (n : Node S) (cause : Cause) (fired : List Fired)
    → (pass (front_rows m) (without n) cause fired).0.entries ≡ (pass (front_rows m) n cause fired).0.entries
entries_same {S = S} m n cause fired = sym (ap (λ (x : Node S × List Fired). x.0.entries) (pass_whole m n cause fired))

-- a pass that is refused half-way
pub part_same : {S : Type 0} (m : Meaning S) (n start x : Node S) (cause : Cause) (fired : List Fired) (now : List LogEntry) → start ≡ without n → now ≡ x.entries
    → IsPartly start.entries x.entries (pass (front_rows m) start cause fired).0.entries → IsPartly n.entries now (pass (front_rows m) n cause fired).0.entries
part_same {S = S} m n start x cause fired now begins is part =
    subst (λ (es : List LogEntry). IsPartly n.entries es (pass (front_rows m) n cause fired).0.entries) (sym is)
    (subst (λ (es : List LogEntry). IsPartly n.entries x.entries es) (entries_same m n cause fired)
    (subst (λ (z : Node S). IsPartly z.entries x.entries (pass (front_rows m) z cause fired).0.entries) begins part))

-- a pass that is refused at its end
pub part_all : {S : Type 0} (m : Meaning S) (n start x y : Node S) (cause : Cause) (fired told : List Fired) (before : List OwnSnapshot) → start ≡ without n
    → pass (front_rows m) start cause fired ≡ (x, told) → y ≡ record x { taken = before } → IsPartly n.entries y.entries (pass (front_rows m) n cause fired).0.entries
part_all {S = S} m n start x y cause fired told before begins passes joined =
    partly_all n.entries y.entries (pass (front_rows m) n cause fired).0.entries
    (ap (λ (z : Node S). z.entries) joined
    ∙ (ap (λ (z : Node S × List Fired). z.0.entries) (sym passes) ∙ (ap (λ (z : Node S). (pass (front_rows m) z cause fired).0.entries) begins ∙ entries_same m n cause fired)))
    (pass_grows (front_rows m) n cause fired (front_grow m))

-- ---- what is taken stays in front

pub taken_from : {S : Type 0} (n x y : Node S) → x.taken ≡ n.taken → KeepsTaken x y → KeepsTaken n y
taken_from n x y same is = record { same = ap (λ (front : List OwnSnapshot). take (length front) y.taken) (sym same) ∙ (is.same ∙ same) }

pub taken_to : {S : Type 0} (n x y : Node S) → KeepsTaken n x → y.taken ≡ x.taken → KeepsTaken n y
taken_to n x y is same = record { same = ap (λ (ss : List OwnSnapshot). take (length n.taken) ss) same ∙ is.same }

take_whole : {A : Type 0} (xs : List A) → take (length xs) xs ≡ xs
take_whole [] = refl
take_whole (x ∷ xs) = ap (λ ys. x ∷ ys) (take_whole xs)

pub taken_same : {S : Type 0} (n y : Node S) → y.taken ≡ n.taken → KeepsTaken n y
taken_same n y same = record { same = ap (λ (ss : List OwnSnapshot). take (length n.taken) ss) same ∙ take_whole n.taken }

pool_taken : {S : Type 0} (n : Node S) (pool : List (SignedBy Request)) (t : Bool) → (cond t (record n { pool = pool }) n).taken ≡ n.taken
pool_taken n pool true = refl
pool_taken n pool false = refl

kept_taken : {S : Type 0} (n : Node S) (message : Message) → (kept n message).taken ≡ n.taken
unfolding kept
kept_taken n (Ask q) = pool_taken n (offered n.pool q) (is_next n.replica.table q.statement)
kept_taken n _ = refl

judged_taken : {S : Type 0} (n : Node S) (message : Message) (why : Option Why) → (judged n message why).node.taken ≡ n.taken
unfolding noted
judged_taken n message None = kept_taken (noted n message) message
judged_taken n message (Some why) = refl

reads_taken : {S : Type 0} (n : Node S) (read : Result Message ℕ) → (reads n read).node.taken ≡ n.taken
reads_taken n (Ok message) = judged_taken n message (why_dropped n message)
reads_taken n (Err at) = refl

-- what takes an event in takes no snapshot
pub takes_taken : {S : Type 0} (n : Node S) (event : NodeEvent) → (takes_in n event).node.taken ≡ n.taken
unfolding takes_in
takes_taken n (Arrive bytes) = reads_taken n (decoded bytes)
takes_taken n Tick = refl
takes_taken n Deliver = refl
takes_taken n (Firm count) = refl
