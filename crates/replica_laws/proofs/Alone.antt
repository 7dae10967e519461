-- A node whose book tells of no installation more: it delivers in order from the empty replica on, and each reply that it holds tells an execution
-- of the batches that its book decides.
use Rattle.std.proofs.Common.{⊎_elim, ◌⊎◌, ◌≡◌, ℕ, zero, suc, ◌+◌, ◌≤◌, ◌++◌, ◌∙◌, ap, Bool, true, false, cond, List, [], ◌∷◌, length, sym, subst, refl, inl, inr, Option, Some, None, is_some, Result, Ok, Err, take, arith, add-one, append-nil}
use Rattle.std.proofs.lemmas.List.{take-append-le}
use Rattle.std.specs.Prelude.{slice_get}
use Rattle.smart_base.specs.Lists.{Each}
use Rattle.smart_base.specs.Views.{View}
use Rattle.smart_base.proofs.ViewFacts.{each-weaken}
use Rattle.smart_statements.specs.Batches.{Batch}
use Rattle.smart_statements.specs.declared.entry.NodeEvent.{NodeEvent}
use Rattle.smart_statements.specs.declared.entry.NodeEvent.TheVariants.{Arrive, Tick, Deliver, Firm}
use Rattle.smart_messages.specs.declared.message.Message.{Message}
use Rattle.smart_service.specs.Services.{Meaning}
use Rattle.smart_service.specs.declared.replica.Replica.{Replica}
use Rattle.state_transfer.specs.Fetches.{finished}
use Rattle.state_transfer.specs.declared.fetch.Fetch.{Fetch}
use Rattle.state_transfer.specs.declared.fetch.Spoiled.{Spoiled}
use Rattle.vote_book.specs.declared.entry.LogEntry.{LogEntry}
use Rattle.vote_book.specs.declared.entry.LogEntry.TheVariants.{Installed}
use Rattle.replica_rules.specs.Replicas.{empty, state, batch_at}
use Rattle.node_rules.specs.Rules.{delivers, proposes, writes, accepts, answers_again}
use Rattle.node_rules.specs.Marks.{mark_place}
use Rattle.node_rules.specs.Nodes.{Node, decided_place}
use Rattle.node_rules.specs.Arrivals.{kept, noted}
use Rattle.node_rules.specs.Changes.{adopts, joins, promises, leads, times}
use Rattle.node_rules.specs.Kept.{node_after}
use Rattle.node_rules.specs.Reopening.{decided_of, reopened}
use Rattle.node_rules.specs.Steps.{Taken, rules, pass, passed, takes_in, step_of, outset, opened}
use Rattle.node_rules.specs.Transfers.{installing, install_replica, is_of_group, spoil, install_by, install_fetch, installs, answers_state, plans}
use Rattle.node_rules.specs.declared.node.Cause.{Cause}
use Rattle.node_rules.specs.declared.node.Fired.{Fired}
use Rattle.node_rules.specs.declared.node.Held.{Held}
use Rattle.node_rules.specs.declared.node.Why.{Why}
use Rattle.node_rules.proofs.Rulewise.{told_installed, KeptByRules, by_delivery, by_mark, free-event, keeps_rules, takes_in_as}
use Rattle.node_rules.proofs.Entries.{noted_same, answers_again_same, answers_state_same, plans_same, kept_same, joins_same, leads_same, proposes_same, times_same}
use Rattle.node_laws.proofs.Restored.{decided_append}
use Rattle.agreement_laws.specs.Fronts.{IsFront}
use Rattle.agreement_laws.proofs.Lists.{either}
use Rattle.replica_laws.specs.Books.{passing, is_installation, DeliversInOrder}
use Rattle.replica_laws.specs.Lines.{HoldsExecuted, ReplyRight}
use Rattle.replica_laws.proofs.InOrder.{in_order_as, in_order-delivers, in_order-decides, decided-adopts, decided-promises, decided-writes, decided-accepts, decided-mark}
use Rattle.replica_laws.proofs.Installs.{OneMore, takes-installs, decided-installs}
use Rattle.replica_laws.proofs.Leaves.{Leaves, leaves-adopts, leaves-joins, leaves-promises, leaves-leads, leaves-proposes, leaves-writes, leaves-accepts, leaves-times, leaves-answers_again, leaves-answers_state, leaves-plans, leaves-noted, leaves-kept, leaves-mark}
use Rattle.replica_laws.proofs.Longer.{told_firm, longer-pass, longer-step}
use Rattle.replica_laws.proofs.Once.{passing-end}
use Rattle.replica_laws.proofs.Ordered.{ordered-opened}
use Rattle.replica_laws.proofs.Resumed.{book_reopened, holds_none, order_reopened}
use Rattle.replica_laws.proofs.Telling.{Along, held-step, right-more, table_lines}

-- ---- books that grow

more_pass : {A : Type 0} (p : A → Bool) (xs ys : List A) → passing p xs ≤ passing p (xs ++ ys)
more_pass p [] ys = omega arith
more_pass p (x ∷ xs) ys = omega (arith, more_pass p xs ys)

front_pass : {A : Type 0} (p : A → Bool) (xs ys : List A) → IsFront xs ys → passing p xs ≤ passing p ys
front_pass {A} p xs ys f =
    let more = more_pass p xs f.rest in
    let same = ap (λ (zs : List A). passing p zs) f.is in
    omega (arith, more, same)

same_told : {S : Type 0} (n : Node S) (event : NodeEvent) → (told_firm n event).entries ≡ n.entries
same_told n (Arrive bytes) = refl
same_told n Tick = refl
same_told n Deliver = refl
same_told n (Firm count) = refl

-- a step adds entries alone
front-step : {S : Type 0} (m : Meaning S) (n : Node S) (event : NodeEvent) → IsFront n.entries (step_of m n event).node.entries
front-step m n event =
    let book = (longer-step m n event).book in
    record { rest = book.rest; is = book.is ∙ ap (λ (es : List LogEntry). es ++ book.rest) (same_told n event) }

-- the installations that a book tells of
abbrev count_of : {S : Type 0} → Node S → ℕ
count_of n = passing is_installation n.entries

pub count-step : {S : Type 0} (m : Meaning S) (n : Node S) (event : NodeEvent) → count_of n ≤ count_of (step_of m n event).node
count-step m n event = front_pass is_installation n.entries (step_of m n event).node.entries (front-step m n event)

pub count_after : {S : Type 0} (m : Meaning S) (n : Node S) (events : List NodeEvent) → count_of n ≤ count_of (node_after m n events)
count_after m n [] = omega arith
count_after {S = S} m n (e ∷ es) =
    let next : Node S = (step_of m n e).node in
    let one = count-step m n e in
    let rest = count_after m next es in
    omega (arith, one, rest)

-- ---- an installation

-- it leaves the replica, or the book tells of it
abbrev IsTold : {S : Type 0} → Node S → Node S → Type 0
IsTold n x = (x.replica ≡ n.replica) ⊎ OneMore n.entries x.entries

told-spoil : {S : Type 0} (n : Node S) (f : Fetch) → IsTold n (spoil n f)
unfolding spoil
told-spoil n f = inl refl

told-replica : {S : Type 0} (n : Node S) (f : Fetch) (r : Replica S) → IsTold n (install_replica n f r)
unfolding install_replica
told-replica n f r = inr (record { installation = _; is = refl })

told-install_by : {S : Type 0} (n : Node S) (f : Fetch) (made : Result (Replica S) Spoiled) → IsTold n (install_by n f made)
told-install_by {S = S} n f (Ok r) = either (λ (x : Node S). IsTold n x) (is_of_group n r) (install_replica n f r) (spoil n f) (told-replica n f r) (told-spoil n f)
told-install_by n f (Err why) = told-spoil n f

told-install_fetch : {S : Type 0} (m : Meaning S) (n : Node S) (due : Option Fetch) → IsTold n (install_fetch m n due)
unfolding install_fetch
told-install_fetch m n None = inl refl
told-install_fetch m n (Some f) = told-install_by n f (finished m f)

told-installs : {S : Type 0} (m : Meaning S) (n : Node S) → IsTold n (installs m n)
unfolding installs
told-installs m n = told-install_fetch m n (installing n)

-- so a pass behind which the book tells of none more leaves it
none_taken : {S : Type 0} (m : Meaning S) (n : Node S) (cause : Cause) → count_of (pass (rules m) n cause []).0 ≤ count_of n → (installs m n).replica ≡ n.replica
none_taken {S = S} m n cause quiet =
    let i : Node S = installs m n in
    let more = front_pass is_installation i.entries (pass (rules m) n cause []).0.entries (longer-pass m n cause).book in
    ⊎_elim (λ (same : i.replica ≡ n.replica). same)
    (λ (one : OneMore n.entries i.entries).
    let is = ap (λ (es : List LogEntry). passing is_installation es) one.is in
    let end = passing-end is_installation n.entries (Installed one.installation) in
    let counted : passing is_installation (Installed one.installation ∷ []) ≡ 1 = refl in
    absurd (omega (arith, quiet, more, is, end, counted))) (told-installs m n)

-- ---- deliveries in order

order_same : {S : Type 0} (m : Meaning S) (base : Replica S) (n n' : Node S) → Leaves n n' → n'.entries ≡ n.entries → DeliversInOrder m base n → DeliversInOrder m base n'
order_same m base n n' leaves same d = in_order_as m base n n' leaves (ap (decided_of base.place) same) d

order-rules : {S : Type 0} (m : Meaning S) (base : Replica S) → KeptByRules (λ (n : Node S). DeliversInOrder m base n)
order-rules m base = record {
  by_adopts = λ n d. in_order_as m base n (adopts n) (leaves-adopts n) (decided-adopts base.place n) d;
  by_joins = λ n d. order_same m base n (joins n) (leaves-joins n) (joins_same n) d;
  by_promises = λ n d. in_order_as m base n (promises n) (leaves-promises n) (decided-promises base.place n) d;
  by_leads = λ n d. order_same m base n (leads n) (leaves-leads n) (leads_same n) d;
  by_proposes = λ n d. order_same m base n (proposes n) (leaves-proposes n) (proposes_same n) d;
  by_writes = λ n d. in_order_as m base n (writes n) (leaves-writes n) (decided-writes base.place n) d;
  by_accepts = λ n d. in_order_as m base n (accepts n) (leaves-accepts n) (decided-accepts base.place n) d;
  by_decides = λ n d. in_order-decides m base n d;
  by_times = λ n d. order_same m base n (times n) (leaves-times n) (times_same n) d;
  by_answers = λ n asked d. order_same m base n (answers_again n asked) (leaves-answers_again n asked) (answers_again_same n asked) d;
  by_states = λ n a d. order_same m base n (answers_state n a) (leaves-answers_state n a) (answers_state_same n a) d;
  by_plans = λ n d. order_same m base n (plans n) (leaves-plans n) (plans_same n) d;
}

-- what takes an event in
order-takes_in : {S : Type 0} (m : Meaning S) (base : Replica S) (n : Node S) (event : NodeEvent) → DeliversInOrder m base n → DeliversInOrder m base (takes_in n event).node
order-takes_in {S = S} m base n event d =
    let told : (x : Message) → DeliversInOrder m base (noted n x) = λ x. order_same m base n (noted n x) (leaves-noted n x) (noted_same n x) d in
    takes_in_as (λ (x : Node S). DeliversInOrder m base x) (λ message. Unit {0}) n event told
    (λ x none may. order_same m base (noted n x) (kept (noted n x) x) (leaves-kept (noted n x) x) (kept_same (noted n x) x) (told x))
    (λ count. record { count = d.count; place = d.place; replica = d.replica; waiting = d.waiting; all = d.all }) (free-event event) d

-- an installation that leaves the replica
order-installs : {S : Type 0} (m : Meaning S) (base : Replica S) (n : Node S) → (installs m n).replica ≡ n.replica → DeliversInOrder m base n → DeliversInOrder m base (installs m n)
order-installs m base n replica d =
    let waits : (installs m n).waiting ≡ n.waiting = (takes-installs m n).waits in
    let decided = decided-installs base.place m n in
    record {
      count = d.count;
      place = rw replica d.place;
      replica = rw (replica, decided) d.replica;
      waiting = rw (waits, decided) d.waiting;
      all = rw (replica, waits, decided) d.all;
    }

order-pass : {S : Type 0} (m : Meaning S) (base : Replica S) (n : Node S) (cause : Cause) → count_of (pass (rules m) n cause []).0 ≤ count_of n → DeliversInOrder m base n
    → DeliversInOrder m base (pass (rules m) n cause []).0
order-pass {S = S} m base n cause quiet d =
    let i : Node S = installs m n in
    let begun : DeliversInOrder m base i = order-installs m base n (none_taken m n cause quiet) d in
    let sent : DeliversInOrder m base (delivers m i) = in_order-delivers m base i begun in
    keeps_rules m (λ (x : Node S). DeliversInOrder m base x) n cause [] (order-rules m base)
    (by_delivery m (λ (x : Node S) (told : List Fired). DeliversInOrder m base x) i cause (told_installed m n []) begun
    (by_mark m (λ (x : Node S). DeliversInOrder m base x) (is_some i.waiting) (delivers m i) sent
    (λ due. in_order_as m base (delivers m i) (mark_place m (delivers m i)) (leaves-mark m (delivers m i)) (decided-mark base.place m (delivers m i)) sent)))

order-passed : {S : Type 0} (m : Meaning S) (base : Replica S) (t : Taken S) (why : Option Why) → count_of (passed m t why).node ≤ count_of t.node → DeliversInOrder m base t.node
    → DeliversInOrder m base (passed m t why).node
order-passed m base t None quiet d = order-pass m base t.node t.cause quiet d
order-passed m base t (Some why) quiet d = d

-- what takes an event in leaves the book
same-takes_in : {S : Type 0} (n : Node S) (event : NodeEvent) → (takes_in n event).node.entries ≡ n.entries
same-takes_in {S = S} n event =
    takes_in_as (λ (x : Node S). x.entries ≡ n.entries) (λ message. Unit {0}) n event (λ x. noted_same n x) (λ x none may. kept_same (noted n x) x ∙ noted_same n x) (λ count. refl) (free-event event) refl

pub order-step : {S : Type 0} (m : Meaning S) (base : Replica S) (n : Node S) (event : NodeEvent) → count_of (step_of m n event).node ≤ count_of n → DeliversInOrder m base n
    → DeliversInOrder m base (step_of m n event).node
unfolding step_of
order-step {S = S} m base n event quiet d =
    let t : Taken S = takes_in n event in
    order-passed m base t t.dropped
    (subst (λ (es : List LogEntry). count_of (passed m t t.dropped).node ≤ passing is_installation es) (sym (same-takes_in n event)) quiet) (order-takes_in m base n event d)

-- ---- replies

get-more : {A : Type 0} (xs ys : List A) (k : ℕ) (x : A) → slice_get xs k ≡ Some x → slice_get (xs ++ ys) k ≡ Some x
get-more [] ys k x at = absurd cc
get-more (y ∷ xs) ys zero x at = at
get-more (y ∷ xs) ys (suc k) x at = get-more xs ys k x at

-- the place of a replica is decided
pub place_within : {S : Type 0} (n : Node S) → n.replica.place ≤ decided_place n
place_within n = by (is_some n.waiting)
  where
    by : (t : Bool) → n.replica.place ≤ cond t (n.replica.place + 1) n.replica.place
    by true = omega arith
    by false = omega arith

-- a node that delivers in order from the empty replica on stands along what its book decides, and along more
along-more : {S : Type 0} (m : Meaning S) (view : View) (n : Node S) (list more : List Batch) → list ≡ decided_of 0 n.entries ++ more → DeliversInOrder m (empty m view) n → Along m view list n
along-more m view n list more is d =
    let ds : List Batch = decided_of 0 n.entries in
    let here : n.replica.place ≡ 0 + d.count = d.place in
    let at : d.count ≡ n.replica.place = omega (arith, here) in
    let all : 0 + length ds ≡ decided_place n = d.all in
    let within = place_within n in
    let front : take n.replica.place list ≡ take d.count ds =
    ap (λ (bs : List Batch). take n.replica.place bs) is ∙ (take-append-le n.replica.place ds more (omega (arith, all, within)) ∙ ap (λ (k : ℕ). take k ds) (sym at)) in
    record {
      replica = d.replica ∙ ap (λ (bs : List Batch). state m view bs) (sym front);
      waiting = λ batch waits.
          ap (batch_at list) (add-one n.replica.place)
          ∙ (ap (λ (bs : List Batch). slice_get bs n.replica.place) is
          ∙ get-more ds more n.replica.place batch (ap (λ (k : ℕ). slice_get ds k) (sym at) ∙ (sym d.waiting ∙ waits)));
    }

-- A step behind which the book tells of no installation more keeps that each held reply tells an execution of what the book decides.
executed-step : {S : Type 0} (m : Meaning S) (view : View) (n : Node S) (event : NodeEvent) → count_of (step_of m n event).node ≤ count_of n → DeliversInOrder m (empty m view) n
    → HoldsExecuted m view n → HoldsExecuted m view (step_of m n event).node
executed-step {S = S} m view n event quiet d held =
    let next : Node S = (step_of m n event).node in
    let ds : List Batch = decided_of 0 n.entries in
    let list : List Batch = decided_of 0 next.entries in
    let book = front-step m n event in
    let more : List Batch = decided_of 0 book.rest in
    let decided : list ≡ ds ++ more = ap (decided_of 0) book.is ∙ decided_append 0 n.entries book.rest in
    let behind : Along m view list next = along-more m view next list [] (sym (append-nil list)) (order-step m (empty m view) n event quiet d) in
    held-step m view list n event (along-more m view n list more decided d) (table_lines m view list next behind)
    (each-weaken (λ (h : Held). ReplyRight m view ds h.message) (λ (h : Held). ReplyRight m view list h.message)
    (λ h right. subst (λ (bs : List Batch). ReplyRight m view bs h.message) (sym decided) (right-more m view ds more h.message right)) n.held held)

executed_after : {S : Type 0} (m : Meaning S) (view : View) (n : Node S) (events : List NodeEvent) → count_of (node_after m n events) ≤ count_of n → DeliversInOrder m (empty m view) n
    → HoldsExecuted m view n → HoldsExecuted m view (node_after m n events)
executed_after m view n [] quiet d held = held
executed_after {S = S} m view n (e ∷ es) quiet d held =
    let next : Node S = (step_of m n e).node in
    let one = count-step m n e in
    let rest = count_after m next es in
    let now : count_of next ≤ count_of n = omega (arith, quiet, rest) in
    executed_after m view next es (omega (arith, quiet, one)) (order-step m (empty m view) n e now d) (executed-step m view n e now d held)

-- ---- whatever comes

-- a node that was opened with the empty replica
pub alone_opened : {S : Type 0} (m : Meaning S) (secret : List ℕ) (id : ℕ) (view : View) (period : ℕ) (events : List NodeEvent)
    → passing is_installation (node_after m (opened (outset m secret id view period)) events).entries ≡ 0 → HoldsExecuted m view (node_after m (opened (outset m secret id view period)) events)
alone_opened m secret id view period events none =
    executed_after m view (opened (outset m secret id view period)) events (omega (arith, none)) (ordered-opened m (outset m secret id view period)).order tt

-- one that was reopened with it
pub alone_reopened : {S : Type 0} (m : Meaning S) (secret : List ℕ) (id : ℕ) (view : View) (period : ℕ) (entries : List LogEntry) (events : List NodeEvent)
    → passing is_installation (node_after m (reopened m (outset m secret id view period) entries) events).entries ≤ passing is_installation entries
    → HoldsExecuted m view (node_after m (reopened m (outset m secret id view period) entries) events)
alone_reopened {S = S} m secret id view period entries events none =
    let n : Node S = reopened m (outset m secret id view period) entries in
    let book = book_reopened m (outset m secret id view period) entries in
    executed_after m view n events (omega (arith, none, book)) (order_reopened m (outset m secret id view period) entries)
    (subst (λ (hs : List Held). Each (λ (h : Held). ReplyRight m view (decided_of 0 n.entries) h.message) hs) (sym (holds_none m (outset m secret id view period) entries)) tt)
