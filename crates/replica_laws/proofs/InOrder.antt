-- A node delivers its decided batches in order.
use Rattle.std.proofs.Common.{◌≡◌, ℕ, zero, suc, ◌+◌, ◌≤◌, ◌++◌, false, List, [], ◌∷◌, length, refl, ap, ◌∙◌, sym, arith, Option, Some, None, is_some, take, length-append}
use Rattle.std.proofs.lemmas.List.{take-append-le}
use Rattle.std.specs.Prelude.{slice_get}
use Rattle.smart_statements.specs.Batches.{Batch}
use Rattle.smart_messages.specs.declared.message.Proposed.{Proposed}
use Rattle.smart_service.specs.Services.{Meaning}
use Rattle.smart_service.specs.declared.table.Execution.{Execution}
use Rattle.smart_service.specs.declared.replica.Replica.{Replica}
use Rattle.vote_book.specs.declared.entry.Decision.{Decision}
use Rattle.vote_book.specs.declared.entry.LogEntry.{LogEntry}
use Rattle.vote_book.specs.declared.entry.LogEntry.TheVariants.{Wrote, Promised, Synced, Decided, Marked}
use Rattle.replica_rules.specs.Replicas.{delivered, after_batches}
use Rattle.replica_rules.specs.Pools.{settled}
use Rattle.node_rules.specs.Rules.{reply_of, replying, lines_to_answer, deliver_batch, delivers, writing, write_batch, writes, accepting, accept_batch, accepts, deciding, decide_batch, decides}
use Rattle.node_rules.specs.declared.node.Target.TheVariants as targets
use Rattle.node_rules.specs.Marks.{mark_of, mark_place}
use Rattle.node_rules.specs.Nodes.{Node, holding, open_slot, enters}
use Rattle.node_rules.specs.Changes.{adoption, adopts, next_promise, promising, promise_next, promises}
use Rattle.node_rules.specs.Reopening.{decided_of}
use Rattle.replica_laws.specs.Books.{DeliversInOrder}
use Rattle.replica_laws.proofs.Once.{entries_adopted}
use Rattle.replica_laws.proofs.Leaves.{Leaves}
use Rattle.vote_book.proofs.Reports.{get_last}
use Rattle.node_laws.proofs.Deciding.{due_is}
use Rattle.node_laws.proofs.Restored.{decided_last, decided_none}
use Rattle.kept_arrivals.proofs.Rules.{decides_free}
use Rattle.agreement_laws.proofs.Lists.{either}
use Rattle.replica_rules.proofs.Places.{place_delivered}

-- lists

-- a front that is one longer ends with the value at its length
pub take-next : {A : Type 0} (xs : List A) (p : ℕ) (x : A) → slice_get xs p ≡ Some x → take (p + 1) xs ≡ take p xs ++ x ∷ []
take-next [] p x at = absurd (cc)
take-next (y ∷ xs) zero x at = cc
take-next (y ∷ xs) (suc p) x at = let e : suc p + 1 ≡ suc (p + 1) = omega arith in rw e (ap (λ ys. y ∷ ys) (take-next xs p x at))

-- nothing stands past the end
pub get-past : {A : Type 0} (xs : List A) (p : ℕ) → length xs ≤ p → slice_get xs p ≡ None
get-past [] p le = refl
get-past (y ∷ xs) zero le = absurd (omega (arith, le))
get-past (y ∷ xs) (suc p) le = get-past xs p (omega (arith, le))

-- replicas

-- the state after one more batch
pub after_end : {S : Type 0} (m : Meaning S) (r : Replica S) (bs : List Batch) (b : Batch) → after_batches m r (bs ++ b ∷ []) ≡ delivered m (after_batches m r bs) b
after_end m r [] b = refl
after_end m r (c ∷ bs) b = after_end m (delivered m r c) bs b

-- rules that leave the replica, the batch that waits and the decided batches

-- a node with the same replica, the same batch that waits and the same decided batches
pub in_order_as : {S : Type 0} (m : Meaning S) (base : Replica S) (n n' : Node S) → Leaves n n' → decided_of base.place n'.entries ≡ decided_of base.place n.entries → DeliversInOrder m base n
    → DeliversInOrder m base n'
in_order_as m base n n' leaves decided d =
    let replica = leaves.replica_is in
    let waiting = leaves.waits in
    record {
      count = d.count;
      place = rw replica d.place;
      replica = rw (replica, decided) d.replica;
      waiting = rw (waiting, decided) d.waiting;
      all = rw (replica, waiting, decided) d.all;
    }

-- what a rule leaves of the decided batches

decided_as : {S : Type 0} (past : ℕ) (n n' : Node S) → n'.entries ≡ n.entries → decided_of past n'.entries ≡ decided_of past n.entries
decided_as past n n' same = ap (decided_of past) same

pub decided-adopts : {S : Type 0} (past : ℕ) (n : Node S) → decided_of past (adopts n).entries ≡ decided_of past n.entries
unfolding adopts
decided-adopts past n =
    entries_adopted (λ (es : List LogEntry). decided_of past es ≡ decided_of past n.entries) (λ es p is. decided_none past es (Promised p) refl ∙ is) (λ es s is. decided_none past es (Synced s) refl ∙ is)
    n (adoption n) refl

pub decided-promises : {S : Type 0} (past : ℕ) (n : Node S) → decided_of past (promises n).entries ≡ decided_of past n.entries
unfolding promises promise_next
decided-promises {S = S} past n =
    either (λ (x : Node S). decided_of past x.entries ≡ decided_of past n.entries) (promising n) (promise_next n) n (decided_none past n.entries (Promised (next_promise n)) refl) refl

pub decided-write_batch : {S : Type 0} (past : ℕ) (n : Node S) (p : Option Proposed) → decided_of past (write_batch n p).entries ≡ decided_of past n.entries
unfolding write_batch
decided-write_batch past n None = refl
decided-write_batch past n (Some p) = decided_none past n.entries (Wrote (record { slot = open_slot n; digest = p.head.statement.digest })) refl

pub decided-mark : {S : Type 0} (past : ℕ) (m : Meaning S) (n : Node S) → decided_of past (mark_place m n).entries ≡ decided_of past n.entries
unfolding mark_place
decided-mark past m n = decided_none past n.entries (Marked (mark_of m n)) refl

pub decided-writes : {S : Type 0} (past : ℕ) (n : Node S) → decided_of past (writes n).entries ≡ decided_of past n.entries
unfolding writes
decided-writes past n = decided-write_batch past n (writing n)

pub decided-accept_batch : {S : Type 0} (past : ℕ) (n : Node S) (p : Option Proposed) → decided_of past (accept_batch n p).entries ≡ decided_of past n.entries
unfolding accept_batch
decided-accept_batch past n None = refl
decided-accept_batch past n (Some p) = decided_none past n.entries _ refl

pub decided-accepts : {S : Type 0} (past : ℕ) (n : Node S) → decided_of past (accepts n).entries ≡ decided_of past n.entries
unfolding accepts
decided-accepts past n = decided-accept_batch past n (accepting n)

-- rules that deliver and decide

-- held replies
in_order-replying : {S : Type 0} (m : Meaning S) (base : Replica S) (n : Node S) (lines : List Execution) → DeliversInOrder m base n → DeliversInOrder m base (replying n lines)
in_order-replying m base n [] d = d
in_order-replying m base n (l ∷ ls) d =
    in_order-replying m base (holding n (targets.Client l.client) (reply_of n.secret n.id l)) ls
    (record { count = d.count; place = d.place; replica = d.replica; waiting = d.waiting; all = d.all })

-- delivery takes the batch that waits
in_order-deliver_batch : {S : Type 0} (m : Meaning S) (base : Replica S) (n : Node S) (batch : Option Batch) → n.waiting ≡ batch → DeliversInOrder m base n → DeliversInOrder m base (deliver_batch m n batch)
unfolding deliver_batch
in_order-deliver_batch m base n None at d = d
in_order-deliver_batch {S = S} m base n (Some batch) at d =
    let r : Replica S = delivered m n.replica batch in
    let ds : List Batch = decided_of base.place n.entries in
    let next : r.place ≡ n.replica.place + 1 = place_delivered m n.replica batch in
    let here : n.replica.place ≡ base.place + d.count = d.place in
    let full : base.place + length ds ≡ n.replica.place + 1 = rw at at d.all in
    let taken : take (d.count + 1) ds ≡ take d.count ds ++ batch ∷ [] = take-next ds d.count batch (sym d.waiting ∙ at) in
    let x : Node S = enters n (record n { replica = r; waiting = None; pool = settled r.table n.pool; impatient = false }) in
    let y : DeliversInOrder m base (replying x (lines_to_answer m n batch)) =
    in_order-replying m base x (lines_to_answer m n batch)
    (record {
      count = d.count + 1;
      place = omega (arith, next, here);
      replica = sym (after_end m base (take d.count ds) batch ∙ ap (λ (x : Replica S). delivered m x batch) (sym d.replica))
          ∙ ap (λ (xs : List Batch). after_batches m base xs) (sym taken);
      waiting = sym (get-past ds (d.count + 1) (omega (arith, full, here)));
      all = full ∙ sym next;
    }) in
    record { count = y.count; place = y.place; replica = y.replica; waiting = y.waiting; all = y.all }

-- the rule that delivers
pub in_order-delivers : {S : Type 0} (m : Meaning S) (base : Replica S) (n : Node S) → DeliversInOrder m base n → DeliversInOrder m base (delivers m n)
unfolding delivers
in_order-delivers m base n d = in_order-deliver_batch m base n n.waiting refl d

-- a batch that is decided where none waits, waits at the next place, which is past the base
in_order-decide_batch : {S : Type 0} (m : Meaning S) (base : Replica S) (n : Node S) (decision : Option Decision) → deciding n ≡ decision → DeliversInOrder m base n
    → DeliversInOrder m base (decide_batch n decision)
unfolding decide_batch
in_order-decide_batch m base n None at d = d
in_order-decide_batch m base n (Some x) at d =
    let ds : List Batch = decided_of base.place n.entries in
    let is : x.slot.place ≡ n.replica.place + 1 = (due_is n x at).place_is in
    let here : n.replica.place ≡ base.place + d.count = d.place in
    let more : decided_of base.place (n.entries ++ Decided x ∷ []) ≡ ds ++ x.batch ∷ [] = decided_last base.place n.entries x (omega (arith, is, here)) in
    let free : n.waiting ≡ None = decides_free n (ap is_some at) in
    let full : base.place + length ds ≡ n.replica.place = rw free at d.all in
    let flat : length ds ≡ d.count = omega (arith, full, here) in
    record {
      count = d.count;
      place = d.place;
      replica = d.replica
          ∙ ap (λ (bs : List Batch). after_batches m base bs)
          (sym (ap (λ (bs : List Batch). take d.count bs) more ∙ take-append-le d.count ds (x.batch ∷ []) (omega (arith, flat))));
      waiting = sym (ap (λ (bs : List Batch). slice_get bs d.count) more ∙ (ap (λ (k : ℕ). slice_get (ds ++ x.batch ∷ []) k) (sym flat) ∙ get_last ds x.batch));
      all = ap (λ (bs : List Batch). base.place + length bs) more ∙ omega (arith, length-append ds (x.batch ∷ []), full);
    }

pub in_order-decides : {S : Type 0} (m : Meaning S) (base : Replica S) (n : Node S) → DeliversInOrder m base n → DeliversInOrder m base (decides n)
unfolding decides
in_order-decides m base n d = in_order-decide_batch m base n (deciding n) refl d
