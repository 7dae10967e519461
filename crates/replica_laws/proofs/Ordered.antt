-- A node delivers its decided batches in order behind its base, whatever comes.
use Rattle.std.proofs.Common.{◌≡◌, ℕ, ◌<◌, ◌≤◌, ◌++◌, Bool, true, false, cond, List, [], ◌∷◌, length, refl, ap, ◌∙◌, sym, subst, arith, Option, Some, None, is_some}
use Rattle.std.proofs.lemmas.Bool.{le-ltb}
use Rattle.std.specs.Prelude.{slice_get}
use Rattle.smart_base.specs.Lists.{Each}
use Rattle.smart_statements.specs.Batches.{Batch}
use Rattle.smart_messages.specs.declared.message.Message.{Message}
use Rattle.smart_statements.specs.declared.entry.NodeEvent.{NodeEvent}
use Rattle.smart_service.specs.Services.{Meaning}
use Rattle.smart_service.specs.declared.replica.Replica.{Replica}
use Rattle.vote_book.specs.declared.entry.Decision.{Decision}
use Rattle.vote_book.specs.declared.entry.LogEntry.{LogEntry}
use Rattle.vote_book.specs.declared.entry.LogEntry.TheVariants.{Decided}
use Rattle.node_rules.specs.Rules.{deliver_batch, delivers, proposes, writes, accepts, deciding, decide_batch, decides, answers_again}
use Rattle.node_rules.specs.Marks.{mark_place}
use Rattle.node_rules.specs.Nodes.{Node, decided_place}
use Rattle.node_rules.specs.Arrivals.{kept, noted}
use Rattle.node_rules.specs.Changes.{adopts, joins, promises, leads, times}
use Rattle.node_rules.specs.Kept.{node_after}
use Rattle.node_rules.specs.Reopening.{decided_of}
use Rattle.node_rules.specs.Steps.{Taken, rules, pass, passed, takes_in, step_of, Outset, opened}
use Rattle.node_rules.specs.Transfers.{installs, answers_state, plans}
use Rattle.node_rules.specs.declared.node.Cause.{Cause}
use Rattle.node_rules.specs.declared.node.Fired.{Fired}
use Rattle.node_rules.specs.declared.node.Fired.TheVariants as fires
use Rattle.node_rules.specs.declared.node.Why.{Why}
use Rattle.node_rules.proofs.Rulewise.{told_installed, KeptByRules, by_delivery, by_mark, free-event, keeps_rules, takes_in_as}
use Rattle.node_rules.proofs.Entries.{noted_same, answers_again_same, answers_state_same, plans_same, kept_same, delivers_same, joins_same, leads_same, proposes_same, times_same}
use Rattle.agreement_laws.proofs.Lists.{each_append}
use Rattle.kept_arrivals.proofs.Rules.{decides_free}
use Rattle.node_laws.proofs.Deciding.{due_is}
use Rattle.node_laws.proofs.Restored.{decided_low, decided_none}
use Rattle.replica_laws.specs.Bases.{has_installed, base_after, base_of}
use Rattle.replica_laws.specs.Books.{DeliversInOrder}
use Rattle.replica_laws.proofs.Based.{IsNoBase, told-behind}
use Rattle.replica_laws.proofs.Counted.{Made, made_none, made_new, made_of}
use Rattle.replica_laws.proofs.InOrder.{in_order_as, in_order-delivers, in_order-decides, decided-adopts, decided-promises, decided-writes, decided-accepts, decided-mark}
use Rattle.replica_laws.proofs.Installs.{takes-installs, decided-installs}
use Rattle.replica_laws.proofs.Leaves.{Leaves, leaves-adopts, leaves-joins, leaves-promises, leaves-leads, leaves-proposes, leaves-writes, leaves-accepts, leaves-times, leaves-answers_again, leaves-answers_state, leaves-plans, leaves-noted, leaves-kept, leaves-mark}
use Rattle.replica_laws.proofs.Replying.{replica-passed}

-- A node that delivers in order behind a base. It has decided nothing past its last decided place.
pub record Ordered {S : Type 0} (m : Meaning S) (base : Replica S) (n : Node S) : Type 0 where
  pub order : DeliversInOrder m base n
  pub none : (past : ℕ) → decided_place n ≤ past → decided_of past n.entries ≡ []

-- ---- rules

-- a node with the same replica, the same batch that waits and the same decided batches
ordered_as : {S : Type 0} (m : Meaning S) (base : Replica S) (n n' : Node S) → Leaves n n' → ((past : ℕ) → decided_of past n'.entries ≡ decided_of past n.entries) → Ordered m base n → Ordered m base n'
ordered_as m base n n' leaves decided o =
    let replica = leaves.replica_is in
    let waiting = leaves.waits in
    let same : decided_place n' ≡ decided_place n = rw (replica, waiting) refl in
    record {
      order = in_order_as m base n n' leaves (decided base.place) o.order;
      none = λ past low. decided past ∙ o.none past (subst (λ (k : ℕ). k ≤ past) same low);
    }

ordered_same : {S : Type 0} (m : Meaning S) (base : Replica S) (n n' : Node S) → Leaves n n' → n'.entries ≡ n.entries → Ordered m base n → Ordered m base n'
ordered_same m base n n' leaves same o = ordered_as m base n n' leaves (λ past. ap (decided_of past) same) o

-- a delivery takes the place of what waited
place_grows : {S : Type 0} (m : Meaning S) (base : Replica S) (n n' : Node S) → DeliversInOrder m base n → DeliversInOrder m base n' → n'.entries ≡ n.entries → decided_place n' ≡ decided_place n
place_grows m base n n' d d' same =
    let first = d.all in
    let next = d'.all in
    let long = ap (λ (es : List LogEntry). length (decided_of base.place es)) same in
    omega (arith, first, next, long)

ordered-delivers : {S : Type 0} (m : Meaning S) (base : Replica S) (n : Node S) → Ordered m base n → Ordered m base (delivers m n)
ordered-delivers m base n o =
    let next = in_order-delivers m base n o.order in
    let same = place_grows m base n (delivers m n) o.order next (delivers_same m n) in
    record {
      order = next;
      none = λ past low. ap (decided_of past) (delivers_same m n) ∙ o.none past (subst (λ (k : ℕ). k ≤ past) same low);
    }

-- a decision is of the next place
none-decided : {S : Type 0} (n : Node S) (d : Option Decision) → deciding n ≡ d → ((past : ℕ) → decided_place n ≤ past → decided_of past n.entries ≡ []) → (past : ℕ) → decided_place (decide_batch n d) ≤ past
    → decided_of past (decide_batch n d).entries ≡ []
unfolding decide_batch
none-decided n None at none past low = none past low
none-decided n (Some d) at none past low =
    let place = (due_is n d at).place_is in
    let free : n.waiting ≡ None = decides_free n (ap is_some at) in
    let here : decided_place n ≡ n.replica.place = rw free refl in
    decided_none past n.entries (Decided d) (decided_low past d [] (le-ltb past d.slot.place (omega (arith, place, low)))) ∙ none past (omega (arith, here, low))

ordered-decides : {S : Type 0} (m : Meaning S) (base : Replica S) (n : Node S) → Ordered m base n → Ordered m base (decides n)
unfolding decides
ordered-decides m base n o = record { order = in_order-decides m base n o.order; none = none-decided n (deciding n) refl o.none }

ordered-rules : {S : Type 0} (m : Meaning S) (base : Replica S) → KeptByRules (λ (n : Node S). Ordered m base n)
ordered-rules m base = record {
  by_adopts = λ n o. ordered_as m base n (adopts n) (leaves-adopts n) (λ past. decided-adopts past n) o;
  by_joins = λ n o. ordered_same m base n (joins n) (leaves-joins n) (joins_same n) o;
  by_promises = λ n o. ordered_as m base n (promises n) (leaves-promises n) (λ past. decided-promises past n) o;
  by_leads = λ n o. ordered_same m base n (leads n) (leaves-leads n) (leads_same n) o;
  by_proposes = λ n o. ordered_same m base n (proposes n) (leaves-proposes n) (proposes_same n) o;
  by_writes = λ n o. ordered_as m base n (writes n) (leaves-writes n) (λ past. decided-writes past n) o;
  by_accepts = λ n o. ordered_as m base n (accepts n) (leaves-accepts n) (λ past. decided-accepts past n) o;
  by_decides = λ n o. ordered-decides m base n o;
  by_times = λ n o. ordered_same m base n (times n) (leaves-times n) (times_same n) o;
  by_answers = λ n asked o. ordered_same m base n (answers_again n asked) (leaves-answers_again n asked) (answers_again_same n asked) o;
  by_states = λ n a o. ordered_same m base n (answers_state n a) (leaves-answers_state n a) (answers_state_same n a) o;
  by_plans = λ n o. ordered_same m base n (plans n) (leaves-plans n) (plans_same n) o;
}

-- what takes an event in
ordered-takes_in : {S : Type 0} (m : Meaning S) (base : Replica S) (n : Node S) (event : NodeEvent) → Ordered m base n → Ordered m base (takes_in n event).node
ordered-takes_in {S = S} m base n event o =
    let told : (x : Message) → Ordered m base (noted n x) = λ x. ordered_same m base n (noted n x) (leaves-noted n x) (noted_same n x) o in
    takes_in_as (λ (x : Node S). Ordered m base x) (λ message. Unit {0}) n event told
    (λ x none may. ordered_same m base (noted n x) (kept (noted n x) x) (leaves-kept (noted n x) x) (kept_same (noted n x) x) (told x))
    (λ count. record { order = record { count = o.order.count; place = o.order.place; replica = o.order.replica; waiting = o.order.waiting; all = o.order.all }; none = o.none })
    (free-event event) o

-- ---- a replica that is taken over

-- a node whose replica an installation leaves
ordered-kept : {S : Type 0} (m : Meaning S) (base : Replica S) (n : Node S) → (installs m n).replica ≡ n.replica → Ordered m base n → Ordered m base (installs m n)
ordered-kept {S = S} m base n replica o =
    let i : Node S = installs m n in
    let waits : i.waiting ≡ n.waiting = (takes-installs m n).waits in
    let decided = decided-installs base.place m n in
    let d = o.order in
    let same : decided_place i ≡ decided_place n = rw (replica, waits) refl in
    record {
      order = record {
        count = d.count;
        place = rw replica d.place;
        replica = rw (replica, decided) d.replica;
        waiting = rw (waits, decided) d.waiting;
        all = rw (replica, waits, decided) d.all;
      };
      none = λ past low. decided-installs past m n ∙ o.none past (subst (λ (k : ℕ). k ≤ past) same low);
    }

-- one that takes a replica over goes on behind it
ordered-taken : {S : Type 0} (m : Meaning S) (base : Replica S) (n : Node S) (place : ℕ) → (installs m n).replica.place ≡ place → n.replica.place < place → n.waiting ≡ None → Ordered m base n
    → Ordered m (installs m n).replica (installs m n)
ordered-taken {S = S} m base n place at later free o =
    let i : Node S = installs m n in
    let waits : i.waiting ≡ None = (takes-installs m n).waits ∙ free in
    let before : decided_place n ≡ n.replica.place = rw free refl in
    let here : decided_place i ≡ i.replica.place = rw waits refl in
    let none : (past : ℕ) → decided_place i ≤ past → decided_of past i.entries ≡ [] =
    λ past low. decided-installs past m n ∙ o.none past (omega (arith, before, here, at, later, low)) in
    let empty : decided_of i.replica.place i.entries ≡ [] = none i.replica.place (omega (arith, here)) in
    record {
      order = record {
        count = 0;
        place = omega arith;
        replica = refl;
        waiting = waits ∙ sym (ap (λ (bs : List Batch). slice_get bs 0) empty);
        all = (let long = ap (λ (bs : List Batch). length bs) empty in omega (arith, long, here));
      };
      none = none;
    }

-- ---- a pass

-- behind an installation
ordered-behind : {S : Type 0} (m : Meaning S) (base : Replica S) (n : Node S) (cause : Cause) → Ordered m base (installs m n) → Ordered m base (pass (rules m) n cause []).0
ordered-behind {S = S} m base n cause o =
    let i : Node S = installs m n in
    let d : Ordered m base (delivers m i) = ordered-delivers m base i o in
    keeps_rules m (λ (x : Node S). Ordered m base x) n cause [] (ordered-rules m base)
    (by_delivery m (λ (x : Node S) (told : List Fired). Ordered m base x) i cause (told_installed m n []) o
    (by_mark m (λ (x : Node S). Ordered m base x) (is_some i.waiting) (delivers m i) d
    (λ due. ordered_as m base (delivers m i) (mark_place m (delivers m i)) (leaves-mark m (delivers m i)) (λ past. decided-mark past m (delivers m i)) d)))

pub none_installed : (fired : List Fired) → Each IsNoBase fired → has_installed fired ≡ false
none_installed [] each = refl
none_installed (f ∷ fs) each = rw (ap is_some each.0) (none_installed fs each.1)

-- where no batch waits, a delivery leaves the node
nothing_waits : {S : Type 0} (m : Meaning S) (n : Node S) (w : Option Batch) → w ≡ None → deliver_batch m n w ≡ n
unfolding deliver_batch
nothing_waits m n None is = refl
nothing_waits m n (Some batch) is = absurd cc

delivers_none : {S : Type 0} (m : Meaning S) (n : Node S) → n.waiting ≡ None → delivers m n ≡ n
unfolding delivers
delivers_none m n free = nothing_waits m n n.waiting free

-- where no batch waits, a pass leaves the replica that an installation left
pub replica-installed : {S : Type 0} (m : Meaning S) (n : Node S) (cause : Cause) → (installs m n).waiting ≡ None → (pass (rules m) n cause []).0.replica ≡ (installs m n).replica
replica-installed {S = S} m n cause free =
    let i : Node S = installs m n in
    let same : (delivers m i).replica ≡ i.replica = ap (λ (x : Node S). x.replica) (delivers_none m i free) in
    replica-passed m n cause []
    ∙ by_delivery m (λ (x : Node S) (told : List Fired). x.replica ≡ i.replica) i cause (told_installed m n []) refl
    (by_mark m (λ (x : Node S). x.replica ≡ i.replica) (is_some i.waiting) (delivers m i) same (λ due. (leaves-mark m (delivers m i)).replica_is ∙ same))

-- the base behind what a pass told
abbrev BaseBehind : {S : Type 0} → Replica S → List Fired → Node S → Replica S
BaseBehind base fired n = cond (has_installed fired) n.replica base

ordered-made : {S : Type 0} (m : Meaning S) (base : Replica S) (n : Node S) (cause : Cause) → Made m n → Ordered m base n
    → Ordered m (BaseBehind base (pass (rules m) n cause []).1 (pass (rules m) n cause []).0) (pass (rules m) n cause []).0
ordered-made {S = S} m base n cause (made_none same none) o =
    let b = told-behind m n cause in
    let quiet : has_installed (pass (rules m) n cause []).1 ≡ false =
    none_installed (pass (rules m) n cause []).1 (subst (λ (fs : List Fired). Each IsNoBase fs) (sym b.is) (each_append IsNoBase (told_installed m n []) b.rest none b.none)) in
    subst (λ (t : Bool). Ordered m (cond t (pass (rules m) n cause []).0.replica base) (pass (rules m) n cause []).0) (sym quiet) (ordered-behind m base n cause (ordered-kept m base n same o))
ordered-made {S = S} m base n cause (made_new place at later free more told none) o =
    let b = told-behind m n cause in
    let fired : (pass (rules m) n cause []).1 ≡ fires.Installed place ∷ (more ++ b.rest) = b.is ∙ ap (λ (fs : List Fired). fs ++ b.rest) told in
    let taken : has_installed (pass (rules m) n cause []).1 ≡ true = ap has_installed fired in
    let free_behind : (installs m n).waiting ≡ None = (takes-installs m n).waits ∙ free in
    subst (λ (t : Bool). Ordered m (cond t (pass (rules m) n cause []).0.replica base) (pass (rules m) n cause []).0) (sym taken)
    (subst (λ (r : Replica S). Ordered m r (pass (rules m) n cause []).0) (sym (replica-installed m n cause free_behind))
    (ordered-behind m (installs m n).replica n cause (ordered-taken m base n place at later free o)))

-- ---- a step

ordered-passed : {S : Type 0} (m : Meaning S) (base : Replica S) (t : Taken S) (why : Option Why) → Ordered m base t.node
    → Ordered m (BaseBehind base (passed m t why).fired (passed m t why).node) (passed m t why).node
ordered-passed m base t None o = ordered-made m base t.node t.cause (made_of m t.node) o
ordered-passed m base t (Some why) o = o

pub ordered-step : {S : Type 0} (m : Meaning S) (base : Replica S) (n : Node S) (event : NodeEvent) → Ordered m base n → Ordered m (base_after m base n event) (step_of m n event).node
unfolding step_of
ordered-step m base n event o = ordered-passed m base (takes_in n event) (takes_in n event).dropped (ordered-takes_in m base n event o)

-- whatever comes, a node delivers in order
pub ordered_after : {S : Type 0} (m : Meaning S) (base : Replica S) (n : Node S) (events : List NodeEvent) → Ordered m base n → Ordered m (base_of m base n events) (node_after m n events)
ordered_after m base n [] o = o
ordered_after m base n (e ∷ es) o = ordered_after m (base_after m base n e) (step_of m n e).node es (ordered-step m base n e o)

-- an opened node has nothing to deliver
pub ordered-opened : {S : Type 0} (m : Meaning S) (o : Outset S) → Ordered m o.replica (opened o)
ordered-opened m o = record { order = record { count = 0; place = omega arith; replica = refl; waiting = refl; all = omega arith }; none = λ past low. refl }
