-- A delivery that was executed and then told.
use Rattle.std.proofs.Common.{◌≡◌, ℕ, ◌==◌, ◌<◌, Bool, true, false, List, [], ◌∷◌, length, refl, ap, sym, subst, ◌∙◌, cond, arith, Option, Some, None, is_none}
use Rattle.std.proofs.lemmas.Bool.{eq-eqb}
use Rattle.std.proofs.lemmas.Bool.Decides.{nat_tests}
use Rattle.smart_base.specs.Views.{View, is_member, present}
use Rattle.smart_service.specs.Services.{Meaning}
use Rattle.smart_service.specs.declared.replica.Replica.{Replica}
use Rattle.smart_service.specs.declared.table.Execution.{Execution}
use Rattle.smart_statements.specs.Batches.{Batch}
use Rattle.replica_rules.specs.Pools.{settled}
use Rattle.replica_rules.specs.Replicas.{delivered, executed_lines}
use Rattle.delivery.specs.Moves.{HasBegun, IsBegun}
use Rattle.delivery.specs.declared.views.Begun.{Begun}
use Rattle.node_rules.specs.Nodes.{Node, view_of, next_place, stays_in_view, entered, informed}
use Rattle.node_rules.specs.Rules.{lines_to_answer, replies_with, replying, deliver_batch, delivery, delivers}
use Rattle.node_rules.specs.declared.node.Fired.{Fired}
use Rattle.node_rules.specs.declared.node.Fired.TheVariants as fires
use Rattle.node_replica.specs.Delivering.{executed, execution}
use Rattle.node_replica.specs.Begun.{number_begun, viewed}
use Rattle.node_replica.specs.declared.delivers.Executed.{Executed}
use Rattle.node_replica.proofs.Installing.{entered_here, entered_anew}
use Rattle.node_replica.proofs.Begun.{none_where, viewed_by}

pub entries_executed : {S : Type 0} (m : Meaning S) (n : Node S) (w : Option Batch) → (executed m n w).entries ≡ n.entries
unfolding executed
entries_executed m n None = refl
entries_executed m n (Some batch) = refl

-- a batch is executed

-- the node with the replica behind a batch, as it is where the view stays
abbrev pub behind : {S : Type 0} → Meaning S → Node S → Batch → Node S
behind m n batch = record n { replica = delivered m n.replica batch; waiting = None; pool = settled (delivered m n.replica batch).table n.pool; impatient = false }

pub executed_here : {S : Type 0} (m : Meaning S) (n now : Node S) (w : Option Batch) (batch : Batch) (views : List View) → w ≡ Some batch → now ≡ behind m n batch → views ≡ (delivered m n.replica batch).views
    → views ≡ n.replica.views → now ≡ executed m n w
unfolding executed
executed_here {S = S} m n now w batch views waits is made stays =
    let same : (delivered m n.replica batch).views ≡ n.replica.views = sym made ∙ stays in
    let here : ((view_of n).number == (present (delivered m n.replica batch).views).number) ≡ true = eq-eqb (view_of n).number (present (delivered m n.replica batch).views).number (ap (λ (vs : List View). (present vs).number) (sym same)) in
    is
    ∙ (sym (entered_here (behind m n batch))
    ∙ (sym (ap (λ (t : Bool). entered t (behind m n batch)) here)
    ∙ sym (ap (λ (o : Option Batch). executed m n o) waits)))

below : (a b : ℕ) → a < b → (a == b) ≡ false
below a b less = grind (arith, nat_tests, less)

pub executed_anew : {S : Type 0} (m : Meaning S) (n now : Node S) (w : Option Batch) (batch : Batch) (views : List View) (b : Begun) → w ≡ Some batch
    → now ≡ record (behind m n batch) { arrivals = []; stops = []; reports = []; syncs = []; proposed = []; stop_made = false; sync_made = false } → views ≡ (delivered m n.replica batch).views
    → HasBegun n.replica.views views b → now ≡ executed m n w
unfolding executed
executed_anew {S = S} m n now w batch views b waits is made begun =
    let later : (present n.replica.views).number < (present (delivered m n.replica batch).views).number = subst (λ (vs : List View). (present n.replica.views).number < (present vs).number) made begun.later in
    let anew : ((view_of n).number == (present (delivered m n.replica batch).views).number) ≡ false = below (present n.replica.views).number (present (delivered m n.replica batch).views).number later in
    is
    ∙ (sym (entered_anew (behind m n batch))
    ∙ (sym (ap (λ (t : Bool). entered t (behind m n batch)) anew)
    ∙ sym (ap (λ (o : Option Batch). executed m n o) waits)))

-- where no view began, the one in force stays
pub present_stays : (before now : List View) (b : Option Begun) → IsBegun before now b → b ≡ None → present now ≡ present before
present_stays before now None is none = ap (λ (vs : List View). present vs) is
present_stays before now (Some b) is none = absurd (cc)

-- ---- what it tells

-- views that stay begin none
pub number_none : (before now : List View) → now ≡ before → None ≡ number_begun before now
number_none before now stays =
    let here : ((present before).number == (present now).number) ≡ true = eq-eqb (present before).number (present now).number (ap (λ (vs : List View). (present vs).number) (sym stays)) in
    sym (ap (λ (t : Bool). cond t None (Some (present now).number)) here)

pub number_some : (before now : List View) (number : ℕ) (b : Begun) → number ≡ b.own.number → HasBegun before now b → Some number ≡ number_begun before now
number_some before now number b is begun =
    let anew : ((present before).number == (present now).number) ≡ false = below (present before).number (present now).number begun.later in
    ap (λ (k : ℕ). Some k) (is ∙ ap (λ (v : View). v.number) begun.own) ∙ sym (ap (λ (t : Bool). cond t None (Some (present now).number)) anew)

-- the event of a delivery, with its lines and the view that began
pub execution_is : {S : Type 0} (m : Meaning S) (n : Node S) (w : Option Batch) (batch : Batch) (place count : ℕ) (lines : List Execution) (begun : Option ℕ) → w ≡ Some batch → place ≡ next_place n → count ≡ length lines
    → lines ≡ executed_lines m n.replica batch → begun ≡ number_begun n.replica.views (delivered m n.replica batch).views
    → Some (record { delivery = record { place = place; batch = batch; executed = count }; lines = lines; begun = begun }) ≡ execution m n w
execution_is m n w batch place count lines begun waits at counted made begins = rw (waits, at, counted, made, begins) refl

-- nothing waits

none_by : {S : Type 0} (m : Meaning S) (n : Node S) (w : Option Batch) → None ≡ execution m n w → executed m n w ≡ deliver_batch m n w
unfolding executed deliver_batch
none_by m n None none = refl
none_by m n (Some batch) none = absurd (cc)

pub delivers_none : {S : Type 0} (m : Meaning S) (n now : Node S) → now ≡ executed m n n.waiting → None ≡ execution m n n.waiting → now ≡ delivers m n
unfolding delivers
delivers_none m n now is none = is ∙ none_by m n n.waiting none

pub tells_none : {S : Type 0} (m : Meaning S) (n : Node S) (w : Option Batch) → None ≡ execution m n w → [] ≡ delivery m n w
unfolding delivery
tells_none m n None none = refl
tells_none m n (Some batch) none = absurd (cc)

-- a batch waits

same_in : (x y : Executed) → Some x ≡ Some y → x ≡ y
same_in x y is = cc

answered_by : {S : Type 0} (n : Node S) (lines : List Execution) (t : Bool) → cond t (replying n lines) n ≡ replying n (cond t lines [])
answered_by n lines true = refl
answered_by n lines false = refl

-- replies leave the replica and the book as they are
replying_stays : {S : Type 0} (lines : List Execution) (n : Node S) → (replying n lines).replica ≡ n.replica
replying_stays [] n = refl
replying_stays (line ∷ lines) n = replying_stays lines (replies_with n line)

pub replying_entries : {S : Type 0} (lines : List Execution) (n : Node S) → (replying n lines).entries ≡ n.entries
replying_entries [] n = refl
replying_entries (line ∷ lines) n = replying_entries lines (replies_with n line)

replied_by : {S : Type 0} (m : Meaning S) (n now : Node S) (batch : Batch) (e : Executed) (answers : Bool) → now ≡ executed m n (Some batch) → e.lines ≡ executed_lines m n.replica batch → answers ≡ is_member (view_of n) n.id
    → replying now (cond answers e.lines []) ≡ replying (executed m n (Some batch)) (lines_to_answer m n batch)
replied_by {S = S} m n now batch e answers is lines at =
    ap (λ (x : Node S). replying x (cond answers e.lines [])) is
    ∙ (ap (λ (t : Bool). replying (executed m n (Some batch)) (cond t e.lines [])) at
    ∙ ap (λ (ls : List Execution). replying (executed m n (Some batch)) (cond (is_member (view_of n) n.id) ls [])) lines)

some_by : {S : Type 0} (m : Meaning S) (n now : Node S) (w : Option Batch) (e : Executed) (answers : Bool) → now ≡ executed m n w → Some e ≡ execution m n w → answers ≡ is_member (view_of n) n.id
    → informed (is_none e.begun) (replying now (cond answers e.lines [])) ≡ deliver_batch m n w
unfolding executed deliver_batch
some_by m n now None e answers is some at = absurd (cc)
some_by {S = S} m n now (Some batch) e answers is some at =
    let told : Node S = replying (executed m n (Some batch)) (lines_to_answer m n batch) in
    let begins : is_none e.begun ≡ stays_in_view n told =
    ap (λ (x : Executed). is_none x.begun) (same_in e _ some)
    ∙ (none_where ((view_of n).number == (present (delivered m n.replica batch).views).number) (present (delivered m n.replica batch).views).number
    ∙ sym (ap (λ (r : Replica S). (view_of n).number == (present r.views).number) (replying_stays (lines_to_answer m n batch) (executed m n (Some batch))))) in
    ap (λ (x : Node S). informed (is_none e.begun) x) (replied_by m n now batch e answers is (ap (λ (x : Executed). x.lines) (same_in e _ some)) at)
    ∙ ap (λ (t : Bool). informed t told) begins

pub delivers_some : {S : Type 0} (m : Meaning S) (n now later : Node S) (e : Executed) (answers : Bool) → now ≡ executed m n n.waiting → Some e ≡ execution m n n.waiting → answers ≡ is_member (view_of n) n.id
    → later ≡ informed (is_none e.begun) (cond answers (replying now e.lines) now) → later ≡ delivers m n
unfolding delivers
delivers_some {S = S} m n now later e answers is some at told =
    told ∙ (ap (λ (x : Node S). informed (is_none e.begun) x) (answered_by now e.lines answers) ∙ some_by m n now n.waiting e answers is some at)

pub tells_some : {S : Type 0} (m : Meaning S) (n : Node S) (w : Option Batch) (e : Executed) → Some e ≡ execution m n w → fires.Delivered e.delivery ∷ viewed e.begun ≡ delivery m n w
unfolding delivery
tells_some m n None e some = absurd (cc)
tells_some m n (Some batch) e some =
    ap (λ (x : Executed). fires.Delivered x.delivery ∷ viewed x.begun) (same_in e _ some)
    ∙ ap (λ (more : List Fired). fires.Delivered (record { place = next_place n; batch = batch; executed = length (executed_lines m n.replica batch) }) ∷ more) (viewed_by n.replica.views (delivered m n.replica batch).views)
