-- No step begins a regency that the book has begun.
use Rattle.std.proofs.Common.{◌≡◌, ℕ, ◌≤◌, ◌++◌, ◌==◌, Bool, true, false, not, List, [], ◌∷◌, refl, ap, arith, cond, nat_lt, max, Option, Some, None, is_some, ◌∙◌, subst, sym, append-nil, eqb-true}
use Rattle.std.specs.Prelude.{find, IfSome}
use Rattle.smart_base.specs.Lists.{or_else}
use Rattle.smart_base.specs.Views.{View}
use Rattle.smart_statements.specs.Forms.{SignedBy}
use Rattle.smart_messages.specs.declared.regency.Sync.{Sync}
use Rattle.smart_messages.specs.declared.message.Proposed.{Proposed}
use Rattle.smart_statements.specs.declared.entry.NodeEvent.{NodeEvent}
use Rattle.smart_service.specs.Services.{Meaning}
use Rattle.vote_book.specs.Standing.{first_start, start_by}
use Rattle.vote_book.specs.declared.entry.Decision.{Decision}
use Rattle.vote_book.specs.declared.entry.Start.{Start}
use Rattle.vote_book.specs.declared.entry.LogEntry.{LogEntry}
use Rattle.vote_book.specs.declared.entry.LogEntry.TheVariants.{Wrote, Promised, Synced, Decided, Installed, Marked}
use Rattle.regency_sync.specs.Synchronizers.{needs_sync}
use Rattle.node_rules.specs.Rules.{delivers, proposes, writing, write_batch, writes, accepting, accept_batch, accepts, deciding, decide_batch, decides, answers_again}
use Rattle.node_rules.specs.Marks.{mark_of, mark_place}
use Rattle.node_rules.specs.Nodes.{Node, view_of, regency_of, open_slot, view_start, start_at, is_begun}
use Rattle.node_rules.specs.Arrivals.{kept, noted}
use Rattle.node_rules.specs.Changes.{start_by_sync, promised_for, adopts_by, is_adoptable, adoption, adopts, joins, next_promise, promising, promise_next, promises, leads, times}
use Rattle.node_rules.specs.Kept.{node_after}
use Rattle.node_rules.specs.Reopening.{reopened}
use Rattle.node_rules.specs.Steps.{step_of, Outset, opened}
use Rattle.node_laws.proofs.Reopened.{reopened_is}
use Rattle.replica_laws.specs.Books.{passing, begins}
use Rattle.replica_laws.proofs.Once.{passing-end, passed}
use Rattle.node_rules.proofs.Rulewise.{KeptByRules, KeptInSteps, free-event, keeps_step}
use Rattle.node_rules.proofs.Entries.{kept_same, delivers_same, proposes_same, joins_same, leads_same, times_same, noted_same, answers_again_same, answers_state_same, plans_same}
use Rattle.node_rules.specs.Transfers.{answers_state, plans}
use Rattle.replica_laws.proofs.Installs.{book-installs}
use Rattle.smart_base.proofs.SameLists.{and_true}
use Rattle.agreement_laws.proofs.Lists.{not_true, either, either_by}

-- of each regency a book tells of no more beginnings than a bound

abbrev Within : (ℕ → ℕ → ℕ) → List LogEntry → Type 0
Within bound entries = (view regency : ℕ) → passing (begins view regency) entries ≤ bound view regency

-- an entry that begins nothing
within-more : (bound : ℕ → ℕ → ℕ) (entries : List LogEntry) (entry : LogEntry) → ((view regency : ℕ) → begins view regency entry ≡ false) → Within bound entries → Within bound (entries ++ entry ∷ [])
within-more bound entries entry none is view regency = omega (arith, passing-end (begins view regency) entries entry, ap (λ b. passed b) (none view regency), is view regency)

within-as : (bound : ℕ → ℕ → ℕ) (es es' : List LogEntry) → es' ≡ es → Within bound es → Within bound es'
within-as bound es es' same is = subst (Within bound) (sym same) is

-- a beginning

-- neither of two is there
neither : {A : Type 0} (one rest : Option A) → is_some (or_else one rest) ≡ false → (is_some one ≡ false) × (is_some rest ≡ false)
neither None rest none = (refl, none)
neither (Some x) rest none = absurd (cc)

-- where no entry begins a regency, none is counted
none-begins : (view regency : ℕ) (es : List LogEntry) → is_some (first_start view regency es) ≡ false → passing (begins view regency) es ≡ 0
none-begins view regency [] none = refl
none-begins view regency (e ∷ es) none =
    let parts = neither (start_by view regency e) (first_start view regency es) none in
    omega (arith, ap (λ b. passed b) parts.0, none-begins view regency es parts.1)

-- a regency that has not begun, is begun by no entry
not-begun : (v : View) (regency : ℕ) (es : List LogEntry) → is_some (start_at v regency es) ≡ false → is_some (first_start v.number regency es) ≡ false
not-begun v regency es none = other (regency == 0) (view_start v) (first_start v.number regency es) none
  where
    other : (t : Bool) (x : Start) (o : Option Start) → is_some (cond t (Some x) o) ≡ false → is_some o ≡ false
    other true x o none = absurd (cc)
    other false x o none = none

-- a beginning of another regency counts nothing, and one of this regency counts once
one-more : (bound : ℕ → ℕ → ℕ) → ((view regency : ℕ) → 1 ≤ bound view regency) → (es : List LogEntry) (s : Start) → passing (begins s.view s.regency) es ≡ 0 → Within bound es → Within bound (es ++ Synced s ∷ [])
one-more bound some es s none is view regency = by (s.view == view) (s.regency == regency) refl refl
  where
    by : (t u : Bool) → (s.view == view) ≡ t → (s.regency == regency) ≡ u → passing (begins view regency) (es ++ Synced s ∷ []) ≤ bound view regency
    by true true v r =
        let here : passing (begins view regency) es ≡ 0 =
        subst (λ (k : ℕ). passing (begins k regency) es ≡ 0) (eqb-true s.view view v) (subst (λ (k : ℕ). passing (begins s.view k) es ≡ 0) (eqb-true s.regency regency r) none) in
        let ends : passing (begins view regency) (Synced s ∷ []) ≡ 1 = rw (v, r) refl in
        omega (arith, passing-end (begins view regency) es (Synced s), here, ends, some view regency)
    by true false v r = let ends : passing (begins view regency) (Synced s ∷ []) ≡ 0 = rw (v, r) refl in omega (arith, passing-end (begins view regency) es (Synced s), ends, is view regency)
    by false u v r = let ends : passing (begins view regency) (Synced s ∷ []) ≡ 0 = rw v refl in omega (arith, passing-end (begins view regency) es (Synced s), ends, is view regency)

-- rules

-- who may be adopted has not begun
record IsNew {S : Type 0} (n : Node S) (s : SignedBy Sync) : Type 0 where
  none : passing (begins s.statement.view s.statement.regency) n.entries ≡ 0

adoptable-new : {S : Type 0} (n : Node S) (s : SignedBy Sync) → is_adoptable n s ≡ true → IsNew n s
adoptable-new n s is =
    let parts = and_true (needs_sync (view_of n).number (regency_of n) s) (not (is_begun n s.statement.regency)) is in
    let same : s.statement.view ≡ (view_of n).number = eqb-true s.statement.view (view_of n).number (and_true (s.statement.view == (view_of n).number) _ parts.0).0 in
    record {
      none = subst (λ (k : ℕ). passing (begins k s.statement.regency) n.entries ≡ 0) (sym same)
          (none-begins (view_of n).number s.statement.regency n.entries (not-begun (view_of n) s.statement.regency n.entries (not_true (is_begun n s.statement.regency) parts.1)));
    }

-- what is found passes
found-passes : {A : Type 0} (P : A → Type 0) (p : A → Bool) → ((x : A) → p x ≡ true → P x) → (xs : List A) → IfSome (find p xs) P
found-passes P p passes [] = tt
found-passes {A = A} P p passes (x ∷ xs) =
    either_by (λ (o : Option A). IfSome o P) (p x) (Some x) (find p xs) (λ is. passes x is) (λ fails. found-passes P p passes xs)

-- a promise counts nothing
promised-same : {S : Type 0} (n : Node S) (s : Sync) (view regency : ℕ) → passing (begins view regency) (n.entries ++ promised_for n s) ≡ passing (begins view regency) n.entries
promised-same n s view regency =
    let p : LogEntry = Promised (record { view = s.view; regency = s.regency }) in
    either (λ (more : List LogEntry). passing (begins view regency) (n.entries ++ more) ≡ passing (begins view regency) n.entries) (nat_lt (regency_of n) s.regency) (p ∷ []) []
    (omega (arith, passing-end (begins view regency) n.entries p)) (ap (λ (es : List LogEntry). passing (begins view regency) es) (append-nil n.entries))

within-adopts_by : {S : Type 0} (bound : ℕ → ℕ → ℕ) → ((view regency : ℕ) → 1 ≤ bound view regency) → (n : Node S) (sync : Option (SignedBy Sync)) → IfSome sync (IsNew n) → Within bound n.entries
    → Within bound (adopts_by n sync).entries
unfolding adopts_by
within-adopts_by bound some n None new is = is
within-adopts_by bound some n (Some sync) new is =
    one-more bound some (n.entries ++ promised_for n sync.statement) (start_by_sync sync.statement) (promised-same n sync.statement sync.statement.view sync.statement.regency ∙ new.none)
    (λ view regency. omega (arith, promised-same n sync.statement view regency, is view regency))

within-adopts : {S : Type 0} (bound : ℕ → ℕ → ℕ) → ((view regency : ℕ) → 1 ≤ bound view regency) → (n : Node S) → Within bound n.entries → Within bound (adopts n).entries
unfolding adopts adoption
within-adopts bound some n is = within-adopts_by bound some n (find (is_adoptable n) n.syncs) (found-passes (IsNew n) (is_adoptable n) (adoptable-new n) n.syncs) is

within-promises : {S : Type 0} (bound : ℕ → ℕ → ℕ) (n : Node S) → Within bound n.entries → Within bound (promises n).entries
unfolding promises promise_next
within-promises {S = S} bound n is =
    either (λ (x : Node S). Within bound x.entries) (promising n) (promise_next n) n (within-more bound n.entries (Promised (next_promise n)) (λ view regency. refl) is) is

within-write_batch : {S : Type 0} (bound : ℕ → ℕ → ℕ) (n : Node S) (p : Option Proposed) → Within bound n.entries → Within bound (write_batch n p).entries
unfolding write_batch
within-write_batch bound n None is = is
within-write_batch bound n (Some p) is = within-more bound n.entries (Wrote (record { slot = open_slot n; digest = p.head.statement.digest })) (λ view regency. refl) is

within-accept_batch : {S : Type 0} (bound : ℕ → ℕ → ℕ) (n : Node S) (p : Option Proposed) → Within bound n.entries → Within bound (accept_batch n p).entries
unfolding accept_batch
within-accept_batch bound n None is = is
within-accept_batch bound n (Some p) is = within-more bound n.entries _ (λ view regency. refl) is

within-decide_batch : {S : Type 0} (bound : ℕ → ℕ → ℕ) (n : Node S) (decision : Option Decision) → Within bound n.entries → Within bound (decide_batch n decision).entries
unfolding decide_batch
within-decide_batch bound n None is = is
within-decide_batch bound n (Some d) is = within-more bound n.entries (Decided d) (λ view regency. refl) is

within-mark : {S : Type 0} (bound : ℕ → ℕ → ℕ) (m : Meaning S) (n : Node S) → Within bound n.entries → Within bound (mark_place m n).entries
unfolding mark_place
within-mark bound m n is = within-more bound n.entries (Marked (mark_of m n)) (λ view regency. refl) is

within-writes : {S : Type 0} (bound : ℕ → ℕ → ℕ) (n : Node S) → Within bound n.entries → Within bound (writes n).entries
unfolding writes
within-writes bound n is = within-write_batch bound n (writing n) is

within-accepts : {S : Type 0} (bound : ℕ → ℕ → ℕ) (n : Node S) → Within bound n.entries → Within bound (accepts n).entries
unfolding accepts
within-accepts bound n is = within-accept_batch bound n (accepting n) is

within-decides : {S : Type 0} (bound : ℕ → ℕ → ℕ) (n : Node S) → Within bound n.entries → Within bound (decides n).entries
unfolding decides
within-decides bound n is = within-decide_batch bound n (deciding n) is

within-rules : {S : Type 0} (bound : ℕ → ℕ → ℕ) → ((view regency : ℕ) → 1 ≤ bound view regency) → KeptByRules {S = S} (λ n. Within bound n.entries)
within-rules bound some = record {
  by_adopts = λ n is. within-adopts bound some n is;
  by_joins = λ n is. within-as bound n.entries (joins n).entries (joins_same n) is;
  by_promises = λ n is. within-promises bound n is;
  by_leads = λ n is. within-as bound n.entries (leads n).entries (leads_same n) is;
  by_proposes = λ n is. within-as bound n.entries (proposes n).entries (proposes_same n) is;
  by_writes = λ n is. within-writes bound n is;
  by_accepts = λ n is. within-accepts bound n is;
  by_decides = λ n is. within-decides bound n is;
  by_times = λ n is. within-as bound n.entries (times n).entries (times_same n) is;
  by_answers = λ n asked is. within-as bound n.entries (answers_again n asked).entries (answers_again_same n asked) is;
  by_states = λ n a is. within-as bound n.entries (answers_state n a).entries (answers_state_same n a) is;
  by_plans = λ n is. within-as bound n.entries (plans n).entries (plans_same n) is;
}

within-in_steps : {S : Type 0} (m : Meaning S) (bound : ℕ → ℕ → ℕ) → ((view regency : ℕ) → 1 ≤ bound view regency) → KeptInSteps m (λ n. Within bound n.entries) (λ message. Unit {0})
within-in_steps m bound some = record {
  by_rules = within-rules bound some;
  by_noted = λ n message is. within-as bound n.entries (noted n message).entries (noted_same n message) is;
  by_kept = λ n message fine may is. within-as bound n.entries (kept n message).entries (kept_same n message) is;
  by_installs = λ n is. book-installs m n (λ (es : List LogEntry). Within bound es) (λ es i w. within-more bound es (Installed i) (λ view regency. refl) w) is;
  by_delivers = λ n is. within-as bound n.entries (delivers m n).entries (delivers_same m n) is;
  by_marks = λ n waits is delivered. within-mark bound m (delivers m n) delivered;
  by_firm = λ x count same. same;
}

-- a step
within-step : {S : Type 0} (m : Meaning S) (bound : ℕ → ℕ → ℕ) → ((view regency : ℕ) → 1 ≤ bound view regency) → (n : Node S) (event : NodeEvent) → Within bound n.entries → Within bound (step_of m n event).node.entries
within-step m bound some n event is = keeps_step m (λ x. Within bound x.entries) (λ message. Unit {0}) n event (within-in_steps m bound some) (free-event event) is

-- whatever comes
within_after : {S : Type 0} (m : Meaning S) (bound : ℕ → ℕ → ℕ) → ((view regency : ℕ) → 1 ≤ bound view regency) → (n : Node S) (events : List NodeEvent) → Within bound n.entries → Within bound (node_after m n events).entries
within_after m bound some n [] is = is
within_after m bound some n (e ∷ es) is = within_after m bound some (step_of m n e).node es (within-step m bound some n e is)

-- no more than there were, or one
most : List LogEntry → ℕ → ℕ → ℕ
most entries view regency = max 1 (passing (begins view regency) entries)

most-some : (entries : List LogEntry) (view regency : ℕ) → 1 ≤ most entries view regency
unfolding most
most-some entries view regency = omega arith

most-own : (entries : List LogEntry) → Within (most entries) entries
unfolding most
most-own entries view regency = omega arith

pub begins-step : {S : Type 0} (m : Meaning S) (n : Node S) (event : NodeEvent) (view regency : ℕ)
    → passing (begins view regency) (step_of m n event).node.entries ≤ max 1 (passing (begins view regency) n.entries)
unfolding most
begins-step m n event view regency = within-step m (most n.entries) (most-some n.entries) n event (most-own n.entries) view regency

pub begins-opened : {S : Type 0} (m : Meaning S) (o : Outset S) (events : List NodeEvent) (number regency : ℕ)
    → passing (begins number regency) (node_after m (opened o) events).entries ≤ 1
begins-opened m o events number regency =
    within_after m (λ v r. 1) (λ v r. omega arith) (opened o) events (λ v r. omega arith) number regency

-- a node that goes on has the entries, or opens its book
book_reopened : {S : Type 0} (m : Meaning S) (o : Outset S) (entries : List LogEntry) → Within (most entries) (reopened m o entries).entries
unfolding reopened most
book_reopened m o [] v r = omega arith
book_reopened {S = S} m o (e ∷ es) v r =
    subst (λ (n : Node S). passing (begins v r) n.entries ≤ max 1 (passing (begins v r) (e ∷ es))) (sym (reopened_is m o e es)) (omega arith)

pub begins-reopened : {S : Type 0} (m : Meaning S) (o : Outset S) (entries : List LogEntry) (events : List NodeEvent) (number regency : ℕ)
    → passing (begins number regency) (node_after m (reopened m o entries) events).entries ≤ max 1 (passing (begins number regency) entries)
unfolding most
begins-reopened m o entries events number regency =
    within_after m (most entries) (most-some entries) (reopened m o entries) events (book_reopened m o entries) number regency
