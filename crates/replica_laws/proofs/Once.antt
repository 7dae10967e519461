-- A node accepts once for each slot.
use Rattle.std.proofs.Common.{◌≡◌, ℕ, ◌+◌, ◌≤◌, ◌++◌, Bool, true, false, not, List, [], ◌∷◌, refl, ap, arith, cond, nat_lt, Option, Some, None, is_some, subst, sym, append-nil}
use Rattle.std.specs.List.{list_any}
use Rattle.smart_statements.specs.Forms.{SignedBy}
use Rattle.smart_statements.specs.Equality.{same_slot}
use Rattle.smart_statements.specs.declared.statement.Slot.{Slot}
use Rattle.smart_messages.specs.declared.regency.Sync.{Sync}
use Rattle.smart_messages.specs.declared.message.Proposed.{Proposed}
use Rattle.smart_statements.specs.declared.entry.NodeEvent.{NodeEvent}
use Rattle.smart_service.specs.Services.{Meaning}
use Rattle.vote_book.specs.Admission.{accepts_in}
use Rattle.vote_book.specs.declared.entry.Accept.{Accept}
use Rattle.vote_book.specs.declared.entry.Decision.{Decision}
use Rattle.vote_book.specs.declared.entry.Promise.{Promise}
use Rattle.vote_book.specs.declared.entry.Start.{Start}
use Rattle.vote_book.specs.declared.entry.LogEntry.{LogEntry}
use Rattle.vote_book.specs.declared.entry.LogEntry.TheVariants.{Wrote, Accepted, Promised, Synced, Decided, Installed, Marked}
use Rattle.node_rules.specs.Rules.{delivers, proposes, writing, write_batch, writes, accepting, accept_batch, accepts, deciding, decide_batch, decides, answers_again}
use Rattle.node_rules.specs.Marks.{mark_of, mark_place}
use Rattle.node_rules.specs.Nodes.{Node, regency_of, is_open, open_slot}
use Rattle.node_rules.specs.Arrivals.{kept, noted}
use Rattle.node_rules.specs.Changes.{start_by_sync, promised_for, adopts_by, adoption, adopts, joins, next_promise, promising, promise_next, promises, leads, times}
use Rattle.node_rules.specs.Kept.{node_after}
use Rattle.node_rules.specs.Steps.{step_of}
use Rattle.replica_laws.specs.Books.{passing, AcceptsOnce}
use Rattle.node_rules.proofs.Rulewise.{KeptByRules, KeptInSteps, free-event, keeps_step}
use Rattle.node_rules.proofs.Entries.{kept_same, delivers_same, proposes_same, joins_same, leads_same, times_same, noted_same, answers_again_same, answers_state_same, plans_same}
use Rattle.node_rules.specs.Transfers.{answers_state, plans}
use Rattle.replica_laws.proofs.Installs.{book-installs}
use Rattle.smart_base.proofs.SameLists.{and_true}
use Rattle.agreement_laws.proofs.Lists.{not_true, either}
use Rattle.vote_book.proofs.Tested.{slot_is}
use Rattle.node_rules.proofs.Options.{guard_passed}
use Rattle.std.proofs.lemmas.Bool.{or_parts}

-- rules that record entries

-- what one more promise and one more beginning leave, the adoption of a beginning leaves
pub entries_adopted : {S : Type 0} (P : List LogEntry → Type 0) → ((es : List LogEntry) (p : Promise) → P es → P (es ++ Promised p ∷ []))
    → ((es : List LogEntry) (s : Start) → P es → P (es ++ Synced s ∷ [])) → (n : Node S) (sync : Option (SignedBy Sync)) → P n.entries → P (adopts_by n sync).entries
unfolding adopts_by
entries_adopted P promised synced n None is = is
entries_adopted P promised synced n (Some sync) is =
    synced (n.entries ++ promised_for n sync.statement) (start_by_sync sync.statement)
    (either (λ (more : List LogEntry). P (n.entries ++ more)) (nat_lt (regency_of n) sync.statement.regency) _ [] (promised n.entries _ is) (subst P (sym (append-nil n.entries)) is))

-- how many pass with one more at the end
pub passing-end : {A : Type 0} (p : A → Bool) (xs : List A) (x : A) → passing p (xs ++ x ∷ []) ≡ passing p xs + passing p (x ∷ [])
passing-end p [] x = omega arith
passing-end p (y ∷ xs) x = omega (arith, passing-end p xs x)

-- a test counted
abbrev pub passed : Bool → ℕ
passed b = cond b 1 0

-- an entry that accepts nothing
pub once_more : (entries : List LogEntry) (entry : LogEntry) → ((slot : Slot) → accepts_in slot entry ≡ false) → AcceptsOnce entries → AcceptsOnce (entries ++ entry ∷ [])
once_more entries entry none once slot = omega (arith, passing-end (accepts_in slot) entries entry, ap (λ b. passed b) (none slot), once slot)

-- where none passes, the count is 0
pub none_passes : {A : Type 0} (p : A → Bool) (xs : List A) → list_any p xs ≡ false → passing p xs ≡ 0
none_passes p [] none = refl
none_passes p (x ∷ xs) none =
    let parts = or_parts (p x) (list_any p xs) none in
    omega (arith, ap (λ b. passed b) parts.0, none_passes p xs parts.1)

-- an entry that accepts at a slot where none was accepted
pub once_accepted : (entries : List LogEntry) (a : Accept) → list_any (accepts_in a.slot) entries ≡ false → AcceptsOnce entries → AcceptsOnce (entries ++ Accepted a ∷ [])
once_accepted entries a none once other = rw passing-end (cases (same_slot a.slot other) refl)
  where
    cases : (b : Bool) → same_slot a.slot other ≡ b → passing (accepts_in other) entries + (cond b 1 0 + 0) ≤ 1
    cases true is = rw (← slot_is a.slot other is) (omega (arith, none_passes (accepts_in a.slot) entries none))
    cases false is = omega (arith, once other)

-- a node whose book accepts once for each slot
abbrev pub Once : {S : Type 0} → Node S → Type 0
Once n = AcceptsOnce n.entries

-- a node with the same book
pub once_as : {S : Type 0} (n n' : Node S) → n'.entries ≡ n.entries → Once n → Once n'
once_as n n' same once slot = rw same (once slot)

-- nor does a beginning that is adopted accept anything
once-adopts : {S : Type 0} (n : Node S) → Once n → Once (adopts n)
unfolding adopts
once-adopts n once =
    entries_adopted AcceptsOnce (λ es p is. once_more es (Promised p) (λ slot. refl) is) (λ es s is. once_more es (Synced s) (λ slot. refl) is) n (adoption n) once

-- nor does a promise
once-promises : {S : Type 0} (n : Node S) → Once n → Once (promises n)
unfolding promises promise_next
once-promises {S = S} n once =
    either (λ (x : Node S). Once x) (promising n) (promise_next n) n (once_more n.entries (Promised (next_promise n)) (λ slot. refl) once) once

-- a batch that is written accepts nothing
once-write_batch : {S : Type 0} (n : Node S) (p : Option Proposed) → Once n → Once (write_batch n p)
unfolding write_batch
once-write_batch n None once = once
once-write_batch n (Some p) once = once_more n.entries (Wrote (record { slot = open_slot n; digest = p.head.statement.digest })) (λ slot. refl) once

-- a batch that is decided accepts nothing
once-decide_batch : {S : Type 0} (n : Node S) (decision : Option Decision) → Once n → Once (decide_batch n decision)
unfolding decide_batch
once-decide_batch n None once = once
once-decide_batch n (Some d) once = once_more n.entries (Decided d) (λ slot. refl) once

-- a batch is accepted only where none was
once-accept_batch : {S : Type 0} (n : Node S) (p : Option Proposed) → (is_some p ≡ true → list_any (accepts_in (open_slot n)) n.entries ≡ false) → Once n → Once (accept_batch n p)
unfolding accept_batch
once-accept_batch n None none once = once
once-accept_batch n (Some p) none once = once_accepted n.entries _ (none refl) once

-- a node accepts where its book has not
pub accepts_where_none : {S : Type 0} (n : Node S) → is_some (accepting n) ≡ true → list_any (accepts_in (open_slot n)) n.entries ≡ false
unfolding accepting
accepts_where_none n some =
    not_true _ (and_true (is_open n) (not (list_any (accepts_in (open_slot n)) n.entries)) (guard_passed _ _ some)).1

once-mark : {S : Type 0} (m : Meaning S) (n : Node S) → Once n → Once (mark_place m n)
unfolding mark_place
once-mark m n once = once_more n.entries (Marked (mark_of m n)) (λ slot. refl) once

once-writes : {S : Type 0} (n : Node S) → Once n → Once (writes n)
unfolding writes
once-writes n once = once-write_batch n (writing n) once

once-accepts : {S : Type 0} (n : Node S) → Once n → Once (accepts n)
unfolding accepts
once-accepts n once = once-accept_batch n (accepting n) (accepts_where_none n) once

once-decides : {S : Type 0} (n : Node S) → Once n → Once (decides n)
unfolding decides
once-decides n once = once-decide_batch n (deciding n) once

once-rules : {S : Type 0} → KeptByRules {S = S} (λ n. Once n)
once-rules {S} = record {
  by_adopts = λ n once. once-adopts n once;
  by_joins = λ n once. once_as n (joins n) (joins_same n) once;
  by_promises = λ n once. once-promises n once;
  by_leads = λ n once. once_as n (leads n) (leads_same n) once;
  by_proposes = λ n once. once_as n (proposes n) (proposes_same n) once;
  by_writes = λ n once. once-writes n once;
  by_accepts = λ n once. once-accepts n once;
  by_decides = λ n once. once-decides n once;
  by_times = λ n once. once_as n (times n) (times_same n) once;
  by_answers = λ n asked once. once_as n (answers_again n asked) (answers_again_same n asked) once;
  by_states = λ n a once. once_as n (answers_state n a) (answers_state_same n a) once;
  by_plans = λ n once. once_as n (plans n) (plans_same n) once;
}

once-in_steps : {S : Type 0} (m : Meaning S) → KeptInSteps m (λ n. Once n) (λ message. Unit {0})
once-in_steps m = record {
  by_rules = once-rules;
  by_noted = λ n message once. once_as n (noted n message) (noted_same n message) once;
  by_kept = λ n message fine may once. once_as n (kept n message) (kept_same n message) once;
  by_installs = λ n once. book-installs m n (λ (es : List LogEntry). AcceptsOnce es) (λ es i all. once_more es (Installed i) (λ slot. refl) all) once;
  by_delivers = λ n once. once_as n (delivers m n) (delivers_same m n) once;
  by_marks = λ n waits once delivered. once-mark m (delivers m n) delivered;
  by_firm = λ x count once. once;
}

-- a step
once-step : {S : Type 0} (m : Meaning S) (n : Node S) (event : NodeEvent) → Once n → Once (step_of m n event).node
once-step m n event once = keeps_step m (λ n. Once n) (λ message. Unit {0}) n event (once-in_steps m) (free-event event) once

-- whatever comes, a node accepts once for each slot
pub once_after : {S : Type 0} (m : Meaning S) (n : Node S) (events : List NodeEvent) → AcceptsOnce n.entries → AcceptsOnce (node_after m n events).entries
once_after m n [] once = once
once_after m n (e ∷ es) once = once_after m (step_of m n e).node es (once-step m n e once)
