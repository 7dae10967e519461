-- Each rule by which the regency changes, on what is needed.
use Rattle.std.proofs.Common.{◌≡◌, ◌++◌, not, Bool, true, false, List, [], ◌∷◌, refl, ap, ◌∙◌, cond, arith, Option, Some, None}
use Rattle.std.proofs.lemmas.Bool.{and_parts}
use Rattle.smart_statements.specs.Forms.{SignedBy}
use Rattle.smart_statements.specs.declared.statement.Request.{Request}
use Rattle.smart_statements.specs.declared.report.Report.{Report}
use Rattle.smart_messages.specs.declared.regency.Sync.{Sync}
use Rattle.vote_book.specs.declared.entry.LogEntry.TheVariants.{Promised, Synced}
use Rattle.regency_sync.specs.Synchronizers.{needs_sync, is_joining, is_promising, collecting}
use Rattle.regency_sync.proofs.Lists.{find_filter}
use Rattle.regency_sync.proofs.Needs.{join_same, promise_same as promise_due, collecting_same}
use Rattle.node_rules.specs.Nodes.{Node, view_of, regency_of, start_of, is_begun, decided_place, synchronizer_of}
use Rattle.node_rules.specs.Changes.{start_by_sync, promised_for, adopts_by, is_adoptable, adoption, adopts, asks_next, joining, joins, report_of, reported_by, next_promise, promising, promise_next, promises, leading, lead_with, leads, lags, asks_state, timing, passes_on, presses, times}
use Rattle.node_rules.specs.Kept.{trimmed}
use Rattle.kept_arrivals.proofs.Needed.{trimmed_behind, trimmed_twice, regency_grows}
use Rattle.kept_arrivals.proofs.Rules.{exactly, synchronizer_same}

pub trimmed-if : {S : Type 0} (test : Bool) (x y : Node S) → cond test (trimmed x) (trimmed y) ≡ trimmed (cond test x y)
trimmed-if true x y = refl
trimmed-if false x y = refl

-- ADOPT

pub adoption_same : {S : Type 0} (n : Node S) → adoption (trimmed n) ≡ adoption n
unfolding adoption trimmed regency_of
adoption_same n =
    find_filter (is_adoptable n) (needs_sync (view_of n).number (regency_of n))
    (λ x is. (and_parts (needs_sync (view_of n).number (regency_of n) x) (not (is_begun n x.statement.regency)) is).0) n.syncs

adopt_same-by : {S : Type 0} (n : Node S) (found : Option (SignedBy Sync)) → trimmed (adopts_by (trimmed n) found) ≡ trimmed (adopts_by n found)
unfolding adopts_by trimmed regency_of
adopt_same-by n None = trimmed_twice n
adopt_same-by n (Some sync) =
    trimmed_behind (decided_place n) (regency_of n) (adopts_by n (Some sync)) (omega arith)
    (omega (
      arith,
      regency_grows (view_of n).number n.entries (promised_for n sync.statement),
      regency_grows (view_of n).number (n.entries ++ promised_for n sync.statement) (Synced (start_by_sync sync.statement) ∷ []),
    ))

pub adopts_same : {S : Type 0} (n : Node S) → trimmed (adopts (trimmed n)) ≡ trimmed (adopts n)
unfolding adopts
adopts_same n = ap (λ found. trimmed (adopts_by (trimmed n) found)) (adoption_same n) ∙ adopt_same-by n (adoption n)

-- JOIN

asks_same : {S : Type 0} (n : Node S) → asks_next (trimmed n) ≡ trimmed (asks_next n)
unfolding trimmed regency_of
asks_same n = refl

pub joining_same : {S : Type 0} (n : Node S) → joining (trimmed n) ≡ joining n
unfolding joining trimmed
joining_same n = ap (λ s. is_joining (view_of n) s) (synchronizer_same n) ∙ join_same (view_of n) (synchronizer_of n)

joins_exact : {S : Type 0} (n : Node S) → joins (trimmed n) ≡ trimmed (joins n)
unfolding joins
joins_exact n =
    ap (λ test. cond test (asks_next (trimmed n)) (trimmed n)) (joining_same n)
    ∙ (ap (λ x. cond (joining n) x (trimmed n)) (asks_same n) ∙ trimmed-if (joining n) (asks_next n) n)

pub joins_same : {S : Type 0} (n : Node S) → trimmed (joins (trimmed n)) ≡ trimmed (joins n)
joins_same n = exactly joins joins_exact n

-- PROMISE

pub next_promise_same : {S : Type 0} (n : Node S) → next_promise (trimmed n) ≡ next_promise n
unfolding trimmed regency_of
next_promise_same n = refl

pub promising_same : {S : Type 0} (n : Node S) → promising (trimmed n) ≡ promising n
unfolding promising trimmed
promising_same n = ap (λ s. is_promising (view_of n) s) (synchronizer_same n) ∙ promise_due (view_of n) (synchronizer_of n)

promise_next_same : {S : Type 0} (n : Node S) → trimmed (promise_next (trimmed n)) ≡ trimmed (promise_next n)
unfolding promise_next reported_by report_of trimmed regency_of
promise_next_same n =
    trimmed_behind (decided_place n) (regency_of n) (promise_next n) (omega arith) (regency_grows (view_of n).number n.entries (Promised (next_promise n) ∷ []))

promise_same : {S : Type 0} (n : Node S) (test : Bool) → trimmed (cond test (promise_next (trimmed n)) (trimmed n)) ≡ trimmed (cond test (promise_next n) n)
promise_same n true = promise_next_same n
promise_same n false = trimmed_twice n

pub promises_same : {S : Type 0} (n : Node S) → trimmed (promises (trimmed n)) ≡ trimmed (promises n)
unfolding promises
promises_same n = ap (λ test. trimmed (cond test (promise_next (trimmed n)) (trimmed n))) (promising_same n) ∙ promise_same n (promising n)

-- LEAD

pub leading_same : {S : Type 0} (n : Node S) → leading (trimmed n) ≡ leading n
unfolding leading trimmed
leading_same n = ap (λ s. collecting (view_of n) s) (synchronizer_same n) ∙ collecting_same (view_of n) (synchronizer_of n)

lead_same : {S : Type 0} (n : Node S) (found : Option (List (SignedBy Report))) → lead_with (trimmed n) found ≡ trimmed (lead_with n found)
unfolding lead_with trimmed regency_of
lead_same n None = refl
lead_same n (Some collect) = refl

leads_exact : {S : Type 0} (n : Node S) → leads (trimmed n) ≡ trimmed (leads n)
unfolding leads
leads_exact n = ap (λ found. lead_with (trimmed n) found) (leading_same n) ∙ lead_same n (leading n)

pub leads_same : {S : Type 0} (n : Node S) → trimmed (leads (trimmed n)) ≡ trimmed (leads n)
leads_same n = exactly leads leads_exact n

-- TIME

pub timing_same : {S : Type 0} (n : Node S) → timing (trimmed n) ≡ timing n
unfolding timing trimmed regency_of start_of
timing_same n = refl

passes_on_same : {S : Type 0} (n : Node S) (requests : List (SignedBy Request)) → passes_on (trimmed n) requests ≡ trimmed (passes_on n requests)
unfolding trimmed regency_of
passes_on_same n [] = refl
passes_on_same n (q ∷ qs) = refl

press_same : {S : Type 0} (n : Node S) (test : Bool)
    → cond test (asks_next (trimmed n)) (passes_on (record (trimmed n) { impatient = true }) n.pool) ≡ trimmed (cond test (asks_next n) (passes_on (record n { impatient = true }) n.pool))
unfolding trimmed regency_of
press_same n true = asks_same n
press_same n false = passes_on_same (record n { impatient = true }) n.pool

asks_state_same : {S : Type 0} (n : Node S) → asks_state (trimmed n) ≡ trimmed (asks_state n)
unfolding asks_state trimmed regency_of
asks_state_same n = refl

presses_same : {S : Type 0} (n : Node S) → presses (trimmed n) ≡ trimmed (presses n)
unfolding presses trimmed regency_of
presses_same n = press_same n n.impatient

lags_same : {S : Type 0} (n : Node S) → lags (trimmed n) ≡ lags n
unfolding trimmed
lags_same n = refl

times_exact : {S : Type 0} (n : Node S) → times (trimmed n) ≡ trimmed (times n)
unfolding times
times_exact {S = S} n =
    let pressed : Node S = cond (timing n) (presses n) n in
    let presses_is : cond (timing (trimmed n)) (presses (trimmed n)) (trimmed n) ≡ trimmed pressed =
    ap (λ test. cond test (presses (trimmed n)) (trimmed n)) (timing_same n)
    ∙ (ap (λ x. cond (timing n) x (trimmed n)) (presses_same n) ∙ trimmed-if (timing n) (presses n) n) in
    ap (λ test. cond test (asks_state (trimmed n)) (cond (timing (trimmed n)) (presses (trimmed n)) (trimmed n))) (lags_same n)
    ∙ (ap (λ x. cond (lags n) (asks_state (trimmed n)) x) presses_is
    ∙ (ap (λ x. cond (lags n) x (trimmed pressed)) (asks_state_same n) ∙ trimmed-if (lags n) (asks_state n) pressed))

pub times_same : {S : Type 0} (n : Node S) → trimmed (times (trimmed n)) ≡ trimmed (times n)
times_same n = exactly times times_exact n
