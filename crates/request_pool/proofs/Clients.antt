-- A client has one request in a pool.
use Rattle.std.proofs.Common.{◌≡◌, ℕ, ◌==◌, ◌||◌, Bool, true, false, List, [], ◌∷◌, refl, ap, sym, ◌∙◌, cond, ⊎_elim, subst}
use Rattle.std.proofs.lemmas.Bool.{eqb-true, eqb-false, ne_eqb}
use Rattle.std.specs.Prelude.{filter}
use Rattle.std.specs.List.{list_any}
use Rattle.smart_base.specs.Lists.{Distinct}
use Rattle.smart_statements.specs.Forms.{SignedBy}
use Rattle.smart_statements.specs.declared.statement.Request.{Request}
use Rattle.replica_rules.specs.Pools.{offered}
use Rattle.request_pool.specs.Offers.{clients_of}
use Rattle.request_pool.specs.Orders.{IsSubsequence}

or_false : (a b : Bool) → (a || b) ≡ false → (a ≡ false) × (b ≡ false)
or_false true b is = absurd (cc)
or_false false b is = (refl, is)

-- a client of none of the requests
abbrev Lacks : ℕ → List (SignedBy Request) → Type 0
Lacks client pool = list_any (λ y. y == client) (clients_of pool) ≡ false

lacks_by : (client : ℕ) (old q : SignedBy Request) (olds pool : List (SignedBy Request)) (b : Bool)
    → (q.statement.client == client) ≡ false → (old.statement.client == client) ≡ false → Lacks client olds → Lacks client pool → Lacks client (cond b (q ∷ olds) (old ∷ pool))
lacks_by client old q olds pool true new had rest more = rw new rest
lacks_by client old q olds pool false new had rest more = rw had more

lacks_offered : (client : ℕ) (pool : List (SignedBy Request)) (q : SignedBy Request) → (q.statement.client == client) ≡ false → Lacks client pool → Lacks client (offered pool q)
lacks_offered client [] q new lacks = rw new refl
lacks_offered client (old ∷ olds) q new lacks =
    let parts = or_false (old.statement.client == client) (list_any (λ y. y == client) (clients_of olds)) lacks in
    lacks_by client old q olds (offered olds q) (old.statement.client == q.statement.client) new parts.0 parts.1 (lacks_offered client olds q new parts.1)

turned_false : (a b : ℕ) → (a == b) ≡ false → (b == a) ≡ false
turned_false a b is = ne_eqb b a (λ same. eqb-false a b is (sym same))

distinct_by : (old q : SignedBy Request) (olds : List (SignedBy Request)) (b : Bool) → (old.statement.client == q.statement.client) ≡ b
    → Distinct (clients_of (old ∷ olds)) → Distinct (clients_of (offered olds q)) → Distinct (clients_of (cond b (q ∷ olds) (old ∷ offered olds q)))
distinct_by old q olds true is one rest =
    (ap (λ k. list_any (λ y. y == k) (clients_of olds)) (sym (eqb-true old.statement.client q.statement.client is)) ∙ one.0, one.1)
distinct_by old q olds false is one rest = (lacks_offered old.statement.client olds q (turned_false old.statement.client q.statement.client is) one.0, rest)

pub distinct_offered : (pool : List (SignedBy Request)) (q : SignedBy Request) → Distinct (clients_of pool) → Distinct (clients_of (offered pool q))
distinct_offered [] q one = (refl, tt)
distinct_offered (old ∷ olds) q one = distinct_by old q olds (old.statement.client == q.statement.client) refl one (distinct_offered olds q one.1)

lacks_if : (client : ℕ) (q : SignedBy Request) (pool : List (SignedBy Request)) (b : Bool) → (q.statement.client == client) ≡ false → Lacks client pool → Lacks client (cond b (q ∷ pool) pool)
lacks_if client q pool true had more = rw had more
lacks_if client q pool false had more = more

lacks_filtered : (p : SignedBy Request → Bool) (client : ℕ) (pool : List (SignedBy Request)) → Lacks client pool → Lacks client (filter p pool)
lacks_filtered p client [] lacks = lacks
lacks_filtered p client (q ∷ qs) lacks =
    let parts = or_false (q.statement.client == client) (list_any (λ y. y == client) (clients_of qs)) lacks in
    lacks_if client q (filter p qs) (p q) parts.0 (lacks_filtered p client qs parts.1)

distinct_if : (q : SignedBy Request) (pool : List (SignedBy Request)) (b : Bool) → Lacks q.statement.client pool → Distinct (clients_of pool) → Distinct (clients_of (cond b (q ∷ pool) pool))
distinct_if q pool true lacks one = (lacks, one)
distinct_if q pool false lacks one = one

pub distinct_filtered : (p : SignedBy Request → Bool) (pool : List (SignedBy Request)) → Distinct (clients_of pool) → Distinct (clients_of (filter p pool))
distinct_filtered p [] one = one
distinct_filtered p (q ∷ qs) one = distinct_if q (filter p qs) (p q) (lacks_filtered p q.statement.client qs one.0) (distinct_filtered p qs one.1)

lacks_sub : (client : ℕ) (pool sub : List (SignedBy Request)) → IsSubsequence sub pool → Lacks client pool → Lacks client sub
lacks_sub client pool [] drawn lacks = refl
lacks_sub client [] (x ∷ xs) drawn lacks = absurd drawn
lacks_sub client (q ∷ qs) (x ∷ xs) drawn lacks =
    let parts = or_false (q.statement.client == client) (list_any (λ y. y == client) (clients_of qs)) lacks in
    ⊎_elim (λ here. subst (λ (p : SignedBy Request). Lacks client (p ∷ xs)) (sym here.0) (rw parts.0 (lacks_sub client qs xs here.1 parts.1))) (λ later. lacks_sub client qs (x ∷ xs) later parts.1) drawn

pub distinct_sub : (pool sub : List (SignedBy Request)) → IsSubsequence sub pool → Distinct (clients_of pool) → Distinct (clients_of sub)
distinct_sub pool [] drawn one = tt
distinct_sub [] (x ∷ xs) drawn one = absurd drawn
distinct_sub (q ∷ qs) (x ∷ xs) drawn one =
    ⊎_elim
    (λ here. (subst (λ (p : SignedBy Request). Lacks p.statement.client xs) (sym here.0) (lacks_sub q.statement.client qs xs here.1 one.0), distinct_sub qs xs here.1 one.1))
    (λ later. distinct_sub qs (x ∷ xs) later one.1) drawn
