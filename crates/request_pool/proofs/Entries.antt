-- What an insertion makes of a pool's requests and of the numbers that they stand under.
use Rattle.std.proofs.Common.{◌≡◌, ℕ, ◌==◌, Bool, true, false, List, [], ◌∷◌, refl, ap, sym, ◌∙◌, cond, nat_eq, ◌||◌, is_some, subst, Option}
use Rattle.std.proofs.lemmas.Bool.{eqb-true, eqb-false, eq-eqb, ne_eqb}
use Rattle.std.specs.Prelude.{filter}
use Rattle.std.specs.Map.{keys_of, values_of, lookup}
use Rattle.std.proofs.lemmas.Map.Made.{is_some-lookup}
use Rattle.std.specs.List.{list_any}
use Rattle.indexmap.specs.IndexMap.{insert_entry}
use Rattle.smart_base.specs.Lists.{Distinct}
use Rattle.smart_statements.specs.Forms.{SignedBy}
use Rattle.smart_statements.specs.declared.statement.Request.{Request}
use Rattle.replica_rules.specs.Pools.{offered}
use Rattle.request_pool.specs.Offers.{clients_of, has_client}
use Rattle.request_pool.proofs.Clients.{distinct_offered, distinct_filtered}

head_of : (x y : ℕ) (xs ys : List ℕ) → x ∷ xs ≡ y ∷ ys → x ≡ y
head_of x y xs ys same = cc

tail_of : (x y : ℕ) (xs ys : List ℕ) → x ∷ xs ≡ y ∷ ys → xs ≡ ys
tail_of x y xs ys same = cc

-- equality of numbers, turned round
pub eqb-turned : (a b : ℕ) → nat_eq a b ≡ (b == a)
eqb-turned a b = by (b == a) refl
  where
    by : (test : Bool) → (b == a) ≡ test → nat_eq a b ≡ test
    by true is = eq-eqb a b (sym (eqb-true b a is))
    by false is = ne_eqb a b (λ same. eqb-false b a is (sym same))

values_by : (e : ℕ × SignedBy Request) (es ins : List (ℕ × SignedBy Request)) (q : SignedBy Request) (pool : List (SignedBy Request)) (b : Bool)
    → values_of ins ≡ pool → values_of (cond b ((e.0, q) ∷ es) (e ∷ ins)) ≡ cond b (q ∷ values_of es) (e.1 ∷ pool)
values_by e es ins q pool true same = refl
values_by e es ins q pool false same = ap (λ rest. e.1 ∷ rest) same

-- an insertion puts a request where its client's is, or at the end
pub inserted_values : (es : List (ℕ × SignedBy Request)) (q : SignedBy Request) → keys_of es ≡ clients_of (values_of es)
    → values_of (insert_entry nat_eq es q.statement.client q) ≡ offered (values_of es) q
inserted_values [] q stand = refl
inserted_values (e ∷ es) q stand =
    let head = head_of e.0 e.1.statement.client (keys_of es) (clients_of (values_of es)) stand in
    let tail = tail_of e.0 e.1.statement.client (keys_of es) (clients_of (values_of es)) stand in
    values_by e es (insert_entry nat_eq es q.statement.client q) q (offered (values_of es) q) (nat_eq q.statement.client e.0) (inserted_values es q tail)
    ∙ ap (λ b. cond b (q ∷ values_of es) (e.1 ∷ offered (values_of es) q))
    (ap (λ k. nat_eq q.statement.client k) head ∙ eqb-turned q.statement.client e.1.statement.client)

keys_by : (e : ℕ × SignedBy Request) (es ins : List (ℕ × SignedBy Request)) (q : SignedBy Request) (b : Bool) → nat_eq q.statement.client e.0 ≡ b
    → e.0 ≡ e.1.statement.client → keys_of es ≡ clients_of (values_of es) → keys_of ins ≡ clients_of (values_of ins)
    → keys_of (cond b ((e.0, q) ∷ es) (e ∷ ins)) ≡ clients_of (values_of (cond b ((e.0, q) ∷ es) (e ∷ ins)))
keys_by e es ins q true is head tail rest =
    let same = eqb-true q.statement.client e.0 is in
    ap (λ k. k ∷ keys_of es) (sym same) ∙ ap (λ ks. q.statement.client ∷ ks) tail
keys_by e es ins q false is head tail rest = ap (λ k. k ∷ keys_of ins) head ∙ ap (λ ks. e.1.statement.client ∷ ks) rest

-- an insertion keeps that each request stands under its client
pub inserted_keys : (es : List (ℕ × SignedBy Request)) (q : SignedBy Request) → keys_of es ≡ clients_of (values_of es)
    → keys_of (insert_entry nat_eq es q.statement.client q) ≡ clients_of (values_of (insert_entry nat_eq es q.statement.client q))
inserted_keys [] q stand = refl
inserted_keys (e ∷ es) q stand =
    let head = head_of e.0 e.1.statement.client (keys_of es) (clients_of (values_of es)) stand in
    let tail = tail_of e.0 e.1.statement.client (keys_of es) (clients_of (values_of es)) stand in
    keys_by e es (insert_entry nat_eq es q.statement.client q) q (nat_eq q.statement.client e.0) refl head tail (inserted_keys es q tail)

-- whether a client has a request, by the numbers that requests stand under
any_client : (pool : List (SignedBy Request)) (client : ℕ) → list_any (nat_eq client) (clients_of pool) ≡ has_client pool client
any_client [] client = refl
any_client (q ∷ qs) client =
    ap (λ b. b || list_any (nat_eq client) (clients_of qs)) (eqb-turned client q.statement.client)
    ∙ ap (λ b. (q.statement.client == client) || b) (any_client qs client)

pub found_client : (es : List (ℕ × SignedBy Request)) (client : ℕ) → keys_of es ≡ clients_of (values_of es)
    → is_some (lookup (nat_eq client) es) ≡ has_client (values_of es) client
found_client es client stand =
    is_some-lookup (nat_eq client) es ∙ (ap (λ ks. list_any (nat_eq client) ks) stand ∙ any_client (values_of es) client)

-- the same of a filter by requests

values_if : (e : ℕ × SignedBy Request) (es : List (ℕ × SignedBy Request)) (pool : List (SignedBy Request)) (b : Bool)
    → values_of es ≡ pool → values_of (cond b (e ∷ es) es) ≡ cond b (e.1 ∷ pool) pool
values_if e es pool true same = ap (λ rest. e.1 ∷ rest) same
values_if e es pool false same = same

pub filtered_values : (p : SignedBy Request → Bool) (es : List (ℕ × SignedBy Request)) → values_of (filter (λ e. p e.1) es) ≡ filter p (values_of es)
filtered_values p [] = refl
filtered_values p (e ∷ es) = values_if e (filter (λ e. p e.1) es) (filter p (values_of es)) (p e.1) (filtered_values p es)

keys_if : (e : ℕ × SignedBy Request) (es : List (ℕ × SignedBy Request)) (b : Bool) → e.0 ≡ e.1.statement.client → keys_of es ≡ clients_of (values_of es)
    → keys_of (cond b (e ∷ es) es) ≡ clients_of (values_of (cond b (e ∷ es) es))
keys_if e es true head rest = ap (λ k. k ∷ keys_of es) head ∙ ap (λ ks. e.1.statement.client ∷ ks) rest
keys_if e es false head rest = rest

pub filtered_keys : (p : SignedBy Request → Bool) (es : List (ℕ × SignedBy Request)) → keys_of es ≡ clients_of (values_of es)
    → keys_of (filter (λ e. p e.1) es) ≡ clients_of (values_of (filter (λ e. p e.1) es))
filtered_keys p [] stand = refl
filtered_keys p (e ∷ es) stand =
    let head = head_of e.0 e.1.statement.client (keys_of es) (clients_of (values_of es)) stand in
    let tail = tail_of e.0 e.1.statement.client (keys_of es) (clients_of (values_of es)) stand in
    keys_if e (filter (λ e. p e.1) es) (p e.1) head (filtered_keys p es tail)

-- What a pool keeps of its entries: each request stands under its client, and no two are of one client.
abbrev pub Stands : List (ℕ × SignedBy Request) → Type 0
Stands es = (keys_of es ≡ clients_of (values_of es)) × Distinct (clients_of (values_of es))

pub put_values : (old new : List (ℕ × SignedBy Request)) (pool : List (SignedBy Request)) (client : ℕ) (q : SignedBy Request) → client ≡ q.statement.client
    → Stands old → values_of old ≡ pool → new ≡ insert_entry nat_eq old client q → values_of new ≡ offered pool q
put_values old new pool client q is stands view put =
    ap (λ es. values_of es) (put ∙ ap (λ k. insert_entry nat_eq old k q) is)
    ∙ (inserted_values old q stands.0 ∙ ap (λ qs. offered qs q) view)

pub put_stands : (old new : List (ℕ × SignedBy Request)) (client : ℕ) (q : SignedBy Request) → client ≡ q.statement.client
    → Stands old → new ≡ insert_entry nat_eq old client q → Stands new
put_stands old new client q is stands put =
    let whole : new ≡ insert_entry nat_eq old q.statement.client q = put ∙ ap (λ k. insert_entry nat_eq old k q) is in (
      subst (λ es. keys_of es ≡ clients_of (values_of es)) (sym whole) (inserted_keys old q stands.0),
      subst (λ qs. Distinct (clients_of qs)) (sym (put_values old new (values_of old) client q is stands refl put)) (distinct_offered (values_of old) q stands.1),
    )

pub put_found : (es : List (ℕ × SignedBy Request)) (pool : List (SignedBy Request)) (client : ℕ) (q : SignedBy Request) (found : Option (SignedBy Request)) → client ≡ q.statement.client
    → Stands es → values_of es ≡ pool → found ≡ lookup (nat_eq client) es → is_some found ≡ has_client pool q.statement.client
put_found es pool client q found is stands view got =
    ap (λ (o : Option (SignedBy Request)). is_some o) got
    ∙ (found_client es client stands.0 ∙ (ap (λ qs. has_client qs client) view ∙ ap (λ k. has_client pool k) is))

pub settled_stands : (p : SignedBy Request → Bool) (old new : List (ℕ × SignedBy Request)) → Stands old → new ≡ filter (λ e. p e.1) old → Stands new
settled_stands p old new stands is = (
  subst (λ es. keys_of es ≡ clients_of (values_of es)) (sym is) (filtered_keys p old stands.0),
  subst (λ qs. Distinct (clients_of qs)) (sym (ap (λ es. values_of es) is ∙ filtered_values p old)) (distinct_filtered p (values_of old) stands.1),
)

pub settled_values : (p : SignedBy Request → Bool) (old new : List (ℕ × SignedBy Request)) (pool : List (SignedBy Request)) → values_of old ≡ pool → new ≡ filter (λ e. p e.1) old
    → values_of new ≡ filter p pool
settled_values p old new pool view is = ap (λ es. values_of es) is ∙ (filtered_values p old ∙ ap (λ qs. filter p qs) view)
