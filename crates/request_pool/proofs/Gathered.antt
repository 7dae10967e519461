-- What is gathered from a pool.
use Rattle.std.proofs.Common.{◌≡◌, ℕ, ◌≤◌, ◌++◌, ◌||◌, Bool, true, false, not, List, [], ◌∷◌, length, refl, ap, sym, subst, ◌∙◌, cond, arith, nat_le, nat_lt, Option, Some, None, suc, inl}
use Rattle.std.proofs.lemmas.Bool.{le-leb}
use Rattle.std.proofs.lemmas.List.{append_assoc, append-nil}
use Rattle.std.specs.Prelude.{filter}
use Rattle.std.specs.List.{list_any, list_all}
use Rattle.smart_base.specs.Lists.{Each}
use Rattle.smart_statements.specs.Forms.{SignedBy}
use Rattle.smart_statements.specs.Batches.{Batch, batch_text}
use Rattle.smart_statements.specs.declared.statement.Request.{Request}
use Rattle.replica_rules.specs.Seals.{request_fits, is_managers, fits}
use Rattle.replica_rules.specs.Pools.{is_within, filled, batch_of, gathered}
use Rattle.request_pool.specs.Offers.{IsSound}
use Rattle.request_pool.specs.Orders.{IsSubsequence}
use Rattle.request_pool.proofs.Batches.{within_limits}
use Rattle.request_pool.proofs.Subsequences.{within_filter, each_within, each_filtered, all_from_each, none_from_each}
use Rattle.smart_base.proofs.ViewFacts.{each-weaken}

-- A FILLED BATCH

-- what a batch is filled with
pub record Filling (batch : Batch) (qs : List (SignedBy Request)) : Type 0 where
  pub added : List (SignedBy Request)
  pub whole : filled batch qs ≡ batch ++ added
  pub drawn : IsSubsequence added qs

filling_by : (batch : Batch) (q : SignedBy Request) (qs : List (SignedBy Request)) (b : Bool) → is_within (batch ++ q ∷ []) ≡ b → Filling (batch ++ q ∷ []) qs → Filling batch (q ∷ qs)
filling_by batch q qs true is rest = record {
  added = q ∷ rest.added;
  whole = rw is (rest.whole ∙ append_assoc batch (q ∷ []) rest.added);
  drawn = inl (refl, rest.drawn);
}
filling_by batch q qs false is rest = record { added = []; whole = rw is (sym (append-nil batch)); drawn = tt }

filling : (batch : Batch) (qs : List (SignedBy Request)) → Filling batch qs
filling batch [] = record { added = []; whole = sym (append-nil batch); drawn = tt }
filling batch (q ∷ qs) = filling_by batch q qs (is_within (batch ++ q ∷ [])) refl (filling (batch ++ q ∷ []) qs)

within_by : (batch more : Batch) (qs : List (SignedBy Request)) (b : Bool) → is_within more ≡ b → is_within batch ≡ true → (is_within more ≡ true → is_within (filled more qs) ≡ true)
    → is_within (cond b (filled more qs) batch) ≡ true
within_by batch more qs true is within rest = rest is
within_by batch more qs false is within rest = within

filled_within : (batch : Batch) (qs : List (SignedBy Request)) → is_within batch ≡ true → is_within (filled batch qs) ≡ true
filled_within batch [] within = within
filled_within batch (q ∷ qs) within = within_by batch (batch ++ q ∷ []) qs (is_within (batch ++ q ∷ [])) refl within (λ more. filled_within (batch ++ q ∷ []) qs more)

-- WHAT A BATCH OF REQUESTS IS

-- a request that fits a place, and is small enough alone
FitsAlone : List ℕ → ℕ → SignedBy Request → Type 0
FitsAlone secret place q = (request_fits secret place q ≡ true) × (length (batch_text (q ∷ [])) ≤ 262144)

-- A batch within the limits, of requests that fit, of which one of the manager is alone.
record Fitting (secret : List ℕ) (place : ℕ) (batch : Batch) : Type 0 where
  some : nat_le 1 (length batch) ≡ true
  within : is_within batch ≡ true
  all : list_all (request_fits secret place) batch ≡ true
  alone : (nat_le (length batch) 1 || not (list_any is_managers batch)) ≡ true

one_within : (q : SignedBy Request) → length (batch_text (q ∷ [])) ≤ 262144 → is_within (q ∷ []) ≡ true
one_within q small = le-leb (length (batch_text (q ∷ []))) 262144 small

fitting_one : (secret : List ℕ) (place : ℕ) (q : SignedBy Request) → FitsAlone secret place q → Fitting secret place (q ∷ [])
unfolding FitsAlone
fitting_one secret place q fit = record { some = refl; within = one_within q fit.1; all = rw fit.0 refl; alone = refl }

or_true : (a : Bool) → (a || true) ≡ true
or_true true = refl
or_true false = refl

clients_by : (q : SignedBy Request) (b : Bool) → is_managers q ≡ b → not b ≡ true → is_managers q ≡ false
clients_by q true is clients = absurd (cc)
clients_by q false is clients = is

fitting_filled : (secret : List ℕ) (place : ℕ) (q : SignedBy Request) (qs : List (SignedBy Request)) → FitsAlone secret place q → Each (FitsAlone secret place) qs → is_managers q ≡ false
    → Fitting secret place (filled (q ∷ []) (filter (λ p. not (is_managers p)) qs))
unfolding FitsAlone
fitting_filled secret place q qs fit rest clients =
    let beside = filter (λ (p : SignedBy Request). not (is_managers p)) qs in
    let f = filling (q ∷ []) beside in
    let fit_added = each_within (λ p. request_fits secret place p ≡ true) qs f.added (within_filter (λ p. not (is_managers p)) qs f.added f.drawn) (each-weaken (FitsAlone secret place) (λ p. request_fits secret place p ≡ true) (λ p fits_p. fits_p.0) qs rest) in
    let clients_added = each_within (λ p. is_managers p ≡ false) beside f.added f.drawn
    (each_filtered (FitsAlone secret place) (λ p. is_managers p ≡ false) (λ p. not (is_managers p)) (λ p fits_p of_client. clients_by p (is_managers p) refl of_client) qs rest) in
    record {
      some = subst (λ b. nat_le 1 (length b) ≡ true) (sym f.whole) (le-leb 1 (suc (length f.added)) (omega arith));
      within = filled_within (q ∷ []) beside (one_within q fit.1);
      all = subst (λ b. list_all (request_fits secret place) b ≡ true) (sym f.whole) (all_from_each (request_fits secret place) (q ∷ f.added) (fit.0, fit_added));
      alone = ap (λ any. nat_le (length (filled (q ∷ []) beside)) 1 || not any)
          (ap (λ b. list_any is_managers b) f.whole ∙ none_from_each is_managers (q ∷ f.added) (clients, clients_added))
          ∙ or_true (nat_le (length (filled (q ∷ []) beside)) 1);
    }

some_same : (x y : Batch) → Some x ≡ Some y → x ≡ y
some_same x y is = cc

-- what is so of both batches that a first request may give is so of the one that it gives
given_by : (P : Batch → Type 0) (alone more batch : Batch) (b : Bool) → (b ≡ true → P alone) → (b ≡ false → P more) → cond {A = Option Batch} b (Some alone) (Some more) ≡ Some batch → P batch
given_by P alone more batch true one all is = subst P (some_same alone batch is) (one refl)
given_by P alone more batch false one all is = subst P (some_same more batch is) (all refl)

fitting_of : (secret : List ℕ) (place : ℕ) (ready : List (SignedBy Request)) (batch : Batch) → Each (FitsAlone secret place) ready → batch_of ready ≡ Some batch → Fitting secret place batch
fitting_of secret place [] batch fit is = absurd (cc)
fitting_of secret place (q ∷ qs) batch fit is =
    given_by (Fitting secret place) (q ∷ []) (filled (q ∷ []) (filter (λ p. not (is_managers p)) qs)) batch (is_managers q)
    (λ managers. fitting_one secret place q fit.0) (λ clients. fitting_filled secret place q qs fit.0 fit.1 clients) is

fits_of : (secret : List ℕ) (place : ℕ) (batch : Batch) → Fitting secret place batch → fits secret batch place ≡ true
unfolding fits
fits_of secret place batch fit =
    let limits = within_limits batch fit.within in
    rw fit.some (rw (le-leb (length batch) 64 limits.0) (rw (le-leb (length (batch_text batch)) 262144 limits.1) (rw fit.all fit.alone)))

fits_due : (secret : List ℕ) (place : ℕ) (q : SignedBy Request) → IsSound secret q → nat_lt q.statement.after place ≡ true → FitsAlone secret place q
unfolding FitsAlone
fits_due secret place q sound due = (rw (le-leb q.statement.client 1024 sound.known) (rw due sound.verified), sound.small)

pub gathered_fits : (secret : List ℕ) (pool : List (SignedBy Request)) (place : ℕ) (batch : Batch) → Each (IsSound secret) pool → gathered pool place ≡ Some batch → fits secret batch place ≡ true
unfolding gathered
gathered_fits secret pool place batch sound is =
    fits_of secret place batch
    (fitting_of secret place (filter (λ q. nat_lt q.statement.after place) pool) batch
    (each_filtered (IsSound secret) (FitsAlone secret place) (λ q. nat_lt q.statement.after place) (fits_due secret place) pool sound) is)

-- ORDER

drawn_filled : (q : SignedBy Request) (qs : List (SignedBy Request)) → IsSubsequence (filled (q ∷ []) (filter (λ p. not (is_managers p)) qs)) (q ∷ qs)
drawn_filled q qs =
    let f = filling (q ∷ []) (filter (λ p. not (is_managers p)) qs) in
    subst (λ b. IsSubsequence b (q ∷ qs)) (sym f.whole) (inl (refl, within_filter (λ p. not (is_managers p)) qs f.added f.drawn))

drawn_of : (ready : List (SignedBy Request)) (batch : Batch) → batch_of ready ≡ Some batch → IsSubsequence batch ready
drawn_of [] batch is = absurd (cc)
drawn_of (q ∷ qs) batch is =
    given_by (λ b. IsSubsequence b (q ∷ qs)) (q ∷ []) (filled (q ∷ []) (filter (λ p. not (is_managers p)) qs)) batch (is_managers q)
    (λ managers. inl (refl, tt)) (λ clients. drawn_filled q qs) is

pub gathered_in_order : (pool : List (SignedBy Request)) (place : ℕ) (batch : Batch) → gathered pool place ≡ Some batch → IsSubsequence batch pool
unfolding gathered
gathered_in_order pool place batch is =
    within_filter (λ q. nat_lt q.statement.after place) pool batch (drawn_of (filter (λ q. nat_lt q.statement.after place) pool) batch is)

-- a batch is given where a request is due

none_due_by : (due : SignedBy Request → Bool) (q : SignedBy Request) (few all : List (SignedBy Request)) (b : Bool) → due q ≡ b → cond b (q ∷ few) few ≡ [] → (few ≡ [] → list_any due all ≡ false) → list_any due (q ∷ all) ≡ false
none_due_by due q few all true is none rest = absurd (cc)
none_due_by due q few all false is none rest = rw is (rest none)

none_due : (due : SignedBy Request → Bool) (pool : List (SignedBy Request)) → filter due pool ≡ [] → list_any due pool ≡ false
none_due due [] is = refl
none_due due (q ∷ qs) is = none_due_by due q (filter due qs) qs (due q) refl is (λ none. none_due due qs none)

none_by : (alone more : Batch) (b : Bool) → cond {A = Option Batch} b (Some alone) (Some more) ≡ None → ⊥
none_by alone more true is = cc
none_by alone more false is = cc

none_of : (ready : List (SignedBy Request)) → batch_of ready ≡ None → ready ≡ []
none_of [] is = refl
none_of (q ∷ qs) is = absurd (none_by (q ∷ []) (filled (q ∷ []) (filter (λ p. not (is_managers p)) qs)) (is_managers q) is)

pub nothing_gathered : (pool : List (SignedBy Request)) (place : ℕ) → gathered pool place ≡ None → list_any (λ q. nat_lt q.statement.after place) pool ≡ false
unfolding gathered
nothing_gathered pool place is = none_due (λ q. nat_lt q.statement.after place) pool (none_of (filter (λ q. nat_lt q.statement.after place) pool) is)
