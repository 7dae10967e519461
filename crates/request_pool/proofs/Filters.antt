-- A filter followed value by value.
use Rattle.std.proofs.Common.{◌≡◌, ℕ, ◌+◌, ◌<◌, true, false, List, ◌∷◌, length, drop, get_or, refl, ap, sym, ◌∙◌, nat_lt, not}
use Rattle.std.proofs.lemmas.List.{drop_more}
use Rattle.std.specs.Prelude.{filter}
use Rattle.smart_statements.specs.Forms.{SignedBy}
use Rattle.smart_statements.specs.declared.statement.Request.{Request}
use Rattle.replica_rules.specs.Seals.{is_managers}

-- the requests that may stand beside others at a place
abbrev pub besides : ℕ → List (SignedBy Request) → List (SignedBy Request)
besides place pool = filter (λ q. not (is_managers q)) (filter (λ q. nat_lt q.statement.after place) pool)

step_at : {A : Type 0} (xs : List A) (i : ℕ) (x : A) → i < length xs → x ≡ get_or xs i x → drop i xs ≡ x ∷ drop (i + 1) xs
step_at xs i x within is = drop_more xs i x within ∙ ap (λ y. y ∷ drop (i + 1) xs) (sym is)

keep_one : (place : ℕ) (q : SignedBy Request) (qs : List (SignedBy Request)) → nat_lt q.statement.after place ≡ true → is_managers q ≡ false → besides place (q ∷ qs) ≡ q ∷ besides place qs
keep_one place q qs due clients = rw due (rw clients refl)

pub kept_at : (place : ℕ) (pool : List (SignedBy Request)) (i : ℕ) (q : SignedBy Request) → i < length pool → q ≡ get_or pool i q
    → nat_lt q.statement.after place ≡ true → is_managers q ≡ false → besides place (drop i pool) ≡ q ∷ besides place (drop (i + 1) pool)
kept_at place pool i q within is due clients = ap (λ qs. besides place qs) (step_at pool i q within is) ∙ keep_one place q (drop (i + 1) pool) due clients
