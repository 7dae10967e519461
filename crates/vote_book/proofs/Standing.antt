-- Where a regency first began, once a start is added.
use Rattle.std.proofs.Common.{◌≡◌, ℕ, ◌++◌, ◌==◌, nat_eq, ◌&&◌, Bool, true, false, cond, List, [], ◌∷◌, refl, ap, sym, ◌∙◌, subst, Option, Some, None, is_none}
use Rattle.std.proofs.lemmas.Bool.{eqb-true}
use Rattle.smart_base.proofs.SameLists.{and_true}
use Rattle.smart_base.specs.Lists.{or_else}
use Rattle.vote_book.specs.declared.entry.Start.{Start}
use Rattle.vote_book.specs.declared.entry.LogEntry.{LogEntry}
use Rattle.vote_book.specs.Standing.{start_if, start_by, first_start, start_under}

else_none : {A : Type 0} (o : Option A) → o ≡ or_else o None
else_none None = refl
else_none (Some a) = refl

else_kept : {A : Type 0} (o rest : Option A) → is_none o ≡ false → o ≡ or_else o rest
else_kept None rest is = absurd (cc)
else_kept (Some a) rest is = refl

else_first : {A : Type 0} (o rest : Option A) → is_none o ≡ true → rest ≡ or_else o rest
else_first None rest is = refl
else_first (Some a) rest is = absurd (cc)

else_assoc : {A : Type 0} (a b c : Option A) → or_else a (or_else b c) ≡ or_else (or_else a b) c
else_assoc None b c = refl
else_assoc (Some x) b c = refl

-- a start of a regency that has begun
pub under_kept : (starts : List ((ℕ × ℕ) × Start)) (s : Start) → is_none (start_under s.view s.regency starts) ≡ false → (view regency : ℕ)
    → start_under view regency starts ≡ or_else (start_under view regency starts) (start_if view regency s)
under_kept starts s begun view regency = by (s.view == view && s.regency == regency) refl
  where
    by : (t : Bool) → (s.view == view && s.regency == regency) ≡ t → start_under view regency starts ≡ or_else (start_under view regency starts) (cond t (Some s) None)
    by false is = else_none (start_under view regency starts)
    by true is =
        let both = and_true (s.view == view) (s.regency == regency) is in
        let there : is_none (start_under view regency starts) ≡ false = rw (← eqb-true s.view view both.0, ← eqb-true s.regency regency both.1) begun in
        else_kept (start_under view regency starts) (Some s) there

-- the first start of a regency
pub under_put : (starts later : List ((ℕ × ℕ) × Start)) (s : Start) (view regency : ℕ) → is_none (start_under s.view s.regency starts) ≡ true
    → start_under view regency later ≡ cond (nat_eq s.view view && nat_eq s.regency regency) (Some s) (start_under view regency starts)
    → start_under view regency later ≡ or_else (start_under view regency starts) (start_if view regency s)
under_put starts later s view regency none put = put ∙ by (s.view == view && s.regency == regency) refl
  where
    by : (t : Bool) → (s.view == view && s.regency == regency) ≡ t
        → cond t (Some s) (start_under view regency starts) ≡ or_else (start_under view regency starts) (cond t (Some s) None)
    by false is = else_none (start_under view regency starts)
    by true is =
        let both = and_true (s.view == view) (s.regency == regency) is in
        let there : is_none (start_under view regency starts) ≡ true = rw (← eqb-true s.view view both.0, ← eqb-true s.regency regency both.1) none in
        else_first (start_under view regency starts) (Some s) there

pub under_put_at : (starts later : List ((ℕ × ℕ) × Start)) (s : Start) (view regency v r : ℕ) → v ≡ s.view → r ≡ s.regency → is_none (start_under s.view s.regency starts) ≡ true
    → start_under view regency later ≡ cond (nat_eq v view && nat_eq r regency) (Some s) (start_under view regency starts)
    → start_under view regency later ≡ or_else (start_under view regency starts) (start_if view regency s)
under_put_at starts later s view regency v r at in_ none put =
    under_put starts later s view regency none
    (subst (λ (y : ℕ). start_under view regency later ≡ cond (nat_eq s.view view && nat_eq y regency) (Some s) (start_under view regency starts)) in_
    (subst (λ (x : ℕ). start_under view regency later ≡ cond (nat_eq x view && nat_eq r regency) (Some s) (start_under view regency starts)) at put))

pub start_push : (view regency : ℕ) (es : List LogEntry) (e : LogEntry) → first_start view regency (es ++ e ∷ []) ≡ or_else (first_start view regency es) (start_by view regency e)
start_push view regency [] e = sym (else_none (start_by view regency e))
start_push view regency (x ∷ xs) e =
    ap (λ (o : Option Start). or_else (start_by view regency x) o) (start_push view regency xs e)
    ∙ else_assoc (start_by view regency x) (first_start view regency xs) (start_by view regency e)
