-- Facts on lists, tests and repeated steps.
use Rattle.std.proofs.Common.{◌≡◌, ℕ, zero, suc, ◌+◌, List, [], ◌∷◌, Some, subst, take, drop}
use Rattle.std.specs.Prelude.{insert, slice_get, slice_set}
use Rattle.smart_base.specs.Lists.{Each}
use Rattle.world_rules.specs.Repeats.{repeated, turns, until_rest, each_from}
use Rattle.agreement_laws.proofs.Lists.{some_equal, each_append, each_take}

-- what holds of each value of a list

pub each_set : {A : Type 0} (P : A → Type 0) (xs : List A) (i : ℕ) (x : A) → Each P xs → P x → Each P (slice_set xs i x)
each_set P [] i x each is = tt
each_set P (y ∷ xs) zero x each is = (is, each.1)
each_set P (y ∷ xs) (suc i) x each is = (each.0, each_set P xs i x each.1 is)

pub each_get : {A : Type 0} (P : A → Type 0) (xs : List A) (i : ℕ) (x : A) → Each P xs → slice_get xs i ≡ Some x → P x
each_get P [] i x each at = absurd (cc)
each_get P (y ∷ xs) zero x each at = subst P (some_equal y x at) each.0
each_get P (y ∷ xs) (suc i) x each at = each_get P xs i x each.1 at

each_drop : {A : Type 0} (P : A → Type 0) (k : ℕ) (xs : List A) → Each P xs → Each P (drop k xs)
each_drop P zero xs each = each
each_drop P (suc k) [] each = tt
each_drop P (suc k) (x ∷ xs) each = each_drop P k xs each.1

pub each_insert : {A : Type 0} (P : A → Type 0) (xs : List A) (i : ℕ) (x : A) → Each P xs → P x → Each P (insert xs i x)
each_insert P xs i x each is = each_append P (take i xs) (x ∷ drop i xs) (each_take P i xs each) (is, each_drop P i xs each)

-- what a step keeps, repeated steps keep

pub repeated_keeps : {A : Type 0} (P : A → Type 0) (f : A → A) → ((x : A) → P x → P (f x)) → (k : ℕ) (x : A) → P x → P (repeated f k x)
unfolding repeated
repeated_keeps P f keeps zero x is = is
repeated_keeps P f keeps (suc k) x is = repeated_keeps P f keeps k (f x) (keeps x is)

pub until_rest_keeps : {A : Type 0} (P : A → Type 0) (f : A → A) → ((x : A) → P x → P (f x)) → (x : A) → P x → P (until_rest f x)
unfolding until_rest
until_rest_keeps P f keeps x is = repeated_keeps P f keeps turns x is

pub each_from_keeps : {A : Type 0} (P : A → Type 0) (f : ℕ → A → A) → ((i : ℕ) (x : A) → P x → P (f i x)) → (k i : ℕ) (x : A) → P x → P (each_from f k i x)
unfolding each_from
each_from_keeps P f keeps zero i x is = is
each_from_keeps P f keeps (suc k) i x is = each_from_keeps P f keeps k (i + 1) (f i x) (keeps i x is)
