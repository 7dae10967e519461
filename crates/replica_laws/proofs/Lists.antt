-- Facts on lists and tests.
use Rattle.std.proofs.Common.{◌≡◌, Bool, true, false, not, List, [], ◌∷◌, refl, cond, Option, Some, None}
use Rattle.std.specs.Prelude.{IfSome, option_map, find}
use Rattle.std.specs.List.{filter_map, cons_option}
use Rattle.smart_base.specs.Lists.{Each, or_else}
use Rattle.agreement_laws.proofs.Lists.{either, either_by}

-- what the first of two gives that is there

-- where a chain of reasons gives none, its second test has passed
pub third-none : {A : Type 0} (a b : Bool) (x y : A) (rest : Option A) → cond a (Some x) (cond (not b) (Some y) rest) ≡ None → b ≡ true
third-none true b x y rest none = absurd (cc)
third-none false true x y rest none = refl
third-none false false x y rest none = absurd (cc)

-- what holds of a value, if there is one

pub if_weaker : {A : Type 0} (P Q : A → Type 0) → ((x : A) → P x → Q x) → (o : Option A) → IfSome o P → IfSome o Q
if_weaker P Q weaker None is = tt
if_weaker P Q weaker (Some x) is = weaker x is

pub if_or : {A : Type 0} (P : A → Type 0) (x y : Option A) → IfSome x P → IfSome y P → IfSome (or_else x y) P
if_or P None y px py = py
if_or P (Some a) y px py = px

-- behind a test
pub if_cond : {A : Type 0} (P : A → Type 0) (b : Bool) (x : Option A) → (b ≡ true → IfSome x P) → IfSome (cond b x None) P
if_cond P true x px = px refl
if_cond P false x px = tt

pub if_map : {A B : Type 0} (P : B → Type 0) (f : A → B) (o : Option A) → IfSome o (λ x. P (f x)) → IfSome (option_map f o) P
if_map P f None is = tt
if_map P f (Some x) is = is

-- the first that passes
pub if_find : {A : Type 0} (P : A → Type 0) (p : A → Bool) (xs : List A) → Each P xs → IfSome (find p xs) P
if_find P p [] each = tt
if_find {A = A} P p (x ∷ xs) each = either (λ (o : Option A). IfSome o P) (p x) (Some x) (find p xs) each.0 (if_find P p xs each.1)

-- and it passes
pub if_found : {A : Type 0} (P : A → Type 0) (p : A → Bool) (xs : List A) → Each P xs → IfSome (find p xs) (λ x. P x × (p x ≡ true))
if_found P p [] each = tt
if_found {A = A} P p (x ∷ xs) each = either_by (λ (o : Option A). IfSome o (λ y. P y × (p y ≡ true))) (p x) (Some x) (find p xs) (λ is. (each.0, is)) (λ no_one. if_found P p xs each.1)

-- and of those that values give
pub each_given : {A B : Type 0} (Q : A → Type 0) (P : B → Type 0) (f : A → Option B) → ((x : A) → Q x → IfSome (f x) P) → (xs : List A) → Each Q xs → Each P (filter_map f xs)
each_given Q P f gives [] each = tt
each_given {B = B} Q P f gives (x ∷ xs) each = by (f x) (gives x each.0) (each_given Q P f gives xs each.1)
  where
    by : (o : Option B) → IfSome o P → Each P (filter_map f xs) → Each P (cons_option o (filter_map f xs))
    by None is rest = rest
    by (Some y) is rest = (is, rest)
