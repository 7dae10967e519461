-- Lists that begin with another.
use Rattle.std.proofs.Common.{◌≡◌, ℕ, zero, suc, ◌+◌, ◌≤◌, ◌++◌, List, [], ◌∷◌, length, refl, ap, arith, Some, take, add-one}
use Rattle.std.specs.Prelude.{slice_get}
use Rattle.smart_statements.specs.Batches.{Batch}
use Rattle.replica_rules.specs.Replicas.{batch_at}

-- a list begins with another
abbrev pub IsFront : {A : Type 0} → List A → List A → Type 0
IsFront xs ys = take (length xs) ys ≡ xs

-- a list begins with itself
pub front-same : {A : Type 0} (xs : List A) → take (length xs) xs ≡ xs
front-same [] = refl
front-same (x ∷ xs) = ap (λ ys. x ∷ ys) (front-same xs)

-- and with more behind it, too
pub front-append : {A : Type 0} (xs ys zs : List A) → take (length xs) ys ≡ xs → take (length xs) (ys ++ zs) ≡ xs
front-append [] ys zs front = refl
front-append (x ∷ xs) [] zs front = absurd (cc)
front-append {A = A} (x ∷ xs) (y ∷ ys) zs front =
    let tail : take (length xs) ys ≡ xs = cc in
    let more : take (length xs) (ys ++ zs) ≡ xs = front-append xs ys zs tail in
    let head : y ≡ x = cc in
    cc

-- a front is no longer than its list
pub front-length : {A : Type 0} (xs ys : List A) → take (length xs) ys ≡ xs → length xs ≤ length ys
front-length [] ys front = omega arith
front-length (x ∷ xs) [] front = absurd (cc)
front-length (x ∷ xs) (y ∷ ys) front =
    let tail : take (length xs) ys ≡ xs = cc in
    omega (arith, front-length xs ys tail)

-- what the front has at an index, the list has
pub front-get : {A : Type 0} (xs ys : List A) (i : ℕ) (x : A) → take (length xs) ys ≡ xs → slice_get xs i ≡ Some x → slice_get ys i ≡ Some x
front-get [] ys i x front at = absurd (cc)
front-get (z ∷ xs) [] i x front at = absurd (cc)
front-get (z ∷ xs) (y ∷ ys) zero x front at = let head : y ≡ z = cc in cc
front-get (z ∷ xs) (y ∷ ys) (suc i) x front at = let tail : take (length xs) ys ≡ xs = cc in front-get xs ys i x tail at

-- a shorter front of the front is one of the list
pub front-take : {A : Type 0} (xs ys : List A) (p : ℕ) → take (length xs) ys ≡ xs → p ≤ length xs → take p xs ≡ take p ys
front-take xs ys zero front le = refl
front-take [] ys (suc p) front le = absurd (omega (arith, le))
front-take (x ∷ xs) [] (suc p) front le = absurd (cc)
front-take (x ∷ xs) (y ∷ ys) (suc p) front le =
    let tail : take (length xs) ys ≡ xs = cc in
    let head : y ≡ x = cc in
    let less : take p xs ≡ take p ys = front-take xs ys p tail (omega (arith, le)) in
    cc

-- batches by their places

-- places count from 1
pub batch_at-next : (list : List Batch) (k : ℕ) → batch_at list (k + 1) ≡ slice_get list k
batch_at-next list k = rw add-one refl

-- the batch at a place of the front is that of the list
pub front-batch_at : (xs ys : List Batch) (place : ℕ) (batch : Batch) → take (length xs) ys ≡ xs → batch_at xs place ≡ Some batch → batch_at ys place ≡ Some batch
front-batch_at xs ys zero batch front at = absurd (cc)
front-batch_at xs ys (suc k) batch front at = front-get xs ys k batch front at
