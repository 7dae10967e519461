-- Sums and their snapshots.
use Rattle.std.proofs.Common.{◌≡◌, ℕ, ◌^◌, ◌<◌, ◌≤◌, ◌==◌, ◌∙◌, Bool, true, false, List, length, if◌then◌else◌, Option, Some, None, refl, ap, sym, subst, arith}
use Rattle.std.specs.Int.{w64, from_be_bytes}
use Rattle.std.proofs.lemmas.Bool.{eqb-true}
use Rattle.smart_base.specs.Cuts.{IsBytes}
use Rattle.smart_base.specs.Decimals.{number_of}
use Rattle.smart_base.specs.Laws.{wide64}
use Rattle.app_count.specs.Counts.{IsSum, sum_with, counting}
use Rattle.app_count.specs.declared.Count.{Count}

pub first_sum : IsSum counting.first
first_sum = omega arith

small_sum : (sum : ℕ) (amount : Option ℕ) → sum < 2 ^ 64 → sum_with sum amount < 2 ^ 64
small_sum sum None small = small
small_sum sum (Some amount) small = omega arith

pub next_sum : (s : Count) (op : List ℕ) → IsSum s → IsSum (counting.next s op)
next_sum s op small = small_sum s.sum (number_of op) small

pub short_snapshot : (s : Count) → IsSum s → length (counting.snapshot s) ≤ 12000000
short_snapshot s small = omega arith

-- the sum of a snapshot is the sum that it was taken of
pub restored_sum : (s : Count) → IsSum s → counting.restore (counting.snapshot s) ≡ Some s
restored_sum s small = ap (λ (sum : ℕ). Some (record { sum = sum })) (wide64.again s.sum small)

-- what is restored has 8 bytes
restored_of : (long : Bool) (given s : Count) → (if long then Some given else None) ≡ Some s → (long ≡ true) × (given ≡ s)
restored_of true given s e = (refl, cc)
restored_of false given s e = absurd cc

-- the sum of 8 bytes is in its range
pub valid_sum : (s : Count) (bytes : List ℕ) → IsBytes bytes → counting.restore bytes ≡ Some s → IsSum s
valid_sum s bytes each e =
    let r = restored_of (length bytes == 8) (record { sum = from_be_bytes w64 bytes }) s e in
    subst IsSum r.1 (wide64.below bytes each)

-- a sum has one snapshot
pub one_snapshot : (s : Count) (bytes : List ℕ) → IsBytes bytes → counting.restore bytes ≡ Some s → bytes ≡ counting.snapshot s
one_snapshot s bytes each e =
    let r = restored_of (length bytes == 8) (record { sum = from_be_bytes w64 bytes }) s e in
    sym (wide64.back bytes (eqb-true _ _ r.0) each) ∙ ap counting.snapshot r.1
