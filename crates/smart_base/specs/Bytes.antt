-- Parts of bytes are bytes.
use Rattle.std.proofs.Common.{ℕ, ◌+◌, List, ◌++◌, length, take, drop, refl, inl, inr, arith}
use Rattle.std.proofs.lemmas.Bool.{cases_lt}
use Rattle.std.proofs.lemmas.List.{drop_at, length-take, get_or-drop, get_or-take, get_or_past}
use Rattle.smart_base.specs.Cuts.{IsBytes}

pub bytes_drop : (n : ℕ) (bytes : List ℕ) → IsBytes bytes → IsBytes (drop n bytes)
bytes_drop n bytes h = record { below = λ i. rw get_or-drop (h.below (n + i)) }

pub bytes_take : (n : ℕ) (bytes : List ℕ) → IsBytes bytes → IsBytes (take n bytes)
bytes_take n bytes h = record {
  below = λ i.
      elim (cases_lt i n) [
        | inl lt ↦ rw (get_or-take n bytes i 0 lt) (h.below i)
        | inr le ↦ rw (get_or_past (take n bytes) i 0 (omega (arith, length-take n bytes))) (omega arith)
      ];
}

pub bytes-after : (x y : List ℕ) → IsBytes (x ++ y) → IsBytes y
bytes-after x y h = rw (← drop_at x y (length x) refl) (bytes_drop (length x) (x ++ y) h)
