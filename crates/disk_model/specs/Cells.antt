-- The contents of a disk between two syncs: what a read gives, and what is not yet sure.
use Rattle.std.specs.Prelude.{◌≡◌, ◌≢◌, ◌⊎◌, ◌≤◌, ◌<◌, ◌+◌, ℕ, Bool, false, not, ◌&&◌, ◌||◌, nat_lt, min, max, List, [], ◌∷◌, ◌++◌, length, get_or, take, drop}
use Rattle.disk_model.specs.declared.platter.Range.{Range}

-- ranges that cover an index
abbrev pub covers : List Range → ℕ → Bool
covers [] i = false
covers (r ∷ rs) i = (not (nat_lt i r.from) && nat_lt i r.upto) || covers rs i

-- The contents of a disk. `now` is what a read gives, and `sure` is what it gave at the last sync. `shortest` and `greatest` are the least
-- and the greatest length since that sync. `touched` has the ranges that were written since.
pub record Cells : Type 0 where
  pub now : List ℕ
  pub sure : List ℕ
  pub shortest : ℕ
  pub greatest : ℕ
  pub touched : List Range

-- bytes with others written over them from an index on, and past their end
abbrev pub put : ℕ → List ℕ → List ℕ → List ℕ
put at bytes old = take at old ++ (bytes ++ drop (at + length bytes) old)

-- contents of which all is sure, as after a sync
abbrev pub settled : List ℕ → Cells
settled now = record { now = now; sure = now; shortest = length now; greatest = length now; touched = [] }

-- contents after a write
abbrev pub written : ℕ → List ℕ → Cells → Cells
written at bytes s = record {
  now = put at bytes s.now;
  sure = s.sure;
  shortest = s.shortest;
  greatest = max s.greatest (at + length bytes);
  touched = s.touched ++ record { from = at; upto = at + length bytes } ∷ [];
}

-- contents after a cut to a length
abbrev pub cut_to : ℕ → Cells → Cells
cut_to n s = record { now = take n s.now; sure = s.sure; shortest = min s.shortest n; greatest = s.greatest; touched = s.touched }

-- Bytes that a crash may leave. Their length is between the least and the greatest. Below the least length each byte that no range covers
-- is as it reads now.
pub record IsImage (s : Cells) (image : List ℕ) : Type 0 where
  pub no_shorter : s.shortest ≤ length image
  pub no_longer : length image ≤ s.greatest
  pub same : (i : ℕ) → i < s.shortest → covers s.touched i ≡ false → get_or image i 0 ≡ get_or s.now i 0

-- contents of which a crash may leave what a read gives, and what it gave at the last sync
pub record IsSound (s : Cells) : Type 0 where
  pub reads : IsImage s s.now
  pub was_sure : IsImage s s.sure

-- contents of which a crash leaves nothing but what it might leave of others
abbrev pub Within : Cells → Cells → Type 0
Within new old = (image : List ℕ) → IsImage new image → IsImage old image

-- an index at which the byte is one that no crash leaves
pub record IsWrongAt (s : Cells) (image : List ℕ) (i : ℕ) : Type 0 where
  pub there : i < length image
  pub below : i < s.shortest
  pub untouched : covers s.touched i ≡ false
  pub differs : get_or image i 0 ≢ get_or s.now i 0

-- bytes of which none of the first ones is wrong
abbrev pub NoneWrong : Cells → List ℕ → ℕ → Type 0
NoneWrong s image n = (k : ℕ) → k < n → IsWrongAt s image k → ⊥

-- bytes that no crash leaves, and the first wrong index; their length if no byte is wrong
pub record IsWrong (s : Cells) (image : List ℕ) (at : ℕ) : Type 0 where
  pub first : NoneWrong s image at
  pub here : IsWrongAt s image at ⊎ ((at ≡ length image) × ((length image < s.shortest) ⊎ (s.greatest < length image)))
