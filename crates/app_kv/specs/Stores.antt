-- What the key-value service keeps: a value for each of some keys.
use Rattle.std.specs.Prelude.{◌≡◌, ℕ, suc, ◌<◌, ◌≤◌, nat_lt, ◌&&◌, ◌||◌, Bool, true, List, [], ◌∷◌, ◌++◌, length, slice_index_or, if◌then◌else◌, Option, Some, None, codes}
use Rattle.std.specs.Ordering.{nat_cmp, match_ordering, is_lt, is_gt}
use Rattle.std.specs.declared.cmp.Ordering.{Ordering}
use Rattle.std.specs.Cmp.Lexicographic.{slice_cmp}
use Rattle.std.specs.Option.{is_some}
use Rattle.std.specs.Str.{bytes_eq}
use Rattle.smart_base.specs.Lists.{Each}
use Rattle.app_kv.specs.Operations.{is_key, is_value, Meant, put, get, del, other}
use Rattle.app_kv.specs.declared.store.Entry.{Entry}

-- texts in the order of their bytes: one that others go on from comes before them
abbrev pub byte_order : List ℕ → List ℕ → Ordering
byte_order = slice_cmp nat_cmp

-- entries that ascend by key, all above one key
abbrev pub above : List ℕ → List Entry → Bool
above key [] = true
above key (e ∷ es) = is_lt (byte_order key e.key) && above e.key es

-- entries that ascend by key
abbrev pub ascends : List Entry → Bool
ascends [] = true
ascends (e ∷ es) = above e.key es

abbrev pub IsEntry : Entry → Type 0
IsEntry e = (is_key e.key ≡ true) × (is_value e.value ≡ true)

-- the entries that there are: they ascend by key, and are at most 4,096
pub record IsStore (s : List Entry) : Type 0 where
  pub order : ascends s ≡ true
  pub few : length s ≤ 4096
  pub each : Each IsEntry s

-- the value of a key, if it is there
abbrev pub value_of : List ℕ → List Entry → Option (List ℕ)
value_of key [] = None
value_of key (e ∷ es) = if bytes_eq key e.key then Some e.value else value_of key es

-- the entries with one in place of the one with its key, or where it belongs
abbrev pub with_entry : Entry → List Entry → List Entry
with_entry new [] = new ∷ []
with_entry new (e ∷ es) = match_ordering (byte_order new.key e.key) (new ∷ e ∷ es) (new ∷ es) (e ∷ with_entry new es)

-- the entries without the one with a key
abbrev pub without : List ℕ → List Entry → List Entry
without key [] = []
without key (e ∷ es) = if bytes_eq key e.key then es else e ∷ without key es

-- where 4,096 keys stand no other can be put
abbrev pub has_place : List ℕ → List Entry → Bool
has_place key s = is_some (value_of key s) || nat_lt (length s) 4096

-- the entries after an operation
abbrev pub next_of : List Entry → Meant → List Entry
next_of s (put key value) = if has_place key s then with_entry (record { key = key; value = value }) s else s
next_of s (get key) = s
next_of s (del key) = without key s
next_of s other = s

-- what a put of a key replies where this is its value so far, and so many keys are there
abbrev pub put_reply : Option (List ℕ) → ℕ → List ℕ
put_reply (Some value) count = codes "old"
put_reply None count = if nat_lt count 4096 then codes "new" else codes "full"

-- what a get replies
abbrev pub get_reply : Option (List ℕ) → List ℕ
get_reply (Some value) = codes "=" ++ value
get_reply None = codes "none"

abbrev pub del_reply : Option (List ℕ) → List ℕ
del_reply (Some value) = codes "gone"
del_reply None = codes "none"

-- the reply to an operation
abbrev pub reply_of : List Entry → Meant → List ℕ
reply_of s (put key value) = put_reply (value_of key s) (length s)
reply_of s (get key) = get_reply (value_of key s)
reply_of s (del key) = del_reply (value_of key s)
reply_of s other = codes "?"

-- ---- where entries stand

-- how many entries stand before a key's
abbrev pub entries_before : List ℕ → List Entry → ℕ
entries_before key [] = 0
entries_before key (e ∷ es) = if is_gt (byte_order key e.key) then suc (entries_before key es) else 0

-- a key's entry stands at an index
pub record Found (s : List Entry) (key : List ℕ) (at : ℕ) : Type 0 where
  pub place : at ≡ entries_before key s
  pub within : at < length s
  pub same : (d : Entry) → bytes_eq key (slice_index_or s at d).key ≡ true

-- a key has no entry, and one belongs at an index
pub record Missing (s : List Entry) (key : List ℕ) (at : ℕ) : Type 0 where
  pub place : at ≡ entries_before key s
  pub within : at ≤ length s
  pub none : value_of key s ≡ None
