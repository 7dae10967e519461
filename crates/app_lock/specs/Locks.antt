-- A service that keeps a lock.
use Rattle.std.specs.Prelude.{◌≡◌, ℕ, ◌==◌, nat_le, Bool, true, ◌&&◌, ◌||◌, List, [], length, take, drop, if◌then◌else◌, Option, Some, None, codes}
use Rattle.std.specs.List.{list_all}
use Rattle.std.specs.Str.{bytes_eq}
use Rattle.smart_service.specs.Services.{Meaning}
use Rattle.app_lock.specs.declared.Lock.{Lock}

-- small letters
abbrev pub are_letters : List ℕ → Bool
are_letters text = list_all (λ byte. nat_le 97 byte && nat_le byte 122) text

-- 1 to 64 small letters
abbrev pub is_name : List ℕ → Bool
is_name text = nat_le 1 (length text) && nat_le (length text) 64 && are_letters text

-- the name that stands after a word, if the operation is the word and a name
abbrev pub name_after : List ℕ → List ℕ → Option (List ℕ)
name_after word op =
    if bytes_eq (take (length word) op) word && is_name (drop (length word) op) then Some (drop (length word) op) else None

-- the holder after `take NAME`: who holds the lock keeps it
abbrev pub taken : List ℕ → List ℕ → List ℕ
taken holder name = if is_name holder then holder else name

-- the holder after `free NAME`: nobody, if it was that name
abbrev pub freed : List ℕ → List ℕ → List ℕ
freed holder name = if bytes_eq holder name then [] else holder

-- the holder after an operation that takes the lock for a name, or frees it for a name, or does neither
abbrev pub changed : List ℕ → Option (List ℕ) → Option (List ℕ) → List ℕ
changed holder (Some name) frees = taken holder name
changed holder None (Some name) = freed holder name
changed holder None None = holder

-- the holder after an operation that is a text
abbrev pub holder_after : List ℕ → List ℕ → List ℕ
holder_after holder op = changed holder (name_after (codes "take ") op) (name_after (codes "free ") op)

-- what a reply says of the holder
abbrev pub told : List ℕ → List ℕ
told holder = if is_name holder then holder else codes "-"

-- nothing, or a name
abbrev pub is_holder : List ℕ → Bool
is_holder bytes = length bytes == 0 || is_name bytes

-- the states that the service comes to: nobody holds the lock, or a name does
abbrev pub IsLock : Lock → Type 0
IsLock s = is_holder s.holder ≡ true

-- the state that bytes are, if they are one
abbrev pub restored : List ℕ → Option Lock
restored bytes = if is_holder bytes then Some (record { holder = bytes }) else None

-- what the service means
abbrev pub locking : Meaning Lock
locking =
    record {
      first = record { holder = [] };
      next = λ s op. record { holder = holder_after s.holder op };
      reply = λ s op. told (holder_after s.holder op);
      snapshot = λ s. s.holder;
      restore = restored;
    }
