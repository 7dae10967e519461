-- What operations are as texts.
use Rattle.std.specs.Prelude.{◌≡◌, ℕ, ◌==◌, nat_le, ◌&&◌, Bool, true, List, length, if◌then◌else◌, codes, ◌++◌}
use Rattle.std.specs.List.{list_all, before_first, after_first}
use Rattle.std.specs.Str.{bytes_eq}
use Rattle.app_kv.specs.declared.operation.Operation.{Operation}
use Rattle.app_kv.specs.declared.operation.Operation.TheVariants as read

-- characters that can be printed, of which the space is the least
abbrev pub are_from : ℕ → List ℕ → Bool
are_from least text = list_all (λ byte. nat_le least byte && nat_le byte 126) text

-- 1 to 64 characters, none of them a space
abbrev pub is_key : List ℕ → Bool
is_key text = nat_le 1 (length text) && nat_le (length text) 64 && are_from 33 text

-- 1 to 1,024 characters
abbrev pub is_value : List ℕ → Bool
is_value text = nat_le 1 (length text) && nat_le (length text) 1024 && are_from 32 text

abbrev pub is_space : ℕ → Bool
is_space byte = byte == 32

-- what stands before the first space: all of a text that has none
abbrev pub first_word : List ℕ → List ℕ
first_word text = before_first is_space text

-- what stands behind the first space: nothing of a text that has none
abbrev pub other_words : List ℕ → List ℕ
other_words text = after_first is_space text

-- an operation: to give a key a value, to tell its value, to take it out, or what is none of these
pub data Meant : Type 0 where
  put : List ℕ → List ℕ → Meant
  get : List ℕ → Meant
  del : List ℕ → Meant
  other : Meant

abbrev pub put_of : List ℕ → List ℕ → Meant
put_of key value = if is_key key && is_value value then put key value else other

abbrev pub get_of : List ℕ → Meant
get_of key = if is_key key then get key else other

abbrev pub del_of : List ℕ → Meant
del_of key = if is_key key then del key else other

-- the operation that a command and what stands behind it are. A value may have spaces
abbrev pub command_of : List ℕ → List ℕ → Meant
command_of command rest =
    if bytes_eq command (codes "put") then put_of (first_word rest) (other_words rest)
    else if bytes_eq command (codes "get") then get_of rest
    else if bytes_eq command (codes "del") then del_of rest
    else other

-- the operation that a text is
abbrev pub operation_of : List ℕ → Meant
operation_of text = command_of (first_word text) (other_words text)

-- a text that spells an operation: its words are parted by one space each. Nothing spells what is none
abbrev pub Spells : List ℕ → Meant → Type 0
Spells text (put key value) = (is_key key ≡ true) × (is_value value ≡ true) × (text ≡ codes "put " ++ (key ++ (codes " " ++ value)))
Spells text (get key) = (is_key key ≡ true) × (text ≡ codes "get " ++ key)
Spells text (del key) = (is_key key ≡ true) × (text ≡ codes "del " ++ key)
Spells text other = ⊥

-- what a function read is the operation
abbrev pub Reads : Operation → Meant → Type 0
Reads (read.Put key value) meant = meant ≡ put key.now value.now
Reads (read.Get key) meant = meant ≡ get key.now
Reads (read.Del key) meant = meant ≡ del key.now
Reads read.Other meant = meant ≡ other
