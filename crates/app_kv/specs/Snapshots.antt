-- Snapshots of entries, and what the service means.
use Rattle.std.specs.Prelude.{ℕ, nat_le, List, [], ◌++◌, length, if◌then◌else◌, Result, Ok, Err, Option, Some, None}
use Rattle.std.specs.Int.{w16, w32}
use Rattle.std.specs.List.{flat_map}
use Rattle.smart_base.specs.Cuts.{Cut, Read, ◌>>=◌, ranged, number_at, times_at, whole}
use Rattle.smart_base.specs.Fields.{text_to}
use Rattle.smart_base.specs.Spelling.{u16, behind}
use Rattle.smart_service.specs.Services.{Meaning}
use Rattle.app_kv.specs.Operations.{is_key, is_value, operation_of}
use Rattle.app_kv.specs.Stores.{ascends, next_of, reply_of}
use Rattle.app_kv.specs.declared.store.Entry.{Entry}

-- ---- how entries are spelled

-- a key and its value, each behind its length
abbrev pub entry_text : Entry → List ℕ
entry_text e = behind w32 e.key ++ behind w32 e.value

-- how many entries, and each
abbrev pub store_text : List Entry → List ℕ
store_text s = u16 (length s) ++ flat_map entry_text s

-- ---- and how they are read

abbrev pub key_at : Cut → Read (List ℕ)
key_at = ranged is_key (text_to 64)

abbrev pub value_at : Cut → Read (List ℕ)
value_at = ranged is_value (text_to 1024)

unfoldable pub entry_at : Cut → Read Entry
entry_at c = do
  k ← key_at c
  v ← value_at k.1
  Ok (record { key = k.0; value = v.0 }, v.1)

abbrev pub entry_count_at : Cut → Read ℕ
entry_count_at = ranged (λ n. nat_le n 4096) (number_at w16)

unfoldable pub store_at : Cut → Read (List Entry)
store_at c = do
  n ← entry_count_at c
  times_at entry_at n.0 n.1

-- the entries that all of the bytes are
abbrev pub read_store : List ℕ → Result (List Entry) ℕ
read_store bytes = whole store_at (record { at = 0; left = bytes })

-- what was read, if it ascends by key
abbrev pub ascending : Result (List Entry) ℕ → Option (List Entry)
ascending (Ok s) = if ascends s then Some s else None
ascending (Err at) = None

abbrev pub keeping : Meaning (List Entry)
keeping =
    record {
      first = [];
      next = λ s op. next_of s (operation_of op);
      reply = λ s op. reply_of s (operation_of op);
      snapshot = store_text;
      restore = λ bytes. ascending (read_store bytes);
    }
