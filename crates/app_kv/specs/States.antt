-- Each state that the key-value service comes to is a store.
use Rattle.std.proofs.Common.{◌≡◌, ℕ, Bool, true, false, ltb, ◌&&◌, ◌||◌, List, length, if◌then◌else◌, refl, codes, arith}
use Rattle.std.specs.Option.{is_some}
use Rattle.std.specs.Str.{bytes_eq}
use Rattle.std.proofs.lemmas.Bool.{ltb-true}
use Rattle.smart_base.specs.FieldLaws.{and_true}
use Rattle.app_kv.specs.Operations.{is_key, is_value, first_word, other_words, Meant, put, get, del, other, operation_of}
use Rattle.app_kv.specs.Stores.{IsStore, value_of, with_entry, next_of}
use Rattle.app_kv.specs.Snapshots.{keeping}
use Rattle.app_kv.specs.Entries.{store_old, store_new, store_without}
use Rattle.app_kv.specs.declared.store.Entry.{Entry}

-- ---- what is read of an operation is in its range

abbrev pub Fits : Meant → Type 0
Fits (put key value) = (is_key key ≡ true) × (is_value value ≡ true)
Fits (get key) = is_key key ≡ true
Fits (del key) = is_key key ≡ true
Fits other = Unit {0}

put_fits-step : (key value : List ℕ) (ok : Bool) → (is_key key && is_value value) ≡ ok → Fits (if ok then put key value else other)
put_fits-step key value true e = and_true (is_key key) (is_value value) e
put_fits-step key value false e = tt

get_fits-step : (key : List ℕ) (ok : Bool) → is_key key ≡ ok → Fits (if ok then get key else other)
get_fits-step key true e = e
get_fits-step key false e = tt

del_fits-step : (key : List ℕ) (ok : Bool) → is_key key ≡ ok → Fits (if ok then del key else other)
del_fits-step key true e = e
del_fits-step key false e = tt

either_fits : (first : Bool) (x y : Meant) → Fits x → Fits y → Fits (if first then x else y)
either_fits true x y p q = p
either_fits false x y p q = q

pub operation_fits : (text : List ℕ) → Fits (operation_of text)
operation_fits text =
    let command = first_word text in
    let rest = other_words text in
    either_fits (bytes_eq command (codes "put")) _ _ (put_fits-step (first_word rest) (other_words rest) _ refl)
    (either_fits (bytes_eq command (codes "get")) _ _ (get_fits-step rest _ refl)
    (either_fits (bytes_eq command (codes "del")) _ other (del_fits-step rest _ refl) tt))

-- ---- and the state stays a store

pub first_store : IsStore keeping.first
first_store = record { order = refl; few = omega arith; each = tt }

put-step : (s : List Entry) (new : Entry) (old few : Bool) → is_some (value_of new.key s) ≡ old → ltb (length s) 4096 ≡ few → IsStore s
    → (is_key new.key ≡ true) × (is_value new.value ≡ true) → IsStore (if old || few then with_entry new s else s)
put-step s new true few there room h fits = store_old s new h fits there
put-step s new false true there room h fits = store_new s new h fits (ltb-true (length s) 4096 room)
put-step s new false false there room h fits = h

pub next_of_store : (s : List Entry) (meant : Meant) → Fits meant → IsStore s → IsStore (next_of s meant)
next_of_store s (put key value) fits h = put-step s (record { key = key; value = value }) _ _ refl refl h fits
next_of_store s (get key) fits h = h
next_of_store s (del key) fits h = store_without s key h
next_of_store s other fits h = h

pub next_store : (s : List Entry) (op : List ℕ) → IsStore s → IsStore (keeping.next s op)
next_store s op h = next_of_store s (operation_of op) (operation_fits op) h
