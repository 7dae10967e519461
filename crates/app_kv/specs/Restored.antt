-- Snapshots of stores, and what is restored of them.
use Rattle.std.proofs.Common.{◌≡◌, ℕ, ◌*◌, ◌^◌, ◌<◌, ◌≤◌, Bool, true, false, leb, ◌&&◌, List, [], ◌∷◌, length, if◌then◌else◌, Result, Ok, Err, Some, None, refl, ap, subst, ◌∙◌, arith}
use Rattle.std.specs.Int.{w16, w32, to_be_bytes}
use Rattle.std.specs.List.{flat_map, AllByRecursion}
use Rattle.std.proofs.lemmas.Bool.{leb-true, le-leb}
use Rattle.std.proofs.lemmas.List.{length-append}
use Rattle.std.proofs.lemmas.List.Concat.{flat_map-cons}
use Rattle.smart_base.specs.Cuts.{Cut, IsBytes, number_at, times_at}
use Rattle.smart_base.specs.FieldLaws.{and_true, u16_law, text_law}
use Rattle.smart_base.specs.Fields.{text_to}
use Rattle.smart_base.specs.Laws.{then_law, last_law, refit, ranged_law, times_law, whole_takes, whole_again}
use Rattle.smart_base.specs.Lists.{Each}
use Rattle.smart_base.specs.Spelling.{behind, Law}
use Rattle.app_kv.specs.Operations.{is_key, is_value, are_from}
use Rattle.app_kv.specs.Replies.{value_parts}
use Rattle.app_kv.specs.Snapshots.{entry_text, store_text, key_at, value_at, entry_at, entry_count_at, store_at, read_store, ascending, keeping}
use Rattle.app_kv.specs.Stores.{ascends, IsEntry, IsStore}
use Rattle.app_kv.specs.declared.store.Entry.{Entry}

-- ---- lengths

pub key_short : (text : List ℕ) → is_key text ≡ true → length text ≤ 64
key_short text e =
    let a = and_true (leb 1 (length text) && leb (length text) 64) (are_from 33 text) e in
    leb-true (length text) 64 (and_true (leb 1 (length text)) (leb (length text) 64) a.0).1

pub value_short : (text : List ℕ) → is_value text ≡ true → length text ≤ 1024
value_short text e = (value_parts text e).short

short_entry : (e : Entry) → IsEntry e → length (entry_text e) ≤ 1096
short_entry e h =
    omega (arith, length-append (behind w32 e.key) (behind w32 e.value), length-append (to_be_bytes w32 (length e.key)) e.key, length-append (to_be_bytes w32 (length e.value)) e.value, key_short e.key h.0, value_short e.value h.1)

short_entries : (es : List Entry) → Each IsEntry es → length (flat_map entry_text es) ≤ 1096 * length es
short_entries [] h = omega arith
short_entries (e ∷ es) h =
    omega (arith, ap length (flat_map-cons entry_text e es), length-append (entry_text e) (flat_map entry_text es), short_entry e h.0, short_entries es h.1)

pub short_snapshot : (s : List Entry) → IsStore s → length (keeping.snapshot s) ≤ 12000000
short_snapshot s h =
    omega (arith, length-append (to_be_bytes w16 (length s)) (flat_map entry_text s), short_entries s h.each, h.few)

-- ---- what is read is what is spelled

key_law : Law (λ text. is_key text ≡ true) (behind w32) key_at
key_law =
    refit (λ text. (length text ≤ 64) × (is_key text ≡ true)) (λ text. is_key text ≡ true) (behind w32) key_at
    (ranged_law (λ text. length text ≤ 64) (behind w32) (text_to 64) is_key (text_law 64 (omega arith)))
    (λ text h. h.1) (λ text h. (key_short text h, h))

value_law : Law (λ text. is_value text ≡ true) (behind w32) value_at
value_law =
    refit (λ text. (length text ≤ 1024) × (is_value text ≡ true)) (λ text. is_value text ≡ true) (behind w32) value_at
    (ranged_law (λ text. length text ≤ 1024) (behind w32) (text_to 1024) is_value (text_law 1024 (omega arith)))
    (λ text h. h.1) (λ text h. (value_short text h, h))

abbrev made : List ℕ → List ℕ → Entry
made key value = record { key = key; value = value }

made_is : (e : Entry) (key : List ℕ) → e.key ≡ key → made key e.value ≡ e
made_is e key same = rw (← same) refl

entry_law : Law IsEntry entry_text entry_at
unfolding entry_at
entry_law =
    refit _ IsEntry entry_text entry_at
    (then_law (λ (e : Entry). e.key) (λ e. Unit {0}) (λ key. is_key key ≡ true) (behind w32) key_at (λ e. is_value e.value ≡ true) (λ e. behind w32 e.value) _
    key_law λ key is_key.
    last_law (λ (e : Entry). e.value) (λ e. Unit {0} × (e.key ≡ key)) (λ value. is_value value ≡ true) (behind w32) value_at (λ value. made key value)
    value_law (λ value h. (tt, refl)) (λ value. refl) (λ e h. made_is e key h.1))
    (λ e h. h.1) (λ e h. (tt, h))

count_law : Law (λ n. n ≤ 4096) (to_be_bytes w16) entry_count_at
count_law =
    refit (λ n. (n < 2 ^ 16) × (leb n 4096 ≡ true)) (λ n. n ≤ 4096) (to_be_bytes w16) entry_count_at
    (ranged_law (λ n. n < 2 ^ 16) (to_be_bytes w16) (number_at w16) (λ n. leb n 4096) u16_law)
    (λ n h. leb-true n 4096 h.1) (λ n h. (omega (arith, h), le-leb n 4096 h))

each_is : (es : List Entry) → AllByRecursion IsEntry es → Each IsEntry es
each_is [] h = tt
each_is (e ∷ es) h = (h.0, each_is es h.1)

all_is : (es : List Entry) → Each IsEntry es → AllByRecursion IsEntry es
all_is [] h = tt
all_is (e ∷ es) h = (h.0, all_is es h.1)

-- entries in any order
abbrev pub AreEntries : List Entry → Type 0
AreEntries s = (length s ≤ 4096) × Each IsEntry s

pub store_law : Law AreEntries store_text store_at
unfolding store_at
store_law =
    refit (λ s. Unit {0} × ((length s ≤ 4096) × Each IsEntry s)) AreEntries store_text store_at
    (then_law (λ (s : List Entry). length s) (λ s. Unit {0}) (λ n. n ≤ 4096) (to_be_bytes w16) entry_count_at (Each IsEntry) (flat_map entry_text) (λ n. times_at entry_at n)
    count_law λ n few.
    refit (λ s. (length s ≡ n) × AllByRecursion IsEntry s) (λ s. (Unit {0} × (length s ≡ n)) × Each IsEntry s) (flat_map entry_text) (times_at entry_at n)
    (times_law IsEntry entry_text entry_at entry_law n)
    (λ s h. ((tt, h.0), each_is s h.1)) (λ s h. (h.0.1, all_is s h.1)))
    (λ s h. h.1) (λ s h. (tt, h))

-- ---- stores come back

ascending_is : (s : List Entry) (up : Bool) (t : List Entry) → (if up then Some s else None) ≡ Some t → (up ≡ true) × (s ≡ t)
ascending_is s true t e = (refl, cc)
ascending_is s false t e = absurd cc

read_is : (r : Result (List Entry) ℕ) (s : List Entry) → ascending r ≡ Some s → (r ≡ Ok s) × (ascends s ≡ true)
read_is (Ok t) s e =
    let p = ascending_is t (ascends t) s e in
    (ap (λ (s : List Entry). Ok s) p.1, subst (λ (s : List Entry). ascends s ≡ true) p.1 p.0)
read_is (Err at) s e = absurd cc

abbrev all_of : List ℕ → Cut
all_of bytes = record { at = 0; left = bytes }

-- what is restored from the snapshot of a store is the store
pub restored_store : (s : List Entry) → IsStore s → keeping.restore (keeping.snapshot s) ≡ Some s
restored_store s h =
    ap ascending (whole_again AreEntries store_text store_at store_law (all_of (store_text s)) s (h.few, h.each) refl) ∙ rw h.order refl

-- what is restored is a store
pub valid_store : (s : List Entry) (bytes : List ℕ) → IsBytes bytes → keeping.restore bytes ≡ Some s → IsStore s
valid_store s bytes each e =
    let r = read_is (read_store bytes) s e in
    let t = whole_takes AreEntries store_text store_at store_law (all_of bytes) s each r.0 in
    record { order = r.1; few = t.0.0; each = t.0.1 }

-- and the bytes are its snapshot
pub one_snapshot : (s : List Entry) (bytes : List ℕ) → IsBytes bytes → keeping.restore bytes ≡ Some s → bytes ≡ keeping.snapshot s
one_snapshot s bytes each e =
    (whole_takes AreEntries store_text store_at store_law (all_of bytes) s each (read_is (read_store bytes) s e).0).1
