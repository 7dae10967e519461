-- Replies of the key-value service are short, and can be printed.
use Rattle.std.proofs.Common.{◌≡◌, ℕ, ◌≤◌, Bool, true, false, ltb, leb, ◌&&◌, List, [], ◌∷◌, length, if◌then◌else◌, Option, Some, None, refl, codes, arith}
use Rattle.std.proofs.lemmas.Bool.{leb-true}
use Rattle.std.specs.Str.{bytes_eq}
use Rattle.smart_base.specs.FieldLaws.{and_true}
use Rattle.smart_base.specs.Lists.{Each}
use Rattle.smart_service.specs.Services.{IsPrintable}
use Rattle.app_kv.specs.Operations.{is_value, are_from, Meant, put, get, del, other, operation_of}
use Rattle.app_kv.specs.Stores.{IsEntry, IsStore, value_of, put_reply, get_reply, del_reply, reply_of}
use Rattle.app_kv.specs.Snapshots.{keeping}
use Rattle.app_kv.specs.declared.store.Entry.{Entry}

-- the parts of a value
pub record ValueParts (text : List ℕ) : Type 0 where
  pub some : 1 ≤ length text
  pub short : length text ≤ 1024
  pub characters : are_from 32 text ≡ true

pub value_parts : (text : List ℕ) → is_value text ≡ true → ValueParts text
value_parts text e =
    let a = and_true (leb 1 (length text) && leb (length text) 1024) (are_from 32 text) e in
    let b = and_true (leb 1 (length text)) (leb (length text) 1024) a.0 in
    record { some = leb-true 1 (length text) b.0; short = leb-true (length text) 1024 b.1; characters = a.1 }

printable_text : (text : List ℕ) → are_from 32 text ≡ true → Each IsPrintable text
printable_text [] e = tt
printable_text (byte ∷ text) e =
    let a = and_true (leb 32 byte && leb byte 126) (are_from 32 text) e in
    let b = and_true (leb 32 byte) (leb byte 126) a.0 in
    ((leb-true 32 byte b.0, leb-true byte 126 b.1), printable_text text a.1)

abbrev IsTold : List ℕ → Type 0
IsTold text = (length text ≤ 4096) × Each IsPrintable text

printable : (text : List ℕ) → are_from 32 text ≡ true → length text ≤ 4096 → IsTold text
printable text e short = (short, printable_text text e)

put_told-step : (room : Bool) → IsTold (if room then codes "new" else codes "full")
put_told-step true = printable (codes "new") refl (omega arith)
put_told-step false = printable (codes "full") refl (omega arith)

put_told : (old : Option (List ℕ)) (count : ℕ) → IsTold (put_reply old count)
put_told (Some value) count = printable (codes "old") refl (omega arith)
put_told None count = put_told-step (ltb count 4096)

get_told-step : (same : Bool) (value : List ℕ) (others : Option (List ℕ)) → is_value value ≡ true → IsTold (get_reply others)
    → IsTold (get_reply (if same then Some value else others))
get_told-step true value others e is =
    let p = value_parts value e in
    (omega (arith, p.short), ((omega arith, omega arith), printable_text value p.characters))
get_told-step false value others e is = is

get_told : (key : List ℕ) (s : List Entry) → Each IsEntry s → IsTold (get_reply (value_of key s))
get_told key [] each = printable (codes "none") refl (omega arith)
get_told key (e ∷ es) each = get_told-step (bytes_eq key e.key) e.value (value_of key es) each.0.1 (get_told key es each.1)

del_told : (value : Option (List ℕ)) → IsTold (del_reply value)
del_told (Some value) = printable (codes "gone") refl (omega arith)
del_told None = printable (codes "none") refl (omega arith)

told : (s : List Entry) (meant : Meant) → IsStore s → IsTold (reply_of s meant)
told s (put key value) h = put_told (value_of key s) (length s)
told s (get key) h = get_told key s h.each
told s (del key) h = del_told (value_of key s)
told s other h = printable (codes "?") refl (omega arith)

-- a reply has at most 4,096 bytes
pub brief_replies : (s : List Entry) (op : List ℕ) → IsStore s → length (keeping.reply s op) ≤ 4096
brief_replies s op h = (told s (operation_of op) h).0

-- a reply can be printed
pub printable_replies : (s : List Entry) (op : List ℕ) → IsStore s → Each IsPrintable (keeping.reply s op)
printable_replies s op h = (told s (operation_of op) h).1
