-- What the trait asks of the lock: short replies that can be printed, valid states, and snapshots that are read back.
use Rattle.std.proofs.Common.{◌≡◌, ℕ, ◌≤◌, ◌==◌, Bool, true, false, ◌&&◌, ◌||◌, leb, List, [], ◌∷◌, length, take, drop, if◌then◌else◌, Option, Some, None, refl, subst, codes, arith}
use Rattle.std.specs.Str.{bytes_eq}
use Rattle.std.proofs.lemmas.Bool.{leb-true, eqb-true}
use Rattle.smart_base.specs.Cuts.{IsBytes}
use Rattle.smart_base.specs.FieldLaws.{and_true}
use Rattle.smart_base.specs.Lists.{Each}
use Rattle.smart_service.specs.Services.{IsPrintable}
use Rattle.app_lock.specs.Locks.{are_letters, is_name, name_after, changed, holder_after, is_holder, IsLock, locking}
use Rattle.app_lock.specs.declared.Lock.{Lock}

-- ---- replies

printable_letters : (text : List ℕ) → are_letters text ≡ true → Each IsPrintable text
printable_letters [] e = tt
printable_letters (byte ∷ text) e =
    let a = and_true (leb 97 byte && leb byte 122) (are_letters text) e in
    let b = and_true (leb 97 byte) (leb byte 122) a.0 in
    ((omega (arith, leb-true 97 byte b.0), omega (arith, leb-true byte 122 b.1)), printable_letters text a.1)

-- a name has at most 64 characters, and they are letters
name_parts : (text : List ℕ) → is_name text ≡ true → (length text ≤ 64) × (are_letters text ≡ true)
name_parts text e =
    let a = and_true (leb 1 (length text) && leb (length text) 64) (are_letters text) e in
    let b = and_true (leb 1 (length text)) (leb (length text) 64) a.0 in
    (leb-true (length text) 64 b.1, a.1)

brief_told : (holder : List ℕ) (named : Bool) → is_name holder ≡ named → length (if named then holder else codes "-") ≤ 4096
brief_told holder true e = omega (arith, (name_parts holder e).0)
brief_told holder false e = omega arith

printable_told : (holder : List ℕ) (named : Bool) → is_name holder ≡ named → Each IsPrintable (if named then holder else codes "-")
printable_told holder true e = printable_letters holder (name_parts holder e).1
printable_told holder false e = ((omega arith, omega arith), tt)

-- a reply has at most 4,096 bytes
pub brief_replies : (s : Lock) (op : List ℕ) → IsLock s → length (locking.reply s op) ≤ 4096
brief_replies s op h = brief_told (holder_after s.holder op) _ refl

-- a reply can be printed
pub printable_replies : (s : Lock) (op : List ℕ) → IsLock s → Each IsPrintable (locking.reply s op)
printable_replies s op h = printable_told (holder_after s.holder op) _ refl

-- ---- valid states

pub first_lock : IsLock locking.first
first_lock = refl

or_right : (a b : Bool) → b ≡ true → (a || b) ≡ true
or_right true b e = refl
or_right false b e = e

name_holds : (name : List ℕ) → is_name name ≡ true → is_holder name ≡ true
name_holds name e = or_right (length name == 0) (is_name name) e

valid_taken : (holder name : List ℕ) (held : Bool) → is_holder holder ≡ true → is_name name ≡ true
    → is_holder (if held then holder else name) ≡ true
valid_taken holder name true h e = h
valid_taken holder name false h e = name_holds name e

valid_freed : (holder : List ℕ) (frees : Bool) → is_holder holder ≡ true → is_holder (if frees then [] else holder) ≡ true
valid_freed holder true h = refl
valid_freed holder false h = h

-- what stands after a word is a name, if anything is
abbrev IsNamed : Option (List ℕ) → Type 0
IsNamed None = Unit {0}
IsNamed (Some name) = is_name name ≡ true

named : (word : Bool) (name : List ℕ) (ok : Bool) → is_name name ≡ ok → IsNamed (if word && ok then Some name else None)
named true name true e = e
named true name false e = tt
named false name ok e = tt

valid_changed : (holder : List ℕ) (takes frees : Option (List ℕ)) → is_holder holder ≡ true → IsNamed takes
    → is_holder (changed holder takes frees) ≡ true
valid_changed holder (Some name) frees h e = valid_taken holder name (is_name holder) h e
valid_changed holder None (Some name) h e = valid_freed holder (bytes_eq holder name) h
valid_changed holder None None h e = h

pub next_lock : (s : Lock) (op : List ℕ) → IsLock s → IsLock (locking.next s op)
next_lock s op h =
    valid_changed s.holder (name_after (codes "take ") op) (name_after (codes "free ") op) h
    (named (bytes_eq (take 5 op) (codes "take ")) (drop 5 op) _ refl)

-- ---- snapshots

-- nothing and names are short
short_holder : (bytes : List ℕ) (empty named : Bool) → (length bytes == 0) ≡ empty → is_name bytes ≡ named → (empty || named) ≡ true
    → length bytes ≤ 64
short_holder bytes true named e f h = omega (arith, eqb-true (length bytes) 0 e)
short_holder bytes false true e f h = (name_parts bytes f).0
short_holder bytes false false e f h = absurd cc

pub short_snapshot : (s : Lock) → IsLock s → length (locking.snapshot s) ≤ 12000000
short_snapshot s h = omega (arith, short_holder s.holder _ _ refl refl h)

-- what is read back from the snapshot of a state is the state
pub restored_lock : (s : Lock) → IsLock s → locking.restore (locking.snapshot s) ≡ Some s
restored_lock s h = rw h refl

abbrev held_by : List ℕ → Lock
held_by holder = record { holder = holder }

restored_of : (bytes : List ℕ) (ok : Bool) (s : Lock) → (if ok then Some (held_by bytes) else None) ≡ Some s
    → (ok ≡ true) × (bytes ≡ s.holder)
restored_of bytes true s e = (refl, cc)
restored_of bytes false s e = absurd cc

-- what is read back is valid
pub valid_lock : (s : Lock) (bytes : List ℕ) → IsBytes bytes → locking.restore bytes ≡ Some s → IsLock s
valid_lock s bytes each e =
    let r = restored_of bytes (is_holder bytes) s e in
    subst (λ (holder : List ℕ). is_holder holder ≡ true) r.1 r.0

-- a state has one snapshot
pub one_snapshot : (s : Lock) (bytes : List ℕ) → IsBytes bytes → locking.restore bytes ≡ Some s → bytes ≡ locking.snapshot s
one_snapshot s bytes each e = (restored_of bytes (is_holder bytes) s e).1
