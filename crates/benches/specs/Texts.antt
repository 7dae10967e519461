-- A service whose state is a text that no operation changes.
use Rattle.std.proofs.Common.{◌≡◌, ℕ, ◌≤◌, nat_le, Bool, true, false, List, [], length, if◌then◌else◌, Option, Some, None, refl, ap, subst, arith}
use Rattle.std.proofs.lemmas.Bool.{leb-true, le-leb}
use Rattle.smart_base.specs.Cuts.{IsBytes}
use Rattle.smart_base.specs.Lists.{Each}
use Rattle.smart_base.specs.declared.limits.TheConstants.{STATE_BYTES}
use Rattle.smart_service.specs.Services.{Meaning, IsPrintable}
use Rattle.benches.specs.declared.text.Text.{Text}

-- the texts that there are
abbrev pub IsText : Text → Type 0
IsText s = length s.bytes ≤ STATE_BYTES

-- the text that bytes are
abbrev pub restored : List ℕ → Option Text
restored bytes = if nat_le (length bytes) STATE_BYTES then Some (record { bytes = bytes }) else None

abbrev pub keeping : Meaning Text
keeping =
    record {
      first = record { bytes = [] };
      next = λ s op. s;
      reply = λ s op. [];
      snapshot = λ s. s.bytes;
      restore = restored;
    }

pub brief_replies : (s : Text) (op : List ℕ) → IsText s → length (keeping.reply s op) ≤ 4096
brief_replies s op h = omega arith

pub printable_replies : (s : Text) (op : List ℕ) → IsText s → Each IsPrintable (keeping.reply s op)
printable_replies s op h = tt

pub first_text : IsText keeping.first
first_text = omega arith

pub next_text : (s : Text) (op : List ℕ) → IsText s → IsText (keeping.next s op)
next_text s op h = h

pub short_snapshot : (s : Text) → IsText s → length (keeping.snapshot s) ≤ STATE_BYTES
short_snapshot s h = h

-- the text of a snapshot is the one that it was taken of
pub restored_text : (s : Text) → IsText s → keeping.restore (keeping.snapshot s) ≡ Some s
restored_text s h = ap (λ (few : Bool). if few then Some s else None) (le-leb (length s.bytes) STATE_BYTES h)

-- what is restored are the bytes, and they are few
restored_of : (few : Bool) (given s : Text) → (if few then Some given else None) ≡ Some s → (few ≡ true) × (given ≡ s)
restored_of true given s e = (refl, cc)
restored_of false given s e = absurd cc

pub valid_text : (s : Text) (bytes : List ℕ) → IsBytes bytes → keeping.restore bytes ≡ Some s → IsText s
valid_text s bytes each e =
    let r = restored_of (nat_le (length bytes) STATE_BYTES) (record { bytes = bytes }) s e in
    subst IsText r.1 (leb-true (length bytes) STATE_BYTES r.0)

-- a text has one snapshot
pub one_snapshot : (s : Text) (bytes : List ℕ) → IsBytes bytes → keeping.restore bytes ≡ Some s → bytes ≡ keeping.snapshot s
one_snapshot s bytes each e = ap keeping.snapshot (restored_of (nat_le (length bytes) STATE_BYTES) (record { bytes = bytes }) s e).1
