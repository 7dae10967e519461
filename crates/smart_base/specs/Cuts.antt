-- Reading from left to right: a value and what is left, or the offset of the first field that cannot be read.
use Rattle.std.specs.Prelude.{◌≡◌, ℕ, zero, suc, ◌+◌, List, [], ◌∷◌, length, take, drop, Result, Ok, Err, Bool, true, nat_lt, ◌==◌, ◌-◌, ◌<◌, get_or, if◌then◌else◌}
use Rattle.std.specs.Int.{Width, w32, byte_len, from_be_bytes}
use Rattle.smart_base.specs.declared.fault.ReadError.{ReadError}
use Rattle.smart_base.specs.declared.fault.Unread.{Unread}
use Rattle.smart_base.specs.declared.fault.ReadError.TheVariants as errors

-- what is left to read, and the offset at which it begins
pub record Cut : Type 0 where
  pub at : ℕ
  pub left : List ℕ

abbrev pub Read : Type 0 → Type 0
Read A = Result (A × Cut) ℕ

-- each is a byte
pub record IsBytes (bytes : List ℕ) : Type 0 where
  pub below : (i : ℕ) → get_or bytes i 0 < 256

infixl 10 ◌>>=◌
abbrev pub ◌>>=◌ : {A B : Type 0} → Result A ℕ → (A → Result B ℕ) → Result B ℕ
(Ok x) >>= f = f x
(Err e) >>= f = Err e

abbrev pub past : ℕ → Cut → Cut
past n c = record { at = c.at + n; left = drop n c.left }

abbrev pub front : ℕ → Cut → Cut
front n c = record { at = c.at; left = take n c.left }

-- a field of n bytes
abbrev pub fixed_at : ℕ → Cut → Read Cut
fixed_at n c = if nat_lt (length c.left) n then Err c.at else Ok (front n c, past n c)

unfoldable pub number_at : Width → Cut → Read ℕ
number_at w c = do
  n ← fixed_at (byte_len w) c
  Ok (from_be_bytes w n.0.left, n.1)

-- a field that has to be in its range
unfoldable pub ranged : {A : Type 0} → (A → Bool) → (Cut → Read A) → Cut → Read A
ranged ok f c = do
  x ← f c
  if ok x.0 then Ok x else Err c.at

abbrev pub fault_at : {A : Type 0} → ℕ → Result A ℕ → Result A ℕ
fault_at at (Ok x) = Ok x
fault_at at (Err e) = Err at

-- a length in its range and that many bytes: the fault is at the length
unfoldable pub text_at : Width → (ℕ → Bool) → Cut → Read Cut
text_at w ok c = do
  n ← ranged ok (number_at w) c
  fault_at c.at (fixed_at n.0 n.1)

abbrev pub anything : ℕ → Bool
anything n = true

abbrev pub bytes_at : Cut → Read Cut
bytes_at = text_at w32 anything

-- the bytes of a field
unfoldable pub contents : (Cut → Read Cut) → Cut → Read (List ℕ)
contents f c = do
  b ← f c
  Ok (b.0.left, b.1)

-- all of what is left
unfoldable pub whole : {A : Type 0} → (Cut → Read A) → Cut → Result A ℕ
whole f c = do
  x ← f c
  if length x.1.left == 0 then Ok x.0 else Err x.1.at

-- a value that fills bytes
unfoldable pub sized_at : {A : Type 0} → (Cut → Read A) → Cut → Read A
sized_at f c = do
  b ← bytes_at c
  x ← whole f b.0
  Ok (x, b.1)

unfoldable pub times_at : {A : Type 0} → (Cut → Read A) → ℕ → Cut → Read (List A)
times_at f zero c = Ok ([], c)
times_at f (suc n) c = do
  x ← f c
  xs ← times_at f n x.1
  Ok (x.0 ∷ xs.0, xs.1)

-- a value of at most n bytes: a field that ends past them cannot be read
unfoldable pub limited : {A : Type 0} → ℕ → (Cut → Read A) → Cut → Read A
limited n f c = do
  x ← f (front n c)
  Ok (x.0, past (length (take n c.left) - length x.1.left) c)

-- What a function returned, and how it left its cursor, is what reading gives, unless memory ran out.
abbrev pub Fails : {A : Type 0} → ReadError → Result A ℕ → Type 0
Fails errors.NoMemory read = Unit {0}
Fails (errors.Unread at) read = read ≡ Err at

abbrev pub Gives : {A : Type 0} → Result A ReadError → Cut → Read A → Type 0
Gives (Ok x) c read = read ≡ Ok (x, c)
Gives (Err e) c read = Fails e read

-- the same of a function that takes no memory
abbrev pub Takes : {A : Type 0} → Result A Unread → Cut → Read A → Type 0
Takes (Ok x) c read = read ≡ Ok (x, c)
Takes (Err e) c read = read ≡ Err e.at

-- the same of a function that reads all of its bytes
abbrev pub GivesAll : {A : Type 0} → Result A ReadError → Result A ℕ → Type 0
GivesAll (Ok x) read = read ≡ Ok x
GivesAll (Err e) read = Fails e read
