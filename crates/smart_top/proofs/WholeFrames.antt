-- An input of whole frames is never cut off.
use Rattle.std.proofs.Common.{◌≡◌, ◌∙◌, ◌≤◌, ◌<◌, ◌⊎◌, ◌++◌, inl, inr, ℕ, Bool, true, false, List, [], length, is_some, Option, None, Some, if◌then◌else◌, refl, sym, ap, subst, append_assoc, arith}
use Rattle.std.specs.Prelude.{nat_lt, nat_le}
use Rattle.std.proofs.lemmas.List.{append-nil, length-append, take-append-le}
use Rattle.std.proofs.lemmas.Bool.Decides.{nat_tests}
use Rattle.std.specs.List.{flat_map}
use Rattle.std.specs.Io.KnownBytes.{Consumes, IsAtEnd}
use Rattle.byteorder.specs.Numbers.{big_from-take}
use Rattle.smart_base.specs.Lists.{Each}
use Rattle.smart_base.specs.declared.limits.TheConstants.{MESSAGE_BYTES}
use Rattle.frame_stream.specs.Frames.{framed, length_at, too_long, IsCut, IsShort}
use Rattle.frame_stream.proofs.Cutting.{one-cut}

-- whole frames are cut, and nothing is left
whole-cut : (frames : List (List ℕ)) → Each IsShort frames → IsCut (flat_map framed frames) frames []
whole-cut frames short = record { is = sym (append-nil (flat_map framed frames)); short = short; end = record { few = λ _ _. omega arith } }

-- the length with which bytes begin, whatever follows them
length-before : (rest more : List ℕ) → 4 ≤ length rest → length_at (rest ++ more) ≡ length_at rest
length-before rest more long =
    sym (big_from-take 0 4 4 (rest ++ more) (omega arith)) ∙ (ap length_at (take-append-le 4 rest more long) ∙ big_from-take 0 4 4 rest (omega arith))

both-fail : (a b : Bool) (n : ℕ) → is_some (if a then None else (if b then None else Some n)) ≡ true → (a ≡ false) × (b ≡ false)
both-fail true b n is = absurd (cc)
both-fail false true n is = absurd (cc)
both-fail false false n is = (refl, refl)

-- bytes that are too long begin with a length above the limit
begins-long : (rest : List ℕ) → is_some (too_long rest) ≡ true → (4 ≤ length rest) × (MESSAGE_BYTES < length_at rest)
begins-long rest is =
    let tests = both-fail (nat_lt (length rest) 4) (nat_le (length_at rest) MESSAGE_BYTES) (length_at rest) is in
    (at_least (length rest) 4 tests.0, above (length_at rest) MESSAGE_BYTES tests.1)
  where
    at_least : (n m : ℕ) → nat_lt n m ≡ false → m ≤ n
    at_least n m other = grind (arith, nat_tests)

    above : (n m : ℕ) → nat_le n m ≡ false → m < n
    above n m other = grind (arith, nat_tests)

-- Whole frames are not cut off: none of them is too long, and their end is no end within one.
pub never_cut : (frames : List (List ℕ)) (left' : Option (List ℕ)) (read : List ℕ) (given : List (List ℕ)) (rest : List ℕ) → Each IsShort frames → Consumes (Some (flat_map framed frames)) left' read
    → IsCut read given rest → (is_some (too_long rest) ≡ true) ⊎ (IsAtEnd left' × (0 < length rest)) → ⊥
never_cut frames None read given rest short consumed cut off = absurd consumed
never_cut frames (Some more) read given rest short consumed cut (inl is) =
    let long = begins-long rest is in
    let same = length-before rest more long.0 in
    let longer : IsCut (flat_map framed frames) given (rest ++ more) = record {
      is = consumed ∙ (ap (λ (x : List ℕ). x ++ more) cut.is ∙ append_assoc (flat_map framed given) rest more);
      short = cut.short;
      end = record { few = λ _ few. absurd (omega (arith, few, same, long.1)) };
    } in
    let none = (one-cut (flat_map framed frames) frames given [] (rest ++ more) (whole-cut frames short) longer).1 in
    absurd (omega (arith, ap length none, length-append rest more, long.0))
never_cut frames (Some more) read given rest short consumed cut (inr off) =
    let all : flat_map framed frames ≡ read = consumed ∙ (ap (λ (x : List ℕ). read ++ x) off.0 ∙ append-nil read) in
    let none = (one-cut (flat_map framed frames) frames given [] rest (whole-cut frames short) (subst (λ (x : List ℕ). IsCut x given rest) (sym all) cut)).1 in
    absurd (omega (arith, ap length none, off.1))

pub consumes_read : (left left' : Option (List ℕ)) (bytes read lost : List ℕ) → left ≡ Some bytes → lost ≡ [] → Consumes left left' (read ++ lost) → Consumes (Some bytes) left' read
consumes_read left left' bytes read lost is none consumed =
    subst (λ (l : Option (List ℕ)). Consumes l left' read) is (subst (λ (x : List ℕ). Consumes left left' x) (ap (λ (x : List ℕ). read ++ x) none ∙ append-nil read) consumed)
