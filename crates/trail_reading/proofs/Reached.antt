-- Parts are read one after the other.
use Rattle.std.proofs.Common.{◌≡◌, ◌<◌, ℕ, zero, suc, ◌+◌, ◌==◌, Bool, true, false, List, [], ◌∷◌, length, Option, Some, None, refl, ap, sym, subst, ◌∙◌, add-one, arith}
use Rattle.std.proofs.lemmas.Bool.{eqb-true}
use Rattle.std.specs.Option.{option_and_then}
use Rattle.smart_base.specs.Cuts.{Cut}
use Rattle.audit_rules.specs.declared.recorded.Reading.{Reading}
use Rattle.audit_rules.specs.declared.recorded.Recorded.{Recorded}
use Rattle.audit_rules.specs.declared.recorded.TheConstants.{PARTS}
use Rattle.audit_rules.specs.Readings.{Reached, unread, next_part, after_parts, parts_read, Refuses}
use Rattle.trail_reading.specs.Takings.{HasNext, IsStop, IsRead}
use Rattle.trail_reading.specs.declared.parts.Stop.{Stop}
use Rattle.trail_reading.specs.declared.parts.Stop.TheVariants.{Done, Unreadable, Limit}
use Rattle.trail_reading.specs.declared.parts.PartsRead.{PartsRead}

-- no part was read
pub starts : (bytes : List ℕ) (trails : List Recorded) (c : Cut) → trails ≡ [] → c ≡ record { at = 0; left = bytes }
    → parts_read bytes 0 ≡ Some (record { reading = record { trails = trails; begun = None }; cut = c })
unfolding parts_read
starts bytes trails c none is = rw (none, is) refl

next_of : (n : ℕ) (x y : Reached) (before : Option Reached) → before ≡ Some x → next_part x ≡ Some y → option_and_then next_part before ≡ Some y
next_of n x y before is more = rw is more

-- one more part was read
pub more : (bytes : List ℕ) (n : ℕ) (taken : Bool) (x y : Reached) → parts_read bytes n ≡ Some x → HasNext taken x y → taken ≡ true → parts_read bytes (n + 1) ≡ Some y
unfolding parts_read
more bytes n true x y so_far next is = ap (λ k. parts_read bytes k) (add-one n) ∙ next_of n x y (after_parts n (Some (record { reading = unread; cut = record { at = 0; left = bytes } }))) so_far next
more bytes n false x y so_far next is = absurd (cc)

none_left : (left : List ℕ) (is : Bool) → is ≡ (length left == 0) → is ≡ true → length left ≡ 0
none_left left is told done = eqb-true (length left) 0 (sym told ∙ done)

some_left : (left : List ℕ) (is : Bool) → is ≡ (length left == 0) → is ≡ false → 0 < length left
some_left [] is told not_done = absurd (cc)
some_left (b ∷ bs) is told not_done = omega arith

-- the next part could not be read
pub refused : (bytes : List ℕ) (n : ℕ) (taken is : Bool) (x y : Reached) → parts_read bytes n ≡ Some x → HasNext taken x y → taken ≡ false → n < PARTS → is ≡ (length x.cut.left == 0) → is ≡ false
    → IsRead bytes (record { reading = y.reading; count = n; stop = Unreadable })
refused bytes n true is x y so_far next not_taken few told going = absurd (cc)
refused bytes n false is x y so_far next not_taken few told going =
    record { few = omega (arith, few); last = x; reached = so_far; same = sym next.1; stop = (few, (some_left x.cut.left is told going, next.0)) }

-- nothing is left
pub done : (bytes : List ℕ) (n : ℕ) (x : Reached) (is : Bool) → parts_read bytes n ≡ Some x → n < PARTS → is ≡ (length x.cut.left == 0) → is ≡ true
    → IsRead bytes (record { reading = x.reading; count = n; stop = Done })
done bytes n x is so_far few told ended = record { few = omega (arith, few); last = x; reached = so_far; same = refl; stop = none_left x.cut.left is told ended }

-- nothing is left after the last part that there may be
pub done_last : (bytes : List ℕ) (n : ℕ) (x : Reached) (is : Bool) (stop : Stop) → parts_read bytes n ≡ Some x → n ≡ PARTS → is ≡ (length x.cut.left == 0) → is ≡ true → stop ≡ Done
    → IsRead bytes (record { reading = x.reading; count = PARTS; stop = stop })
done_last bytes n x is stop so_far last told ended stop_is =
    subst (λ (s : Stop). IsRead bytes (record { reading = x.reading; count = PARTS; stop = s })) (sym stop_is)
    (record { few = omega arith; last = x; reached = ap (λ k. parts_read bytes k) (sym last) ∙ so_far; same = refl; stop = none_left x.cut.left is told ended })

-- too much is left
pub limited : (bytes : List ℕ) (n : ℕ) (x : Reached) (is : Bool) (stop : Stop) → parts_read bytes n ≡ Some x → n ≡ PARTS → is ≡ (length x.cut.left == 0) → is ≡ false → stop ≡ Limit
    → IsRead bytes (record { reading = x.reading; count = PARTS; stop = stop })
limited bytes n x is stop so_far last told going stop_is =
    subst (λ (s : Stop). IsRead bytes (record { reading = x.reading; count = PARTS; stop = s })) (sym stop_is)
    (record { few = omega arith; last = x; reached = ap (λ k. parts_read bytes k) (sym last) ∙ so_far; same = refl; stop = (some_left x.cut.left is told going, refl) })
