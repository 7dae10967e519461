-- Bytes are read as one list of trails, and an audit of them is one of that list.
use Rattle.std.proofs.Common.{◌≡◌, ◌∙◌, ◌⊎◌, ℕ, zero, suc, ◌+◌, List, [], length, Option, Some, None, refl, ap, sym, subst, inl, inr, arith}
use Rattle.smart_base.specs.Cuts.{contents, number_at, ranged, text_at}
use Rattle.audit_rules.specs.Audits.{first_difference}
use Rattle.audit_rules.specs.Readings.{AreRead, Reached, after_parts, next_part, parts_read, unread}
use Rattle.audit_rules.specs.declared.recorded.Difference.{Difference}
use Rattle.audit_rules.specs.declared.recorded.Reading.{Reading}
use Rattle.audit_rules.specs.declared.recorded.Recorded.{Recorded}
use Rattle.audit_play.specs.Ends.{AreDifferent, Ended, WasRead}
use Rattle.audit_play.specs.declared.status.AuditStatus.{AuditStatus}
use Rattle.audit_play.specs.declared.status.AuditStatus.TheVariants as audits
use Rattle.audit_laws.specs.Completeness.{IsOfTrails}
use Rattle.audit_laws.proofs.Complete.{of-trails, same-input}
use Rattle.audit_laws.proofs.Exclusive.{no-bytes, some-one, stuck}
use Rattle.script_play.specs.declared.status.Status.{Status}
use Rattle.smart_top.specs.Audits.{AuditEnd, status_of}
use Rattle.smart_top.specs.Groups.{IsFoundCoherent}

-- ---- one reading

none-empty : (r : Reading) (at : ℕ) → next_part (record { reading = r; cut = record { at = at; left = [] } }) ≡ None
unfolding next_part contents text_at ranged number_at
none-empty r at = refl

none-next : (x : Reached) → length x.cut.left ≡ 0 → next_part x ≡ None
none-next x none = ap (λ (l : List ℕ). next_part (record { reading = x.reading; cut = record { at = x.cut.at; left = l } })) (no-bytes x.cut.left none) ∙ none-empty x.reading x.cut.at

-- fewer, as many, or more
abbrev Compared : ℕ → ℕ → Type 0
Compared n c = ((m : ℕ) × (c ≡ n + suc m)) ⊎ ((n ≡ c) ⊎ ((m : ℕ) × (n ≡ c + suc m)))

one-more : (n c : ℕ) → Compared n c → Compared (suc n) (suc c)
one-more n c (inl less) = inl (less.0, omega (arith, less.1))
one-more n c (inr (inl same)) = inr (inl (ap (λ (k : ℕ). suc k) same))
one-more n c (inr (inr more)) = inr (inr (more.0, omega (arith, more.1)))

compare : (n c : ℕ) → Compared n c
compare zero zero = inr (inl refl)
compare zero (suc c) = inl (c, omega arith)
compare (suc n) zero = inr (inr (n, omega arith))
compare (suc n) (suc c) = one-more n c (compare n c)

some-none : {A : Type 0} (x : Option A) (y : A) → x ≡ Some y → x ≡ None → ⊥
some-none x y some none = absurd (cc)

-- two readings to the end have as many parts
same-count : (start : Option Reached) (n c : ℕ) (x y : Reached) → after_parts n start ≡ Some x → after_parts c start ≡ Some y → length x.cut.left ≡ 0 → length y.cut.left ≡ 0 → Compared n c → n ≡ c
same-count start n c x y first second all also (inl less) =
    absurd (some-none (after_parts c start) y second (subst (λ (k : ℕ). after_parts k start ≡ None) (sym less.1) (stuck n less.0 start x first (none-next x all))))
same-count start n c x y first second all also (inr (inl same)) = same
same-count start n c x y first second all also (inr (inr more)) =
    absurd (some-none (after_parts n start) x first (subst (λ (k : ℕ). after_parts k start ≡ None) (sym more.1) (stuck c more.0 start y second (none-next y also))))

pub one-reading : (bytes : List ℕ) (ts us : List Recorded) → AreRead bytes ts → AreRead bytes us → ts ≡ us
unfolding parts_read
one-reading bytes ts us read other =
    let start : Option Reached = Some (record { reading = unread; cut = record { at = 0; left = bytes } }) in
    let x : Reached = record { reading = record { trails = ts; begun = None }; cut = read.last } in
    let y : Reached = record { reading = record { trails = us; begun = None }; cut = other.last } in
    let first : after_parts read.count start ≡ Some x = read.reached in
    let second : after_parts other.count start ≡ Some y = other.reached in
    let count = same-count start read.count other.count x y first second read.all other.all (compare read.count other.count) in
    ap (λ (z : Reached). z.reading.trails) (some-one x y (sym first ∙ (ap (λ (k : ℕ). after_parts k start) count ∙ second)))

-- ---- an audit of trails without a difference

-- an end that is that of an audit of trails, and tells no difference
coherent-by : (end : AuditStatus) → IsOfTrails end → ((d : Difference) → end ≡ audits.Differs d → ⊥) → IsFoundCoherent (status_of end)
coherent-by audits.Coherent of none = tt
coherent-by audits.Empty of none = absurd of
coherent-by (audits.Form part) of none = absurd of
coherent-by audits.ReadFault of none = tt
coherent-by audits.WriteFault of none = tt
coherent-by (audits.Limit part) of none = absurd of
coherent-by (audits.Differs d) of none = absurd (none d refl)
coherent-by audits.NoMemory of none = tt

no-difference : (x : Option Difference) (d : Difference) → x ≡ None → x ≡ Some d → ⊥
no-difference x d none some = absurd (cc)

module _ (bytes : List ℕ) (trails : List Recorded) (read : AreRead bytes trails) (same : first_difference trails ≡ None) where
  never-differs : (left' written written' : Option (List ℕ)) (d : Difference) → WasRead (Some bytes) left' (AreDifferent d written written') → ⊥
  never-differs left' written written' d e =
      let input : AreRead bytes e.holds.trails = subst (λ (xs : List ℕ). AreRead xs e.holds.trails) (sym (same-input left' bytes e.input e.consumed e.end)) e.holds.read in
      no-difference (first_difference trails) d same (ap first_difference (one-reading bytes trails e.holds.trails read input) ∙ e.holds.first)

  pub finds-none : (left left' written written' : Option (List ℕ)) (wants wants' : ℕ) (status : Status) → left ≡ Some bytes → AuditEnd left left' written written' wants wants' status → IsFoundCoherent status
  finds-none left left' written written' wants wants' status is e =
      subst IsFoundCoherent (sym e.status_is)
      (coherent-by e.end (of-trails left left' written written' wants wants' bytes trails e.end is read e.ended)
      (λ d end. never-differs left' written written' d
      (subst (λ (l : Option (List ℕ)). WasRead l left' (AreDifferent d written written')) is (subst (λ (x : AuditStatus). Ended left left' written written' wants wants' x) end e.ended))))
