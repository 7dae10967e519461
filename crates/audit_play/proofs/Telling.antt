-- What is told of trails that were read.
use Rattle.std.proofs.Common.{◌≡◌, ℕ, List, Option, None, Some, refl, sym, subst, inl, inr}
use Rattle.std.specs.Io.KnownBytes.{Appends, Consumes, IsAtEnd}
use Rattle.audit_rules.specs.Audits.{first_difference, verdict_of}
use Rattle.audit_rules.specs.Readings.{AreRead}
use Rattle.audit_rules.specs.declared.recorded.Recorded.{Recorded}
use Rattle.audit_rules.specs.declared.recorded.Difference.{Difference}
use Rattle.audit_rules.specs.declared.recorded.Verdict.TheVariants as verdicts
use Rattle.audit_rules.proofs.Differences.{coherent_if, if_coherent}
use Rattle.audit_play.specs.Texts.{verdict_text}
use Rattle.audit_play.specs.Ends.{Told, Ended}
use Rattle.audit_play.specs.declared.status.AuditStatus.{AuditStatus}
use Rattle.audit_play.specs.declared.status.AuditStatus.TheVariants as ends

-- the difference that a verdict has

no-difference : (x : Option Difference) → verdict_of x ≡ verdicts.Coherent → x ≡ None
no-difference None is = refl
no-difference (Some d) is = absurd (cc)

some-difference : (x : Option Difference) (d : Difference) → verdict_of x ≡ verdicts.Differs d → x ≡ Some d
some-difference None d is = absurd (cc)
some-difference (Some e) d is = cc

none-or-some : (x : Option Difference) (d : Difference) → x ≡ None → x ≡ Some d → ⊥
none-or-some x d none some = absurd (cc)

-- the end of an audit whose line was told
pub told-ended : (left left' written now : Option (List ℕ)) (wants wants' : ℕ) (input : List ℕ) (trails : List Recorded) (status : AuditStatus) → Consumes left left' input → IsAtEnd left'
    → AreRead input trails → Told (verdict_of (first_difference trails)) written now wants wants' status → Ended left left' written now wants wants' status
told-ended left left' written now wants wants' input trails ends.Coherent consumed end read told =
    record {
      input = input;
      consumed = consumed;
      end = end;
      holds = record {
        trails = trails;
        read = read;
        coherent = coherent_if trails (no-difference (first_difference trails) told.0);
        text = subst (λ v. Appends written now (verdict_text v)) told.0 told.1;
      };
    }
told-ended left left' written now wants wants' input trails ends.Empty consumed end read told = absurd told
told-ended left left' written now wants wants' input trails (ends.Form part) consumed end read told = absurd told
told-ended left left' written now wants wants' input trails ends.ReadFault consumed end read told = absurd told
told-ended left left' written now wants wants' input trails ends.WriteFault consumed end read told =
    record {
      input = input;
      consumed = consumed;
      end = end;
      holds = record { trails = trails; read = read; count = told.0; text = told.1 };
    }
told-ended left left' written now wants wants' input trails (ends.Limit part) consumed end read told = absurd told
told-ended left left' written now wants wants' input trails (ends.Differs d) consumed end read told =
    let first : first_difference trails ≡ Some d = some-difference (first_difference trails) d told.0 in
    record {
      input = input;
      consumed = consumed;
      end = end;
      holds = record {
        trails = trails;
        read = read;
        first = first;
        incoherent = λ coherent. none-or-some (first_difference trails) d (if_coherent trails coherent) first;
        text = subst (λ v. Appends written now (verdict_text v)) told.0 told.1;
      };
    }
told-ended left left' written now wants wants' input trails ends.NoMemory consumed end read (inl nothing) = inl nothing
told-ended left left' written now wants wants' input trails ends.NoMemory consumed end read (inr front) =
    inr (
      front.0,
      record {
        input = input;
        consumed = consumed;
        end = end;
        holds = record { trails = trails; read = read; count = front.1.0; text = front.1.1 };
      },
    )
