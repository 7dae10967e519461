-- A collect that passes its check, without its evidence.
use Rattle.std.proofs.Common.{ℕ, List}
use Rattle.smart_base.specs.Views.{View, present}
use Rattle.smart_statements.specs.Forms.{SignedBy}
use Rattle.smart_statements.specs.declared.report.Report.{Report}
use Rattle.certificates.specs.Collects.{IsReportOf, IsCollect}
use Rattle.regency_sync.proofs.Lists.{each_as}
use Rattle.agreement_laws.specs.Certificates.{IsLockedReport, IsLockedCollect}

-- a report's lock, whatever its evidence is
locked : (secret : List ℕ) (view : View) (views : List View) (regency : ℕ) (s : Report) → IsReportOf secret view views regency s → IsLockedReport secret view regency s
locked secret view views regency s is = record { of_view = is.of_view; of_regency = is.of_regency; lock = is.lock }

pub locked_collect : (secret : List ℕ) (views : List View) (regency : ℕ) (items : List (SignedBy Report)) → IsCollect secret views regency items
    → IsLockedCollect secret (present views) regency items
locked_collect secret views regency items is = record {
  signed = record {
    members = is.0.members;
    distinct = is.0.distinct;
    stated = each_as (λ (item : SignedBy Report). IsReportOf secret (present views) views regency item.statement)
        (λ (item : SignedBy Report). IsLockedReport secret (present views) regency item.statement)
        (λ item r. locked secret (present views) views regency item.statement r) items is.0.stated;
    verified = is.0.verified;
  };
  enough = is.1;
}
