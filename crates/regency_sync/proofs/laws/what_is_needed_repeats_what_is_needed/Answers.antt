use Rattle.regency_sync.proofs.Needs.{stop_repeats, report_repeats, sync_repeats}
use Rattle.regency_sync.proofs.laws.what_is_needed_repeats_what_is_needed.Goals as goal

pub returns-clause-stop : goal.returns-clause-stop
returns-clause-stop c = λ view s stop needed. stop_repeats view s stop needed

pub returns-clause-report : goal.returns-clause-report
returns-clause-report c = λ view s r needed. report_repeats view s r needed

pub returns-clause-sync : goal.returns-clause-sync
returns-clause-sync c = λ view s sync needed. sync_repeats view s sync needed
