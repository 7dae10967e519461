use Rattle.regency_sync.proofs.Needs.{keeping_stop_same, keeping_report_same, keeping_sync_same, stopped_same, led_same, adopted_same, promised_same, moved_same}
use Rattle.regency_sync.proofs.laws.what_is_dropped_is_not_missed.Goals as goal

pub returns-clause-stop : goal.returns-clause-stop
returns-clause-stop c = λ s stop. keeping_stop_same s stop

pub returns-clause-report : goal.returns-clause-report
returns-clause-report c = λ s report batch. keeping_report_same s report batch

pub returns-clause-sync : goal.returns-clause-sync
returns-clause-sync c = λ s sync. keeping_sync_same s sync

pub returns-clause-stopped : goal.returns-clause-stopped
returns-clause-stopped c = λ view s. stopped_same view s

pub returns-clause-led : goal.returns-clause-led
returns-clause-led c = λ view s. led_same view s

pub returns-clause-adopted : goal.returns-clause-adopted
returns-clause-adopted c = λ view s regency le. adopted_same view s regency le

pub returns-clause-promised : goal.returns-clause-promised
returns-clause-promised c = λ view s. promised_same view s

pub returns-clause-moved : goal.returns-clause-moved
returns-clause-moved c = λ old new s none. moved_same old new s none
