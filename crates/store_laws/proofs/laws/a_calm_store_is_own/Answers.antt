use Rattle.store_laws.proofs.Given.{calm_stands, calm_stake, idle_own, own_stands}
use Rattle.store_laws.proofs.laws.a_calm_store_is_own.Goals as goal

pub returns-clause-own : goal.returns-clause-own
returns-clause-own c = calm_stands

pub returns-clause-stake : goal.returns-clause-stake
returns-clause-stake c = calm_stake

pub returns-clause-idle : goal.returns-clause-idle
returns-clause-idle c = idle_own

pub returns-clause-stands : goal.returns-clause-stands
returns-clause-stands c = own_stands
