use Rattle.trail.proofs.Spelled.{spelling-is, decoded-is}
use Rattle.trail.proofs.laws.an_event_has_one_spelling.Goals as goal

pub returns-clause-read : goal.returns-clause-read
returns-clause-read c = spelling-is

pub returns-clause-alone : goal.returns-clause-alone
returns-clause-alone c = decoded-is
