use Rattle.app_kv.proofs.Spelled.{read_is, spelled_is}
use Rattle.app_kv.proofs.laws.an_operation_has_one_spelling.Goals as goal

pub returns-clause-read : goal.returns-clause-read
returns-clause-read c = read_is

pub returns-clause-alone : goal.returns-clause-alone
returns-clause-alone c = spelled_is
