use Rattle.audit_rules.proofs.Cores.{first_stands, difference_stands, rest_stands, sent_stands}
use Rattle.audit_rules.proofs.laws.a_core_is_audited_as_its_node.Goals as goal

pub returns-clause-first : goal.returns-clause-first
returns-clause-first g c = first_stands g.S.Service.meaning

pub returns-clause-difference : goal.returns-clause-difference
returns-clause-difference g c = difference_stands g.S.Service.meaning

pub returns-clause-rest : goal.returns-clause-rest
returns-clause-rest g c = rest_stands g.S.Service.meaning

pub returns-clause-sent : goal.returns-clause-sent
returns-clause-sent g c = sent_stands g.S.Service.meaning
