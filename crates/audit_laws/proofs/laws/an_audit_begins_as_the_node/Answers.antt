use Rattle.audit_laws.proofs.Headed.{first-is, damage-is}
use Rattle.audit_laws.proofs.laws.an_audit_begins_as_the_node.Goals as goal

pub returns-clause-node : goal.returns-clause-node
returns-clause-node g c = first-is g.S.Service.meaning

pub returns-clause-damage : goal.returns-clause-damage
returns-clause-damage g c = damage-is g.S.Service.meaning
