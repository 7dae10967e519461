use Rattle.std.proofs.Common.{◌∙◌, ap, sym}
use Rattle.node_rules.specs.declared.node.Target.{Target}
use Rattle.group_ends.specs.Carried.{is_for}
use Rattle.group_ends.proofs.port.is_for.Goals as goal

pub returns-in-Client : goal.returns-in-Client
returns-in-Client c = c.is_client.ensures.one c.in-Client.field-0 ∙ ap (λ (t : Target). is_for t c.args.end) (sym c.in-Client.is)
