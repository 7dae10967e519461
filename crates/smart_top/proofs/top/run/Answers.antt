use Rattle.std.proofs.Common.{refl}
use Rattle.smart_top.proofs.Commands.{no_command, some_command, that_command}
use Rattle.smart_top.proofs.Grouping.{unread_group}
use Rattle.smart_top.proofs.top.run.Goals as goal

pub returns-in-Ok-clause-words : goal.returns-in-Ok-clause-words
returns-in-Ok-clause-words g c = λ is. absurd (c.obey-status.ensures.words is)

pub returns-in-Ok-clause-none : goal.returns-in-Ok-clause-none
returns-in-Ok-clause-none g c = λ none. absurd (some_command _ _ c.in-Ok.ensures.command none)

pub returns-in-Ok-clause-untouched : goal.returns-in-Ok-clause-untouched
returns-in-Ok-clause-untouched g c = λ none. absurd (some_command _ _ c.in-Ok.ensures.command none)

pub returns-in-Ok-clause-ended : goal.returns-in-Ok-clause-ended
returns-in-Ok-clause-ended g c = λ is. c.obey-status.ensures.ended (that_command _ _ _ c.in-Ok.ensures.command is)

pub returns-in-Ok-clause-load : goal.returns-in-Ok-clause-load
returns-in-Ok-clause-load g c = λ n is. c.obey-status.ensures.load n (that_command _ _ _ c.in-Ok.ensures.command is)

pub returns-in-Ok-clause-complete : goal.returns-in-Ok-clause-complete
returns-in-Ok-clause-complete g c = λ n is. c.obey-status.ensures.complete n (that_command _ _ _ c.in-Ok.ensures.command is)

pub returns-in-Ok-clause-node : goal.returns-in-Ok-clause-node
returns-in-Ok-clause-node g c = λ n is. c.obey-status.ensures.node n (that_command _ _ _ c.in-Ok.ensures.command is)

pub returns-in-Ok-clause-complete_node : goal.returns-in-Ok-clause-complete_node
returns-in-Ok-clause-complete_node g c = λ n is. c.obey-status.ensures.complete_node n (that_command _ _ _ c.in-Ok.ensures.command is)

pub returns-in-Ok-clause-group : goal.returns-in-Ok-clause-group
returns-in-Ok-clause-group g c = λ w is. c.obey-status.ensures.group w (that_command _ _ _ c.in-Ok.ensures.command is)

pub returns-in-Ok-clause-complete_group : goal.returns-in-Ok-clause-complete_group
returns-in-Ok-clause-complete_group g c = λ w is. c.obey-status.ensures.complete_group w (that_command _ _ _ c.in-Ok.ensures.command is)

pub returns-in-Ok-clause-fresh : goal.returns-in-Ok-clause-fresh
returns-in-Ok-clause-fresh g c = λ w is. c.obey-status.ensures.fresh w (that_command _ _ _ c.in-Ok.ensures.command is)

pub returns-in-Ok-clause-apart : goal.returns-in-Ok-clause-apart
returns-in-Ok-clause-apart g c = λ node group. c.obey-status.ensures.apart (λ n. no_command _ _ _ c.in-Ok.ensures.command (node n)) (λ w. no_command _ _ _ c.in-Ok.ensures.command (group w))

pub returns-in-Ok-clause-audit : goal.returns-in-Ok-clause-audit
returns-in-Ok-clause-audit g c = λ is. c.obey-status.ensures.audit (that_command _ _ _ c.in-Ok.ensures.command is)

pub returns-in-Ok-clause-complete_audit : goal.returns-in-Ok-clause-complete_audit
returns-in-Ok-clause-complete_audit g c = λ is. c.obey-status.ensures.complete_audit (that_command _ _ _ c.in-Ok.ensures.command is)

pub returns-in-Ok-clause-read : goal.returns-in-Ok-clause-read
returns-in-Ok-clause-read g c = c.obey-status.ensures.read

pub returns-in-Ok-clause-write : goal.returns-in-Ok-clause-write
returns-in-Ok-clause-write g c = c.obey-status.ensures.write

pub returns-in-Ok-clause-trail : goal.returns-in-Ok-clause-trail
returns-in-Ok-clause-trail g c = c.obey-status.ensures.trail

pub returns-in-Ok-clause-disk : goal.returns-in-Ok-clause-disk
returns-in-Ok-clause-disk g c = c.obey-status.ensures.disk

pub returns-in-Err-NoMemory-clause-group : goal.returns-in-Err-NoMemory-clause-group
returns-in-Err-NoMemory-clause-group g c = λ words is. (refl, unread_group words _ _ (λ s. (record { kept = refl; taken = refl }, record { kept = refl; taken = refl })))
