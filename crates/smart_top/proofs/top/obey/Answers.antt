use Rattle.std.proofs.Common.{None, refl}
use Rattle.smart_top.proofs.Apart.{audit_disk, audit_trail, load_disk, load_trail, run_disk, run_trail, run_words}
use Rattle.smart_top.proofs.Commands.{same_group, same_load, same_node, unlike}
use Rattle.smart_top.proofs.Loading.{is_complete}
use Rattle.smart_top.proofs.top.obey.Goals as goal

pub returns-in-World-clause-words : goal.returns-in-World-clause-words
returns-in-World-clause-words g c = λ is. run_words _ _ _ _ _ _ _ c.play_script.ensures.ended is

pub returns-in-World-clause-ended : goal.returns-in-World-clause-ended
returns-in-World-clause-ended g c = λ is. c.play_script.ensures.ended

pub returns-in-World-clause-load : goal.returns-in-World-clause-load
returns-in-World-clause-load g c = λ n is. absurd (unlike _ _ _ c.in-World.is is refl)

pub returns-in-World-clause-complete : goal.returns-in-World-clause-complete
returns-in-World-clause-complete g c = λ n is. absurd (unlike _ _ _ c.in-World.is is refl)

pub returns-in-World-clause-node : goal.returns-in-World-clause-node
returns-in-World-clause-node g c = λ n is. absurd (unlike _ _ _ c.in-World.is is refl)

pub returns-in-World-clause-complete_node : goal.returns-in-World-clause-complete_node
returns-in-World-clause-complete_node g c = λ n is. absurd (unlike _ _ _ c.in-World.is is refl)

pub returns-in-World-clause-group : goal.returns-in-World-clause-group
returns-in-World-clause-group g c = λ w is. absurd (unlike _ _ _ c.in-World.is is refl)

pub returns-in-World-clause-complete_group : goal.returns-in-World-clause-complete_group
returns-in-World-clause-complete_group g c = λ w is. absurd (unlike _ _ _ c.in-World.is is refl)

pub returns-in-World-clause-fresh : goal.returns-in-World-clause-fresh
returns-in-World-clause-fresh g c = λ w is. absurd (unlike _ _ _ c.in-World.is is refl)

pub returns-in-World-clause-apart : goal.returns-in-World-clause-apart
returns-in-World-clause-apart g c = λ node group. (refl, (refl, refl))

pub returns-in-World-clause-audit : goal.returns-in-World-clause-audit
returns-in-World-clause-audit g c = λ is. absurd (unlike _ _ _ c.in-World.is is refl)

pub returns-in-World-clause-complete_audit : goal.returns-in-World-clause-complete_audit
returns-in-World-clause-complete_audit g c = λ is. absurd (unlike _ _ _ c.in-World.is is refl)

pub returns-in-World-clause-read : goal.returns-in-World-clause-read
returns-in-World-clause-read g c = c.play_script.ensures.read

pub returns-in-World-clause-write : goal.returns-in-World-clause-write
returns-in-World-clause-write g c = c.play_script.ensures.write

pub returns-in-World-clause-trail : goal.returns-in-World-clause-trail
returns-in-World-clause-trail g c = λ is. absurd (run_trail _ _ _ _ _ _ _ c.play_script.ensures.ended is)

pub returns-in-World-clause-disk : goal.returns-in-World-clause-disk
returns-in-World-clause-disk g c = λ is. absurd (run_disk _ _ _ _ _ _ _ c.play_script.ensures.ended is)

pub returns-in-Load-clause-words : goal.returns-in-Load-clause-words
returns-in-Load-clause-words g c = c.load.ensures.words

pub returns-in-Load-clause-ended : goal.returns-in-Load-clause-ended
returns-in-Load-clause-ended g c = λ is. absurd (unlike _ _ _ c.in-Load.is is refl)

pub returns-in-Load-clause-load : goal.returns-in-Load-clause-load
returns-in-Load-clause-load g c = λ n is. (refl, rw (same_load _ _ _ c.in-Load.is is) at c.load.ensures.ended)

pub returns-in-Load-clause-complete : goal.returns-in-Load-clause-complete
returns-in-Load-clause-complete g c = λ n is whole fine. is_complete n _ _ _ _ _ (rw (same_load _ _ _ c.in-Load.is is) at c.load.ensures.ended) whole (λ failed. fine (c.load.ensures.write failed))

pub returns-in-Load-clause-node : goal.returns-in-Load-clause-node
returns-in-Load-clause-node g c = λ n is. absurd (unlike _ _ _ c.in-Load.is is refl)

pub returns-in-Load-clause-complete_node : goal.returns-in-Load-clause-complete_node
returns-in-Load-clause-complete_node g c = λ n is. absurd (unlike _ _ _ c.in-Load.is is refl)

pub returns-in-Load-clause-group : goal.returns-in-Load-clause-group
returns-in-Load-clause-group g c = λ w is. absurd (unlike _ _ _ c.in-Load.is is refl)

pub returns-in-Load-clause-complete_group : goal.returns-in-Load-clause-complete_group
returns-in-Load-clause-complete_group g c = λ w is. absurd (unlike _ _ _ c.in-Load.is is refl)

pub returns-in-Load-clause-fresh : goal.returns-in-Load-clause-fresh
returns-in-Load-clause-fresh g c = λ w is. absurd (unlike _ _ _ c.in-Load.is is refl)

pub returns-in-Load-clause-apart : goal.returns-in-Load-clause-apart
returns-in-Load-clause-apart g c = λ node group. (refl, (refl, refl))

pub returns-in-Load-clause-audit : goal.returns-in-Load-clause-audit
returns-in-Load-clause-audit g c = λ is. absurd (unlike _ _ _ c.in-Load.is is refl)

pub returns-in-Load-clause-complete_audit : goal.returns-in-Load-clause-complete_audit
returns-in-Load-clause-complete_audit g c = λ is. absurd (unlike _ _ _ c.in-Load.is is refl)

pub returns-in-Load-clause-read : goal.returns-in-Load-clause-read
returns-in-Load-clause-read g c = λ is. absurd (c.load.ensures.read is)

pub returns-in-Load-clause-write : goal.returns-in-Load-clause-write
returns-in-Load-clause-write g c = c.load.ensures.write

pub returns-in-Load-clause-trail : goal.returns-in-Load-clause-trail
returns-in-Load-clause-trail g c = λ is. absurd (load_trail None None _ _ _ _ _ _ c.load.ensures.ended is)

pub returns-in-Load-clause-disk : goal.returns-in-Load-clause-disk
returns-in-Load-clause-disk g c = λ is. absurd (load_disk None None _ _ _ _ _ _ c.load.ensures.ended is)

pub returns-in-Node-clause-words : goal.returns-in-Node-clause-words
returns-in-Node-clause-words g c = c.node.ensures.words

pub returns-in-Node-clause-ended : goal.returns-in-Node-clause-ended
returns-in-Node-clause-ended g c = λ is. absurd (unlike _ _ _ c.in-Node.is is refl)

pub returns-in-Node-clause-load : goal.returns-in-Node-clause-load
returns-in-Node-clause-load g c = λ n is. absurd (unlike _ _ _ c.in-Node.is is refl)

pub returns-in-Node-clause-complete : goal.returns-in-Node-clause-complete
returns-in-Node-clause-complete g c = λ n is. absurd (unlike _ _ _ c.in-Node.is is refl)

pub returns-in-Node-clause-node : goal.returns-in-Node-clause-node
returns-in-Node-clause-node g c = λ n is. rw (same_node _ _ _ c.in-Node.is is) at c.node.ensures.ended

pub returns-in-Node-clause-complete_node : goal.returns-in-Node-clause-complete_node
returns-in-Node-clause-complete_node g c = λ n is. rw (same_node _ _ _ c.in-Node.is is) at c.node.ensures.complete

pub returns-in-Node-clause-group : goal.returns-in-Node-clause-group
returns-in-Node-clause-group g c = λ w is. absurd (unlike _ _ _ c.in-Node.is is refl)

pub returns-in-Node-clause-complete_group : goal.returns-in-Node-clause-complete_group
returns-in-Node-clause-complete_group g c = λ w is. absurd (unlike _ _ _ c.in-Node.is is refl)

pub returns-in-Node-clause-fresh : goal.returns-in-Node-clause-fresh
returns-in-Node-clause-fresh g c = λ w is. absurd (unlike _ _ _ c.in-Node.is is refl)

pub returns-in-Node-clause-apart : goal.returns-in-Node-clause-apart
returns-in-Node-clause-apart g c = λ node group. absurd (node _ c.in-Node.is)

pub returns-in-Node-clause-audit : goal.returns-in-Node-clause-audit
returns-in-Node-clause-audit g c = λ is. absurd (unlike _ _ _ c.in-Node.is is refl)

pub returns-in-Node-clause-complete_audit : goal.returns-in-Node-clause-complete_audit
returns-in-Node-clause-complete_audit g c = λ is. absurd (unlike _ _ _ c.in-Node.is is refl)

pub returns-in-Node-clause-read : goal.returns-in-Node-clause-read
returns-in-Node-clause-read g c = c.node.ensures.read

pub returns-in-Node-clause-write : goal.returns-in-Node-clause-write
returns-in-Node-clause-write g c = c.node.ensures.write

pub returns-in-Node-clause-trail : goal.returns-in-Node-clause-trail
returns-in-Node-clause-trail g c = c.node.ensures.trail

pub returns-in-Node-clause-disk : goal.returns-in-Node-clause-disk
returns-in-Node-clause-disk g c = c.node.ensures.disk

pub returns-in-Group-clause-words : goal.returns-in-Group-clause-words
returns-in-Group-clause-words g c = c.group.ensures.words

pub returns-in-Group-clause-ended : goal.returns-in-Group-clause-ended
returns-in-Group-clause-ended g c = λ is. absurd (unlike _ _ _ c.in-Group.is is refl)

pub returns-in-Group-clause-load : goal.returns-in-Group-clause-load
returns-in-Group-clause-load g c = λ n is. absurd (unlike _ _ _ c.in-Group.is is refl)

pub returns-in-Group-clause-complete : goal.returns-in-Group-clause-complete
returns-in-Group-clause-complete g c = λ n is. absurd (unlike _ _ _ c.in-Group.is is refl)

pub returns-in-Group-clause-node : goal.returns-in-Group-clause-node
returns-in-Group-clause-node g c = λ n is. absurd (unlike _ _ _ c.in-Group.is is refl)

pub returns-in-Group-clause-complete_node : goal.returns-in-Group-clause-complete_node
returns-in-Group-clause-complete_node g c = λ n is. absurd (unlike _ _ _ c.in-Group.is is refl)

pub returns-in-Group-clause-group : goal.returns-in-Group-clause-group
returns-in-Group-clause-group g c = λ w is. (refl, rw (same_group _ _ _ c.in-Group.is is) at c.group.ensures.ended)

pub returns-in-Group-clause-complete_group : goal.returns-in-Group-clause-complete_group
returns-in-Group-clause-complete_group g c = λ w is. rw (same_group _ _ _ c.in-Group.is is) at c.group.ensures.complete

pub returns-in-Group-clause-fresh : goal.returns-in-Group-clause-fresh
returns-in-Group-clause-fresh g c = λ w is ok. rw (same_group _ _ _ c.in-Group.is is) at (c.group.ensures.fresh ok)

pub returns-in-Group-clause-apart : goal.returns-in-Group-clause-apart
returns-in-Group-clause-apart g c = λ node group. absurd (group _ c.in-Group.is)

pub returns-in-Group-clause-audit : goal.returns-in-Group-clause-audit
returns-in-Group-clause-audit g c = λ is. absurd (unlike _ _ _ c.in-Group.is is refl)

pub returns-in-Group-clause-complete_audit : goal.returns-in-Group-clause-complete_audit
returns-in-Group-clause-complete_audit g c = λ is. absurd (unlike _ _ _ c.in-Group.is is refl)

pub returns-in-Group-clause-read : goal.returns-in-Group-clause-read
returns-in-Group-clause-read g c = λ is. absurd (c.group.ensures.read is)

pub returns-in-Group-clause-write : goal.returns-in-Group-clause-write
returns-in-Group-clause-write g c = c.group.ensures.write

pub returns-in-Group-clause-trail : goal.returns-in-Group-clause-trail
returns-in-Group-clause-trail g c = c.group.ensures.trail

pub returns-in-Group-clause-disk : goal.returns-in-Group-clause-disk
returns-in-Group-clause-disk g c = c.group.ensures.disk

pub returns-in-Audit-clause-words : goal.returns-in-Audit-clause-words
returns-in-Audit-clause-words g c = c.audit.ensures.words

pub returns-in-Audit-clause-ended : goal.returns-in-Audit-clause-ended
returns-in-Audit-clause-ended g c = λ is. absurd (unlike _ _ _ c.in-Audit.is is refl)

pub returns-in-Audit-clause-load : goal.returns-in-Audit-clause-load
returns-in-Audit-clause-load g c = λ n is. absurd (unlike _ _ _ c.in-Audit.is is refl)

pub returns-in-Audit-clause-complete : goal.returns-in-Audit-clause-complete
returns-in-Audit-clause-complete g c = λ n is. absurd (unlike _ _ _ c.in-Audit.is is refl)

pub returns-in-Audit-clause-node : goal.returns-in-Audit-clause-node
returns-in-Audit-clause-node g c = λ n is. absurd (unlike _ _ _ c.in-Audit.is is refl)

pub returns-in-Audit-clause-complete_node : goal.returns-in-Audit-clause-complete_node
returns-in-Audit-clause-complete_node g c = λ n is. absurd (unlike _ _ _ c.in-Audit.is is refl)

pub returns-in-Audit-clause-group : goal.returns-in-Audit-clause-group
returns-in-Audit-clause-group g c = λ w is. absurd (unlike _ _ _ c.in-Audit.is is refl)

pub returns-in-Audit-clause-complete_group : goal.returns-in-Audit-clause-complete_group
returns-in-Audit-clause-complete_group g c = λ w is. absurd (unlike _ _ _ c.in-Audit.is is refl)

pub returns-in-Audit-clause-fresh : goal.returns-in-Audit-clause-fresh
returns-in-Audit-clause-fresh g c = λ w is. absurd (unlike _ _ _ c.in-Audit.is is refl)

pub returns-in-Audit-clause-apart : goal.returns-in-Audit-clause-apart
returns-in-Audit-clause-apart g c = λ node group. (refl, (refl, refl))

pub returns-in-Audit-clause-audit : goal.returns-in-Audit-clause-audit
returns-in-Audit-clause-audit g c = λ is. c.audit.ensures.ended

pub returns-in-Audit-clause-complete_audit : goal.returns-in-Audit-clause-complete_audit
returns-in-Audit-clause-complete_audit g c = λ is. c.audit.ensures.complete

pub returns-in-Audit-clause-read : goal.returns-in-Audit-clause-read
returns-in-Audit-clause-read g c = c.audit.ensures.read

pub returns-in-Audit-clause-write : goal.returns-in-Audit-clause-write
returns-in-Audit-clause-write g c = c.audit.ensures.write

pub returns-in-Audit-clause-trail : goal.returns-in-Audit-clause-trail
returns-in-Audit-clause-trail g c = λ is. absurd (audit_trail _ _ _ _ _ _ _ c.audit.ensures.ended is)

pub returns-in-Audit-clause-disk : goal.returns-in-Audit-clause-disk
returns-in-Audit-clause-disk g c = λ is. absurd (audit_disk _ _ _ _ _ _ _ c.audit.ensures.ended is)
