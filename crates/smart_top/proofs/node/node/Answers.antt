use Rattle.std.proofs.Common.{refl, sym, ◌∙◌}
use Rattle.smart_top.proofs.Noding.{node_is_complete, unread_node, never_words, read_failed, write_failed, trail_failed, disk_failed}
use Rattle.smart_top.proofs.node.node.Goals as goal

pub returns-in-Ok-clause-ended : goal.returns-in-Ok-clause-ended
returns-in-Ok-clause-ended g c =
    record { node = c.run_member-status.result; is = c.status_by.ensures; ended = rw c.in-Ok.ensures at c.run_member-status.ensures.ended }

pub returns-in-Ok-clause-read : goal.returns-in-Ok-clause-read
returns-in-Ok-clause-read g c = λ is. c.run_member-status.ensures.read (read_failed _ (sym c.status_by.ensures ∙ is))

pub returns-in-Ok-clause-write : goal.returns-in-Ok-clause-write
returns-in-Ok-clause-write g c = λ is. c.run_member-status.ensures.write (write_failed _ (sym c.status_by.ensures ∙ is))

pub returns-in-Ok-clause-trail : goal.returns-in-Ok-clause-trail
returns-in-Ok-clause-trail g c = λ is. c.run_member-status.ensures.trail (trail_failed _ (sym c.status_by.ensures ∙ is))

pub returns-in-Ok-clause-disk : goal.returns-in-Ok-clause-disk
returns-in-Ok-clause-disk g c = λ is. c.run_member-status.ensures.disk (disk_failed _ (sym c.status_by.ensures ∙ is))

pub returns-in-Ok-clause-words : goal.returns-in-Ok-clause-words
returns-in-Ok-clause-words g c = λ is. never_words _ (sym c.status_by.ensures ∙ is)

pub returns-in-Err-clause-ended : goal.returns-in-Err-clause-ended
returns-in-Err-clause-ended g c = unread_node _ _ refl refl refl refl refl refl

pub returns-in-Ok-clause-complete : goal.returns-in-Ok-clause-complete
returns-in-Ok-clause-complete g c = λ input told sound read write trail disk. node_is_complete _ _ input told sound _ (λ is. read (c.run_member-status.ensures.read (read_failed _ (sym c.status_by.ensures ∙ is))))
    (λ is. write (c.run_member-status.ensures.write (write_failed _ (sym c.status_by.ensures ∙ is)))) (λ is. trail (c.run_member-status.ensures.trail (trail_failed _ (sym c.status_by.ensures ∙ is))))
    (λ is. disk (c.run_member-status.ensures.disk (disk_failed _ (sym c.status_by.ensures ∙ is))))
    (record { node = c.run_member-status.result; is = c.status_by.ensures; ended = rw c.in-Ok.ensures at c.run_member-status.ensures.ended })
