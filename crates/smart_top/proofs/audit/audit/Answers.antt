use Rattle.std.proofs.Common.{sym, ◌∙◌}
use Rattle.smart_top.proofs.Auditing.{never_words, read_failed, write_failed, audit_is_complete}
use Rattle.smart_top.proofs.audit.audit.Goals as goal

pub returns-clause-ended : goal.returns-clause-ended
returns-clause-ended g c = record { end = c.play_audit-end.result; status_is = c.status_of.ensures; ended = c.play_audit-end.ensures.ended }

pub returns-clause-words : goal.returns-clause-words
returns-clause-words g c = λ is. never_words c.play_audit-end.result (sym c.status_of.ensures ∙ is)

pub returns-clause-read : goal.returns-clause-read
returns-clause-read g c = λ is. c.play_audit-end.ensures.read (read_failed c.play_audit-end.result (sym c.status_of.ensures ∙ is))

pub returns-clause-write : goal.returns-clause-write
returns-clause-write g c = λ is. c.play_audit-end.ensures.write (write_failed c.play_audit-end.result (sym c.status_of.ensures ∙ is))

pub returns-clause-complete : goal.returns-clause-complete
returns-clause-complete g c = λ input reads writes.
    audit_is_complete _ _ _ _ _ _ c.status_of.result (record { end = c.play_audit-end.result; status_is = c.status_of.ensures; ended = c.play_audit-end.ensures.ended }) input
    (λ is. reads (c.play_audit-end.ensures.read (read_failed c.play_audit-end.result (sym c.status_of.ensures ∙ is))))
    (λ is. writes (c.play_audit-end.ensures.write (write_failed c.play_audit-end.result (sym c.status_of.ensures ∙ is))))
