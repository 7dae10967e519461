use Rattle.audit_play.proofs.play.tell.Goals as goal

pub returns-in-Ok-write_whole-clause-told : goal.returns-in-Ok-write_whole-clause-told
returns-in-Ok-write_whole-clause-told g c = c.verdict_end.ensures.told _ _ _ _ (rw (c.as_bytes.ensures.value, c.in-Ok.ensures) at c.in-Ok-write_whole.ensures.ok)

pub returns-in-Ok-write_whole-clause-write : goal.returns-in-Ok-write_whole-clause-write
returns-in-Ok-write_whole-clause-write g c = λ is. absurd (c.verdict_end.ensures.write is)
