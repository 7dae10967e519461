use Rattle.std.proofs.Common.{◌∙◌, refl, sym}
use Rattle.smart_service.proofs.TableLines.{kept_here, kept_not}
use Rattle.smart_service.proofs.table.ClientTable.kept_reply.Goals as goal

pub returns-then-line-seq : goal.returns-then-line-seq
returns-then-line-seq c =
    sym (kept_here c.args.self.now c.args.client c.args.seq c.in-Some.line.now (sym c.line.ensures ∙ rw c.in-Some.is refl) c.if-line-seq.true)

pub returns-else-line-seq : goal.returns-else-line-seq
returns-else-line-seq c =
    sym (kept_not c.args.self.now c.args.client c.args.seq c.in-Some.line.now (sym c.line.ensures ∙ rw c.in-Some.is refl) c.if-line-seq.false)
