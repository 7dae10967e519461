use Rattle.std.proofs.Common.{◌∙◌, ap, sym, refl}
use Rattle.smart_service.proofs.TableLines.{seq_of, seq_in_line}
use Rattle.smart_service.proofs.table.ClientTable.last_seq.Goals as goal

pub returns-in-Some : goal.returns-in-Some
returns-in-Some c = rw c.in-Some.is refl ∙ ap seq_of c.line.ensures ∙ sym (seq_in_line c.args.self.now c.args.client)

pub returns-in-None : goal.returns-in-None
returns-in-None c = rw c.in-None.is refl ∙ ap seq_of c.line.ensures ∙ sym (seq_in_line c.args.self.now c.args.client)
