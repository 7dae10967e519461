use Rattle.command_words.proofs.AuditRows.{audit_alone, audit_marked}
use Rattle.command_words.proofs.laws.audit_is_a_command.Goals as goal

pub returns : goal.returns
returns c = record {
  alone = audit_alone;
  marked = audit_marked;
}
