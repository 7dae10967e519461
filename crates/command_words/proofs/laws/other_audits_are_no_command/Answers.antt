use Rattle.command_words.proofs.AuditRows.{audit_help, audit_version, audit_capital, audit_longer, audit_more, audit_twice, audit_other_command, audit_behind_the_mark, audit_option, audit_flag}
use Rattle.command_words.proofs.laws.other_audits_are_no_command.Goals as goal

pub returns : goal.returns
returns c = record {
  help = audit_help;
  version = audit_version;
  capital = audit_capital;
  longer = audit_longer;
  more = audit_more;
  twice = audit_twice;
  other_command = audit_other_command;
  behind_the_mark = audit_behind_the_mark;
  option = audit_option;
  flag = audit_flag;
}
