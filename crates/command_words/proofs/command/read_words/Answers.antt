use Rattle.std.proofs.Common.{◌∙◌, ap, sym, map, string_bytes}
use Rattle.clap.specs.Words.{kind_of}
use Rattle.command_words.specs.Commands.{command_in}
use Rattle.command_words.proofs.Refusals.{refused, taken, untaken}
use Rattle.command_words.proofs.command.read_words.Goals as goal

pub returns-in-Ok-Some-clause-command : goal.returns-in-Ok-Some-clause-command
returns-in-Ok-Some-clause-command c =
    taken (map string_bytes c.args.words.now) c.in-Ok-Some.command c.in-Ok.ensures.faults
    (sym (ap command_in c.in-Ok.ensures.met) ∙ sym c.in-Ok-Some.ensures.is ∙ c.in-Ok-Some.field-0-is)

pub returns-in-Ok-None-clause-none : goal.returns-in-Ok-None-clause-none
returns-in-Ok-None-clause-none c =
    untaken (map string_bytes c.args.words.now) c.in-Ok.ensures.faults (sym (ap command_in c.in-Ok.ensures.met) ∙ sym c.in-Ok-None.ensures.is ∙ c.in-Ok-None.field-0-is)

pub returns-clause-none : goal.returns-clause-none
returns-clause-none c =
    refused (map string_bytes c.args.words.now) (kind_of c.in-Err.error) c.refusal.result c.in-Err.ensures.faults c.refusal.ensures
