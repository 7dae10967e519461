use Rattle.std.proofs.Common.{map, string_bytes}
use Rattle.std.proofs.lemmas.Result.{IfOk-weaker}
use Rattle.clap.specs.Words.{app_of}
use Rattle.command_words.proofs.Parsing.{fails_by, met_by}
use Rattle.command_words.proofs.command.parse.Goals as goal

pub returns-clause-met : goal.returns-clause-met
returns-clause-met c =
    IfOk-weaker c.try_get_matches_from.result _ _ (λ m h. met_by (app_of c.in_ok-parser.parser) (map string_bytes c.args.words.now) m c.in_ok-parser.ensures h) c.try_get_matches_from.ensures.matches

pub returns-clause-faults : goal.returns-clause-faults
returns-clause-faults c = fails_by (app_of c.in_ok-parser.parser) (map string_bytes c.args.words.now) c.try_get_matches_from.result c.in_ok-parser.ensures c.try_get_matches_from.ensures.kinds
