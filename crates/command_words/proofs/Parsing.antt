-- What a parse by the program's parser gives.
use Rattle.std.proofs.Common.{◌≡◌, ◌∙◌, ap, subst, List, Result, true}
use Rattle.clap.specs.Words.{App, FailsBy, HasMatchesOf, Text, fault_of, first_value, is_simple, is_simple_and_free, rows_of, subcommand_of, subcommand_rows_of}
use Rattle.clap.specs.Walk.{first_of}
use Rattle.clap.specs.declared.parser.matches.Found.{Found}
use Rattle.clap.proofs.WalkLemmas.{first_value-rows}
use Rattle.clap.specs.declared.parser.matches.ArgMatches.{ArgMatches}
use Rattle.clap.specs.declared.error.Error.{Error}
use Rattle.command_words.specs.Commands.{program}

-- the subcommand is the one that the words name
pub met_by : (a : App) (words : List Text) (m : ArgMatches) → a ≡ program → HasMatchesOf a words m → subcommand_rows_of m ≡ subcommand_of program words
met_by a words m is h = (h (ap is_simple is)).1 ∙ ap (λ b. subcommand_of b words) is

-- it fails only by what is wrong with the words
pub fails_by : (a : App) (words : List Text) (r : Result ArgMatches Error) → a ≡ program → (is_simple_and_free a ≡ true → FailsBy (fault_of a words) r)
    → FailsBy (fault_of program words) r
fails_by a words r is h = subst (λ b. FailsBy (fault_of b words) r) is (h (ap is_simple_and_free is))

-- the first word of an argument, by the rows that were found
pub first_word : (f : Found) (id : Text) → first_value f id ≡ first_of id (rows_of f)
first_word f id = first_value-rows f id
