-- Which words are a command: the meaning that the parser gives to them, and a value in range.
use Rattle.std.specs.Prelude.{◌≡◌, ℕ, nat_le, Bool, true, false, ◌&&◌, List, [], ◌∷◌, Option, Some, None, option_map, if◌then◌else◌, codes}
use Rattle.std.specs.Str.{bytes_eq}
use Rattle.std.specs.List.{list_all, list_any}
use Rattle.clap.specs.Words.{App, Kinds, Row, Rule, Shape, Text, fault_of, new_rule, subcommand_of}
use Rattle.clap.specs.Simple.{new_shape, with_subcommand}
use Rattle.clap.specs.Walk.{first_of}
use Rattle.clap.specs.declared.error.kind.ErrorKind.{ErrorKind}
use Rattle.clap.specs.declared.error.kind.ErrorKind.TheVariants as kinds
use Rattle.smart_base.specs.Decimals.{number_of}
use Rattle.command_words.specs.Options.{group_run_of, group_shape, node_shape, node_of}
use Rattle.command_words.specs.declared.command.Command.{Command}
use Rattle.command_words.specs.declared.command.Command.TheVariants as commands
use Rattle.command_words.specs.declared.command.NoCommand.{NoCommand}
use Rattle.command_words.specs.declared.command.NoCommand.TheVariants as refusals

-- the subcommand `world`: no arguments
abbrev pub world_shape : Shape
world_shape = new_shape (codes "world")

-- the argument of `load`: one word, which has to be there
abbrev pub count_rule : Rule
count_rule = record (new_rule (codes "N")) { required = true }

-- the subcommand `load`: its argument alone
abbrev pub load_shape : Shape
load_shape = record (new_shape (codes "load")) { rules = count_rule ∷ [] }

-- the subcommand `audit`: no arguments
abbrev pub audit_shape : Shape
audit_shape = new_shape (codes "audit")

-- the program before its subcommands: its name is no word, and one word has to be a subcommand
abbrev pub bare_program : App
bare_program = record {
  top = record (new_shape (codes "smart")) { no_binary_name = true; has_version = true; propagate_version = true; arg_required_else_help = true; subcommand_required = true };
  subs = [];
}

-- the program with its subcommands
abbrev pub program : App
program = with_subcommand (with_subcommand (with_subcommand (with_subcommand (with_subcommand bare_program world_shape) load_shape) node_shape) group_shape) audit_shape

-- the load of a number of asks, if it is one of 1 to 100,000
abbrev pub load_with : Option ℕ → Option Command
load_with None = None
load_with (Some count) = if nat_le 1 count && nat_le count 100000 then Some (commands.Load count) else None

-- the load that a word names: a number in decimal, without leading zeros
abbrev pub load_of : Option Text → Option Command
load_of None = None
load_of (Some word) = load_with (number_of word)

-- the command that a subcommand is with what was found for its arguments
abbrev pub command_named : Text → List Row → Option Command
command_named name rows =
    if bytes_eq name (codes "world") then Some commands.World
    else if bytes_eq name (codes "load") then load_of (first_of (codes "N") rows)
    else if bytes_eq name (codes "node") then option_map commands.Node (node_of rows)
    else if bytes_eq name (codes "group") then option_map commands.Group (group_run_of rows)
    else if bytes_eq name (codes "audit") then Some commands.Audit
    else None

-- the command of the subcommand that words name, if they name one
abbrev pub command_in : Option (Text × List Row) → Option Command
command_in None = None
command_in (Some p) = command_named p.0 p.1

-- the command that words are, by what is wrong with them
abbrev pub command_if : Kinds → Option (Text × List Row) → Option Command
command_if [] met = command_in met
command_if (kind ∷ kinds) met = None

-- The command that words are: nothing is wrong with them, they name its subcommand and, of `load`, a number from 1 to 100,000; of `node` and `group`,
-- each option has a value in its range.
unfoldable pub command_of : List Text → Option Command
command_of words = command_if (fault_of program words) (subcommand_of program words)

-- an answer of the parser that is no wrong word: help, or the version
abbrev pub is_shown : ErrorKind → Bool
is_shown kinds.DisplayHelp = true
is_shown kinds.DisplayHelpOnMissingArgumentOrSubcommand = true
is_shown kinds.DisplayVersion = true
is_shown _ = false

-- words to which the parser may answer with help or the version
unfoldable pub may_show : List Text → Bool
may_show words = list_any is_shown (fault_of program words)

-- what is wrong with words, and all of it is help or the version
abbrev pub is_only_shown : Kinds → Bool
is_only_shown [] = false
is_only_shown (kind ∷ kinds) = list_all is_shown (kind ∷ kinds)

-- Words to which it answers so, and not otherwise. Only behind the word `help` it may do either.
unfoldable pub must_show : List Text → Bool
must_show words = is_only_shown (fault_of program words)

-- words that are no command, to which the parser answers with help or the version
abbrev pub IsShown : List Text → Type 0
IsShown words = (command_of words ≡ None) × (must_show words ≡ true)

-- words that are no command, to which it answers otherwise
abbrev pub IsWrong : List Text → Type 0
IsWrong words = (command_of words ≡ None) × (may_show words ≡ false)

-- what words are to which the parser answers with an error of a kind
abbrev pub Answers : ErrorKind → NoCommand → Type 0
Answers kind (refusals.Shown text) = is_shown kind ≡ true
Answers kind refusals.Wrong = (is_shown kind ≡ false) × (kind ≡ kinds.OutOfMemory → ⊥)
Answers kind refusals.NoMemory = Unit {0}

-- how words are no command; want of memory says nothing of them
abbrev pub Refuses : List Text → NoCommand → Type 0
Refuses words (refusals.Shown text) = (command_of words ≡ None) × (may_show words ≡ true)
Refuses words refusals.Wrong = (command_of words ≡ None) × (must_show words ≡ false)
Refuses words refusals.NoMemory = Unit {0}
