-- The ranges of a command's values.
use Rattle.std.specs.Prelude.{◌+◌, ◌*◌, ◌^◌, ◌≤◌, length}
use Rattle.smart_base.specs.declared.limits.TheConstants.{FAULTY, LAST_PERIOD, MEMBERS}
use Rattle.command_words.specs.declared.command.Command.{Command}
use Rattle.command_words.specs.declared.command.Command.TheVariants.{World, Load, Node, Group, Audit}
use Rattle.command_words.specs.declared.node_words.GroupSize.{GroupSize}
use Rattle.command_words.specs.declared.node_words.GroupWords.{GroupWords}
use Rattle.command_words.specs.declared.node_words.NodeWords.{NodeWords}

pub record FitsGroup (g : GroupSize) : Type 0 where
  pub more : 3 * g.faulty + 1 ≤ g.members
  pub few : g.members ≤ MEMBERS
  pub few_faulty : g.faulty ≤ FAULTY

pub record FitsNode (n : NodeWords) : Type 0 where
  pub member : 1 ≤ n.id
  pub some_secret : 1 ≤ length n.secret
  pub short_secret : length n.secret ≤ 64
  pub group : FitsGroup n.group
  pub long_period : n.group.members ≤ n.period
  pub short_period : n.period ≤ LAST_PERIOD

pub record FitsGroupRun (g : GroupWords) : Type 0 where
  pub group : FitsGroup g.group
  pub long_period : g.group.members ≤ g.period
  pub short_period : g.period ≤ LAST_PERIOD
  pub few_turns : g.turns ≤ 2 ^ 63
  pub few_asks : g.asks ≤ 10000

abbrev pub FitsCommand : Command → Type 0
FitsCommand World = Unit {0}
FitsCommand (Load count) = Unit {0}
FitsCommand (Node n) = FitsNode n
FitsCommand (Group g) = FitsGroupRun g
FitsCommand Audit = Unit {0}
