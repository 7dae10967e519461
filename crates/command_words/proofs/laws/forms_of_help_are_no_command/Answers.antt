use Rattle.command_words.proofs.Rows.{nothing, short_help, help, short_version, version, world_help, world_version, load_help, load_version, topic, shown_topic}
use Rattle.command_words.proofs.laws.forms_of_help_are_no_command.Goals as goal

pub returns : goal.returns
returns c = record {
  nothing = nothing;
  short_help = short_help;
  help = help;
  short_version = short_version;
  version = version;
  world_help = world_help;
  world_version = world_version;
  load_help = load_help;
  load_version = load_version;
  topic = topic;
  shown_topic = shown_topic;
}
