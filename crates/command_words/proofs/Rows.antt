-- Words that are written out, as the parser sees them.
use Rattle.std.proofs.Common.{refl, codes, [], ◌∷◌, ◌≡◌, Some, None, true}
use Rattle.clap.proofs.OnLiterals.{clap_on_literals}
use Rattle.command_words.specs.Commands.{IsShown, IsWrong, command_of, may_show, must_show}
use Rattle.command_words.specs.declared.command.Command.TheVariants.{World, Load}

pub alone : command_of (codes "world" ∷ []) ≡ Some World
unfolding clap_on_literals command_of
alone = refl

pub marked : command_of (codes "world" ∷ codes "--" ∷ []) ≡ Some World
unfolding clap_on_literals command_of
marked = refl

pub nothing : IsShown []
unfolding clap_on_literals command_of must_show
nothing = (refl, refl)

pub short_help : IsShown (codes "-h" ∷ [])
unfolding clap_on_literals command_of must_show
short_help = (refl, refl)

pub help : IsShown (codes "--help" ∷ [])
unfolding clap_on_literals command_of must_show
help = (refl, refl)

pub short_version : IsShown (codes "-V" ∷ [])
unfolding clap_on_literals command_of must_show
short_version = (refl, refl)

pub version : IsShown (codes "--version" ∷ [])
unfolding clap_on_literals command_of must_show
version = (refl, refl)

pub world_help : IsShown (codes "world" ∷ codes "--help" ∷ [])
unfolding clap_on_literals command_of must_show
world_help = (refl, refl)

pub world_version : IsShown (codes "world" ∷ codes "-V" ∷ [])
unfolding clap_on_literals command_of must_show
world_version = (refl, refl)

pub topic : command_of (codes "help" ∷ codes "world" ∷ []) ≡ None
unfolding clap_on_literals command_of
topic = refl

pub shown_topic : may_show (codes "help" ∷ codes "world" ∷ []) ≡ true
unfolding clap_on_literals may_show
shown_topic = refl

pub other : IsWrong (codes "word" ∷ [])
unfolding clap_on_literals command_of may_show
other = (refl, refl)

pub empty : IsWrong ([] ∷ [])
unfolding clap_on_literals command_of may_show
empty = (refl, refl)

pub capital : IsWrong (codes "World" ∷ [])
unfolding clap_on_literals command_of may_show
capital = (refl, refl)

pub longer : IsWrong (codes "worlds" ∷ [])
unfolding clap_on_literals command_of may_show
longer = (refl, refl)

pub more : IsWrong (codes "world" ∷ codes "now" ∷ [])
unfolding clap_on_literals command_of may_show
more = (refl, refl)

pub twice : IsWrong (codes "world" ∷ codes "world" ∷ [])
unfolding clap_on_literals command_of may_show
twice = (refl, refl)

pub behind_the_mark : IsWrong (codes "--" ∷ codes "world" ∷ [])
unfolding clap_on_literals command_of may_show
behind_the_mark = (refl, refl)

pub flag : IsWrong (codes "world" ∷ codes "-x" ∷ [])
unfolding clap_on_literals command_of may_show
flag = (refl, refl)

pub long_flag : IsWrong (codes "--world" ∷ [])
unfolding clap_on_literals command_of may_show
long_flag = (refl, refl)

pub no_text : IsWrong ((255 ∷ []) ∷ [])
unfolding clap_on_literals command_of may_show
no_text = (refl, refl)

pub least_load : command_of (codes "load" ∷ codes "1" ∷ []) ≡ Some (Load 1)
unfolding clap_on_literals command_of
least_load = refl

pub greatest_load : command_of (codes "load" ∷ codes "100000" ∷ []) ≡ Some (Load 100000)
unfolding clap_on_literals command_of
greatest_load = refl

pub marked_load : command_of (codes "load" ∷ codes "--" ∷ codes "65" ∷ []) ≡ Some (Load 65)
unfolding clap_on_literals command_of
marked_load = refl

pub load_marked_behind : command_of (codes "load" ∷ codes "65" ∷ codes "--" ∷ []) ≡ Some (Load 65)
unfolding clap_on_literals command_of
load_marked_behind = refl

pub load_help : IsShown (codes "load" ∷ codes "--help" ∷ [])
unfolding clap_on_literals command_of must_show
load_help = (refl, refl)

pub load_version : IsShown (codes "load" ∷ codes "-V" ∷ [])
unfolding clap_on_literals command_of must_show
load_version = (refl, refl)

pub load_missing : IsWrong (codes "load" ∷ [])
unfolding clap_on_literals command_of may_show
load_missing = (refl, refl)

pub load_none : IsWrong (codes "load" ∷ codes "0" ∷ [])
unfolding clap_on_literals command_of may_show
load_none = (refl, refl)

pub load_too_great : IsWrong (codes "load" ∷ codes "100001" ∷ [])
unfolding clap_on_literals command_of may_show
load_too_great = (refl, refl)

pub load_leading_zero : IsWrong (codes "load" ∷ codes "01" ∷ [])
unfolding clap_on_literals command_of may_show
load_leading_zero = (refl, refl)

pub load_plus : IsWrong (codes "load" ∷ codes "+1" ∷ [])
unfolding clap_on_literals command_of may_show
load_plus = (refl, refl)

pub load_minus : IsWrong (codes "load" ∷ codes "-1" ∷ [])
unfolding clap_on_literals command_of may_show
load_minus = (refl, refl)

pub load_no_number : IsWrong (codes "load" ∷ codes "x" ∷ [])
unfolding clap_on_literals command_of may_show
load_no_number = (refl, refl)

pub load_empty_number : IsWrong (codes "load" ∷ [] ∷ [])
unfolding clap_on_literals command_of may_show
load_empty_number = (refl, refl)

pub load_more : IsWrong (codes "load" ∷ codes "1" ∷ codes "2" ∷ [])
unfolding clap_on_literals command_of may_show
load_more = (refl, refl)

pub load_option : IsWrong (codes "load" ∷ codes "--N=1" ∷ [])
unfolding clap_on_literals command_of may_show
load_option = (refl, refl)
