-- Words of `node` that are written out, as the parser sees them.
use Rattle.std.proofs.Common.{refl, codes, [], ◌∷◌, ◌≡◌, Some}
use Rattle.clap.proofs.OnLiterals.{clap_on_literals}
use Rattle.hex.proofs.OnLiterals.{hex_on_literals}
use Rattle.command_words.specs.Commands.{IsShown, IsWrong, command_of, may_show, must_show}
use Rattle.command_words.specs.Options.{comma_in, first_node, node_words, number_in, secret_of}
use Rattle.command_words.specs.declared.command.Command.TheVariants.{Node}

pub node_usual : command_of (node_words (codes "1") (codes "d") (codes "736d") (codes "4,1") []) ≡ Some (Node (first_node 1024))
unfolding clap_on_literals hex_on_literals comma_in number_in secret_of command_of
node_usual = refl

pub node_period : command_of (node_words (codes "1") (codes "d") (codes "736d") (codes "4,1") (codes "--period" ∷ codes "4" ∷ [])) ≡ Some (Node (first_node 4))
unfolding clap_on_literals hex_on_literals comma_in number_in secret_of command_of
node_period = refl

pub node_joined : command_of (codes "node" ∷ codes "--group=4,1" ∷ codes "--secret=736d" ∷ codes "--dir=d" ∷ codes "--id=1" ∷ []) ≡ Some (Node (first_node 1024))
unfolding clap_on_literals hex_on_literals comma_in number_in secret_of command_of
node_joined = refl

pub node_none : IsWrong (codes "node" ∷ [])
unfolding clap_on_literals hex_on_literals comma_in number_in secret_of command_of may_show
node_none = (refl, refl)

pub node_no_group : IsWrong (codes "node" ∷ codes "--id" ∷ codes "1" ∷ codes "--dir" ∷ codes "d" ∷ codes "--secret" ∷ codes "736d" ∷ [])
unfolding clap_on_literals hex_on_literals comma_in number_in secret_of command_of may_show
node_no_group = (refl, refl)

pub node_no_member : IsWrong (node_words (codes "0") (codes "d") (codes "736d") (codes "4,1") [])
unfolding clap_on_literals hex_on_literals comma_in number_in secret_of command_of may_show
node_no_member = (refl, refl)

pub node_great_member : IsWrong (node_words (codes "65536") (codes "d") (codes "736d") (codes "4,1") [])
unfolding clap_on_literals hex_on_literals comma_in number_in secret_of command_of may_show
node_great_member = (refl, refl)

pub node_no_secret : IsWrong (node_words (codes "1") (codes "d") [] (codes "4,1") [])
unfolding clap_on_literals hex_on_literals comma_in number_in secret_of command_of may_show
node_no_secret = (refl, refl)

pub node_half_a_byte : IsWrong (node_words (codes "1") (codes "d") (codes "736") (codes "4,1") [])
unfolding clap_on_literals hex_on_literals comma_in number_in secret_of command_of may_show
node_half_a_byte = (refl, refl)

pub node_capital : IsWrong (node_words (codes "1") (codes "d") (codes "736D") (codes "4,1") [])
unfolding clap_on_literals hex_on_literals comma_in number_in secret_of command_of may_show
node_capital = (refl, refl)

pub node_few_members : IsWrong (node_words (codes "1") (codes "d") (codes "736d") (codes "3,1") [])
unfolding clap_on_literals hex_on_literals comma_in number_in secret_of command_of may_show
node_few_members = (refl, refl)

pub node_many_members : IsWrong (node_words (codes "1") (codes "d") (codes "736d") (codes "32,10") [])
unfolding clap_on_literals hex_on_literals comma_in number_in secret_of command_of may_show
node_many_members = (refl, refl)

pub node_many_faulty : IsWrong (node_words (codes "1") (codes "d") (codes "736d") (codes "31,11") [])
unfolding clap_on_literals hex_on_literals comma_in number_in secret_of command_of may_show
node_many_faulty = (refl, refl)

pub node_one_number : IsWrong (node_words (codes "1") (codes "d") (codes "736d") (codes "4") [])
unfolding clap_on_literals hex_on_literals comma_in number_in secret_of command_of may_show
node_one_number = (refl, refl)

pub node_short_period : IsWrong (node_words (codes "1") (codes "d") (codes "736d") (codes "4,1") (codes "--period" ∷ codes "3" ∷ []))
unfolding clap_on_literals hex_on_literals comma_in number_in secret_of command_of may_show
node_short_period = (refl, refl)

pub node_long_period : IsWrong (node_words (codes "1") (codes "d") (codes "736d") (codes "4,1") (codes "--period" ∷ codes "1048577" ∷ []))
unfolding clap_on_literals hex_on_literals comma_in number_in secret_of command_of may_show
node_long_period = (refl, refl)

pub node_twice : IsWrong (node_words (codes "1") (codes "d") (codes "736d") (codes "4,1") (codes "--id" ∷ codes "1" ∷ []))
unfolding clap_on_literals hex_on_literals comma_in number_in secret_of command_of may_show
node_twice = (refl, refl)

pub node_help : IsShown (codes "node" ∷ codes "--help" ∷ [])
unfolding clap_on_literals hex_on_literals comma_in number_in secret_of command_of must_show
node_help = (refl, refl)
