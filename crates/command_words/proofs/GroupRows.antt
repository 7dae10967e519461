-- Words of `group` that are written out, as the parser sees them.
use Rattle.std.proofs.Common.{refl, codes, [], ◌∷◌, ◌≡◌, Some}
use Rattle.clap.proofs.OnLiterals.{clap_on_literals}
use Rattle.command_words.specs.Commands.{IsShown, IsWrong, command_of, may_show, must_show}
use Rattle.command_words.specs.Options.{first_group, group_words, in_d, number_in}
use Rattle.command_words.specs.declared.command.Command.TheVariants.{Group}

pub group_usual : command_of (group_words (codes "4") (codes "1") (codes "8") (codes "1000000000") (codes "3") in_d) ≡ Some (Group (first_group 1000000000 3))
unfolding clap_on_literals number_in command_of
group_usual = refl

pub group_no_turns : command_of (group_words (codes "4") (codes "1") (codes "8") (codes "0") (codes "0") in_d) ≡ Some (Group (first_group 0 0))
unfolding clap_on_literals number_in command_of
group_no_turns = refl

pub group_most : command_of (group_words (codes "4") (codes "1") (codes "8") (codes "9223372036854775808") (codes "10000") in_d) ≡ Some (Group (first_group 9223372036854775808 10000))
unfolding clap_on_literals number_in command_of
group_most = refl

pub group_joined : command_of (codes "group" ∷ codes "--dir=d" ∷ codes "--asks=3" ∷ codes "--turns=5" ∷ codes "--period=8" ∷ codes "--f=1" ∷ codes "--n=4" ∷ []) ≡ Some (Group (first_group 5 3))
unfolding clap_on_literals number_in command_of
group_joined = refl

pub group_none : IsWrong (codes "group" ∷ [])
unfolding clap_on_literals number_in command_of may_show
group_none = (refl, refl)

pub group_no_dir : IsWrong (group_words (codes "4") (codes "1") (codes "8") (codes "5") (codes "3") [])
unfolding clap_on_literals number_in command_of may_show
group_no_dir = (refl, refl)

pub group_few_members : IsWrong (group_words (codes "3") (codes "1") (codes "8") (codes "5") (codes "3") in_d)
unfolding clap_on_literals number_in command_of may_show
group_few_members = (refl, refl)

pub group_no_members : IsWrong (group_words (codes "0") (codes "0") (codes "8") (codes "5") (codes "3") in_d)
unfolding clap_on_literals number_in command_of may_show
group_no_members = (refl, refl)

pub group_many_members : IsWrong (group_words (codes "32") (codes "10") (codes "32") (codes "5") (codes "3") in_d)
unfolding clap_on_literals number_in command_of may_show
group_many_members = (refl, refl)

pub group_many_faulty : IsWrong (group_words (codes "31") (codes "11") (codes "31") (codes "5") (codes "3") in_d)
unfolding clap_on_literals number_in command_of may_show
group_many_faulty = (refl, refl)

pub group_short_period : IsWrong (group_words (codes "4") (codes "1") (codes "3") (codes "5") (codes "3") in_d)
unfolding clap_on_literals number_in command_of may_show
group_short_period = (refl, refl)

pub group_long_period : IsWrong (group_words (codes "4") (codes "1") (codes "1048577") (codes "5") (codes "3") in_d)
unfolding clap_on_literals number_in command_of may_show
group_long_period = (refl, refl)

pub group_many_turns : IsWrong (group_words (codes "4") (codes "1") (codes "8") (codes "9223372036854775809") (codes "3") in_d)
unfolding clap_on_literals number_in command_of may_show
group_many_turns = (refl, refl)

pub group_many_asks : IsWrong (group_words (codes "4") (codes "1") (codes "8") (codes "5") (codes "10001") in_d)
unfolding clap_on_literals number_in command_of may_show
group_many_asks = (refl, refl)

pub group_leading_zero : IsWrong (group_words (codes "4") (codes "1") (codes "8") (codes "5") (codes "03") in_d)
unfolding clap_on_literals number_in command_of may_show
group_leading_zero = (refl, refl)

pub group_no_number : IsWrong (group_words (codes "4") (codes "x") (codes "8") (codes "5") (codes "3") in_d)
unfolding clap_on_literals number_in command_of may_show
group_no_number = (refl, refl)

pub group_twice : IsWrong (group_words (codes "4") (codes "1") (codes "8") (codes "5") (codes "3") (codes "--n" ∷ codes "4" ∷ in_d))
unfolding clap_on_literals number_in command_of may_show
group_twice = (refl, refl)

pub group_secret : IsWrong (group_words (codes "4") (codes "1") (codes "8") (codes "5") (codes "3") (codes "--secret" ∷ codes "736d" ∷ in_d))
unfolding clap_on_literals number_in command_of may_show
group_secret = (refl, refl)

pub group_more : IsWrong (group_words (codes "4") (codes "1") (codes "8") (codes "5") (codes "3") (codes "word" ∷ in_d))
unfolding clap_on_literals number_in command_of may_show
group_more = (refl, refl)

pub group_help : IsShown (codes "group" ∷ codes "--help" ∷ [])
unfolding clap_on_literals number_in command_of must_show
group_help = (refl, refl)
