-- Words of `audit` that are written out, as the parser sees them.
use Rattle.std.proofs.Common.{refl, codes, [], ◌∷◌, ◌≡◌, Some}
use Rattle.clap.proofs.OnLiterals.{clap_on_literals}
use Rattle.command_words.specs.Commands.{IsShown, IsWrong, command_of, may_show, must_show}
use Rattle.command_words.specs.declared.command.Command.TheVariants.{Audit}

pub audit_alone : command_of (codes "audit" ∷ []) ≡ Some Audit
unfolding clap_on_literals command_of
audit_alone = refl

pub audit_marked : command_of (codes "audit" ∷ codes "--" ∷ []) ≡ Some Audit
unfolding clap_on_literals command_of
audit_marked = refl

pub audit_help : IsShown (codes "audit" ∷ codes "--help" ∷ [])
unfolding clap_on_literals command_of must_show
audit_help = (refl, refl)

pub audit_version : IsShown (codes "audit" ∷ codes "-V" ∷ [])
unfolding clap_on_literals command_of must_show
audit_version = (refl, refl)

pub audit_capital : IsWrong (codes "Audit" ∷ [])
unfolding clap_on_literals command_of may_show
audit_capital = (refl, refl)

pub audit_longer : IsWrong (codes "audits" ∷ [])
unfolding clap_on_literals command_of may_show
audit_longer = (refl, refl)

pub audit_more : IsWrong (codes "audit" ∷ codes "now" ∷ [])
unfolding clap_on_literals command_of may_show
audit_more = (refl, refl)

pub audit_twice : IsWrong (codes "audit" ∷ codes "audit" ∷ [])
unfolding clap_on_literals command_of may_show
audit_twice = (refl, refl)

pub audit_other_command : IsWrong (codes "audit" ∷ codes "world" ∷ [])
unfolding clap_on_literals command_of may_show
audit_other_command = (refl, refl)

pub audit_behind_the_mark : IsWrong (codes "--" ∷ codes "audit" ∷ [])
unfolding clap_on_literals command_of may_show
audit_behind_the_mark = (refl, refl)

pub audit_option : IsWrong (codes "audit" ∷ codes "--dir" ∷ codes "D" ∷ [])
unfolding clap_on_literals command_of may_show
audit_option = (refl, refl)

pub audit_flag : IsWrong (codes "audit" ∷ codes "-x" ∷ [])
unfolding clap_on_literals command_of may_show
audit_flag = (refl, refl)
