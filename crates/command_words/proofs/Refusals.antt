-- What follows of words from the parser's answer.
use Rattle.std.proofs.Common.{◌≡◌, ◌∙◌, ◌&&◌, ◌||◌, ◌⊎◌, inl, inr, Bool, true, false, List, [], ◌∷◌, Option, Some, None, ap, refl, sym, true≢false}
use Rattle.std.specs.List.{list_all, list_any}
use Rattle.clap.specs.Words.{IsAmong, Kinds, Row, Text, fault_of, subcommand_of}
use Rattle.clap.specs.declared.error.kind.ErrorKind.{ErrorKind}
use Rattle.clap.specs.declared.error.kind.ErrorKind.TheVariants as kinds
use Rattle.command_words.specs.declared.command.Command.{Command}
use Rattle.command_words.specs.declared.command.NoCommand.{NoCommand}
use Rattle.command_words.specs.declared.command.NoCommand.TheVariants as refusals
use Rattle.command_words.specs.Commands.{Answers, Refuses, command_if, command_in, command_of, is_only_shown, is_shown, may_show, must_show, program}

-- where something is wrong, the words are no command
none_among : (k : ErrorKind) (ks : Kinds) (met : Option (Text × List Row)) → IsAmong k ks → command_if ks met ≡ None
none_among k [] met h = absurd h
none_among k (x ∷ xs) met h = refl

or_right : (a b : Bool) → b ≡ true → (a || b) ≡ true
or_right true b e = refl
or_right false b e = e

and_right : (a b : Bool) → b ≡ false → (a && b) ≡ false
and_right true b e = e
and_right false b e = refl

shown_among : (k : ErrorKind) (ks : Kinds) → IsAmong k ks → is_shown k ≡ true → list_any is_shown ks ≡ true
shown_among k [] h e = absurd h
shown_among k (x ∷ xs) (inl is) e = ap (λ b. b || list_any is_shown xs) (ap is_shown (sym is) ∙ e)
shown_among k (x ∷ xs) (inr h) e = or_right (is_shown x) (list_any is_shown xs) (shown_among k xs h e)

hidden_among : (k : ErrorKind) (ks : Kinds) → IsAmong k ks → is_shown k ≡ false → list_all is_shown ks ≡ false
hidden_among k [] h e = absurd h
hidden_among k (x ∷ xs) (inl is) e = ap (λ b. b && list_all is_shown xs) (ap is_shown (sym is) ∙ e)
hidden_among k (x ∷ xs) (inr h) e = and_right (is_shown x) (list_all is_shown xs) (hidden_among k xs h e)

only_hidden : (k : ErrorKind) (ks : Kinds) → IsAmong k ks → is_shown k ≡ false → is_only_shown ks ≡ false
only_hidden k [] h e = refl
only_hidden k (x ∷ xs) h e = hidden_among k (x ∷ xs) h e

-- the parser answered with an error
pub refused : (words : List Text) (k : ErrorKind) (why : NoCommand) → (k ≡ kinds.OutOfMemory) ⊎ IsAmong k (fault_of program words) → Answers k why → Refuses words why
unfolding command_of may_show must_show
refused words k (refusals.Shown text) (inl m) a = absurd (true≢false (sym a ∙ ap is_shown m))
refused words k (refusals.Shown text) (inr h) a = (none_among k (fault_of program words) (subcommand_of program words) h, shown_among k (fault_of program words) h a)
refused words k refusals.Wrong (inl m) a = absurd (a.1 m)
refused words k refusals.Wrong (inr h) a = (none_among k (fault_of program words) (subcommand_of program words) h, only_hidden k (fault_of program words) h a.0)
refused words k refusals.NoMemory h a = tt

-- the parser took the words
pub taken : (words : List Text) (command : Command) → fault_of program words ≡ [] → command_in (subcommand_of program words) ≡ Some command → command_of words ≡ Some command
unfolding command_of
taken words command none met = ap (λ ks. command_if ks (subcommand_of program words)) none ∙ met

pub untaken : (words : List Text) → fault_of program words ≡ [] → command_in (subcommand_of program words) ≡ None → Refuses words refusals.Wrong
unfolding command_of must_show
untaken words none met = (ap (λ ks. command_if ks (subcommand_of program words)) none ∙ met, ap is_only_shown none)
