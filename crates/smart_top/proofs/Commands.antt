-- Which command words are, once they were read as one, and what a command says.
use Rattle.std.proofs.Common.{◌≡◌, ◌∙◌, Bool, true, false, ℕ, Option, Some, None, ap, refl, sym}
use Rattle.command_words.specs.declared.command.Command.{Command}
use Rattle.command_words.specs.declared.command.Command.TheVariants as commands
use Rattle.command_words.specs.declared.node_words.GroupWords.{GroupWords}
use Rattle.command_words.specs.declared.node_words.NodeWords.{NodeWords}

-- words are one command
pub that_command : (words : Option Command) (command other : Command) → words ≡ Some command → words ≡ Some other → command ≡ other
that_command words command other is also = cc

-- words that are a command are not none
pub some_command : (words : Option Command) (command : Command) → words ≡ Some command → words ≡ None → ⊥
some_command words command is none = cc

-- a command that words are not is not the one that they are
pub no_command : (words : Option Command) (command other : Command) → words ≡ Some command → (words ≡ Some other → ⊥) → command ≡ other → ⊥
no_command words command other is none same = none (is ∙ ap (λ (c : Command). Some c) same)

-- whether two commands have one name
abbrev pub is_like : Command → Command → Bool
is_like commands.World commands.World = true
is_like (commands.Load n) (commands.Load m) = true
is_like (commands.Node n) (commands.Node m) = true
is_like (commands.Group w) (commands.Group v) = true
is_like commands.Audit commands.Audit = true
is_like _ _ = false

like-itself : (command : Command) → is_like command command ≡ true
like-itself commands.World = refl
like-itself (commands.Load n) = refl
like-itself (commands.Node n) = refl
like-itself (commands.Group w) = refl
like-itself commands.Audit = refl

true-false : (b : Bool) → b ≡ true → b ≡ false → ⊥
true-false b is not = cc

-- a command has one name
pub unlike : (command x y : Command) → command ≡ x → command ≡ y → is_like x y ≡ false → ⊥
unlike command x y is also not = true-false (is_like x y) (ap (λ (z : Command). is_like x z) (sym also ∙ is) ∙ like-itself x) not

-- a command says one thing
pub same_load : (command : Command) (n other : ℕ) → command ≡ commands.Load n → command ≡ commands.Load other → n ≡ other
same_load command n other is also = cc

pub same_node : (command : Command) (n other : NodeWords) → command ≡ commands.Node n → command ≡ commands.Node other → n ≡ other
same_node command n other is also = cc

pub same_group : (command : Command) (w other : GroupWords) → command ≡ commands.Group w → command ≡ commands.Group other → w ≡ other
same_group command w other is also = cc
