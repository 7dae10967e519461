use Rattle.std.proofs.Common.{◌∙◌, append_assoc}
use Rattle.message_words.proofs.words.push_three.Goals as goal

pub returns : goal.returns
returns c = c.in_ok-push_number.ensures ∙ (rw c.in_ok-push_two.ensures (simp append_assoc))
