use Rattle.std.proofs.Common.{◌∙◌, append_assoc}
use Rattle.message_words.proofs.words.push_sync.Goals as goal

pub returns : goal.returns
returns c = c.in_ok-push_str.ensures.bytes ∙ (rw (c.in_ok-push_three.ensures, c.bound_text.ensures) (simp append_assoc))
