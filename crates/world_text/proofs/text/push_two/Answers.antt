use Rattle.std.proofs.Common.{◌∙◌, append_assoc}
use Rattle.world_text.proofs.text.push_two.Goals as goal

pub returns : goal.returns
returns c = c.in_ok-write.ensures.bytes ∙ (rw c.in_ok-push_str.ensures.bytes (simp append_assoc))
