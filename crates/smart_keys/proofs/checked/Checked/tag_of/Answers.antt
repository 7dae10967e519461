use Rattle.std.proofs.Common.{refl, sym, ◌∙◌}
use Rattle.smart_keys.proofs.Learnt.{bytes_equal}
use Rattle.smart_keys.proofs.checked.Checked.tag_of.Goals as goal

pub returns-then-same_bytes-2 : goal.returns-then-same_bytes-2
returns-then-same_bytes-2 c = (
  refl,
  bytes_equal c.args.self.now.name c.args.name.now (sym c.same_bytes.ensures ∙ c.if-same_bytes.true),
  bytes_equal c.args.self.now.text c.args.text.now (rw c.as_slice.ensures at (sym c.same_bytes-then-same_bytes.ensures ∙ c.if-same_bytes-2.true)),
)
