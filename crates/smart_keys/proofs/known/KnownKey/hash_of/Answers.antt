use Rattle.std.proofs.Common.{refl, sym, ◌∙◌}
use Rattle.smart_keys.proofs.Learnt.{bytes_equal}
use Rattle.smart_keys.proofs.known.KnownKey.hash_of.Goals as goal

pub returns-then-same_bytes : goal.returns-then-same_bytes
returns-then-same_bytes c = (refl, bytes_equal c.args.self.now.name c.args.name.now (sym c.same_bytes.ensures ∙ c.if-same_bytes.true))
