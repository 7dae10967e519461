use Rattle.std.proofs.Common.{sym, arith}
use Rattle.std.proofs.lemmas.List.{take_all}
use Rattle.world_script.proofs.reading.looked_at.Goals as goal

pub returns-then-bytes : goal.returns-then-bytes
returns-then-bytes c = sym (take_all 65537 c.args.bytes.now (omega arith))
