use Rattle.std.proofs.Common.{[], take}
use Rattle.node_rules.specs.Steps.{Outset}
use Rattle.node_core.specs.Reopeners.{IsAfter}
use Rattle.node_core.proofs.reopener.Reopener.read_all.Given as goal

-- what was read are the first entries, and none of them is damaged
abbrev pub invariant-loop-bytes : goal.invariant-loop-bytes
invariant-loop-bytes g l = (o : Outset g.row.S.Denot) → IsAfter g.S.Service.meaning o [] l.fn.self → IsAfter g.S.Service.meaning o (take l.bytes-index l.entries) l.self
