use Rattle.std.proofs.Common.{IsSome, sym, subst, ◌∙◌}
use Rattle.node_rooms.proofs.Found.{not-both}
use Rattle.node_rooms.proofs.disks.FileRoomDiskRoom.get.Goals as goal

pub returns-in-None-clause-not_twice : goal.returns-in-None-clause-not_twice
returns-in-None-clause-not_twice g c = λ taken. absurd (not-both (subst IsSome (sym c.taken.ensures ∙ c.in-None.is) taken))
