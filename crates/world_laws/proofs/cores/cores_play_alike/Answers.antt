use Rattle.world_laws.proofs.CoreWorlds.{core_told, core_world}
use Rattle.world_laws.proofs.cores.cores_play_alike.Goals as goal

pub returns : goal.returns
returns g c = record {
  told = λ header ls. core_told g.S.Service.meaning header ls;
  world = λ header ls. core_world g.S.Service.meaning header ls;
}
