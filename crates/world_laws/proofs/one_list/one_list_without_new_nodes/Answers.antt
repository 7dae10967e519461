use Rattle.world_laws.proofs.Alone.{kept_by_nodes, nodes_alone}
use Rattle.world_laws.proofs.one_list.one_list_without_new_nodes.Goals as goal

pub returns : goal.returns
returns g c = record {
  members = λ header ls k promise none. nodes_alone g.S.Service.meaning header ls k promise none;
  kept = λ w place left kept may. kept_by_nodes g.S.Service.meaning w place left kept may;
}
