use Rattle.node_core.proofs.Reopeners.{after_more, after_damaged, after_all}
use Rattle.node_core.proofs.laws.a_restart_reads_part_by_part.Goals as goal

pub returns : goal.returns
returns g c = record {
  next = λ o read bytes r is some. after_more g.S.Service.meaning o read bytes r is some;
  damaged = λ o read bytes r entry is damage. after_damaged g.S.Service.meaning o read bytes r entry is damage;
  node = λ o read r is. after_all g.S.Service.meaning o read r is;
}
