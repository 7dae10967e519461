use Rattle.world_rules.specs.Worlds.{course_of}
use Rattle.world_laws.proofs.Seen.{clients_know}
use Rattle.world_laws.proofs.knowing.clients_know.Goals as goal

pub returns : goal.returns
returns g c = λ header ls client low. clients_know g.S.Service.meaning (course_of g.S.Service.meaning) header ls client low
