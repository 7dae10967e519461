use Rattle.node_laws.proofs.More.{sound_more}
use Rattle.node_laws.proofs.Passes.{sound_step, sound_released, sound_opened}
use Rattle.node_laws.proofs.laws.a_node_stays_sound.Goals as goal

pub returns-clause-first : goal.returns-clause-first
returns-clause-first g c = λ secret id view period viewed. sound_opened g.S.Service.meaning secret id view period viewed

pub returns-clause-step : goal.returns-clause-step
returns-clause-step g c = λ stated view n event is was. sound_step g.S.Service.meaning stated view n event is was

pub returns-clause-released : goal.returns-clause-released
returns-clause-released g c = λ stated view n is. sound_released stated view n is

pub returns-clause-more : goal.returns-clause-more
returns-clause-more g c = λ stated more view n grows is. sound_more stated more grows view n is
