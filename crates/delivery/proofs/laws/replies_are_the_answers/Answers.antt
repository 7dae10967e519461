use Rattle.delivery.proofs.Deliveries.{answers-end, answer-more}
use Rattle.delivery.proofs.laws.replies_are_the_answers.Goals as goal

pub returns : goal.returns
returns g c = record {
  delivered = λ view list batch. answers-end g.S.Service.meaning view list batch;
  later = λ view list more place index reply is. answer-more g.S.Service.meaning view list more place index reply is;
}
