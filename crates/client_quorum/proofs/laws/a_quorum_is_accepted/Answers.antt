use Rattle.client_quorum.proofs.Accepting.{asked_exact, asked_complete}
use Rattle.client_quorum.proofs.laws.a_quorum_is_accepted.Goals as goal

pub returns : goal.returns
returns c = record {
  exact = λ secret client q ws. asked_exact secret client q ws;
  complete = λ secret client q ws none a. asked_complete secret client q ws none a;
}
