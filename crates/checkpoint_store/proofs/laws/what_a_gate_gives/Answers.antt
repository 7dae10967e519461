use Rattle.checkpoint_store.proofs.Resting.{full_gives, empty_gives}
use Rattle.checkpoint_store.proofs.laws.what_a_gate_gives.Goals as goal

pub returns-clause-full : goal.returns-clause-full
returns-clause-full c = λ odd cells next has other s. full_gives odd cells next s.0

pub returns-clause-empty : goal.returns-clause-empty
returns-clause-empty c = λ odd cells next has other s. empty_gives odd cells s.0
