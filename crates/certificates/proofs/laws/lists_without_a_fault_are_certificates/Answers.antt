use Rattle.certificates.proofs.Equal.{votes-exact, marks-exact}
use Rattle.certificates.proofs.Reported.{collect-exact}
use Rattle.certificates.proofs.laws.lists_without_a_fault_are_certificates.Goals as goal

pub returns : goal.returns
returns c = record { votes = votes-exact; marks = marks-exact; collects = collect-exact }
