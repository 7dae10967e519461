use Rattle.std.proofs.Common.{◌≡◌, ◌⊎◌, true}
use Rattle.group_run.proofs.Failing.{Has}
use Rattle.group_parties.specs.declared.running.CourseEnd.TheVariants.{GaveUp}
use Rattle.group_client.specs.declared.asking.ClientFault.TheVariants.{Output}
use Rattle.group_run.proofs.closing.failures_of.Given as goal

abbrev pub invariant-loop-member : goal.invariant-loop-member
invariant-loop-member g l = record {
  output : l.failures.output ≡ true → l.fn.end ≡ GaveUp Output;
  output_only : l.fn.end ≡ GaveUp Output → l.failures.output ≡ true;
  trail : l.failures.trail ≡ true → (l.client.failed ≡ true) ⊎ Has (λ m. m.failed) l.members l.member-index;
  disk : l.failures.disk ≡ true → Has (λ m. m.worn) l.members l.member-index;
}
