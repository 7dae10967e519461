use Rattle.std.proofs.lemmas.List.{length-map}
use Rattle.smart_statements.specs.Forms.{SignedBy}
use Rattle.smart_statements.specs.declared.statement.Ballot.{Ballot}
use Rattle.certificates.specs.Certificates.{write_of}
use Rattle.certificates.proofs.Exact.{passed-exact}
use Rattle.certificates.proofs.Equal.{votes-exact}
use Rattle.certificates.proofs.check.check_write_cert.Goals as goal

pub returns-clause-exact : goal.returns-clause-exact
returns-clause-exact c =
    passed-exact _ _ c.check_list.result (votes-exact c.args.ring.now c.args.view.now (write_of c.args.slot c.args.digest) c.args.votes.now)
    (rw (length-map c.args.votes.now (λ (x : SignedBy Ballot). x.signer)) (rw c.quorum.ensures at c.check_list.ensures))
