use Rattle.certificates.proofs.Exact.{passed-exact}
use Rattle.certificates.proofs.Equal.{marks-exact}
use Rattle.certificates.proofs.check.check_marks.Goals as goal

pub returns-clause-exact : goal.returns-clause-exact
returns-clause-exact c =
    passed-exact _ _ c.check_list.result (marks-exact c.args.ring.now c.args.view.now c.args.place c.args.digest c.args.marks.now)
    (rw c.f.ensures at c.check_list.ensures)
