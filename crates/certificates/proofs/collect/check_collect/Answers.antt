use Rattle.certificates.proofs.Exact.{passed-exact}
use Rattle.certificates.proofs.Reported.{collect-exact}
use Rattle.certificates.proofs.collect.check_collect.Goals as goal

pub returns-clause-exact : goal.returns-clause-exact
returns-clause-exact c =
    passed-exact _ _ c.check_list.result (collect-exact c.args.ring.now c.args.views.now c.args.regency c.args.reports.now)
    (rw (c.collect_size.ensures, c.present-view.ensures) at c.check_list.ensures)
