use Rattle.request_pool.proofs.Gathered.{gathered_fits}
use Rattle.request_pool.proofs.laws.what_is_gathered_fits.Goals as goal

pub returns : goal.returns
returns c = gathered_fits
