use Rattle.durable_store.proofs.store.make_ready.Goals as goal

pub returns-clause-fits : goal.returns-clause-fits
returns-clause-fits g c = λ d. (c.in_ok-ready.ensures.spelled d, c.in_ok-ready.ensures.fits)
