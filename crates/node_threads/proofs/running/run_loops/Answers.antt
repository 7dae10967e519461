use Rattle.node_threads.proofs.running.run_loops.Goals as goal

-- ---- the loop that reads

pub returns-clause-links : goal.returns-clause-links
returns-clause-links g c = (c.join_all.ensures.read.link, c.join_all.ensures.written.link)

pub returns-clause-reads : goal.returns-clause-reads
returns-clause-reads g c = c.join_all.ensures.read.reads

pub returns-clause-whole : goal.returns-clause-whole
returns-clause-whole g c = c.join_all.ensures.read.whole

pub returns-clause-form : goal.returns-clause-form
returns-clause-form g c = c.join_all.ensures.read.form.cut

pub returns-clause-received : goal.returns-clause-received
returns-clause-received g c = c.join_all.ensures.read.cause

pub returns-clause-delivered : goal.returns-clause-delivered
returns-clause-delivered g c = c.join_all.ensures.delivered

-- ---- the loop that writes

pub returns-clause-wrote : goal.returns-clause-wrote
returns-clause-wrote g c = c.join_all.ensures.written.wrote

pub returns-clause-sent : goal.returns-clause-sent
returns-clause-sent g c = c.join_all.ensures.written.cause

-- ---- the workers

pub returns-clause-rose : goal.returns-clause-rose
returns-clause-rose g c = c.join_all.ensures.made.rose

pub returns-clause-raised : goal.returns-clause-raised
returns-clause-raised g c = c.join_all.ensures.made.stored

pub returns-clause-well : goal.returns-clause-well
returns-clause-well g c = c.join_all.ensures.made.well

pub returns-clause-logged : goal.returns-clause-logged
returns-clause-logged g c = c.join_all.ensures.made.cause.rose

pub returns-clause-rounds : goal.returns-clause-rounds
returns-clause-rounds g c = c.join_all.ensures.rounds

pub returns-clause-checked : goal.returns-clause-checked
returns-clause-checked g c = c.join_all.ensures.checked

-- ---- counts of failures

pub returns-clause-later : goal.returns-clause-later
returns-clause-later g c = (c.join_all.ensures.read.later, (c.join_all.ensures.written.later, c.join_all.ensures.made.later))
