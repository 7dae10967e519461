use Rattle.store_laws.proofs.Firmed.{goes_on, close_counts, repair_counts, group_counts, switch_counts, opened_adds, given_adds, asked_adds, job_takes, job_firm, call_adds, call_firms}
use Rattle.store_laws.proofs.Tails.{tail_covers}
use Rattle.store_laws.proofs.laws.a_job_counts_what_it_makes.Goals as goal

pub returns-clause-group : goal.returns-clause-group
returns-clause-group c = group_counts

pub returns-clause-switch : goal.returns-clause-switch
returns-clause-switch c = switch_counts

pub returns-clause-tail : goal.returns-clause-tail
returns-clause-tail c = tail_covers

pub returns-clause-close : goal.returns-clause-close
returns-clause-close c = close_counts

pub returns-clause-repair : goal.returns-clause-repair
returns-clause-repair c = repair_counts

pub returns-clause-goes : goal.returns-clause-goes
returns-clause-goes c = goes_on

pub returns-clause-begins : goal.returns-clause-begins
returns-clause-begins c = job_takes

pub returns-clause-begins_firm : goal.returns-clause-begins_firm
returns-clause-begins_firm c = job_firm

pub returns-clause-firms : goal.returns-clause-firms
returns-clause-firms c = call_firms

pub returns-clause-adds : goal.returns-clause-adds
returns-clause-adds c = call_adds

pub returns-clause-opened : goal.returns-clause-opened
returns-clause-opened c = opened_adds

pub returns-clause-given : goal.returns-clause-given
returns-clause-given c = given_adds

pub returns-clause-asked : goal.returns-clause-asked
returns-clause-asked c = asked_adds
