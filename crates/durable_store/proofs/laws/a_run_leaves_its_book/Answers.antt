use Rattle.durable_store.proofs.Ran.{run_leaves, book_restored, call_counted}
use Rattle.durable_store.proofs.laws.a_run_leaves_its_book.Goals as goal

pub returns-clause-leaves : goal.returns-clause-leaves
returns-clause-leaves c = run_leaves

pub returns-clause-restores : goal.returns-clause-restores
returns-clause-restores c = book_restored

pub returns-clause-counted : goal.returns-clause-counted
returns-clause-counted c = call_counted
