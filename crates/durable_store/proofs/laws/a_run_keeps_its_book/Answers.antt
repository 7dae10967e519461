use Rattle.durable_store.proofs.Ran.{holds_opened, holds_given, run_holds, run_firm_then, done_restores}
use Rattle.durable_store.proofs.Switched.{book_switched, book_left}
use Rattle.durable_store.proofs.laws.a_run_keeps_its_book.Goals as goal

pub returns-clause-opened : goal.returns-clause-opened
returns-clause-opened c = holds_opened

pub returns-clause-given : goal.returns-clause-given
returns-clause-given c = holds_given

pub returns-clause-keeps : goal.returns-clause-keeps
returns-clause-keeps c = run_holds

pub returns-clause-firm : goal.returns-clause-firm
returns-clause-firm c = run_firm_then

pub returns-clause-done : goal.returns-clause-done
returns-clause-done c = done_restores

pub returns-clause-switched : goal.returns-clause-switched
returns-clause-switched c = book_switched

pub returns-clause-left : goal.returns-clause-left
returns-clause-left c = book_left
