use Rattle.member_store.proofs.BookCrashed.{empty_book}
use Rattle.member_store.proofs.BookCalled.{all_counted, given_book, asked_book, called_book, called_firm_book}
use Rattle.member_store.proofs.SwitchPlaces.{placed}
use Rattle.member_store.proofs.laws.a_store_holds_what_is_written.Goals as goal

pub returns-clause-empty : goal.returns-clause-empty
returns-clause-empty c = empty_book

pub returns-clause-given : goal.returns-clause-given
returns-clause-given c = given_book

pub returns-clause-asked : goal.returns-clause-asked
returns-clause-asked c = asked_book

pub returns-clause-called : goal.returns-clause-called
returns-clause-called c = called_book

pub returns-clause-firm : goal.returns-clause-firm
returns-clause-firm c = called_firm_book

pub returns-clause-counted : goal.returns-clause-counted
returns-clause-counted c = all_counted

pub returns-clause-place : goal.returns-clause-place
returns-clause-place c = placed
