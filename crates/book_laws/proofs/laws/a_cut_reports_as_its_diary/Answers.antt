use Rattle.book_laws.proofs.Cut.{cut_last, cut_maker, cut_lock, cut_reports}
use Rattle.book_laws.proofs.laws.a_cut_reports_as_its_diary.Goals as goal

pub returns-clause-last : goal.returns-clause-last
returns-clause-last c = cut_last

pub returns-clause-maker : goal.returns-clause-maker
returns-clause-maker c = cut_maker

pub returns-clause-lock : goal.returns-clause-lock
returns-clause-lock c = cut_lock

pub returns-clause-report : goal.returns-clause-report
returns-clause-report c = cut_reports
