use Rattle.std.proofs.Common.{ap, subst, ◌≡◌, List}
use Rattle.vote_book.specs.declared.entry.LogEntry.{LogEntry}
use Rattle.vote_book.specs.Books.{Book}
use Rattle.vote_book.specs.BookIndex.{accept_found}
use Rattle.vote_book.specs.BookReports.{lock_of}
use Rattle.vote_book.proofs.Reports.{lock_found}
use Rattle.vote_book.proofs.book.Book.open_lock.Goals as goal

pub returns : goal.returns
returns c =
    subst (λ (es : List LogEntry). accept_found es c.greatest.result ≡ lock_of c.args.view es) (ap (λ (b : Book). b.entries) c.self.view_is)
    (lock_found c.self.inside.entries.items c.self.inside.index c.args.view c.get.result c.greatest.result c.self.invariant.0 c.get.ensures.value c.greatest.ensures)
