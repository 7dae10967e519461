use Rattle.std.proofs.Common.{ap, subst, ◌≡◌, ◌<◌, List}
use Rattle.std.specs.Prelude.{filter_map, slice_get}
use Rattle.vote_book.specs.declared.entry.LogEntry.{LogEntry}
use Rattle.vote_book.specs.Books.{Book, last_made}
use Rattle.vote_book.specs.BookIndex.{accept_found}
use Rattle.vote_book.specs.BookReports.{accept_for}
use Rattle.vote_book.proofs.Pending.{pending_found}
use Rattle.vote_book.proofs.book.Book.open_for.Goals as goal

pub returns : goal.returns
returns c =
    subst (λ (es : List LogEntry). last_made es < c.args.place → accept_found es c.nth.result ≡ slice_get (filter_map (accept_for c.args.view c.args.place) es) c.args.index)
    (ap (λ (b : Book). b.entries) c.self.view_is)
    (λ past. pending_found c.self.inside.entries.items c.self.inside.index c.args.view c.args.place c.get.result c.args.index c.nth.result c.self.invariant.0 c.get.ensures.value past c.nth.ensures)
    c.requires
