use Rattle.std.proofs.Common.{ap, sym, subst}
use Rattle.vote_book.specs.Books.{place_made}
use Rattle.vote_book.specs.BookIndex.{Adds}
use Rattle.vote_book.specs.declared.entry.LogEntry.{LogEntry}
use Rattle.vote_book.proofs.book.index.BookIndex.add.Goals as goal

pub returns-in-Promised-clause-ok : goal.returns-in-Promised-clause-ok
returns-in-Promised-clause-ok c = subst (λ (e : LogEntry). Adds c.args.index e c.args.self.now c.promise.new.self) (sym c.in-Promised.is) (c.promise.ensures c.args.index)

pub returns-in_ok-begin-in-Synced-clause-ok : goal.returns-in_ok-begin-in-Synced-clause-ok
returns-in_ok-begin-in-Synced-clause-ok c =
    subst (λ (e : LogEntry). Adds c.args.index e c.args.self.now c.begin.new.self) (sym c.in-Synced.is) (c.in_ok-begin-in-Synced.ensures.ok c.args.index)

pub returns-in_ok-make-in-Decided-clause-ok : goal.returns-in_ok-make-in-Decided-clause-ok
returns-in_ok-make-in-Decided-clause-ok c = c.in_ok-make-in-Decided.ensures.ok c.args.entry.now (ap (λ (e : LogEntry). place_made e) c.in-Decided.is)

pub returns-in_ok-make-in-Installed-clause-ok : goal.returns-in_ok-make-in-Installed-clause-ok
returns-in_ok-make-in-Installed-clause-ok c = c.in_ok-make-in-Installed.ensures.ok c.args.entry.now (ap (λ (e : LogEntry). place_made e) c.in-Installed.is)
