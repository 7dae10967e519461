use Rattle.vote_book.proofs.Standing.{under_put_at}
use Rattle.vote_book.proofs.book.starts.FirstStarts.put.Goals as goal

pub returns-clause-ok : goal.returns-clause-ok
returns-clause-ok c view regency =
    under_put_at c.args.self.now c.insert.new.self.entries c.args.start.now view regency c.get.result c.get-2.result c.get.ensures c.get-2.ensures c.requires
    (rw (← c.self.view_is) (c.in_ok-insert.ensures.updates.0 (view, regency)))
