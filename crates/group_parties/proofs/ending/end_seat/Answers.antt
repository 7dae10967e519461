use Rattle.std.proofs.Common.{◌∙◌, sym}
use Rattle.group_parties.proofs.Answered.{if-ok}
use Rattle.group_parties.proofs.Finished.{has-ended}
use Rattle.group_parties.proofs.ending.end_seat.Goals as goal

pub returns-clause-ended : goal.returns-clause-ended
returns-clause-ended g c = λ passes.
    let is = if-ok c.end.result (sym c.is_ok.ensures.value ∙ passes) c.end.ensures.ok in
    (is.1, has-ended c.end.new.self.inner.journal.events.items c.goes_on.new.self.inner.journal.events.items is.0)
