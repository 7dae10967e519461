use Rattle.std.proofs.Common.{[]}
use Rattle.batch_log.proofs.reopening.reopen.Goals as goal

pub returns-in-Ok-clause-underway : goal.returns-in-Ok-clause-underway
returns-in-Ok-clause-underway g c = λ told.
    let s = c.in-Ok.ensures.stands told [] in
    record { group = []; kept = c.in-Ok.groups; other = s.0; stands = s.1 }
