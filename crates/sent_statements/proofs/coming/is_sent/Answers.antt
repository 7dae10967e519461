use Rattle.std.specs.HashSet.{contains}
use Rattle.sent_statements.specs.Indexes.{same_made}
use Rattle.sent_statements.proofs.Lookups.{told, same_by}
use Rattle.sent_statements.proofs.coming.is_sent.Goals as goal

pub returns : goal.returns
returns c = λ sent index.
    let same = same_by c.in_ok-made.made c.args.item.now c.args.member c.as_slice.result.now c.as_slice-2.result.now c.in_ok-made.ensures c.requires c.as_slice.ensures c.as_slice-2.ensures.value in
    told (contains same_made c.args.index.now) sent c.in_ok-made.made c.args.item.now c.contains.result index same c.contains.ensures
