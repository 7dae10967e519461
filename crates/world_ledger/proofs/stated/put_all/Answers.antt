use Rattle.std.proofs.Common.{◌<◌, length, ap, arith}
use Rattle.std.specs.HashSet.{contains, spare}
use Rattle.world_ledger.specs.Statements.{same_stated}
use Rattle.world_ledger.proofs.StatedLaws.{on_ok, put-more}
use Rattle.world_ledger.proofs.stated.put_all.Goals as goal

pub loop-stated-preserved : goal.loop-stated-preserved
loop-stated-preserved c =
    let is = c.in-Some.ensures.steps.0 in
    let counted = ap length is in
    let room : 0 < spare c.loop-stated.index = omega (arith, c.loop-stated.invariant.room, counted) in
    let put = on_ok c.insert.result _ (c.insert.ensures.succeeds room) c.insert.ensures.updates in
    record {
      all = λ s.
          put-more same_stated (contains same_stated c.loop-stated.index) (contains same_stated c.insert.new.self) c.in-Some.stated c.next.new.self.rest.items
          c.loop-stated.stated-iterator.rest.items s _ is (put.0 s) (c.loop-stated.invariant.all s);
      room = omega (arith, c.loop-stated.invariant.room, counted, c.insert.ensures.spare);
    }
