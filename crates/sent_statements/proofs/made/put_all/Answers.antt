use Rattle.std.proofs.Common.{◌<◌, length, ap, arith}
use Rattle.std.specs.HashSet.{contains, spare}
use Rattle.sent_statements.specs.Indexes.{same_made}
use Rattle.sent_statements.proofs.Lookups.{on_ok, put-more}
use Rattle.sent_statements.proofs.made.put_all.Goals as goal

pub loop-made-preserved : goal.loop-made-preserved
loop-made-preserved c =
    let is = c.in-Some.ensures.steps.0 in
    let counted = ap length is in
    let room : 0 < spare c.loop-made.index = omega (arith, c.loop-made.invariant.room, counted) in
    let put = on_ok c.insert.result _ (c.insert.ensures.succeeds room) c.insert.ensures.updates in
    record {
      all = λ m.
          put-more same_made (contains same_made c.loop-made.index) (contains same_made c.insert.new.self) c.in-Some.made c.next.new.self.rest.items
          c.loop-made.made-iterator.rest.items m _ is (put.0 m) (c.loop-made.invariant.all m);
      room = omega (arith, c.loop-made.invariant.room, counted, c.insert.ensures.spare);
    }
