use Rattle.std.proofs.Common.{rules, arith}
use Rattle.member_store.proofs.Patches.{put-part, length-over}
use Rattle.member_store.proofs.left.Left.patch.Goals as goal

pub returns : goal.returns
returns c = λ whole is. record {
  bytes = put-part c.args.greatest c.args.patch.now.at c.min-at.result c.min-count.result c.args.patch.now.bytes c.args.self.now.bytes.items whole c.split_at.result.0.now c.write.new.contents.items is.bytes (omega arith) (omega (arith, c.len.ensures.value)) (search rules) c.in_ok-write.ensures;
  length = omega (arith, is.length, length-over c.args.patch.now.at c.args.patch.now.bytes whole);
}
