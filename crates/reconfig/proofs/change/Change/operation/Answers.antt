use Rattle.std.proofs.Common.{length, arith}
use Rattle.std.proofs.lemmas.Bool.{leb-true}
use Rattle.reconfig.specs.Changes.{change_text}
use Rattle.reconfig.proofs.Changes.{brief_few}
use Rattle.reconfig.proofs.change.Change.operation.Goals as goal

pub text-requires : goal.text-requires
text-requires c =
    let few = brief_few c.args.self.now c.requires in
    omega (arith, few)

pub new-requires : goal.new-requires
new-requires c = rw c.in_ok-text.ensures (leb-true (length (change_text c.args.self.now)) 4096 c.requires)
