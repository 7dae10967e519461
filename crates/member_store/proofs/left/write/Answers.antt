use Rattle.std.proofs.Common.{◌≡◌, ℕ, ◌+◌, ◌-◌, ◌++◌, length, take, replicate, max, ap, ◌∙◌, arith}
use Rattle.std.proofs.lemmas.Grind.{common_steps}
use Rattle.member_store.proofs.Patches.{put_filled}
use Rattle.member_store.proofs.left.write.Goals as goal

pub returns : goal.returns
returns c =
    let upto = c.max-length.result in
    let old = c.args.contents.now.items in
    let long : upto ≡ max (length old) (c.args.at + length c.args.bytes.now) = omega (arith, c.max-length.ensures, c.args.contents.now.ok.0) in
    let filled : c.resize.new.self.items ≡ take upto old ++ replicate (upto - length old) 0 = c.in_ok-resize.ensures.items ∙ ap (λ (n : ℕ). take upto old ++ replicate (upto - n) 0) (omega (arith, c.args.contents.now.ok.0)) in
    rw (← put_filled c.args.at upto c.args.bytes.now old long, ← filled) (grind (arith, common_steps))
