use Rattle.std.proofs.Common.{◌++◌, ◌∙◌, ◌+◌, append_assoc, ap, sym}
use Rattle.std.proofs.lemmas.List.{append-nil}
use Rattle.world_script.proofs.Members.{members_more, members_none}
use Rattle.smart_top.proofs.node.first_members.Goals as goal

pub loop-i-preserved : goal.loop-i-preserved
loop-i-preserved c =
    let e = members_more (c.loop-i.i + 1) c.args.count c.loop-i.i c.loop-i-test.true in
    rw (c.in_ok-push.ensures.ok, c.new.ensures) (append_assoc c.loop-i.members _ _ ∙ (ap (λ more. c.loop-i.members ++ more) (sym e) ∙ c.loop-i.invariant))

pub returns : goal.returns
returns c =
    let e = members_none (c.loop-i.i + 1) c.args.count c.loop-i.i c.loop-i-test.false in
    sym (append-nil c.loop-i.members) ∙ (ap (λ more. c.loop-i.members ++ more) (sym e) ∙ c.loop-i.invariant)
