use Rattle.std.proofs.Common.{◌≡◌, ◌∙◌, List, [], sym, ap, subst, arith}
use Rattle.group_ends.specs.declared.inbox.Inbox.{Inbox}
use Rattle.group_wires.specs.Wires.{AreDealt}
use Rattle.group_wires.proofs.Dealt.{bare-more, bare-none}
use Rattle.group_wires.proofs.dealing.bare_inboxes.Goals as goal

pub loop-made-init : goal.loop-made-init
loop-made-init c = record { bare = bare-none c.new-inboxes.result.items c.new-inboxes.ensures.items; many = omega arith }

pub loop-made-preserved : goal.loop-made-preserved
loop-made-preserved c =
    let l = c.loop-made in
    let inbox = c.new-inbox.result in
    let none : inbox.links.items ≡ [] = ap (λ links. links.items) c.new-inbox.ensures ∙ c.new.ensures.items in record {
      bare = subst (λ (xs : List Inbox). AreDealt [] xs) (sym c.in_ok-push.ensures.items) (bare-more l.inboxes.items inbox none l.invariant.bare);
      many = omega (arith, l.invariant.many, c.in_ok-push.ensures.len);
    }
