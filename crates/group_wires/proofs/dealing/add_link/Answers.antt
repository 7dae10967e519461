use Rattle.std.proofs.Common.{◌≡◌, ◌∙◌, ℕ, List, length, ap, arith}
use Rattle.group_links.specs.Link.{in_link, link_put}
use Rattle.group_links.specs.declared.inward.LinkIn.{LinkIn}
use Rattle.group_wires.proofs.Dealt.{linked-by}
use Rattle.group_wires.proofs.dealing.add_link.Goals as goal

pub returns-clause-linked : goal.returns-clause-linked
returns-clause-linked c =
    let ports = c.args.ports.now.items in
    let made = c.in_ok-inward.ensures in
    let same = c.new-port.ensures in
    let here : c.len-here.result ≡ length ports = omega (arith, c.len-here.ensures, c.args.ports.now.ok.0) in
    linked-by c.args.end ports c.push.new.self.items c.args.inboxes.now.items c.add_at.new.inboxes.items c.new-port.result c.in_ok-inward.outward c.len-here.result here c.in_ok-push.ensures.items same.0
    (ap (λ (l : LinkIn (List ℕ)). link_put l) same.1 ∙ made.inward.0) (ap (λ (l : LinkIn (List ℕ)). in_link l) same.1 ∙ made.link) made.outward.0 c.in_ok-add_at.ensures.added
