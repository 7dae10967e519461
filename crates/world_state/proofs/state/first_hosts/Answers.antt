use Rattle.std.proofs.Common.{◌≡◌, ◌++◌, ◌+◌, ◌<◌, ◌∷◌, drop, append_assoc, ap, sym, ◌∙◌, length, suc, get_or, arith}
use Rattle.std.proofs.Math.Seq.{drop-cons}
use Rattle.std.proofs.lemmas.List.{append-nil, at_drop_all}
use Rattle.world_rules.specs.Worlds.{hosts_from}
use Rattle.world_state.proofs.state.first_hosts.Goals as goal

pub loop-id-preserved : goal.loop-id-preserved
loop-id-preserved g c =
    let m = g.S.Service.meaning in
    let view = c.args.view.now in
    let items = c.members-id-items.result.now in
    let i = c.loop-id.id-index in
    let left : i < length items = omega (arith, c.loop-id-test.true) in
    let one_more : suc i ≡ i + 1 = omega arith in
    let e : drop i items ≡ c.id-item.result ∷ drop (i + 1) items =
    drop-cons items i c.id-item.result left
    ∙ (ap (λ next. get_or items i c.id-item.result ∷ drop next items) one_more ∙ ap (λ id. id ∷ drop (i + 1) items) (sym c.id-item.is)) in
    rw (c.in_ok-push.ensures.items, c.in_ok-first_host.ensures)
    (append_assoc c.loop-id.hosts.items _ _ ∙ (ap (λ ids. c.loop-id.hosts.items ++ hosts_from m view c.args.period ids) (sym e) ∙ c.loop-id.invariant))

pub returns : goal.returns
returns g c =
    let none = at_drop_all (hosts_from g.S.Service.meaning c.args.view.now c.args.period) c.members-id-items.result.now c.loop-id.id-index c.loop-id-test.false in
    sym (append-nil c.loop-id.hosts.items) ∙ (ap (λ rest. c.loop-id.hosts.items ++ rest) (sym none) ∙ c.loop-id.invariant)
