use Rattle.std.proofs.Common.{◌∷◌, ◌+◌, ◌==◌, drop, List, Bool, ap, sym, ◌∙◌, if◌then◌else◌, Some}
use Rattle.std.proofs.lemmas.List.{at_drop_all, drop_more}
use Rattle.world_rules.specs.Worlds.{Host, host_of}
use Rattle.world_core.proofs.world.find_host.Goals as goal

pub returns : goal.returns
returns g c = sym (at_drop_all (λ hs. host_of hs c.args.id) c.args.hosts.now c.loop-host.host-index c.loop-host-test.false) ∙ c.loop-host.invariant

pub loop-host-preserved : goal.loop-host-preserved
loop-host-preserved g c =
    let rest : List (Host g.row.S.Denot) = drop (c.loop-host.host-index + 1) c.args.hosts.now in
    let is = drop_more c.args.hosts.now c.loop-host.host-index _ c.loop-host-test.true ∙ ap (λ (x : Host g.row.S.Denot). x ∷ rest) (sym c.host-item.is) in
    ap (λ (t : Bool). if t then Some c.host-item.result else host_of rest c.args.id) (c.if-eq.ensures ∙ ap (λ i. i == c.args.id) c.id.ensures)
    ∙ (ap (λ (hs : List (Host g.row.S.Denot)). host_of hs c.args.id) (sym is) ∙ c.loop-host.invariant)

pub returns-then-eq : goal.returns-then-eq
returns-then-eq g c =
    let rest : List (Host g.row.S.Denot) = drop (c.loop-host.host-index + 1) c.args.hosts.now in
    let is = drop_more c.args.hosts.now c.loop-host.host-index _ c.loop-host-test.true ∙ ap (λ (x : Host g.row.S.Denot). x ∷ rest) (sym c.host-item.is) in
    ap (λ (t : Bool). if t then Some c.host-item.result else host_of rest c.args.id) (c.if-eq.ensures ∙ ap (λ i. i == c.args.id) c.id.ensures)
    ∙ (ap (λ (hs : List (Host g.row.S.Denot)). host_of hs c.args.id) (sym is) ∙ c.loop-host.invariant)
