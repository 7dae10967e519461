use Rattle.std.proofs.Common.{◌≡◌, ◌∙◌, ap, subst}
use Rattle.std.specs.Prelude.{slice_get, IfOk}
use Rattle.std.proofs.lemmas.Option.{get_or_from_slice_get}
use Rattle.smart_base.specs.Views.{View}
use Rattle.node_rules.specs.Nodes.{view_of}
use Rattle.world_rules.specs.Worlds.{Host}
use Rattle.world_state.proofs.state.WorldState.view_at.Goals as goal

pub returns : goal.returns
returns g c = λ h there.
    let host_is : c.index-hosts-i.result ≡ h =
    c.index-hosts-i.is ∙ get_or_from_slice_get c.hosts.result.now c.args.i h c.index-hosts-i.result (ap (λ hs. slice_get hs c.args.i) c.hosts.ensures ∙ there) in
    subst (λ (v : View). IfOk c.duplicate.result (λ (view : View). view ≡ v)) (c.view.ensures ∙ ap (λ (k : Host g.row.S.Denot). view_of k.node) host_is) c.duplicate.ensures
