use Rattle.std.proofs.Common.{◌≡◌, ◌∙◌, ℕ, List, map, ap, subst}
use Rattle.std.specs.Prelude.{slice_get, IfOk}
use Rattle.std.proofs.lemmas.Option.{get_or_from_slice_get}
use Rattle.smart_base.specs.Views.{View, present}
use Rattle.smart_base.specs.declared.party.Party.TheVariants as parties
use Rattle.client_quorum.specs.declared.client.Client.{Client}
use Rattle.world_rules.specs.Worlds.{World}
use Rattle.world_clients.proofs.clients.members_known.Goals as goal

pub returns : goal.returns
returns g c = λ client there.
    let clients = c.world.inside.clients.items in
    let same : clients ≡ c.args.world.now.clients = ap (λ (w : World g.row.S.Denot). w.clients) c.world.view_is in
    let is : c.index.result.now ≡ client = c.index.ensures ∙ get_or_from_slice_get clients c.args.i client c.index.result.now (ap (λ (cs : List Client). slice_get cs c.args.i) same ∙ there) in
    subst (λ (v : View). IfOk c.members_of.result (λ to. to ≡ map (λ (id : ℕ). parties.Member id) v.members)) (c.view.ensures ∙ ap (λ (k : Client). present k.views) is) c.members_of.ensures
