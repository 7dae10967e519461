use Rattle.std.proofs.Common.{◌≡◌, ℕ, sym, subst}
use Rattle.std.specs.Result.{OnOk}
use Rattle.world_rules.specs.Worlds.{World, core_course, client_takes, reaches}
use Rattle.smart_base.specs.declared.party.Party.{Party}
use Rattle.world_nodes.proofs.Giving.{given_arrival}
use Rattle.world_core.proofs.flow.reach.Goals as goal

pub returns-in-Member : goal.returns-in-Member
returns-in-Member g c =
    subst (λ (to : Party). OnOk c.give_member.result (c.give_member.new.world ≡ reaches (core_course g.S.Service.meaning) c.args.members.now c.args.bytes.now to c.args.world.now)) (sym c.in-Member.is)
    (subst (λ (w : World g.row.S.Denot). OnOk c.give_member.result (c.give_member.new.world ≡ w))
    (given_arrival (core_course g.S.Service.meaning) c.args.members.now c.args.bytes.now c.args.arrival.now c.in-Member.id c.args.world.now c.requires) c.give_member.ensures)

pub returns-in-Client : goal.returns-in-Client
returns-in-Client g c =
    subst (λ (to : Party). OnOk c.client_takes.result (c.client_takes.new.world ≡ reaches (core_course g.S.Service.meaning) c.args.members.now c.args.bytes.now to c.args.world.now)) (sym c.in-Client.is)
    (subst (λ (id : ℕ). OnOk c.client_takes.result (c.client_takes.new.world ≡ client_takes id c.args.bytes.now c.args.world.now)) c.get.ensures c.client_takes.ensures)
