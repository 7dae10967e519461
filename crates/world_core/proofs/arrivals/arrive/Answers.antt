use Rattle.std.proofs.Common.{◌≡◌, ℕ, sym, subst}
use Rattle.std.specs.Result.{OnOk}
use Rattle.smart_base.specs.declared.party.Party.{Party}
use Rattle.smart_statements.specs.declared.entry.NodeEvent.{NodeEvent}
use Rattle.world_rules.specs.Worlds.{core_course, node_takes, at_member, client_takes, arrives}
use Rattle.world_core.proofs.arrivals.arrive.Goals as goal

pub returns-in-Member : goal.returns-in-Member
returns-in-Member g c =
    subst (λ (to : Party). OnOk c.member_takes.result (c.member_takes.new.world ≡ arrives (core_course g.S.Service.meaning) c.args.bytes.now to c.args.world.now)) (sym c.in-Member.is)
    (subst (λ (e : NodeEvent). OnOk c.member_takes.result (c.member_takes.new.world ≡ at_member (λ i v. node_takes (core_course g.S.Service.meaning) i e v) c.in-Member.id c.args.world.now)) c.requires
    c.member_takes.ensures)

pub returns-in-Client : goal.returns-in-Client
returns-in-Client g c =
    subst (λ (to : Party). OnOk c.client_takes.result (c.client_takes.new.world ≡ arrives (core_course g.S.Service.meaning) c.args.bytes.now to c.args.world.now)) (sym c.in-Client.is)
    (subst (λ (id : ℕ). OnOk c.client_takes.result (c.client_takes.new.world ≡ client_takes id c.args.bytes.now c.args.world.now)) c.get.ensures c.client_takes.ensures)
