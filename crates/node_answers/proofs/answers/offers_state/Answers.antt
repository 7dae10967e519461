use Rattle.node_rules.specs.declared.node.Target.TheVariants as targets
use Rattle.smart_messages.specs.declared.message.Message.TheVariants as changes
use Rattle.node_answers.proofs.Answering.{on_ok_as, offered_place, offered_all}
use Rattle.node_answers.proofs.answers.offers_state.Goals as goal

pub show_after-requires : goal.show_after-requires
show_after-requires g c =
    offered_place c.args.node.now c.hold.new.self c.args.ask.place c.in_ok-offer.offer (targets.Node c.args.ask.member) (changes.StateOffer c.in_ok-offer.offer) c.in_ok-offer.ensures c.in_ok-hold.ensures.node

pub returns-clause-node : goal.returns-clause-node
returns-clause-node g c =
    on_ok_as _ c.show_after.ensures.node (offered_all c.args.node.now c.hold.new.self c.show_after.new.node c.args.ask c.in_ok-offer.offer c.in_ok-offer.ensures c.in_ok-hold.ensures.node)
