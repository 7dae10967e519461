use Rattle.std.proofs.Common.{◌≡◌, map}
use Rattle.smart_messages.specs.declared.message.Message.TheVariants as changes
use Rattle.transfer_form.specs.declared.transfer.StatePart.{StatePart}
use Rattle.node_rules.specs.Nodes.{holding_all}
use Rattle.node_rules.specs.declared.node.Target.TheVariants as targets
use Rattle.node_answers.proofs.answers.hold_parts.Given as goal

-- the parts left complete what all make; no entry and no snapshot comes
abbrev pub invariant-loop-part : goal.invariant-loop-part
invariant-loop-part g l = record {
  node : holding_all l.node (targets.Node l.member) (map (λ (p : StatePart). changes.StatePart p) l.part-iterator.rest.items) ≡ holding_all l.fn.node (targets.Node l.member) (map (λ (p : StatePart). changes.StatePart p) l.fn.parts);
  book : l.node.entries ≡ l.fn.node.entries;
  taken : l.node.taken ≡ l.fn.node.taken;
}
