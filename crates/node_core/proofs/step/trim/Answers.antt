use Rattle.std.proofs.Common.{refl, ap, ◌∙◌, nat_lt, List}
use Rattle.std.specs.Prelude.{filter}
use Rattle.transfer_form.specs.declared.transfer.ProvenBatch.{ProvenBatch}
use Rattle.smart_base.specs.Views.{View}
use Rattle.node_state.proofs.Following.{trimmed_after, trimmed_where}
use Rattle.node_core.proofs.step.trim.Goals as goal

pub invariant_of-node : goal.invariant_of-node
invariant_of-node g c =
    trimmed_after _ _ _ _ _ c.node.inside.instance c.trim.new.self c.node.inside.synchronizer c.trim-2.new.self c.trim.ensures c.trim-2.ensures c.node.invariant

pub returns : goal.returns
returns g c =
    trimmed_where c.args.node.now _ c.node.inside.instance c.trim.new.self c.node.inside.synchronizer c.trim-2.new.self c.number-number.result c.decided_place-place.result c.regency-regency.result
    c.later.result c.keep_ahead.new.slots.items c.node.view_is c.node.invariant refl refl refl refl refl refl (c.number-number.ensures ∙ ap (λ (v : View). v.number) c.view.ensures)
    c.decided_place-place.ensures c.regency-regency.ensures
    (c.later.ensures ∙ ap (λ (ds : List ProvenBatch). filter (λ (d : ProvenBatch). nat_lt c.decided_place-place.result d.place) ds) c.replace-decisions.ensures.value) c.keep_ahead.ensures c.trim.ensures c.trim-2.ensures
