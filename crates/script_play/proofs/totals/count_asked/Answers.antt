use Rattle.std.proofs.Common.{◌+◌, ◌∙◌, List, ap, sym, arith}
use Rattle.std.specs.List.{count_by}
use Rattle.std.proofs.lemmas.List.{take_all}
use Rattle.std.proofs.lemmas.List.Sums.{count_by_more_yes, count_by_more_no}
use Rattle.world_rules.specs.declared.message.Sent.{Sent}
use Rattle.script_play.specs.Totals.{is_asked}
use Rattle.script_play.proofs.totals.count_asked.Goals.{then-is_asked, else-is_asked}
use Rattle.script_play.proofs.totals.count_asked.Goals as goal

pub loop-message-preserved : goal.loop-message-preserved
loop-message-preserved c =
    let i = c.loop-message.message-index in
    elim c.if-is_asked.branch [
      | then-is_asked w ↦
          let more = count_by_more_yes is_asked c.args.sent.now i c.message-item.result c.loop-message-test.true
          (ap is_asked (sym c.message-item.is) ∙ (sym c.is_asked.ensures ∙ w.if-is_asked.true)) in
          record {
            so_far = w.count-is ∙ (ap (λ k. k + 1) c.loop-message.invariant.so_far ∙ sym more);
            small = omega (arith, w.count-is, c.loop-message.invariant.small);
          }
      | else-is_asked w ↦
          let same = count_by_more_no is_asked c.args.sent.now i c.message-item.result c.loop-message-test.true
          (ap is_asked (sym c.message-item.is) ∙ (sym c.is_asked.ensures ∙ w.if-is_asked.false)) in
          record {
            so_far = w.count-is ∙ (c.loop-message.invariant.so_far ∙ sym same);
            small = omega (arith, w.count-is, c.loop-message.invariant.small);
          }
    ]

pub returns : goal.returns
returns c =
    c.loop-message.invariant.so_far
    ∙ ap (λ (xs : List Sent). count_by is_asked xs) (take_all c.loop-message.message-index c.args.sent.now c.loop-message-test.false)
