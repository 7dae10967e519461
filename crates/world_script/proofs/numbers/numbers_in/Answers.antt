use Rattle.std.proofs.Common.{sym, take, ◌∙◌, arith}
use Rattle.std.proofs.lemmas.Grind.{common_steps}
use Rattle.world_script.proofs.Ranges.{no_word, next_number, all_read, left_behind, within}
use Rattle.world_script.proofs.numbers.numbers_in.Goals as goal

pub returns-in_err-word-clause-numbers : goal.returns-in_err-word-clause-numbers
returns-in_err-word-clause-numbers g c =
    let e = no_word (take c.loop-i.i c.loop-i.numbers) c.args.ranges.now c.loop-i.i c.loop-i.words (omega arith) c.in_err-word.ensures in
    cc e

pub loop-i-preserved : goal.loop-i-preserved
loop-i-preserved g c =
    let is = sym c.number_in.ensures.number ∙ c.in_ok-numbers.was in
    let e =
    next_number c.loop-i.numbers c.args.ranges.now c.loop-i.i c.in_ok-numbers.field-0 c.index-ranges-i.result c.in_ok-word.word.now c.loop-i.words c.in_ok-word.more
    (omega arith) (omega arith) c.in_ok-word.ensures is
    in
    record {
      long = grind (arith, common_steps);
      rest = left_behind c.args.words.now c.loop-i.words c.in_ok-word.more c.in_ok-word.word.now c.loop-i.i c.loop-i.invariant.rest c.in_ok-word.ensures;
      numbers = e ∙ c.loop-i.invariant.numbers;
    }

pub returns-clause-within : goal.returns-clause-within
returns-clause-within g c =
    let e = all_read c.loop-i.numbers c.args.ranges.now c.loop-i.i c.loop-i.words (omega arith) (omega arith) in
    within c.args.ranges.now c.args.words.now c.loop-i.numbers (sym c.loop-i.invariant.numbers ∙ e)
