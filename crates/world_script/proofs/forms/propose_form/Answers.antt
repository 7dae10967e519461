use Rattle.std.proofs.Common.{◌≡◌, ◌^◌, drop, Some, None, sym, ◌∙◌, arith}
use Rattle.world_rules.specs.Scripts.{each_word, number_in}
use Rattle.world_script.proofs.Proposals.{no_requests, proposed}
use Rattle.world_script.proofs.forms.propose_form.Goals as goal

pub returns-in_default-2 : goal.returns-in_default-2
returns-in_default-2 c =
    let none : each_word (number_in 1 (2 ^ 24)) (drop 4 c.args.words) ≡ None = rw (← c.in-Some.ensures.rest) (sym c.in_ok-asks.ensures ∙ c.in_default-2.is) in
    sym (no_requests c.args.words c.in-Some.numbers (omega arith) (omega arith) (sym c.in-Some.ensures.numbers) none)

pub returns : goal.returns
returns c =
    let asks : each_word (number_in 1 (2 ^ 24)) (drop 4 c.args.words) ≡ Some c.in-Some-2.asks = rw (← c.in-Some.ensures.rest) (sym c.in_ok-asks.ensures ∙ c.in-Some-2.is) in
    rw (c.new-signer.ensures, c.slot_of-slot.ensures)
    (sym (proposed c.args.words c.in-Some.numbers c.in-Some-2.asks (omega arith) (omega arith) (omega arith) (sym c.in-Some.ensures.numbers) asks))
