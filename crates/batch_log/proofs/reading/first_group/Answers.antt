use Rattle.std.proofs.Common.{◌≡◌, ◌∷◌, ◌++◌, ◌<◌, List, ℕ, Ok, length, get_or, rules, sym, ap, subst, ◌∙◌, arith}
use Rattle.smart_base.specs.Cuts.{Cut, IsBytes}
use Rattle.store_form.specs.Spelling.{group_text}
use Rattle.store_form.specs.Reading.{all_of, group_at}
use Rattle.batch_log.proofs.Spelled.{takes_group, front_one}
use Rattle.batch_log.proofs.reading.first_group.Goals as goal

pub returns-in-Ok-clause-some : goal.returns-in-Ok-clause-some
returns-in-Ok-clause-some c =
    let bytes = c.args.bytes.now in
    let inner = c.split_at.result.1.now in
    let all : c.new-cut.result ≡ all_of inner = c.new-cut.ensures in
    let fits : IsBytes inner = subst (λ (d : Cut). IsBytes d.left) all c.rest-all.ensures.bytes in
    let read : group_at (all_of inner) ≡ Ok (c.in-Ok.entries, c.take_group.new.cut) = ap group_at (sym all) ∙ c.in-Ok.ensures.exact in
    let some : 0 < length bytes = grind (arith, c.is_empty.ensures, c.if-is_empty.false) in
    let one : get_or bytes 0 0 ≡ 1 = search rules in
    let parts = takes_group inner c.in-Ok.entries c.take_group.new.cut fits read in (
      front_one bytes some one ∙ ap (λ (l : List ℕ). 1 ∷ l) (sym c.split_at.ensures.back) ∙ parts.0 ∙ ap (λ (l : List ℕ). 1 ∷ (group_text c.in-Ok.entries ++ l)) (sym c.rest.ensures.value),
      parts.1,
    )
