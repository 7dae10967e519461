use Rattle.std.proofs.Common.{◌≡◌, ◌∙◌, ap, ◌++◌, ℕ, List}
use Rattle.smart_base.specs.Spelling.{u32, u64}
use Rattle.smart_base.proofs.Written.{wrote}
use Rattle.smart_statements.proofs.statement.put_slot.Goals as goal

pub returns-clause-text : goal.returns-clause-text
returns-clause-text c =
    let o : List ℕ = c.args.out.now.items in
    let view : List ℕ = u32 c.args.slot.view in
    let place : List ℕ = u64 c.args.slot.place in
    let regency : List ℕ = u32 c.args.slot.regency in
    let one : c.put_u32.new.out.items ≡ o ++ view = c.in_ok-put_u32.ensures.text ∙ ap (λ (n : ℕ). o ++ u32 n) c.get-view.ensures in
    let two : c.put_u64.new.out.items ≡ c.put_u32.new.out.items ++ place = c.in_ok-put_u64.ensures.text ∙ ap (λ (n : ℕ). c.put_u32.new.out.items ++ u64 n) c.get-place.ensures.value in
    let three : c.put_u32-2.new.out.items ≡ c.put_u64.new.out.items ++ regency = c.in_ok-put_u32-2.ensures.text ∙ ap (λ (n : ℕ). c.put_u64.new.out.items ++ u32 n) c.get-regency.ensures in
    wrote o (view ++ place) c.put_u64.new.out.items regency c.put_u32-2.new.out.items (wrote o view c.put_u32.new.out.items place c.put_u64.new.out.items one two) three
