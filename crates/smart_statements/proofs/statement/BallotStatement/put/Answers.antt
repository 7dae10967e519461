use Rattle.std.proofs.Common.{◌≡◌, ◌∙◌, ap, ◌++◌, ℕ, List}
use Rattle.smart_base.specs.Spelling.{u8}
use Rattle.smart_statements.specs.Spelling.{vote_kind, slot}
use Rattle.smart_base.proofs.Written.{wrote}
use Rattle.smart_statements.proofs.statement.BallotStatement.put.Goals as goal

pub returns-clause-text : goal.returns-clause-text
returns-clause-text c =
    let out : List ℕ = c.args.out.now.items in
    let kind : List ℕ = u8 (vote_kind c.args.self.now.kind) in
    let to-kind : c.put_u8.new.out.items ≡ out ++ kind = c.in_ok-put_u8.ensures.text ∙ ap (λ (n : ℕ). out ++ u8 n) c.vote_kind.ensures in
    let place : List ℕ = slot c.args.self.now.slot in
    let to-place : c.put_slot.new.out.items ≡ out ++ (kind ++ place) =
    wrote out (kind) c.put_u8.new.out.items place c.put_slot.new.out.items to-kind
    (c.in_ok-put_slot.ensures.text) in
    let digest : List ℕ = c.args.self.now.digest in
    wrote out (kind ++ place) c.put_slot.new.out.items digest c.extend_from_slice.new.self.items to-place
    (c.in_ok-extend_from_slice.ensures.items ∙ ap (λ (t : List ℕ). c.put_slot.new.out.items ++ t) c.as_slice.ensures.value)
