use Rattle.std.proofs.Common.{◌≡◌, ◌∙◌, ap, ◌++◌, ℕ, List, length, arith}
use Rattle.std.specs.List.{flat_map}
use Rattle.smart_base.specs.Spelling.{u8, u16, u32, u64}
use Rattle.smart_base.specs.ViewBytes.{view_text}
use Rattle.smart_base.proofs.Written.{wrote}
use Rattle.smart_base.proofs.ViewLaws.{members-few}
use Rattle.smart_base.proofs.view_bytes.put_view.Goals as goal

pub overflow_cast-members : goal.overflow_cast-members
overflow_cast-members c = omega (arith, ap length c.members-members.ensures.value, members-few c.args.view.now c.members-members.ensures.view)

pub returns-clause-text : goal.returns-clause-text
unfolding view_text
returns-clause-text c =
    let out : List ℕ = c.args.out.now.items in
    let number : List ℕ = u32 c.args.view.now.number in
    let to-number : c.put_u32.new.out.items ≡ out ++ number =
    c.in_ok-put_u32.ensures.text ∙ ap (λ (n : ℕ). out ++ u32 n) (c.get.ensures ∙ c.number.ensures) in
    let start : List ℕ = u64 c.args.view.now.start in
    let to-start : c.put_u64.new.out.items ≡ out ++ (number ++ start) =
    wrote out number c.put_u32.new.out.items start c.put_u64.new.out.items to-number
    (c.in_ok-put_u64.ensures.text ∙ ap (λ (n : ℕ). c.put_u32.new.out.items ++ u64 n) c.start.ensures) in
    let f : List ℕ = u8 c.args.view.now.f in
    let to-f : c.put_u8.new.out.items ≡ out ++ (number ++ start ++ f) =
    wrote out (number ++ start) c.put_u64.new.out.items f c.put_u8.new.out.items to-start
    (c.in_ok-put_u8.ensures.text ∙ ap (λ (n : ℕ). c.put_u64.new.out.items ++ u8 n) c.f.ensures) in
    let count : List ℕ = u16 (length c.args.view.now.members) in
    let to-count : c.put_u16.new.out.items ≡ out ++ (number ++ start ++ f ++ count) =
    wrote out (number ++ start ++ f) c.put_u8.new.out.items count c.put_u16.new.out.items to-f
    (c.in_ok-put_u16.ensures.text ∙ ap (λ (ms : List ℕ). c.put_u8.new.out.items ++ u16 (length ms)) c.members-members.ensures.value) in
    wrote out (number ++ start ++ f ++ count) c.put_u16.new.out.items (flat_map u16 c.args.view.now.members) c.put_members.new.out.items to-count
    (c.in_ok-put_members.ensures.text ∙ ap (λ (ms : List ℕ). c.put_u16.new.out.items ++ flat_map u16 ms) c.members-members.ensures.value)
