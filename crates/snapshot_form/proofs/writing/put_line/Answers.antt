use Rattle.std.proofs.Common.{◌≡◌, ◌∙◌, ap, ◌++◌, ℕ, List}
use Rattle.std.specs.Int.{w32}
use Rattle.smart_base.specs.Spelling.{u16, u32, u64, behind}
use Rattle.smart_base.proofs.Written.{wrote}
use Rattle.snapshot_form.proofs.writing.put_line.Goals as goal

pub returns : goal.returns
returns c =
    let out : List ℕ = c.args.out.now.items in
    let client : List ℕ = u16 c.args.line.now.last.client in
    let to-client : c.put_u16.new.out.items ≡ out ++ client =
    c.in_ok-put_u16.ensures.text ∙ ap (λ (n : ℕ). out ++ u16 n) c.get.ensures in
    let seq : List ℕ = u64 c.args.line.now.last.seq in
    let to-seq : c.put_u64.new.out.items ≡ out ++ (client ++ seq) =
    wrote out client c.put_u16.new.out.items seq c.put_u64.new.out.items to-client (c.in_ok-put_u64.ensures.text) in
    let place : List ℕ = u64 c.args.line.now.last.place in
    let to-place : c.put_u64-2.new.out.items ≡ out ++ (client ++ seq ++ place) =
    wrote out (client ++ seq) c.put_u64.new.out.items place c.put_u64-2.new.out.items to-seq
    (c.in_ok-put_u64-2.ensures.text ∙ ap (λ (n : ℕ). c.put_u64.new.out.items ++ u64 n) c.get-place.ensures.value) in
    let index : List ℕ = u16 c.args.line.now.last.index in
    let to-index : c.put_u16-2.new.out.items ≡ out ++ (client ++ seq ++ place ++ index) =
    wrote out (client ++ seq ++ place) c.put_u64-2.new.out.items index c.put_u16-2.new.out.items to-place (c.in_ok-put_u16-2.ensures.text) in
    let view : List ℕ = u32 c.args.line.now.last.view in
    let to-view : c.put_u32.new.out.items ≡ out ++ (client ++ seq ++ place ++ index ++ view) =
    wrote out (client ++ seq ++ place ++ index) c.put_u16-2.new.out.items view c.put_u32.new.out.items to-index
    (c.in_ok-put_u32.ensures.text ∙ ap (λ (n : ℕ). c.put_u16-2.new.out.items ++ u32 n) c.get-2.ensures) in
    let reply : List ℕ = behind w32 c.args.line.now.last.reply in
    wrote out (client ++ seq ++ place ++ index ++ view) c.put_u32.new.out.items reply c.put_text.new.out.items to-view
    (c.in_ok-put_text.ensures.text ∙ ap (λ (t : List ℕ). c.put_u32.new.out.items ++ behind w32 t) c.as_slice.ensures.value)
