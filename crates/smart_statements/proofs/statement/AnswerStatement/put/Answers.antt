use Rattle.std.proofs.Common.{◌≡◌, ◌∙◌, ap, ◌++◌, ℕ, List}
use Rattle.std.specs.Int.{w32}
use Rattle.smart_base.specs.Spelling.{u8, u16, u32, u64, behind}
use Rattle.smart_base.proofs.Written.{wrote}
use Rattle.smart_statements.proofs.statement.AnswerStatement.put.Goals as goal

pub returns-clause-text : goal.returns-clause-text
returns-clause-text c =
    let out : List ℕ = c.args.out.now.items in
    let kind : List ℕ = u8 8 in
    let to-kind : c.put_u8.new.out.items ≡ out ++ kind = c.in_ok-put_u8.ensures.text in
    let view : List ℕ = u32 c.args.self.now.view in
    let to-view : c.put_u32.new.out.items ≡ out ++ (kind ++ view) =
    wrote out (kind) c.put_u8.new.out.items view c.put_u32.new.out.items to-kind
    (c.in_ok-put_u32.ensures.text ∙ ap (λ (n : ℕ). c.put_u8.new.out.items ++ u32 n) c.get-view.ensures) in
    let place : List ℕ = u64 c.args.self.now.place in
    let to-place : c.put_u64.new.out.items ≡ out ++ (kind ++ view ++ place) =
    wrote out (kind ++ view) c.put_u32.new.out.items place c.put_u64.new.out.items to-view
    (c.in_ok-put_u64.ensures.text ∙ ap (λ (n : ℕ). c.put_u32.new.out.items ++ u64 n) c.get-place.ensures.value) in
    let index : List ℕ = u16 c.args.self.now.index in
    let to-index : c.put_u16.new.out.items ≡ out ++ (kind ++ view ++ place ++ index) =
    wrote out (kind ++ view ++ place) c.put_u64.new.out.items index c.put_u16.new.out.items to-place
    (c.in_ok-put_u16.ensures.text) in
    let client : List ℕ = u16 c.args.self.now.client in
    let to-client : c.put_u16-2.new.out.items ≡ out ++ (kind ++ view ++ place ++ index ++ client) =
    wrote out (kind ++ view ++ place ++ index) c.put_u16.new.out.items client c.put_u16-2.new.out.items to-index
    (c.in_ok-put_u16-2.ensures.text ∙ ap (λ (n : ℕ). c.put_u16.new.out.items ++ u16 n) c.get-client.ensures) in
    let seq : List ℕ = u64 c.args.self.now.seq in
    let to-seq : c.put_u64-2.new.out.items ≡ out ++ (kind ++ view ++ place ++ index ++ client ++ seq) =
    wrote out (kind ++ view ++ place ++ index ++ client) c.put_u16-2.new.out.items seq c.put_u64-2.new.out.items to-client
    (c.in_ok-put_u64-2.ensures.text) in
    let reply : List ℕ = behind w32 c.args.self.now.reply in
    wrote out (kind ++ view ++ place ++ index ++ client ++ seq) c.put_u64-2.new.out.items reply c.put_text.new.out.items to-seq
    (c.in_ok-put_text.ensures.text ∙ ap (λ (t : List ℕ). c.put_u64-2.new.out.items ++ behind w32 t) c.as_slice-reply.ensures.value)
