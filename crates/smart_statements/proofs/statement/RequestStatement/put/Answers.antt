use Rattle.std.proofs.Common.{◌≡◌, ◌∙◌, ap, ◌++◌, ℕ, List}
use Rattle.std.specs.Int.{w32}
use Rattle.smart_base.specs.Spelling.{u8, u16, u64, behind}
use Rattle.smart_base.proofs.Written.{wrote}
use Rattle.smart_statements.proofs.statement.RequestStatement.put.Goals as goal

pub returns-clause-text : goal.returns-clause-text
returns-clause-text c =
    let out : List ℕ = c.args.out.now.items in
    let kind : List ℕ = u8 9 in
    let to-kind : c.put_u8.new.out.items ≡ out ++ kind = c.in_ok-put_u8.ensures.text in
    let client : List ℕ = u16 c.args.self.now.client in
    let to-client : c.put_u16.new.out.items ≡ out ++ (kind ++ client) =
    wrote out (kind) c.put_u8.new.out.items client c.put_u16.new.out.items to-kind
    (c.in_ok-put_u16.ensures.text ∙ ap (λ (n : ℕ). c.put_u8.new.out.items ++ u16 n) c.get-client.ensures) in
    let seq : List ℕ = u64 c.args.self.now.seq in
    let to-seq : c.put_u64.new.out.items ≡ out ++ (kind ++ client ++ seq) =
    wrote out (kind ++ client) c.put_u16.new.out.items seq c.put_u64.new.out.items to-client
    (c.in_ok-put_u64.ensures.text) in
    let known : List ℕ = u64 c.args.self.now.after in
    let to-known : c.put_u64-2.new.out.items ≡ out ++ (kind ++ client ++ seq ++ known) =
    wrote out (kind ++ client ++ seq) c.put_u64.new.out.items known c.put_u64-2.new.out.items to-seq
    (c.in_ok-put_u64-2.ensures.text) in
    let op : List ℕ = behind w32 c.args.self.now.op in
    wrote out (kind ++ client ++ seq ++ known) c.put_u64-2.new.out.items op c.put_text.new.out.items to-known
    (c.in_ok-put_text.ensures.text ∙ ap (λ (t : List ℕ). c.put_u64-2.new.out.items ++ behind w32 t) c.as_slice-op.ensures.value)
