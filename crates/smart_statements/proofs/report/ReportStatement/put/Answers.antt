use Rattle.std.proofs.Common.{◌≡◌, ◌∙◌, ap, ◌++◌, ℕ, List}
use Rattle.smart_base.specs.Spelling.{u8, u32, u64}
use Rattle.smart_base.proofs.Written.{wrote}
use Rattle.smart_statements.specs.Reports.{evidence, lock_certificate}
use Rattle.smart_statements.specs.SignedLists.{optional}
use Rattle.smart_statements.proofs.report.ReportStatement.put.Goals as goal

pub returns-clause-text : goal.returns-clause-text
returns-clause-text c =
    let out : List ℕ = c.args.out.now.items in
    let kind : List ℕ = u8 5 in
    let view : List ℕ = u32 c.args.self.now.view in
    let to-view : c.put_u32.new.out.items ≡ out ++ (kind ++ view) =
    wrote out kind c.put_u8.new.out.items view c.put_u32.new.out.items c.in_ok-put_u8.ensures.text
    (c.in_ok-put_u32.ensures.text ∙ ap (λ (n : ℕ). c.put_u8.new.out.items ++ u32 n) c.get-view.ensures) in
    let regency : List ℕ = u32 c.args.self.now.regency in
    let to-regency : c.put_u32-2.new.out.items ≡ out ++ (kind ++ view ++ regency) =
    wrote out (kind ++ view) c.put_u32.new.out.items regency c.put_u32-2.new.out.items to-view
    (c.in_ok-put_u32-2.ensures.text ∙ ap (λ (n : ℕ). c.put_u32.new.out.items ++ u32 n) c.get-regency.ensures) in
    let last : List ℕ = u64 c.args.self.now.last in
    let to-last : c.put_u64.new.out.items ≡ out ++ (kind ++ view ++ regency ++ last) =
    wrote out (kind ++ view ++ regency) c.put_u32-2.new.out.items last c.put_u64.new.out.items to-regency
    (c.in_ok-put_u64.ensures.text ∙ ap (λ (n : ℕ). c.put_u32-2.new.out.items ++ u64 n) c.get-last.ensures.value) in
    let shown : List ℕ = evidence c.args.self.now.evidence in
    let lock : List ℕ = optional lock_certificate c.args.self.now.lock in
    let to-shown : c.put.new.out.items ≡ out ++ ((kind ++ view ++ regency ++ last) ++ shown) =
    wrote out (kind ++ view ++ regency ++ last) c.put_u64.new.out.items shown c.put.new.out.items to-last c.in_ok-put.ensures.text in
    wrote out ((kind ++ view ++ regency ++ last) ++ shown) c.put.new.out.items lock c.put_lock.new.out.items to-shown c.in_ok-put_lock.ensures.text
