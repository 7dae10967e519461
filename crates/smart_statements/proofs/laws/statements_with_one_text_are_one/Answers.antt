use Rattle.std.proofs.Common.{◌∙◌, refl, sym}
use Rattle.smart_base.specs.Laws.{ok_is, whole_again}
use Rattle.smart_statements.specs.Forms.{Form}
use Rattle.smart_statements.proofs.Batches.{start}
use Rattle.smart_statements.proofs.laws.statements_with_one_text_are_one.Goals as goal

pub returns : goal.returns
returns g c = λ signer a b fits_a fits_b e.
    let f = g.S.Statement.form in
    let law = g.met.S.Statement.agree signer in
    ok_is a b
    (sym (whole_again (g.S.Statement.fits signer) (Form.spell f) (Form.read f signer) law (start (Form.spell f a)) a fits_a refl)
    ∙ whole_again (g.S.Statement.fits signer) (Form.spell f) (Form.read f signer) law (start (Form.spell f a)) b fits_b e)
