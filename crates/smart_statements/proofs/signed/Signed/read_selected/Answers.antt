use Rattle.std.proofs.Common.{◌∙◌, rules, ap, arith, length}
use Rattle.smart_base.specs.Laws.{kept_is}
use Rattle.smart_statements.specs.Forms.{Form}
use Rattle.smart_statements.proofs.signed.Signed.read_selected.Goals as goal

-- what was kept is what the statement was read from, all of it
pub invariant_of-result : goal.invariant_of-result
invariant_of-result g c = (
  c.in_ok-kept.ensures.value ∙ kept_is (g.W.Selection.fits c.args.which.now c.in_ok-signer.signer) (Form.spell g.S.Statement.form)
      (Form.read (g.W.Selection.form c.args.which.now) c.in_ok-signer.signer) (g.met.W.Selection.agree c.args.which.now c.in_ok-signer.signer)
      c.in_ok-body.body c.in_ok-statement.statement c.read.new.cut c.in_ok-kept.ensures.bytes c.in_ok-statement.ensures (search rules),
  omega (arith, ap length c.in_ok-kept.ensures.value, c.in_ok-body.ensures.small),
)
