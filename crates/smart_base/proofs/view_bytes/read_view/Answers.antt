use Rattle.std.proofs.Common.{◌≡◌, Ok, subst}
use Rattle.std.proofs.lemmas.Result.{err_from_is_err_and}
use Rattle.smart_base.specs.Cuts.{Cut, IsBytes, Fails}
use Rattle.smart_base.specs.ViewBytes.{view_at}
use Rattle.smart_base.proofs.ViewLaws.{view_law, view-found}
use Rattle.smart_base.proofs.view_bytes.read_view.Goals as goal

pub returns-clause-found : goal.returns-clause-found
returns-clause-found c =
    view-found c.args.cut.now (Ok c.in_ok-view.view) c.take_view.new.cut
    (subst (λ (k : Cut). IsBytes k.left) c.ahead-ahead.ensures c.take_view.ensures.bytes)
    (subst (λ (k : Cut). view_at k ≡ Ok (c.in_ok-view.view, c.take_view.new.cut)) c.ahead-ahead.ensures c.in_ok-view.ensures.exact)

pub returns-clause-only : goal.returns-clause-only
returns-clause-only c = λ v d fits s.
    subst (λ r. r ≡ Ok (c.in_ok-view.view, c.take_view.new.cut)) (view_law.again c.args.cut.now v d fits s)
    (subst (λ (k : Cut). view_at k ≡ Ok (c.in_ok-view.view, c.take_view.new.cut)) c.ahead-ahead.ensures c.in_ok-view.ensures.exact)

pub returns-in_err-view-clause-only : goal.returns-in_err-view-clause-only
returns-in_err-view-clause-only c =
    let p = err_from_is_err_and c.from_residual.result c.from_residual.ensures.1 in
    rw (p.1, p.2) (λ v d fits s.
    subst (λ r. Fails c.in_err-view.field-0.0 r) (view_law.again c.args.cut.now v d fits s)
    (subst (λ (k : Cut). Fails c.in_err-view.field-0.0 (view_at k)) c.ahead-ahead.ensures c.in_err-view.ensures.exact))
