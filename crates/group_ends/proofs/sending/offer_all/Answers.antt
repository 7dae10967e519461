use Rattle.std.proofs.Common.{◌∙◌, ◌<◌, ◌+◌, ◌++◌, ◌∷◌, [], List, Bool, length, take, sym, subst, arith}
use Rattle.group_ends.specs.Ports.{AreOffered, AreWithin}
use Rattle.group_ends.proofs.Offering.{same-within, offered-more, offered-part}
use Rattle.group_ends.proofs.Leaving.{on-err}
use Rattle.group_ends.proofs.sending.offer_all.Goals as goal

pub returns-in_err-dropped-clause-err : goal.returns-in_err-dropped-clause-err
returns-in_err-dropped-clause-err g c = on-err c.from_residual.result (same-within c.args.to.now c.args.text.now c.args.ports.now.items)

pub returns-in_err-is_dropped-clause-err : goal.returns-in_err-is_dropped-clause-err
returns-in_err-is_dropped-clause-err g c =
    let to = c.args.to.now in
    let text = c.args.text.now in
    let ps = c.args.ports.now.items in
    let l = c.loop-index in
    on-err c.from_residual-in_err-is_dropped.result
    (subst (AreWithin to text ps) (sym c.in_err-is_dropped.ensures.err) (offered-part to text ps l.dropped.items l.ports.items l.index l.invariant.offered l.invariant.others))

pub returns-in_err-push-clause-err : goal.returns-in_err-push-clause-err
returns-in_err-push-clause-err g c =
    let to = c.args.to.now in
    let text = c.args.text.now in
    let ps = c.args.ports.now.items in
    let l = c.loop-index in
    let d = c.in_ok-is_dropped.is_dropped in
    let new = c.offer_at.new.ports.items in
    let within : l.index < length l.ports.items = omega (arith, l.ports.ok.0, l.invariant.many, c.len-index-end.ensures) in
    let more = offered-more to text ps l.dropped.items l.ports.items l.index d new l.invariant.offered l.invariant.others within c.in_ok-is_dropped.ensures.ok in
    on-err c.from_residual-in_err-push.result (offered-part to text ps (l.dropped.items ++ d ∷ []) new (l.index + 1) more.0 more.1)

pub loop-index-preserved : goal.loop-index-preserved
loop-index-preserved g c =
    let to = c.args.to.now in
    let text = c.args.text.now in
    let ps = c.args.ports.now.items in
    let l = c.loop-index in
    let d = c.in_ok-is_dropped.is_dropped in
    let new = c.offer_at.new.ports.items in
    let within : l.index < length l.ports.items = omega (arith, l.ports.ok.0, l.invariant.many, c.len-index-end.ensures) in
    let more = offered-more to text ps l.dropped.items l.ports.items l.index d new l.invariant.offered l.invariant.others within c.in_ok-is_dropped.ensures.ok in record {
      offered = subst (λ (ds : List Bool). AreOffered to text (take (l.index + 1) ps) ds (take (l.index + 1) new)) (sym c.in_ok-push.ensures.items) more.0;
      others = more.1;
      many = c.offer_at.ensures.many ∙ l.invariant.many;
    }
