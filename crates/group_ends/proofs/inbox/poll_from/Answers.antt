use Rattle.std.proofs.Common.{◌≡◌, ◌∙◌, ◌<◌, List, [], ℕ, length, get_or, ap, subst, arith}
use Rattle.group_ends.specs.Ports.{heard_and_taken, takings, IsEmptied, IsTaken}
use Rattle.group_ends.proofs.Polling.{same-takings, emptied-more, heard-length}
use Rattle.group_ends.proofs.inbox.poll_from.Goals as goal

pub loop-index-preserved : goal.loop-index-preserved
loop-index-preserved g c =
    let inv = c.loop-index.invariant in
    let xs = c.args.links.now.items in
    let ys = c.loop-index.links.items in
    let i = c.loop-index.index in
    let same : heard_and_taken ys ≡ heard_and_taken xs = inv.none in
    let within : i < length (heard_and_taken xs) = omega (arith, ap length same, heard-length ys, c.loop-index.links.ok.0) in record {
      links = c.poll_at.ensures.links.0 ∙ inv.links;
      none = c.poll_at.ensures.none c.in_default.is ∙ same;
      heard = c.poll_at.ensures.heard ∙ inv.heard;
      many = c.poll_at.ensures.links.1 ∙ inv.many;
      empty = λ first. emptied-more (heard_and_taken xs) i within (subst (λ ks. IsEmptied (get_or ks i ([], []))) same (c.poll_at.ensures.empty c.in_default.is)) (inv.empty first);
    }

pub returns-in-Some-clause-some : goal.returns-in-Some-clause-some
returns-in-Some-clause-some g c =
    let xs = c.args.links.now.items in
    let ys = c.loop-index.links.items in
    subst (λ (ts : List (List (List ℕ))). IsTaken c.in-Some.bytes ts (takings c.poll_at.new.links.items)) (same-takings xs ys c.loop-index.invariant.none) c.in-Some.ensures.some

pub returns-in-Some-clause-heard : goal.returns-in-Some-clause-heard
returns-in-Some-clause-heard g c = c.poll_at.ensures.heard ∙ c.loop-index.invariant.heard
