use Rattle.std.proofs.Common.{◌∷◌, ◌∙◌, ◌+◌, drop, sym, ap, List}
use Rattle.std.proofs.lemmas.List.{drop_more}
use Rattle.std.specs.HashMap.{get}
use Rattle.trail_posts.specs.declared.posts.Posted.{Posted}
use Rattle.trail_posts.specs.Counting.{same_posted, count_or}
use Rattle.trail_posts.proofs.Countings.{count-more}
use Rattle.trail_posts.proofs.counts.counts_of.Goals as goal

pub loop-posted-preserved : goal.loop-posted-preserved
loop-posted-preserved c = λ p.
    let rest : List Posted = drop (c.loop-posted.posted-index + 1) c.args.posts.now in
    let is = drop_more c.args.posts.now c.loop-posted.posted-index _ c.loop-posted-test.true ∙ ap (λ (x : Posted). x ∷ rest) (sym c.posted-item.is) in
    count-more p c.posted-item.result rest (drop c.loop-posted.posted-index c.args.posts.now) (count_or (get same_posted c.loop-posted.counts p)) (count_or (get same_posted c.count_once.new.counts p)) _
    (c.in_ok-count_once.ensures p) is (c.loop-posted.invariant p)
