use Rattle.std.proofs.Common.{ℕ, ap, ◌∙◌}
use Rattle.std.specs.HashMap.{get}
use Rattle.audit_rules.specs.Quiets.{has_come}
use Rattle.trail_posts.specs.Counting.{same_posted, count_or}
use Rattle.trail_posts.proofs.Countings.{received}
use Rattle.trail_posts.proofs.counts.is_received.Goals as goal

pub returns : goal.returns
returns c = λ s l a cs cl ca.
    received (λ p. count_or (get same_posted c.args.sent.now p)) (λ p. count_or (get same_posted c.args.lost.now p)) (λ p. count_or (get same_posted c.args.arrived.now p)) s l a c.args.posted.now
    c.has_come.result cs cl ca
    (c.has_come.ensures
    ∙ (ap (λ (k : ℕ). has_come k c.count-2.result c.count-3.result) c.count.ensures
    ∙ (ap (λ (k : ℕ). has_come (count_or (get same_posted c.args.sent.now c.args.posted.now)) k c.count-3.result) c.count-2.ensures ∙ ap (λ (k : ℕ). has_come (count_or (get same_posted c.args.sent.now c.args.posted.now)) (count_or (get same_posted c.args.lost.now c.args.posted.now)) k) c.count-3.ensures)))
