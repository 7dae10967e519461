use Rattle.std.proofs.Common.{List, map, ap, ◌∙◌, subst}
use Rattle.std.specs.HashMap.{get}
use Rattle.audit_rules.specs.Quiets.{Post}
use Rattle.trail_posts.specs.declared.posts.Posted.{Posted}
use Rattle.trail_posts.specs.Counting.{post_of, same_posted, count_or, IsCount}
use Rattle.trail_audit.proofs.quiet.dropped_counts.Goals as goal

pub returns : goal.returns
returns c =
    subst (λ (ps : List Post). IsCount (λ (p : Posted). count_or (get same_posted c.in_ok-counts.counts p)) ps) (ap (λ (ps : List Posted). map post_of ps) c.as_slice.ensures.value ∙ c.in_ok-posts.ensures)
    c.in_ok-counts.ensures
