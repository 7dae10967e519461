use Rattle.std.proofs.Common.{[], ◌∷◌, ◌++◌, ◌∙◌, ◌+◌, ℕ, drop, sym, ap, List, map}
use Rattle.std.proofs.lemmas.List.{drop_more}
use Rattle.trail_posts.specs.Counting.{post_of}
use Rattle.trail_posts.proofs.Additions.{one-more}
use Rattle.trail_posts.proofs.posts.add_each.Goals as goal

pub loop-member-preserved : goal.loop-member-preserved
loop-member-preserved c =
    let rest : List ℕ = drop (c.loop-member.member-index + 1) c.args.members.now in
    let is = drop_more c.args.members.now c.loop-member.member-index _ c.loop-member-test.true ∙ ap (λ (x : ℕ). x ∷ rest) (sym c.member-item.is) in
    one-more (λ (r : ℕ). record { to = r; text = c.args.text.now }) c.member-item.result rest (drop c.loop-member.member-index c.args.members.now) (map post_of c.loop-member.found.items)
    (map post_of c.add.new.found.items) _ (c.in_ok-add.ensures ∙ ap (λ (k : ℕ). map post_of c.loop-member.found.items ++ record { to = k; text = c.args.text.now } ∷ []) c.get.ensures) is c.loop-member.invariant
