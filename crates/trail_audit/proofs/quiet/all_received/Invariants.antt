use Rattle.std.proofs.Common.{◌≡◌, ◌||◌, not, map, drop}
use Rattle.std.specs.List.{list_all, flat_map}
use Rattle.audit_rules.specs.Quiets.{dropped, came, has_trail, is_received}
use Rattle.trail_posts.specs.Counting.{post_of}
use Rattle.trail_audit.proofs.quiet.all_received.Given as goal

-- all messages have come if those left have
abbrev pub invariant-loop-posted : goal.invariant-loop-posted
invariant-loop-posted l =
    list_all (λ p. not (has_trail l.fn.trails p.to) || is_received (map post_of l.fn.sent) (flat_map dropped l.fn.trails) (flat_map came l.fn.trails) p) (map post_of (drop l.posted-index l.sent))
    ≡ list_all (λ p. not (has_trail l.fn.trails p.to) || is_received (map post_of l.fn.sent) (flat_map dropped l.fn.trails) (flat_map came l.fn.trails) p) (map post_of l.fn.sent)
