-- Segments of deliveries, a rule at a time.
use Rattle.std.proofs.Common.{◌≡◌, List, [], ◌∷◌, refl, ap, sym, ◌∙◌}
use Rattle.node_rules.specs.Deliveries.{delivery_in, installed_in, segment_with, segment_after}
use Rattle.node_rules.specs.declared.node.Fired.{Fired}
use Rattle.world_rules.specs.Worlds.{Host, segment_of}
use Rattle.world_hosts.specs.Hearing.{with_segment}

-- what is kept of one more, and of the rest
pub kept_more : {S : Type 0} (h later start : Host S) (rule : Fired) (rest all : List Fired) → all ≡ rule ∷ rest → later ≡ with_segment h (segment_with (installed_in rule) (delivery_in rule) (segment_of h))
    → with_segment h (segment_after (segment_of h) all) ≡ start → with_segment later (segment_after (segment_of later) rest) ≡ start
unfolding segment_after
kept_more {S = S} h later start rule rest all all_is is so_far =
    ap (λ (x : Host S). with_segment x (segment_after (segment_of x) rest)) is ∙ (sym (ap (λ (rules : List Fired). with_segment h (segment_after (segment_of h) rules)) all_is) ∙ so_far)

-- where none is left, all is kept
pub kept_all : {S : Type 0} (h start : Host S) (left : List Fired) → left ≡ [] → with_segment h (segment_after (segment_of h) left) ≡ start → h ≡ start
unfolding segment_after
kept_all {S = S} h start left none so_far = sym (ap (λ (rules : List Fired). with_segment h (segment_after (segment_of h) rules)) none) ∙ so_far
