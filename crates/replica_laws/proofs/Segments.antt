-- Segments of deliveries behind the events of a step.
use Rattle.std.proofs.Common.{◌≡◌, ℕ, ◌++◌, List, [], ◌∷◌, refl, sym, ap, ◌∙◌, append-nil, append_assoc, Option, None}
use Rattle.std.specs.List.{flat_map}
use Rattle.smart_base.specs.Lists.{Each}
use Rattle.node_rules.specs.Deliveries.{delivery_in, installed_in, Segment, segment_with, segment_after}
use Rattle.node_rules.specs.declared.node.Delivery.{Delivery}
use Rattle.node_rules.specs.declared.node.Fired.{Fired}
use Rattle.node_rules.specs.declared.node.Fired.TheVariants as fires
use Rattle.replica_laws.proofs.Based.{IsNoBase}

-- all deliveries that a segment knows, the earlier ones first
abbrev pub all_of : Segment → List Delivery
all_of s = s.earlier ++ s.delivered

delivered_more : (s : Segment) (ds : List Delivery) → all_of (segment_with None ds s) ≡ all_of s ++ ds
delivered_more s ds = sym (append_assoc s.earlier s.delivered ds)

one_rule : (s : Segment) (rule : Fired) → all_of (segment_with (installed_in rule) (delivery_in rule) s) ≡ all_of s ++ delivery_in rule
one_rule s (fires.Installed place) = refl
one_rule s fires.Spoiled = delivered_more s []
one_rule s (fires.Delivered d) = delivered_more s (d ∷ [])
one_rule s (fires.Marked snapshot) = delivered_more s []
one_rule s (fires.Adopted start) = delivered_more s []
one_rule s fires.Joined = delivered_more s []
one_rule s (fires.Promised p) = delivered_more s []
one_rule s fires.Led = delivered_more s []
one_rule s fires.Proposed = delivered_more s []
one_rule s fires.Wrote = delivered_more s []
one_rule s fires.Accepted = delivered_more s []
one_rule s (fires.Decided place) = delivered_more s []
one_rule s fires.Timed = delivered_more s []
one_rule s fires.Answered = delivered_more s []
one_rule s (fires.Viewed view) = delivered_more s []

-- a step adds its deliveries to all of them, whether a segment ends in it or not
pub segment_all : (s : Segment) (fired : List Fired) → all_of (segment_after s fired) ≡ all_of s ++ flat_map delivery_in fired
unfolding segment_after
segment_all s [] = sym (append-nil (all_of s))
segment_all s (rule ∷ rules) =
    segment_all (segment_with (installed_in rule) (delivery_in rule) s) rules
    ∙ (ap (λ (ds : List Delivery). ds ++ flat_map delivery_in rules) (one_rule s rule) ∙ append_assoc (all_of s) (delivery_in rule) (flat_map delivery_in rules))

-- a segment with these deliveries more
abbrev pub segment_more : Segment → List Delivery → Segment
segment_more s ds = record { began = s.began; delivered = s.delivered ++ ds; earlier = s.earlier }

-- a step that installs nothing goes on with the segment
pub segment_goes_on : (s : Segment) (fired : List Fired) → Each IsNoBase fired → segment_after s fired ≡ segment_more s (flat_map delivery_in fired)
unfolding segment_after
segment_goes_on s [] none = ap (λ (ds : List Delivery). record { began = s.began; delivered = ds; earlier = s.earlier }) (sym (append-nil s.delivered))
segment_goes_on s (rule ∷ rules) none =
    ap (λ (o : Option ℕ). segment_after (segment_with o (delivery_in rule) s) rules) none.0
    ∙ (segment_goes_on (segment_more s (delivery_in rule)) rules none.1
    ∙ ap (λ (ds : List Delivery). record { began = s.began; delivered = ds; earlier = s.earlier }) (append_assoc s.delivered (delivery_in rule) (flat_map delivery_in rules)))

-- a step that installs first begins one
pub segment_begins : (s : Segment) (place : ℕ) (rules : List Fired) → Each IsNoBase rules → flat_map delivery_in rules ≡ []
    → segment_after s (fires.Installed place ∷ rules) ≡ record { began = place; delivered = []; earlier = s.earlier ++ s.delivered }
unfolding segment_after
segment_begins s place rules none quiet =
    segment_goes_on (record { began = place; delivered = []; earlier = s.earlier ++ s.delivered }) rules none
    ∙ ap (λ (ds : List Delivery). record { began = place; delivered = ds; earlier = s.earlier ++ s.delivered }) quiet
