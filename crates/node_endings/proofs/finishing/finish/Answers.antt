use Rattle.std.proofs.Common.{◌≡◌, ◌∙◌, ℕ, List, length, sym, ap, subst, arith, length-drop}
use Rattle.std.proofs.lemmas.List.{length-map}
use Rattle.std.specs.Io.KnownBytes.{Appends}
use Rattle.log_lane.specs.Lane.{lane_taken}
use Rattle.log_lane.specs.declared.outward.LaneOut.{LaneOut}
use Rattle.group_links.specs.Link.{link_put, link_taken}
use Rattle.trail.specs.Trails.{trail_text}
use Rattle.trail.specs.declared.event.TrailEvent.{TrailEvent}
use Rattle.trail_rules.specs.Replays.{arrivals}
use Rattle.node_seat.specs.Seats.{payloads, IsFirst, HasWrittenFirst}
use Rattle.node_endings.proofs.Joined.{first_after, first_of_front, front_of_first, all_taken}
use Rattle.node_endings.proofs.finishing.finish.Goals as goal

pub rejoin-lane-requires : goal.rejoin-lane-requires
rejoin-lane-requires g c = c.into_parts-core.ensures.lane.0 ∙ c.requires.lane.0 ∙ sym c.into_parts-outward.ensures.lane.1

pub rejoin-came-requires : goal.rejoin-came-requires
rejoin-came-requires g c = c.requires.links.0 ∙ sym c.into_parts-inner.ensures.from.0

pub rejoin-left-requires : goal.rejoin-left-requires
rejoin-left-requires g c = c.into_parts-inner.ensures.to.0 ∙ sym c.requires.links.1

pub returns-clause-same : goal.returns-clause-same
returns-clause-same g c = (c.into_parts-core.ensures.trail ∙ ap (λ i. i.trail) c.into_parts-inner.ensures.inner.0, c.into_parts-inner.ensures.inner.1)

pub returns-clause-kept : goal.returns-clause-kept
returns-clause-kept g c = λ is. c.into_parts-core.ensures.kept (c.is_stuck-stuck.ensures.kept is)

pub returns-clause-needs : goal.returns-clause-needs
returns-clause-needs g c =
    omega (arith, c.requires.lane.1, c.into_parts-core.ensures.needs, c.into_parts-outward.ensures.store.1, c.rejoin-lane.ensures.numbers.0, c.rejoin-lane.ensures.firm)

pub returns-clause-firm : goal.returns-clause-firm
returns-clause-firm g c =
    omega (arith, c.requires.lane.1, c.into_parts-core.ensures.firm, c.into_parts-outward.ensures.store.1, c.rejoin-lane.ensures.numbers.0, c.rejoin-lane.ensures.firm)

pub returns-clause-put : goal.returns-clause-put
returns-clause-put g c = simp (length-map, length-drop) at (c.rejoin-lane.ensures.put ∙ ap length c.into_parts-core.ensures.lane.1)

pub returns-clause-lane : goal.returns-clause-lane
returns-clause-lane g c = (
  omega (arith, c.requires.lane.1, c.into_parts-outward.ensures.store.1, c.rejoin-lane.ensures.firm),
  (c.rejoin-lane.ensures.numbers.1, c.rejoin-lane.ensures.numbers.2),
)

pub returns-clause-ends : goal.returns-clause-ends
returns-clause-ends g c = (
  omega (arith, c.into_parts-core.ensures.firm, c.rejoin-lane.ensures.numbers.0),
  omega (arith, c.into_parts-core.ensures.needs, c.rejoin-lane.ensures.numbers.0),
)

pub returns-clause-counts : goal.returns-clause-counts
returns-clause-counts g c = c.rejoin-lane.ensures.taken ∙ ap (λ (l : LaneOut (List ℕ)). length (lane_taken l)) c.into_parts-outward.ensures.lane.0

pub returns-clause-took : goal.returns-clause-took
returns-clause-took g c =
    let joined = c.rejoin-lane.ensures in
    first_after _ _ joined.order.0 _ (ap (λ (l : LaneOut (List ℕ)). lane_taken l) c.into_parts-outward.ensures.lane.0) (sym c.into_parts-core.ensures.lane.1 ∙ joined.order.1)

pub returns-clause-came : goal.returns-clause-came
returns-clause-came g c =
    let parts = c.into_parts-inner in
    let taken = link_taken parts.result.from in
    let put = link_put c.args.arriving in
    let order = c.rejoin-came.ensures.order in
    let trail = ap (λ t. t.items) c.into_parts-core.ensures.trail in
    subst (λ (es : List TrailEvent). IsFirst (arrivals es) put) (sym trail)
    (first_of_front (arrivals parts.result.inner.trail.items) taken order.0 put order.1 parts.ensures.from.1)

pub returns-clause-all_came : goal.returns-clause-all_came
returns-clause-all_came g c = λ over same.
    let parts = c.into_parts-inner in
    let taken = link_taken parts.result.from in
    let put = link_put c.args.arriving in
    let joined = c.rejoin-came.ensures in
    let trail = ap (λ t. t.items) c.into_parts-core.ensures.trail in
    let all : put ≡ taken = all_taken taken joined.order.0 put joined.order.1 (sym joined.taken ∙ same ∙ joined.put) in
    ap arrivals trail ∙ sym (all ∙ (parts.ensures.all (parts.ensures.cut.1 over)).0)

pub returns-clause-left : goal.returns-clause-left
returns-clause-left g c =
    let parts = c.into_parts-inner in
    let taken = link_taken c.args.leaving in
    let put = link_put parts.result.to in
    let order = c.rejoin-left.ensures.order in
    let trail = ap (λ t. t.items) c.into_parts-core.ensures.trail in
    subst (λ (es : List TrailEvent). IsFirst taken (payloads es)) (sym trail)
    (front_of_first taken order.0 put (payloads parts.result.inner.trail.items) order.1 parts.ensures.to.1)

pub returns-clause-all_left : goal.returns-clause-all_left
returns-clause-all_left g c = λ over same.
    let parts = c.into_parts-inner in
    let taken = link_taken c.args.leaving in
    let put = link_put parts.result.to in
    let joined = c.rejoin-left.ensures in
    let trail = ap (λ t. t.items) c.into_parts-core.ensures.trail in
    let all : put ≡ taken = all_taken taken joined.order.0 put joined.order.1 (sym joined.taken ∙ same ∙ joined.put) in
    ap payloads trail ∙ sym (parts.ensures.all (parts.ensures.cut.1 over)).1.0 ∙ all

pub returns-clause-text : goal.returns-clause-text
returns-clause-text g c =
    let parts = c.into_parts-inner in
    let place = g.P.Place in
    let trail = ap (λ t. t.items) c.into_parts-core.ensures.trail in
    subst (λ (es : List TrailEvent). HasWrittenFirst place.begun (g.O.Sink.written parts.result.sink) (trail_text place.head place.entries es)) (sym trail) parts.ensures.text

pub returns-clause-all_text : goal.returns-clause-all_text
returns-clause-all_text g c = λ over.
    let parts = c.into_parts-inner in
    let place = g.P.Place in
    let trail = ap (λ t. t.items) c.into_parts-core.ensures.trail in
    subst (λ (es : List TrailEvent). Appends place.begun (g.O.Sink.written parts.result.sink) (trail_text place.head place.entries es)) (sym trail) (parts.ensures.all (parts.ensures.cut.1 over)).1.1
