-- What recorded runs deliver, and that it is one list.
use Rattle.std.specs.Prelude.{◌≡◌, ◌⊎◌, ℕ, ◌+◌, ◌^◌, ◌<◌, ◌≤◌, Bool, true, false, List, [], ◌∷◌, length, filter, map, take, Some}
use Rattle.smart_base.specs.Cuts.{IsBytes}
use Rattle.smart_base.specs.Lists.{Distinct, Each}
use Rattle.smart_base.specs.Views.{View, is_view}
use Rattle.smart_keys.specs.Keys.{digest}
use Rattle.smart_statements.specs.Batches.{Batch}
use Rattle.smart_messages.specs.Messages.{Fits}
use Rattle.smart_service.specs.Services.{Meaning}
use Rattle.smart_service.specs.declared.replica.Replica.{Replica}
use Rattle.app_count.specs.Counts.{counting}
use Rattle.app_kv.specs.Snapshots.{keeping}
use Rattle.vote_book.specs.Books.{Among}
use Rattle.vote_book.specs.declared.entry.Decision.{Decision}
use Rattle.vote_book.specs.declared.entry.LogEntry.{LogEntry}
use Rattle.vote_book.specs.declared.entry.LogEntry.TheVariants.{Decided, Marked}
use Rattle.replica_rules.specs.Replicas.{batch_at, state, views_after}
use Rattle.replica_rules.specs.Seals.{digest_of}
use Rattle.snapshot_form.specs.Snapshots.{snapshot_text}
use Rattle.node_rules.specs.Nodes.{Node}
use Rattle.node_rules.specs.Steps.{step_of}
use Rattle.node_rules.specs.Deliveries.{AtPlaces, Segment, segment_after}
use Rattle.node_rules.specs.declared.node.Delivery.{Delivery}
use Rattle.node_laws.specs.Restoring.{AreAlong}
use Rattle.trail.specs.declared.event.TrailEvent.{TrailEvent}
use Rattle.trail.specs.declared.event.TrailEvent.TheVariants.{Happens, Send, Lost, Polls, End}
use Rattle.trail.specs.declared.opening.App.{App}
use Rattle.trail.specs.declared.opening.App.TheVariants as apps
use Rattle.trail.specs.declared.event.Addressed.{Addressed}
use Rattle.trail_rules.specs.Replays.{node_step, after, replay, arrivals, sends}
use Rattle.audit_rules.specs.declared.recorded.Recorded.{Recorded}
use Rattle.audit_rules.specs.Audits.{first_node, is_client, CanBegin}

-- ---- one run

-- the node after the last event of a member's trail
abbrev pub last_node : {S : Type 0} → Meaning S → Recorded → Node S
last_node m t = replay (node_step m) (first_node m t) t.events

-- a member's book after its last event. In a run that begins with the empty replica it is the member's diary: nothing was lost or cut.
abbrev pub book_of : {S : Type 0} → Meaning S → Recorded → List LogEntry
book_of m t = (last_node m t).entries

-- a node of a trail that goes on from a node: that one, or one behind an event
abbrev pub IsNodeOf : {S : Type 0} → Meaning S → Node S → List TrailEvent → Node S → Type 0
IsNodeOf m n [] x = x ≡ n
IsNodeOf m n (e ∷ events) x = (x ≡ n) ⊎ IsNodeOf m (after (node_step m) n e) events x

-- a replica that a member had, at the beginning of its trail or behind an event
pub record HasHad {S : Type 0} (m : Meaning S) (t : Recorded) (r : Replica S) : Type 0 where
  pub node : Node S
  pub there : IsNodeOf m (first_node m t) t.events node
  pub replica_is : node.replica ≡ r

-- the segment of deliveries after one more event
abbrev pub segment_behind : {S : Type 0} → Meaning S → Node S → Segment → TrailEvent → Segment
segment_behind m n s (Happens event) = segment_after s (step_of m n event).fired
segment_behind m n s (Send a) = s
segment_behind m n s (Lost a) = s
segment_behind m n s (Polls count) = s
segment_behind m n s End = s

-- the segment after events
abbrev pub segment_from : {S : Type 0} → Meaning S → Node S → Segment → List TrailEvent → Segment
segment_from m n s [] = s
segment_from m n s (e ∷ events) = segment_from m (after (node_step m) n e) (segment_behind m n s e) events

-- nothing was delivered
abbrev pub undelivered : Segment
undelivered = record { began = 0; delivered = []; earlier = [] }

-- what the steps of a member's trail delivered: since it began or took over a replica last, and before
abbrev pub deliveries_of : {S : Type 0} → Meaning S → Recorded → Segment
deliveries_of m t = segment_from m (first_node m t) undelivered t.events

-- ---- premises

-- a trail that has bytes
pub record IsSpelled (t : Recorded) : Type 0 where
  pub member : t.opening.member < 2 ^ 16
  pub view : is_view t.opening.view ≡ true
  pub came : Each IsBytes (arrivals t.events)
  pub sent : Each (λ (a : Addressed). Fits a.message) (sends t.events)

-- the number of a trail's owner
abbrev pub number_of : Recorded → ℕ
number_of t = t.opening.member

-- Recorded runs that have bytes, of members that could begin so. No number has two.
pub record AreSpelled (trails : List Recorded) : Type 0 where
  pub once : Distinct (map number_of trails)
  pub each : Each IsSpelled trails
  pub begin : Each CanBegin trails

-- a replica that a member had and marked
pub record HasMarked {S : Type 0} (m : Meaning S) (t : Recorded) (r : Replica S) : Type 0 where
  pub had : HasHad m t r
  pub marked : Among (Marked (record { place = r.place; digest = digest (snapshot_text m r) })) (book_of m t)

-- Recorded runs in which no two different batches that members decide have one digest. Nor have two different snapshots, of a replica that a
-- member marked and of one that a member had.
pub record NoCollision {S : Type 0} (m : Meaning S) (trails : List Recorded) : Type 0 where
  pub batches : (t u : Recorded) → Among t trails → Among u trails → is_client t ≡ false → is_client u ≡ false →
      (d e : Decision) → Among (Decided d) (book_of m t) → Among (Decided e) (book_of m u) → digest_of d.batch ≡ digest_of e.batch → d.batch ≡ e.batch
  pub snapshots : (t u : Recorded) → Among t trails → Among u trails → is_client t ≡ false → is_client u ≡ false →
      (r s : Replica S) → HasMarked m t r → HasHad m u s → digest (snapshot_text m r) ≡ digest (snapshot_text m s) → snapshot_text m r ≡ snapshot_text m s

-- over the service of a group
abbrev pub NoCollisionBy : App → List Recorded → Type 0
NoCollisionBy apps.Count trails = NoCollision counting trails
NoCollisionBy apps.Kv trails = NoCollision keeping trails

-- a batch at a place, which the book of a member decides
pub record HasDecider {S : Type 0} (m : Meaning S) (trails : List Recorded) (place : ℕ) (batch : Batch) : Type 0 where
  pub trail : Recorded
  pub there : Among trail trails
  pub member : is_client trail ≡ false
  pub decision : Decision
  pub decided : Among (Decided decision) (book_of m trail)
  pub place_is : decision.slot.place ≡ place
  pub batch_is : decision.batch ≡ batch

-- a list of batches, each of which a member decides at its place
abbrev pub AreDecided : {S : Type 0} → Meaning S → List Recorded → List Batch → Type 0
AreDecided m trails list = (place : ℕ) (batch : Batch) → batch_at list place ≡ Some batch → HasDecider m trails place batch

-- Recorded runs of a group that begins with a view. In each view that batches make which members decide, at most f members are faulty, also where
-- the view was left.
pub record FewInEach {S : Type 0} (m : Meaning S) (faulty : ℕ → Bool) (first : View) (trails : List Recorded) : Type 0 where
  pub each : (list : List Batch) → AreDecided m trails list → (v : View) → Among v (views_after first list) → length (filter faulty v.members) ≤ v.f

-- over the service of a group
abbrev pub FewInEachBy : App → (ℕ → Bool) → View → List Recorded → Type 0
FewInEachBy apps.Count faulty first trails = FewInEach counting faulty first trails
FewInEachBy apps.Kv faulty first trails = FewInEach keeping faulty first trails

-- ---- one list

-- a delivery of a list's batch at its place
abbrev pub IsListed : List Batch → Delivery → Type 0
IsListed list d = batch_at list d.place ≡ Some d.batch

-- A member's run that delivers a list. What its book decides is the list's batch at its place, and no place is made past the list's end. Its replica
-- is the state of the list at its place, and its views are those that the list makes. Since the member began or took over a replica, its steps
-- delivered one batch at each place after that one, in order. Each batch that a step delivered, then or before, is the list's at its place.
pub record Delivers {S : Type 0} (m : Meaning S) (list : List Batch) (t : Recorded) : Type 0 where
  pub along : AreAlong list (book_of m t)
  pub within : (last_node m t).replica.place ≤ length list
  pub replica : (last_node m t).replica ≡ state m t.opening.view (take (last_node m t).replica.place list)
  pub count : (deliveries_of m t).began + length (deliveries_of m t).delivered ≡ (last_node m t).replica.place
  pub places : AtPlaces ((deliveries_of m t).began + 1) (deliveries_of m t).delivered
  pub delivered : Each (IsListed list) (deliveries_of m t).delivered
  pub earlier : Each (IsListed list) (deliveries_of m t).earlier

-- Recorded runs that deliver one list. A member decides each batch of it at its place.
pub record OneList {S : Type 0} (m : Meaning S) (trails : List Recorded) : Type 0 where
  pub list : List Batch
  pub decided : AreDecided m trails list
  pub members : Each (λ t. is_client t ≡ false → Delivers m list t) trails

-- over the service of a group
abbrev pub OneListBy : App → List Recorded → Type 0
OneListBy apps.Count trails = OneList counting trails
OneListBy apps.Kv trails = OneList keeping trails
