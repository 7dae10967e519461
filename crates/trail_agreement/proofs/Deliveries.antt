-- What a member delivers it has decided, one place after the other.
use Rattle.std.proofs.Common.{ℕ, List, [], ◌∷◌, ◌++◌, ap, sym, ◌∙◌, subst, Option, Some}
use Rattle.std.specs.List.{flat_map}
use Rattle.smart_base.specs.Lists.{Each}
use Rattle.smart_base.specs.Views.{View}
use Rattle.smart_base.proofs.ViewFacts.{each-weaken}
use Rattle.smart_statements.specs.Batches.{Batch}
use Rattle.smart_statements.specs.declared.entry.NodeEvent.{NodeEvent}
use Rattle.smart_service.specs.Services.{Meaning}
use Rattle.vote_book.specs.Books.{Among}
use Rattle.vote_book.specs.declared.entry.LogEntry.{LogEntry}
use Rattle.vote_book.specs.declared.entry.LogEntry.TheVariants.{Decided}
use Rattle.replica_rules.specs.Replicas.{batch_at}
use Rattle.node_rules.specs.Nodes.{Node, next_place}
use Rattle.node_rules.specs.Steps.{step_of}
use Rattle.node_rules.specs.Deliveries.{Segment, delivery_in, segment_after}
use Rattle.node_rules.specs.declared.node.Delivery.{Delivery}
use Rattle.agreement_laws.specs.Statements.{Statement}
use Rattle.agreement_laws.proofs.Lists.{among_left, each_append}
use Rattle.node_laws.specs.Restoring.{AreAlong}
use Rattle.replica_laws.proofs.Counted.{IsCounted, counted-step}
use Rattle.replica_laws.proofs.Follows.{WasDue, due-step}
use Rattle.replica_laws.proofs.Onward.{HasDecided, IsDecided, Longer, NodeRests}
use Rattle.replica_laws.proofs.Segments.{all_of, segment_all}
use Rattle.replica_laws.proofs.Small.{IsBrief}
use Rattle.trail.specs.declared.event.TrailEvent.{TrailEvent}
use Rattle.trail.specs.declared.event.TrailEvent.TheVariants.{Happens, Send, Lost, Polls, End}
use Rattle.trail_rules.specs.Replays.{node_step, after, replay}
use Rattle.trail_agreement.specs.Deliveries.{IsListed, segment_behind, segment_from}
use Rattle.trail_agreement.proofs.Runs.{IsRight, MayArrive, grows-replay, right-after}

-- a delivery of what a book decides at its place
abbrev pub IsOf : List LogEntry → Delivery → Type 0
IsOf es d = HasDecided es d.place d.batch

pub decided_longer : (xs ys : List LogEntry) (place : ℕ) (batch : Batch) → Longer xs ys → HasDecided xs place batch → HasDecided ys place batch
decided_longer xs ys place batch longer is =
    record {
      decision = is.decision;
      there = subst (λ (es : List LogEntry). Among (Decided is.decision) es) (sym longer.split) (among_left (Decided is.decision) xs longer.more is.there);
      place_is = is.place_is;
      batch_is = is.batch_is;
    }

due_decided : {S : Type 0} (m : Meaning S) (n : Node S) (d : Delivery) → IsDecided (next_place n) n.entries n.waiting → WasDue m n d → IsOf n.entries d
due_decided {S = S} m n d waits due =
    subst (λ (k : ℕ). HasDecided n.entries k d.batch) (sym due.place) (subst (λ (w : Option Batch). IsDecided (next_place n) n.entries w) due.batch waits)

-- ---- one event

module _ {S : Type 0} (m : Meaning S) where
  pub counted-behind : (n : Node S) (s : Segment) (e : TrailEvent) → IsCounted s n.replica.place → IsCounted (segment_behind m n s e) (after (node_step m) n e).replica.place
  counted-behind n s (Happens event) is = counted-step m n event s is
  counted-behind n s (Send a) is = is
  counted-behind n s (Lost a) is = is
  counted-behind n s (Polls count) is = is
  counted-behind n s End is = is

  stepped : (n : Node S) (s : Segment) (event : NodeEvent) (es : List LogEntry) → NodeRests n → Longer n.entries es → Each (IsOf es) (all_of s)
      → Each (IsOf es) (all_of (segment_after s (step_of m n event).fired))
  stepped n s event es rests longer each =
      let new : List Delivery = flat_map delivery_in (step_of m n event).fired in
      subst (λ (ds : List Delivery). Each (IsOf es) ds) (sym (segment_all s (step_of m n event).fired))
      (each_append (IsOf es) (all_of s) new each
      (each-weaken (WasDue m n) (IsOf es) (λ d due. decided_longer n.entries es d.place d.batch longer (due_decided m n d rests.waits due)) new (due-step m n event)))

  delivered-behind : (n : Node S) (s : Segment) (e : TrailEvent) (es : List LogEntry) → NodeRests n → Longer n.entries es → Each (IsOf es) (all_of s) → Each (IsOf es) (all_of (segment_behind m n s e))
  delivered-behind n s (Happens event) es rests longer each = stepped n s event es rests longer each
  delivered-behind n s (Send a) es rests longer each = each
  delivered-behind n s (Lost a) es rests longer each = each
  delivered-behind n s (Polls count) es rests longer each = each
  delivered-behind n s End es rests longer each = each

-- ---- all events of a trail

module _ {S : Type 0} (m : Meaning S) where
  pub counted-from : (n : Node S) (s : Segment) (events : List TrailEvent) → IsCounted s n.replica.place → IsCounted (segment_from m n s events) (replay (node_step m) n events).replica.place
  counted-from n s [] is = is
  counted-from n s (e ∷ events) is = counted-from (after (node_step m) n e) (segment_behind m n s e) events (counted-behind m n s e is)

module _ {S : Type 0} (m : Meaning S) (brief : IsBrief m) (stated : List Statement) (secret : List ℕ) (view : View) (id : ℕ) where
  pub delivered-from : (n : Node S) (s : Segment) (events : List TrailEvent) → IsRight m stated secret view id n → Each (MayArrive stated secret) events
      → Each (IsOf (replay (node_step m) n events).entries) (all_of s) → Each (IsOf (replay (node_step m) n events).entries) (all_of (segment_from m n s events))
  delivered-from n s [] is may each = each
  delivered-from n s (e ∷ events) is may each =
      let next : Node S = after (node_step m) n e in
      let es : List LogEntry = (replay (node_step m) next events).entries in
      delivered-from next (segment_behind m n s e) events (right-after m brief stated secret view id n e is may.0) may.1
      (delivered-behind m n s e es is.rests (grows-replay m brief stated secret view id n (e ∷ events) is may) each)

-- ---- of a list

pub of_listed : (list : List Batch) (es : List LogEntry) (d : Delivery) → AreAlong list es → IsOf es d → IsListed list d
of_listed list es d along is =
    let at = along.decided is.decision is.there in
    ap (λ (k : ℕ). batch_at list k) (sym is.place_is) ∙ (at ∙ ap (λ (b : Batch). Some b) is.batch_is)

pub each-front : {A : Type 0} (P : A → Type 0) (xs ys : List A) → Each P (xs ++ ys) → Each P xs
each-front P [] ys each = tt
each-front P (x ∷ xs) ys each = (each.0, each-front P xs ys each.1)

pub each-behind : {A : Type 0} (P : A → Type 0) (xs ys : List A) → Each P (xs ++ ys) → Each P ys
each-behind P [] ys each = each
each-behind P (x ∷ xs) ys each = each-behind P xs ys each.1
