-- What one more event of a trail keeps of a seat's facts on its links and its sink.
use Rattle.std.proofs.Common.{◌≡◌, ℕ, ◌≤◌, ◌+◌, ◌-◌, ◌^◌, min, Bool, true, ◌⊎◌, inl, inr, List, [], ◌∷◌, ◌++◌, map, take, Option, refl, sym, ap, subst, ◌∙◌, arith, append-nil}
use Rattle.std.specs.Io.KnownBytes.{Appends}
use Rattle.std.proofs.KnownBytes.{Appends-trans}
use Rattle.std.proofs.lemmas.List.{map-append}
use Rattle.faults.specs.Counts.{Rose}
use Rattle.smart_statements.specs.declared.entry.NodeEvent.{NodeEvent}
use Rattle.smart_statements.specs.declared.entry.NodeEvent.TheVariants.{Arrive, Tick, Deliver, Firm}
use Rattle.trail.specs.Events.{event_text, addressed_text}
use Rattle.trail.specs.Trails.{part, trail_text}
use Rattle.trail.specs.declared.event.Addressed.{Addressed}
use Rattle.trail.specs.declared.event.TrailEvent.{TrailEvent}
use Rattle.trail.specs.declared.event.TrailEvent.TheVariants.{Happens}
use Rattle.trail.specs.declared.opening.TrailOpening.{TrailOpening}
use Rattle.trail_rules.specs.Replays.{sends, arrivals, sent_by, came_by}
use Rattle.trail_rules.proofs.Grows.{sends-more, arrivals-more}
use Rattle.node_seat.specs.Seats.{payloads, IsFirst, HasWrittenFirst, IsOwn}
use Rattle.node_seat.proofs.Fronts.{text-more, first-more, wrote-front}

-- an event of the node's own brings no message
pub own-brings : (event : NodeEvent) → IsOwn event → came_by (Happens event) ≡ []
own-brings (Arrive bytes) own = absurd own
own-brings Tick own = refl
own-brings Deliver own = refl
own-brings (Firm count) own = refl

module _ (es new : List TrailEvent) (e : TrailEvent) (longer : new ≡ es ++ e ∷ []) where
  came : arrivals new ≡ arrivals es ++ came_by e
  came = ap arrivals longer ∙ arrivals-more es e

  left : payloads new ≡ payloads es ++ map addressed_text (sent_by e)
  left = ap payloads longer ∙ ap (map addressed_text) (sends-more es e) ∙ map-append addressed_text (sends es) (sent_by e)

  -- what was taken from the link is what arrived
  pub came-by : (before taken : List (List ℕ)) → before ≡ arrivals es → taken ≡ before ++ came_by e → taken ≡ arrivals new
  came-by before taken was grew = grew ∙ ap (λ (l : List (List ℕ)). l ++ came_by e) was ∙ sym came

  pub came-own : (taken : List (List ℕ)) → taken ≡ arrivals es → came_by e ≡ [] → taken ≡ arrivals new
  came-own taken was none = was ∙ sym (came ∙ ap (λ (l : List (List ℕ)). arrivals es ++ l) none ∙ append-nil (arrivals es))

  -- what was put on the link is what left
  pub left-own : (put : List (List ℕ)) → put ≡ payloads es → sent_by e ≡ [] → put ≡ payloads new
  left-own put was none =
      was ∙ sym (left ∙ ap (λ (l : List Addressed). payloads es ++ map addressed_text l) none ∙ append-nil (payloads es))

  pub left-by : (before put : List (List ℕ)) → before ≡ payloads es → put ≡ before ++ map addressed_text (sent_by e) → put ≡ payloads new
  left-by before put was grew = grew ∙ ap (λ (l : List (List ℕ)). l ++ map addressed_text (sent_by e)) was ∙ sym left

  pub left-first : (put : List (List ℕ)) → put ≡ payloads es → IsFirst put (payloads new)
  left-first put was = first-more put (payloads new) (map addressed_text (sent_by e)) (left ∙ ap (λ (l : List (List ℕ)). l ++ map addressed_text (sent_by e)) (sym was))

  module _ (head : TrailOpening) (entries : List (List ℕ)) (begun old now : Option (List ℕ)) (text : List ℕ) (is : text ≡ event_text e) where
    told : trail_text head entries new ≡ trail_text head entries es ++ part text
    told = ap (trail_text head entries) longer ∙ text-more head entries es e ∙ ap (λ (l : List ℕ). trail_text head entries es ++ part l) (sym is)

    -- the sink has the text with the event's part
    pub text-all : Appends begun old (trail_text head entries es) → Appends old now (part text) → Appends begun now (trail_text head entries new)
    text-all was wrote = subst (Appends begun now) (sym told) (Appends-trans begun old now (trail_text head entries es) (part text) was wrote)

    -- or a front of it
    pub text-first : (count : ℕ) → Appends begun old (trail_text head entries es) → Appends old now (take count (part text)) → HasWrittenFirst begun now (trail_text head entries new)
    text-first count was wrote =
        subst (HasWrittenFirst begun now) (sym told) (wrote-front begun old now (trail_text head entries es) (part text) count was wrote)

-- what was heard to be put was taken, and so it arrived
pub heard-came : (heard taken came : List (List ℕ)) → IsFirst heard taken → taken ≡ came → IsFirst heard came
heard-came heard taken came first is = subst (IsFirst heard) is first

-- counts of failures
pub later-still : (first before now : ℕ) → first ≤ before → before ≤ now → first ≤ now
later-still first before now early late = omega (arith, early, late)

pub rose-still : (first before now : ℕ) (failed failed' : Bool) → (failed ≡ true → Rose first before) → first ≤ before → before ≤ now
    → (failed' ≡ true → (failed ≡ true) ⊎ Rose before now) → failed' ≡ true → Rose first now
rose-still first before now failed failed' was early late told is = by-case (told is)
  where
    by-case : (failed ≡ true) ⊎ Rose before now → Rose first now
    by-case (inl it) =
        let rose : min (first + 1) (2 ^ 64 - 1) ≤ before = was it in
        omega (arith, rose, late)
    by-case (inr rose) =
        let it : min (before + 1) (2 ^ 64 - 1) ≤ now = rose in
        omega (arith, it, early)
