-- Fronts of lists, and the text of a trail with one more event.
use Rattle.std.proofs.Common.{◌≡◌, ℕ, zero, suc, ◌+◌, ◌-◌, List, [], ◌∷◌, ◌++◌, length, take, Option, Some, None, refl, sym, ap, ◌∙◌, arith, append_assoc, append-nil, length-append}
use Rattle.std.proofs.Math.Seq.{take-append-add, take-append_seam, take-length}
use Rattle.std.specs.List.{flat_map}
use Rattle.std.specs.Io.KnownBytes.{Appends}
use Rattle.trail.specs.Events.{event_text}
use Rattle.trail.specs.Openings.{opening_text}
use Rattle.trail.specs.Trails.{part, events_text, trail_text}
use Rattle.trail.specs.declared.event.TrailEvent.{TrailEvent}
use Rattle.trail.specs.declared.opening.TrailOpening.{TrailOpening}
use Rattle.node_seat.specs.Seats.{IsFirst, HasWrittenFirst}

pub text-more : (head : TrailOpening) (entries : List (List ℕ)) (events : List TrailEvent) (e : TrailEvent)
    → trail_text head entries (events ++ e ∷ []) ≡ trail_text head entries events ++ part (event_text e)
text-more head entries events e =
    let more : events_text (events ++ e ∷ []) ≡ events_text events ++ part (event_text e) = events-more events in
    ap (λ (l : List ℕ). part (opening_text head) ++ (flat_map part entries ++ l)) more
    ∙ ap (λ (l : List ℕ). part (opening_text head) ++ l) (sym (append_assoc (flat_map part entries) (events_text events) (part (event_text e))))
    ∙ sym (append_assoc (part (opening_text head)) (flat_map part entries ++ events_text events) (part (event_text e)))
  where
    events-more : (es : List TrailEvent) → events_text (es ++ e ∷ []) ≡ events_text es ++ part (event_text e)
    events-more [] = append-nil (part (event_text e))
    events-more (x ∷ es) = ap (λ (l : List ℕ). part (event_text x) ++ l) (events-more es) ∙ sym (append_assoc (part (event_text x)) (events_text es) (part (event_text e)))

module _ {A : Type 0} where
  take-count : (count : ℕ) (xs : List A) → take (length (take count xs)) xs ≡ take count xs
  take-count zero xs = refl
  take-count (suc count) [] = refl
  take-count (suc count) (x ∷ xs) = ap (λ (l : List A). x ∷ l) (take-count count xs)

  -- a list that begins with another
  pub first-more : (front all more : List A) → all ≡ front ++ more → IsFirst front all
  first-more front all more is = ap (take (length front)) is ∙ take-append_seam front more

  pub first-same : (front all : List A) → all ≡ front → IsFirst front all
  first-same front all is = ap (take (length front)) is ∙ take-length front

-- a sink that had a text and took a front of a part has a front of the longer text
pub wrote-front : (begun old now : Option (List ℕ)) (text piece : List ℕ) (count : ℕ) → Appends begun old text → Appends old now (take count piece) → HasWrittenFirst begun now (text ++ piece)
wrote-front None old now text piece count had took = tt
wrote-front (Some before) None now text piece count had took = absurd had
wrote-front (Some before) (Some written) None text piece count had took = absurd took
wrote-front (Some before) (Some written) (Some all) text piece count had took =
    let is : all ≡ (before ++ text) ++ take count piece = took ∙ ap (λ (l : List ℕ). l ++ take count piece) had in
    let flat : all ≡ before ++ (text ++ take count piece) = is ∙ append_assoc before text (take count piece) in
    let n : length all - length before ≡ length text + length (take count piece) =
    omega (arith, ap length flat, length-append before (text ++ take count piece), length-append text (take count piece)) in
    let front : take (length all - length before) (text ++ piece) ≡ text ++ take count piece =
    ap (λ (k : ℕ). take k (text ++ piece)) n ∙ take-append-add text piece (length (take count piece)) ∙ ap (λ (l : List ℕ). text ++ l) (take-count count piece) in
    flat ∙ ap (λ (l : List ℕ). before ++ l) (sym front)

pub wrote-all : (begun now : Option (List ℕ)) (text : List ℕ) → Appends begun now text → HasWrittenFirst begun now text
wrote-all None now text had = tt
wrote-all (Some before) None text had = absurd had
wrote-all (Some before) (Some written) text had =
    let n : length written - length before ≡ length text = omega (arith, ap length had, length-append before text) in
    had ∙ ap (λ (l : List ℕ). before ++ l) (sym (ap (λ (k : ℕ). take k text) n ∙ first-same text text refl))
