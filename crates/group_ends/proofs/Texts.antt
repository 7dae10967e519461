-- The text of a trail with one more event, and what its sink has of it.
use Rattle.std.proofs.Common.{◌≡◌, ℕ, zero, suc, ◌+◌, ◌-◌, ◌≤◌, ◌^◌, min, Bool, true, ◌⊎◌, inl, inr, List, [], ◌∷◌, ◌++◌, length, take, Option, Some, None, refl, sym, ap, subst, ◌∙◌, arith, append_assoc, append-nil, length-append}
use Rattle.std.proofs.Math.Seq.{take-append-add, take-append_seam}
use Rattle.std.specs.List.{flat_map}
use Rattle.std.specs.Io.KnownBytes.{Appends}
use Rattle.std.proofs.KnownBytes.{Appends-trans}
use Rattle.faults.specs.Counts.{Rose}
use Rattle.trail.specs.Events.{event_text}
use Rattle.trail.specs.Openings.{opening_text}
use Rattle.trail.specs.Trails.{part, events_text, trail_text}
use Rattle.trail.specs.declared.event.TrailEvent.{TrailEvent}
use Rattle.trail.specs.declared.opening.TrailOpening.{TrailOpening}
use Rattle.group_ends.specs.Journals.{HasFront}

module _ {A : Type 0} where
  take-count : (count : ℕ) (xs : List A) → take (length (take count xs)) xs ≡ take count xs
  take-count zero xs = refl
  take-count (suc count) [] = refl
  take-count (suc count) (x ∷ xs) = ap (λ (l : List A). x ∷ l) (take-count count xs)

  -- a list that begins with another
  pub front-more : (front all more : List A) → all ≡ front ++ more → take (length front) all ≡ front
  front-more front all more is = ap (take (length front)) is ∙ take-append_seam front more

-- a sink that had a text and took a front of a part has a front of the longer text
pub wrote-front : (begun old now : Option (List ℕ)) (text piece : List ℕ) (count : ℕ) → Appends begun old text → Appends old now (take count piece) → HasFront begun now (text ++ piece)
wrote-front None old now text piece count had took = tt
wrote-front (Some before) None now text piece count had took = absurd had
wrote-front (Some before) (Some written) None text piece count had took = absurd took
wrote-front (Some before) (Some written) (Some all) text piece count had took =
    let is : all ≡ (before ++ text) ++ take count piece = took ∙ ap (λ (l : List ℕ). l ++ take count piece) had in
    let flat : all ≡ before ++ (text ++ take count piece) = is ∙ append_assoc before text (take count piece) in
    let n : length all - length before ≡ length text + length (take count piece) =
    omega (arith, ap length flat, length-append before (text ++ take count piece), length-append text (take count piece)) in
    let front : take (length all - length before) (text ++ piece) ≡ text ++ take count piece =
    ap (λ (k : ℕ). take k (text ++ piece)) n ∙ take-append-add text piece (length (take count piece)) ∙ ap (λ (l : List ℕ). text ++ l) (take-count count piece) in
    flat ∙ ap (λ (l : List ℕ). before ++ l) (sym front)

-- a sink that has all of a text has a front of each longer one
pub had-front : (begun now : Option (List ℕ)) (text more : List ℕ) → Appends begun now text → HasFront begun now (text ++ more)
had-front None now text more had = tt
had-front (Some before) None text more had = absurd had
had-front (Some before) (Some written) text more had =
    let n : length written - length before ≡ length text = omega (arith, ap length had, length-append before text) in
    had ∙ ap (λ (l : List ℕ). before ++ l) (sym (ap (λ (k : ℕ). take k (text ++ more)) n ∙ take-append_seam text more))

pub has-all : (begun now : Option (List ℕ)) (text : List ℕ) → Appends begun now text → HasFront begun now text
has-all begun now text had = subst (HasFront begun now) (append-nil text) (had-front begun now text [] had)

module _ (head : TrailOpening) (entries : List (List ℕ)) (es new : List TrailEvent) (e : TrailEvent) (longer : new ≡ es ++ e ∷ []) where
  text-more : trail_text head entries new ≡ trail_text head entries es ++ part (event_text e)
  text-more =
      ap (trail_text head entries) longer
      ∙ ap (λ (l : List ℕ). part (opening_text head) ++ (flat_map part entries ++ l)) (events-more es)
      ∙ ap (λ (l : List ℕ). part (opening_text head) ++ l) (sym (append_assoc (flat_map part entries) (events_text es) (part (event_text e))))
      ∙ sym (append_assoc (part (opening_text head)) (flat_map part entries ++ events_text es) (part (event_text e)))
    where
      events-more : (xs : List TrailEvent) → events_text (xs ++ e ∷ []) ≡ events_text xs ++ part (event_text e)
      events-more [] = append-nil (part (event_text e))
      events-more (x ∷ xs) = ap (λ (l : List ℕ). part (event_text x) ++ l) (events-more xs) ∙ sym (append_assoc (part (event_text x)) (events_text xs) (part (event_text e)))

  module _ (begun old now : Option (List ℕ)) (had : Appends begun old (trail_text head entries es)) where
    -- the sink has nothing of the event
    pub text-none : HasFront begun old (trail_text head entries new)
    text-none = subst (HasFront begun old) (sym text-more) (had-front begun old (trail_text head entries es) (part (event_text e)) had)

    module _ (text : List ℕ) (is : text ≡ event_text e) where
      -- it has all of it
      pub text-all : Appends old now (part text) → Appends begun now (trail_text head entries new)
      text-all wrote =
          subst (Appends begun now) (ap (λ (l : List ℕ). trail_text head entries es ++ part l) is ∙ sym text-more)
          (Appends-trans begun old now (trail_text head entries es) (part text) had wrote)

      -- or a front of it
      pub text-front : (count : ℕ) → Appends old now (take count (part text)) → HasFront begun now (trail_text head entries new)
      text-front count wrote =
          subst (HasFront begun now) (ap (λ (l : List ℕ). trail_text head entries es ++ part l) is ∙ sym text-more)
          (wrote-front begun old now (trail_text head entries es) (part text) count had wrote)

-- counts of failures
pub later-still : (first before now : ℕ) → first ≤ before → before ≤ now → first ≤ now
later-still first before now early late = omega (arith, early, late)

-- a rise behind an earlier count is one of that count
pub rose-later : (first before now : ℕ) → first ≤ before → Rose before now → Rose first now
rose-later first before now early rose =
    let it : min (before + 1) (2 ^ 64 - 1) ≤ now = rose in
    omega (arith, it, early)

pub rose-still : (first before now : ℕ) (failed failed' : Bool) → (failed ≡ true → Rose first before) → first ≤ before → before ≤ now
    → (failed' ≡ true → (failed ≡ true) ⊎ Rose before now) → failed' ≡ true → Rose first now
rose-still first before now failed failed' was early late told is = by-case (told is)
  where
    by-case : (failed ≡ true) ⊎ Rose before now → Rose first now
    by-case (inl it) =
        let rose : min (first + 1) (2 ^ 64 - 1) ≤ before = was it in
        omega (arith, rose, late)
    by-case (inr rose) =
        let it : min (before + 1) (2 ^ 64 - 1) ≤ now = rose in
        omega (arith, it, early)
