-- What was taken from links, and what arrived by a trail.
use Rattle.std.proofs.Common.{◌≡◌, ℕ, zero, suc, ◌+◌, ◌<◌, List, [], ◌∷◌, ◌++◌, length, filter, slice_set, get_or, refl, sym, ap, ◌∙◌, arith, append_assoc, append-nil, length-append}
use Rattle.std.proofs.lemmas.List.Elements.{filter-append}
use Rattle.smart_base.specs.Lists.{Each, same_bytes}
use Rattle.trail.specs.declared.event.Addressed.{Addressed}
use Rattle.trail.specs.declared.event.TrailEvent.{TrailEvent}
use Rattle.trail.specs.declared.event.TrailEvent.TheVariants.{Happens, Send, Lost, Polls, End}
use Rattle.trail_rules.specs.Replays.{arrivals, came_by}
use Rattle.group_ends.specs.Carried.{times}
use Rattle.group_ends.specs.Facts.{poured}
use Rattle.group_ends.proofs.Carrying.{IsLostOf}

pub times-append : (bytes : List ℕ) (xs ys : List (List ℕ)) → times bytes (xs ++ ys) ≡ times bytes xs + times bytes ys
times-append bytes xs ys = ap length (filter-append (same_bytes bytes) xs ys) ∙ length-append (filter (same_bytes bytes) xs) (filter (same_bytes bytes) ys)

-- one message more from the link at an index
pub poured-more : (bytes x : List ℕ) (ts : List (List (List ℕ))) (i : ℕ) → i < length ts
    → times x (poured (slice_set ts i (get_or ts i [] ++ bytes ∷ []))) ≡ times x (poured ts) + times x (bytes ∷ [])
poured-more bytes x [] i within = absurd omega (arith, within)
poured-more bytes x (t ∷ ts) zero within =
    omega (arith, times-append x (t ++ bytes ∷ []) (poured ts), times-append x t (bytes ∷ []), times-append x t (poured ts))
poured-more bytes x (t ∷ ts) (suc i) within =
    let rest = poured-more bytes x ts i (omega (arith, within)) in
    omega (arith, times-append x t (poured (slice_set ts i (get_or ts i [] ++ bytes ∷ []))), times-append x t (poured ts), rest)

pub arrivals-join : (es xs : List TrailEvent) → arrivals (es ++ xs) ≡ arrivals es ++ arrivals xs
arrivals-join [] xs = refl
arrivals-join (e ∷ es) xs = ap (λ (l : List (List ℕ)). came_by e ++ l) (arrivals-join es xs) ∙ sym (append_assoc (came_by e) (arrivals es) (arrivals xs))

-- nothing arrives by a Send and its Losts
pub arrivals-lost : (a : Addressed) (lost : List TrailEvent) → Each (IsLostOf a) lost → arrivals lost ≡ []
arrivals-lost a [] only = refl
arrivals-lost a (Happens event ∷ lost) only = absurd only.0
arrivals-lost a (Send b ∷ lost) only = absurd only.0
arrivals-lost a (Lost b ∷ lost) only = arrivals-lost a lost only.1
arrivals-lost a (Polls count ∷ lost) only = absurd only.0
arrivals-lost a (End ∷ lost) only = absurd only.0

pub arrivals-posted : (es : List TrailEvent) (a : Addressed) (lost : List TrailEvent) → Each (IsLostOf a) lost → arrivals (es ++ Send a ∷ lost) ≡ arrivals es
arrivals-posted es a lost only = arrivals-join es (Send a ∷ lost) ∙ ap (λ (l : List (List ℕ)). arrivals es ++ l) (arrivals-lost a lost only) ∙ append-nil (arrivals es)
