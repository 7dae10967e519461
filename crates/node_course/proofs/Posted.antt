-- What a message that left, with its Losts, keeps of what a core keeps with its trail.
use Rattle.std.proofs.Common.{◌≡◌, ℕ, ◌≤◌, ◌+◌, max, List, [], ◌∷◌, ◌++◌, refl, sym, ap, subst, ◌∙◌, arith, append_assoc}
use Rattle.smart_base.specs.Lists.{Each}
use Rattle.smart_service.specs.Services.{Meaning}
use Rattle.vote_book.specs.declared.entry.LogEntry.{LogEntry}
use Rattle.node_rules.specs.Nodes.{Node}
use Rattle.trail.specs.declared.event.Addressed.{Addressed}
use Rattle.trail.specs.declared.event.TrailEvent.{TrailEvent}
use Rattle.trail.specs.declared.event.TrailEvent.TheVariants.{Happens, Send, Lost, Polls, End}
use Rattle.trail_rules.specs.Replays.{Step, core_steps, one_left, after, replay, MayCome, Released, need_of, needed}
use Rattle.node_rules.specs.declared.node.Target.{Target}
use Rattle.group_ends.specs.Ports.{losts, IsPosted}
use Rattle.group_ends.proofs.Carrying.{IsLostOf, losts-only}
use Rattle.node_played.proofs.Grown.{kept_on, same_on, needs_on, released_on}

module _ {S : Type 0} (step : Step S) where
  replay-join : (n : Node S) (xs ys : List TrailEvent) → replay step n (xs ++ ys) ≡ replay step (replay step n xs) ys
  replay-join n [] ys = refl
  replay-join n (x ∷ xs) ys = replay-join (after step n x) xs ys

  needed-join : (n : Node S) (xs ys : List TrailEvent) → needed step n (xs ++ ys) ≡ max (needed step n xs) (needed step (replay step n xs) ys)
  needed-join n [] ys = omega arith
  needed-join n (x ∷ xs) ys =
      let rest = needed-join (after step n x) xs ys in
      ap (max (need_of n x)) rest ∙ regroup (need_of n x) (needed step (after step n x) xs) (needed step (replay step (after step n x) xs) ys)
    where
      regroup : (a b c : ℕ) → max a (max b c) ≡ max (max a b) c
      regroup a b c = omega arith

  released-join : (n : Node S) (xs ys : List TrailEvent) → Released step n xs → Released step (replay step n xs) ys → Released step n (xs ++ ys)
  released-join n [] ys first rest = rest
  released-join n (x ∷ xs) ys first rest = (first.0, released-join (after step n x) xs ys first.1 rest)

  module _ (a : Addressed) where
    -- Losts change nothing
    replay-lost : (n : Node S) (lost : List TrailEvent) → Each (IsLostOf a) lost → replay step n lost ≡ n
    replay-lost n [] only = refl
    replay-lost n (Happens event ∷ lost) only = absurd only.0
    replay-lost n (Send b ∷ lost) only = absurd only.0
    replay-lost n (Lost b ∷ lost) only = replay-lost n lost only.1
    replay-lost n (Polls count ∷ lost) only = absurd only.0
    replay-lost n (End ∷ lost) only = absurd only.0

    needed-lost : (n : Node S) (lost : List TrailEvent) → Each (IsLostOf a) lost → needed step n lost ≡ 0
    needed-lost n [] only = refl
    needed-lost n (Happens event ∷ lost) only = absurd only.0
    needed-lost n (Send b ∷ lost) only = absurd only.0
    needed-lost n (Lost b ∷ lost) only = let rest = needed-lost n lost only.1 in omega (arith, rest)
    needed-lost n (Polls count ∷ lost) only = absurd only.0
    needed-lost n (End ∷ lost) only = absurd only.0

    released-lost : (n : Node S) (lost : List TrailEvent) → Each (IsLostOf a) lost → Released step n lost
    released-lost n [] only = tt
    released-lost n (Happens event ∷ lost) only = absurd only.0
    released-lost n (Send b ∷ lost) only = absurd only.0
    released-lost n (Lost b ∷ lost) only = (tt, released-lost n lost only.1)
    released-lost n (Polls count ∷ lost) only = absurd only.0
    released-lost n (End ∷ lost) only = absurd only.0

module _ {S : Type 0} (m : Meaning S) (opening : Node S) (es new : List TrailEvent) (a : Addressed) (targets : List Target) (posted : IsPosted a targets es new) where
  abbrev step : Step S
  step = core_steps m

  abbrev mid : List TrailEvent
  mid = es ++ Send a ∷ []

  abbrev lost : List TrailEvent
  lost = losts a targets posted.dropped

  only : Each (IsLostOf a) lost
  only = losts-only a targets posted.dropped

  longer : new ≡ mid ++ lost
  longer = posted.after_is ∙ sym (append_assoc es (Send a ∷ []) lost)

  replayed : replay step opening new ≡ replay step opening mid
  replayed = ap (replay step opening) longer ∙ replay-join step opening mid lost ∙ replay-lost step a (replay step opening mid) lost only

  pub kept-posted : (old core : Node S) → old ≡ replay step opening es → core ≡ one_left old → core ≡ replay step opening new
  kept-posted old core was is = kept_on m opening es mid a refl old core was is ∙ sym replayed

  -- nothing changes but what is held
  pub same-posted : (P : ℕ → List LogEntry → ℕ → Type 0) → P (replay step opening es).restored (replay step opening es).entries (replay step opening es).firm
      → P (replay step opening new).restored (replay step opening new).entries (replay step opening new).firm
  same-posted P was = subst (λ (n : Node S). P n.restored n.entries n.firm) (sym replayed) (same_on m opening es mid a refl P was)

  pub needs-posted : (bound : ℕ) → (replay step opening es).firm ≤ bound → needed step opening es ≤ bound → needed step opening new ≤ bound
  needs-posted bound firm was =
      let sent = needs_on m opening es mid a refl bound firm was in
      let more : needed step opening new ≡ max (needed step opening mid) (needed step (replay step opening mid) lost) =
      ap (needed step opening) longer ∙ needed-join step opening mid lost in
      let none = needed-lost step a (replay step opening mid) lost only in
      omega (arith, sent, more, none)

  pub released-posted : MayCome (replay step opening es) (Send a) → Released step opening es → Released step opening new
  released-posted may was =
      subst (Released step opening) (sym longer)
      (released-join step opening mid lost (released_on m opening es mid a refl may was) (released-lost step a (replay step opening mid) lost only))
