-- One more event of a trail.
use Rattle.std.proofs.Common.{◌≡◌, ℕ, ◌≤◌, max, Bool, true, false, cond, leb, List, [], ◌∷◌, ◌++◌, Some, None, refl, sym, ap, subst, ◌∙◌, append_assoc, append-nil, arith}
use Rattle.std.proofs.lemmas.Bool.{leb-true}
use Rattle.smart_service.specs.Services.{Meaning}
use Rattle.kept_arrivals.proofs.Steps.{core_step_stands}
use Rattle.node_rules.specs.Kept.{Stands, trimmed}
use Rattle.node_rules.specs.Nodes.{Node, regency_of}
use Rattle.node_rules.specs.Steps.{first_leaving}
use Rattle.node_rules.specs.declared.node.Held.{Held}
use Rattle.trail.specs.declared.event.Addressed.{Addressed}
use Rattle.trail.specs.declared.event.TrailEvent.{TrailEvent}
use Rattle.trail.specs.declared.event.TrailEvent.TheVariants.{Happens, Send, Lost, Polls, End}
use Rattle.trail_rules.specs.Replays.{sent_by, came_by, sends, arrivals, told_firm, last_firm, Step, node_step, core_steps, one_left, after, replay, needs_of, MayCome, Released, need_of, needed}

pub sends-more : (events : List TrailEvent) (e : TrailEvent) → sends (events ++ e ∷ []) ≡ sends events ++ sent_by e
sends-more [] e = append-nil (sent_by e)
sends-more (x ∷ events) e = ap (λ (l : List Addressed). sent_by x ++ l) (sends-more events e) ∙ sym (append_assoc (sent_by x) (sends events) (sent_by e))

pub arrivals-more : (events : List TrailEvent) (e : TrailEvent) → arrivals (events ++ e ∷ []) ≡ arrivals events ++ came_by e
arrivals-more [] e = append-nil (came_by e)
arrivals-more (x ∷ events) e = ap (λ (l : List (List ℕ)). came_by x ++ l) (arrivals-more events e) ∙ sym (append_assoc (came_by x) (arrivals events) (came_by e))

pub firm-more : (before : ℕ) (events : List TrailEvent) (e : TrailEvent) → last_firm before (events ++ e ∷ []) ≡ told_firm (last_firm before events) e
firm-more before [] e = refl
firm-more before (x ∷ events) e = firm-more (told_firm before x) events e

module _ {S : Type 0} (step : Step S) where
  pub replay-more : (n : Node S) (events : List TrailEvent) (e : TrailEvent) → replay step n (events ++ e ∷ []) ≡ after step (replay step n events) e
  replay-more n [] e = refl
  replay-more n (x ∷ events) e = replay-more (after step n x) events e

  pub released-more : (n : Node S) (events : List TrailEvent) (e : TrailEvent) → Released step n events → MayCome (replay step n events) e → Released step n (events ++ e ∷ [])
  released-more n [] e so_far may = (may, tt)
  released-more n (x ∷ events) e so_far may = (so_far.0, released-more (after step n x) events e so_far.1 may)

  pub released-less : (n : Node S) (events : List TrailEvent) (e : TrailEvent) → Released step n (events ++ e ∷ []) → Released step n events × MayCome (replay step n events) e
  released-less n [] e all = (tt, all.0)
  released-less n (x ∷ events) e all =
      let rest = released-less (after step n x) events e all.1 in
      ((all.0, rest.0), rest.1)

  pub needed-more : (n : Node S) (events : List TrailEvent) (e : TrailEvent) → needed step n (events ++ e ∷ []) ≡ max (needed step n events) (need_of (replay step n events) e)
  needed-more n [] e = omega arith
  needed-more n (x ∷ events) e =
      let rest = needed-more (after step n x) events e in
      omega (arith, rest)

first-firm : (firm : ℕ) (held : List Held) → needs_of (first_leaving firm held) ≤ firm
first-firm firm [] = omega arith
first-firm firm (h ∷ held) = by-test (leb h.needs firm) refl
  where
    by-test : (t : Bool) → leb h.needs firm ≡ t → needs_of (cond t (Some h) None) ≤ firm
    by-test true is = leb-true h.needs firm is
    by-test false is = omega arith

pub need-firm : {S : Type 0} (n : Node S) (e : TrailEvent) → need_of n e ≤ n.firm
need-firm n (Happens event) = omega arith
need-firm n (Send a) = first-firm n.firm n.held
need-firm n (Lost a) = omega arith
need-firm n (Polls count) = omega arith
need-firm n End = omega arith

-- ---- a core and its node

left-trimmed : {S : Type 0} (n : Node S) → one_left (trimmed n) ≡ trimmed (one_left n)
unfolding trimmed regency_of
left-trimmed n = refl

left-stands : {S : Type 0} (core n : Node S) → Stands core n → Stands (one_left core) (one_left n)
left-stands core n stands = record { same = ap one_left stands.same ∙ left-trimmed n }

may-trimmed : {S : Type 0} (n : Node S) (e : TrailEvent) → MayCome (trimmed n) e → MayCome n e
unfolding trimmed
may-trimmed n (Happens event) may = tt
may-trimmed n (Send a) may = may
may-trimmed n (Lost a) may = tt
may-trimmed n (Polls count) may = tt
may-trimmed n End may = tt

may-back : {S : Type 0} (n : Node S) (e : TrailEvent) → MayCome n e → MayCome (trimmed n) e
unfolding trimmed
may-back n (Happens event) may = tt
may-back n (Send a) may = may
may-back n (Lost a) may = tt
may-back n (Polls count) may = tt
may-back n End may = tt

module _ {S : Type 0} (m : Meaning S) where
  after-stands : (core n : Node S) (e : TrailEvent) → Stands core n → Stands (after (core_steps m) core e) (after (node_step m) n e)
  after-stands core n (Happens event) stands = (core_step_stands m core n event stands).node
  after-stands core n (Send a) stands = left-stands core n stands
  after-stands core n (Lost a) stands = stands
  after-stands core n (Polls count) stands = stands
  after-stands core n End stands = stands

  pub replay-stands : (core n : Node S) (events : List TrailEvent) → Stands core n → Stands (replay (core_steps m) core events) (replay (node_step m) n events)
  replay-stands core n [] stands = stands
  replay-stands core n (e ∷ events) stands = replay-stands (after (core_steps m) core e) (after (node_step m) n e) events (after-stands core n e stands)

  pub released-stands : (core n : Node S) (events : List TrailEvent) → Stands core n → Released (core_steps m) core events → Released (node_step m) n events
  released-stands core n [] stands all = tt
  released-stands core n (e ∷ events) stands all = (
    may-trimmed n e (subst (λ (c : Node S). MayCome c e) stands.same all.0),
    released-stands (after (core_steps m) core e) (after (node_step m) n e) events (after-stands core n e stands) all.1,
  )

  pub released-back : (core n : Node S) (events : List TrailEvent) → Stands core n → Released (node_step m) n events → Released (core_steps m) core events
  released-back core n [] stands all = tt
  released-back core n (e ∷ events) stands all = (
    subst (λ (c : Node S). MayCome c e) (sym stands.same) (may-back n e all.0),
    released-back (after (core_steps m) core e) (after (node_step m) n e) events (after-stands core n e stands) all.1,
  )
