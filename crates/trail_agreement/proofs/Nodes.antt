-- The nodes of a trail: what holds of each, and how their books begin the last one's.
use Rattle.std.proofs.Common.{inl, inr, ℕ, List, [], ◌∷◌, refl, sym, subst}
use Rattle.smart_base.specs.Lists.{Each}
use Rattle.smart_base.specs.Views.{View}
use Rattle.smart_service.specs.Services.{Meaning}
use Rattle.node_rules.specs.Nodes.{Node}
use Rattle.agreement_laws.specs.Statements.{Statement}
use Rattle.replica_laws.proofs.Onward.{Longer}
use Rattle.replica_laws.proofs.Small.{IsBrief}
use Rattle.trail.specs.declared.event.TrailEvent.{TrailEvent}
use Rattle.trail_rules.specs.Replays.{node_step, after, replay}
use Rattle.trail_agreement.specs.Deliveries.{IsNodeOf}
use Rattle.trail_agreement.proofs.Runs.{IsRight, MayArrive, grows-replay, right-after}

module _ {S : Type 0} (m : Meaning S) where
  -- the first one is one, and the last one
  at_first : (n : Node S) (events : List TrailEvent) → IsNodeOf m n events n
  at_first n [] = refl
  at_first n (e ∷ events) = inl refl

  pub at_last : (n : Node S) (events : List TrailEvent) → IsNodeOf m n events (replay (node_step m) n events)
  at_last n [] = refl
  at_last n (e ∷ events) = inr (at_last (after (node_step m) n e) events)

  -- what holds of the first one, and behind an event of a node of which it holds, holds of each
  pub through : (May : TrailEvent → Type 0) (P : Node S → Type 0) (n : Node S) (events : List TrailEvent) → Each May events → P n
      → ((x : Node S) (e : TrailEvent) → IsNodeOf m n events x → IsNodeOf m n events (after (node_step m) x e) → May e → P x → P (after (node_step m) x e)) → (x : Node S) → IsNodeOf m n events x → P x
  through May P n [] may is step x at = subst P (sym at) is
  through May P n (e ∷ events) may is step x (inl same) = subst P (sym same) is
  through May P n (e ∷ events) may is step x (inr later) =
      let next : Node S = after (node_step m) n e in
      through May P next events may.1 (step n e (inl refl) (inr (at_first next events)) may.0 is) (λ y f at behind came has. step y f (inr at) (inr behind) came has) x later

module _ {S : Type 0} (m : Meaning S) (brief : IsBrief m) (stated : List Statement) (secret : List ℕ) (view : View) (id : ℕ) where
  -- the book of each begins that of the last one
  pub books_grow : (n : Node S) (events : List TrailEvent) → IsRight m stated secret view id n → Each (MayArrive stated secret) events → (x : Node S) → IsNodeOf m n events x
      → Longer x.entries (replay (node_step m) n events).entries
  books_grow n [] is may x at = subst (λ (y : Node S). Longer y.entries n.entries) (sym at) (grows-replay m brief stated secret view id n [] is tt)
  books_grow n (e ∷ events) is may x (inl same) =
      subst (λ (y : Node S). Longer y.entries (replay (node_step m) n (e ∷ events)).entries) (sym same) (grows-replay m brief stated secret view id n (e ∷ events) is may)
  books_grow n (e ∷ events) is may x (inr later) =
      books_grow (after (node_step m) n e) events (right-after m brief stated secret view id n e is may.0) may.1 x later
