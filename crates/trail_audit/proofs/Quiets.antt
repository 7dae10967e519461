-- Trails are replayed to see whether they are quiet.
use Rattle.std.proofs.Common.{◌≡◌, Bool, true, false, ◌&&◌, List, ◌∷◌, ◌++◌, refl, ap, sym, ◌∙◌, append_assoc}
use Rattle.std.specs.List.{list_all}
use Rattle.smart_service.specs.Services.{Meaning}
use Rattle.node_rules.specs.Nodes.{Node, view_of}
use Rattle.trail.specs.declared.event.TrailEvent.{TrailEvent}
use Rattle.trail_rules.specs.Replays.{Step, core_steps, after, replay}
use Rattle.audit_rules.specs.declared.recorded.Recorded.{Recorded}
use Rattle.audit_rules.specs.Audits.{first_node}
use Rattle.audit_rules.specs.Quiets.{Post, seems_at_rest, rests_over, sent_at, sent_from, sent_over}
use Rattle.audit_rules.proofs.Cores.{first_stands, sent_stands}
use Rattle.audit_rules.proofs.Resting.{seen_at_rest}

-- ---- one trail

-- the replay of one more event, and of the rest
pub replay-more : {S : Type 0} (step : Step S) (n m last : Node S) (x : TrailEvent) (rest all : List TrailEvent) → m ≡ after step n x → all ≡ x ∷ rest → replay step n all ≡ last → replay step m rest ≡ last
replay-more step n m last x rest all next is so_far = ap (λ k. replay step k rest) next ∙ (sym (ap (λ (es : List TrailEvent). replay step n es) is) ∙ so_far)

-- what was sent by one more event, and by the rest
pub sent_from-more : {S : Type 0} (step : Step S) (n m : Node S) (x : TrailEvent) (rest all : List TrailEvent) (old new total : List Post) → m ≡ after step n x → all ≡ x ∷ rest
    → new ≡ old ++ sent_at (view_of n).members x → old ++ sent_from step n all ≡ total → new ++ sent_from step m rest ≡ total
sent_from-more step n m x rest all old new total next is more so_far =
    let e : old ++ sent_from step n (x ∷ rest) ≡ total = rw is at so_far in
    ap (λ k. new ++ sent_from step k rest) next
    ∙ (ap (λ (ps : List Post). ps ++ sent_from step (after step n x) rest) more ∙ (append_assoc old (sent_at (view_of n).members x) (sent_from step (after step n x) rest) ∙ e))

-- a core at the first node rests if and only if the node does, and has sent the same
module _ {S : Type 0} (m : Meaning S) (t : Recorded) (core : Node S) (same : core ≡ first_node m t) where
  pub rests_by_core : (told : Bool) → told ≡ seems_at_rest (replay (core_steps m) core t.events) → told ≡ rests_over m t
  rests_by_core told is = is ∙ (ap (λ k. seems_at_rest (replay (core_steps m) k t.events)) same ∙ seen_at_rest m t)

  pub sent_by_core : (old new : List Post) → new ≡ old ++ sent_from (core_steps m) core t.events → new ≡ old ++ sent_over m t
  sent_by_core old new is =
      is ∙ ap (λ (ps : List Post). old ++ ps) (ap (λ k. sent_from (core_steps m) k t.events) same ∙ sent_stands m (first_node m t) (first_node m t) t.events (first_stands m t))

-- ---- several

-- one more passes, and the rest
pub all-more : {A : Type 0} (p : A → Bool) (x : A) (rest all : List A) (so told : Bool) (total : Bool) → all ≡ x ∷ rest → told ≡ p x → (so && list_all p all) ≡ total → ((so && told) && list_all p rest) ≡ total
all-more p x rest all so told total is passes so_far =
    let e : (so && (p x && list_all p rest)) ≡ total = rw is at so_far in
    ap (λ (t : Bool). (so && t) && list_all p rest) passes ∙ (joined so (p x) (list_all p rest) ∙ e)
  where
    joined : (a b c : Bool) → ((a && b) && c) ≡ (a && (b && c))
    joined true b c = refl
    joined false b c = refl

-- one more passes: all do if the rest do
pub passes-more : {A : Type 0} (p : A → Bool) (x : A) (rest all : List A) (total : Bool) → all ≡ x ∷ rest → p x ≡ true → list_all p all ≡ total → list_all p rest ≡ total
passes-more p x rest all total is passes so_far =
    let e : list_all p (x ∷ rest) ≡ total = rw is at so_far in
    rw passes at e

-- one does not: not all do
pub fails-one : {A : Type 0} (p : A → Bool) (x : A) (rest all : List A) (total : Bool) → all ≡ x ∷ rest → p x ≡ false → list_all p all ≡ total → false ≡ total
fails-one p x rest all total is fails so_far =
    let e : list_all p (x ∷ rest) ≡ total = rw is at so_far in
    rw fails at e
