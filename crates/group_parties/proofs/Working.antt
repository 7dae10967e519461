-- What one round of a member's workers leaves of its desk.
use Rattle.std.proofs.Common.{◌≡◌, ◌∙◌, ◌≤◌, ◌⊎◌, inl, inr, ℕ, Bool, false, List, ap, subst, arith}
use Rattle.atomic_table.specs.Seated.{TableId}
use Rattle.disk_model.specs.Cells.{Cells}
use Rattle.smart_service.specs.Services.{Meaning}
use Rattle.store_laws.specs.Stops.{is_installed}
use Rattle.durable_store.specs.declared.store.Store.{Store}
use Rattle.log_lane.specs.Lane.{lane_taken}
use Rattle.node_rules.specs.Nodes.{Node}
use Rattle.node_endings.specs.Loops.{gave_up}
use Rattle.node_endings.specs.declared.ending.LoopEnd.{LoopEnd}
use Rattle.node_endings.specs.declared.ending.LoopEnd.TheVariants.{Over, Failed}
use Rattle.group_threads.specs.Desks.{IsDeskOf, LogMade, WorkMade}
use Rattle.group_threads.specs.declared.desk.Desk.{Desk}
use Rattle.group_threads.specs.declared.desk.MemberEnds.{MemberEnds}

-- a round is the last one, unless the loop of the log would go on
pub over-or : {A : Type 0} (logged : LoopEnd) (faulty now : Bool) → A ⊎ (logged ≡ Over) → (gave_up logged ≡ false → faulty ≡ false) → now ≡ faulty → A ⊎ (now ≡ false)
over-or logged faulty now (inl over) whole is = inl over
over-or logged faulty now (inr over) whole is = inr (is ∙ whole (ap gave_up over))

module _ {S D : Type 0} (told remembers : Type 0) (cells : D → Cells) (moment : D → ℕ) (left_since : D → ℕ → List ℕ → Type 0) (counts : D → ℕ) (m : Meaning S) (opening : Node S) (lane : TableId × TableId) (restored : ℕ) where
  -- what the workers of a desk made, at that desk and at the one that is made of them
  pub work-made : (ends : MemberEnds) (old new : Desk D) (taken now : List (List ℕ)) (was is : Store D) (faulty : Bool) (first last : ℕ)
      → taken ≡ lane_taken old.lane → was ≡ old.store → first ≡ old.checker.last → now ≡ lane_taken new.lane → is ≡ new.store → faulty ≡ new.faulty → last ≡ new.checker.last
      → IsDeskOf lane restored new → LogMade told remembers cells moment left_since is_installed counts m opening restored ends.logged faulty taken now was is
      → first ≤ last → (ends.checked ≡ Failed → ⊥) → gave_up ends.delivered ≡ false → gave_up ends.sent ≡ false
      → WorkMade told remembers cells moment left_since is_installed counts m opening lane restored ends old new
  work-made ends old new taken now was is faulty first last taken-is was-is first-is now-is is-is faulty-is last-is desk made rises checked delivered sent = record {
    desk = desk;
    log =
        subst (λ (t : List (List ℕ)). LogMade told remembers cells moment left_since is_installed counts m opening restored ends.logged new.faulty t (lane_taken new.lane) old.store new.store) taken-is
        (subst (λ (t : List (List ℕ)). LogMade told remembers cells moment left_since is_installed counts m opening restored ends.logged new.faulty taken t old.store new.store) now-is
        (subst (λ (s : Store D). LogMade told remembers cells moment left_since is_installed counts m opening restored ends.logged new.faulty taken now s new.store) was-is
        (subst (λ (s : Store D). LogMade told remembers cells moment left_since is_installed counts m opening restored ends.logged new.faulty taken now was s) is-is
        (subst (λ (b : Bool). LogMade told remembers cells moment left_since is_installed counts m opening restored ends.logged b taken now was is) faulty-is made))));
    rises = omega (arith, rises, first-is, last-is);
    checked = checked;
    delivered = delivered;
    sent = sent;
  }
