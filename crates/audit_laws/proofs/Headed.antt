-- The node with which an audit begins is the one whose trail has this head.
use Rattle.std.proofs.Common.{◌≡◌, ◌∙◌, ℕ, Bool, true, false, cond, List, [], ◌∷◌, Option, Some, None, refl, ap}
use Rattle.std.proofs.lemmas.Bool.{eq-eqb}
use Rattle.smart_base.specs.Lists.{same_bytes}
use Rattle.smart_service.specs.Services.{Meaning}
use Rattle.snapshot_form.specs.Snapshots.{snapshot_text}
use Rattle.vote_book.proofs.Tested.{same_bytes_is}
use Rattle.replica_rules.specs.Replicas.{empty}
use Rattle.node_rules.specs.Reopening.{damage_of, reopened_from}
use Rattle.node_rules.specs.declared.node.Parts.{Parts}
use Rattle.trail.specs.declared.event.TrailEvent.{TrailEvent}
use Rattle.audit_rules.specs.Audits.{checkpoint_in, parts_in, first_node, damage_over}
use Rattle.member_opening.specs.Headings.{snapshot_by, head_by}
use Rattle.member_opening.specs.Restorings.{node_by}
use Rattle.member_opening.specs.declared.settings.Settings.{Settings}
use Rattle.audit_laws.specs.Heads.{trail_by}

same_bytes-refl : (bytes : List ℕ) → same_bytes bytes bytes ≡ true
same_bytes-refl [] = refl
same_bytes-refl (x ∷ xs) = rw (eq-eqb x x refl, same_bytes-refl xs) refl

-- another snapshot than the first is the checkpoint's
other-by : (first snapshot : List ℕ) (same : Bool) → same_bytes snapshot first ≡ same → (Some snapshot ≡ Some first → ⊥) → cond same None (Some snapshot) ≡ Some snapshot
other-by first snapshot true is other = absurd (other (ap (λ (bytes : List ℕ). Some bytes) (same_bytes_is snapshot first is)))
other-by first snapshot false is other = refl

checkpoint-by : (first : List ℕ) (restored : Option (List ℕ)) (snapshot : List ℕ) → (restored ≡ None → snapshot ≡ first) → ((x : List ℕ) → restored ≡ Some x → snapshot ≡ x) → (restored ≡ Some first → ⊥)
    → cond (same_bytes snapshot first) None (Some snapshot) ≡ restored
checkpoint-by first None snapshot none some other =
    ap (λ (bytes : List ℕ). cond (same_bytes bytes first) None (Some bytes)) (none refl) ∙ ap (λ (t : Bool). cond t None (Some first)) (same_bytes-refl first)
checkpoint-by first (Some x) snapshot none some other =
    ap (λ (bytes : List ℕ). cond (same_bytes bytes first) None (Some bytes)) (some x refl) ∙ other-by first x (same_bytes x first) refl other

module _ {S : Type 0} (m : Meaning S) (s : Settings) (parts : Parts) (events : List TrailEvent) (other : parts.snapshot ≡ Some (snapshot_text m (empty m s.view)) → ⊥) where
  by-none : (restored : Option (List ℕ)) → restored ≡ None → snapshot_by m s.view restored ≡ snapshot_text m (empty m s.view)
  by-none None is = refl
  by-none (Some x) is = absurd (cc)

  by-some : (restored : Option (List ℕ)) (x : List ℕ) → restored ≡ Some x → snapshot_by m s.view restored ≡ x
  by-some None x is = absurd (cc)
  by-some (Some y) x is = cc

  -- the checkpoint of the trail is the one that was restored
  checkpoint-is : checkpoint_in m (head_by m s parts) ≡ parts.snapshot
  checkpoint-is =
      checkpoint-by (snapshot_text m (empty m s.view)) parts.snapshot (snapshot_by m s.view parts.snapshot) (by-none parts.snapshot) (by-some parts.snapshot) other

  parts-are : parts_in m (trail_by m s parts events) ≡ parts
  parts-are = ap (λ (snapshot : Option (List ℕ)). record { snapshot = snapshot; entries = parts.entries }) checkpoint-is

  pub first-is : first_node m (trail_by m s parts events) ≡ node_by m s parts
  unfolding first_node
  first-is = ap (λ (p : Parts). reopened_from m s.secret s.member s.view s.period p) parts-are

  pub damage-is : damage_over m (trail_by m s parts events) ≡ damage_of m s.secret s.view parts
  damage-is = ap (λ (p : Parts). damage_of m s.secret s.view p) parts-are
