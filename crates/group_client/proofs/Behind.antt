-- What a call adds to the trail of a client.
use Rattle.std.proofs.Common.{◌≡◌, ◌⊎◌, inl, inr, ℕ, List, [], ◌∷◌, ◌++◌, Option, Some, None, Result, Ok, Err, IfOk, OnErr, ap, sym, ◌∙◌, append_assoc, append-nil}
use Rattle.faults.specs.declared.Fault.{Fault}
use Rattle.client_quorum.specs.declared.client.Client.{Client}
use Rattle.client_quorum.specs.declared.client.Heard.{Heard}
use Rattle.node_rules.specs.declared.node.Target.{Target}
use Rattle.smart_statements.specs.declared.entry.NodeEvent.TheVariants.{Arrive}
use Rattle.trail.specs.declared.event.Addressed.{Addressed}
use Rattle.trail.specs.declared.event.TrailEvent.{TrailEvent}
use Rattle.trail.specs.declared.event.TrailEvent.TheVariants.{Happens, Send}
use Rattle.trail.specs.declared.opening.TrailOpening.{TrailOpening}
use Rattle.group_ends.specs.Ports.{losts, IsPosted}
use Rattle.group_client.proofs.Played.{Noted, Played}

-- events behind others
abbrev pub More : List TrailEvent → List TrailEvent → Type 0
More es new = (more : List TrailEvent) × (new ≡ es ++ more)

pub more-none : (es new : List TrailEvent) → new ≡ es → More es new
more-none es new same = ([], same ∙ sym (append-nil es))

pub more-then : (es mid new : List TrailEvent) → More es mid → More mid new → More es new
more-then es mid new (first, is) (second, longer) = (first ++ second, longer ∙ ap (λ (l : List TrailEvent). l ++ second) is ∙ append_assoc es first second)

pub more-same : (es mid new : List TrailEvent) → mid ≡ es → More mid new → More es new
more-same es mid new same (more, longer) = (more, longer ∙ ap (λ (l : List TrailEvent). l ++ more) same)

pub more-posted : (a : Addressed) (targets : List Target) (es new : List TrailEvent) → IsPosted a targets es new → More es new
more-posted a targets es new posted = (Send a ∷ losts a targets posted.dropped, posted.after_is)

pub more-maybe : (a : Addressed) (targets : List Target) (es new : List TrailEvent) → (new ≡ es) ⊎ IsPosted a targets es new → More es new
more-maybe a targets es new (inl none) = more-none es new none
more-maybe a targets es new (inr posted) = more-posted a targets es new posted

-- ---- a message that is played

module _ (head : TrailOpening) (pending : Option (List ℕ)) (c : Client) (es new : List TrailEvent) where
  more-found : (found : Option Heard) → Played head pending c es new found → More es new
  more-found None played = more-none es new played.1
  more-found (Some heard) played = (Happens (Arrive played.0) ∷ [], played.3)

  more-noted : Noted head pending c es new → More es new
  more-noted (inl same) = more-none es new same
  more-noted (inr (bytes, is, longer)) = (Happens (Arrive bytes) ∷ [], longer)

  pub more-played : (r : Result (Option Heard) Fault) → IfOk r (Played head pending c es new) → OnErr r (Noted head pending c es new) → More es new
  more-played (Ok found) ok err = more-found found ok
  more-played (Err fault) ok err = more-noted err
