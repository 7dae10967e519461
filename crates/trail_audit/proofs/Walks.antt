-- The walk over trails finds the first difference.
use Rattle.std.proofs.Common.{◌≡◌, ℕ, ◌+◌, Bool, List, ◌∷◌, Option, Some, None, ap, sym, ◌∙◌}
use Rattle.smart_base.specs.Lists.{or_else, Each}
use Rattle.smart_messages.specs.declared.message.Sealed.{Sealed}
use Rattle.smart_service.specs.Services.{Meaning}
use Rattle.node_rules.specs.Nodes.{Node}
use Rattle.trail.specs.declared.event.TrailEvent.{TrailEvent}
use Rattle.trail.specs.declared.opening.TrailOpening.{TrailOpening}
use Rattle.trail_rules.specs.Replays.{Step, core_steps, after}
use Rattle.audit_rules.specs.declared.recorded.Recorded.{Recorded}
use Rattle.audit_rules.specs.declared.recorded.Found.{Found}
use Rattle.audit_rules.specs.declared.recorded.Difference.{Difference}
use Rattle.audit_rules.specs.Audits.{first_node, CanBegin, event_found, client_found, differing, member_difference, client_difference, service_difference, trail_difference, difference_in}
use Rattle.audit_rules.proofs.Cores.{first_stands, difference_stands}

-- ---- one trail of a member

module _ {S : Type 0} (step : Step S) (sent : Sealed → Bool) (o : TrailOpening) (before : ℕ) (n : Node S) (x : TrailEvent) (rest all : List TrailEvent) (total : Option Difference) (is : all ≡ x ∷ rest)
    (so_far : member_difference step sent o before n all ≡ total) where
  left : Option Difference
  left = member_difference step sent o (before + 1) (after step n x) rest

  here : or_else (differing o.member (before + 1) (event_found sent o.secret n x)) (member_difference step sent o (before + 1) (after step n x) rest) ≡ total
  here = sym (ap (λ (es : List TrailEvent). member_difference step sent o before n es) is) ∙ so_far

  -- nothing is found at an event, and the rest is left
  pub member-more : (secret : List ℕ) (m : Node S) (found : Option Found) → secret ≡ o.secret → found ≡ event_found sent secret n x → found ≡ None → m ≡ after step n x
      → member_difference step sent o (before + 1) m rest ≡ total
  member-more secret m found secret_is told none next =
      let nothing : event_found sent o.secret n x ≡ None = ap (λ k. event_found sent k n x) (sym secret_is) ∙ (sym told ∙ none) in
      ap (λ k. member_difference step sent o (before + 1) k rest) next
      ∙ (sym (ap (λ f. or_else (differing o.member (before + 1) f) (member_difference step sent o (before + 1) (after step n x) rest)) nothing) ∙ here)

  -- something is found at an event
  pub member-found : (secret : List ℕ) (found : Option Found) (f : Found) → secret ≡ o.secret → found ≡ event_found sent secret n x → found ≡ Some f
      → Some (record { member = o.member; event = before + 1; found = f }) ≡ total
  member-found secret found f secret_is told some =
      let there : event_found sent o.secret n x ≡ Some f = ap (λ k. event_found sent k n x) (sym secret_is) ∙ (sym told ∙ some) in
      sym (ap (λ g. or_else (differing o.member (before + 1) g) (member_difference step sent o (before + 1) (after step n x) rest)) there) ∙ here

-- ---- one trail of a client

module _ (sent : Sealed → Bool) (o : TrailOpening) (before : ℕ) (x : TrailEvent) (rest all : List TrailEvent) (total : Option Difference) (is : all ≡ x ∷ rest)
    (so_far : client_difference sent o before all ≡ total) where
  there_was : or_else (differing o.member (before + 1) (client_found sent o.secret x)) (client_difference sent o (before + 1) rest) ≡ total
  there_was = sym (ap (λ (es : List TrailEvent). client_difference sent o before es) is) ∙ so_far

  pub client-more : (secret : List ℕ) (found : Option Found) → secret ≡ o.secret → found ≡ client_found sent secret x → found ≡ None → client_difference sent o (before + 1) rest ≡ total
  client-more secret found secret_is told none =
      let nothing : client_found sent o.secret x ≡ None = ap (λ k. client_found sent k x) (sym secret_is) ∙ (sym told ∙ none) in
      sym (ap (λ f. or_else (differing o.member (before + 1) f) (client_difference sent o (before + 1) rest)) nothing) ∙ there_was

  pub client-found : (secret : List ℕ) (found : Option Found) (f : Found) → secret ≡ o.secret → found ≡ client_found sent secret x → found ≡ Some f
      → Some (record { member = o.member; event = before + 1; found = f }) ≡ total
  client-found secret found f secret_is told some =
      let there : client_found sent o.secret x ≡ Some f = ap (λ k. client_found sent k x) (sym secret_is) ∙ (sym told ∙ some) in
      sym (ap (λ g. or_else (differing o.member (before + 1) g) (client_difference sent o (before + 1) rest)) there) ∙ there_was

-- ---- all trails

pub trails-more : (sent : Sealed → Bool) (x : Recorded) (rest all : List Recorded) (found total : Option Difference) → all ≡ x ∷ rest → found ≡ trail_difference sent x → found ≡ None
    → difference_in sent all ≡ total → difference_in sent rest ≡ total
trails-more sent x rest all found total is told none so_far =
    let e : difference_in sent (x ∷ rest) ≡ total = sym (ap (λ (ts : List Recorded). difference_in sent ts) is) ∙ so_far in
    sym (ap (λ f. or_else f (difference_in sent rest)) (sym told ∙ none)) ∙ e

pub trails-found : (sent : Sealed → Bool) (x : Recorded) (rest all : List Recorded) (found total : Option Difference) (d : Difference) → all ≡ x ∷ rest → found ≡ trail_difference sent x
    → found ≡ Some d → difference_in sent all ≡ total → Some d ≡ total
trails-found sent x rest all found total d is told some so_far =
    let e : difference_in sent (x ∷ rest) ≡ total = sym (ap (λ (ts : List Recorded). difference_in sent ts) is) ∙ so_far in
    sym (ap (λ f. or_else f (difference_in sent rest)) (sym told ∙ some)) ∙ e

-- of several that could begin so, the first and the rest
pub begins-first : (x : Recorded) (rest all : List Recorded) → all ≡ x ∷ rest → Each CanBegin all → CanBegin x × Each CanBegin rest
begins-first x rest all is each = ap_each is each
  where
    ap_each : {ts : List Recorded} → ts ≡ x ∷ rest → Each CanBegin ts → Each CanBegin (x ∷ rest)
    ap_each same holds = rw same at holds

-- a core at the first node finds what the node finds
pub by_core : {S : Type 0} (m : Meaning S) (sent : Sealed → Bool) (t : Recorded) (core : Node S) (found : Option Difference) → core ≡ first_node m t
    → found ≡ member_difference (core_steps m) sent t.opening 0 core t.events → found ≡ service_difference m sent t
by_core m sent t core found same told =
    told ∙ (ap (λ k. member_difference (core_steps m) sent t.opening 0 k t.events) same ∙ difference_stands m (first_node m t) (first_node m t) sent t.opening 0 t.events (first_stands m t))
