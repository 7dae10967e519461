-- What a call on a client's seat tells of what was asked and accepted.
use Rattle.std.proofs.Common.{◌≡◌, ◌⊎◌, inl, inr, ℕ, ◌+◌, List, [], ◌∷◌, ◌++◌, true, is_some, Option, Some, None, Result, Ok, Err, IfOk, OnOk, OnErr, MatchOption, refl, sym, ap, ◌∙◌, append-nil}
use Rattle.std.specs.Fmt.{decimal}
use Rattle.std.specs.List.{flat_map}
use Rattle.faults.specs.declared.Fault.{Fault}
use Rattle.smart_statements.specs.declared.entry.NodeEvent.TheVariants.{Arrive}
use Rattle.client_quorum.specs.Clients.{fresh, request_of, asking}
use Rattle.client_quorum.specs.Readings.{heard_bytes}
use Rattle.client_quorum.specs.declared.client.Acceptance.{Acceptance}
use Rattle.client_quorum.specs.declared.client.Client.{Client}
use Rattle.client_quorum.specs.declared.client.Heard.{Heard}
use Rattle.node_rules.specs.declared.node.Target.{Target}
use Rattle.trail.specs.declared.event.Addressed.{Addressed}
use Rattle.trail.specs.declared.event.TrailEvent.{TrailEvent}
use Rattle.trail.specs.declared.event.TrailEvent.TheVariants.{Happens}
use Rattle.trail.specs.declared.opening.TrailOpening.{TrailOpening}
use Rattle.group_ends.specs.Ports.{IsPosted}
use Rattle.client_seat.specs.Asks.{ask_by, client_after, client_of, told_polls}
use Rattle.client_seat.proofs.Grown.{client-more, sends-more}
use Rattle.group_client.specs.Amounts.{op_in, asked_in}
use Rattle.group_client.specs.Lines.{accepted, accepted_by}
use Rattle.group_client.proofs.Asked.{asked-told, asked-more, same-last}
use Rattle.group_client.proofs.Told.{accepted-heard, accepted-longer, accepted-told, accepted-posted}

-- what either answer of a call tells
pub by-either : {A E P Q R : Type 0} (r : Result A E) → OnOk r P → OnErr r Q → (P → R) → (Q → R) → R
by-either (Ok x) ok err first second = first ok
by-either (Err e) ok err first second = second err

-- ---- a request behind the polls that found nothing

pub amount-is : (c mid : Client) (last : ℕ) (op : List ℕ) → mid ≡ c → last ≡ mid.last → op ≡ decimal (last + 1) → op ≡ decimal (c.last + 1)
amount-is c mid last op same asked is = is ∙ ap (λ (n : ℕ). decimal (n + 1)) (asked ∙ ap (λ (x : Client). x.last) same)

pub client-asks : (c mid now : Client) (op : List ℕ) → mid ≡ c → now ≡ asking mid (request_of mid op) → (now.last ≡ c.last + 1) × (is_some now.waiting ≡ true)
client-asks c mid now op same is = (ap (λ (x : Client). x.last) is ∙ ap (λ (x : Client). x.last + 1) same, ap (λ (x : Client). is_some x.waiting) is)

module _ (head : TrailOpening) (c : Client) (op : List ℕ) (targets : List Target) (es mid new : List TrailEvent) (idle : ℕ) (told : mid ≡ es ++ told_polls idle) where
  pub asked-both : (was : Client) → op ≡ decimal (c.last + 1) → IsPosted (ask_by head.secret was op) targets mid new → asked_in new ≡ asked_in es ++ decimal (c.last + 1) ∷ []
  asked-both was is posted =
      asked-more head.secret was op targets mid new posted
      ∙ ap (λ (l : List (List ℕ)). l ++ op ∷ []) (asked-told es mid idle told)
      ∙ ap (λ (x : List ℕ). asked_in es ++ x ∷ []) is

  pub asked-maybe : (was : Client) → op ≡ decimal (c.last + 1) → (new ≡ mid) ⊎ IsPosted (ask_by head.secret was op) targets mid new
      → (asked_in new ≡ asked_in es) ⊎ (asked_in new ≡ asked_in es ++ decimal (c.last + 1) ∷ [])
  asked-maybe was is (inl none) = inl (ap asked_in none ∙ asked-told es mid idle told)
  asked-maybe was is (inr posted) = inr (asked-both was is posted)

  pub accepted-both : (a : Addressed) → IsPosted a targets mid new → accepted head new ≡ accepted head es
  accepted-both a posted = accepted-posted head a targets mid new posted ∙ accepted-told head es mid idle told

  pub accepted-maybe : (a : Addressed) → (new ≡ mid) ⊎ IsPosted a targets mid new → accepted head new ≡ accepted head es
  accepted-maybe a (inl none) = ap (accepted head) none ∙ accepted-told head es mid idle told
  accepted-maybe a (inr posted) = accepted-both a posted

pub last-same : (c mid now : Client) → mid ≡ c → now.last ≡ mid.last → now.last ≡ c.last
last-same c mid now same is = is ∙ ap (λ (x : Client). x.last) same

-- ---- a message that is played

module _ (head : TrailOpening) (pending : Option (List ℕ)) (c : Client) (es new : List TrailEvent) where
  -- what an answer of `play` tells of its trail
  abbrev pub Played : Option Heard → Type 0
  Played found =
      MatchOption found ((pending ≡ None) × (new ≡ es))
      (λ heard. (bytes : List ℕ) × (pending ≡ Some bytes) × (heard ≡ heard_bytes head.secret c bytes) × (new ≡ es ++ Happens (Arrive bytes) ∷ []))

  asked-found : (found : Option Heard) → Played found → asked_in new ≡ asked_in es
  asked-found None played = ap asked_in played.1
  asked-found (Some heard) played = ap (flat_map op_in) (sends-more es new (Happens (Arrive played.0)) played.3 refl)

  -- what an error tells of it
  abbrev pub Noted : Type 0
  Noted = (new ≡ es) ⊎ ((bytes : List ℕ) × (pending ≡ Some bytes) × (new ≡ es ++ Happens (Arrive bytes) ∷ []))

  asked-noted : Noted → asked_in new ≡ asked_in es
  asked-noted (inl same) = ap asked_in same
  asked-noted (inr (bytes, is, longer)) = ap (flat_map op_in) (sends-more es new (Happens (Arrive bytes)) longer refl)

  pub asked-played : (r : Result (Option Heard) Fault) → IfOk r Played → OnErr r Noted → asked_in new ≡ asked_in es
  asked-played (Ok found) ok err = asked-found found ok
  asked-played (Err fault) ok err = asked-noted err

  accepted-found : (found : Option Heard) → c ≡ client_of head.secret (fresh head.view 1) es → Played found → accepted head new ≡ accepted head es ++ accepted_by found
  accepted-found None kept played = ap (accepted head) played.1 ∙ sym (append-nil (accepted head es))
  accepted-found (Some heard) kept played = accepted-heard head c played.0 heard es new kept played.2 played.3

  pub accepted-behind : (r : Result (Option Heard) Fault) (before : List Acceptance) → accepted head es ≡ before → c ≡ client_of head.secret (fresh head.view 1) es → IfOk r Played
      → IfOk r (λ found. accepted head new ≡ before ++ accepted_by found)
  accepted-behind (Ok found) before same kept ok = accepted-found found kept ok ∙ ap (λ (l : List Acceptance). l ++ accepted_by found) same
  accepted-behind (Err fault) before same kept ok = tt

  last-found : (found : Option Heard) (now : Client) → c ≡ client_of head.secret (fresh head.view 1) es → now ≡ client_of head.secret (fresh head.view 1) new → Played found → now.last ≡ c.last
  last-found None now kept keeps played = ap (λ (x : Client). x.last) (keeps ∙ ap (client_of head.secret (fresh head.view 1)) played.1 ∙ sym kept)
  last-found (Some heard) now kept keeps played =
      same-last head.secret c now played.0
      (keeps ∙ client-more head.secret (fresh head.view 1) es new (Happens (Arrive played.0)) played.3
      ∙ ap (λ (x : Client). client_after head.secret x (Happens (Arrive played.0))) (sym kept))

  pub last-played : (r : Result (Option Heard) Fault) (now : Client) → c ≡ client_of head.secret (fresh head.view 1) es → OnOk r (now ≡ client_of head.secret (fresh head.view 1) new) → IfOk r Played → OnOk r (now.last ≡ c.last)
  last-played (Ok found) now kept keeps ok = last-found found now kept keeps ok
  last-played (Err fault) now kept keeps ok = tt

  pub more-behind : (before : List Acceptance) → accepted head es ≡ before → Noted → (more : List Acceptance) × (accepted head new ≡ before ++ more)
  more-behind before was (inl same) = ([], ap (accepted head) same ∙ was ∙ sym (append-nil before))
  more-behind before was (inr (bytes, is, longer)) =
      let l = accepted-longer head es new (Happens (Arrive bytes) ∷ []) longer in
      (l.0, l.1 ∙ ap (λ (front : List Acceptance). front ++ l.0) was)
