-- What more events of a trail make of its client.
use Rattle.std.proofs.Common.{◌≡◌, ◌≢◌, ℕ, ◌+◌, ◌==◌, true, false, cond, min, ◌-◌, ◌^◌, Bool, List, [], ◌∷◌, ◌++◌, None, refl, sym, ap, subst, ◌∙◌, arith, append_assoc, append-nil}
use Rattle.std.proofs.lemmas.Bool.{eqb-true}
use Rattle.smart_base.specs.Lists.{Each}
use Rattle.smart_statements.specs.declared.entry.NodeEvent.TheVariants.{Arrive}
use Rattle.client_quorum.specs.Clients.{request_of, asking}
use Rattle.client_quorum.specs.Readings.{after_bytes}
use Rattle.client_quorum.specs.declared.client.Client.{Client}
use Rattle.node_rules.specs.declared.node.Target.{Target}
use Rattle.trail.specs.declared.event.Addressed.{Addressed}
use Rattle.trail.specs.declared.event.TrailEvent.{TrailEvent}
use Rattle.trail.specs.declared.event.TrailEvent.TheVariants.{Happens, Send, Lost, Polls, End}
use Rattle.trail_rules.specs.Replays.{sends, sent_by}
use Rattle.group_ends.specs.Ports.{losts, IsPosted}
use Rattle.group_ends.proofs.Carrying.{IsLostOf, losts-only}
use Rattle.client_seat.specs.Asks.{client_after, client_of, ask_by, MayCome, Asks, polls_since, told_polls}

pub client-join : (secret : List ℕ) (c : Client) (xs ys : List TrailEvent) → client_of secret c (xs ++ ys) ≡ client_of secret (client_of secret c xs) ys
client-join secret c [] ys = refl
client-join secret c (x ∷ xs) ys = client-join secret (client_after secret c x) xs ys

pub asks-join : (secret : List ℕ) (c : Client) (xs ys : List TrailEvent) → Asks secret c xs → Asks secret (client_of secret c xs) ys → Asks secret c (xs ++ ys)
asks-join secret c [] ys first rest = rest
asks-join secret c (x ∷ xs) ys first rest = (first.0, asks-join secret (client_after secret c x) xs ys first.1 rest)

pub polls-join : (before : ℕ) (xs ys : List TrailEvent) → polls_since before (xs ++ ys) ≡ polls_since (polls_since before xs) ys
polls-join before [] ys = refl
polls-join before (Happens event ∷ xs) ys = polls-join before xs ys
polls-join before (Send a ∷ xs) ys = polls-join 0 xs ys
polls-join before (Lost a ∷ xs) ys = polls-join before xs ys
polls-join before (Polls count ∷ xs) ys = polls-join (before + count) xs ys
polls-join before (End ∷ xs) ys = polls-join before xs ys

pub sends-join : (xs ys : List TrailEvent) → sends (xs ++ ys) ≡ sends xs ++ sends ys
sends-join [] ys = refl
sends-join (x ∷ xs) ys = ap (λ (l : List Addressed). sent_by x ++ l) (sends-join xs ys) ∙ sym (append_assoc (sent_by x) (sends xs) (sends ys))

-- Losts change nothing
client-lost : (secret : List ℕ) (c : Client) (a : Addressed) (lost : List TrailEvent) → Each (IsLostOf a) lost → client_of secret c lost ≡ c
client-lost secret c a [] only = refl
client-lost secret c a (Happens event ∷ lost) only = absurd only.0
client-lost secret c a (Send b ∷ lost) only = absurd only.0
client-lost secret c a (Lost b ∷ lost) only = client-lost secret c a lost only.1
client-lost secret c a (Polls count ∷ lost) only = absurd only.0
client-lost secret c a (End ∷ lost) only = absurd only.0

asks-lost : (secret : List ℕ) (c : Client) (a : Addressed) (lost : List TrailEvent) → Each (IsLostOf a) lost → Asks secret c lost
asks-lost secret c a [] only = tt
asks-lost secret c a (Happens event ∷ lost) only = absurd only.0
asks-lost secret c a (Send b ∷ lost) only = absurd only.0
asks-lost secret c a (Lost b ∷ lost) only = (tt, asks-lost secret c a lost only.1)
asks-lost secret c a (Polls count ∷ lost) only = absurd only.0
asks-lost secret c a (End ∷ lost) only = absurd only.0

polls-lost : (before : ℕ) (a : Addressed) (lost : List TrailEvent) → Each (IsLostOf a) lost → polls_since before lost ≡ before
polls-lost before a [] only = refl
polls-lost before a (Happens event ∷ lost) only = absurd only.0
polls-lost before a (Send b ∷ lost) only = absurd only.0
polls-lost before a (Lost b ∷ lost) only = polls-lost before a lost only.1
polls-lost before a (Polls count ∷ lost) only = absurd only.0
polls-lost before a (End ∷ lost) only = absurd only.0

-- ---- one event more

module _ (secret : List ℕ) (c : Client) (es new : List TrailEvent) (e : TrailEvent) (longer : new ≡ es ++ e ∷ []) where
  pub client-more : client_of secret c new ≡ client_after secret (client_of secret c es) e
  client-more = ap (client_of secret c) longer ∙ client-join secret c es (e ∷ [])

  pub asks-more : MayCome secret (client_of secret c es) e → Asks secret c es → Asks secret c new
  asks-more may asked = subst (Asks secret c) (sym longer) (asks-join secret c es (e ∷ []) asked (may, tt))

  -- a client that its trail makes has heard what came
  pub client-heard : (bytes : List ℕ) (old now : Client) → e ≡ Happens (Arrive bytes) → old ≡ client_of secret c es → now ≡ after_bytes secret old bytes → now ≡ client_of secret c new
  client-heard bytes old now is was heard =
      heard ∙ ap (λ (x : Client). after_bytes secret x bytes) was ∙ sym (client-more ∙ ap (client_after secret (client_of secret c es)) is)

pub sends-more : (es new : List TrailEvent) (e : TrailEvent) → new ≡ es ++ e ∷ [] → sent_by e ≡ [] → sends new ≡ sends es
sends-more es new e longer none =
    ap sends longer ∙ sends-join es (e ∷ []) ∙ ap (λ (l : List Addressed). sends es ++ (l ++ [])) none ∙ append-nil (sends es)

-- polls that found nothing
pub told-none : (count : ℕ) (es : List TrailEvent) → count ≡ 0 → es ≡ es ++ told_polls count
told-none count es none = sym (append-nil es) ∙ ap (λ (n : ℕ). es ++ told_polls n) (sym none)

pub told-some : (count : ℕ) (es new : List TrailEvent) → count ≢ 0 → new ≡ es ++ Polls count ∷ [] → new ≡ es ++ told_polls count
told-some count es new some longer = by-case (count == 0) refl
  where
    by-case : (b : Bool) → (count == 0) ≡ b → new ≡ es ++ told_polls count
    by-case true is = absurd (some (eqb-true count 0 is))
    by-case false is = longer ∙ ap (λ (b : Bool). es ++ cond b [] (Polls count ∷ [])) (sym is)

pub polled-more : (told idle now : ℕ) (es new : List TrailEvent) → new ≡ es ++ Polls idle ∷ [] → told ≡ min (polls_since 0 es) (2 ^ 64 - 1) → now ≡ min (told + idle) (2 ^ 64 - 1)
    → now ≡ min (polls_since 0 new) (2 ^ 64 - 1)
polled-more told idle now es new longer few is =
    let all : polls_since 0 new ≡ polls_since 0 es + idle = ap (polls_since 0) longer ∙ polls-join 0 es (Polls idle ∷ []) in
    omega (arith, few, is, all)

pub polled-same : (told : ℕ) (es new : List TrailEvent) (e : TrailEvent) → new ≡ es ++ e ∷ [] → polls_since (polls_since 0 es) (e ∷ []) ≡ polls_since 0 es → told ≡ min (polls_since 0 es) (2 ^ 64 - 1)
    → told ≡ min (polls_since 0 new) (2 ^ 64 - 1)
polled-same told es new e longer same few =
    few ∙ ap (λ (n : ℕ). min n (2 ^ 64 - 1)) (sym (ap (polls_since 0) longer ∙ polls-join 0 es (e ∷ []) ∙ same))

-- ---- a request

module _ (secret : List ℕ) (c : Client) (es new : List TrailEvent) (op : List ℕ) (targets : List Target) (was : Client) (kept : was ≡ client_of secret c es) (posted : IsPosted (ask_by secret was op) targets es new) where
  abbrev a : Addressed
  a = ask_by secret was op

  abbrev lost : List TrailEvent
  lost = losts a targets posted.dropped

  only : Each (IsLostOf a) lost
  only = losts-only a targets posted.dropped

  abbrev before : Client
  before = client_of secret c es

  pub client-asked : client_of secret c new ≡ asking was (request_of was op)
  client-asked =
      ap (client_of secret c) posted.after_is ∙ client-join secret c es (Send a ∷ lost) ∙ client-lost secret (client_after secret before (Send a)) a lost only
      ∙ ap (λ (x : Client). client_after secret x (Send a)) (sym kept)

  pub asks-asked : was.waiting ≡ None → Asks secret c es → Asks secret c new
  asks-asked idle asked =
      subst (Asks secret c) (sym posted.after_is)
      (asks-join secret c es (Send a ∷ lost) asked
      (subst (λ (x : Client). MayCome secret x (Send a)) kept (refl, idle, refl), asks-lost secret (client_after secret before (Send a)) a lost only))

  -- no poll is told since
  pub polled-asked : 0 ≡ min (polls_since 0 new) (2 ^ 64 - 1)
  polled-asked =
      let none : polls_since 0 new ≡ 0 = ap (polls_since 0) posted.after_is ∙ polls-join 0 es (Send a ∷ lost) ∙ polls-lost 0 a lost only in
      omega (arith, none)
