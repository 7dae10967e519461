-- What the links of a seat keep once an event was played, or a message was taken from one of them.
use Rattle.std.proofs.Common.{◌≡◌, ℕ, zero, suc, ◌+◌, ◌≤◌, true, List, [], ◌∷◌, ◌++◌, take, Option, Some, None, refl, sym, ap, subst, ◌∙◌, arith, append-nil}
use Rattle.smart_base.specs.Lists.{Each}
use Rattle.smart_statements.specs.declared.entry.NodeEvent.TheVariants.{Arrive}
use Rattle.group_links.specs.declared.outward.LinkOut.{LinkOut}
use Rattle.node_rules.specs.declared.node.Target.{Target}
use Rattle.trail.specs.declared.event.Addressed.{Addressed}
use Rattle.trail.specs.declared.event.TrailEvent.{TrailEvent}
use Rattle.trail.specs.declared.event.TrailEvent.TheVariants.{Happens}
use Rattle.trail_rules.specs.Replays.{arrivals, came_by}
use Rattle.group_ends.specs.Carried.{MayDrop, DropsLate, times}
use Rattle.group_ends.specs.Facts.{poured, HasCome, HasComeAtMost}
use Rattle.group_ends.specs.Ports.{takings, losts, IsTaken, IsPosted, Carries, CarriesFirst}
use Rattle.group_ends.specs.declared.port.Port.{Port}
use Rattle.group_ends.proofs.Carrying.{is_mute, losts-only}
use Rattle.group_ends.proofs.Coming.{times-append, poured-more, arrivals-join, arrivals-posted}
use Rattle.group_ends.proofs.Dropping.{late-more}
use Rattle.group_ends.proofs.Offering.{carries-mute, carries-front}

-- ---- what came

pub come-most : (es : List TrailEvent) (links : List (LinkOut (List ℕ))) → HasCome es None links → HasComeAtMost es links
come-most es links come bytes =
    let e : times bytes (arrivals es) + 0 ≡ times bytes (poured (takings links)) = come bytes in
    omega (arith, e)

-- nothing is taken from links yet
none-poured : (ts : List (List (List ℕ))) → Each (λ taken. taken ≡ []) ts → poured ts ≡ []
none-poured [] none = refl
none-poured (t ∷ ts) none = ap (λ (l : List (List ℕ)). l ++ poured ts) none.0 ∙ none-poured ts none.1

pub come-first : (es : List TrailEvent) (links : List (LinkOut (List ℕ))) → es ≡ [] → Each (λ taken. taken ≡ []) (takings links) → HasCome es None links
come-first es links first none bytes =
    ap (λ (l : List TrailEvent). times bytes (arrivals l) + 0) first ∙ sym (ap (times bytes) (none-poured (takings links) none))

-- as much came by a trail by which nothing more arrived
pub come-same : (es new : List TrailEvent) (pending : Option (List ℕ)) (links : List (LinkOut (List ℕ))) → arrivals new ≡ arrivals es → HasCome es pending links → HasCome new pending links
come-same es new None links same come bytes = ap (λ (l : List (List ℕ)). times bytes l + 0) same ∙ come bytes
come-same es new (Some x) links same come bytes = ap (λ (l : List (List ℕ)). times bytes l + times bytes (x ∷ [])) same ∙ come bytes

pub most-same : (es new : List TrailEvent) (links : List (LinkOut (List ℕ))) → arrivals new ≡ arrivals es → HasComeAtMost es links → HasComeAtMost new links
most-same es new links same most bytes = subst (λ (l : List (List ℕ)). times bytes l ≤ times bytes (poured (takings links))) (sym same) (most bytes)

pub come-links : (es : List TrailEvent) (pending : Option (List ℕ)) (old new : List (LinkOut (List ℕ))) → takings new ≡ takings old → HasCome es pending old → HasCome es pending new
come-links es pending old new same come bytes = come bytes ∙ sym (ap (λ (t : List (List (List ℕ))). times bytes (poured t)) same)

-- one message more was taken
pub come-taken : (es : List TrailEvent) (x : List ℕ) (old new : List (LinkOut (List ℕ))) → IsTaken x (takings old) (takings new) → HasCome es None old → HasCome es (Some x) new
come-taken es x old new taken come bytes =
    let was : times bytes (arrivals es) + 0 ≡ times bytes (poured (takings old)) = come bytes in
    let more : times bytes (poured (takings new)) ≡ times bytes (poured (takings old)) + times bytes (x ∷ []) =
    ap (λ (t : List (List (List ℕ))). times bytes (poured t)) taken.after_is ∙ poured-more x bytes (takings old) taken.index taken.within in
    omega (arith, was, more)

-- it arrives by the trail
pub come-noted : (es new : List TrailEvent) (x : List ℕ) (links : List (LinkOut (List ℕ))) → new ≡ es ++ Happens (Arrive x) ∷ [] → HasCome es (Some x) links → HasCome new None links
come-noted es new x links longer come bytes =
    let was : times bytes (arrivals es) + times bytes (x ∷ []) ≡ times bytes (poured (takings links)) = come bytes in
    let all : times bytes (arrivals new) ≡ times bytes (arrivals es) + times bytes (x ∷ []) =
    ap (λ (l : List TrailEvent). times bytes (arrivals l)) longer ∙ ap (times bytes) (arrivals-join es (Happens (Arrive x) ∷ [])) ∙ times-append bytes (arrivals es) (x ∷ []) in
    omega (arith, was, all)

-- or not
pub most-taken : (es new : List TrailEvent) (x : List ℕ) (count : ℕ) (links : List (LinkOut (List ℕ))) → new ≡ es ++ take count (Happens (Arrive x) ∷ []) → HasCome es (Some x) links → HasComeAtMost new links
most-taken es new x zero links longer come bytes =
    let was : times bytes (arrivals es) + times bytes (x ∷ []) ≡ times bytes (poured (takings links)) = come bytes in
    let same : times bytes (arrivals new) ≡ times bytes (arrivals es) = ap (λ (l : List TrailEvent). times bytes (arrivals l)) (longer ∙ append-nil es) in
    omega (arith, was, same)
most-taken es new x (suc zero) links longer come bytes = come-most new links (come-noted es new x links longer come) bytes
most-taken es new x (suc (suc count)) links longer come bytes = come-most new links (come-noted es new x links longer come) bytes

-- ---- an event that neither sends nor drops nor brings a message, or none

module _ (es new : List TrailEvent) (e : TrailEvent) (count : ℕ) (longer : new ≡ es ++ take count (e ∷ [])) (mute : is_mute e ≡ true) where
  by-count : (Q : List TrailEvent → Type 0) → Q es → ((xs : List TrailEvent) → xs ≡ es ++ e ∷ [] → Q xs) → (n : ℕ) → new ≡ es ++ take n (e ∷ []) → Q new
  by-count Q was one zero is = subst Q (sym (is ∙ append-nil es)) was
  by-count Q was one (suc zero) is = one new is
  by-count Q was one (suc (suc n)) is = one new is

  pub first-mute : (ps : List Port) → Each (Carries es) ps → Each (CarriesFirst new) ps
  first-mute ps had = by-count (λ xs. Each (CarriesFirst xs) ps) (carries-front es ps had) (λ xs is. carries-front xs ps (carries-mute es xs e ps is mute had)) count longer

  pub late-mute : (targets : List Target) → MayDrop targets es e → DropsLate targets [] es → DropsLate targets [] new
  late-mute targets may late = by-count (λ xs. DropsLate targets [] xs) late (λ xs is. subst (DropsLate targets []) (sym is) (late-more targets es e late may)) count longer

  pub same-mute : came_by e ≡ [] → arrivals new ≡ arrivals es
  same-mute none =
      by-count (λ xs. arrivals xs ≡ arrivals es) refl
      (λ xs is. ap arrivals is ∙ arrivals-join es (e ∷ []) ∙ ap (λ (l : List (List ℕ)). arrivals es ++ (l ++ [])) none ∙ append-nil (arrivals es)) count longer

-- one event of this kind
pub one-more : (es new : List TrailEvent) (e : TrailEvent) → new ≡ es ++ e ∷ [] → new ≡ es ++ take 1 (e ∷ [])
one-more es new e is = is

-- what came is the same once a message has left
pub same-posted : (es new : List TrailEvent) (a : Addressed) (ends : List Target) → IsPosted a ends es new → arrivals new ≡ arrivals es
same-posted es new a ends posted = ap arrivals posted.after_is ∙ arrivals-posted es a (losts a ends posted.dropped) (losts-only a ends posted.dropped)
