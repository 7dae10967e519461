-- What came from links, once nothing more was taken from them; what is kept of a value that may be there.
use Rattle.std.proofs.Common.{◌≡◌, ℕ, ◌≤◌, List, Option, IfSome, sym, subst}
use Rattle.group_links.specs.declared.outward.LinkOut.{LinkOut}
use Rattle.trail.specs.declared.event.TrailEvent.{TrailEvent}
use Rattle.trail_rules.specs.Replays.{arrivals}
use Rattle.group_ends.specs.Carried.{times}
use Rattle.group_ends.specs.Facts.{poured, HasComeAtMost}
use Rattle.group_ends.specs.Ports.{takings}

pub most-links : (es : List TrailEvent) (old new : List (LinkOut (List ℕ))) → takings new ≡ takings old → HasComeAtMost es old → HasComeAtMost es new
most-links es old new same most bytes = subst (λ (t : List (List (List ℕ))). times bytes (arrivals es) ≤ times bytes (poured t)) (sym same) (most bytes)

-- what holds of a value holds of an equal one
pub some-by : {T : Type 0} (a b : Option T) → a ≡ b → (P : T → Type 0) → IfSome b P → IfSome a P
some-by a b is P here = subst (λ o. IfSome o P) (sym is) here
