-- What the types of seats keep of their links, and that each of these facts has one proof.
use Rattle.std.proofs.Common.{◌≡◌, ℕ, ◌+◌, ◌≤◌, Bool, false, List, [], ◌∷◌, ◌++◌, Option, Some, None}
use Rattle.std.proofs.Props.{props}
use Rattle.std.specs.Option.{option_to_list}
use Rattle.smart_base.specs.Lists.{Each}
use Rattle.group_links.specs.declared.outward.LinkOut.{LinkOut}
use Rattle.node_rules.specs.declared.node.Target.{Target}
use Rattle.trail.specs.declared.event.Addressed.{Addressed}
use Rattle.trail.specs.declared.event.TrailEvent.{TrailEvent}
use Rattle.trail.specs.declared.event.TrailEvent.TheVariants.{Happens, Send, Lost, Polls, End}
use Rattle.trail_rules.specs.Replays.{arrivals}
use Rattle.group_ends.specs.Carried.{last_sent, IsOf, MayDrop, DropsLate, times}
use Rattle.group_ends.specs.Ports.{IsApart, AreApart, Carries, CarriesFirst, takings}
use Rattle.group_ends.specs.declared.port.Port.{Port}

-- all that was taken from several links
abbrev pub poured : List (List (List ℕ)) → List (List ℕ)
poured [] = []
poured (taken ∷ others) = taken ++ poured others

-- What was taken from links is what arrived by a trail and what has not been played yet, each as often.
abbrev pub HasCome : List TrailEvent → Option (List ℕ) → List (LinkOut (List ℕ)) → Type 0
HasCome events pending links = (bytes : List ℕ) → times bytes (arrivals events) + times bytes (option_to_list pending) ≡ times bytes (poured (takings links))

-- no more arrived than was taken
abbrev pub HasComeAtMost : List TrailEvent → List (LinkOut (List ℕ)) → Type 0
HasComeAtMost events links = (bytes : List ℕ) → times bytes (arrivals events) ≤ times bytes (poured (takings links))

pub come_prop : (over : Bool) (events : List TrailEvent) (pending : Option (List ℕ)) (links : List (LinkOut (List ℕ))) → IsProp (over ≡ false → HasCome events pending links)
come_prop over events pending links = hlevel props

pub most_prop : (events : List TrailEvent) (links : List (LinkOut (List ℕ))) → IsProp (HasComeAtMost events links)
most_prop events links = hlevel props

pub pending_prop : (events : List TrailEvent) (pending : Option (List ℕ)) (links : List (LinkOut (List ℕ))) → IsProp (HasCome events pending links)
pending_prop events pending links = hlevel props

apart_one : (end : Target) (others : List Target) → IsProp (IsApart end others)
apart_one end [] = hlevel props
apart_one end (other ∷ others) =
    let rest = apart_one end others in
    hlevel (props, rest)

pub apart_prop : (targets : List Target) → IsProp (AreApart targets)
apart_prop [] = hlevel props
apart_prop (end ∷ others) =
    let first = apart_one end others in
    let rest = apart_prop others in
    hlevel (props, first, rest)

each_carries : (events : List TrailEvent) (ports : List Port) → IsProp (Each (Carries events) ports)
each_carries events [] = hlevel props
each_carries events (p ∷ ports) =
    let rest = each_carries events ports in
    hlevel (props, rest)

pub carries_prop : (over : Bool) (events : List TrailEvent) (ports : List Port) → IsProp (over ≡ false → Each (Carries events) ports)
carries_prop over events ports =
    let all = each_carries events ports in
    hlevel (props, all)

pub first_prop : (events : List TrailEvent) (ports : List Port) → IsProp (Each (CarriesFirst events) ports)
first_prop events [] = hlevel props
first_prop events (p ∷ ports) =
    let rest = first_prop events ports in
    hlevel (props, rest)

of_prop : (a : Addressed) (last : Option Addressed) → IsProp (IsOf a last)
of_prop a None = hlevel props
of_prop a (Some sent) = hlevel props

may_prop : (targets : List Target) (before : List TrailEvent) (e : TrailEvent) → IsProp (MayDrop targets before e)
may_prop targets before (Happens event) = hlevel props
may_prop targets before (Send a) = hlevel props
may_prop targets before (Lost a) =
    let of = of_prop a (last_sent None before) in
    hlevel (props, of)
may_prop targets before (Polls count) = hlevel props
may_prop targets before End = hlevel props

pub late_prop : (targets : List Target) (before events : List TrailEvent) → IsProp (DropsLate targets before events)
late_prop targets before [] = hlevel props
late_prop targets before (e ∷ events) =
    let first = may_prop targets before e in
    let rest = late_prop targets (before ++ e ∷ []) events in
    hlevel (props, first, rest)
