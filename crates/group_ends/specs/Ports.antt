-- The ends of a party's links: what was put on them and taken from them.
use Rattle.std.specs.Prelude.{◌≡◌, ℕ, ◌≤◌, ◌<◌, Bool, true, false, not, ◌&&◌, List, [], ◌∷◌, ◌++◌, length, map, take, get_or, slice_set, if◌then◌else◌}
use Rattle.atomic_table.specs.Seated.{TableId}
use Rattle.queue_ends.specs.Rule.{IsFront}
use Rattle.smart_base.specs.Lists.{Each}
use Rattle.smart_messages.specs.Messages.{spelling}
use Rattle.group_links.specs.Link.{link_put, link_taken, link_heard_put, in_link, out_link}
use Rattle.group_links.specs.declared.outward.LinkOut.{LinkOut}
use Rattle.node_rules.specs.declared.node.Target.{Target}
use Rattle.trail.specs.declared.event.Addressed.{Addressed}
use Rattle.trail.specs.declared.event.TrailEvent.{TrailEvent}
use Rattle.trail.specs.declared.event.TrailEvent.TheVariants.{Send, Lost}
use Rattle.group_ends.specs.Carried.{same_end, is_for, carried}
use Rattle.group_ends.specs.declared.port.Port.{Port}

-- ---- the ends that send

-- who polls each link, and which link it is
abbrev pub ends : List Port → List Target
ends ports = map (λ p. p.end) ports

abbrev pub port_links : List Port → List TableId
port_links ports = map (λ p. in_link p.link) ports

-- what was put on each link
abbrev pub puts : List Port → List (List (List ℕ))
puts ports = map (λ p. link_put p.link) ports

-- an end is none of these
abbrev pub IsApart : Target → List Target → Type 0
IsApart end others = Each (λ other. same_end end other ≡ false) others

-- ends none of which is there twice, and at most one of which is a client's
abbrev pub AreApart : List Target → Type 0
AreApart [] = Unit {0}
AreApart (end ∷ others) = IsApart end others × AreApart others

-- the text that joins what was put on a link, if its end is to hear the message and the link did not drop it
abbrev pub added : Bool → Bool → List ℕ → List (List ℕ)
added is_heard is_dropped text = if is_heard && not is_dropped then text ∷ [] else []

-- A message was offered to a link. It is dropped only after 1,024 were put.
pub record IsOffered (to : Target) (text : List ℕ) (old : Port) (dropped : Bool) (new : Port) : Type 0 where
  pub end : new.end ≡ old.end
  pub link : in_link new.link ≡ in_link old.link
  pub put : link_put new.link ≡ link_put old.link ++ added (is_for to old.end) dropped text
  pub late : dropped ≡ true → (is_for to old.end ≡ true) × (1024 ≤ length (link_put old.link))

-- A message was offered to the link at an index.
pub record IsOfferedAt (to : Target) (text : List ℕ) (old : List Port) (index : ℕ) (dropped : Bool) (after : List Port) : Type 0 where
  pub before : Port
  pub stands : before ≡ get_or old index before
  pub new : Port
  pub offered : IsOffered to text before dropped new
  pub after_is : after ≡ slice_set old index new

-- to each of several, which dropped it or not
abbrev pub AreOffered : Target → List ℕ → List Port → List Bool → List Port → Type 0
AreOffered to text [] [] [] = Unit {0}
AreOffered to text [] [] (q ∷ qs) = ⊥
AreOffered to text [] (d ∷ ds) [] = ⊥
AreOffered to text [] (d ∷ ds) (q ∷ qs) = ⊥
AreOffered to text (p ∷ ps) [] [] = ⊥
AreOffered to text (p ∷ ps) [] (q ∷ qs) = ⊥
AreOffered to text (p ∷ ps) (d ∷ ds) [] = ⊥
AreOffered to text (p ∷ ps) (d ∷ ds) (q ∷ qs) = IsOffered to text p d q × AreOffered to text ps ds qs

-- The message was put on a link, or nothing was.
pub record IsWithin (to : Target) (text : List ℕ) (old : Port) (new : Port) : Type 0 where
  pub end : new.end ≡ old.end
  pub link : in_link new.link ≡ in_link old.link
  pub count : ℕ
  pub put : link_put new.link ≡ link_put old.link ++ take count (added (is_for to old.end) false text)

abbrev pub AreWithin : Target → List ℕ → List Port → List Port → Type 0
AreWithin to text [] [] = Unit {0}
AreWithin to text [] (q ∷ qs) = ⊥
AreWithin to text (p ∷ ps) [] = ⊥
AreWithin to text (p ∷ ps) (q ∷ qs) = IsWithin to text p q × AreWithin to text ps qs

-- the Lost of a message on its way to an end, if the link dropped it
abbrev pub lost_if : Bool → Addressed → Target → List TrailEvent
lost_if is_dropped a end = if is_dropped then Lost (record { to = end; message = a.message }) ∷ [] else []

-- the Losts of a message, one for each link that dropped it
abbrev pub losts : Addressed → List Target → List Bool → List TrailEvent
losts a [] ds = []
losts a (end ∷ others) [] = []
losts a (end ∷ others) (d ∷ ds) = lost_if d a end ++ losts a others ds

-- A trail after a message has left: its Send, and Losts of it, at most one for each of these ends, in their order.
pub record IsPosted (a : Addressed) (targets : List Target) (before after : List TrailEvent) : Type 0 where
  pub dropped : List Bool
  pub after_is : after ≡ before ++ (Send a ∷ losts a targets dropped)

-- A message was offered to links, and a trail tells after its Send which of them dropped it.
pub record IsSpread (a : Addressed) (old new : List Port) (before after : List TrailEvent) : Type 0 where
  pub dropped : List Bool
  pub offered : AreOffered a.to (spelling a.message) old dropped new
  pub after_is : after ≡ before ++ losts a (ends old) dropped

-- The trail tells of some of these that they dropped it.
pub record IsSpreadFirst (a : Addressed) (old new : List Port) (before after : List TrailEvent) : Type 0 where
  pub dropped : List Bool
  pub offered : AreOffered a.to (spelling a.message) old dropped new
  pub count : ℕ
  pub after_is : after ≡ before ++ take count (losts a (ends old) dropped)

-- a link carries what its owner's trail says
abbrev pub Carries : List TrailEvent → Port → Type 0
Carries events p = link_put p.link ≡ carried p.end events

-- or a front of it
abbrev pub CarriesFirst : List TrailEvent → Port → Type 0
CarriesFirst events p = IsFront (link_put p.link) (carried p.end events)

-- ---- the ends that poll

abbrev pub inbox_links : List (LinkOut (List ℕ)) → List TableId
inbox_links links = map out_link links

-- what was taken from each link
abbrev pub takings : List (LinkOut (List ℕ)) → List (List (List ℕ))
takings links = map link_taken links

-- what each end has heard was put
abbrev pub heard_puts : List (LinkOut (List ℕ)) → List (List (List ℕ))
heard_puts links = map link_heard_put links

-- what each end has heard was put, and what it has taken
abbrev pub heard_and_taken : List (LinkOut (List ℕ)) → List (List (List ℕ) × List (List ℕ))
heard_and_taken links = map (λ l. (link_heard_put l, link_taken l)) links

-- a link that had nothing at one moment: all that was heard to be put was taken
abbrev pub IsEmptied : List (List ℕ) × List (List ℕ) → Type 0
IsEmptied s = IsFront s.0 s.1

-- one message more was taken from one of several links
pub record IsTaken (bytes : List ℕ) (before after : List (List (List ℕ))) : Type 0 where
  pub index : ℕ
  pub within : index < length before
  pub after_is : after ≡ slice_set before index (get_or before index [] ++ bytes ∷ [])
