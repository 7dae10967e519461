-- What comes to the parties of a group, counted.
use Rattle.std.proofs.Common.{◌≡◌, ℕ, zero, suc, ◌+◌, ◌≤◌, inl, inr, List, [], ◌∷◌, ◌++◌, length, take, drop, get_or, refl, ap, arith, take-append-drop}
use Rattle.smart_base.specs.Lists.{Each}
use Rattle.queue_ends.specs.Rule.{IsFront}
use Rattle.group_links.specs.Link.{link_put}
use Rattle.node_rules.specs.declared.node.Target.{Target}
use Rattle.trail.specs.declared.event.TrailEvent.{TrailEvent}
use Rattle.trail_rules.specs.Replays.{arrivals}
use Rattle.group_ends.specs.Carried.{carried, times}
use Rattle.group_ends.specs.Facts.{poured}
use Rattle.group_ends.specs.Ports.{ends, puts, CarriesFirst}
use Rattle.group_ends.specs.declared.port.Port.{Port}
use Rattle.group_ends.proofs.Coming.{times-append}
use Rattle.group_wires.specs.declared.row.Row.{Row}
use Rattle.group_wires.specs.Comings.{AreCarried, LeadsTo, all_carried}
use Rattle.group_wires.specs.Wires.{at, column, row_puts, AreFronts, HaveCome}

front-times : (bytes : List ℕ) (front whole : List (List ℕ)) → IsFront front whole → times bytes front ≤ times bytes whole
front-times bytes front whole is =
    let n = length front in
    omega (arith, times-append bytes (take n whole) (drop n whole), ap (times bytes) (take-append-drop n whole), ap (times bytes) is)

fronts-times : (bytes : List ℕ) (takings puts : List (List (List ℕ))) → AreFronts takings puts → times bytes (poured takings) ≤ times bytes (poured puts)
fronts-times bytes [] [] fronts = omega arith
fronts-times bytes [] (p ∷ ps) fronts = absurd fronts
fronts-times bytes (t ∷ ts) [] fronts = absurd fronts
fronts-times bytes (t ∷ ts) (p ∷ ps) fronts =
    omega (arith, times-append bytes t (poured ts), times-append bytes p (poured ps), front-times bytes t p fronts.0, fronts-times bytes ts ps fronts.1)

pour-append : (bytes : List ℕ) (xs ys : List (List (List ℕ))) → times bytes (poured (xs ++ ys)) ≡ times bytes (poured xs) + times bytes (poured ys)
pour-append bytes [] ys = omega arith
pour-append bytes (x ∷ xs) ys = omega (arith, times-append bytes x (poured (xs ++ ys)), times-append bytes x (poured xs), pour-append bytes xs ys)

-- ---- the link of one row

row-none : (ports : List Port) (index : ℕ) → at index (ends ports) ≡ [] → at index (puts ports) ≡ []
row-none [] index none = refl
row-none (p ∷ ports) zero none = absurd (omega (arith, ap length none))
row-none (p ∷ ports) (suc index) none = row-none ports index none

row-one : (bytes : List ℕ) (events : List TrailEvent) (ports : List Port) (index : ℕ) (end : Target) → Each (CarriesFirst events) ports → at index (ends ports) ≡ end ∷ []
    → times bytes (poured (at index (puts ports))) ≤ times bytes (carried end events)
row-one bytes events [] index end all is = absurd (omega (arith, ap length is))
row-one bytes events (p ∷ ports) zero end all is =
    let same : p.end ≡ end = ap (λ (ts : List Target). get_or ts 0 end) is in
    let one = front-times bytes (link_put p.link) (carried p.end events) all.0 in
    omega (arith, times-append bytes (link_put p.link) [], one, ap (λ (t : Target). times bytes (carried t events)) same)
row-one bytes events (p ∷ ports) (suc index) end all is = row-one bytes events ports index end all.1 is

row-times : (bytes : List ℕ) (events : List TrailEvent) (row : Row) (index : ℕ) (end : Target) → Each (CarriesFirst events) row.ports.items → LeadsTo index end row
    → times bytes (poured (at index (puts row.ports.items))) ≤ times bytes (carried end events)
row-times bytes events row index end all (inl is) = row-one bytes events row.ports.items index end all is
row-times bytes events row index end all (inr none) =
    omega (arith, ap (λ (xs : List (List (List ℕ))). times bytes (poured xs)) (row-none row.ports.items index none))

-- ---- all rows

column-times : (bytes : List ℕ) (trails : List (List TrailEvent)) (rows : List Row) (index : ℕ) (end : Target) → AreCarried trails rows → Each (LeadsTo index end) rows
    → times bytes (poured (column index (row_puts rows))) ≤ times bytes (all_carried end trails)
column-times bytes [] [] index end carry leads = omega arith
column-times bytes [] (row ∷ rows) index end carry leads = absurd carry
column-times bytes (events ∷ trails) [] index end carry leads = absurd carry
column-times bytes (events ∷ trails) (row ∷ rows) index end carry leads =
    omega (
      arith,
      pour-append bytes (at index (puts row.ports.items)) (column index (row_puts rows)),
      times-append bytes (carried end events) (all_carried end trails),
      row-times bytes events row index end carry.0 leads.0,
      column-times bytes trails rows index end carry.1 leads.1,
    )

pub came-of : (trails : List (List TrailEvent)) (rows : List Row) (inboxes : List (List (List (List ℕ)))) (index : ℕ) (end : Target) (events : List TrailEvent) (bytes : List ℕ)
    → AreCarried trails rows → Each (LeadsTo index end) rows → HaveCome (row_puts rows) inboxes → ((x : List ℕ) → times x (arrivals events) ≤ times x (poured (get_or inboxes index [])))
    → times bytes (arrivals events) ≤ times bytes (all_carried end trails)
came-of trails rows inboxes index end events bytes carry leads come most =
    omega (arith, most bytes, fronts-times bytes (get_or inboxes index []) (column index (row_puts rows)) (come index), column-times bytes trails rows index end carry leads)
