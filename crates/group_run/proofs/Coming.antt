-- What comes to a party of a group was sent to it, by all trails.
use Rattle.std.proofs.Common.{◌≡◌, ◌∙◌, ℕ, zero, suc, ◌+◌, ◌<◌, ◌≤◌, ◌⊎◌, inl, inr, List, [], ◌∷◌, ◌++◌, length, map, drop, replicate, get_or, length-append, refl, sym, ap, arith}
use Rattle.std.specs.List.{flat_map}
use Rattle.smart_base.specs.Lists.{Each}
use Rattle.node_rules.specs.declared.node.Target.{Target}
use Rattle.node_rules.specs.declared.node.Target.TheVariants.{Node, Client}
use Rattle.trail_rules.specs.Replays.{arrivals}
use Rattle.audit_rules.specs.declared.recorded.Recorded.{Recorded}
use Rattle.group_ends.specs.Carried.{carried, times}
use Rattle.group_ends.specs.Facts.{poured}
use Rattle.group_ends.specs.Ports.{ends}
use Rattle.group_ends.proofs.Coming.{times-append}
use Rattle.group_wires.specs.Comings.{AreCarried, LeadsTo, all_carried}
use Rattle.group_wires.specs.Wires.{at, only, all_ends, member_ends, place_of, receivers, row_ends, row_puts, HaveCome}
use Rattle.group_wires.specs.declared.row.Row.{Row}
use Rattle.group_wires.proofs.Came.{came-of}
use Rattle.group_wires.proofs.Columns.{at-push, only-here}
use Rattle.group_run.specs.Parties.{end_of, CameFrom}

-- ---- in the order of the parties, and in that of the trails

times-turned : (end : Target) (client : Recorded) (members : List Recorded) (bytes : List ℕ)
    → times bytes (all_carried end (map (λ (t : Recorded). t.events) members ++ client.events ∷ [])) ≡ times bytes (flat_map (λ (t : Recorded). carried end t.events) members) + times bytes (carried end client.events)
times-turned end client [] bytes = omega (arith, times-append bytes (carried end client.events) [])
times-turned end client (t ∷ members) bytes =
    omega (
      arith,
      times-append bytes (carried end t.events) (all_carried end (map (λ (m : Recorded). m.events) members ++ client.events ∷ [])),
      times-append bytes (carried end t.events) (flat_map (λ (m : Recorded). carried end m.events) members),
      times-turned end client members bytes,
    )

pub came-from : (client : Recorded) (members : List Recorded) (rows : List Row) (inboxes : List (List (List (List ℕ)))) (index : ℕ) (t : Recorded)
    → AreCarried (map (λ (m : Recorded). m.events) members ++ client.events ∷ []) rows → Each (LeadsTo index (end_of t.opening.member)) rows → HaveCome (row_puts rows) inboxes
    → ((x : List ℕ) → times x (arrivals t.events) ≤ times x (poured (get_or inboxes index []))) → CameFrom (client ∷ members) t
came-from client members rows inboxes index t carry leads come most = λ bytes.
    let end = end_of t.opening.member in
    omega (
      arith,
      came-of (map (λ (m : Recorded). m.events) members ++ client.events ∷ []) rows inboxes index end t.events bytes carry leads come most,
      times-turned end client members bytes,
      times-append bytes (carried end client.events) (flat_map (λ (m : Recorded). carried end m.events) members),
    )

-- ---- where links lead

pub ends-length : (count : ℕ) → length (member_ends count) ≡ count
ends-length zero = refl
ends-length (suc count) = omega (arith, length-append (member_ends count) (Node (suc count) ∷ []), ends-length count)

only-there : {A : Type 0} (here index : ℕ) (x : A) → here ≡ index → only here x index ≡ x ∷ []
only-there here index x same = ap (λ (i : ℕ). only here x i) (sym same) ∙ only-here here x

only-else : {A : Type 0} (here index : ℕ) (x : A) → (here ≡ index → ⊥) → only here x index ≡ []
only-else zero zero x else = absurd (else refl)
only-else zero (suc index) x else = refl
only-else (suc here) zero x else = refl
only-else (suc here) (suc index) x else = only-else here index x (λ same. else (ap suc same))

-- none stands behind the members
at-none : (count index : ℕ) → count ≤ index → at index (member_ends count) ≡ []
at-none zero index few = refl
at-none (suc count) index few =
    at-push (member_ends count) (Node (suc count)) index
    ∙ ap (λ (ts : List Target). ts ++ only (length (member_ends count)) (Node (suc count)) index) (at-none count index (omega (arith, few)))
    ∙ only-else (length (member_ends count)) index (Node (suc count)) (λ (same : length (member_ends count) ≡ index). omega (arith, same, few, ends-length count))

one-up : (a b : ℕ) → (a < b) ⊎ (b ≤ a) → (suc a < suc b) ⊎ (suc b ≤ suc a)
one-up a b (inl less) = inl (omega (arith, less))
one-up a b (inr more) = inr (omega (arith, more))

below-or : (a b : ℕ) → (a < b) ⊎ (b ≤ a)
below-or a zero = inr (omega arith)
below-or zero (suc b) = inl (omega arith)
below-or (suc a) (suc b) = one-up a b (below-or a b)

-- a row of one more, by whether the index is of one before it
member-more : (count index : ℕ) → index < suc count → (index < count → at index (member_ends count) ≡ Node (suc index) ∷ []) → (index < count) ⊎ (count ≤ index)
    → at index (member_ends count) ++ only (length (member_ends count)) (Node (suc count)) index ≡ Node (suc index) ∷ []
member-more count index within before (inl less) =
    ap (λ (ts : List Target). ts ++ only (length (member_ends count)) (Node (suc count)) index) (before less)
    ∙ ap (λ (ts : List Target). Node (suc index) ∷ ts) (only-else (length (member_ends count)) index (Node (suc count)) (λ (same : length (member_ends count) ≡ index). omega (arith, same, less, ends-length count)))
member-more count index within before (inr more) =
    let same : count ≡ index = omega (arith, more, within) in
    ap (λ (ts : List Target). ts ++ only (length (member_ends count)) (Node (suc count)) index) (at-none count index more)
    ∙ only-there (length (member_ends count)) index (Node (suc count)) (omega (arith, same, ends-length count))
    ∙ ap (λ (i : ℕ). Node (suc i) ∷ []) same

at-member : (count index : ℕ) → index < count → at index (member_ends count) ≡ Node (suc index) ∷ []
at-member zero index within = absurd (omega (arith, within))
at-member (suc count) index within = at-push (member_ends count) (Node (suc count)) index ∙ member-more count index within (at-member count index) (below-or index count)

-- at the place of a party all rows lead to it, but that the client's does not lead to itself
pub leads-to : (count number : ℕ) → number ≤ count → (at (place_of count number) (all_ends count) ≡ end_of number ∷ []) × ((at (place_of count number) (member_ends count) ≡ end_of number ∷ []) ⊎ (at (place_of count number) (member_ends count) ≡ []))
leads-to count zero few = (
  at-push (member_ends count) (Client 1) count
      ∙ ap (λ (ts : List Target). ts ++ only (length (member_ends count)) (Client 1) count) (at-none count count (omega arith))
      ∙ only-there (length (member_ends count)) count (Client 1) (ends-length count),
  inr (at-none count count (omega arith)),
)
leads-to count (suc before) few = (
  at-push (member_ends count) (Client 1) before
      ∙ ap (λ (ts : List Target). ts ++ only (length (member_ends count)) (Client 1) before) (at-member count before (omega (arith, few)))
      ∙ ap (λ (ts : List Target). Node (suc before) ∷ ts) (only-else (length (member_ends count)) before (Client 1) (λ (same : length (member_ends count) ≡ before). omega (arith, same, few, ends-length count))),
  inl (at-member count before (omega (arith, few))),
)

behind : (index : ℕ) (end : Target) (row : Row) (targets : List Target) → ends row.ports.items ≡ targets → (at index targets ≡ end ∷ []) ⊎ (at index targets ≡ []) → LeadsTo index end row
behind index end row targets is (inl one) = inl (ap (λ (ts : List Target). at index ts) is ∙ one)
behind index end row targets is (inr none) = inr (ap (λ (ts : List Target). at index ts) is ∙ none)

none-lead : (index : ℕ) (end : Target) (rows : List Row) → row_ends rows ≡ [] → Each (LeadsTo index end) rows
none-lead index end [] is = tt
none-lead index end (row ∷ rows) is = absurd (omega (arith, ap length is))

all-lead : (k count number : ℕ) (rows : List Row) → number ≤ count → row_ends rows ≡ replicate k (all_ends count) ++ member_ends count ∷ [] → Each (LeadsTo (place_of count number) (end_of number)) rows
all-lead zero count number [] few is = absurd (omega (arith, ap length is))
all-lead zero count number (row ∷ rows) few is = (
  behind (place_of count number) (end_of number) row (member_ends count) (ap (λ (ts : List (List Target)). get_or ts 0 []) is) (leads-to count number few).1,
  none-lead (place_of count number) (end_of number) rows (ap (λ (ts : List (List Target)). drop 1 ts) is),
)
all-lead (suc k) count number [] few is = absurd (omega (arith, ap length is))
all-lead (suc k) count number (row ∷ rows) few is = (
  behind (place_of count number) (end_of number) row (all_ends count) (ap (λ (ts : List (List Target)). get_or ts 0 []) is) (inl (leads-to count number few).0),
  all-lead k count number rows few (ap (λ (ts : List (List Target)). drop 1 ts) is),
)

-- the links of a group lead to its parties
pub rows-lead : (count number : ℕ) (rows : List Row) → number ≤ count → row_ends rows ≡ receivers count → Each (LeadsTo (place_of count number) (end_of number)) rows
rows-lead count number rows few is = all-lead count count number rows few is
