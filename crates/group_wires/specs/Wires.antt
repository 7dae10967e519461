-- The links of a group: for each party the ends on which it sends, its row, and those that it polls, its inbox.
use Rattle.std.specs.Prelude.{◌≡◌, ℕ, zero, suc, ◌+◌, List, [], ◌∷◌, ◌++◌, length, map, replicate, get_or}
use Rattle.atomic_table.specs.Seated.{TableId}
use Rattle.queue_ends.specs.Rule.{IsFront}
use Rattle.smart_base.specs.Lists.{Each}
use Rattle.group_links.specs.Link.{link_put, link_taken, in_link, out_link}
use Rattle.group_links.specs.declared.outward.LinkOut.{LinkOut}
use Rattle.node_rules.specs.declared.node.Target.{Target}
use Rattle.node_rules.specs.declared.node.Target.TheVariants.{Node, Client}
use Rattle.group_ends.specs.Ports.{ends, port_links, puts, inbox_links, takings}
use Rattle.group_ends.specs.declared.inbox.Inbox.{Inbox}
use Rattle.group_ends.specs.declared.port.Port.{Port}
use Rattle.group_wires.specs.declared.dealing.Wires.{Wires}
use Rattle.group_wires.specs.declared.row.Row.{Row}

-- ---- the parties, in their order

-- the members with the numbers from 1 on, so many
abbrev pub member_ends : ℕ → List Target
member_ends zero = []
member_ends (suc count) = member_ends count ++ Node (suc count) ∷ []

-- these members and the client
abbrev pub all_ends : ℕ → List Target
all_ends count = member_ends count ++ Client 1 ∷ []

-- the place of a party, which is 0 for the client and the number of a member, among so many members
abbrev pub place_of : ℕ → ℕ → ℕ
place_of count zero = count
place_of count (suc before) = before

-- whom each party sends to: a member to all, and the client to all members
abbrev pub receivers : ℕ → List (List Target)
receivers count = replicate count (all_ends count) ++ member_ends count ∷ []

-- ---- columns

-- what stands at an index, if something does
abbrev pub at : {A : Type 0} → ℕ → List A → List A
at index [] = []
at zero (x ∷ xs) = x ∷ []
at (suc index) (x ∷ xs) = at index xs

-- what stands at an index of each row that is so long
abbrev pub column : {A : Type 0} → ℕ → List (List A) → List A
column index [] = []
column index (row ∷ rows) = at index row ++ column index rows

-- one value, at this index alone
abbrev pub only : {A : Type 0} → ℕ → A → ℕ → List A
only zero x zero = x ∷ []
only zero x (suc index) = []
only (suc here) x zero = []
only (suc here) x (suc index) = only here x index

-- ---- what a group's ends are

abbrev pub row_ends : List Row → List (List Target)
row_ends rows = map (λ row. ends row.ports.items) rows

abbrev pub row_links : List Row → List (List TableId)
row_links rows = map (λ row. port_links row.ports.items) rows

abbrev pub row_puts : List Row → List (List (List (List ℕ)))
row_puts rows = map (λ row. puts row.ports.items) rows

abbrev pub all_links : List Inbox → List (List TableId)
all_links inboxes = map (λ inbox. inbox_links inbox.links.items) inboxes

abbrev pub all_takings : List Inbox → List (List (List (List ℕ)))
all_takings inboxes = map (λ inbox. takings inbox.links.items) inboxes

-- nothing was put on a link, and nothing was taken from one
abbrev pub IsUnused : Port → Type 0
IsUnused p = link_put p.link ≡ []

abbrev pub IsUntaken : List (List ℕ) → Type 0
IsUntaken taken = taken ≡ []

abbrev pub AreUntaken : List (List (List (List ℕ))) → Type 0
AreUntaken all = Each (λ (takings : List (List (List ℕ))). Each IsUntaken takings) all

-- The inbox at an index polls the links at this index of all rows, in their order.
abbrev pub AreLinked : List (List TableId) → List Inbox → Type 0
AreLinked rows inboxes = (index : ℕ) → get_or (all_links inboxes) index [] ≡ column index rows

-- ---- how links are dealt out

-- The far end of a link was put behind those of the inbox at an index.
pub record IsAddedAt (here : ℕ) (outward : LinkOut (List ℕ)) (old new : List Inbox) : Type 0 where
  pub links : (index : ℕ) → get_or (all_links new) index [] ≡ get_or (all_links old) index [] ++ only here (out_link outward) index
  pub untaken : link_taken outward ≡ [] → AreUntaken (all_takings old) → AreUntaken (all_takings new)

-- A link to an end was made, behind those of a row.
pub record IsLinked (end : Target) (ports ports' : List Port) (old new : List Inbox) : Type 0 where
  pub port : Port
  pub ports_are : ports' ≡ ports ++ port ∷ []
  pub end_is : port.end ≡ end
  pub unused : IsUnused port
  pub links : (index : ℕ) → get_or (all_links new) index [] ≡ get_or (all_links old) index [] ++ only (length ports) (in_link port.link) index
  pub untaken : AreUntaken (all_takings old) → AreUntaken (all_takings new)

-- A row of links to these ends was made.
pub record IsRowAdded (receivers : List Target) (ports : List Port) (old new : List Inbox) : Type 0 where
  pub ends_are : ends ports ≡ receivers
  pub unused : Each IsUnused ports
  pub links : (index : ℕ) → get_or (all_links new) index [] ≡ get_or (all_links old) index [] ++ at index (port_links ports)
  pub untaken : AreUntaken (all_takings old) → AreUntaken (all_takings new)

-- Rows of links were made, and these inboxes poll them.
pub record AreDealt (rows : List Row) (inboxes : List Inbox) : Type 0 where
  pub linked : AreLinked (row_links rows) inboxes
  pub unused : Each (λ (row : Row). Each IsUnused row.ports.items) rows
  pub untaken : AreUntaken (all_takings inboxes)

-- The links of a group with so many members: each party sends to its receivers, and polls the links of all that send to it.
pub record AreFresh (members : ℕ) (w : Wires) : Type 0 where
  pub ends_are : row_ends w.rows.items ≡ receivers members
  pub many : length w.inboxes.items ≡ members + 1
  pub dealt : AreDealt w.rows.items w.inboxes.items

-- ---- how they come together again

-- what was taken from each of several links is a front of what was put on it
abbrev pub AreFronts : List (List (List ℕ)) → List (List (List ℕ)) → Type 0
AreFronts [] [] = Unit {0}
AreFronts [] (put ∷ others) = ⊥
AreFronts (taken ∷ takings) [] = ⊥
AreFronts (taken ∷ takings) (put ∷ others) = IsFront taken put × AreFronts takings others

-- What was taken from the links of each inbox is a front of what was put on them by the rows.
abbrev pub HaveCome : List (List (List (List ℕ))) → List (List (List (List ℕ))) → Type 0
HaveCome rows inboxes = (index : ℕ) → AreFronts (get_or inboxes index []) (column index rows)

-- The last link that the inbox at an index polls is this one.
pub record IsLast (index : ℕ) (link : TableId) (inboxes : List Inbox) : Type 0 where
  pub rest : List TableId
  pub links : get_or (all_links inboxes) index [] ≡ rest ++ link ∷ []

-- The last link of the inbox at an index has come together with its other end.
pub record IsRejoinedAt (here : ℕ) (port : Port) (old new : List Inbox) : Type 0 where
  pub links : (index : ℕ) → get_or (all_links old) index [] ≡ get_or (all_links new) index [] ++ only here (in_link port.link) index
  pub taken : List (List ℕ)
  pub takings : (index : ℕ) → get_or (all_takings old) index [] ≡ get_or (all_takings new) index [] ++ only here taken index
  pub front : IsFront taken (link_put port.link)

-- The links of each inbox end with the one of this row, if the row has one for it.
abbrev pub EndWith : List Port → List Inbox → Type 0
EndWith ports inboxes = (index : ℕ) → (rest : List TableId) × (get_or (all_links inboxes) index [] ≡ rest ++ at index (port_links ports))

-- The link of a row to the party at an index has come together, if there is one.
pub record IsRejoinedIn (index : ℕ) (ports : List Port) (old new : List Inbox) : Type 0 where
  pub links : get_or (all_links old) index [] ≡ get_or (all_links new) index [] ++ at index (port_links ports)
  pub taken : List (List (List ℕ))
  pub takings : get_or (all_takings old) index [] ≡ get_or (all_takings new) index [] ++ taken
  pub fronts : AreFronts taken (at index (puts ports))

-- The links of a row have come together.
abbrev pub IsRowRejoined : List Port → List Inbox → List Inbox → Type 0
IsRowRejoined ports old new = (index : ℕ) → IsRejoinedIn index ports old new
