-- How links are dealt out, one after the other.
use Rattle.std.proofs.Common.{◌≡◌, ◌∙◌, ℕ, zero, suc, ◌+◌, ◌<◌, List, [], ◌∷◌, ◌++◌, length, length-append, take, replicate, get_or, slice_set, refl, sym, ap, subst, append_assoc, arith}
use Rattle.std.proofs.lemmas.List.{map_push, replicate_more, take_more}
use Rattle.atomic_table.specs.Seated.{TableId}
use Rattle.smart_base.specs.Lists.{Each}
use Rattle.group_links.specs.Link.{in_link, out_link, link_put, link_taken}
use Rattle.group_links.specs.declared.outward.LinkOut.{LinkOut}
use Rattle.node_rules.specs.declared.node.Target.{Target}
use Rattle.node_rules.specs.declared.node.Target.TheVariants.{Node, Client}
use Rattle.group_ends.specs.Ports.{ends, port_links, inbox_links, takings}
use Rattle.group_ends.specs.declared.inbox.Inbox.{Inbox}
use Rattle.group_ends.specs.declared.port.Port.{Port}
use Rattle.group_wires.specs.declared.row.Row.{Row}
use Rattle.group_wires.specs.Wires.{at, column, only, all_ends, all_links, all_takings, member_ends, row_ends, row_links, AreDealt, AreUntaken, IsAddedAt, IsLinked, IsRowAdded, IsUntaken, IsUnused}
use Rattle.group_wires.proofs.Columns.{set-more, set-each, each-push, column-push}
use Rattle.group_wires.proofs.Rejoined.{links-push}

abbrev links-of : Inbox → List TableId
links-of inbox = inbox_links inbox.links.items

abbrev takings-of : Inbox → List (List (List ℕ))
takings-of inbox = takings inbox.links.items

pub added-at : (all : List Inbox) (here : ℕ) (o n : Inbox) (outward : LinkOut (List ℕ)) → here < length all → o ≡ get_or all here o → n.links.items ≡ o.links.items ++ outward ∷ [] → IsAddedAt here outward all (slice_set all here n)
added-at all here o n outward within is more =
    let links : links-of n ≡ links-of o ++ out_link outward ∷ [] = ap inbox_links more ∙ map_push out_link o.links.items outward in
    let taken : takings-of n ≡ takings-of o ++ link_taken outward ∷ [] = ap takings more ∙ map_push link_taken o.links.items outward in
    record {
      links = λ index. set-more links-of all here o n (out_link outward) index within is links;
      untaken = λ none each. set-each takings-of IsUntaken all here o n (link_taken outward) within is taken none each;
    }

-- a link was made
pub linked-by : (end : Target) (ports ports' : List Port) (old new : List Inbox) (port : Port) (outward : LinkOut (List ℕ)) (here : ℕ) → here ≡ length ports → ports' ≡ ports ++ port ∷ [] → port.end ≡ end → link_put port.link ≡ []
    → in_link port.link ≡ out_link outward → link_taken outward ≡ [] → IsAddedAt here outward old new → IsLinked end ports ports' old new
linked-by end ports ports' old new port outward here place ports-are end-is unused link untaken added = record {
  port = port;
  ports_are = ports-are;
  end_is = end-is;
  unused = unused;
  links = λ index. added.links index ∙ ap (λ (t : TableId). get_or (all_links old) index [] ++ only here t index) (sym link) ∙ ap (λ (k : ℕ). get_or (all_links old) index [] ++ only k (in_link port.link) index) place;
  untaken = added.untaken untaken;
}

-- and a row grew by it
pub links-more : (index : ℕ) (ports : List Port) (port : Port) (old now new : List Inbox) → get_or (all_links now) index [] ≡ get_or (all_links old) index [] ++ at index (port_links ports)
    → get_or (all_links new) index [] ≡ get_or (all_links now) index [] ++ only (length ports) (in_link port.link) index
    → get_or (all_links new) index [] ≡ get_or (all_links old) index [] ++ at index (port_links (ports ++ port ∷ []))
links-more index ports port old now new before one =
    one ∙ ap (λ (xs : List TableId). xs ++ only (length ports) (in_link port.link) index) before
    ∙ append_assoc (get_or (all_links old) index []) (at index (port_links ports)) (only (length ports) (in_link port.link) index)
    ∙ ap (λ (xs : List TableId). get_or (all_links old) index [] ++ xs) (sym (links-push ports port index))

pub ends-more : (ports : List Port) (port : Port) (rs : List Target) (index : ℕ) (end : Target) → ends ports ≡ take index rs → port.end ≡ end → end ≡ get_or rs index end → index < length rs → ends (ports ++ port ∷ []) ≡ take (index + 1) rs
ends-more ports port rs index end before is at-is within =
    map_push (λ (p : Port). p.end) ports port ∙ ap (λ (ts : List Target). ts ++ port.end ∷ []) before ∙ ap (λ (t : Target). take index rs ++ t ∷ []) is ∙ ap (λ (t : Target). take index rs ++ t ∷ []) at-is ∙ sym (take_more rs index end within)

-- ---- inboxes without links

bare-links : (inboxes : List Inbox) (n : Inbox) (index : ℕ) → n.links.items ≡ [] → get_or (all_links inboxes) index [] ≡ [] → get_or (all_links (inboxes ++ n ∷ [])) index [] ≡ []
bare-links [] n zero none before = ap inbox_links none
bare-links [] n (suc index) none before = refl
bare-links (x ∷ inboxes) n zero none before = before
bare-links (x ∷ inboxes) n (suc index) none before = bare-links inboxes n index none before

pub bare-more : (inboxes : List Inbox) (n : Inbox) → n.links.items ≡ [] → AreDealt [] inboxes → AreDealt [] (inboxes ++ n ∷ [])
bare-more inboxes n none bare = record {
  linked = λ index. bare-links inboxes n index none (bare.linked index);
  unused = tt;
  untaken = subst (λ (xs : List (List (List (List ℕ)))). AreUntaken xs) (sym (map_push takings-of inboxes n))
      (each-push (λ (ts : List (List (List ℕ))). Each IsUntaken ts) (all_takings inboxes) (takings-of n) bare.untaken (subst (λ (ls : List (LinkOut (List ℕ))). Each IsUntaken (takings ls)) (sym none) tt));
}

-- ---- rows

pub dealt-more : (rows : List Row) (row : Row) (rs : List Target) (now new : List Inbox) → AreDealt rows now → IsRowAdded rs row.ports.items now new → AreDealt (rows ++ row ∷ []) new
dealt-more rows row rs now new dealt added = record {
  linked = λ index. added.links index ∙ ap (λ (xs : List TableId). xs ++ at index (port_links row.ports.items)) (dealt.linked index)
      ∙ sym (ap (column index) (map_push (λ (r : Row). port_links r.ports.items) rows row) ∙ column-push (row_links rows) (port_links row.ports.items) index);
  unused = each-push (λ (r : Row). Each IsUnused r.ports.items) rows row dealt.unused added.unused;
  untaken = added.untaken dealt.untaken;
}

pub row-ends-more : (rows : List Row) (row : Row) (rs : List Target) (made : ℕ) → row_ends rows ≡ replicate made rs → ends row.ports.items ≡ rs → row_ends (rows ++ row ∷ []) ≡ replicate (made + 1) rs
row-ends-more rows row rs made before is =
    map_push (λ (r : Row). ends r.ports.items) rows row ∙ ap (λ (ts : List (List Target)). ts ++ ends row.ports.items ∷ []) before ∙ ap (λ (ts : List Target). replicate made rs ++ ts ∷ []) is ∙ replicate_more made rs

pub row-ends-last : (rows : List Row) (row : Row) (rs others : List Target) (made : ℕ) → row_ends rows ≡ replicate made rs → ends row.ports.items ≡ others → row_ends (rows ++ row ∷ []) ≡ replicate made rs ++ others ∷ []
row-ends-last rows row rs others made before is =
    map_push (λ (r : Row). ends r.ports.items) rows row ∙ ap (λ (ts : List (List Target)). ts ++ ends row.ports.items ∷ []) before ∙ ap (λ (ts : List Target). replicate made rs ++ ts ∷ []) is

-- ---- how many parties there are

pub members-many : (count : ℕ) → length (member_ends count) ≡ count
members-many zero = refl
members-many (suc count) = omega (arith, length-append (member_ends count) (Node (suc count) ∷ []), members-many count)

pub all-many : (count : ℕ) → length (all_ends count) ≡ count + 1
all-many count = omega (arith, length-append (member_ends count) (Client 1 ∷ []), members-many count)

-- ---- before the first

pub bare-none : (inboxes : List Inbox) → inboxes ≡ [] → AreDealt [] inboxes
bare-none inboxes none = subst (λ (xs : List Inbox). AreDealt [] xs) (sym none) (record { linked = λ index. refl; unused = tt; untaken = tt })
