-- How the links of a row, and of a group, come together one after the other.
use Rattle.std.proofs.Common.{◌≡◌, ◌∙◌, ℕ, zero, suc, ◌<◌, List, [], ◌∷◌, ◌++◌, length, map, take, get_or, slice_set, take_at, refl, sym, ap, subst, append_assoc, append-nil, arith}
use Rattle.std.proofs.lemmas.List.{append_cancel_right, map_push, same_from_push}
use Rattle.atomic_table.specs.Seated.{TableId}
use Rattle.smart_base.specs.Lists.{Each}
use Rattle.group_links.specs.Link.{in_link, out_link, link_put, link_taken}
use Rattle.group_links.specs.declared.outward.LinkOut.{LinkOut}
use Rattle.group_ends.specs.Ports.{port_links, puts, inbox_links, takings}
use Rattle.group_ends.specs.declared.inbox.Inbox.{Inbox}
use Rattle.group_ends.specs.declared.port.Port.{Port}
use Rattle.group_wires.specs.declared.row.Row.{Row}
use Rattle.group_wires.specs.Wires.{at, column, only, all_links, all_takings, row_links, row_puts, AreFronts, AreLinked, EndWith, IsLast, IsRejoinedAt, IsRejoinedIn}
use Rattle.group_wires.proofs.Columns.{only-here, column-push, fronts-add, fronts-only, last-of, set-less}

-- Of a row, these links have not come together yet.
pub record IsPartly (index : ℕ) (row ports : List Port) (old now : List Inbox) : Type 0 where
  pub tail : List TableId
  pub links : get_or (all_links old) index [] ≡ get_or (all_links now) index [] ++ tail
  pub tail_is : at index (port_links row) ≡ at index (port_links ports) ++ tail
  pub taken : List (List (List ℕ))
  pub takings : get_or (all_takings old) index [] ≡ get_or (all_takings now) index [] ++ taken
  pub put : List (List (List ℕ))
  pub put_is : at index (puts row) ≡ at index (puts ports) ++ put
  pub fronts : AreFronts taken put

pub partly-first : (index : ℕ) (row : List Port) (old : List Inbox) → IsPartly index row row old old
partly-first index row old = record {
  tail = [];
  links = sym (append-nil (get_or (all_links old) index []));
  tail_is = sym (append-nil (at index (port_links row)));
  taken = [];
  takings = sym (append-nil (get_or (all_takings old) index []));
  put = [];
  put_is = sym (append-nil (at index (puts row)));
  fronts = tt;
}

pub links-push : (ps : List Port) (p : Port) (index : ℕ) → at index (port_links (ps ++ p ∷ [])) ≡ at index (port_links ps) ++ only (length ps) (in_link p.link) index
links-push [] p zero = refl
links-push [] p (suc index) = refl
links-push (q ∷ ps) p zero = refl
links-push (q ∷ ps) p (suc index) = links-push ps p index

puts-push : (ps : List Port) (p : Port) (index : ℕ) → at index (puts (ps ++ p ∷ [])) ≡ at index (puts ps) ++ only (length ps) (link_put p.link) index
puts-push [] p zero = refl
puts-push [] p (suc index) = refl
puts-push (q ∷ ps) p zero = refl
puts-push (q ∷ ps) p (suc index) = puts-push ps p index

pub links-end : (ps : List Port) → at (length ps) (port_links ps) ≡ []
links-end [] = refl
links-end (p ∷ ps) = links-end ps

-- the next link of a row is the last one of its inbox
pub next-last : (row ps : List Port) (p : Port) (old now : List Inbox) → EndWith row old → IsPartly (length ps) row (ps ++ p ∷ []) old now → IsLast (length ps) (in_link p.link) now
next-last row ps p old now end part =
    let here = length ps in
    let e = end here in
    let at-here : at here (port_links (ps ++ p ∷ [])) ≡ in_link p.link ∷ [] =
    links-push ps p here ∙ ap (λ (xs : List TableId). xs ++ only here (in_link p.link) here) (links-end ps) ∙ only-here here (in_link p.link) in
    let same : get_or (all_links now) here [] ++ part.tail ≡ e.0 ++ (in_link p.link ∷ part.tail) =
    sym part.links ∙ e.1 ∙ ap (λ (xs : List TableId). e.0 ++ xs) (part.tail_is ∙ ap (λ (xs : List TableId). xs ++ part.tail) at-here) in
    record { rest = e.0; links = last-of e.0 (get_or (all_links now) here []) part.tail (in_link p.link) same }

-- and once it has come together, it is one of those that have
pub partly-more : (index : ℕ) (row ps : List Port) (p : Port) (old now new : List Inbox) → IsPartly index row (ps ++ p ∷ []) old now → IsRejoinedAt (length ps) p now new → IsPartly index row ps old new
partly-more index row ps p old now new part one =
    let here = length ps in
    record {
      tail = only here (in_link p.link) index ++ part.tail;
      links = part.links ∙ ap (λ (xs : List TableId). xs ++ part.tail) (one.links index) ∙ append_assoc (get_or (all_links new) index []) (only here (in_link p.link) index) part.tail;
      tail_is = part.tail_is ∙ ap (λ (xs : List TableId). xs ++ part.tail) (links-push ps p index) ∙ append_assoc (at index (port_links ps)) (only here (in_link p.link) index) part.tail;
      taken = only here one.taken index ++ part.taken;
      takings = part.takings ∙ ap (λ (xs : List (List (List ℕ))). xs ++ part.taken) (one.takings index) ∙ append_assoc (get_or (all_takings new) index []) (only here one.taken index) part.taken;
      put = only here (link_put p.link) index ++ part.put;
      put_is = part.put_is ∙ ap (λ (xs : List (List (List ℕ))). xs ++ part.put) (puts-push ps p index) ∙ append_assoc (at index (puts ps)) (only here (link_put p.link) index) part.put;
      fronts = fronts-add (only here one.taken index) part.taken (only here (link_put p.link) index) part.put (fronts-only here one.taken (link_put p.link) index one.front) part.fronts;
    }

-- all of a row have come together
pub partly-all : (index : ℕ) (row : List Port) (old new : List Inbox) → IsPartly index row [] old new → IsRejoinedIn index row old new
partly-all index row old new part = record {
  links = part.links ∙ ap (λ (xs : List TableId). get_or (all_links new) index [] ++ xs) (sym part.tail_is);
  taken = part.taken;
  takings = part.takings;
  fronts = subst (AreFronts part.taken) (sym part.put_is) part.fronts;
}

-- ---- one row after the other

row-links-push : (rows : List Row) (row : Row) (index : ℕ) → column index (row_links (rows ++ row ∷ [])) ≡ column index (row_links rows) ++ at index (port_links row.ports.items)
row-links-push rows row index =
    ap (column index) (map_push (λ (r : Row). port_links r.ports.items) rows row) ∙ column-push (row_links rows) (port_links row.ports.items) index

row-puts-push : (rows : List Row) (row : Row) (index : ℕ) → column index (row_puts (rows ++ row ∷ [])) ≡ column index (row_puts rows) ++ at index (puts row.ports.items)
row-puts-push rows row index =
    ap (column index) (map_push (λ (r : Row). puts r.ports.items) rows row) ∙ column-push (row_puts rows) (puts row.ports.items) index

-- the links of a group end with those of its last row
pub row-last : (rows : List Row) (row : Row) (now : List Inbox) → AreLinked (row_links (rows ++ row ∷ [])) now → EndWith row.ports.items now
row-last rows row now linked = λ index. (column index (row_links rows), linked index ∙ row-links-push rows row index)

pub linked-less : (rows : List Row) (row : Row) (now new : List Inbox) → AreLinked (row_links (rows ++ row ∷ [])) now → ((index : ℕ) → IsRejoinedIn index row.ports.items now new) → AreLinked (row_links rows) new
linked-less rows row now new linked all = λ index.
    append_cancel_right (get_or (all_links new) index []) (column index (row_links rows)) (at index (port_links row.ports.items))
    (sym (all index).links ∙ linked index ∙ row-links-push rows row index)

pub come-less : (rows : List Row) (row : Row) (now new : List Inbox) (index : ℕ) → IsRejoinedIn index row.ports.items now new → AreFronts (get_or (all_takings new) index []) (column index (row_puts rows))
    → AreFronts (get_or (all_takings now) index []) (column index (row_puts (rows ++ row ∷ [])))
come-less rows row now new index one rest =
    subst (AreFronts (get_or (all_takings now) index [])) (sym (row-puts-push rows row index))
    (subst (λ (xs : List (List (List ℕ))). AreFronts xs (column index (row_puts rows) ++ at index (puts row.ports.items))) (sym one.takings)
    (fronts-add (get_or (all_takings new) index []) one.taken (column index (row_puts rows)) (at index (puts row.ports.items)) rest one.fronts))

none-taken : (links : List (LinkOut (List ℕ))) → inbox_links links ≡ [] → takings links ≡ []
none-taken [] none = refl
none-taken (l ∷ links) none = absurd (omega (arith, ap length none))

-- no links are left in an inbox from which nothing is linked, and nothing was taken from such
pub none-left : (inboxes : List Inbox) (index : ℕ) → get_or (all_links inboxes) index [] ≡ [] → get_or (all_takings inboxes) index [] ≡ []
none-left [] index none = refl
none-left (x ∷ inboxes) zero none = none-taken x.links.items none
none-left (x ∷ inboxes) (suc index) none = none-left inboxes index none

pub each-last : {A : Type 0} (P : A → Type 0) (xs : List A) (x : A) → Each P (xs ++ x ∷ []) → Each P xs × P x
each-last P [] x all = (tt, all.0)
each-last P (y ∷ xs) x all =
    let rest = each-last P xs x all.1 in
    ((all.0, rest.0), rest.1)

-- ---- the last link of one inbox

at-inbox : {A : Type 0} (f : Inbox → List A) (all : List Inbox) (here : ℕ) (o : Inbox) → here < length all → o ≡ get_or all here o → get_or (map f all) here [] ≡ f o
at-inbox f [] here o within is = absurd (omega (arith, within))
at-inbox f (x ∷ all) zero o within is = ap f (sym is)
at-inbox f (x ∷ all) (suc here) o within is = at-inbox f all here o (omega (arith, within)) is

abbrev links-of : Inbox → List TableId
links-of inbox = inbox_links inbox.links.items

abbrev takings-of : Inbox → List (List (List ℕ))
takings-of inbox = takings inbox.links.items

-- the link that was taken is the one that was last
same-link : (all : List Inbox) (here : ℕ) (o : Inbox) (links : List (LinkOut (List ℕ))) (outward : LinkOut (List ℕ)) (link : TableId) → here < length all → o ≡ get_or all here o → IsLast here link all
    → o.links.items ≡ links ++ outward ∷ [] → link ≡ out_link outward
same-link all here o links outward link within is last less =
    let whole : last.rest ++ link ∷ [] ≡ inbox_links links ++ out_link outward ∷ [] =
    sym last.links ∙ at-inbox links-of all here o within is ∙ ap inbox_links less ∙ map_push out_link links outward in
    (same_from_push last.rest (inbox_links links) link (out_link outward) whole).1

pub rejoined-at : (all : List Inbox) (here : ℕ) (o n : Inbox) (outward : LinkOut (List ℕ)) (port : Port) (rest : List (List ℕ)) → here < length all → o ≡ get_or all here o → IsLast here (in_link port.link) all
    → o.links.items ≡ n.links.items ++ outward ∷ [] → link_put port.link ≡ link_taken outward ++ rest → IsRejoinedAt here port all (slice_set all here n)
rejoined-at all here o n outward port rest within is last less order =
    let link : in_link port.link ≡ out_link outward = same-link all here o n.links.items outward (in_link port.link) within is last less in
    let links : links-of o ≡ links-of n ++ in_link port.link ∷ [] =
    ap inbox_links less ∙ map_push out_link n.links.items outward ∙ ap (λ (t : TableId). links-of n ++ t ∷ []) (sym link) in
    let taken : takings-of o ≡ takings-of n ++ link_taken outward ∷ [] = ap takings less ∙ map_push link_taken n.links.items outward in
    record {
      links = λ index. set-less links-of all here o n (in_link port.link) index within is links;
      taken = link_taken outward;
      takings = λ index. set-less takings-of all here o n (link_taken outward) index within is taken;
      front = ap (take (length (link_taken outward))) order ∙ take_at (link_taken outward) rest (length (link_taken outward)) refl;
    }

pub nil-of : {A : Type 0} (xs : List A) → length xs ≡ 0 → xs ≡ []
nil-of [] none = refl
nil-of (x ∷ xs) none = absurd (omega (arith, none))
