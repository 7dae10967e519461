use Rattle.std.proofs.Common.{◌≡◌, ◌≤◌, ◌∙◌, ℕ, List, [], length, vec_len, get_or, sym, ap, subst, arith}
use Rattle.smart_base.specs.Lists.{Each}
use Rattle.group_wires.specs.declared.row.Row.{Row}
use Rattle.group_wires.specs.Wires.{column, all_links, all_takings, row_links, row_puts, AreFronts, AreLinked}
use Rattle.group_wires.proofs.Rejoined.{row-last, linked-less, come-less, none-left, each-last, nil-of}
use Rattle.group_wires.proofs.rejoining.rejoin_all.Goals as goal

pub rejoin_row-requires-clause-within : goal.rejoin_row-requires-clause-within
rejoin_row-requires-clause-within c =
    let l = c.loop-row in
    (each-last (λ (row : Row). length row.ports.items ≤ vec_len l.inboxes) c.pop.new.self.items c.in-Some.row
    (subst (Each (λ (row : Row). length row.ports.items ≤ vec_len l.inboxes)) c.in-Some.ensures.items l.invariant.within)).1

pub rejoin_row-requires-clause-last : goal.rejoin_row-requires-clause-last
rejoin_row-requires-clause-last c =
    let l = c.loop-row in
    row-last c.pop.new.self.items c.in-Some.row l.inboxes.items (subst (λ (rs : List Row). AreLinked (row_links rs) l.inboxes.items) c.in-Some.ensures.items l.invariant.linked)

pub loop-row-preserved : goal.loop-row-preserved
loop-row-preserved c =
    let l = c.loop-row in
    let now = l.inboxes.items in
    let new = c.rejoin_row.new.inboxes.items in
    let rows = c.pop.new.self.items in
    let row = c.in-Some.row in
    let items = c.in-Some.ensures.items in record {
      came = λ i rest. l.invariant.came i (subst (λ (rs : List Row). AreFronts (get_or (all_takings now) i []) (column i (row_puts rs))) (sym items) (come-less rows row now new i (c.rejoin_row.ensures.rejoined i) rest));
      linked = linked-less rows row now new (subst (λ (rs : List Row). AreLinked (row_links rs) now) items l.invariant.linked) c.rejoin_row.ensures.rejoined;
      within = subst (λ (n : ℕ). Each (λ (r : Row). length r.ports.items ≤ n) rows) (sym c.rejoin_row.ensures.many)
          (each-last (λ (r : Row). length r.ports.items ≤ vec_len l.inboxes) rows row (subst (Each (λ (r : Row). length r.ports.items ≤ vec_len l.inboxes)) items l.invariant.within)).0;
    }

pub returns : goal.returns
returns c =
    let l = c.loop-row in
    let now = l.inboxes.items in
    let none : l.rows.items ≡ [] = nil-of l.rows.items (omega (arith, l.rows.ok.0, c.in_default.ensures.cases.0)) in
    λ i.
    let links : get_or (all_links now) i [] ≡ [] = l.invariant.linked i ∙ ap (λ (rs : List Row). column i (row_links rs)) none in
    let left : get_or (all_takings now) i [] ≡ [] = none-left now i links in
    l.invariant.came i (subst (λ (rs : List Row). AreFronts (get_or (all_takings now) i []) (column i (row_puts rs))) (sym none) (subst (λ (xs : List (List (List ℕ))). AreFronts xs []) (sym left) tt))
