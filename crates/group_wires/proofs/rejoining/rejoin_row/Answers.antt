use Rattle.std.proofs.Common.{◌≡◌, ◌∙◌, List, [], ◌∷◌, length, length-append, refl, sym, ap, subst, arith}
use Rattle.group_links.specs.Link.{in_link}
use Rattle.group_ends.specs.declared.port.Port.{Port}
use Rattle.group_wires.specs.Wires.{IsLast, IsRejoinedAt}
use Rattle.group_wires.proofs.Rejoined.{IsPartly, partly-first, partly-more, partly-all, next-last, nil-of}
use Rattle.group_wires.proofs.rejoining.rejoin_row.Goals as goal

pub loop-port-init : goal.loop-port-init
loop-port-init c = record {
  partly = λ i. partly-first i c.args.row.ports.items c.args.inboxes.now.items;
  many = refl;
  few = omega arith;
}

pub rejoin_at-requires-clause-last : goal.rejoin_at-requires-clause-last
rejoin_at-requires-clause-last c =
    let row = c.args.row.ports.items in
    let old = c.args.inboxes.now.items in
    let l = c.loop-port in
    let now = l.inboxes.items in
    let ps = c.pop.new.self.items in
    let p = c.in-Some.port in
    let here : length ps ≡ c.len-index.result = omega (arith, c.pop.new.self.ok.0, c.len-index.ensures) in
    let part = subst (λ (xs : List Port). IsPartly (length ps) row xs old now) c.in-Some.ensures.items (l.invariant.partly (length ps)) in
    subst (λ k. IsLast k (in_link p.link) now) here (next-last row ps p old now c.requires.last part)

pub loop-port-preserved : goal.loop-port-preserved
loop-port-preserved c =
    let row = c.args.row.ports.items in
    let old = c.args.inboxes.now.items in
    let l = c.loop-port in
    let now = l.inboxes.items in
    let new = c.rejoin_at.new.inboxes.items in
    let ps = c.pop.new.self.items in
    let p = c.in-Some.port in
    let here : length ps ≡ c.len-index.result = omega (arith, c.pop.new.self.ok.0, c.len-index.ensures) in
    let one = subst (λ k. IsRejoinedAt k p now new) (sym here) c.rejoin_at.ensures.rejoined in record {
      partly = λ i. partly-more i row ps p old now new (subst (λ (xs : List Port). IsPartly i row xs old now) c.in-Some.ensures.items (l.invariant.partly i)) one;
      many = c.rejoin_at.ensures.many ∙ l.invariant.many;
      few = omega (arith, l.invariant.few, ap length c.in-Some.ensures.items, length-append ps (p ∷ []));
    }

pub returns-clause-rejoined : goal.returns-clause-rejoined
returns-clause-rejoined c =
    let row = c.args.row.ports.items in
    let old = c.args.inboxes.now.items in
    let l = c.loop-port in
    let none : l.ports.items ≡ [] = nil-of l.ports.items (omega (arith, l.ports.ok.0, c.in_default.ensures.cases.0)) in
    λ i. partly-all i row old l.inboxes.items (subst (λ (xs : List Port). IsPartly i row xs old l.inboxes.items) none (l.invariant.partly i))
