-- The ends of a group's links are apart, and each place has one end.
use Rattle.std.proofs.Common.{◌≡◌, ℕ, zero, suc, ◌≤◌, false, List, [], ◌∷◌, ◌++◌, refl, arith}
use Rattle.std.proofs.lemmas.Bool.{ne_eqb}
use Rattle.smart_base.specs.Lists.{Each}
use Rattle.node_rules.specs.declared.node.Target.{Target}
use Rattle.node_rules.specs.declared.node.Target.TheVariants.{Node, Client}
use Rattle.group_ends.specs.Carried.{same_end}
use Rattle.group_ends.specs.Ports.{AreApart}
use Rattle.group_wires.specs.Wires.{member_ends, all_ends}
use Rattle.group_wires.proofs.Columns.{each-push}

-- an end that is none of those before it
apart-push : (ends : List Target) (end : Target) → AreApart ends → Each (λ (other : Target). same_end other end ≡ false) ends → AreApart (ends ++ end ∷ [])
apart-push [] end apart none = (tt, tt)
apart-push (first ∷ ends) end apart none =
    (each-push (λ (other : Target). same_end first other ≡ false) ends end apart.0 none.0, apart-push ends end apart.1 none.1)

members-below : (count last : ℕ) → count ≤ last → Each (λ (other : Target). same_end other (Node (suc last)) ≡ false) (member_ends count)
members-below zero last few = tt
members-below (suc count) last few =
    each-push (λ (other : Target). same_end other (Node (suc last)) ≡ false) (member_ends count) (Node (suc count)) (members-below count last (omega (arith, few)))
    (ne_eqb (suc count) (suc last) (λ (same : suc count ≡ suc last). omega (arith, same, few)))

no-client : (count id : ℕ) → Each (λ (other : Target). same_end other (Client id) ≡ false) (member_ends count)
no-client zero id = tt
no-client (suc count) id = each-push (λ (other : Target). same_end other (Client id) ≡ false) (member_ends count) (Node (suc count)) (no-client count id) refl

pub members-apart : (count : ℕ) → AreApart (member_ends count)
members-apart zero = tt
members-apart (suc count) = apart-push (member_ends count) (Node (suc count)) (members-apart count) (members-below count count (omega arith))

pub all-apart : (count : ℕ) → AreApart (all_ends count)
all-apart count = apart-push (member_ends count) (Client 1) (members-apart count) (no-client count 1)
