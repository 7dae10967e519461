-- What the promise says of a play in which no line adds a node.
use Rattle.std.proofs.Common.{◌≡◌, ⊎_elim, ℕ, ◌<◌, ◌≤◌, ◌==◌, ◌&&◌, ◌∙◌, Bool, true, false, cond, List, [], ◌∷◌, length, take, filter, ap, sym, arith}
use Rattle.std.specs.List.{list_any}
use Rattle.smart_base.specs.Views.{View, is_member}
use Rattle.smart_service.specs.Services.{Meaning}
use Rattle.replica_rules.specs.Replicas.{view_at}
use Rattle.store_laws.specs.Restored.{Images}
use Rattle.agreement_laws.proofs.Lists.{among_number, each_from}
use Rattle.world_rules.specs.Worlds.{Host, World}
use Rattle.world_rules.specs.declared.line.Header.{Header}
use Rattle.world_rules.specs.declared.line.Line.{Line}
use Rattle.world_laws.specs.Promises.{AddsNone, AreAdded, has_place, IsKept, MayBeLeft, OneListThroughout, restores_place, world_at}
use Rattle.world_laws.proofs.Names.{filter_all, has_position, names}

-- where each name is of a member of the view, the names are the members
all_members : (view : View) (ids : List ℕ) → filter (is_member view) ids ≡ view.members → ((id : ℕ) → list_any (λ k. k == id) ids ≡ true → is_member view id ≡ true) → ids ≡ view.members
all_members view ids members all =
    sym (filter_all (is_member view) ids (each_from (λ (id : ℕ). is_member view id ≡ true) ids (λ id there. all id (among_number ids id there)))) ∙ members

-- where no line has added a node, each node is of a member of the first view
member_there : {S : Type 0} (played : List Line) (w : World S) (id : ℕ) → AddsNone played → AreAdded played w → list_any (λ k. k == id) (names w.hosts) ≡ true → is_member w.view id ≡ true
member_there {S = S} played w id none added named =
    ⊎_elim {C = is_member w.view id ≡ true} (λ is. is) (λ line. absurd (none id line)) (added.only id (has_position (λ (h : Host S). h.node.id) w.hosts id named))

-- then the nodes are those of the header's members, in order
pub nodes_alone : {S : Type 0} (m : Meaning S) (g : Header) (ls : List Line) (k : ℕ) → OneListThroughout m g ls → AddsNone (take k ls) → names (world_at m g ls k).hosts ≡ g.view.members
nodes_alone {S = S} m g ls k promise none =
    let w : World S = world_at m g ls k in
    all_members w.view (names w.hosts) (promise.one_list k).members (λ id named. member_there (take k ls) w id none (promise.nodes k) named) ∙ ap (λ (v : View). v.members) (promise.viewed k)

-- at least as many pass one test as pass another, too
passed_both : {A : Type 0} (p q : A → Bool) (xs : List A) → length (filter (λ x. p x && q x) xs) ≤ length (filter q xs)
passed_both p q [] = omega arith
passed_both {A = A} p q (x ∷ xs) = by (p x) (q x) (filter (λ y. p y && q y) xs) (filter q xs) (passed_both p q xs)
  where
    by : (a b : Bool) (ps qs : List A) → length ps ≤ length qs → length (cond (a && b) (x ∷ ps) ps) ≤ length (cond b (x ∷ qs) qs)
    by true true ps qs le = omega (arith, le)
    by true false ps qs le = le
    by false true ps qs le = omega (arith, le)
    by false false ps qs le = le

-- as many correct nodes restore a kept place as members of the view in force there must
pub kept_by_nodes : {S : Type 0} (m : Meaning S) (w : World S) (place : ℕ) (left : ℕ → Images) → IsKept m w place → MayBeLeft w left
    → (view_at w.view w.chosen place).f < length (filter (restores_place m w left place) w.hosts)
kept_by_nodes {S = S} m w place left kept may =
    let view : View = view_at w.view w.chosen place in
    at_least view.f (length (filter (has_place m w view left place) w.hosts)) (length (filter (restores_place m w left place) w.hosts)) (kept.enough left may)
    (passed_both (λ (h : Host S). is_member view h.node.id) (restores_place m w left place) w.hosts)
  where
    at_least : (f some all : ℕ) → f < some → some ≤ all → f < all
    at_least f some all less le = omega (arith, less, le)
