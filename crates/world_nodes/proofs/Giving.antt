-- What is given to one member.
use Rattle.std.proofs.Common.{◌≡◌, ℕ, List, Option, Some, None, refl, subst, sym, ap, ◌∙◌}
use Rattle.std.specs.Prelude.{slice_get, Result, OnOk}
use Rattle.smart_statements.specs.declared.entry.NodeEvent.{NodeEvent}
use Rattle.smart_statements.specs.declared.entry.NodeEvent.TheVariants.{Arrive}
use Rattle.world_rules.specs.Worlds.{Course, Host, World, node_takes, settle, where_listed, at_listed, at_index, host_index, gives, give_one}

listed : {S : Type 0} (course : Course S) (members bytes : List ℕ) (i : ℕ) (w : World S) (found : Option (Host S))
    → where_listed members (λ j v. settle course j (node_takes course j (Arrive bytes) v)) i w found ≡ where_listed members (gives course bytes) i w found
unfolding gives
listed course members bytes i w None = refl
listed course members bytes i w (Some h) = refl

one : {S : Type 0} (course : Course S) (members bytes : List ℕ) (w : World S) (found : Option ℕ)
    → at_index (at_listed members (λ j v. settle course j (node_takes course j (Arrive bytes) v))) w found ≡ at_index (at_listed members (gives course bytes)) w found
one course members bytes w None = refl
one course members bytes w (Some i) = listed course members bytes i w (slice_get w.hosts i)

-- the node of a listed member takes bytes where it takes their arrival
given_one : {S : Type 0} (course : Course S) (members bytes : List ℕ) (member : ℕ) (w : World S)
    → at_index (at_listed members (λ j v. settle course j (node_takes course j (Arrive bytes) v))) w (host_index w.hosts member) ≡ give_one course members bytes member w
given_one course members bytes member w = one course members bytes w (host_index w.hosts member)

pub given_arrival : {S : Type 0} (course : Course S) (members bytes : List ℕ) (event : NodeEvent) (member : ℕ) (w : World S) → event ≡ Arrive bytes
    → at_index (at_listed members (λ j v. settle course j (node_takes course j event v))) w (host_index w.hosts member) ≡ give_one course members bytes member w
given_arrival course members bytes event member w is =
    subst (λ (e : NodeEvent). at_index (at_listed members (λ j v. settle course j (node_takes course j e v))) w (host_index w.hosts member) ≡ give_one course members bytes member w) (sym is)
    (given_one course members bytes member w)

-- a member that has no node
pub found_none : {S : Type 0} (f : ℕ → World S → World S) (w : World S) (member : ℕ) (hosts : List (Host S)) → hosts ≡ w.hosts → None ≡ host_index hosts member → w ≡ at_index f w (host_index w.hosts member)
found_none {S = S} f w member hosts same none = ap (λ (at : Option ℕ). at_index f w at) (none ∙ ap (λ (hs : List (Host S)). host_index hs member) same)

-- one whose node is at an index
pub found_some : {S R E : Type 0} (result : Result R E) (f : ℕ → World S → World S) (w x : World S) (member i : ℕ) (hosts : List (Host S)) → hosts ≡ w.hosts → Some i ≡ host_index hosts member
    → OnOk result (x ≡ f i w) → OnOk result (x ≡ at_index f w (host_index w.hosts member))
found_some {S = S} result f w x member i hosts same found done =
    subst (λ (at : Option ℕ). OnOk result (x ≡ at_index f w at)) (found ∙ ap (λ (hs : List (Host S)). host_index hs member) same) done
