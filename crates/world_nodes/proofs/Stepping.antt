-- A step of a node, by what each part of it says.
use Rattle.std.proofs.Common.{◌≡◌, ℕ, Bool, List, Some, refl, ap, sym, ◌∙◌}
use Rattle.std.specs.Prelude.{slice_get}
use Rattle.std.specs.List.{flat_map}
use Rattle.smart_service.specs.Services.{Meaning}
use Rattle.smart_statements.specs.declared.entry.NodeEvent.{NodeEvent}
use Rattle.node_rules.specs.Nodes.{view_of}
use Rattle.node_rules.specs.Kept.{core_step}
use Rattle.node_rules.specs.Steps.{leaving}
use Rattle.node_rules.specs.declared.node.Held.{Held}
use Rattle.world_rules.specs.Worlds.{core_course, Host, World, ending_few, stepped, sends_all, meets, snapshot_in, host_after}
use Rattle.world_hosts.specs.Hearing.{is_idle}
use Rattle.world_nodes.specs.Idling.{steps, stepped_in, is_idle_at}

-- one host stands at an index
pub same_host : {S : Type 0} (xs : List (Host S)) (i : ℕ) (h g : Host S) → slice_get xs i ≡ Some h → slice_get xs i ≡ Some g → h ≡ g
same_host xs i h g there too = put (sym there ∙ too)
  where
    put : Some h ≡ Some g → h ≡ g
    put same = cc

-- a step at an index, by what each part of it says
pub stepped_at : {S : Type 0} (m : Meaning S) (i : ℕ) (event : NodeEvent) (w x y w' : World S) (h : Host S) (id : ℕ) (marked : List (List ℕ)) (messages : List Held) → slice_get w.hosts i ≡ Some h → id ≡ h.node.id
    → x ≡ stepped_in (core_course m) i w h (core_step m h.node event)
    → y ≡ record x { ending = ending_few x.view x.chosen x.faulty x.ending }
    → marked ≡ flat_map snapshot_in (core_step m h.node event).fired
    → messages ≡ leaving (core_step m h.node event).node.firm (core_step m h.node event).node.held
    → w' ≡ sends_all id (view_of (host_after (core_course m) h (core_step m h.node event)).node) (meets y marked) messages → w' ≡ steps (core_course m) i event w (slice_get w.hosts i)
unfolding stepped
stepped_at m i event w x y w' h id marked messages there id_is x_is y_is marked_is messages_are is = rw (is, y_is, x_is, marked_is, messages_are, id_is, there) refl

-- whether it was idle
pub idle_at : {S : Type 0} (m : Meaning S) (event : NodeEvent) (xs : List (Host S)) (i : ℕ) (h : Host S) (idle : Bool) → slice_get xs i ≡ Some h → idle ≡ is_idle (core_step m h.node event).fired
    → idle ≡ is_idle_at (core_course m) event (slice_get xs i)
idle_at m event xs i h idle there is = is ∙ sym (ap (λ found. is_idle_at (core_course m) event found) there)
