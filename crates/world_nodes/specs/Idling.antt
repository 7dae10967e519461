-- Nodes that take a step, and have nothing to do.
use Rattle.std.specs.Prelude.{ℕ, Bool, true, false, List, [], ◌∷◌, ◌++◌, Option, Some, None, slice_set}
use Rattle.std.specs.List.{flat_map}
use Rattle.smart_statements.specs.declared.entry.NodeEvent.{NodeEvent}
use Rattle.node_rules.specs.Nodes.{next_place}
use Rattle.node_rules.specs.Steps.{Outcome}
use Rattle.node_rules.specs.Transfers.{completed_by}
use Rattle.world_rules.specs.Worlds.{Course, Host, World, host_after, chosen_with, told_drop, told_fired, meets, stepped, takes_met, telling_all, told_idle}
use Rattle.world_hosts.specs.Hearing.{is_idle}
use Rattle.world_rules.specs.declared.line.OutLine.{OutLine}
use Rattle.world_rules.specs.declared.line.OutLine.TheVariants as outs

-- the world in which the node at an index has taken a step, before what the step marks is met and what it lets go is sent
abbrev pub stepped_in : {S : Type 0} → Course S → ℕ → World S → Host S → Outcome S → World S
stepped_in course i w h o = record w {
  hosts = slice_set w.hosts i (host_after course h o);
  chosen = chosen_with w.chosen (next_place o.node) o.node.waiting;
  told = w.told ++ (told_drop h.node.id o.dropped ++ flat_map (told_fired h.node.id) o.fired);
}

-- the world after a step of a node that runs
abbrev pub steps : {S : Type 0} → Course S → ℕ → NodeEvent → World S → Option (Host S) → World S
steps course i event w None = w
steps course i event w (Some h) = stepped course w i h (course.step h.node event)

-- the world after the text that an event completes at a node was met
abbrev pub met_at : {S : Type 0} → NodeEvent → World S → Option (Host S) → World S
met_at event w None = w
met_at event w (Some h) = meets w (completed_by h.node event)

-- the world after a node that runs took an event
abbrev pub takes_at : {S : Type 0} → Course S → ℕ → NodeEvent → World S → Option (Host S) → World S
takes_at course i event w None = w
takes_at course i event w (Some h) = takes_met course i event w h

-- the world after a step of a node that runs; if no rule fires, the transcript tells that it is idle
abbrev pub tries : {S : Type 0} → Course S → ℕ → NodeEvent → World S → Option (Host S) → World S
tries course i event w None = w
tries course i event w (Some h) = telling_all (stepped course w i h (course.step h.node event)) (told_idle h.node.id (course.step h.node event).fired)

-- a host at which no rule fires at an event
abbrev pub is_idle_at : {S : Type 0} → Course S → NodeEvent → Option (Host S) → Bool
is_idle_at course event None = false
is_idle_at course event (Some h) = is_idle (course.step h.node event).fired

-- what an idle node tells
abbrev pub idle_lines : ℕ → Bool → List OutLine
idle_lines id true = outs.Idle id ∷ []
idle_lines id false = []
