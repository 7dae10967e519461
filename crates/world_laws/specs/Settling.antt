-- The worlds of a play while a node settles.
use Rattle.std.specs.Prelude.{ℕ, ◌+◌, List, slice_get}
use Rattle.smart_base.specs.declared.party.Party.{Party}
use Rattle.smart_statements.specs.declared.entry.NodeEvent.TheVariants.{Arrive}
use Rattle.smart_service.specs.Services.{Meaning}
use Rattle.world_rules.specs.Repeats.{repeated, each_from}
use Rattle.world_rules.specs.Worlds.{course_of, World, node_takes, settle_once, at_listed, settle_present, settle_all, flow_once, begun, goes}
use Rattle.world_rules.specs.Plays.{world_after}
use Rattle.world_rules.specs.declared.line.Line.{Line}
use Rattle.world_rules.specs.declared.line.Header.{Header}

-- the world after the node at an index has settled, if it runs
abbrev pub settles_present : {S : Type 0} → Meaning S → List ℕ → ℕ → World S → World S
settles_present m members i w = settle_present (course_of m) members i w (slice_get w.hosts i)

-- the world in which a flow over listed members begins, after the first of these nodes have settled
abbrev pub flow_begins : {S : Type 0} → Meaning S → Header → List Line → List ℕ → ℕ → World S
flow_begins m g ls members nodes = each_from (at_listed members (settles_present m members)) nodes 0 (world_after (course_of m) (begun m g) ls)

-- the world after a flow over listed members has given `k` messages
abbrev pub flow_goes : {S : Type 0} → Meaning S → Header → List Line → List ℕ → ℕ → World S
flow_goes m g ls members k = repeated (flow_once (course_of m) members) k (settle_all (course_of m) members (world_after (course_of m) (begun m g) ls))

-- the world of a flow after bytes went to some parties: to listed members, of which each has settled, and to clients
abbrev pub message_goes : {S : Type 0} → Meaning S → List ℕ → List ℕ → List Party → World S → World S
message_goes m members bytes tos w = goes (course_of m) members (record w { mark = w.mark + 1 }) bytes tos

-- the world after a node took bytes, and then `k` turns of what was due
abbrev pub node_goes : {S : Type 0} → Meaning S → List ℕ → ℕ → ℕ → World S → World S
node_goes m bytes i k w = repeated (settle_once (course_of m) i) k (node_takes (course_of m) i (Arrive bytes) w)
