-- The places of nodes.
use Rattle.std.specs.Prelude.{if◌then◌else◌}
use Rattle.world_rules.specs.Worlds.{Host}
use Rattle.node_rules.specs.Nodes.{view_of, regency_of}
use Rattle.world_rules.specs.declared.line.OutLine.{OutLine}
use Rattle.world_rules.specs.declared.line.OutLine.TheVariants as outs

-- the line that tells a node's place, view and regency, or that its member has crashed
abbrev pub stands : {S : Type 0} → Host S → OutLine
stands h = if h.up then outs.Stands h.node.id h.node.replica.place (view_of h.node).number (regency_of h.node) else outs.Down h.node.id
