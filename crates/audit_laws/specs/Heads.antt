-- The trail of a node that began from what a store restored.
use Rattle.std.specs.Prelude.{List}
use Rattle.smart_service.specs.Services.{Meaning}
use Rattle.node_rules.specs.declared.node.Parts.{Parts}
use Rattle.trail.specs.declared.event.TrailEvent.{TrailEvent}
use Rattle.audit_rules.specs.declared.recorded.Recorded.{Recorded}
use Rattle.member_opening.specs.Headings.{head_by}
use Rattle.member_opening.specs.declared.settings.Settings.{Settings}

-- the trail whose head is that of a node which begins from parts
abbrev pub trail_by : {S : Type 0} → Meaning S → Settings → Parts → List TrailEvent → Recorded
trail_by m s parts events = record { opening = head_by m s parts; entries = parts.entries; events = events }
