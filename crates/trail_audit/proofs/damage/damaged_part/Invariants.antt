use Rattle.std.proofs.Common.{◌≡◌, drop}
use Rattle.audit_rules.specs.Readings.{damaged_part}
use Rattle.trail_audit.proofs.damage.damaged_part.Given as goal

-- the first damaged part of the trails left is that of all
abbrev pub invariant-loop-trail : goal.invariant-loop-trail
invariant-loop-trail l = damaged_part l.before (drop l.trail-index l.trails) ≡ damaged_part 0 l.fn.trails
