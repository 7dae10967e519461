use Rattle.std.proofs.Common.{◌≡◌, ◌++◌, map, drop}
use Rattle.std.specs.List.{flat_map}
use Rattle.audit_rules.specs.Audits.{made_by}
use Rattle.sent_statements.specs.Indexes.{made_sealed}
use Rattle.sent_statements.proofs.sending.keep_trails.Given as goal

-- those so far and those of the trails left are all
abbrev pub invariant-loop-trail : goal.invariant-loop-trail
invariant-loop-trail l =
    map made_sealed l.found.items ++ flat_map made_by (drop l.trail-index l.trails) ≡ map made_sealed l.fn.found.items ++ flat_map made_by l.fn.trails
