use Rattle.std.proofs.Common.{arith}
use Rattle.std.proofs.lemmas.List.{nil_from_length}
use Rattle.world_rules.specs.Worlds.{snapshot_in}
use Rattle.world_hosts.proofs.Keeping.{kept_more, kept_all}
use Rattle.world_hosts.proofs.Telling.{told-more}
use Rattle.world_hosts.proofs.host.keep_fired.Goals as goal

pub loop-rule-preserved : goal.loop-rule-preserved
loop-rule-preserved g c = record {
  host = kept_more c.loop-rule.host c.keep_rule.new.host _ c.in-Some.rule c.next.new.self.rest.items c.loop-rule.rule-iterator.rest.items c.in-Some.ensures.steps.0 c.in_ok-keep_rule.ensures.host c.loop-rule.invariant.host;
  marked = told-more snapshot_in c.in-Some.rule c.next.new.self.rest.items c.loop-rule.rule-iterator.rest.items c.loop-rule.marked.items c.keep_rule.new.marked.items _ c.in_ok-keep_rule.ensures.marked c.in-Some.ensures.steps.0 c.loop-rule.invariant.marked;
}

pub returns-clause-host : goal.returns-clause-host
returns-clause-host g c = kept_all c.loop-rule.host _ c.loop-rule.rule-iterator.rest.items (nil_from_length c.loop-rule.rule-iterator.rest.items (omega (arith, c.in-None.ensures.steps.0, c.loop-rule.rule-iterator.rest.ok))) c.loop-rule.invariant.host
