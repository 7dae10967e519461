use Rattle.std.proofs.Common.{subst, ◌≡◌, Option, None, List, ℕ}
use Rattle.node_rules.specs.Reopening.{replica_from, outset_from}
use Rattle.node_core.proofs.Reopeners.{begun_parts, some_parts, read_parts, fault_parts, whole_parts, damaged_parts, damaged_first, node_parts, same_fault}
use Rattle.node_core.proofs.node.NodeCore.reopen.Goals as goal

pub finish-requires : goal.finish-requires
finish-requires g c =
    (c.in_ok-read_all.ensures.read (outset_from g.S.Service.meaning c.args.ring c.args.id c.args.view c.args.period c.args.parts.now.snapshot)
    (begun_parts g.S.Service.meaning c.args.ring c.args.id c.args.view c.args.period _ _ c.in_ok-reopener.reopener c.snapshot_in-snapshot.ensures c.in_ok-reopener.ensures.begun)).whole

pub returns-clause-whole : goal.returns-clause-whole
returns-clause-whole g c =
    whole_parts g.S.Service.meaning c.args.ring c.args.id c.args.view c.args.period c.args.parts.now c.read_all.new.self
    (some_parts g.S.Service.meaning c.args.view _ _ c.snapshot_in-snapshot.ensures c.in_ok-reopener.ensures.whole)
    (read_parts g.S.Service.meaning (outset_from g.S.Service.meaning c.args.ring c.args.id c.args.view c.args.period c.args.parts.now.snapshot) _ _ c.read_all.new.self c.as_slice.ensures
    (c.in_ok-read_all.ensures.read (outset_from g.S.Service.meaning c.args.ring c.args.id c.args.view c.args.period c.args.parts.now.snapshot)
    (begun_parts g.S.Service.meaning c.args.ring c.args.id c.args.view c.args.period _ _ c.in_ok-reopener.reopener c.snapshot_in-snapshot.ensures c.in_ok-reopener.ensures.begun)))

pub returns-clause-node : goal.returns-clause-node
returns-clause-node g c =
    node_parts g.S.Service.meaning c.args.ring c.args.id c.args.view c.args.period c.args.parts.now c.read_all.new.self c.in_ok-core.core.node
    (read_parts g.S.Service.meaning (outset_from g.S.Service.meaning c.args.ring c.args.id c.args.view c.args.period c.args.parts.now.snapshot) _ _ c.read_all.new.self c.as_slice.ensures
    (c.in_ok-read_all.ensures.read (outset_from g.S.Service.meaning c.args.ring c.args.id c.args.view c.args.period c.args.parts.now.snapshot)
    (begun_parts g.S.Service.meaning c.args.ring c.args.id c.args.view c.args.period _ _ c.in_ok-reopener.reopener c.snapshot_in-snapshot.ensures c.in_ok-reopener.ensures.begun)))
    c.in_ok-core.ensures.node

pub returns-in_err-reopener-clause-cause : goal.returns-in_err-reopener-clause-cause
returns-in_err-reopener-clause-cause g c entry is =
    let fault = c.begin.ensures.cause entry (same_fault c.begin.result c.from_residual.result c.in_err-reopener.field-0.0 _ c.in_err-reopener.was c.from_residual.ensures.1 is) in
    damaged_first g.S.Service.meaning c.args.ring c.args.view c.args.parts.now entry fault.0
    (subst (λ (s : Option (List ℕ)). replica_from g.S.Service.meaning c.args.view s ≡ None) c.snapshot_in-snapshot.ensures fault.1)

pub returns-in_err-read_all-clause-cause : goal.returns-in_err-read_all-clause-cause
returns-in_err-read_all-clause-cause g c entry is =
    damaged_parts g.S.Service.meaning c.args.ring c.args.id c.args.view c.args.period c.args.parts.now entry
    (some_parts g.S.Service.meaning c.args.view _ _ c.snapshot_in-snapshot.ensures c.in_ok-reopener.ensures.whole)
    (fault_parts (outset_from g.S.Service.meaning c.args.ring c.args.id c.args.view c.args.period c.args.parts.now.snapshot) c.as_slice.result.now c.args.parts.now.entries entry c.as_slice.ensures
    (c.read_all.ensures.cause entry
    (same_fault c.read_all.result c.from_residual-in_err-read_all.result c.in_err-read_all.field-0.0 _ c.in_err-read_all.was c.from_residual-in_err-read_all.ensures.1 is)
    (outset_from g.S.Service.meaning c.args.ring c.args.id c.args.view c.args.period c.args.parts.now.snapshot)
    (begun_parts g.S.Service.meaning c.args.ring c.args.id c.args.view c.args.period _ _ c.in_ok-reopener.reopener c.snapshot_in-snapshot.ensures c.in_ok-reopener.ensures.begun)))
