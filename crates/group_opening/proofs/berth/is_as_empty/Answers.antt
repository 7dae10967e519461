use Rattle.std.proofs.Common.{ap}
use Rattle.snapshot_form.specs.Snapshots.{snapshot_text}
use Rattle.replica_rules.specs.Replicas.{empty}
use Rattle.trail.specs.declared.opening.TrailOpening.{TrailOpening}
use Rattle.group_opening.proofs.Berthing.{not-empty}
use Rattle.group_opening.proofs.berth.is_as_empty.Goals as goal

pub returns-in_ok-head-in-Some : goal.returns-in_ok-head-in-Some
returns-in_ok-head-in-Some g c = λ tested is.
    not-empty c.args.parts.now.snapshot c.in-Some.bytes c.as_slice.result.now c.as_slice-in-Some.result.now c.in_ok-head-in-Some.head.snapshot
    (snapshot_text g.S.Service.meaning (empty g.S.Service.meaning c.args.settings.now.view)) c.same_bytes.result c.in-Some.is c.as_slice.ensures c.as_slice-in-Some.ensures
    (ap (λ (h : TrailOpening). h.snapshot) c.in_ok-head-in-Some.ensures) c.same_bytes.ensures tested is
