use Rattle.std.proofs.Common.{◌≡◌, arith}
use Rattle.smart_base.proofs.ViewFacts.{view_parts}
use Rattle.smart_view.specs.Sizes.{collect_size}
use Rattle.regency_sync.proofs.synchronizer.Synchronizer.collect.Goals as goal

pub collect-requires : goal.collect-requires
collect-requires c =
    let parts = view_parts c.self.inside.view c.members.ensures.view in
    let size : c.collect_size.result ≡ collect_size c.self.inside.view = c.collect_size.ensures in
    omega (arith, parts.few, size)
