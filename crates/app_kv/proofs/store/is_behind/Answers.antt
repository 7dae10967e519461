use Rattle.std.proofs.Common.{◌∙◌}
use Rattle.std.specs.Ordering.{is_gt}
use Rattle.app_kv.proofs.Orders.{tested}
use Rattle.app_kv.proofs.store.is_behind.Goals as goal

pub returns : goal.returns
returns c = c.gt.ensures ∙ tested is_gt c.args.text.now c.args.other.now
