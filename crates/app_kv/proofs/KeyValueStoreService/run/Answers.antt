use Rattle.std.proofs.Common.{subst}
use Rattle.app_kv.specs.States.{Fits, operation_fits}
use Rattle.app_kv.proofs.KeyValueStoreService.run.Goals as goal

pub put-requires-clause-key : goal.put-requires-clause-key
put-requires-clause-key c = (subst Fits c.in-Put.ensures (operation_fits c.args.op.now)).0

pub put-requires-clause-value : goal.put-requires-clause-value
put-requires-clause-value c = (subst Fits c.in-Put.ensures (operation_fits c.args.op.now)).1
