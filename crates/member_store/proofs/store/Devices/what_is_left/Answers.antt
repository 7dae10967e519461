use Rattle.member_store.proofs.Opened.{as_left}
use Rattle.member_store.proofs.store.Devices.what_is_left.Goals as goal

pub returns : goal.returns
returns c = as_left c.args.self.now
