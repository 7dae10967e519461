use Rattle.std.proofs.Common.{sym}
use Rattle.smart_base.proofs.SameLists.{same_list-length}
use Rattle.client_quorum.proofs.counting.same_members.Goals as goal

pub returns-then-a-b : goal.returns-then-a-b
returns-then-a-b c = sym (same_list-length _ c.args.a.now c.args.b.now c.if-a-b.true)
