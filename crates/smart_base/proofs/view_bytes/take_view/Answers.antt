use Rattle.std.proofs.Common.{refl}
use Rattle.smart_base.specs.Views.{View}
use Rattle.smart_base.specs.ViewBytes.{view_at}
use Rattle.smart_base.proofs.ViewLaws.{view_law}
use Rattle.smart_base.proofs.view_bytes.take_view.Goals as goal

-- what was read in this way is a view
pub new-requires-2 : goal.new-requires-2
unfolding view_at
new-requires-2 c =
    let v : View = record { number = c.in_ok-number.number; start = c.in_ok-start.start; f = c.in_ok-f.f; members = c.in_ok-members.members } in
    rw c.new.ensures
    (view_law.takes c.args.cut.now (v, c.take_members.new.cut) c.rest-all.ensures.bytes
    (rw (c.in_ok-number.ensures, c.in_ok-start.ensures, c.in_ok-f.ensures, c.in_ok-count.ensures, c.in_ok-members.ensures) refl)).0
