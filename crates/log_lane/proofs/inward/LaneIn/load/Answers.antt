use Rattle.std.proofs.Common.{sym, ap, ◌∙◌}
use Rattle.log_lane.proofs.Steps.{reads, has_word}
use Rattle.log_lane.proofs.inward.LaneIn.load.Goals as goal

pub load-requires : goal.load-requires
load-requires g c = let table = c.args.self.now.ours.0 ∙ sym (ap (λ w. w.shared.table_id) c.deref.ensures) in (table, has_word _ _ table c.args.self.now.ours.1, reads _ _ _)
