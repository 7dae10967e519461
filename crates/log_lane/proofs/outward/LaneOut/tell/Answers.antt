use Rattle.std.proofs.Common.{sym, ap, ◌∙◌}
use Rattle.log_lane.proofs.Steps.{tells, has_word}
use Rattle.log_lane.proofs.outward.LaneOut.tell.Goals as goal

pub split_seat-seat-requires : goal.split_seat-seat-requires
split_seat-seat-requires g c = let table = c.args.self.now.ours.0 ∙ sym (ap (λ w. w.shared.table_id) c.deref.ensures) in (table, has_word _ _ table c.args.self.now.ours.1, tells _ _)
