use Rattle.std.proofs.Common.{sym, ap, ◌∙◌}
use Rattle.log_lane.proofs.Steps.{hears, has_word}
use Rattle.log_lane.proofs.inward.LaneIn.hear.Goals as goal

pub join_seat-requires : goal.join_seat-requires
join_seat-requires g c =
    let table = c.args.self.now.ours.0 ∙ sym (ap (λ w. w.shared.table_id) c.deref.ensures) in
    let same = ap (λ p. p.1) c.requires in
    (table, same ∙ table, c.args.stored.ours, has_word _ _ table c.args.self.now.ours.1, hears _ _ _ _)
