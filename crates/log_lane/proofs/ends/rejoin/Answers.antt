use Rattle.std.proofs.Common.{sym, ap, ◌∙◌}
use Rattle.log_lane.proofs.Steps.{joins, reads, has_word}
use Rattle.log_lane.proofs.ends.rejoin.Goals as goal

pub join_seat-requires : goal.join_seat-requires
join_seat-requires g c =
    let table = c.args.inward.ours.0 ∙ sym (ap (λ w. w.shared.table_id) c.deref.ensures) in
    let same = ap (λ p. p.1) c.requires in
    (table, sym same ∙ table, c.args.outward.ours.2, has_word _ _ table c.args.inward.ours.1, joins _ _ _ _ (ap (λ v. v.raises) c.args.outward.role))

pub load-requires : goal.load-requires
load-requires g c =
    let table = c.join_seat.ensures.0 ∙ c.args.inward.ours.0 ∙ sym (ap (λ w. w.shared.table_id) c.deref-2.ensures) in
    (table, has_word _ _ table (ap (λ z. z.words) c.join_seat.ensures.0 ∙ c.args.inward.ours.1), reads _ _ _)
