use Rattle.std.proofs.Common.{sym, ap, ◌∙◌, arith}
use Rattle.log_lane.proofs.Steps.{raises, has_word}
use Rattle.log_lane.proofs.outward.LaneOut.raise.Goals as goal

pub store-requires : goal.store-requires
store-requires g c =
    let table = c.args.self.now.ours.0 ∙ sym (ap (λ w. w.shared.table_id) c.deref.ensures) in
    let role = c.args.self.now.role in
    let is = ap (λ v. v.found) role in
    let more = c.requires.more in (table, has_word _ _ table c.args.self.now.ours.1, raises _ _ _ _ (ap (λ v. v.raises) role) (omega arith))
