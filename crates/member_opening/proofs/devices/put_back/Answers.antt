use Rattle.std.proofs.Common.{◌∙◌}
use Rattle.member_opening.proofs.Rising.{apart, rose_since, one_rose}
use Rattle.member_opening.proofs.devices.put_back.Goals as goal

pub returns-clause-rose : goal.returns-clause-rose
returns-clause-rose g c before held rose =
    let dir = c.args.dir.now in
    let member = c.args.member in
    one_rose _ _ _ _ _ _ _ _ _ c.keep.ensures.later c.keep-2.ensures.later c.keep-3.ensures.later c.keep-4.ensures.later
    (λ r. c.keep.ensures.rose held.even_log.before held.even_log.is (rose_since _ _ _ held.even_log.later r))
    (λ r. c.keep-2.ensures.rose held.odd_log.before (c.keep.ensures.others_taken _ (apart dir member 1 0 (λ e. cc)) ∙ held.odd_log.is) (rose_since _ _ _ held.odd_log.later r))
    (λ r. c.keep-3.ensures.rose held.even_slot.before
    (c.keep-2.ensures.others_taken _ (apart dir member 2 1 (λ e. cc)) ∙ c.keep.ensures.others_taken _ (apart dir member 2 0 (λ e. cc)) ∙ held.even_slot.is) (rose_since _ _ _ held.even_slot.later r))
    (λ r. c.keep-4.ensures.rose held.odd_slot.before
    (c.keep-3.ensures.others_taken _ (apart dir member 3 2 (λ e. cc)) ∙ c.keep-2.ensures.others_taken _ (apart dir member 3 1 (λ e. cc)) ∙ c.keep.ensures.others_taken _ (apart dir member 3 0 (λ e. cc))
    ∙ held.odd_slot.is)
    (rose_since _ _ _ held.odd_slot.later r))
    rose
