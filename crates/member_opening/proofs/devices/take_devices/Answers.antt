use Rattle.std.proofs.Common.{◌∙◌, refl}
use Rattle.member_opening.proofs.Rising.{apart, within_alike}
use Rattle.member_opening.proofs.devices.take_devices.Goals as goal

pub returns-in-Err-clause-torn : goal.returns-in-Err-clause-torn
returns-in-Err-clause-torn g c = λ told.
    let dir = c.args.dir.now in
    let member = c.args.member in
    record {
      even_log = within_alike _ _ _ _ (c.keep-in-Err.ensures.others _ (apart dir member 0 1 (λ e. cc)) ∙ c.keep.ensures.disk told) refl (c.in_ok-even_log.ensures.within told).one_within;
      odd_log = within_alike _ _ _ _ (c.keep-in-Err.ensures.disk told) refl (c.in_ok-even_log.ensures.within told).other_within;
      even_slot = within_alike _ _ _ _ (c.keep-in-Err.ensures.others _ (apart dir member 2 1 (λ e. cc)) ∙ c.keep.ensures.others _ (apart dir member 2 0 (λ e. cc)))
          (c.take_pair.ensures.others 2 (λ e. cc) (λ e. cc)) (c.in-Err.ensures.torn told).one_within;
      odd_slot = within_alike _ _ _ _ (c.keep-in-Err.ensures.others _ (apart dir member 3 1 (λ e. cc)) ∙ c.keep.ensures.others _ (apart dir member 3 0 (λ e. cc)))
          (c.take_pair.ensures.others 3 (λ e. cc) (λ e. cc)) (c.in-Err.ensures.torn told).other_within;
    }
