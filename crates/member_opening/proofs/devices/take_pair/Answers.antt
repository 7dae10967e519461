use Rattle.std.proofs.Common.{refl}
use Rattle.member_opening.proofs.Rising.{next_apart, within_alike}
use Rattle.member_opening.proofs.devices.take_pair.Goals as goal

pub returns-in-Ok-clause-within : goal.returns-in-Ok-clause-within
returns-in-Ok-clause-within g c = λ told. record {
  one_within = c.in_ok-one.ensures.within told;
  other_within = within_alike _ _ _ _ refl (c.take_device.ensures.others _ (next_apart c.args.dir.now c.args.member c.args.first)) (c.in-Ok.ensures.within told);
}

pub returns-in-Err-clause-torn : goal.returns-in-Err-clause-torn
returns-in-Err-clause-torn g c = λ told. record {
  one_within = within_alike _ _ _ _ (c.keep.ensures.disk told) refl (c.in_ok-one.ensures.within told);
  other_within = within_alike _ _ _ _ (c.keep.ensures.others _ (next_apart c.args.dir.now c.args.member c.args.first)) (c.take_device.ensures.others _ (next_apart c.args.dir.now c.args.member c.args.first))
      (c.in-Err.ensures.torn told);
}
