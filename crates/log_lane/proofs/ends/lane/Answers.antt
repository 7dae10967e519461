use Rattle.std.proofs.Common.{ap, ◌∙◌}
use Rattle.log_lane.proofs.Steps.{begins, splits, has_word}
use Rattle.log_lane.proofs.ends.lane.Goals as goal

pub of_words-requires : goal.of_words-requires
of_words-requires g c = begins

pub split_seat-other-requires : goal.split_seat-other-requires
split_seat-other-requires g c = let made = c.in_ok-word.ensures in (made.2, has_word _ _ made.2 (ap (λ z. z.words) made.2 ∙ made.0), splits _ _ (ap (λ m. m.0.raises) made.4))
