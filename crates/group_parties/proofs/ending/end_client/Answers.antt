use Rattle.std.proofs.Common.{◌∙◌, ℕ, ◌==◌, Bool, true, false, cond, List, [], ◌∷◌, ◌++◌, append_assoc, sym, ap}
use Rattle.trail.specs.declared.event.TrailEvent.{TrailEvent}
use Rattle.trail.specs.declared.event.TrailEvent.TheVariants.{Polls, End}
use Rattle.client_seat.specs.Asks.{told_polls}
use Rattle.group_parties.proofs.Answered.{if-ok}
use Rattle.group_parties.specs.Seated.{AreMute}
use Rattle.group_parties.proofs.Finished.{has-ended}
use Rattle.group_parties.proofs.ending.end_client.Goals as goal

pub returns-clause-ended : goal.returns-clause-ended
returns-clause-ended g c = λ passes.
    let same = c.end.ensures.same in (
      if-ok c.end.result (sym c.is_ok.ensures.value ∙ passes) c.end.ensures.ok,
      (same.2, (same.0 ∙ c.tell_polls.ensures.same.0, has-ended c.end.new.self.journal.events.items c.tell_polls.new.self.journal.events.items c.end.ensures.events)),
    )

mute : (none : Bool) (idle : ℕ) → AreMute (cond none [] (Polls idle ∷ []) ++ End ∷ [])
mute true idle = tt
mute false idle = tt

pub returns-clause-behind : goal.returns-clause-behind
returns-clause-behind g c =
    let old = c.args.seat.now.journal.events.items in
    let told = told_polls c.args.seat.now.idle in
    (told ++ End ∷ [], (mute (c.args.seat.now.idle == 0) c.args.seat.now.idle, c.end.ensures.events ∙ ap (λ (es : List TrailEvent). es ++ End ∷ []) c.tell_polls.ensures.events ∙ append_assoc old told (End ∷ [])))
