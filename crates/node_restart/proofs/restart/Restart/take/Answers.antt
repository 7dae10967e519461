use Rattle.std.proofs.Common.{sym, ◌∙◌}
use Rattle.node_restart.proofs.Sound.{sound_took}
use Rattle.node_restart.proofs.restart.Restart.take.Goals as goal

pub returns-in-Ok-clause-sound : goal.returns-in-Ok-clause-sound
returns-in-Ok-clause-sound g c =
    sound_took g.S.Service.meaning c.args.ring.now c.args.self c.in_ok-later-in-Ok.later c.in-Ok.entry c.requires.sound c.in-Ok.ensures.found.0 (sym c.in_ok-may_take-in-Ok.ensures ∙ c.if-not-branch.false)
    c.in_ok-later-in-Ok.ensures.later
