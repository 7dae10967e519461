use Rattle.std.proofs.Common.{ap, ◌∙◌, sym}
use Rattle.world_rules.specs.Plays.{Play}
use Rattle.world_core.proofs.Played.{is_play-more}
use Rattle.world_rules.specs.Worlds.{core_course}
use Rattle.world_core.proofs.world.World.play.Goals as goal

pub invariant_of-self-2 : goal.invariant_of-self-2
invariant_of-self-2 g c =
    rw (c.in_ok-push.ensures.ok, c.take_told-told.ensures.world)
    (is_play-more (core_course g.S.Service.meaning) g.S.Service.meaning (record { group = c.self.inside.group; lines = c.self.inside.lines; world = c.self.inside.state; over = c.self.inside.over }) c.args.line c.play_line.new.state
    c.self.invariant (ap (λ (p : Play g.row.S.Denot). p.over) c.self.view_is ∙ c.requires) c.in_default.ensures.world c.in_default.ensures.going)
