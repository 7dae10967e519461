use Rattle.log_lane.specs.Lane.{out_lane}
use Rattle.node_rows.proofs.workers.rounds.play.Given as goal

abbrev pub ghosts-play_named : goal.ghosts-play_named
ghosts-play_named g a = record { lane = out_lane a.outward; restored = a.store.plan.restored }
