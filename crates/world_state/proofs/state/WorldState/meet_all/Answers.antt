use Rattle.world_state.proofs.Meeting.{meets-more}
use Rattle.world_state.proofs.state.WorldState.meet_all.Goals as goal

pub loop-snapshot-preserved : goal.loop-snapshot-preserved
loop-snapshot-preserved g c =
    meets-more c.loop-snapshot.self c.meet.new.self _ c.in-Some.snapshot c.next.new.self.rest.items c.loop-snapshot.snapshot-iterator.rest.items c.in_ok-meet.ensures
    c.in-Some.ensures.steps.0 c.loop-snapshot.invariant
