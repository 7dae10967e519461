use Rattle.node_ends.proofs.Taken.{reads-kept, reads-empty, reads-fed}
use Rattle.node_ends.proofs.intake.Intake.take_piece.Goals as goal

pub returns-in-Err-Failed-clause-reads : goal.returns-in-Err-Failed-clause-reads
returns-in-Err-Failed-clause-reads g c = reads-kept _ _ _ c.args.self.now c.in-Err-Failed.ensures.bytes

pub returns-in-Err-NoMemory-clause-reads : goal.returns-in-Err-NoMemory-clause-reads
returns-in-Err-NoMemory-clause-reads g c = reads-kept _ _ _ c.args.self.now c.in-Err-NoMemory.ensures.bytes

pub returns-then-count-eq0-clause-reads : goal.returns-then-count-eq0-clause-reads
returns-then-count-eq0-clause-reads g c = reads-empty _ _ _ c.args.self.now (rw c.if-count-eq0.true at c.in-Ok.ensures.bytes.0)

pub returns-clause-reads : goal.returns-clause-reads
returns-clause-reads g c =
    reads-fed _ _ c.feed.result c.args.self.now c.feed.new.self c.split_at.result.0.now (rw (← c.split_at.ensures.front) at c.in-Ok.ensures.bytes.0) c.feed.ensures.goes c.requires c.feed.ensures.fed
