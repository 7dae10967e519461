use Rattle.std.proofs.Common.{ap, sym, ◌∙◌, is_some}
use Rattle.node_ends.proofs.Taken.{fed-on}
use Rattle.node_ends.proofs.intake.Intake.feed.Goals as goal

pub returns-in-Ok-clause-fed : goal.returns-in-Ok-clause-fed
returns-in-Ok-clause-fed c = λ bytes short t.
    let s = c.args.self.now in
    fed-on c.frames_are_those_of_all_bytes.ensures.pieces bytes c.args.piece.now s.frames c.feed.new.self _ s.waiting s.count s.is_long s.is_long short c.in-Ok.ensures.fed.1
    (short ∙ sym (ap is_some c.in-Ok.ensures.fed.0)) t

pub returns-in-Err-TooLong-clause-fed : goal.returns-in-Err-TooLong-clause-fed
returns-in-Err-TooLong-clause-fed c = λ bytes short t.
    let s = c.args.self.now in
    let fed = rw c.in-Err-TooLong.field-0-is at c.in-Err-TooLong.ensures.fed in
    fed-on c.frames_are_those_of_all_bytes.ensures.pieces bytes c.args.piece.now s.frames c.feed.new.self _ s.waiting s.count s.is_long _ short fed.1 (sym (ap is_some fed.0)) t
