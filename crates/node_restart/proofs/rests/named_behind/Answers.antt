use Rattle.node_restart.proofs.Sound.{lock_sound}
use Rattle.node_restart.proofs.rests.named_behind.Goals as goal

pub has_accepted-requires-clause-accept : goal.has_accepted-requires-clause-accept
has_accepted-requires-clause-accept c = (lock_sound c.args.ring.now c.args.slot.now.view c.args.book.now.entries c.in-Some.accept.now c.requires.sound c.in-Some.ensures).fits
