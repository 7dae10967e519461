use Rattle.std.proofs.Common.{refl}
use Rattle.world_script.proofs.Spaces.{words_counted}
use Rattle.world_script.proofs.words.Words.count.Goals as goal

pub returns-then-self : goal.returns-then-self
returns-then-self c =
    let e = words_counted c.self.inside.left.now in
    rw (← c.self.view_is, c.if-self.true, e, c.spaces_in.ensures.count) refl
