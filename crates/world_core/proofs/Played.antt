-- Lines that were played.
use Rattle.std.proofs.Common.{◌≡◌, ◌++◌, ◌∙◌, false, List, [], ◌∷◌, None, refl, ap, sym}
use Rattle.smart_service.specs.Services.{Meaning}
use Rattle.world_rules.specs.Worlds.{Course, World, begun}
use Rattle.world_rules.specs.Plays.{line_played, rested, world_after, Play, IsPlay}
use Rattle.world_rules.specs.declared.line.Line.{Line}

-- one more line
pub world_after-end : {S : Type 0} (course : Course S) (w : World S) (ls : List Line) (l : Line)
    → world_after course w (ls ++ l ∷ []) ≡ rested (line_played course (world_after course w ls) l)
world_after-end course w [] l = refl
world_after-end course w (k ∷ ls) l = world_after-end course (rested (line_played course w k)) ls l

-- a play stands for one more line, where nothing has ended it
pub is_play-more : {S : Type 0} (course : Course S) (m : Meaning S) (p : Play S) (line : Line) (w : World S) → IsPlay course m p → p.over ≡ false
    → w ≡ line_played course p.world line → w.ending ≡ None → IsPlay course m (record { group = p.group; lines = p.lines ++ line ∷ []; world = rested w; over = false })
is_play-more {S = S} course m p line w is going played free =
    record {
      stands = λ still. ap (λ (x : World S). rested x) played
          ∙ (ap (λ (x : World S). rested (line_played course x line)) (is.stands going) ∙ sym (world_after-end course (begun m p.group) p.lines line));
      going = λ still. free;
    }
