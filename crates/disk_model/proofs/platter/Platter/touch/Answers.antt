use Rattle.std.proofs.Common.{◌≡◌, max, [], ◌∷◌, ◌++◌, rules}
use Rattle.disk_model.specs.Replay.{torn_write}
use Rattle.disk_model.specs.Undo.{all_undone}
use Rattle.disk_model.specs.Platters.{cells_of}
use Rattle.disk_model.proofs.Sound.{same_sound, sound_touched}
use Rattle.disk_model.proofs.platter.Platter.touch.Goals as goal

pub invariant_of-self-2 : goal.invariant_of-self-2
invariant_of-self-2 c =
    let old = c.args.self.now in
    let touched : c.push_reserved.new.self.items ≡ old.touched.items ++ c.args.range ∷ [] = search rules in
    let greatest : c.max-self.result ≡ max old.greatest c.args.range.upto = search rules in
    record {
      sound = same_sound (torn_write c.args.range (cells_of old)) (record { now = old.contents.items; sure = all_undone old.undo.items old.contents.items; shortest = old.shortest; greatest = c.max-self.result; touched = c.push_reserved.new.self.items })
          (λ i. record { now = old.contents.items; sure = all_undone old.undo.items old.contents.items; shortest = old.shortest; greatest = greatest i; touched = touched i })
          (sound_touched c.args.range (cells_of old) old.sound);
    }
