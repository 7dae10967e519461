use Rattle.std.proofs.Common.{◌≡◌, ◌+◌, max, length, take, drop, [], ◌∷◌, ◌++◌, rules}
use Rattle.disk_model.specs.Cells.{written, put}
use Rattle.disk_model.specs.Undo.{all_undone}
use Rattle.disk_model.specs.Platters.{cells_of}
use Rattle.disk_model.proofs.Undone.{sure_written}
use Rattle.disk_model.proofs.Sound.{same_sound, sound_written}
use Rattle.disk_model.proofs.platter.Platter.write.Goals as goal

pub returns-clause-ok : goal.returns-clause-ok
returns-clause-ok c =
    let old = c.args.self.now in
    let now = old.contents.items in
    let at = c.args.at in
    let bytes = c.args.bytes.now in
    let undo : c.push_reserved.new.self.items ≡ old.undo.items ++ record { at = at; bytes = c.in_ok-bytes_before.bytes_before; length = length now } ∷ [] = search rules in
    let part : c.in_ok-bytes_before.bytes_before ≡ take (length bytes) (drop at now) = search rules in
    let wrote : c.overwrite.new.contents.items ≡ put at bytes now = search rules in
    let greatest : c.max-self.result ≡ max old.greatest (at + length bytes) = search rules in
    let touched : c.push_reserved-2.new.self.items ≡ old.touched.items ++ record { from = at; upto = at + length bytes } ∷ [] = search rules in
    let sure = sure_written old.undo.items c.push_reserved.new.self.items at bytes now c.in_ok-bytes_before.bytes_before c.overwrite.new.contents.items c.requires undo part wrote in
    λ i. record { now = wrote i; sure = sure i; shortest = old.shortest; greatest = greatest i; touched = touched i }

pub invariant_of-self-2 : goal.invariant_of-self-2
invariant_of-self-2 c =
    let old = c.args.self.now in
    let now = old.contents.items in
    let at = c.args.at in
    let bytes = c.args.bytes.now in
    let undo : c.push_reserved.new.self.items ≡ old.undo.items ++ record { at = at; bytes = c.in_ok-bytes_before.bytes_before; length = length now } ∷ [] = search rules in
    let part : c.in_ok-bytes_before.bytes_before ≡ take (length bytes) (drop at now) = search rules in
    let wrote : c.overwrite.new.contents.items ≡ put at bytes now = search rules in
    let greatest : c.max-self.result ≡ max old.greatest (at + length bytes) = search rules in
    let touched : c.push_reserved-2.new.self.items ≡ old.touched.items ++ record { from = at; upto = at + length bytes } ∷ [] = search rules in
    let sure = sure_written old.undo.items c.push_reserved.new.self.items at bytes now c.in_ok-bytes_before.bytes_before c.overwrite.new.contents.items c.requires undo part wrote in
    record {
      sound = same_sound (written at bytes (cells_of old)) (record { now = c.overwrite.new.contents.items; sure = all_undone c.push_reserved.new.self.items c.overwrite.new.contents.items; shortest = old.shortest; greatest = c.max-self.result; touched = c.push_reserved-2.new.self.items })
          (λ i. record { now = wrote i; sure = sure i; shortest = old.shortest; greatest = greatest i; touched = touched i })
          (sound_written at bytes (cells_of old) c.requires old.sound);
    }
