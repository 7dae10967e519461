use Rattle.std.proofs.Common.{◌≡◌, ◌∙◌, min, length, take, drop, [], ◌∷◌, ◌++◌, rules}
use Rattle.std.proofs.lemmas.List.{take_min}
use Rattle.disk_model.specs.Cells.{cut_to}
use Rattle.disk_model.specs.Undo.{all_undone}
use Rattle.disk_model.specs.Platters.{cells_of}
use Rattle.disk_model.proofs.Undone.{sure_cut}
use Rattle.disk_model.proofs.Sound.{same_sound, sound_cut}
use Rattle.disk_model.proofs.platter.Platter.cut.Goals as goal

pub returns-clause-ok : goal.returns-clause-ok
returns-clause-ok c =
    let old = c.args.self.now in
    let now = old.contents.items in
    let undo : c.push_reserved.new.self.items ≡ old.undo.items ++ record { at = c.args.to; bytes = c.in_ok-bytes.bytes; length = c.args.to } ∷ [] = search rules in
    let part : c.in_ok-bytes.bytes ≡ take (length now) (drop c.args.to now) = search rules in
    let cut : c.truncate.new.self.items ≡ take (min c.args.to (length now)) now = search rules in
    let all : c.truncate.new.self.items ≡ take c.args.to now = cut ∙ take_min c.args.to now in
    let shortest : c.min-self.result ≡ min old.shortest c.args.to = search rules in
    let sure = sure_cut old.undo.items c.push_reserved.new.self.items c.args.to now c.in_ok-bytes.bytes c.truncate.new.self.items undo part all in
    λ i. record { now = all i; sure = sure i; shortest = shortest i; greatest = old.greatest; touched = old.touched.items }

pub invariant_of-self-2 : goal.invariant_of-self-2
invariant_of-self-2 c =
    let old = c.args.self.now in
    let now = old.contents.items in
    let undo : c.push_reserved.new.self.items ≡ old.undo.items ++ record { at = c.args.to; bytes = c.in_ok-bytes.bytes; length = c.args.to } ∷ [] = search rules in
    let part : c.in_ok-bytes.bytes ≡ take (length now) (drop c.args.to now) = search rules in
    let cut : c.truncate.new.self.items ≡ take (min c.args.to (length now)) now = search rules in
    let all : c.truncate.new.self.items ≡ take c.args.to now = cut ∙ take_min c.args.to now in
    let shortest : c.min-self.result ≡ min old.shortest c.args.to = search rules in
    let sure = sure_cut old.undo.items c.push_reserved.new.self.items c.args.to now c.in_ok-bytes.bytes c.truncate.new.self.items undo part all in
    record {
      sound = same_sound (cut_to c.args.to (cells_of old)) (record { now = c.truncate.new.self.items; sure = all_undone c.push_reserved.new.self.items c.truncate.new.self.items; shortest = c.min-self.result; greatest = old.greatest; touched = old.touched.items })
          (λ i. record { now = all i; sure = sure i; shortest = shortest i; greatest = old.greatest; touched = old.touched.items })
          (sound_cut c.args.to (cells_of old) old.sound);
    }
