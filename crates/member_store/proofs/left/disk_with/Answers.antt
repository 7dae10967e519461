use Rattle.std.proofs.Common.{◌∙◌, ◌≤◌, List, ℕ, Some, ap, arith, subst, sym}
use Rattle.disk_model.specs.Cells.{IsImage, IsWrong, settled}
use Rattle.disk_model.specs.Memory.{plain_cells}
use Rattle.disk_model.specs.declared.plain.PlainDisk.{PlainDisk}
use Rattle.member_store.proofs.Parts.{part-wrong, part-long, part-right}
use Rattle.member_store.proofs.left.disk_with.Goals as goal

sound : (d : PlainDisk) → (plain_cells d).shortest ≤ (plain_cells d).greatest
sound d = omega (arith, d.platter.sound.reads.no_shorter, d.platter.sound.reads.no_longer)

pub returns-in-Err-clause-not : goal.returns-in-Err-clause-not
returns-in-Err-clause-not c = λ whole is.
    part-wrong (plain_cells c.args.disk.now) whole (sound c.args.disk.now) c.in-Err.wrong.at
    (subst (λ (bytes : List ℕ). IsWrong (plain_cells c.args.disk.now) bytes c.in-Err.wrong.at) (c.from_vec.ensures ∙ is.bytes) c.in-Err.ensures.not)

pub returns-then-length-greatest-clause-not : goal.returns-then-length-greatest-clause-not
returns-then-length-greatest-clause-not c = λ whole is.
    part-long (plain_cells c.args.disk.now) whole (sound c.args.disk.now) (subst (λ (bytes : List ℕ). IsImage (plain_cells c.args.disk.now) bytes) (c.from_vec.ensures ∙ is.bytes) c.in-Ok.ensures.ok.0) (omega (arith, is.length)) ∙ ap Some (sym is.length)

pub returns-clause-ok : goal.returns-clause-ok
returns-clause-ok c = λ whole is.
    let image = subst (λ (bytes : List ℕ). IsImage (plain_cells c.args.disk.now) bytes) (c.from_vec.ensures ∙ is.bytes) c.in-Ok.ensures.ok.0 in
    let right = part-right (plain_cells c.args.disk.now) whole (sound c.args.disk.now) image (omega (arith, is.length)) in
    (right.0, c.in-Ok.ensures.ok.1 ∙ ap settled (c.from_vec.ensures ∙ is.bytes ∙ right.1))
