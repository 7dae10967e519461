-- A disk stays sound by each change.
use Rattle.std.proofs.Common.{◌≡◌, ℕ, ◌≤◌, List, length, refl, sym, subst, arith}
use Rattle.std.proofs.lemmas.List.{length-take}
use Rattle.disk_model.specs.declared.platter.Range.{Range}
use Rattle.disk_model.specs.Cells.{Cells, IsImage, IsSound, settled, written, cut_to}
use Rattle.disk_model.specs.Replay.{torn_write, torn_cut}
use Rattle.disk_model.proofs.Puts.{length-put}
use Rattle.disk_model.proofs.Images.{within_begun, within_touched, within_cut_begun, within_shortened}

pub sound_settled : (now : List ℕ) → IsSound (settled now)
sound_settled now =
    let whole : IsImage (settled now) now = record { no_shorter = omega arith; no_longer = omega arith; same = λ i lt none. refl } in
    record { reads = whole; was_sure = whole }

pub sound_written : (at : ℕ) (bytes : List ℕ) (s : Cells) → at ≤ length s.now → IsSound s → IsSound (written at bytes s)
sound_written at bytes s le sound = record {
  reads = record {
    no_shorter = omega (arith, length-put at bytes s.now le, sound.reads.no_shorter);
    no_longer = omega (arith, length-put at bytes s.now le, sound.reads.no_longer);
    same = λ i lt none. refl;
  };
  was_sure = within_begun at bytes s le s.sure sound.was_sure;
}

pub sound_cut : (n : ℕ) (s : Cells) → IsSound s → IsSound (cut_to n s)
sound_cut n s sound = record {
  reads = record {
    no_shorter = omega (arith, length-take n s.now, sound.reads.no_shorter);
    no_longer = omega (arith, length-take n s.now, sound.reads.no_longer);
    same = λ i lt none. refl;
  };
  was_sure = within_cut_begun n s s.sure sound.was_sure;
}

pub sound_touched : (r : Range) (s : Cells) → IsSound s → IsSound (torn_write r s)
sound_touched r s sound = record { reads = within_touched r s s.now sound.reads; was_sure = within_touched r s s.sure sound.was_sure }

pub same_sound : (s new : Cells) → new ≡ s → IsSound s → IsSound new
same_sound s new same sound = subst IsSound (sym same) sound
