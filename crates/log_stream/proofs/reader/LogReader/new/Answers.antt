use Rattle.std.proofs.Common.{◌≡◌, ◌∙◌, true, false, true≢false, length, sym, ap}
use Rattle.disk_model.specs.Cells.{Cells}
use Rattle.log_stream.proofs.Places.{place_first}
use Rattle.log_stream.proofs.reader.LogReader.new.Goals as goal

pub returns-clause-reads : goal.returns-clause-reads
returns-clause-reads g c = λ told. record {
  place = place_first (g.D.Disk.cells c.length_of.new.device).now;
  shows = c.new.ensures (g.D.Disk.cells c.length_of.new.device).now;
  long = c.in_ok-length.ensures.length told ∙ ap (λ (s : Cells). length s.now) (sym (c.length_of.ensures.still told).same);
  over = λ (e : false ≡ true). absurd (true≢false (sym e));
}
