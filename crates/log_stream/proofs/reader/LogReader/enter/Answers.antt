use Rattle.std.proofs.Common.{◌≡◌, ◌+◌, ◌∙◌, Option, Some, w8, ℕ, refl, sym, subst}
use Rattle.disk_model.specs.Cells.{Cells}
use Rattle.log_stream.specs.Windows.{Shows, IsAt}
use Rattle.log_stream.specs.Walks.{GroupFound, Whole}
use Rattle.log_stream.specs.declared.window.Window.{Window}
use Rattle.log_stream.proofs.Pieces.{at_is}
use Rattle.log_stream.proofs.Places.{place_is, place_further, reads_further}
use Rattle.log_stream.proofs.reader.LogReader.enter.Goals as goal

pub returns-clause-reads : goal.returns-clause-reads
returns-clause-reads g c = λ told.
    let s = c.args.self.now in
    let s0 = g.D.Disk.cells c.args.device.now in
    let s1 = g.D.Disk.cells c.u8_at.new.device in
    let s2 = g.D.Disk.cells c.group_after.new.device in
    let r = c.requires.reads told in
    let e = c.begins.ensures in
    let f = c.in-Some-group.found in
    let same : s1 ≡ s0 = (c.u8_at.ensures.still told).same in
    let same_too : s2 ≡ s0 = (c.group_after.ensures.still told).same ∙ same in
    let is : IsAt w8 s0.now s.end (Some c.in-Some.gate) = at_is w8 s0 s0 s.end c.in_ok-gate.field-0 (Some c.in-Some.gate) refl c.in-Some.is (c.in_ok-gate.ensures.number told) in
    let found : GroupFound s1.now s.end (Some f) = subst (λ (o : Option (ℕ × ℕ)). GroupFound s1.now s.end o) c.in-Some-group.is (c.in_ok-group.ensures.found told) in
    let whole : Whole s0.now s.end f.0 f.1 = subst (λ (x : Cells). Whole x.now s.end f.0 f.1) same found in
    let place = place_further s0.now s.at s.left s.end s.restored c.in-Some.gate f.0 f.1 r.place c.requires.none_left is c.if-gate-ne1.false whole in
    reads_further s0 s2 s c.begins.new.self same_too
    (place_is s0.now (s.end + 17) f.0 f.1 s.restored c.begins.new.self.at c.begins.new.self.left c.begins.new.self.end c.begins.new.self.restored e.at e.left e.end e.restored place) e.length
    (subst (λ (w : Window). Shows s2.now w) (sym e.window) (c.group_after.ensures.shows told)) r e.ended
