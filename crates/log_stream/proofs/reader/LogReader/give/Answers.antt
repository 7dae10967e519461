use Rattle.std.proofs.Common.{◌∙◌, ◌-◌, ◌*◌, ℕ, min, ap}
use Rattle.log_stream.proofs.Places.{give_reads, give_comes}
use Rattle.log_stream.proofs.reader.LogReader.give.Goals as goal

pub returns-clause-reads : goal.returns-clause-reads
returns-clause-reads g c = λ told.
    let s = c.args.self.now in
    let e = c.goes.ensures in
    give_reads (g.D.Disk.cells c.args.device.now) (g.D.Disk.cells c.u32_at.new.device) (g.D.Disk.cells c.read.new.self) s c.goes.new.self c.u32_at.new.self c.in_ok-found.found c.least-size.result c.in_ok-entry.entry (c.requires.reads told) c.requires.some_left
    (c.u32_at.ensures.still told).same (c.read.ensures.same told) (c.in_ok-found.ensures.number told)
    (c.least-size.ensures ∙ ap (λ (n : ℕ). min n (s.end - s.at - 4 * s.left)) (c.from.ensures ∙ c.unwrap_or.ensures)) (c.in_ok-entry.ensures.bytes told) (c.u32_at.ensures.shows told)
    (record { shown = e.window; at = e.at; left = e.left; end = e.end; restored = e.restored; ended = e.ended; long = e.length })

pub returns-clause-entry : goal.returns-clause-entry
returns-clause-entry g c = λ told.
    let s = c.args.self.now in
    let e = c.goes.ensures in
    give_comes (g.D.Disk.cells c.args.device.now) (g.D.Disk.cells c.u32_at.new.device) (g.D.Disk.cells c.read.new.self) s c.goes.new.self c.u32_at.new.self c.in_ok-found.found c.least-size.result c.in_ok-entry.entry (c.requires.reads told) c.requires.some_left
    (c.u32_at.ensures.still told).same (c.read.ensures.same told) (c.in_ok-found.ensures.number told)
    (c.least-size.ensures ∙ ap (λ (n : ℕ). min n (s.end - s.at - 4 * s.left)) (c.from.ensures ∙ c.unwrap_or.ensures)) (c.in_ok-entry.ensures.bytes told) (c.u32_at.ensures.shows told)
    (record { shown = e.window; at = e.at; left = e.left; end = e.end; restored = e.restored; ended = e.ended; long = e.length })
