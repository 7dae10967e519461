use Rattle.std.proofs.Common.{ℕ, Some, None, w32, w64, refl, sym, ap, ◌∙◌, arith, length-drop}
use Rattle.log_stream.proofs.Pieces.{at_is}
use Rattle.log_stream.proofs.Heads.{no_generation, no_length, no_snapshot, counts_found, counts_not}
use Rattle.log_stream.proofs.slot.counts_after.Goals as goal

pub returns-in_default-clause-counts : goal.returns-in_default-clause-counts
returns-in_default-clause-counts g c = λ told.
    let s = g.D.Disk.cells c.args.device.now in
    no_generation c.args.odd s.now (at_is w64 s s 1 c.in_ok-generation.field-0 None refl c.in_default.is (c.in_ok-generation.ensures.number told))

pub returns-in_default-2-clause-counts : goal.returns-in_default-2-clause-counts
returns-in_default-2-clause-counts g c = λ told.
    let s = g.D.Disk.cells c.args.device.now in
    no_length c.args.odd s.now c.in-Some.generation (at_is w64 s s 1 c.in_ok-generation.field-0 (Some c.in-Some.generation) refl c.in-Some.is (c.in_ok-generation.ensures.number told))
    (at_is w32 s (g.D.Disk.cells c.u64_at.new.device) 9 c.in_ok-size.field-0 None (c.u64_at.ensures.still told).same c.in_default-2.is (c.in_ok-size.ensures.number told))

pub returns-then-saturating_sub-size-clause-counts : goal.returns-then-saturating_sub-size-clause-counts
returns-then-saturating_sub-size-clause-counts g c = λ told.
    let s = g.D.Disk.cells c.args.device.now in
    no_snapshot c.args.odd s.now c.in-Some.generation c.in-Some-2.size (at_is w64 s s 1 c.in_ok-generation.field-0 (Some c.in-Some.generation) refl c.in-Some.is (c.in_ok-generation.ensures.number told))
    (at_is w32 s (g.D.Disk.cells c.u64_at.new.device) 9 c.in_ok-size.field-0 (Some c.in-Some-2.size) (c.u64_at.ensures.still told).same c.in-Some-2.is (c.in_ok-size.ensures.number told))
    (omega (arith, c.requires.long told, c.saturating_sub.ensures, c.from-size.ensures, c.if-saturating_sub-size.true, length-drop 13 s.now))

pub returns-then-uses-clause-counts : goal.returns-then-uses-clause-counts
returns-then-uses-clause-counts g c = λ told.
    let s = g.D.Disk.cells c.args.device.now in
    counts_found c.args.odd s.now c.in-Some.generation c.from-size.result (at_is w64 s s 1 c.in_ok-generation.field-0 (Some c.in-Some.generation) refl c.in-Some.is (c.in_ok-generation.ensures.number told))
    (at_is w32 s (g.D.Disk.cells c.u64_at.new.device) 9 c.in_ok-size.field-0 (Some c.from-size.result) (c.u64_at.ensures.still told).same (c.in-Some-2.is ∙ ap (λ (n : ℕ). Some n) (sym c.from-size.ensures)) (c.in_ok-size.ensures.number told))
    (omega (arith, c.requires.long told, c.saturating_sub.ensures, c.from-size.ensures, c.if-saturating_sub-size.false, length-drop 13 s.now))
    (sym c.uses.ensures ∙ c.if-uses.true)

pub returns-clause-counts : goal.returns-clause-counts
returns-clause-counts g c = λ told.
    let s = g.D.Disk.cells c.args.device.now in
    counts_not c.args.odd s.now c.in-Some.generation c.from-size.result (at_is w64 s s 1 c.in_ok-generation.field-0 (Some c.in-Some.generation) refl c.in-Some.is (c.in_ok-generation.ensures.number told))
    (at_is w32 s (g.D.Disk.cells c.u64_at.new.device) 9 c.in_ok-size.field-0 (Some c.from-size.result) (c.u64_at.ensures.still told).same (c.in-Some-2.is ∙ ap (λ (n : ℕ). Some n) (sym c.from-size.ensures)) (c.in_ok-size.ensures.number told))
    (omega (arith, c.requires.long told, c.saturating_sub.ensures, c.from-size.ensures, c.if-saturating_sub-size.false, length-drop 13 s.now))
    (sym c.uses.ensures ∙ c.if-uses.false)
