use Rattle.std.proofs.Common.{◌≢◌, ◌∙◌, ◌-◌, ◌<◌, ℕ, sym, ap, length, get_or, arith}
use Rattle.batch_log.proofs.Spelled.{reads_groups, reads_torn, reads_clean, reads_end, reads_torn_job, reads_clean_job, no_gate, open_gate}
use Rattle.batch_log.proofs.reopening.read_log.Goals.{then-is_empty-via-then-is_empty, then-is_empty-via-else-is_empty+then-rest-ne0}
use Rattle.batch_log.proofs.reopening.read_log.Goals as goal

pub returns-then-is_empty-clause-groups : goal.returns-then-is_empty-clause-groups
returns-then-is_empty-clause-groups g c = λ told.
    reads_groups (g.D.Disk.cells c.args.device.now) (g.D.Disk.cells c.read_all.new.device) c.as_slice.result.now c.in-Ok.read.1.now c.in-Ok.read.0 (c.read_all.ensures.same told) (c.requires told)
    (c.as_slice.ensures ∙ c.in_ok-bytes.ensures.bytes told) c.in-Ok.ensures.parts.0 c.in-Ok.ensures.parts.1 c.in-Ok.ensures.parts.2

pub returns-then-is_empty-clause-stands : goal.returns-then-is_empty-clause-stands
returns-then-is_empty-clause-stands g c = λ told group.
    let torn : get_or c.in-Ok.read.1.now 0 1 ≢ 0 =
    elim c.then-is_empty.branch [
      | then-is_empty-via-then-is_empty w ↦ no_gate c.in-Ok.read.1.now (grind (arith, c.is_empty.ensures, w.if-is_empty.true))
      | then-is_empty-via-else-is_empty+then-rest-ne0 w ↦ open_gate c.in-Ok.read.1.now w.if-rest-ne0.true
    ] in
    reads_torn (g.D.Disk.cells c.args.device.now) (g.D.Disk.cells c.read_all.new.device) c.as_slice.result.now c.in-Ok.read.1.now c.in-Ok.read.0 (c.read_all.ensures.same told) (c.requires told)
    (c.as_slice.ensures ∙ c.in_ok-bytes.ensures.bytes told) c.in-Ok.ensures.parts.0 c.in-Ok.ensures.parts.1 c.in-Ok.ensures.parts.2
    (c.len.result - length c.in-Ok.read.1.now) (ap (λ (n : ℕ). n - length c.in-Ok.read.1.now) (c.len.ensures.value ∙ ap length (sym c.as_slice.ensures))) torn

pub returns-clause-groups : goal.returns-clause-groups
returns-clause-groups g c = λ told.
    reads_groups (g.D.Disk.cells c.args.device.now) (g.D.Disk.cells c.read_all.new.device) c.as_slice.result.now c.in-Ok.read.1.now c.in-Ok.read.0 (c.read_all.ensures.same told) (c.requires told)
    (c.as_slice.ensures ∙ c.in_ok-bytes.ensures.bytes told) c.in-Ok.ensures.parts.0 c.in-Ok.ensures.parts.1 c.in-Ok.ensures.parts.2

pub returns-clause-stands : goal.returns-clause-stands
returns-clause-stands g c = λ told group.
    let some : 0 < length c.in-Ok.read.1.now = grind (arith, c.is_empty.ensures, c.if-is_empty.false) in
    reads_clean (g.D.Disk.cells c.args.device.now) (g.D.Disk.cells c.read_all.new.device) c.as_slice.result.now c.in-Ok.read.1.now c.in-Ok.read.0 (c.read_all.ensures.same told) (c.requires told)
    (c.as_slice.ensures ∙ c.in_ok-bytes.ensures.bytes told) c.in-Ok.ensures.parts.0 c.in-Ok.ensures.parts.1 c.in-Ok.ensures.parts.2
    (c.len.result - length c.in-Ok.read.1.now) (ap (λ (n : ℕ). n - length c.in-Ok.read.1.now) (c.len.ensures.value ∙ ap length (sym c.as_slice.ensures))) some c.if-rest-ne0.false

pub returns-then-is_empty-clause-end : goal.returns-then-is_empty-clause-end
returns-then-is_empty-clause-end g c = λ told.
    reads_end (g.D.Disk.cells c.args.device.now) (g.D.Disk.cells c.read_all.new.device) c.as_slice.result.now c.in-Ok.read.1.now c.in-Ok.read.0 (c.read_all.ensures.same told) (c.requires told)
    (c.as_slice.ensures ∙ c.in_ok-bytes.ensures.bytes told) c.in-Ok.ensures.parts.0 c.in-Ok.ensures.parts.1 c.in-Ok.ensures.parts.2
    (c.len.result - length c.in-Ok.read.1.now) (ap (λ (n : ℕ). n - length c.in-Ok.read.1.now) (c.len.ensures.value ∙ ap length (sym c.as_slice.ensures)))

pub returns-then-is_empty-clause-job : goal.returns-then-is_empty-clause-job
returns-then-is_empty-clause-job g c = λ told.
    let torn : get_or c.in-Ok.read.1.now 0 1 ≢ 0 =
    elim c.then-is_empty.branch [
      | then-is_empty-via-then-is_empty w ↦ no_gate c.in-Ok.read.1.now (grind (arith, c.is_empty.ensures, w.if-is_empty.true))
      | then-is_empty-via-else-is_empty+then-rest-ne0 w ↦ open_gate c.in-Ok.read.1.now w.if-rest-ne0.true
    ] in
    reads_torn_job (g.D.Disk.cells c.args.device.now) (g.D.Disk.cells c.read_all.new.device) c.as_slice.result.now c.in-Ok.read.1.now c.in-Ok.read.0 (c.read_all.ensures.same told) (c.requires told)
    (c.as_slice.ensures ∙ c.in_ok-bytes.ensures.bytes told) c.in-Ok.ensures.parts.0 c.in-Ok.ensures.parts.1 c.in-Ok.ensures.parts.2
    torn

pub returns-clause-end : goal.returns-clause-end
returns-clause-end g c = λ told.
    reads_end (g.D.Disk.cells c.args.device.now) (g.D.Disk.cells c.read_all.new.device) c.as_slice.result.now c.in-Ok.read.1.now c.in-Ok.read.0 (c.read_all.ensures.same told) (c.requires told)
    (c.as_slice.ensures ∙ c.in_ok-bytes.ensures.bytes told) c.in-Ok.ensures.parts.0 c.in-Ok.ensures.parts.1 c.in-Ok.ensures.parts.2
    (c.len.result - length c.in-Ok.read.1.now) (ap (λ (n : ℕ). n - length c.in-Ok.read.1.now) (c.len.ensures.value ∙ ap length (sym c.as_slice.ensures)))

pub returns-clause-job : goal.returns-clause-job
returns-clause-job g c = λ told.
    let some : 0 < length c.in-Ok.read.1.now = grind (arith, c.is_empty.ensures, c.if-is_empty.false) in
    reads_clean_job (g.D.Disk.cells c.args.device.now) (g.D.Disk.cells c.read_all.new.device) c.as_slice.result.now c.in-Ok.read.1.now c.in-Ok.read.0 (c.read_all.ensures.same told) (c.requires told)
    (c.as_slice.ensures ∙ c.in_ok-bytes.ensures.bytes told) c.in-Ok.ensures.parts.0 c.in-Ok.ensures.parts.1 c.in-Ok.ensures.parts.2
    some c.if-rest-ne0.false
