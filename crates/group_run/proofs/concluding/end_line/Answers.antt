use Rattle.std.proofs.Common.{◌∙◌, refl, sym}
use Rattle.group_client.specs.Loops.{Output}
use Rattle.group_client.specs.declared.reply_line.LineFault.TheVariants as lines
use Rattle.group_run.proofs.Conclusions.{concluded-cut, concluded-ok, concluded-silent}
use Rattle.group_run.proofs.Unrun.{err-of}
use Rattle.group_run.proofs.concluding.end_line.Goals as goal

pub returns-in-Ok-write_coherent : goal.returns-in-Ok-write_coherent
returns-in-Ok-write_coherent g c = λ recorded whole failures end polls found audited is.
    let w = g.W.Sink in
    let before : Output = record { written = w.written c.args.output.now; faults = w.faults c.args.output.now; wants = w.wants c.args.output.now } in
    let after : Output = record { written = w.written c.write_coherent.new.output; faults = w.faults c.write_coherent.new.output; wants = w.wants c.write_coherent.new.output } in
    concluded-ok recorded whole failures end polls found audited before after (sym is ∙ c.in-Ok.is) c.in-Ok-write_coherent.ensures.ok c.in-Ok-write_coherent.ensures.later

pub returns-in-Err : goal.returns-in-Err
returns-in-Err g c = λ recorded whole failures end polls found audited is.
    let w = g.W.Sink in
    let before : Output = record { written = w.written c.args.output.now; faults = w.faults c.args.output.now; wants = w.wants c.args.output.now } in
    let after : Output = record { written = w.written c.write_coherent.new.output; faults = w.faults c.write_coherent.new.output; wants = w.wants c.write_coherent.new.output } in
    let fault = c.in-Err.fault in
    let found-by = c.in-Err.ensures in
    concluded-cut recorded whole failures end polls found audited fault c.line_status.result before after (sym is ∙ c.in-Ok.is) c.line_status.ensures found-by.err (λ same. found-by.none (err-of fault lines.NoMemory same))
    (λ same. found-by.failed (err-of fault lines.Failed same)) (λ same. found-by.want (err-of fault lines.SinkMemory same)) found-by.later

pub returns-in_default : goal.returns-in_default
returns-in_default g c = λ recorded whole failures end polls found audited is.
    let w = g.W.Sink in
    let before : Output = record { written = w.written c.args.output.now; faults = w.faults c.args.output.now; wants = w.wants c.args.output.now } in
    concluded-silent recorded whole failures end polls found audited c.args.status before before is c.in_default.not-Ok refl
