use Rattle.std.proofs.Common.{◌<◌, length, arith, ap, sym, ◌∙◌}
use Rattle.certificates.specs.Certificates.{passed}
use Rattle.certificates.proofs.Marks.{fault-stranger, fault-twice, fault-no, marks-more}
use Rattle.certificates.proofs.list.mark.Goals as goal

pub returns-in_default-clause-value : goal.returns-in_default-clause-value
returns-in_default-clause-value c earlier before =
    sym (ap passed (fault-stranger c.args.view.now earlier c.args.signer (sym c.index_of.ensures.index ∙ c.in_default.is)))

pub returns-then-marks-index-clause-value : goal.returns-then-marks-index-clause-value
returns-then-marks-index-clause-value c earlier before =
    sym (ap passed (fault-twice c.args.view.now earlier c.args.marks.now c.args.signer c.in-Some.index (sym c.in-Some.ensures.index) c.if-marks-index.true before))

pub returns-clause-value : goal.returns-clause-value
returns-clause-value c earlier before =
    sym (ap passed (fault-no c.args.view.now earlier c.args.marks.now c.args.signer c.in-Some.index (sym c.in-Some.ensures.index) c.if-marks-index.false before))

pub returns-clause-marks : goal.returns-clause-marks
returns-clause-marks c earlier before =
    let few = c.in-Some.ensures.few in
    let within : c.in-Some.index < length c.args.marks.now = omega (arith, few, c.told-marks) in
    marks-more c.args.view.now earlier c.args.marks.now c.args.signer c.in-Some.index (sym c.in-Some.ensures.index) within before
