use Rattle.std.proofs.Common.{◌≡◌, ◌∙◌, sym, subst, arith, None, OnOk}
use Rattle.script_play.specs.Apps.{core_courses}
use Rattle.script_play.specs.Readings.{Reading}
use Rattle.script_play.proofs.ReadingCounts.{open-same}
use Rattle.script_play.proofs.script.Script.take_line.Goals as goal

pub returns-in-None-clause-whole : goal.returns-in-None-clause-whole
returns-in-None-clause-whole c =
    let s : Reading = record { group = c.self.inside.group; app = c.self.inside.app; play = c.self.inside.play; count = c.self.inside.count; refused = c.self.inside.refused } in
    let same = open-same core_courses c.args.self.now s c.args.bytes.now c.take.new.self (sym c.self.view_is) c.requires (omega (arith, c.if-self-ge-LINES.false)) (sym c.take.ensures.value ∙ c.in-None.is) c.take.ensures.after in
    subst (λ (q : Reading). OnOk c.take_header_line.result (q.refused ≡ None → c.take_header_line.new.self ≡ q)) (sym same) c.take_header_line.ensures.whole
