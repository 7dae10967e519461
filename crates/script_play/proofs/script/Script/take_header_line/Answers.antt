use Rattle.std.proofs.Common.{◌≡◌, ◌∙◌, sym, subst, None, OnOk}
use Rattle.script_play.specs.Apps.{core_courses}
use Rattle.script_play.specs.Readings.{Reading}
use Rattle.script_play.proofs.ReadingCounts.{words-taken}
use Rattle.script_play.proofs.script.Script.take_header_line.Goals as goal

pub returns-clause-whole : goal.returns-clause-whole
returns-clause-whole c =
    let words = words-taken core_courses c.args.self.now c.args.bytes.now (sym c.is_printed.ensures ∙ c.if-not-is_printed.false) (sym c.is_short.ensures ∙ c.if-not-is_short.false)
    (sym c.is_nothing.ensures ∙ c.if-is_nothing.false) in
    subst (λ (q : Reading). OnOk c.take_header_words.result (q.refused ≡ None → c.take_header_words.new.self ≡ q)) (sym words) c.take_header_words.ensures.whole
