use Rattle.std.proofs.Common.{◌∙◌, ap}
use Rattle.script_play.specs.Apps.{core_courses}
use Rattle.script_play.specs.Readings.{Reading}
use Rattle.script_play.proofs.Played.{told-done, after-line, line-done, line-refused, none_refused}
use Rattle.script_play.proofs.script.Script.take_meant.Goals as goal

pub returns-in-Ok-clause-told : goal.returns-in-Ok-clause-told
returns-in-Ok-clause-told c = told-done core_courses c.args.play c.args.line _ _ c.in_ok-why.ensures.answer c.in-Ok.is

pub returns-in-Ok-clause-refused : goal.returns-in-Ok-clause-refused
returns-in-Ok-clause-refused c =
    let s : Reading = record { group = c.self.inside.group; app = c.self.inside.app; play = c.self.inside.play; count = c.self.inside.count; refused = c.self.inside.refused } in
    ap (λ (r : Reading). r.refused) (line-done core_courses c.args.self.now s c.args.play c.play.new.self c.args.line _ _ c.self.view_is c.in_ok-why.ensures.answer c.in-Ok.is
    (after-line core_courses c.args.play c.play.new.self c.args.line _ _ c.in-Ok.is c.in_ok-why.ensures.after))

pub returns-in-Ok-clause-count : goal.returns-in-Ok-clause-count
returns-in-Ok-clause-count c =
    let s : Reading = record { group = c.self.inside.group; app = c.self.inside.app; play = c.self.inside.play; count = c.self.inside.count; refused = c.self.inside.refused } in
    ap (λ (r : Reading). r.count) (line-done core_courses c.args.self.now s c.args.play c.play.new.self c.args.line _ _ c.self.view_is c.in_ok-why.ensures.answer c.in-Ok.is
    (after-line core_courses c.args.play c.play.new.self c.args.line _ _ c.in-Ok.is c.in_ok-why.ensures.after))

pub returns-in-Ok-clause-whole : goal.returns-in-Ok-clause-whole
returns-in-Ok-clause-whole c = λ none.
    let s : Reading = record { group = c.self.inside.group; app = c.self.inside.app; play = c.self.inside.play; count = c.self.inside.count; refused = c.self.inside.refused } in
    line-done core_courses c.args.self.now s c.args.play c.play.new.self c.args.line _ _ c.self.view_is c.in_ok-why.ensures.answer c.in-Ok.is
    (after-line core_courses c.args.play c.play.new.self c.args.line _ _ c.in-Ok.is c.in_ok-why.ensures.after)

pub returns-in-Err-clause-told : goal.returns-in-Err-clause-told
returns-in-Err-clause-told c = c.refuse.ensures.told ∙ told-done core_courses c.args.play c.args.line _ _ c.in_ok-why.ensures.answer c.in-Err.is

pub returns-in-Err-clause-refused : goal.returns-in-Err-clause-refused
returns-in-Err-clause-refused c =
    ap (λ (r : Reading). r.refused) c.refuse.ensures.refused
    ∙ ap (λ (r : Reading). r.refused) (line-refused core_courses c.args.self.now c.args.play c.args.line _ _ c.in_ok-why.ensures.answer c.in-Err.is)

pub returns-in-Err-clause-count : goal.returns-in-Err-clause-count
returns-in-Err-clause-count c =
    ap (λ (r : Reading). r.count) c.refuse.ensures.refused
    ∙ ap (λ (r : Reading). r.count) (line-refused core_courses c.args.self.now c.args.play c.args.line _ _ c.in_ok-why.ensures.answer c.in-Err.is)

pub returns-in-Err-clause-whole : goal.returns-in-Err-clause-whole
returns-in-Err-clause-whole c = λ none.
    absurd (none_refused c.in-Err.why (ap (λ (r : Reading). r.refused) (line-refused core_courses c.args.self.now c.args.play c.args.line _ _ c.in_ok-why.ensures.answer c.in-Err.is) ∙ none))
