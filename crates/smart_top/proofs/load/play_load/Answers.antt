use Rattle.std.proofs.Common.{◌∙◌, List, ap, sym, length, is_some, arith}
use Rattle.load_maker.specs.declared.line.LoadLine.{LoadLine}
use Rattle.script_play.specs.Readings.{Reading}
use Rattle.smart_top.proofs.Loading.{line_goes_on, line_ends, lines_read, lines_begin}
use Rattle.smart_top.proofs.load.play_load.Goals as goal
use Rattle.world_laws.proofs.Keeps.{none_is}

pub taking-init : goal.taking-init
taking-init c =
    record {
      going = ap (λ (r : Reading). r.refused) c.new-script.ensures;
      leads = lines_begin c.args.count c.new-script.result c.new-lines.result c.new-script.ensures c.new-lines.ensures;
    }

pub taking-preserved : goal.taking-preserved
taking-preserved c =
    let free = none_is c.take_load_line.new.script.refused (ap (λ x. is_some x) (sym c.refused.ensures) ∙ (sym c.is_some.ensures ∙ c.if-is_some.false)) in
    record {
      going = free;
      leads = line_goes_on c.args.count c.taking.script c.take_load_line.new.script c.in-Some.line c.taking.lines c.next.new.self c.in-Some.ensures.some
          (c.in_ok-take_load_line.ensures.whole (sym c.in_ok-take_load_line.ensures.refused ∙ free)) c.taking.invariant.leads;
    }

pub taking-smaller : goal.taking-smaller
taking-smaller c = omega (arith, ap (λ (lines : List LoadLine). length lines) c.in-Some.ensures.some)

pub returns-then-is_some-clause-refused : goal.returns-then-is_some-clause-refused
returns-then-is_some-clause-refused c =
    c.in_ok-take_load_line.ensures.refused
    ∙ ap (λ (r : Reading). r.refused)
    (sym (line_ends c.args.count c.taking.script c.take_load_line.new.script c.in-Some.line c.taking.lines c.next.new.self c.in-Some.ensures.some
    c.in_ok-take_load_line.ensures.refused (ap (λ x. is_some x) (sym c.refused.ensures) ∙ (sym c.is_some.ensures ∙ c.if-is_some.true)) c.taking.invariant.leads))

pub returns-then-is_some-clause-count : goal.returns-then-is_some-clause-count
returns-then-is_some-clause-count c =
    c.in_ok-take_load_line.ensures.count
    ∙ ap (λ (r : Reading). r.count)
    (sym (line_ends c.args.count c.taking.script c.take_load_line.new.script c.in-Some.line c.taking.lines c.next.new.self c.in-Some.ensures.some
    c.in_ok-take_load_line.ensures.refused (ap (λ x. is_some x) (sym c.refused.ensures) ∙ (sym c.is_some.ensures ∙ c.if-is_some.true)) c.taking.invariant.leads))

pub returns-clause-refused : goal.returns-clause-refused
returns-clause-refused c = ap (λ (r : Reading). r.refused) (sym (lines_read c.args.count c.taking.script c.taking.lines (c.next.ensures.none (ap (λ x. is_some x) c.in_default.is)) c.taking.invariant.leads))

pub returns-clause-count : goal.returns-clause-count
returns-clause-count c = ap (λ (r : Reading). r.count) (sym (lines_read c.args.count c.taking.script c.taking.lines (c.next.ensures.none (ap (λ x. is_some x) c.in_default.is)) c.taking.invariant.leads))

pub returns-clause-whole : goal.returns-clause-whole
returns-clause-whole c = λ going. sym (lines_read c.args.count c.taking.script c.taking.lines (c.next.ensures.none (ap (λ x. is_some x) c.in_default.is)) c.taking.invariant.leads)
