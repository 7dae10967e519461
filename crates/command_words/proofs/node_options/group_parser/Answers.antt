use Rattle.std.proofs.Common.{◌∙◌}
use Rattle.std.proofs.lemmas.Result.{IfOk-weaker}
use Rattle.clap.specs.Words.{rule_of, shape_of}
use Rattle.command_words.proofs.Optioned.{six_options}
use Rattle.command_words.proofs.node_options.group_parser.Goals as goal

pub returns-clause-shape : goal.returns-clause-shape
returns-clause-shape c =
    IfOk-weaker c.with_option-6.result _ _
    (λ group h. six_options (shape_of c.bare_group-group.result) (shape_of c.in_ok-group.group) (shape_of c.in_ok-group-2.group) (shape_of c.in_ok-group-3.group) (shape_of c.in_ok-group-4.group) (shape_of c.in_ok-group-5.group) (shape_of group)
    (rule_of c.needed_option.result) (rule_of c.needed_option-2.result) (rule_of c.needed_option-3.result) (rule_of c.needed_option-4.result) (rule_of c.needed_option-5.result) (rule_of c.needed_option-6.result)
    c.bare_group-group.ensures.shape c.in_ok-group.ensures.shape c.needed_option.ensures.rule c.in_ok-group-2.ensures.shape c.needed_option-2.ensures.rule c.in_ok-group-3.ensures.shape c.needed_option-3.ensures.rule
    c.in_ok-group-4.ensures.shape c.needed_option-4.ensures.rule c.in_ok-group-5.ensures.shape c.needed_option-5.ensures.rule h c.needed_option-6.ensures.rule)
    c.with_option-6.ensures.shape

pub returns-clause-local : goal.returns-clause-local
returns-clause-local c =
    IfOk-weaker c.with_option-6.result _ _
    (λ group h. h ∙ c.in_ok-group-5.ensures.globals ∙ c.in_ok-group-4.ensures.globals ∙ c.in_ok-group-3.ensures.globals ∙ c.in_ok-group-2.ensures.globals ∙ c.in_ok-group.ensures.globals ∙ c.bare_group-group.ensures.local)
    c.with_option-6.ensures.globals
