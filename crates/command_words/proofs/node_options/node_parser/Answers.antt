use Rattle.std.proofs.Common.{◌≡◌, ◌∙◌, false, rules}
use Rattle.std.proofs.lemmas.Result.{IfOk-weaker}
use Rattle.clap.specs.Words.{rule_of, shape_of}
use Rattle.clap.specs.declared.builder.command.Command.TheViews.{out-Command}
use Rattle.command_words.proofs.Optioned.{five_options}
use Rattle.command_words.proofs.node_options.node_parser.Goals as goal

pub returns-clause-shape : goal.returns-clause-shape
returns-clause-shape c =
    IfOk-weaker c.with_option-5.result _ _
    (λ node h. five_options (shape_of c.after_help-node.result) (shape_of c.in_ok-node.node) (shape_of c.in_ok-node-2.node) (shape_of c.in_ok-node-3.node) (shape_of c.in_ok-node-4.node) (shape_of node)
    (rule_of c.needed_option.result) (rule_of c.needed_option-2.result) (rule_of c.needed_option-3.result) (rule_of c.needed_option-4.result) (rule_of c.option.result)
    (search rules) c.in_ok-node.ensures.shape c.needed_option.ensures.rule c.in_ok-node-2.ensures.shape c.needed_option-2.ensures.rule c.in_ok-node-3.ensures.shape c.needed_option-3.ensures.rule
    c.in_ok-node-4.ensures.shape c.needed_option-4.ensures.rule h c.option.ensures.rule)
    c.with_option-5.ensures.shape

pub returns-clause-local : goal.returns-clause-local
returns-clause-local c =
    let first : (out-Command c.after_help-node.result).has_globals ≡ false = search rules in
    IfOk-weaker c.with_option-5.result _ _
    (λ node h. h ∙ c.in_ok-node-4.ensures.globals ∙ c.in_ok-node-3.ensures.globals ∙ c.in_ok-node-2.ensures.globals ∙ c.in_ok-node.ensures.globals ∙ first)
    c.with_option-5.ensures.globals
