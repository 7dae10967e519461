use Rattle.std.proofs.Common.{◌∙◌, ap, string_bytes}
use Rattle.std.proofs.lemmas.Result.{IfOk-weaker}
use Rattle.script_play.specs.Totals.{summary_text}
use Rattle.smart_top.proofs.Loading.{never_another, load_summarized}
use Rattle.smart_top.proofs.load.load_summary.Goals as goal

pub world_of-requires : goal.world_of-requires
world_of-requires c = never_another c.args.count c.args.script.now c.requires.read

pub returns : goal.returns
returns c =
    IfOk-weaker c.summary.result _ _
    (λ text is. load_summarized c.args.count c.args.script.now c.world_of.result.now (string_bytes text) c.requires.read c.requires.whole c.world_of.ensures
    (is ∙ ap (λ t. summary_text c.args.count t) c.in_ok-totals.ensures))
    c.summary.ensures
