use Rattle.std.proofs.Common.{◌∙◌, ◌++◌, ap, List, map}
use Rattle.std.specs.HashSet.{contains}
use Rattle.std.specs.List.{flat_map}
use Rattle.audit_rules.specs.Audits.{made_by}
use Rattle.sent_statements.specs.declared.made.Made.{Made}
use Rattle.sent_statements.specs.Indexes.{made_sealed, same_made}
use Rattle.sent_statements.proofs.Lookups.{index_is}
use Rattle.sent_statements.proofs.sending.sent_index.Goals as goal

pub returns : goal.returns
returns c =
    let made = flat_map made_by c.args.trails.now in
    let are = c.in_ok-keep_trails.ensures ∙ ap (λ (ms : List Made). map made_sealed ms ++ made) c.new-found.ensures.items in
    index_is (contains same_made c.in_ok-index.index) c.keep_trails.new.found.items made are c.in_ok-index.ensures
