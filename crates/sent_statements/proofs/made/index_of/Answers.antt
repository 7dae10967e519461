use Rattle.std.proofs.Common.{◌∙◌, ap, List}
use Rattle.std.specs.HashSet.{contains}
use Rattle.std.specs.List.{list_any}
use Rattle.sent_statements.specs.declared.made.Made.{Made}
use Rattle.sent_statements.specs.Indexes.{same_made}
use Rattle.sent_statements.proofs.Lookups.{indexed}
use Rattle.sent_statements.proofs.made.index_of.Goals as goal

pub returns : goal.returns
returns c =
    indexed (contains same_made c.reserve.new.self) (contains same_made c.put_all.new.index) c.args.all.items
    (λ m. c.reserve.ensures.keys.2 m ∙ ap (λ (ks : List Made). list_any (same_made m) ks) c.new-index.ensures.empty) c.put_all.ensures
