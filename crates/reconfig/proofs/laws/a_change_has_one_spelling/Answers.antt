use Rattle.reconfig.proofs.Changes.{read_again, read_is, is_apart}
use Rattle.reconfig.proofs.laws.a_change_has_one_spelling.Goals as goal

pub returns : goal.returns
returns c = record { read = read_again; alone = read_is; apart = is_apart }
