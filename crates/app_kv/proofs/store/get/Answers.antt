use Rattle.std.proofs.Common.{ap, ◌∙◌, ◌++◌, List, ℕ, codes}
use Rattle.app_kv.specs.declared.store.Entry.{Entry}
use Rattle.app_kv.proofs.Turns.{told_as, get_told}
use Rattle.app_kv.proofs.store.get.Goals as goal

pub returns-in-Ok : goal.returns-in-Ok
returns-in-Ok c =
    let d : Entry = c.index-entries-at.result in
    told_as c.told.result _ _
    (ap (λ (text : List ℕ). codes "=" ++ text) c.as_slice.ensures
    ∙ get_told c.args.entries.now c.args.key.now c.in-Ok.at c.in-Ok.ensures.found c.requires d)
    c.told.ensures
