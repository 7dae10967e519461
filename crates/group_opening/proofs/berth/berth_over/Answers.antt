use Rattle.std.proofs.Common.{◌≡◌, Err, Some, ap, refl, subst}
use Rattle.node_rules.specs.declared.node.Parts.{Parts}
use Rattle.member_opening.specs.Restorings.{store_fault}
use Rattle.group_opening.specs.declared.berth.OpeningEnd.{OpeningEnd}
use Rattle.group_opening.proofs.Berthing.{berth-by}
use Rattle.group_opening.proofs.berth.berth_over.Goals as goal

pub returns-in-Ok-clause-berth : goal.returns-in-Ok-clause-berth
returns-in-Ok-clause-berth g c = λ images restored opens.
    let b = c.in-Ok.ensures in
    berth-by g.S.Service.meaning g.D.Disk.told g.D.Disk.cells images c.args.settings c.args.kept c.parts_in-parts.result
    (record { settings = c.args.settings; core = c.in-Ok.begun.core; head = c.in-Ok.begun.head; entries = c.parts_in-parts.result.entries; store = c.args.store })
    c.parts_in-parts.ensures restored opens c.requires.opened c.requires.restored refl b.whole b.other refl b.core.0 b.core.1.0 b.core.1.1 b.head

pub returns-in-Err-clause-refused : goal.returns-in-Err-clause-refused
returns-in-Err-clause-refused g c = λ entry is. subst (λ (p : Parts). store_fault g.S.Service.meaning c.args.settings p ≡ Some entry) c.parts_in-parts.ensures (c.in-Err.ensures.refused entry (ap (λ (x : OpeningEnd). Err x) is))
