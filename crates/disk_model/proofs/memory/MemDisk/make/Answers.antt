use Rattle.std.proofs.Common.{◌≡◌, [], ◌∷◌, ◌++◌, rules}
use Rattle.disk_model.specs.Cells.{settled}
use Rattle.disk_model.specs.Platters.{cells_of}
use Rattle.disk_model.proofs.Kept.{keeps_up, elapses_to}
use Rattle.disk_model.proofs.memory.MemDisk.make.Goals as goal

pub invariant_of-self-2 : goal.invariant_of-self-2
invariant_of-self-2 c =
    let old = c.args.self.now in
    let noted : c.push_reserved.new.self.items ≡ old.changes.items ++ c.args.change ∷ [] = search rules in
    record { replayed = keeps_up old.changes.items c.push_reserved.new.self.items c.args.change (settled old.first) (cells_of old.platter) (cells_of c.apply.new.self) noted old.replayed c.in_ok-apply.ensures.ok }

pub returns-clause-time : goal.returns-clause-time
returns-clause-time c =
    let old = c.args.self.now in
    let noted : c.push_reserved.new.self.items ≡ old.changes.items ++ c.args.change ∷ [] = search rules in
    elapses_to old.first old.changes.items c.push_reserved.new.self.items c.args.change (cells_of c.apply.new.self) noted
    (keeps_up old.changes.items c.push_reserved.new.self.items c.args.change (settled old.first) (cells_of old.platter) (cells_of c.apply.new.self) noted old.replayed c.in_ok-apply.ensures.ok)
