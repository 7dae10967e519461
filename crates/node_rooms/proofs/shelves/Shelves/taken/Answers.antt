use Rattle.std.proofs.Common.{sym, ap, ◌∙◌}
use Rattle.disk_model.specs.Rooms.{address}
use Rattle.node_rooms.specs.Shelves.{taken_of}
use Rattle.node_rooms.specs.declared.shelves.Shelf.{Shelf}
use Rattle.node_rooms.proofs.Found.{none_there, found_there, at_shelf}
use Rattle.node_rooms.proofs.shelves.Shelves.taken.Goals as goal

pub returns-in-None : goal.returns-in-None
returns-in-None c =
    let here = address c.args.dir.now c.args.member c.args.device in
    sym (ap taken_of (none_there here c.as_slice.result.now c.args.self.now.list.items c.index_at.result c.as_slice.ensures.value c.index_at.ensures c.in-None.is))

pub returns-in-Some : goal.returns-in-Some
returns-in-Some c =
    let here = address c.args.dir.now c.args.member c.args.device in
    let at = found_there here c.as_slice.result.now c.args.self.now.list.items c.index_at.result c.in-Some.index c.as_slice.ensures.value c.index_at.ensures c.in-Some.is in
    ap (λ (s : Shelf). s.taken) c.index.ensures ∙ sym (ap taken_of (at_shelf here c.args.self.now.list.items c.in-Some.index c.index.result.now at))
