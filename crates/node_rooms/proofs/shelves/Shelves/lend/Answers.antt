use Rattle.std.proofs.Common.{List, Some, ap, ◌∙◌}
use Rattle.disk_model.specs.Rooms.{address}
use Rattle.node_rooms.specs.Shelves.{address_of, taken_of, sink_of, taken_at, sink_at}
use Rattle.node_rooms.specs.declared.shelves.Shelf.{Shelf}
use Rattle.node_rooms.proofs.Found.{none_there, found_there, pushed, pushed_other, changed, on-ok}
use Rattle.node_rooms.proofs.shelves.Shelves.lend.Goals as goal

pub returns-in-None-clause-taken : goal.returns-in-None-clause-taken
returns-in-None-clause-taken c =
    let here = address c.args.dir.now c.args.member c.args.device in
    let none = none_there here c.as_slice.result.now c.args.self.now.list.items c.index_at.result c.as_slice.ensures.value c.index_at.ensures c.in-None.is in
    on-ok c.add.result (λ is. ap (λ (l : List Shelf). taken_at l here) is ∙ ap taken_of (pushed here c.args.faults c.args.self.now.list.items none)) c.add.ensures.list

pub returns-in-None-clause-others : goal.returns-in-None-clause-others
returns-in-None-clause-others c =
    let here = address c.args.dir.now c.args.member c.args.device in
    on-ok c.add.result (λ is other apart. ap (λ (l : List Shelf). taken_at l other) is ∙ ap taken_of (pushed_other here other c.args.faults c.args.self.now.list.items apart)) c.add.ensures.list

pub returns-in-None-clause-other_sinks : goal.returns-in-None-clause-other_sinks
returns-in-None-clause-other_sinks c =
    let here = address c.args.dir.now c.args.member c.args.device in
    on-ok c.add.result (λ is other apart. ap (λ (l : List Shelf). sink_at l other) is ∙ ap sink_of (pushed_other here other c.args.faults c.args.self.now.list.items apart)) c.add.ensures.list

pub returns-in-Some-clause-taken : goal.returns-in-Some-clause-taken
returns-in-Some-clause-taken c =
    let here = address c.args.dir.now c.args.member c.args.device in
    let at = found_there here c.as_slice.result.now c.args.self.now.list.items c.index_at.result c.in-Some.index c.as_slice.ensures.value c.index_at.ensures c.in-Some.is in
    let is = changed here c.args.self.now.list.items c.in-Some.index c.index_mut.result.now c.refill.new.shelf at c.index_mut.ensures.value (ap address_of c.refill.ensures) in
    ap taken_of (is.now ∙ ap Some c.refill.ensures)

pub returns-in-Some-clause-others : goal.returns-in-Some-clause-others
returns-in-Some-clause-others c =
    let here = address c.args.dir.now c.args.member c.args.device in
    let at = found_there here c.as_slice.result.now c.args.self.now.list.items c.index_at.result c.in-Some.index c.as_slice.ensures.value c.index_at.ensures c.in-Some.is in
    let is = changed here c.args.self.now.list.items c.in-Some.index c.index_mut.result.now c.refill.new.shelf at c.index_mut.ensures.value (ap address_of c.refill.ensures) in
    λ other apart. ap taken_of (is.others other apart)

pub returns-in-Some-clause-other_sinks : goal.returns-in-Some-clause-other_sinks
returns-in-Some-clause-other_sinks c =
    let here = address c.args.dir.now c.args.member c.args.device in
    let at = found_there here c.as_slice.result.now c.args.self.now.list.items c.index_at.result c.in-Some.index c.as_slice.ensures.value c.index_at.ensures c.in-Some.is in
    let is = changed here c.args.self.now.list.items c.in-Some.index c.index_mut.result.now c.refill.new.shelf at c.index_mut.ensures.value (ap address_of c.refill.ensures) in
    λ other apart. ap sink_of (is.others other apart)
