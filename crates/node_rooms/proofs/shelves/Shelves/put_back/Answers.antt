use Rattle.std.proofs.Common.{Some, ap, ◌∙◌}
use Rattle.disk_model.specs.Rooms.{address}
use Rattle.node_rooms.specs.Shelves.{address_of, taken_of, sink_of}
use Rattle.node_rooms.proofs.Found.{none_there, found_there, changed, not-taken}
use Rattle.node_rooms.proofs.shelves.Shelves.put_back.Goals as goal

pub returns-in-Some-clause-taken : goal.returns-in-Some-clause-taken
returns-in-Some-clause-taken c =
    let here = address c.args.dir.now c.args.member c.args.device in
    let at = found_there here c.as_slice.result.now c.args.self.now.list.items c.index_at.result c.in-Some.index c.as_slice.ensures.value c.index_at.ensures c.in-Some.is in
    let is = changed here c.args.self.now.list.items c.in-Some.index c.index_mut.result.now c.refill.new.shelf at c.index_mut.ensures.value (ap address_of c.refill.ensures) in
    ap taken_of (is.now ∙ ap Some c.refill.ensures)

pub returns-in-Some-clause-sink : goal.returns-in-Some-clause-sink
returns-in-Some-clause-sink c =
    let here = address c.args.dir.now c.args.member c.args.device in
    let at = found_there here c.as_slice.result.now c.args.self.now.list.items c.index_at.result c.in-Some.index c.as_slice.ensures.value c.index_at.ensures c.in-Some.is in
    let is = changed here c.args.self.now.list.items c.in-Some.index c.index_mut.result.now c.refill.new.shelf at c.index_mut.ensures.value (ap address_of c.refill.ensures) in
    ap sink_of (is.now ∙ ap Some c.refill.ensures)

pub returns-in-Some-clause-others : goal.returns-in-Some-clause-others
returns-in-Some-clause-others c =
    let here = address c.args.dir.now c.args.member c.args.device in
    let at = found_there here c.as_slice.result.now c.args.self.now.list.items c.index_at.result c.in-Some.index c.as_slice.ensures.value c.index_at.ensures c.in-Some.is in
    let is = changed here c.args.self.now.list.items c.in-Some.index c.index_mut.result.now c.refill.new.shelf at c.index_mut.ensures.value (ap address_of c.refill.ensures) in
    λ other apart. ap taken_of (is.others other apart)

pub returns-in-Some-clause-other_sinks : goal.returns-in-Some-clause-other_sinks
returns-in-Some-clause-other_sinks c =
    let here = address c.args.dir.now c.args.member c.args.device in
    let at = found_there here c.as_slice.result.now c.args.self.now.list.items c.index_at.result c.in-Some.index c.as_slice.ensures.value c.index_at.ensures c.in-Some.is in
    let is = changed here c.args.self.now.list.items c.in-Some.index c.index_mut.result.now c.refill.new.shelf at c.index_mut.ensures.value (ap address_of c.refill.ensures) in
    λ other apart. ap sink_of (is.others other apart)

pub returns-in_default-clause-taken : goal.returns-in_default-clause-taken
returns-in_default-clause-taken c =
    let here = address c.args.dir.now c.args.member c.args.device in
    absurd (not-taken c.args.self.now.list.items here c.requires (none_there here c.as_slice.result.now c.args.self.now.list.items c.index_at.result c.as_slice.ensures.value c.index_at.ensures c.in_default.is))

pub returns-in_default-clause-sink : goal.returns-in_default-clause-sink
returns-in_default-clause-sink c =
    let here = address c.args.dir.now c.args.member c.args.device in
    absurd (not-taken c.args.self.now.list.items here c.requires (none_there here c.as_slice.result.now c.args.self.now.list.items c.index_at.result c.as_slice.ensures.value c.index_at.ensures c.in_default.is))
