use Rattle.std.proofs.Common.{◌≡◌, ℕ, Some, sym, ap, subst, ◌∙◌}
use Rattle.faults.specs.Counts.{Rose}
use Rattle.disk_model.specs.Rooms.{address, address_of, cells_of_shelf, taken_of_shelf}
use Rattle.disk_model.proofs.Shelves.{none_there, found_there, changed, gone_faults, not_gone, not_both}
use Rattle.disk_model.proofs.room.MemRoomDiskRoom.keep.Goals as goal

pub returns-then-put_back-clause-disk : goal.returns-then-put_back-clause-disk
returns-then-put_back-clause-disk c =
    let here = address c.args.dir.now c.args.member c.args.device in
    let at = found_there here c.as_slice.result.now c.args.self.now.shelves.items c.index_at.result c.in-Some.index c.as_slice.ensures.value c.index_at.ensures c.in-Some.is in
    let is = changed here c.args.self.now.shelves.items c.in-Some.index c.index_mut.result.now c.put_back.new.shelf at c.index_mut.ensures.value (ap address_of c.put_back.ensures.shelf) in
    λ told. ap cells_of_shelf (is.now ∙ ap Some c.put_back.ensures.shelf)

pub returns-then-put_back-clause-back : goal.returns-then-put_back-clause-back
returns-then-put_back-clause-back c =
    let here = address c.args.dir.now c.args.member c.args.device in
    let at = found_there here c.as_slice.result.now c.args.self.now.shelves.items c.index_at.result c.in-Some.index c.as_slice.ensures.value c.index_at.ensures c.in-Some.is in
    let is = changed here c.args.self.now.shelves.items c.in-Some.index c.index_mut.result.now c.put_back.new.shelf at c.index_mut.ensures.value (ap address_of c.put_back.ensures.shelf) in
    ap taken_of_shelf (is.now ∙ ap Some c.put_back.ensures.shelf)

pub returns-then-put_back-clause-others : goal.returns-then-put_back-clause-others
returns-then-put_back-clause-others c =
    let here = address c.args.dir.now c.args.member c.args.device in
    let at = found_there here c.as_slice.result.now c.args.self.now.shelves.items c.index_at.result c.in-Some.index c.as_slice.ensures.value c.index_at.ensures c.in-Some.is in
    let is = changed here c.args.self.now.shelves.items c.in-Some.index c.index_mut.result.now c.put_back.new.shelf at c.index_mut.ensures.value (ap address_of c.put_back.ensures.shelf) in
    λ other apart. ap cells_of_shelf (is.others other apart)

pub returns-then-put_back-clause-others_taken : goal.returns-then-put_back-clause-others_taken
returns-then-put_back-clause-others_taken c =
    let here = address c.args.dir.now c.args.member c.args.device in
    let at = found_there here c.as_slice.result.now c.args.self.now.shelves.items c.index_at.result c.in-Some.index c.as_slice.ensures.value c.index_at.ensures c.in-Some.is in
    let is = changed here c.args.self.now.shelves.items c.in-Some.index c.index_mut.result.now c.put_back.new.shelf at c.index_mut.ensures.value (ap address_of c.put_back.ensures.shelf) in
    λ other apart. ap taken_of_shelf (is.others other apart)

pub returns-else-put_back-clause-disk : goal.returns-else-put_back-clause-disk
returns-else-put_back-clause-disk c =
    let here = address c.args.dir.now c.args.member c.args.device in
    let at = found_there here c.as_slice.result.now c.args.self.now.shelves.items c.index_at.result c.in-Some.index c.as_slice.ensures.value c.index_at.ensures c.in-Some.is in
    let is = changed here c.args.self.now.shelves.items c.in-Some.index c.index_mut.result.now c.put_back.new.shelf at c.index_mut.ensures.value (ap address_of c.put_back.ensures.shelf) in
    λ told. ap cells_of_shelf (is.now ∙ ap Some c.put_back.ensures.shelf)

pub returns-else-put_back-clause-back : goal.returns-else-put_back-clause-back
returns-else-put_back-clause-back c =
    let here = address c.args.dir.now c.args.member c.args.device in
    let at = found_there here c.as_slice.result.now c.args.self.now.shelves.items c.index_at.result c.in-Some.index c.as_slice.ensures.value c.index_at.ensures c.in-Some.is in
    let is = changed here c.args.self.now.shelves.items c.in-Some.index c.index_mut.result.now c.put_back.new.shelf at c.index_mut.ensures.value (ap address_of c.put_back.ensures.shelf) in
    ap taken_of_shelf (is.now ∙ ap Some c.put_back.ensures.shelf)

pub returns-else-put_back-clause-others : goal.returns-else-put_back-clause-others
returns-else-put_back-clause-others c =
    let here = address c.args.dir.now c.args.member c.args.device in
    let at = found_there here c.as_slice.result.now c.args.self.now.shelves.items c.index_at.result c.in-Some.index c.as_slice.ensures.value c.index_at.ensures c.in-Some.is in
    let is = changed here c.args.self.now.shelves.items c.in-Some.index c.index_mut.result.now c.put_back.new.shelf at c.index_mut.ensures.value (ap address_of c.put_back.ensures.shelf) in
    λ other apart. ap cells_of_shelf (is.others other apart)

pub returns-else-put_back-clause-others_taken : goal.returns-else-put_back-clause-others_taken
returns-else-put_back-clause-others_taken c =
    let here = address c.args.dir.now c.args.member c.args.device in
    let at = found_there here c.as_slice.result.now c.args.self.now.shelves.items c.index_at.result c.in-Some.index c.as_slice.ensures.value c.index_at.ensures c.in-Some.is in
    let is = changed here c.args.self.now.shelves.items c.in-Some.index c.index_mut.result.now c.put_back.new.shelf at c.index_mut.ensures.value (ap address_of c.put_back.ensures.shelf) in
    λ other apart. ap taken_of_shelf (is.others other apart)

pub returns-else-put_back-clause-rose : goal.returns-else-put_back-clause-rose
returns-else-put_back-clause-rose c =
    let here = address c.args.dir.now c.args.member c.args.device in
    let at = found_there here c.as_slice.result.now c.args.self.now.shelves.items c.index_at.result c.in-Some.index c.as_slice.ensures.value c.index_at.ensures c.in-Some.is in
    let is = changed here c.args.self.now.shelves.items c.in-Some.index c.index_mut.result.now c.put_back.new.shelf at c.index_mut.ensures.value (ap address_of c.put_back.ensures.shelf) in
    λ before taken rose.
    let noted : c.index_mut.result.now.faults ≡ before = gone_faults c.index_mut.result.now before (sym (ap taken_of_shelf is.before) ∙ taken) in
    absurd (not_both (sym c.if-put_back.false ∙ c.put_back.ensures.failed (subst (λ (n : ℕ). Rose n c.args.disk.faults) (sym noted) rose)))

pub returns-in_default-clause-disk : goal.returns-in_default-clause-disk
returns-in_default-clause-disk c =
    let here = address c.args.dir.now c.args.member c.args.device in
    absurd (not_gone c.args.self.now.shelves.items here c.requires (none_there here c.as_slice.result.now c.args.self.now.shelves.items c.index_at.result c.as_slice.ensures.value c.index_at.ensures (c.in_default.is)))

pub returns-in_default-clause-back : goal.returns-in_default-clause-back
returns-in_default-clause-back c =
    let here = address c.args.dir.now c.args.member c.args.device in
    absurd (not_gone c.args.self.now.shelves.items here c.requires (none_there here c.as_slice.result.now c.args.self.now.shelves.items c.index_at.result c.as_slice.ensures.value c.index_at.ensures (c.in_default.is)))

pub returns-in_default-clause-rose : goal.returns-in_default-clause-rose
returns-in_default-clause-rose c =
    let here = address c.args.dir.now c.args.member c.args.device in
    absurd (not_gone c.args.self.now.shelves.items here c.requires (none_there here c.as_slice.result.now c.args.self.now.shelves.items c.index_at.result c.as_slice.ensures.value c.index_at.ensures (c.in_default.is)))

pub returns-then-put_back-clause-steady : goal.returns-then-put_back-clause-steady
returns-then-put_back-clause-steady c =
    let here = address c.args.dir.now c.args.member c.args.device in
    let at = found_there here c.as_slice.result.now c.args.self.now.shelves.items c.index_at.result c.in-Some.index c.as_slice.ensures.value c.index_at.ensures c.in-Some.is in
    let is = changed here c.args.self.now.shelves.items c.in-Some.index c.index_mut.result.now c.put_back.new.shelf at c.index_mut.ensures.value (ap address_of c.put_back.ensures.shelf) in
    λ before taken not_risen.
    let noted : c.index_mut.result.now.faults ≡ before = gone_faults c.index_mut.result.now before (sym (ap taken_of_shelf is.before) ∙ taken) in
    absurd (not_risen (subst (λ (n : ℕ). Rose n c.args.disk.faults) noted (c.put_back.ensures.rose c.if-put_back.true)))
