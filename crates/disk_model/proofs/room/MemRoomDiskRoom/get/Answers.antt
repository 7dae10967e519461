use Rattle.std.proofs.Common.{◌≡◌, Option, Some, None, IsSome, sym, ap, ◌∙◌, subst}
use Rattle.disk_model.specs.Rooms.{address, address_of, cells_of_kept, noted_faults, cells_of_shelf, taken_of_shelf, faults_if_gone}
use Rattle.disk_model.specs.declared.room.Shelf.{Shelf}
use Rattle.disk_model.specs.declared.memory.MemDisk.{MemDisk}
use Rattle.disk_model.proofs.Shelves.{none_there, found_there, pushed, pushed_other, changed, not_gone, not_both}
use Rattle.disk_model.proofs.room.MemRoomDiskRoom.get.Goals as goal

pub returns-in-Ok-clause-disk : goal.returns-in-Ok-clause-disk
returns-in-Ok-clause-disk c =
    let here = address c.args.dir.now c.args.member c.args.device in
    λ told. c.in-Ok.ensures.disk
    ∙ sym (ap cells_of_shelf (none_there here c.as_slice.result.now c.args.self.now.shelves.items c.index_at.result c.as_slice.ensures.value c.index_at.ensures c.in-None.is))

pub returns-in-Ok-clause-taken : goal.returns-in-Ok-clause-taken
returns-in-Ok-clause-taken c =
    let here = address c.args.dir.now c.args.member c.args.device in
    let none = none_there here c.as_slice.result.now c.args.self.now.shelves.items c.index_at.result c.as_slice.ensures.value c.index_at.ensures c.in-None.is in
    rw (c.in-Ok.ensures.shelves, c.in-Ok.ensures.sound) (ap taken_of_shelf (pushed here c.args.self.now.shelves.items none))

pub returns-in-Ok-clause-others : goal.returns-in-Ok-clause-others
returns-in-Ok-clause-others c =
    let here = address c.args.dir.now c.args.member c.args.device in
    λ other apart. rw c.in-Ok.ensures.shelves (ap cells_of_shelf (pushed_other here other c.args.self.now.shelves.items apart))

pub returns-in-Ok-clause-others_taken : goal.returns-in-Ok-clause-others_taken
returns-in-Ok-clause-others_taken c =
    let here = address c.args.dir.now c.args.member c.args.device in
    λ other apart. rw c.in-Ok.ensures.shelves (ap taken_of_shelf (pushed_other here other c.args.self.now.shelves.items apart))

pub returns-in-Some-take-clause-disk : goal.returns-in-Some-take-clause-disk
returns-in-Some-take-clause-disk c =
    let here = address c.args.dir.now c.args.member c.args.device in
    let at = found_there here c.as_slice.result.now c.args.self.now.shelves.items c.index_at.result c.in-Some.index c.as_slice.ensures.value c.index_at.ensures c.in-Some.is in
    let is = changed here c.args.self.now.shelves.items c.in-Some.index c.index_mut.result.now c.take.new.shelf at c.index_mut.ensures.value (ap address_of c.take.ensures.shelf) in
    λ told. sym (ap cells_of_shelf is.before ∙ ap cells_of_kept (sym c.take.ensures.disk ∙ c.in-Some-take.is))

pub returns-in-Some-take-clause-taken : goal.returns-in-Some-take-clause-taken
returns-in-Some-take-clause-taken c =
    let here = address c.args.dir.now c.args.member c.args.device in
    let at = found_there here c.as_slice.result.now c.args.self.now.shelves.items c.index_at.result c.in-Some.index c.as_slice.ensures.value c.index_at.ensures c.in-Some.is in
    let is = changed here c.args.self.now.shelves.items c.in-Some.index c.index_mut.result.now c.take.new.shelf at c.index_mut.ensures.value (ap address_of c.take.ensures.shelf) in
    ap taken_of_shelf (is.now ∙ ap Some c.take.ensures.shelf) ∙ ap (λ (disk : Option MemDisk). Some (noted_faults disk c.index_mut.result.now.faults)) (sym c.take.ensures.disk ∙ c.in-Some-take.is)

pub returns-in-Some-take-clause-others : goal.returns-in-Some-take-clause-others
returns-in-Some-take-clause-others c =
    let here = address c.args.dir.now c.args.member c.args.device in
    let at = found_there here c.as_slice.result.now c.args.self.now.shelves.items c.index_at.result c.in-Some.index c.as_slice.ensures.value c.index_at.ensures c.in-Some.is in
    let is = changed here c.args.self.now.shelves.items c.in-Some.index c.index_mut.result.now c.take.new.shelf at c.index_mut.ensures.value (ap address_of c.take.ensures.shelf) in
    λ other apart. ap cells_of_shelf (is.others other apart)

pub returns-in-Some-take-clause-others_taken : goal.returns-in-Some-take-clause-others_taken
returns-in-Some-take-clause-others_taken c =
    let here = address c.args.dir.now c.args.member c.args.device in
    let at = found_there here c.as_slice.result.now c.args.self.now.shelves.items c.index_at.result c.in-Some.index c.as_slice.ensures.value c.index_at.ensures c.in-Some.is in
    let is = changed here c.args.self.now.shelves.items c.in-Some.index c.index_mut.result.now c.take.new.shelf at c.index_mut.ensures.value (ap address_of c.take.ensures.shelf) in
    λ other apart. ap taken_of_shelf (is.others other apart)

pub returns-in-None-take-clause-refused : goal.returns-in-None-take-clause-refused
returns-in-None-take-clause-refused c =
    let here = address c.args.dir.now c.args.member c.args.device in
    let at = found_there here c.as_slice.result.now c.args.self.now.shelves.items c.index_at.result c.in-Some.index c.as_slice.ensures.value c.index_at.ensures c.in-Some.is in
    let is = changed here c.args.self.now.shelves.items c.in-Some.index c.index_mut.result.now c.take.new.shelf at c.index_mut.ensures.value (ap address_of c.take.ensures.shelf) in
    let gone : c.index_mut.result.now.disk ≡ None = sym c.take.ensures.disk ∙ c.in-None-take.is in
    rw c.fault.ensures.shelves (ap cells_of_shelf is.now ∙ (ap (λ (s : Shelf). cells_of_shelf (Some s)) c.take.ensures.shelf ∙ (ap cells_of_kept (sym gone) ∙ sym (ap cells_of_shelf is.before))))

pub returns-in-None-take-clause-refused_taken : goal.returns-in-None-take-clause-refused_taken
returns-in-None-take-clause-refused_taken c =
    let here = address c.args.dir.now c.args.member c.args.device in
    let at = found_there here c.as_slice.result.now c.args.self.now.shelves.items c.index_at.result c.in-Some.index c.as_slice.ensures.value c.index_at.ensures c.in-Some.is in
    let is = changed here c.args.self.now.shelves.items c.in-Some.index c.index_mut.result.now c.take.new.shelf at c.index_mut.ensures.value (ap address_of c.take.ensures.shelf) in
    let gone : c.index_mut.result.now.disk ≡ None = sym c.take.ensures.disk ∙ c.in-None-take.is in
    rw c.fault.ensures.shelves (ap taken_of_shelf is.now ∙ (ap (λ (s : Shelf). taken_of_shelf (Some s)) c.take.ensures.shelf ∙ (ap (λ (disk : Option MemDisk). Some (noted_faults disk c.index_mut.result.now.faults)) gone ∙ (ap (λ (disk : Option MemDisk). faults_if_gone disk c.index_mut.result.now.faults) (sym gone) ∙ sym (ap taken_of_shelf is.before)))))

pub returns-in-Ok-clause-free : goal.returns-in-Ok-clause-free
returns-in-Ok-clause-free c =
    let here = address c.args.dir.now c.args.member c.args.device in
    ap taken_of_shelf (none_there here c.as_slice.result.now c.args.self.now.shelves.items c.index_at.result c.as_slice.ensures.value c.index_at.ensures c.in-None.is)

pub returns-in-Ok-clause-not_twice : goal.returns-in-Ok-clause-not_twice
returns-in-Ok-clause-not_twice c =
    let here = address c.args.dir.now c.args.member c.args.device in
    λ gone. absurd (not_gone c.args.self.now.shelves.items here gone (none_there here c.as_slice.result.now c.args.self.now.shelves.items c.index_at.result c.as_slice.ensures.value c.index_at.ensures c.in-None.is))

pub returns-in-Err-clause-not_twice : goal.returns-in-Err-clause-not_twice
returns-in-Err-clause-not_twice c =
    let here = address c.args.dir.now c.args.member c.args.device in
    λ gone. absurd (not_gone c.args.self.now.shelves.items here gone (none_there here c.as_slice.result.now c.args.self.now.shelves.items c.index_at.result c.as_slice.ensures.value c.index_at.ensures c.in-None.is))

pub returns-in-Some-take-clause-free : goal.returns-in-Some-take-clause-free
returns-in-Some-take-clause-free c =
    let here = address c.args.dir.now c.args.member c.args.device in
    let at = found_there here c.as_slice.result.now c.args.self.now.shelves.items c.index_at.result c.in-Some.index c.as_slice.ensures.value c.index_at.ensures c.in-Some.is in
    let is = changed here c.args.self.now.shelves.items c.in-Some.index c.index_mut.result.now c.take.new.shelf at c.index_mut.ensures.value (ap address_of c.take.ensures.shelf) in
    ap taken_of_shelf is.before ∙ ap (λ (disk : Option MemDisk). faults_if_gone disk c.index_mut.result.now.faults) (sym c.take.ensures.disk ∙ c.in-Some-take.is)

pub returns-in-Some-take-clause-not_twice : goal.returns-in-Some-take-clause-not_twice
returns-in-Some-take-clause-not_twice c =
    let here = address c.args.dir.now c.args.member c.args.device in
    let at = found_there here c.as_slice.result.now c.args.self.now.shelves.items c.index_at.result c.in-Some.index c.as_slice.ensures.value c.index_at.ensures c.in-Some.is in
    let is = changed here c.args.self.now.shelves.items c.in-Some.index c.index_mut.result.now c.take.new.shelf at c.index_mut.ensures.value (ap address_of c.take.ensures.shelf) in
    λ gone. absurd (not_both (subst IsSome (ap taken_of_shelf is.before ∙ ap (λ (disk : Option MemDisk). faults_if_gone disk c.index_mut.result.now.faults) (sym c.take.ensures.disk ∙ c.in-Some-take.is)) gone))
