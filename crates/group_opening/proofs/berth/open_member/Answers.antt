use Rattle.std.proofs.Common.{◌≡◌, ◌∙◌, Err, ap, sym, subst}
use Rattle.faults.specs.declared.Fault.{Fault}
use Rattle.durable_store.specs.Disks.{contents}
use Rattle.member_opening.specs.Devices.{images_at}
use Rattle.member_opening.specs.declared.settings.Settings.{Settings}
use Rattle.member_opening.proofs.Held.{held-still}
use Rattle.group_opening.specs.Berths.{IsBerth, IsRefusedBy}
use Rattle.group_opening.specs.declared.berth.OpeningEnd.TheVariants as ends
use Rattle.group_opening.proofs.Berthing.{berth-along, refused-along}
use Rattle.group_opening.proofs.Opening.{rose-since}
use Rattle.group_opening.proofs.berth.open_member.Goals as goal

pub put_back-requires : goal.put_back-requires
put_back-requires g c = held-still _ _ _ _ _ _ c.in-Ok-take_devices.ensures.held c.in-Err-berth_on.ensures.later_back

-- ---- it is opened

pub returns-in-Ok-berth_on-clause-berth : goal.returns-in-Ok-berth_on-clause-berth
returns-in-Ok-berth_on-clause-berth g c =
    let d = g.M.Disk.Disk in
    let images = images_at (g.M.DiskRoom.cells c.args.room.now) c.args.group.now.dir c.args.member in
    let had : d.told → contents d.cells c.in-Ok-take_devices.disks ≡ images = rw c.as_slice-dir.ensures at c.in-Ok-take_devices.ensures.contents in
    subst (λ (s : Settings). IsBerth g.S.Service.meaning d.told d.cells images s c.in-Ok-berth_on.berth) c.in-Ok.ensures
    (berth-along g.S.Service.meaning d.told d.cells (contents d.cells c.in-Ok-take_devices.disks) images c.in-Ok.settings c.in-Ok-berth_on.berth had c.in-Ok-berth_on.ensures.berth)

pub returns-in-Ok-berth_on-clause-held : goal.returns-in-Ok-berth_on-clause-held
returns-in-Ok-berth_on-clause-held g c = rw c.as_slice-dir.ensures at (held-still _ _ _ _ _ _ c.in-Ok-take_devices.ensures.held c.in-Ok-berth_on.ensures.later)

pub returns-in-Ok-berth_on-clause-free : goal.returns-in-Ok-berth_on-clause-free
returns-in-Ok-berth_on-clause-free g c = rw c.as_slice-dir.ensures at c.in-Ok-take_devices.ensures.free

pub returns-in-Ok-berth_on-clause-beside : goal.returns-in-Ok-berth_on-clause-beside
returns-in-Ok-berth_on-clause-beside g c = rw c.as_slice-dir.ensures at c.in-Ok-take_devices.ensures.beside

pub returns-in-Ok-berth_on-clause-beside_taken : goal.returns-in-Ok-berth_on-clause-beside_taken
returns-in-Ok-berth_on-clause-beside_taken g c = rw c.as_slice-dir.ensures at c.in-Ok-take_devices.ensures.beside_taken

pub returns-in-Ok-berth_on-clause-same : goal.returns-in-Ok-berth_on-clause-same
returns-in-Ok-berth_on-clause-same g c = λ told. c.in-Ok-berth_on.ensures.same told ∙ (rw c.as_slice-dir.ensures at c.in-Ok-take_devices.ensures.contents) told

-- ---- it is not, and its devices are put back

pub returns-in-Err-berth_on-clause-same_back : goal.returns-in-Err-berth_on-clause-same_back
returns-in-Err-berth_on-clause-same_back g c = λ entry is told.
    (rw c.as_slice-dir.ensures at c.put_back.ensures.contents) told ∙ c.in-Err-berth_on.ensures.same_back told ∙ (rw c.as_slice-dir.ensures at c.in-Ok-take_devices.ensures.contents) told

pub returns-in-Err-berth_on-clause-refused : goal.returns-in-Err-berth_on-clause-refused
returns-in-Err-berth_on-clause-refused g c = λ entry is.
    let d = g.M.Disk.Disk in
    let images = images_at (g.M.DiskRoom.cells c.args.room.now) c.args.group.now.dir c.args.member in
    let had : d.told → contents d.cells c.in-Ok-take_devices.disks ≡ images = rw c.as_slice-dir.ensures at c.in-Ok-take_devices.ensures.contents in
    let end : c.in-Err-berth_on.end ≡ ends.Store entry = cc in
    subst (λ (s : Settings). IsRefusedBy g.S.Service.meaning d.told images s entry) c.in-Ok.ensures
    (refused-along g.S.Service.meaning d.told (contents d.cells c.in-Ok-take_devices.disks) images c.in-Ok.settings entry had (c.in-Err-berth_on.ensures.refused entry end))

pub returns-in-Err-berth_on-clause-disk : goal.returns-in-Err-berth_on-clause-disk
returns-in-Err-berth_on-clause-disk g c =
    λ is.
    let end : c.in-Err-berth_on.end ≡ ends.Disk = cc in
    rose-since _ _ _ c.in-Ok-take_devices.ensures.cause.later (c.put_back.ensures.rose c.in-Ok-take_devices.disks c.in-Ok-take_devices.ensures.held (c.in-Err-berth_on.ensures.disk end))

pub returns-in-Err-berth_on-clause-beside : goal.returns-in-Err-berth_on-clause-beside
returns-in-Err-berth_on-clause-beside g c = λ other a b e f.
    (rw c.as_slice-dir.ensures at c.put_back.ensures.beside) other a b e f ∙ (rw c.as_slice-dir.ensures at c.in-Ok-take_devices.ensures.beside) other a b e f

pub returns-in-Err-berth_on-clause-beside_taken : goal.returns-in-Err-berth_on-clause-beside_taken
returns-in-Err-berth_on-clause-beside_taken g c = λ other a b e f.
    (rw c.as_slice-dir.ensures at c.put_back.ensures.beside_taken) other a b e f ∙ (rw c.as_slice-dir.ensures at c.in-Ok-take_devices.ensures.beside_taken) other a b e f

pub returns-in-Err-berth_on-clause-back : goal.returns-in-Err-berth_on-clause-back
returns-in-Err-berth_on-clause-back g c =
    let back = rw c.as_slice-dir.ensures at c.put_back.ensures.back in
    let free = rw c.as_slice-dir.ensures at c.in-Ok-take_devices.ensures.free in
    ((back.0.0 ∙ sym free.0.0, back.0.1 ∙ sym free.0.1), (back.1.0 ∙ sym free.1.0, back.1.1 ∙ sym free.1.1))

-- ---- its devices could not be had

pub returns-in-Err-clause-disk : goal.returns-in-Err-clause-disk
returns-in-Err-clause-disk g c = λ is.
    let end : c.end_of_room.result ≡ ends.Disk = cc in
    c.in-Err.ensures.cause.failed (ap (λ (x : Fault). Err x) (c.end_of_room.ensures.disk end))

pub returns-in-Err-clause-beside : goal.returns-in-Err-clause-beside
returns-in-Err-clause-beside g c = rw c.as_slice-dir.ensures at c.in-Err.ensures.beside

pub returns-in-Err-clause-beside_taken : goal.returns-in-Err-clause-beside_taken
returns-in-Err-clause-beside_taken g c = rw c.as_slice-dir.ensures at c.in-Err.ensures.beside_taken

pub returns-in-Err-clause-back : goal.returns-in-Err-clause-back
returns-in-Err-clause-back g c = rw c.as_slice-dir.ensures at c.in-Err.ensures.back
