use Rattle.std.proofs.Common.{refl}
use Rattle.store_laws.specs.Restored.{restores}
use Rattle.durable_store.specs.Disks.{contents}
use Rattle.durable_store.specs.Stores.{state_of}
use Rattle.durable_store.proofs.Opened.{opened_keeps, opened_stands, opened_lives}
use Rattle.durable_store.proofs.opening.Opening.done.Goals as goal

pub returns-clause-stands : goal.returns-clause-stands
returns-clause-stands g c = λ told.
    let parts = c.into_parts-store.ensures in
    opened_stands (state_of g.D.Disk.cells c.into_parts-store.result.0) (contents g.D.Disk.cells c.args.self.disks) (parts.opened told) (parts.read told)

pub returns-clause-keeps : goal.returns-clause-keeps
returns-clause-keeps g c = λ told.
    let parts = c.into_parts-store.ensures in
    let images = contents g.D.Disk.cells c.args.self.disks in
    opened_keeps (state_of g.D.Disk.cells c.into_parts-store.result.0) images (parts.opened told) (restores images) refl (parts.read told)

pub returns-clause-lives : goal.returns-clause-lives
returns-clause-lives g c = λ told.
    let parts = c.into_parts-store.ensures in
    let images = contents g.D.Disk.cells c.args.self.disks in
    opened_lives (state_of g.D.Disk.cells c.into_parts-store.result.0) images (parts.opened told) (restores images) refl
