use Rattle.std.proofs.Common.{◌∙◌, Err, sym, ap, subst, arith}
use Rattle.store_form.specs.declared.ends.LogFault.{LogFault}
use Rattle.checkpoint_store.specs.Slots.{generation_of}
use Rattle.store_laws.specs.Restored.{Images, log_image, side_of, present_in}
use Rattle.store_laws.specs.States.{store_opened}
use Rattle.store_laws.specs.Stands.{IsRead}
use Rattle.durable_store.specs.Disks.{contents, AreSame, NoneFell, TimeWent, DiskRose}
use Rattle.durable_store.specs.Stores.{state_of}
use Rattle.durable_store.proofs.Opened.{opened_keeps, opened_stands, opened_lives}
use Rattle.durable_store.proofs.Runs.{fell_on}
use Rattle.durable_store.proofs.Streams.{same_on, same_contents, time_on, rose_since, kept_is}
use Rattle.durable_store.proofs.reopening.reopen.Goals as goal

pub returns-in-Ok-read_entries-clause-same : goal.returns-in-Ok-read_entries-clause-same
returns-in-Ok-read_entries-clause-same g c = λ told. subst (λ d. AreSame g.D.Disk.cells c.args.disks d) (sym c.into_parts-store.ensures.disks) (same_on g.D.Disk.cells c.args.disks c.in-Ok.opening.disks c.read_entries.new.opening.disks (c.in-Ok.ensures.same told) (c.read_entries.ensures.same told))

pub returns-in-Ok-read_entries-clause-time : goal.returns-in-Ok-read_entries-clause-time
returns-in-Ok-read_entries-clause-time g c = λ told. subst (λ d. TimeWent g.D.Disk.moment g.D.Disk.left_since g.D.Disk.cells c.args.disks d) (sym c.into_parts-store.ensures.disks) (time_on g.D.Disk.cells g.D.Disk.moment g.D.Disk.left_since c.args.disks c.in-Ok.opening.disks c.read_entries.new.opening.disks (c.in-Ok.ensures.same told) (c.read_entries.ensures.same told) (c.in-Ok.ensures.time told) (c.read_entries.ensures.time told))

pub returns-in-Ok-read_entries-clause-later : goal.returns-in-Ok-read_entries-clause-later
returns-in-Ok-read_entries-clause-later g c = subst (λ d. NoneFell g.D.Disk.faults c.args.disks d) (sym c.into_parts-store.ensures.disks) (fell_on g.D.Disk.faults c.args.disks c.in-Ok.opening.disks c.read_entries.new.opening.disks c.in-Ok.ensures.later c.read_entries.ensures.later)

pub returns-in-Ok-read_entries-clause-wants_later : goal.returns-in-Ok-read_entries-clause-wants_later
returns-in-Ok-read_entries-clause-wants_later g c = subst (λ d. NoneFell g.D.Disk.wants c.args.disks d) (sym c.into_parts-store.ensures.disks) (fell_on g.D.Disk.wants c.args.disks c.in-Ok.opening.disks c.read_entries.new.opening.disks c.in-Ok.ensures.wants_later c.read_entries.ensures.wants_later)

pub returns-in-Ok-read_entries-clause-generation : goal.returns-in-Ok-read_entries-clause-generation
returns-in-Ok-read_entries-clause-generation g c = c.into_parts-store.ensures.generation ∙ ap generation_of (sym c.into_parts-store.ensures.present)

pub returns-in-Ok-read_entries-clause-firm : goal.returns-in-Ok-read_entries-clause-firm
returns-in-Ok-read_entries-clause-firm g c =
    let n = c.in-Ok-read_entries.ensures.count in
    let none = c.in-Ok.ensures.restored in
    (omega (arith, c.into_parts-store.ensures.firm.0, n, none), omega (arith, c.into_parts-store.ensures.firm.1, n, none))

pub returns-in-Ok-read_entries-clause-kept : goal.returns-in-Ok-read_entries-clause-kept
returns-in-Ok-read_entries-clause-kept g c = λ told.
    let images = contents g.D.Disk.cells c.args.disks in
    kept_is images c.into_parts-store.result.1 c.in-Ok-read_entries.entries
    (c.into_parts-store.ensures.present ∙ c.read_entries.ensures.present ∙ (c.in-Ok.ensures.opens told).present ∙ ap present_in (same_contents g.D.Disk.cells c.args.disks c.in-Ok.opening.disks (c.in-Ok.ensures.same told)))
    (c.in-Ok-read_entries.ensures.entries told ∙ c.in-Ok.ensures.begins told)

pub returns-in-Ok-read_entries-clause-opened : goal.returns-in-Ok-read_entries-clause-opened
returns-in-Ok-read_entries-clause-opened g c = λ told. c.into_parts-store.ensures.opened told ∙ ap store_opened (same_contents g.D.Disk.cells c.args.disks c.read_entries.new.opening.disks (same_on g.D.Disk.cells c.args.disks c.in-Ok.opening.disks c.read_entries.new.opening.disks (c.in-Ok.ensures.same told) (c.read_entries.ensures.same told)))

pub returns-in-Ok-read_entries-clause-read : goal.returns-in-Ok-read_entries-clause-read
returns-in-Ok-read_entries-clause-read g c = λ told. subst (λ (x : Images). IsRead (log_image (side_of (present_in x)) x)) (same_contents g.D.Disk.cells c.args.disks c.read_entries.new.opening.disks (same_on g.D.Disk.cells c.args.disks c.in-Ok.opening.disks c.read_entries.new.opening.disks (c.in-Ok.ensures.same told) (c.read_entries.ensures.same told))) (c.into_parts-store.ensures.read told)

pub returns-in-Ok-read_entries-clause-stands : goal.returns-in-Ok-read_entries-clause-stands
returns-in-Ok-read_entries-clause-stands g c = λ told. opened_stands (state_of g.D.Disk.cells c.into_parts-store.result.0) (contents g.D.Disk.cells c.args.disks) (returns-in-Ok-read_entries-clause-opened g c told) (returns-in-Ok-read_entries-clause-read g c told)

pub returns-in-Ok-read_entries-clause-keeps : goal.returns-in-Ok-read_entries-clause-keeps
returns-in-Ok-read_entries-clause-keeps g c = λ told. opened_keeps (state_of g.D.Disk.cells c.into_parts-store.result.0) (contents g.D.Disk.cells c.args.disks) (returns-in-Ok-read_entries-clause-opened g c told) (record { present = c.into_parts-store.result.1; entries = c.in-Ok-read_entries.entries }) (returns-in-Ok-read_entries-clause-kept g c told) (returns-in-Ok-read_entries-clause-read g c told)

pub returns-in-Ok-read_entries-clause-lives : goal.returns-in-Ok-read_entries-clause-lives
returns-in-Ok-read_entries-clause-lives g c = λ told. opened_lives (state_of g.D.Disk.cells c.into_parts-store.result.0) (contents g.D.Disk.cells c.args.disks) (returns-in-Ok-read_entries-clause-opened g c told) (record { present = c.into_parts-store.result.1; entries = c.in-Ok-read_entries.entries }) (returns-in-Ok-read_entries-clause-kept g c told)

pub returns-in-Err-read_entries-clause-back : goal.returns-in-Err-read_entries-clause-back
returns-in-Err-read_entries-clause-back g c = λ told. subst (λ d. AreSame g.D.Disk.cells c.args.disks d) (sym c.into_disks.ensures) (same_on g.D.Disk.cells c.args.disks c.in-Ok.opening.disks c.read_entries.new.opening.disks (c.in-Ok.ensures.same told) (c.read_entries.ensures.same told))

pub returns-in-Err-read_entries-clause-back_time : goal.returns-in-Err-read_entries-clause-back_time
returns-in-Err-read_entries-clause-back_time g c = λ told. subst (λ d. TimeWent g.D.Disk.moment g.D.Disk.left_since g.D.Disk.cells c.args.disks d) (sym c.into_disks.ensures) (time_on g.D.Disk.cells g.D.Disk.moment g.D.Disk.left_since c.args.disks c.in-Ok.opening.disks c.read_entries.new.opening.disks (c.in-Ok.ensures.same told) (c.read_entries.ensures.same told) (c.in-Ok.ensures.time told) (c.read_entries.ensures.time told))

pub returns-in-Err-read_entries-clause-back_later : goal.returns-in-Err-read_entries-clause-back_later
returns-in-Err-read_entries-clause-back_later g c = subst (λ d. NoneFell g.D.Disk.faults c.args.disks d) (sym c.into_disks.ensures) (fell_on g.D.Disk.faults c.args.disks c.in-Ok.opening.disks c.read_entries.new.opening.disks c.in-Ok.ensures.later c.read_entries.ensures.later)

pub returns-in-Err-read_entries-clause-back_wants : goal.returns-in-Err-read_entries-clause-back_wants
returns-in-Err-read_entries-clause-back_wants g c = subst (λ d. NoneFell g.D.Disk.wants c.args.disks d) (sym c.into_disks.ensures) (fell_on g.D.Disk.wants c.args.disks c.in-Ok.opening.disks c.read_entries.new.opening.disks c.in-Ok.ensures.wants_later c.read_entries.ensures.wants_later)

pub returns-in-Err-read_entries-clause-cause : goal.returns-in-Err-read_entries-clause-cause
returns-in-Err-read_entries-clause-cause g c = λ is. subst (λ d. DiskRose g.D.Disk.faults c.args.disks d) (sym c.into_disks.ensures) (rose_since g.D.Disk.faults c.args.disks c.in-Ok.opening.disks c.read_entries.new.opening.disks c.in-Ok.ensures.later (c.in-Err-read_entries.ensures.cause (ap (λ (f : LogFault). Err f) is)))

pub returns-in-Err-read_entries-clause-not_closed : goal.returns-in-Err-read_entries-clause-not_closed
returns-in-Err-read_entries-clause-not_closed g c = λ is. c.in-Err-read_entries.ensures.not_closed (ap (λ (f : LogFault). Err f) is)
