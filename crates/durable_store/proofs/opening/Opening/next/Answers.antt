use Rattle.std.proofs.Common.{◌∙◌, refl, sym}
use Rattle.store_form.specs.declared.ends.State.TheVariants.{Failed as failed}
use Rattle.store_laws.specs.declared.job.Device.TheVariants.{Log}
use Rattle.log_stream.specs.Stream.{to_come}
use Rattle.durable_store.specs.Disks.{disk_at}
use Rattle.durable_store.specs.Streams.{entries_to_come}
use Rattle.durable_store.proofs.Four.{four_later, four_time, four_still}
use Rattle.durable_store.proofs.Runs.{none_fell}
use Rattle.durable_store.proofs.Streams.{log_same, all_same, opens_on, to_come_is, comes_again, next_entry}
use Rattle.durable_store.proofs.opening.Opening.next.Goals as goal

pub returns-in-Ok-clause-opens : goal.returns-in-Ok-clause-opens
returns-in-Ok-clause-opens g c = λ told.
    opens_on g.D.Disk.cells c.args.self.now (record { disks = c.read_next.new.disks; even = c.args.self.now.even; odd = c.args.self.now.odd; present = c.args.self.now.present; is_odd = c.args.self.now.is_odd; reader = c.read_next.new.reader; state = c.args.self.now.state }) (c.requires told) (log_same g.D.Disk.cells c.args.self.now.is_odd c.args.self.now.disks c.read_next.new.disks c.read_next.ensures.others (c.read_next.ensures.still told).same) refl refl refl refl (c.read_next.ensures.reads told)

pub returns-in-Ok-clause-same : goal.returns-in-Ok-clause-same
returns-in-Ok-clause-same g c = λ told. log_same g.D.Disk.cells c.args.self.now.is_odd c.args.self.now.disks c.read_next.new.disks c.read_next.ensures.others (c.read_next.ensures.still told).same

pub returns-in-Ok-clause-time : goal.returns-in-Ok-clause-time
returns-in-Ok-clause-time g c = λ told.
    four_time g.D.Disk.moment g.D.Disk.left_since g.D.Disk.cells (Log c.args.self.now.is_odd) c.args.self.now.disks c.read_next.new.disks c.read_next.ensures.others (c.read_next.ensures.still told).time

pub returns-in-Ok-clause-later : goal.returns-in-Ok-clause-later
returns-in-Ok-clause-later g c = four_later g.D.Disk.faults (Log c.args.self.now.is_odd) c.args.self.now.disks c.read_next.new.disks c.read_next.ensures.others c.read_next.ensures.cause.later

pub returns-in-Ok-clause-wants_later : goal.returns-in-Ok-clause-wants_later
returns-in-Ok-clause-wants_later g c = four_later g.D.Disk.wants (Log c.args.self.now.is_odd) c.args.self.now.disks c.read_next.new.disks c.read_next.ensures.others c.read_next.ensures.want.later

pub returns-in-Ok-clause-entry : goal.returns-in-Ok-clause-entry
returns-in-Ok-clause-entry g c =
    next_entry c.in-Ok.entry (entries_to_come g.D.Disk.cells c.args.self.now) (entries_to_come g.D.Disk.cells (record { disks = c.read_next.new.disks; even = c.args.self.now.even; odd = c.args.self.now.odd; present = c.args.self.now.present; is_odd = c.args.self.now.is_odd; reader = c.read_next.new.reader; state = c.args.self.now.state }))
    (to_come (g.D.Disk.cells (disk_at (Log c.args.self.now.is_odd) c.args.self.now.disks)).now c.args.self.now.reader) (to_come (g.D.Disk.cells (disk_at (Log c.args.self.now.is_odd) c.read_next.new.disks)).now c.read_next.new.reader)
    (λ told. to_come_is g.D.Disk.cells c.args.self.now (c.requires told))
    (λ told. sym (to_come_is g.D.Disk.cells (record { disks = c.read_next.new.disks; even = c.args.self.now.even; odd = c.args.self.now.odd; present = c.args.self.now.present; is_odd = c.args.self.now.is_odd; reader = c.read_next.new.reader; state = c.args.self.now.state }) (opens_on g.D.Disk.cells c.args.self.now (record { disks = c.read_next.new.disks; even = c.args.self.now.even; odd = c.args.self.now.odd; present = c.args.self.now.present; is_odd = c.args.self.now.is_odd; reader = c.read_next.new.reader; state = c.args.self.now.state }) (c.requires told) (log_same g.D.Disk.cells c.args.self.now.is_odd c.args.self.now.disks c.read_next.new.disks c.read_next.ensures.others (c.read_next.ensures.still told).same) refl refl refl refl (c.read_next.ensures.reads told))))
    c.in-Ok.ensures.entry

pub returns-in-Ok-clause-nothing : goal.returns-in-Ok-clause-nothing
returns-in-Ok-clause-nothing g c = λ none told. to_come_is g.D.Disk.cells c.args.self.now (c.requires told) ∙ c.in-Ok.ensures.nothing none told

pub returns-in-Err-Failed-clause-opens : goal.returns-in-Err-Failed-clause-opens
returns-in-Err-Failed-clause-opens g c = λ told.
    opens_on g.D.Disk.cells c.args.self.now (record { disks = c.read_next.new.disks; even = c.args.self.now.even; odd = c.args.self.now.odd; present = c.args.self.now.present; is_odd = c.args.self.now.is_odd; reader = c.read_next.new.reader; state = failed }) (c.requires told) (log_same g.D.Disk.cells c.args.self.now.is_odd c.args.self.now.disks c.read_next.new.disks c.read_next.ensures.others (c.read_next.ensures.still told).same) refl refl refl refl (c.read_next.ensures.reads told)

pub returns-in-Err-Failed-clause-same : goal.returns-in-Err-Failed-clause-same
returns-in-Err-Failed-clause-same g c = λ told. log_same g.D.Disk.cells c.args.self.now.is_odd c.args.self.now.disks c.read_next.new.disks c.read_next.ensures.others (c.read_next.ensures.still told).same

pub returns-in-Err-Failed-clause-time : goal.returns-in-Err-Failed-clause-time
returns-in-Err-Failed-clause-time g c = λ told.
    four_time g.D.Disk.moment g.D.Disk.left_since g.D.Disk.cells (Log c.args.self.now.is_odd) c.args.self.now.disks c.read_next.new.disks c.read_next.ensures.others (c.read_next.ensures.still told).time

pub returns-in-Err-Failed-clause-later : goal.returns-in-Err-Failed-clause-later
returns-in-Err-Failed-clause-later g c = four_later g.D.Disk.faults (Log c.args.self.now.is_odd) c.args.self.now.disks c.read_next.new.disks c.read_next.ensures.others c.read_next.ensures.cause.later

pub returns-in-Err-Failed-clause-wants_later : goal.returns-in-Err-Failed-clause-wants_later
returns-in-Err-Failed-clause-wants_later g c = four_later g.D.Disk.wants (Log c.args.self.now.is_odd) c.args.self.now.disks c.read_next.new.disks c.read_next.ensures.others c.read_next.ensures.want.later

pub returns-in-Err-Failed-clause-again : goal.returns-in-Err-Failed-clause-again
returns-in-Err-Failed-clause-again g c = λ told. comes_again g.D.Disk.cells c.args.self.now (record { disks = c.read_next.new.disks; even = c.args.self.now.even; odd = c.args.self.now.odd; present = c.args.self.now.present; is_odd = c.args.self.now.is_odd; reader = c.read_next.new.reader; state = failed }) (log_same g.D.Disk.cells c.args.self.now.is_odd c.args.self.now.disks c.read_next.new.disks c.read_next.ensures.others (c.read_next.ensures.still told).same) c.in-Err-Failed.ensures.err.0

pub returns-in-Err-NoMemory-clause-opens : goal.returns-in-Err-NoMemory-clause-opens
returns-in-Err-NoMemory-clause-opens g c = λ told.
    opens_on g.D.Disk.cells c.args.self.now (record { disks = c.read_next.new.disks; even = c.args.self.now.even; odd = c.args.self.now.odd; present = c.args.self.now.present; is_odd = c.args.self.now.is_odd; reader = c.read_next.new.reader; state = c.args.self.now.state }) (c.requires told) (log_same g.D.Disk.cells c.args.self.now.is_odd c.args.self.now.disks c.read_next.new.disks c.read_next.ensures.others (c.read_next.ensures.still told).same) refl refl refl refl (c.read_next.ensures.reads told)

pub returns-in-Err-NoMemory-clause-same : goal.returns-in-Err-NoMemory-clause-same
returns-in-Err-NoMemory-clause-same g c = λ told. log_same g.D.Disk.cells c.args.self.now.is_odd c.args.self.now.disks c.read_next.new.disks c.read_next.ensures.others (c.read_next.ensures.still told).same

pub returns-in-Err-NoMemory-clause-time : goal.returns-in-Err-NoMemory-clause-time
returns-in-Err-NoMemory-clause-time g c = λ told.
    four_time g.D.Disk.moment g.D.Disk.left_since g.D.Disk.cells (Log c.args.self.now.is_odd) c.args.self.now.disks c.read_next.new.disks c.read_next.ensures.others (c.read_next.ensures.still told).time

pub returns-in-Err-NoMemory-clause-later : goal.returns-in-Err-NoMemory-clause-later
returns-in-Err-NoMemory-clause-later g c = four_later g.D.Disk.faults (Log c.args.self.now.is_odd) c.args.self.now.disks c.read_next.new.disks c.read_next.ensures.others c.read_next.ensures.cause.later

pub returns-in-Err-NoMemory-clause-wants_later : goal.returns-in-Err-NoMemory-clause-wants_later
returns-in-Err-NoMemory-clause-wants_later g c = four_later g.D.Disk.wants (Log c.args.self.now.is_odd) c.args.self.now.disks c.read_next.new.disks c.read_next.ensures.others c.read_next.ensures.want.later

pub returns-in-Err-NoMemory-clause-again : goal.returns-in-Err-NoMemory-clause-again
returns-in-Err-NoMemory-clause-again g c = λ told. comes_again g.D.Disk.cells c.args.self.now (record { disks = c.read_next.new.disks; even = c.args.self.now.even; odd = c.args.self.now.odd; present = c.args.self.now.present; is_odd = c.args.self.now.is_odd; reader = c.read_next.new.reader; state = c.args.self.now.state }) (log_same g.D.Disk.cells c.args.self.now.is_odd c.args.self.now.disks c.read_next.new.disks c.read_next.ensures.others (c.read_next.ensures.still told).same) c.in-Err-NoMemory.ensures.err.0

pub returns-in_err-check-clause-same : goal.returns-in_err-check-clause-same
returns-in_err-check-clause-same g c = λ told. all_same g.D.Disk.cells c.args.self.now.disks

pub returns-in_err-check-clause-time : goal.returns-in_err-check-clause-time
returns-in_err-check-clause-time g c = λ told. four_still g.D.Disk.moment g.D.Disk.left_since g.D.Disk.cells c.args.self.now.disks

pub returns-in_err-check-clause-later : goal.returns-in_err-check-clause-later
returns-in_err-check-clause-later g c = none_fell g.D.Disk.faults c.args.self.now.disks

pub returns-in_err-check-clause-wants_later : goal.returns-in_err-check-clause-wants_later
returns-in_err-check-clause-wants_later g c = none_fell g.D.Disk.wants c.args.self.now.disks
