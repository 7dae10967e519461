-- Tests of equality of fields.
use Rattle.std.specs.Prelude.{◌==◌, Bool, true, false, ◌&&◌}
use Rattle.smart_statements.specs.declared.statement.Slot.{Slot}
use Rattle.smart_statements.specs.declared.statement.VoteKind.{VoteKind}
use Rattle.smart_statements.specs.declared.statement.VoteKind.TheVariants.{Write, Accept}

abbrev pub same_slot : Slot → Slot → Bool
same_slot a b = (a.view == b.view) && (a.place == b.place) && (a.regency == b.regency)

abbrev pub same_kind : VoteKind → VoteKind → Bool
same_kind Write Write = true
same_kind Write Accept = false
same_kind Accept Write = false
same_kind Accept Accept = true
