-- Which reports a script may inject, and which beginnings of regencies: those that pass no limit of a message.
use Rattle.std.specs.Prelude.{ℕ, ◌+◌, ◌^◌, ◌==◌, nat_lt, nat_le, Bool, false, ◌&&◌, List, length, Option, Some, None}
use Rattle.std.specs.List.{flat_map}
use Rattle.smart_base.specs.declared.limits.TheConstants.{MARKS, MESSAGE_BYTES}
use Rattle.smart_statements.specs.Forms.{SignedBy}
use Rattle.smart_statements.specs.Batches.{batch_text}
use Rattle.smart_statements.specs.Spelling.{signed}
use Rattle.smart_statements.specs.SignedLists.{optional}
use Rattle.smart_statements.specs.Reports.{evidence, lock_certificate, marks, reports}
use Rattle.smart_statements.specs.declared.report.Mark.{Mark}
use Rattle.smart_statements.specs.declared.report.Report.{Report}
use Rattle.smart_statements.specs.declared.statement.Ballot.{Ballot}
use Rattle.world_rules.specs.Injections.{Evident, Locked}

-- a vote of regency 0
abbrev pub is_early : SignedBy Ballot → Bool
is_early b = b.statement.slot.regency == 0

-- the length of evidence
abbrev pub evident_len : Evident → ℕ
evident_len e = length (evidence e.evidence)

-- the length of a lock and its batch
abbrev pub locked_len : Locked → ℕ
locked_len l = length (optional lock_certificate l.lock) + length (optional batch_text l.batch)

-- a report that takes these over is 59 bytes longer than they are
abbrev pub fits_report : Option Evident → Option Locked → Bool
fits_report None l = false
fits_report (Some e) None = false
fits_report (Some e) (Some l) = nat_le (59 + (evident_len e + locked_len l)) MESSAGE_BYTES

-- an offer with these marks is 17 bytes longer than they are
abbrev pub fits_offer : Option (List (SignedBy Mark)) → Bool
fits_offer None = false
fits_offer (Some ms) = nat_le (17 + length (flat_map (signed marks) ms)) MESSAGE_BYTES

-- and there are no more than an offer has
abbrev pub fits_marks : List ℕ → Option (List (SignedBy Mark)) → Bool
fits_marks numbers found = nat_le (length numbers) MARKS && fits_offer found

-- a beginning of a regency with these reports is 53 bytes longer than they are
abbrev pub fits_sync : Option (List (SignedBy Report)) → Bool
fits_sync None = false
fits_sync (Some rs) = nat_le (53 + length (flat_map (signed reports) rs)) MESSAGE_BYTES

-- and there are no more than a list has
abbrev pub fits_numbers : List ℕ → Option (List (SignedBy Report)) → Bool
fits_numbers numbers found = nat_lt (length numbers) (2 ^ 16) && fits_sync found
