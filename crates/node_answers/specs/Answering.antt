-- The marks of a book that an offer brings.
use Rattle.std.specs.Prelude.{ℕ, nat_lt, Bool, Option, is_some}
use Rattle.smart_messages.specs.Messages.{kept_if}
use Rattle.smart_statements.specs.declared.report.Mark.{Mark}
use Rattle.vote_book.specs.declared.entry.LogEntry.{LogEntry}
use Rattle.node_rules.specs.Transfers.{mark_made}

-- the mark that an entry is, if it is one of a place past this one
abbrev pub made_past : ℕ → LogEntry → Option Mark
made_past place e = kept_if (λ (m : Mark). nat_lt place m.place) (mark_made e)

abbrev pub is_made_past : ℕ → LogEntry → Bool
is_made_past place e = is_some (made_past place e)
