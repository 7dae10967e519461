-- What a book says of a regency and of a slot: where the regency first began, and what the member voted there.
use Rattle.std.specs.Prelude.{ℕ, ◌==◌, nat_eq, ◌&&◌, List, [], ◌∷◌, Option, None, Some, if◌then◌else◌}
use Rattle.std.specs.List.{list_any}
use Rattle.std.specs.Map.{lookup}
use Rattle.smart_base.specs.Lists.{or_else}
use Rattle.smart_statements.specs.declared.statement.Slot.{Slot}
use Rattle.vote_book.specs.declared.entry.Start.{Start}
use Rattle.vote_book.specs.declared.entry.LogEntry.{LogEntry}
use Rattle.vote_book.specs.declared.entry.LogEntry.TheVariants.{Opened, Wrote, Accepted, Promised, Synced, Decided, Installed, Marked}
use Rattle.vote_book.specs.Admission.{writes_in, accepts_in}
use Rattle.vote_book.specs.declared.votes.OwnVotes.{OwnVotes}

-- a beginning, if it is of this regency of a view
abbrev pub start_if : ℕ → ℕ → Start → Option Start
start_if view regency s = if s.view == view && s.regency == regency then Some s else None

-- the beginning that an entry states for a regency of a view, if it states one
abbrev pub start_by : ℕ → ℕ → LogEntry → Option Start
start_by view regency (Opened o) = None
start_by view regency (Wrote w) = None
start_by view regency (Accepted a) = None
start_by view regency (Promised p) = None
start_by view regency (Synced s) = start_if view regency s
start_by view regency (Decided d) = None
start_by view regency (Installed i) = None
start_by view regency (Marked m) = None

-- the first beginning that entries state for a regency of a view
abbrev pub first_start : ℕ → ℕ → List LogEntry → Option Start
first_start view regency [] = None
first_start view regency (e ∷ es) = or_else (start_by view regency e) (first_start view regency es)

-- the beginning of a regency of a view among beginnings under their views and regencies
abbrev pub start_under : ℕ → ℕ → List ((ℕ × ℕ) × Start) → Option Start
start_under view regency starts = lookup (λ k. nat_eq view k.0 && nat_eq regency k.1) starts

-- the member's votes in a slot
abbrev pub own_votes : Slot → List LogEntry → OwnVotes
own_votes slot entries = record { wrote = list_any (writes_in slot) entries; accepted = list_any (accepts_in slot) entries }
