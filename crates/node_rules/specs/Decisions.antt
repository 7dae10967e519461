-- The batches that entries decide.
use Rattle.std.specs.Prelude.{ℕ, nat_lt, List, filter_map, Option, None, Some, if◌then◌else◌}
use Rattle.smart_statements.specs.Batches.{Batch}
use Rattle.vote_book.specs.declared.entry.LogEntry.{LogEntry}
use Rattle.vote_book.specs.declared.entry.LogEntry.TheVariants.{Opened, Wrote, Accepted, Promised, Synced, Decided, Installed, Marked}

-- the batch that an entry decides, if its place is past an opening's. That opening's replica has the batches of all earlier places.
abbrev pub batch_past : ℕ → LogEntry → Option Batch
batch_past past (Opened o) = None
batch_past past (Wrote w) = None
batch_past past (Accepted a) = None
batch_past past (Promised p) = None
batch_past past (Synced s) = None
batch_past past (Decided d) = if nat_lt past d.slot.place then Some d.batch else None
batch_past past (Installed i) = None
batch_past past (Marked m) = None

-- the batches that entries decide past an opening's place, in order
abbrev pub decided_of : ℕ → List LogEntry → List Batch
decided_of past entries = filter_map (batch_past past) entries
