-- How much of a book bytes restore. A checkpoint stands for the book up to its place, and the log beside it is cut there.
use Rattle.std.specs.Prelude.{ℕ, ◌-◌, List, length, Option, Some, None, Ok, Err}
use Rattle.smart_base.specs.Cuts.{Read}
use Rattle.book_laws.specs.BookCuts.{cut_at}
use Rattle.snapshot_form.specs.Snapshots.{place_at}
use Rattle.store_form.specs.declared.checkpoint.Checkpoint.{Checkpoint}
use Rattle.store_laws.specs.Restored.{Images, restores}
use Rattle.vote_book.specs.declared.entry.LogEntry.{LogEntry}

-- the place that was read; 0 if none was
abbrev pub place_or_none : Read ℕ → ℕ
place_or_none (Ok p) = p.0
place_or_none (Err at) = 0

-- the place that a snapshot states first
unfoldable pub stated_place : List ℕ → ℕ
stated_place snapshot = place_or_none (place_at (record { at = 0; left = snapshot }))

-- The place of a checkpoint, 0 without one. It is the one that the snapshot's first eight bytes state. If the checkpoint is not damaged, that
-- is the place of its replica.
abbrev pub checkpoint_place : Option Checkpoint → ℕ
checkpoint_place None = 0
checkpoint_place (Some x) = stated_place x.snapshot

-- How many first entries of a book bytes restore, or have a checkpoint for. They restore the cut of a front of that book at the checkpoint's
-- place. As many entries are missing as the log is shorter than the cut of the whole book: a cut keeps all entries behind a front that has made
-- its place, installations among them.
abbrev pub count_kept : Images → List LogEntry → ℕ
count_kept left book = length book - (length (cut_at (checkpoint_place (restores left).present) book) - length (restores left).entries)
