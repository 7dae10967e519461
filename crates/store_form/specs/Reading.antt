-- The reading of groups and checkpoints, from left to right.
use Rattle.std.specs.Prelude.{ℕ, List, Ok}
use Rattle.std.specs.Int.{w64}
use Rattle.smart_base.specs.Cuts.{Cut, Read, ◌>>=◌, number_at, text_at, bytes_at, anything, contents, whole, times_at}
use Rattle.store_form.specs.Spelling.{Group}
use Rattle.store_form.specs.declared.checkpoint.Checkpoint.{Checkpoint}

-- bytes from the first on
abbrev pub all_of : List ℕ → Cut
all_of bytes = record { at = 0; left = bytes }

abbrev pub entry_at : Cut → Read (List ℕ)
entry_at = contents bytes_at

unfoldable pub payload_at : Cut → Read Group
payload_at c = do
  n ← number_at w64 c
  times_at entry_at n.0 n.1

unfoldable pub group_at : Cut → Read Group
group_at c = do
  b ← text_at w64 anything c
  g ← whole payload_at b.0
  Ok (g, b.1)

unfoldable pub checkpoint_at : Cut → Read Checkpoint
checkpoint_at c = do
  g ← number_at w64 c
  s ← entry_at g.1
  Ok (record { generation = g.0; snapshot = s.0 }, s.1)
