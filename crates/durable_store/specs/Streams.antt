-- A store that is being opened: what is known of it, and the entries that are still to come.
use Rattle.std.specs.Prelude.{◌≡◌, ℕ, List, [], ◌∷◌, drop, true, false}
use Rattle.disk_model.specs.Cells.{Cells}
use Rattle.log_stream.specs.Stream.{Reads}
use Rattle.store_laws.specs.Restored.{log_image, side_of, present_in, restores, slot_gate}
use Rattle.durable_store.specs.Disks.{contents, AreSettled}
use Rattle.durable_store.specs.declared.opening.Opening.{Opening}

module _ {D : Type 0} (cells : D → Cells) where
  -- the entries that are still to come: those that the store restores, but for those that were given
  abbrev pub entries_to_come : Opening D → List (List ℕ)
  entries_to_come o = drop o.reader.restored (restores (contents cells o.disks)).entries

  -- what an opening knows of the four devices: the gates of the slots, the newest checkpoint, and a place in the log of its generation
  pub record Opens (o : Opening D) : Type 0 where
    pub settled : AreSettled cells o.disks
    pub even : o.even ≡ slot_gate false (contents cells o.disks).even_slot
    pub odd : o.odd ≡ slot_gate true (contents cells o.disks).odd_slot
    pub present : o.present ≡ present_in (contents cells o.disks)
    pub side : o.is_odd ≡ side_of (present_in (contents cells o.disks))
    pub reads : Reads (log_image o.is_odd (contents cells o.disks)) o.reader

  -- these entries come, one after the other, from one opening to another
  abbrev pub Gives : List (List ℕ) → Opening D → Opening D → Type 0
  Gives [] first last = entries_to_come last ≡ entries_to_come first
  Gives (entry ∷ more) first last = (next : Opening D) × ((entries_to_come first ≡ entry ∷ entries_to_come next) × Gives more next last)
