-- What a store gives a node to begin from, and which of its entries is the first without meaning there.
use Rattle.std.specs.Prelude.{◌≡◌, ◌≤◌, ◌+◌, ℕ, min, Bool, true, false, not, List, [], ◌∷◌, length, Option, Some, None}
use Rattle.smart_base.specs.Lists.{same_bytes}
use Rattle.smart_service.specs.Services.{Meaning}
use Rattle.store_form.specs.declared.checkpoint.Checkpoint.{Checkpoint}
use Rattle.store_laws.specs.declared.job.Kept.{Kept}
use Rattle.vote_book.specs.Entries.{entry_text}
use Rattle.vote_book.specs.declared.entry.Opening.{Opening}
use Rattle.vote_book.specs.declared.entry.LogEntry.TheVariants.{Opened}
use Rattle.node_rules.specs.Nodes.{Node}
use Rattle.node_rules.specs.Reopening.{damage_of, reopened_from}
use Rattle.node_rules.specs.declared.node.Parts.{Parts}
use Rattle.member_opening.specs.declared.settings.Settings.{Settings}

abbrev pub snapshot_in : Option Checkpoint → Option (List ℕ)
snapshot_in None = None
snapshot_in (Some checkpoint) = Some checkpoint.snapshot

-- the parts from which a node begins, of what a store restores
abbrev pub parts_in : Kept → Parts
parts_in kept = record { snapshot = snapshot_in kept.present; entries = kept.entries }

-- the opening of a node's book
abbrev pub opening_by : Settings → Opening
opening_by s = record { member = s.member; period = s.period; view = s.view }

-- entries that begin with another one than that of these bytes
abbrev pub begin_otherwise : List (List ℕ) → List ℕ → Bool
begin_otherwise [] text = false
begin_otherwise (entry ∷ entries) text = not (same_bytes entry text)

-- the number of the first entry without meaning, by that of the first damaged one and by whether the first opens another book
abbrev pub fault_with : Option ℕ → Bool → Option ℕ
fault_with damage false = damage
fault_with None true = Some 1
fault_with (Some entry) true = Some (min entry 1)

-- The number, from 1, of the first entry that is damaged or opens the book of another node, if there is one. It is 0 if the checkpoint holds no
-- replica.
unfoldable pub store_fault : {S : Type 0} → Meaning S → Settings → Parts → Option ℕ
store_fault m s parts = fault_with (damage_of m s.secret s.view parts) (begin_otherwise parts.entries (entry_text (Opened (opening_by s))))

-- the node that begins from parts
abbrev pub node_by : {S : Type 0} → Meaning S → Settings → Parts → Node S
node_by m s parts = reopened_from m s.secret s.member s.view s.period parts

-- A node of which so many entries were restored. All of these are firm, and it has at most one more.
pub record KeepsCounts {S : Type 0} (count : ℕ) (n : Node S) : Type 0 where
  pub restored : n.restored ≡ count
  pub firm : n.firm ≡ count
  pub some : count ≤ length n.entries
  pub one : length n.entries ≤ count + 1
