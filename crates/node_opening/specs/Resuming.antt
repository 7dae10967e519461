-- The node after a restart, by what its parts gave back.
use Rattle.std.specs.Prelude.{ℕ, false, true, List, [], ◌∷◌, length, Option, None}
use Rattle.smart_base.specs.Views.{View, present}
use Rattle.vote_book.specs.declared.entry.Opening.{Opening}
use Rattle.vote_book.specs.declared.entry.LogEntry.{LogEntry}
use Rattle.vote_book.specs.declared.entry.LogEntry.TheVariants.{Opened}
use Rattle.node_rules.specs.Nodes.{Node}
use Rattle.node_rules.specs.declared.node.OwnSnapshot.{OwnSnapshot}
use Rattle.node_restart.specs.Restarts.{Restart}

-- the opening of a member's book
abbrev pub opening_of : ℕ → ℕ → View → Opening
opening_of id period view = record { member = id; period = period; view = view }

-- the entries with which a book goes on: those that were given back, or an opening alone if there are none
abbrev pub begun_with : Opening → List LogEntry → List LogEntry
begun_with opening [] = Opened opening ∷ []
begun_with opening (e ∷ es) = e ∷ es

-- the node that goes on over a replica and a book, of which so many entries were restored; all of these are firm
abbrev pub going_on : {S : Type 0} → List ℕ → ℕ → ℕ → Restart S → ℕ → Option OwnSnapshot → Node S
going_on secret id period back restored checkpoint = record {
  id = id;
  secret = secret;
  period = period;
  replica = back.replica;
  opening = back.past;
  waiting = None;
  pool = [];
  arrivals = [];
  decisions = [];
  stops = [];
  reports = [];
  syncs = [];
  marks = [];
  offers = [];
  fetch = None;
  entries = back.entries;
  checkpoint = checkpoint;
  taken = [];
  restored = restored;
  firm = restored;
  held = [];
  proposed = [];
  stop_made = false;
  sync_made = false;
  impatient = false;
  behind = true;
}

-- the node after a restart from what was given back, and the checkpoint's snapshot; if no entry was, it opens a new book
abbrev pub gone_on : {S : Type 0} → List ℕ → ℕ → ℕ → Restart S → Option OwnSnapshot → Node S
gone_on secret id period back checkpoint =
    going_on secret id period (record back { entries = begun_with (opening_of id period (present back.replica.views)) back.entries }) (length back.entries) checkpoint
