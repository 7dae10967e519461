-- What a node keeps beside its state, so that its rules need not walk its book.
use Rattle.std.specs.Prelude.{ℕ, ◌≡◌, ◌+◌, ◌<◌, ◌≤◌, ◌^◌, ◌==◌, nat_lt, Bool, false, not, ◌&&◌, ◌||◌, List, if◌then◌else◌, Option, IsSome, is_some}
use Rattle.smart_base.specs.Views.{View}
use Rattle.smart_statements.specs.Batches.{Batch}
use Rattle.vote_book.specs.Standing.{first_start}
use Rattle.vote_book.specs.Books.{last_made}
use Rattle.vote_book.specs.declared.entry.Accept.{Accept}
use Rattle.vote_book.specs.declared.entry.Promise.{Promise}
use Rattle.vote_book.specs.declared.entry.Start.{Start}
use Rattle.vote_book.specs.declared.entry.LogEntry.{LogEntry}
use Rattle.vote_book.specs.declared.entry.LogEntry.TheVariants.{Promised, Synced}
use Rattle.regency_sync.specs.Synchronizers.{Synchronizer}
use Rattle.node_rules.specs.Nodes.{Node, regency_of, is_synced, recording}
use Rattle.node_rules.specs.Votes.{Named}
use Rattle.consensus_instance.specs.Instances.{Instance}
use Rattle.consensus_instance.specs.Nodes.{IsInstance}

-- The instance and the synchronizer of a member, by its last delivered place, its waiting batch and its book, in a view.
pub record Follows (id : ℕ) (view : View) (place : ℕ) (waiting : Option Batch) (entries : List LogEntry) (i : Instance) (s : Synchronizer) : Type 0 where
  -- if a batch waits, its place is below 2^63
  pub room : IsSome waiting → place + 1 < 2 ^ 63
  pub instance : IsInstance id view place waiting i.arrivals entries i
  pub member : s.id ≡ id
  pub viewed : s.view ≡ view
  -- both are of the regency in force, and the book tells whether it has begun
  pub regency : s.regency ≡ i.regency
  pub synced : s.synced ≡ is_some (first_start view.number i.regency entries)
  -- The book makes no place past the last delivered or decided one. It may make an earlier one alone, if its life began with a checkpoint.
  pub made : last_made entries ≤ (if is_some waiting then place + 1 else place)

-- the batch and digest of an accept
abbrev pub named : Accept → Named
named a = record { digest = a.digest; batch = a.batch }

-- a regency later than a node's, or the node's own that has not begun
abbrev pub is_unbegun : {S : Type 0} → Node S → ℕ → Bool
is_unbegun n regency = nat_lt (regency_of n) regency || ((regency == regency_of n) && not (is_synced n))

-- the node after it has made a promise
abbrev pub promised_by : {S : Type 0} → Node S → Promise → Node S
promised_by n promise = record (recording n (Promised promise)) { stop_made = false; sync_made = false }

-- the node after it has made a promise, if that is of a later regency
abbrev pub reached : {S : Type 0} → Node S → Promise → Node S
reached n promise = if nat_lt (regency_of n) promise.regency then promised_by n promise else n

-- the node after it takes part in its regency from the beginning
abbrev pub begun_at : {S : Type 0} → Node S → Start → Node S
begun_at n start = record (recording n (Synced start)) { impatient = false }
