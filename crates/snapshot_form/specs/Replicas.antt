-- Which replicas have a snapshot.
use Rattle.std.specs.Prelude.{◌≡◌, ℕ, ◌+◌, ◌<◌, ◌≤◌, ◌^◌, ◌==◌, nat_lt, nat_le, Bool, true, false, ◌&&◌, List, [], ◌∷◌, length}
use Rattle.smart_base.specs.Lists.{Each}
use Rattle.smart_base.specs.Spelling.{IsCount, IsPayload}
use Rattle.smart_base.specs.Views.{View, is_view}
use Rattle.smart_base.specs.declared.limits.TheConstants.{BATCH_REQUESTS, LAST_CLIENT, VIEWS}
use Rattle.smart_statements.specs.Batches.{Batch, FitsBatch}
use Rattle.smart_service.specs.Tables.{Ascends}
use Rattle.smart_service.specs.declared.replica.Replica.{Replica}
use Rattle.smart_service.specs.declared.table.TableLine.{TableLine}
use Rattle.replica_rules.specs.Seals.{is_alone}

-- the view behind one of this number and start, in a replica at a place: it starts later, and not past the place that comes next
abbrev pub is_next_view : ℕ → ℕ → ℕ → View → Bool
is_next_view place number start v = (v.number == number + 1) && nat_lt start v.start && nat_le v.start (place + 1)

-- views each of which is the next one behind the one before
abbrev pub follow : ℕ → ℕ → ℕ → List View → Bool
follow place number start [] = true
follow place number start (v ∷ vs) = is_next_view place number start v && follow place v.number v.start vs

abbrev pub is_first_view : View → Bool
is_first_view v = (v.number == 0) && (v.start == 1)

-- the views of a replica at a place: numbered from 0 on, the first from place 1
abbrev pub views_follow : ℕ → List View → Bool
views_follow place [] = false
views_follow place (v ∷ vs) = is_first_view v && follow place 0 1 vs

-- the line of a client in a replica at a place, with so many views
pub record FitsLine (place views : ℕ) (line : TableLine) : Type 0 where
  pub client_fits : line.last.client ≤ LAST_CLIENT
  pub seq_fits : IsCount line.last.seq
  pub some_place : 1 ≤ line.last.place
  pub past_place : line.last.place ≤ place
  pub index_fits : line.last.index < BATCH_REQUESTS
  pub view_fits : line.last.view < views
  pub reply_fits : IsPayload line.last.reply

-- the replicas that have a snapshot, of a service with these valid states
pub record FitsReplica {S : Type 0} (valid : S → Type 0) (r : Replica S) : Type 0 where
  pub place_fits : r.place < 2 ^ 63
  pub views_fit : Each (λ v. is_view v ≡ true) r.views
  pub few_views : length r.views ≤ VIEWS
  pub views_in_turn : views_follow r.place r.views ≡ true
  pub lines_fit : Each (FitsLine r.place (length r.views)) r.table
  pub lines_in_turn : Ascends r.table
  pub service_fits : valid r.service

-- A batch whose clients there are, in which a request of the view manager stands alone, and which has a spelling: a replica that has a snapshot
-- may execute it.
abbrev pub IsOfClients : Batch → Type 0
IsOfClients batch = FitsBatch batch × Each (λ q. q.statement.client ≤ LAST_CLIENT) batch × (is_alone batch ≡ true)
