-- The replies that clients accept by recorded runs, as answers on the list that the runs deliver.
use Rattle.std.specs.Prelude.{◌≡◌, ℕ, true, List, Some, slice_get}
use Rattle.smart_base.specs.Lists.{Each}
use Rattle.smart_base.specs.Views.{View}
use Rattle.smart_statements.specs.Batches.{Batch}
use Rattle.smart_statements.specs.Forms.{SignedBy}
use Rattle.smart_statements.specs.Kinds.{requests}
use Rattle.smart_statements.specs.declared.statement.Request.{Request}
use Rattle.smart_service.specs.Services.{Meaning}
use Rattle.app_count.specs.Counts.{counting}
use Rattle.app_kv.specs.Snapshots.{keeping}
use Rattle.vote_book.specs.Books.{Among}
use Rattle.replica_rules.specs.Replicas.{answer, batch_at, place_of, view_at}
use Rattle.replica_rules.specs.Seals.{is_verified}
use Rattle.client_quorum.specs.declared.client.Acceptance.{Acceptance}
use Rattle.client_quorum.specs.declared.client.Client.{Client}
use Rattle.client_seat.specs.Asks.{acceptances}
use Rattle.trail.specs.declared.opening.App.{App}
use Rattle.trail.specs.declared.opening.App.TheVariants as apps
use Rattle.audit_rules.specs.declared.recorded.Recorded.{Recorded}
use Rattle.trail_agreement.specs.Deliveries.{OneList}

-- An accepted reply that is the answer on a list. The request at its place and index has the number and the client of the one that was asked, and
-- that client's tag. That is the one place where it is executed. The reply states the view in force there.
pub record IsAnswer {S : Type 0} (m : Meaning S) (secret : List ℕ) (view : View) (list : List Batch) (a : Acceptance) : Type 0 where
  pub batch : Batch
  pub batch_is : batch_at list a.place ≡ Some batch
  pub request : SignedBy Request
  pub request_is : slice_get batch a.index ≡ Some request
  pub client_is : request.statement.client ≡ a.request.client
  pub seq_is : request.statement.seq ≡ a.request.seq
  pub verified : is_verified requests secret request ≡ true
  pub place_is : place_of m view list a.request.client a.request.seq ≡ Some (a.place, a.index)
  pub reply_is : answer m view list a.place a.index ≡ Some a.reply
  pub view_is : a.view ≡ (view_at view list a.place).number

-- Recorded runs that deliver one list, on which each reply that a client accepts by one of them is the answer.
pub record Answered {S : Type 0} (m : Meaning S) (trails : List Recorded) : Type 0 where
  pub one : OneList m trails
  pub each : (t : Recorded) → Among t trails → (c : Client) → Each (IsAnswer m t.opening.secret t.opening.view one.list) (acceptances t.opening.secret c t.events)

-- over the service of a group
abbrev pub AnsweredBy : App → List Recorded → Type 0
AnsweredBy apps.Count trails = Answered counting trails
AnsweredBy apps.Kv trails = Answered keeping trails

-- a client of which the request that waits is its own, if one waits
abbrev pub IsAskedOwn : Client → Type 0
IsAskedOwn c = (q : Request) → c.waiting ≡ Some q → q.client ≡ c.id
