-- Coherent recorded runs: each member sent what its rules make it send, and nothing came that was not sent.
use Rattle.std.specs.Prelude.{◌≡◌, ℕ, true, false, List, [], ◌∷◌}
use Rattle.smart_base.specs.Lists.{Each}
use Rattle.smart_base.specs.Views.{View}
use Rattle.smart_keys.specs.Keys.{is_tag}
use Rattle.smart_messages.specs.Messages.{decoded}
use Rattle.smart_messages.specs.declared.message.Sealed.{Sealed}
use Rattle.smart_service.specs.Services.{Meaning}
use Rattle.snapshot_form.specs.Snapshots.{snapshot_text}
use Rattle.replica_rules.specs.Replicas.{empty}
use Rattle.app_count.specs.Counts.{counting}
use Rattle.app_kv.specs.Snapshots.{keeping}
use Rattle.vote_book.specs.Entries.{entry_text}
use Rattle.vote_book.specs.declared.entry.Opening.{Opening}
use Rattle.vote_book.specs.declared.entry.LogEntry.TheVariants.{Opened}
use Rattle.node_rules.specs.Nodes.{Node}
use Rattle.node_rules.specs.Steps.{first_leaving}
use Rattle.trail.specs.declared.event.TrailEvent.{TrailEvent}
use Rattle.trail.specs.declared.event.TrailEvent.TheVariants.{Happens, Send, Lost, Polls, End}
use Rattle.trail.specs.declared.opening.App.{App}
use Rattle.trail.specs.declared.opening.App.TheVariants as apps
use Rattle.trail_rules.specs.Replays.{Step, node_step, after, arrivals}
use Rattle.audit_rules.specs.declared.recorded.Recorded.{Recorded}
use Rattle.audit_rules.specs.Audits.{first_node, is_client, is_release, is_member, has_sent, sealed_in}

-- ---- what a member sent

-- an event that may come next: what is sent is the next message that leaves, as both are spelled
abbrev pub IsNext : {S : Type 0} → Node S → TrailEvent → Type 0
IsNext n (Happens event) = Unit {0}
IsNext n (Send a) = is_release a (first_leaving n.firm n.held) ≡ true
IsNext n (Lost a) = Unit {0}
IsNext n (Polls count) = Unit {0}
IsNext n End = Unit {0}

-- each message that was sent is the next one that leaves the replay there
abbrev pub Leaves : {S : Type 0} → Step S → Node S → List TrailEvent → Type 0
Leaves step n [] = Unit {0}
Leaves step n (e ∷ events) = IsNext n e × Leaves step (after step n e) events

abbrev pub LeavesOver : {S : Type 0} → Meaning S → Recorded → Type 0
LeavesOver m t = Leaves (node_step m) (first_node m t) t.events

abbrev pub LeavesBy : Recorded → App → Type 0
LeavesBy t apps.Count = LeavesOver counting t
LeavesBy t apps.Kv = LeavesOver keeping t

-- a trail each of whose messages is the next one that leaves the replay there, unless it is a client's
abbrev pub IsReplayed : Recorded → Type 0
IsReplayed t = is_client t ≡ false → LeavesBy t t.opening.app

-- ---- what came

-- a statement of a member was sent, if its tag is the one that the member makes
abbrev pub IsSent : List Recorded → List ℕ → Sealed → Type 0
IsSent trails secret s = is_member s.who ≡ true → is_tag secret s.who s.text s.tag ≡ true → has_sent trails s ≡ true

-- all that came in a trail was sent
abbrev pub AreSent : List Recorded → Recorded → Type 0
AreSent trails t = Each (λ bytes. Each (IsSent trails t.opening.secret) (sealed_in (decoded bytes))) (arrivals t.events)

-- coherent recorded runs
pub record Coherent (trails : List Recorded) : Type 0 where
  -- each Send of a member is the next message that leaves its replay there
  pub replayed : Each IsReplayed trails
  -- each statement that came from a member, with its tag, is the member's own in a message that it sent by its trail
  pub sent : Each (AreSent trails) trails

-- ---- fresh runs

-- an opening with the empty replica and no entry, or with an entry alone that opens a book
abbrev pub IsFirstBook : List (List ℕ) → Type 0
IsFirstBook [] = Unit {0}
IsFirstBook (entry ∷ []) = (o : Opening) × (entry ≡ entry_text (Opened o))
IsFirstBook (entry ∷ (next ∷ rest)) = ⊥

-- the snapshot of the empty replica, by the service
abbrev pub first_snapshot : App → View → List ℕ
first_snapshot apps.Count view = snapshot_text counting (empty counting view)
first_snapshot apps.Kv view = snapshot_text keeping (empty keeping view)

-- a trail of a group's beginning
pub record IsFresh (app : App) (secret : List ℕ) (view : View) (period : ℕ) (t : Recorded) : Type 0 where
  pub app_is : t.opening.app ≡ app
  pub secret_is : t.opening.secret ≡ secret
  pub view_is : t.opening.view ≡ view
  pub period_is : t.opening.period ≡ period
  pub snapshot_is : is_client t ≡ false → t.opening.snapshot ≡ first_snapshot app view
  pub book : is_client t ≡ false → IsFirstBook t.entries

-- recorded runs that begin with the empty replica. All have one service, secret, view and period.
pub record Fresh (trails : List Recorded) : Type 0 where
  pub app : App
  pub secret : List ℕ
  pub view : View
  pub period : ℕ
  pub each : Each (IsFresh app secret view period) trails
