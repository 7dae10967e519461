-- The executions of a list of batches, and what members tell clients of them and of views.
use Rattle.std.specs.Prelude.{◌≡◌, ◌<◌, ◌⊎◌, List, [], ◌∷◌, IfSome}
use Rattle.smart_base.specs.Views.{View}
use Rattle.smart_statements.specs.Batches.{Batch}
use Rattle.smart_statements.specs.declared.statement.Answer.{Answer}
use Rattle.smart_messages.specs.Messages.{reply_in, view_told_in}
use Rattle.smart_messages.specs.declared.message.Message.{Message}
use Rattle.smart_service.specs.Services.{Meaning}
use Rattle.vote_book.specs.Books.{Among}
use Rattle.replica_rules.specs.Replicas.{executions}
use Rattle.node_rules.specs.Nodes.{Node}
use Rattle.node_rules.specs.Reopening.{decided_of}
use Rattle.smart_base.specs.Lists.{Each}
use Rattle.smart_service.specs.declared.table.Execution.{Execution}

-- executions among which one is
abbrev pub HasLine : List Execution → Execution → Type 0
HasLine [] line = ⊥
HasLine (l ∷ ls) line = (l ≡ line) ⊎ HasLine ls line

-- An execution that stands before another, at an earlier place or at an earlier index of one place. They are not of one client and number.
pub record Before (a b : Execution) : Type 0 where
  pub stands : (a.place < b.place) ⊎ ((a.place ≡ b.place) × (a.index < b.index))
  pub apart : a.client ≡ b.client → a.seq ≡ b.seq → ⊥

-- executions of which each stands before all later ones; none stands twice
abbrev pub InOrder : List Execution → Type 0
InOrder [] = Unit {0}
InOrder (l ∷ ls) = Each (Before l) ls × InOrder ls

-- ---- replies

-- the execution that a reply tells
abbrev pub line_told : Answer → Execution
line_told a = record { client = a.client; seq = a.seq; place = a.place; index = a.index; view = a.view; reply = a.reply }

-- a reply that tells an execution of a list
abbrev pub IsExecuted : {S : Type 0} → Meaning S → View → List Batch → Answer → Type 0
IsExecuted m view list a = HasLine (executions m view list) (line_told a)

-- a message that tells an execution of a list, if it is a reply
abbrev pub ReplyRight : {S : Type 0} → Meaning S → View → List Batch → Message → Type 0
ReplyRight m view list message = IfSome (reply_in message) (λ a. IsExecuted m view list a.statement)

-- a node of which each held reply tells an execution of a list
abbrev pub HeldRight : {S : Type 0} → Meaning S → View → List Batch → Node S → Type 0
HeldRight m view list n = Each (λ h. ReplyRight m view list h.message) n.held

-- a node of which each held reply tells an execution of the batches that its book decides
abbrev pub HoldsExecuted : {S : Type 0} → Meaning S → View → Node S → Type 0
HoldsExecuted m view n = HeldRight m view (decided_of 0 n.entries) n

-- a message that tells one of these executions, if it is a reply
abbrev pub ReplyAmong : List Execution → Message → Type 0
ReplyAmong lines message = IfSome (reply_in message) (λ a. HasLine lines (line_told a.statement))

-- a node of which each held reply tells one of these executions
abbrev pub HoldsAmong : {S : Type 0} → List Execution → Node S → Type 0
HoldsAmong lines n = Each (λ h. ReplyAmong lines h.message) n.held

-- ---- views

-- a message that tells one of these views, if it tells a view
abbrev pub ViewAmong : List View → Message → Type 0
ViewAmong views message = IfSome (view_told_in message) (λ i. Among i.statement.view views)

-- a node of which each held message that tells a view tells one of these
abbrev pub HoldsViews : {S : Type 0} → List View → Node S → Type 0
HoldsViews views n = Each (λ h. ViewAmong views h.message) n.held
