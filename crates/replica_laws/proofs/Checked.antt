-- What is not dropped has passed its checks, and what is picked of it has what all of it has.
use Rattle.std.proofs.Common.{◌≡◌, ℕ, Bool, true, not, ◌==◌, List, [], ◌∷◌, Option, Some, None, nat_lt}
use Rattle.std.specs.Prelude.{IfSome}
use Rattle.std.specs.List.{list_all}
use Rattle.smart_base.specs.Lists.{Each, or_else, same_bytes}
use Rattle.smart_base.specs.Views.{leader, is_member}
use Rattle.smart_statements.specs.Forms.{SignedBy}
use Rattle.smart_statements.specs.Kinds.{proposals}
use Rattle.smart_statements.specs.Batches.{Batch}
use Rattle.smart_statements.specs.declared.statement.Request.{Request}
use Rattle.smart_messages.specs.declared.message.Proposed.{Proposed}
use Rattle.vote_book.specs.BookReports.{greater}
use Rattle.vote_book.specs.declared.entry.Accept as accept
use Rattle.replica_rules.specs.Seals.{is_verified, digest_of, request_fits, fits}
use Rattle.replica_rules.specs.Pools.{offered}
use Rattle.node_rules.specs.Rules.{votable, written}
use Rattle.node_rules.specs.Nodes.{Node, view_of}
use Rattle.node_rules.specs.Arrivals.{slot_why, signer_why, is_batch_for, why_propose}
use Rattle.node_rules.specs.declared.node.Why.TheVariants.{NotMember, BadTag, NotLeader, InvalidBatch}
use Rattle.replica_laws.proofs.Lists.{third-none, if_cond}
use Rattle.replica_laws.specs.Sending.{ForBatch}
use Rattle.smart_base.proofs.SameLists.{and_true}
use Rattle.agreement_laws.proofs.Lists.{either}
use Rattle.node_rules.proofs.Options.{else_none}

-- ---- a batch, if there is one

-- what follows from what holds of a batch, if there is one
pub for_batch-weaker : (P Q : Batch → Type 0) → ((batch : Batch) → P batch → Q batch) → (batch : Option Batch) → ForBatch batch P → ForBatch batch Q
for_batch-weaker P Q weaker None p = tt
for_batch-weaker P Q weaker (Some batch) p = weaker batch p

-- the first of two batches that is there
pub for_batch-or : (P : Batch → Type 0) (x y : Option Batch) → ForBatch x P → ForBatch y P → ForBatch (or_else x y) P
for_batch-or P None y px py = py
for_batch-or P (Some batch) y px py = px

-- ---- arrivals

-- what is not dropped bears its signer's tag
pub verified_where_signed : {S : Type 0} (n : Node S) (verified : Bool) (signer : ℕ) → signer_why n verified signer ≡ None → verified ≡ true
unfolding signer_why
verified_where_signed n verified signer none = third-none (not (is_member (view_of n) n.id)) verified NotMember BadTag _ none

-- a proposal that is not dropped has a batch that it may have
pub valid_where_kept : {S : Type 0} (n : Node S) (p : Proposed) → why_propose n p ≡ None → is_batch_for n.secret p.head.statement.slot.place p.head.statement.digest p.batch ≡ true
unfolding why_propose
valid_where_kept n p none =
    third-none (not (p.head.signer == leader (view_of n) p.head.statement.slot.regency)) (is_batch_for n.secret p.head.statement.slot.place p.head.statement.digest p.batch) NotLeader InvalidBatch _
    (else_none (slot_why n p.head.statement.slot) _ (else_none (signer_why n (is_verified proposals n.secret p.head) p.head.signer) _ none).1).1

-- such a batch fits its place
pub fits_where_valid : (secret : List ℕ) (place : ℕ) (digest : List ℕ) (batch : Batch) → is_batch_for secret place digest batch ≡ true → fits secret batch place ≡ true
unfolding is_batch_for
fits_where_valid secret place digest batch valid =
    (and_true (fits secret batch place) (same_bytes (digest_of batch) digest) valid).0

-- of a batch that fits, each request does
pub fits_each : (secret : List ℕ) (batch : Batch) (place : ℕ) → fits secret batch place ≡ true → list_all (request_fits secret place) batch ≡ true
unfolding fits
fits_each secret batch place is = (and_true _ (list_all (request_fits secret place) batch) (and_true _ _ is).0).1

-- a request is offered to the pool
pub each_offered : (A : SignedBy Request → Type 0) (pool : Batch) (q : SignedBy Request) → Each A pool → A q → Each A (offered pool q)
each_offered A [] q each asked = (asked, tt)
each_offered A (old ∷ olds) q each asked =
    either (λ (qs : Batch). Each A qs) (old.statement.client == q.statement.client) (q ∷ olds) (old ∷ offered olds q) (asked, each.1) (each.0, each_offered A olds q each.1 asked)

-- ---- changes of the regency

-- the batch on which a member is locked is one that it accepted
pub greater-if : (P : accept.Accept → Type 0) (x y : Option accept.Accept) → IfSome x P → IfSome y P → IfSome (greater x y) P
greater-if P None y px py = py
greater-if P (Some a) None px py = px
greater-if P (Some a) (Some b) px py = either (λ (o : Option accept.Accept). IfSome o P) (nat_lt a.slot.regency b.slot.regency) (Some b) (Some a) py px

-- ---- votes

-- what may get votes, and what is written, is what was proposed
pub votable-if : {S : Type 0} (P : Proposed → Type 0) (n : Node S) (found : Option Proposed) → IfSome found P → IfSome (votable n found) P
votable-if P n None p = tt
votable-if P n (Some x) p = if_cond P _ (Some x) (λ is. p)

pub written-if : {S : Type 0} (P : Proposed → Type 0) (n : Node S) (found : Option Proposed) → IfSome found P → IfSome (written n found) P
written-if P n None p = tt
written-if P n (Some x) p = if_cond P _ (Some x) (λ is. p)
