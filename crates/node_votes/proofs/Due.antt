-- What is written, and accepted, for a proposal that is due.
use Rattle.std.proofs.Common.{◌≡◌, ℕ, List, refl, Some}
use Rattle.vote_book.specs.declared.entry.LogEntry.TheVariants.{Wrote, Accepted}
use Rattle.node_rules.specs.Nodes.{Node, view_of, open_slot, holding, recording}
use Rattle.smart_statements.specs.Batches.{Batch}
use Rattle.smart_messages.specs.declared.message.Proposed.{Proposed}
use Rattle.smart_statements.specs.declared.statement.VoteKind.TheVariants as kinds
use Rattle.smart_statements.specs.declared.statement.VoteKind.TheVariants.{Write}
use Rattle.node_rules.specs.declared.node.Target.TheVariants as targets
use Rattle.node_rules.specs.Votes.{certificate_votes}
use Rattle.node_rules.specs.Rules.{ballot, writing, write_batch, writes, accepting, accept_batch, accepts}

pub writes_where : {S : Type 0} (n : Node S) (p : Proposed) (digest : List ℕ) → Some p ≡ writing n → digest ≡ p.head.statement.digest
    → holding (recording n (Wrote (record { slot = open_slot n; digest = digest }))) targets.View (ballot n Write digest) ≡ writes n
unfolding writes write_batch
writes_where n p digest due is = rw (is, ← due) refl

pub accepts_where : {S : Type 0} (n : Node S) (p : Proposed) (digest : List ℕ) (batch : Batch) → Some p ≡ accepting n → digest ≡ p.head.statement.digest → batch ≡ p.batch
    → holding (recording n (Accepted (record { slot = open_slot n; digest = digest; writes = certificate_votes n.arrivals (view_of n) Write (open_slot n) digest; batch = batch }))) targets.View (ballot n kinds.Accept digest) ≡ accepts n
unfolding accepts accept_batch
accepts_where n p digest batch due is same = rw (same, is, ← due) refl
