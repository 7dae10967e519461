-- What a vote leaves in the book where it is stopped half-way, rule by rule.
use Rattle.std.proofs.Common.{◌≡◌, ℕ, ◌++◌, subst, List, [], ◌∷◌, refl, Some}
use Rattle.smart_base.specs.Views.{View}
use Rattle.smart_statements.specs.Forms.{SignedBy}
use Rattle.smart_statements.specs.Batches.{Batch}
use Rattle.smart_statements.specs.declared.statement.Ballot.{Ballot}
use Rattle.smart_statements.specs.declared.statement.Slot.{Slot}
use Rattle.smart_messages.specs.declared.message.Message.{Message}
use Rattle.smart_messages.specs.declared.message.Proposed.{Proposed}
use Rattle.smart_statements.specs.declared.statement.VoteKind.TheVariants as kinds
use Rattle.vote_book.specs.declared.entry.LogEntry.TheVariants.{Wrote, Accepted}
use Rattle.node_rules.specs.Nodes.{Node, view_of, open_slot}
use Rattle.node_rules.specs.Votes.{certificate_votes}
use Rattle.node_rules.specs.Arrivals.{kept}
use Rattle.node_rules.specs.Rules.{proposes, writing, writes, accepting, accepts, decides}
use Rattle.node_rules.specs.Steps.{propose_row, write_row, accept_row, vote_rows, pass}
use Rattle.node_rules.specs.declared.node.Cause.{Cause}
use Rattle.node_rules.specs.declared.node.Fired.{Fired}
use Rattle.node_state.proofs.Stopped.{votes_grow, pass_grows, stops_here, stops_later}
use Rattle.node_rules.proofs.Entries.{proposes_same, writes_adds, accepts_adds, decides_adds}
use Rattle.node_state.specs.Broken.{IsGrown, IsPartly}
use Rattle.node_state.proofs.Broken.{front_same, front_then, partly_none, partly_in, front_of}
use Rattle.node_votes.proofs.Due.{writes_where, accepts_where}

grows_writes : {S : Type 0} (n : Node S) → IsGrown n.entries (writes n).entries
grows_writes n = front_of 1 n.entries (writes n).entries (writes_adds n)

grows_accepts : {S : Type 0} (n : Node S) → IsGrown n.entries (accepts n).entries
grows_accepts n = front_of 1 n.entries (accepts n).entries (accepts_adds n)

-- a pass that is stopped in each of its rules

pub proposes_stops : {S : Type 0} (n now : Node S) (cause : Cause) (f : List Fired) → now.entries ≡ n.entries → IsPartly n.entries now.entries (pass vote_rows n cause f).0.entries
proposes_stops {S = S} n now cause f same = partly_none n.entries now.entries _ same (pass_grows vote_rows n cause f (votes_grow S))

pub writes_stops : {S : Type 0} (n p now : Node S) (cause : Cause) (f g : List Fired) → propose_row n cause f ≡ (p, g) → IsPartly p.entries now.entries (writes p).entries
    → IsPartly n.entries now.entries (pass vote_rows n cause f).0.entries
unfolding vote_rows
writes_stops {S = S} n p now cause f g proposed part =
    let grow = votes_grow S in
    stops_later propose_row (write_row ∷ (accept_row ∷ [])) n p now cause f g grow.0 proposed (stops_here write_row (accept_row ∷ []) p now cause g grow.1.1 part)

pub accepts_stops : {S : Type 0} (n p w now : Node S) (cause : Cause) (f g h : List Fired) → propose_row n cause f ≡ (p, g) → write_row p cause g ≡ (w, h)
    → IsPartly w.entries now.entries (accepts w).entries → IsPartly n.entries now.entries (pass vote_rows n cause f).0.entries
unfolding vote_rows
accepts_stops {S = S} n p w now cause f g h proposed wrote part =
    let grow = votes_grow S in
    stops_later propose_row (write_row ∷ (accept_row ∷ [])) n p now cause f g grow.0 proposed
    (stops_later write_row (accept_row ∷ []) p w now cause g h grow.1.0 wrote (stops_here accept_row [] w now cause h tt part))

pub write_stops : {S : Type 0} (n now : Node S) → now.entries ≡ n.entries → IsPartly n.entries now.entries (writes n).entries
write_stops n now same = partly_none n.entries now.entries _ same (grows_writes n)

pub wrote_stops : {S : Type 0} (n now : Node S) (p : Proposed) (digest : List ℕ) → Some p ≡ writing n → digest ≡ p.head.statement.digest
    → IsPartly n.entries now.entries (n.entries ++ Wrote (record { slot = open_slot n; digest = digest }) ∷ []) → IsPartly n.entries now.entries (writes n).entries
wrote_stops {S = S} n now p digest due is part = subst (λ (x : Node S). IsPartly n.entries now.entries x.entries) (writes_where n p digest due is) part

pub accept_stops : {S : Type 0} (n now : Node S) → now.entries ≡ n.entries → IsPartly n.entries now.entries (accepts n).entries
accept_stops n now same = partly_none n.entries now.entries _ same (grows_accepts n)

pub accepted_stops : {S : Type 0} (n now : Node S) (p : Proposed) (digest : List ℕ) (batch : Batch) → Some p ≡ accepting n → digest ≡ p.head.statement.digest → batch ≡ p.batch
    → IsPartly n.entries now.entries (n.entries ++ Accepted (record { slot = open_slot n; digest = digest; writes = certificate_votes n.arrivals (view_of n) kinds.Write (open_slot n) digest; batch = batch }) ∷ [])
    → IsPartly n.entries now.entries (accepts n).entries
accepted_stops {S = S} n now p digest batch due is same part = subst (λ (x : Node S). IsPartly n.entries now.entries x.entries) (accepts_where n p digest batch due is same) part

-- the entry of an accept, by what its parts are
pub accept_same : {S : Type 0} (n : Node S) (arrivals : List Message) (view : View) (slot : Slot) (digest : List ℕ) (writes : List (SignedBy Ballot)) (batch : Batch) → arrivals ≡ n.arrivals → view ≡ view_of n → slot ≡ open_slot n
    → writes ≡ certificate_votes arrivals view kinds.Write slot digest
    → Accepted (record { slot = slot; digest = digest; writes = writes; batch = batch })
    ≡ Accepted (record { slot = open_slot n; digest = digest; writes = certificate_votes n.arrivals (view_of n) kinds.Write (open_slot n) digest; batch = batch })
accept_same n arrivals view slot digest writes batch kept at opened is = rw (is, kept, at, opened) refl
