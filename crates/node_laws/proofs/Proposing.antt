-- A node that proposes stays sound.
use Rattle.std.proofs.Common.{Bool, List, None, Option, Some, ap, cond, false, filter, inl, inr, nat_lt, not, refl, subst, sym, true, ℕ, ⊎_elim, [], ◌∷◌, ◌++◌, ◌≡◌, ◌&&◌, ◌==◌}
use Rattle.std.specs.List.{filter_map, flat_map, list_any}
use Rattle.std.specs.Prelude.{find, map, option_map}
use Rattle.replica_rules.specs.Pools.{filled, gathered}
use Rattle.replica_rules.specs.Seals.{digest_of, is_managers, is_verified, signed}
use Rattle.agreement_laws.specs.Statements.{Statement}
use Rattle.node_rules.specs.Nodes.{Node, bound_at, is_open, next_place, open_slot, regency_of, start_of, synchronizer_of, view_of}
use Rattle.node_rules.specs.Rules.{batch_under, propose_batch, proposes, proposing}
use Rattle.node_rules.specs.Votes.{Named, accepted_under, named_by}
use Rattle.regency_sync.specs.Synchronizers.{batch_in, batch_of, bears}
use Rattle.smart_base.specs.Lists.{Each, same_bytes}
use Rattle.smart_base.specs.Views.{View, leader}
use Rattle.smart_base.specs.declared.party.Party.TheVariants.{Member}
use Rattle.smart_statements.specs.Equality.{same_slot}
use Rattle.smart_statements.specs.Forms.{SignedBy}
use Rattle.smart_statements.specs.Kinds.{proposals, requests}
use Rattle.smart_statements.specs.Batches.{Batch}
use Rattle.smart_messages.specs.declared.message.Message.TheVariants.{Ask, Propose}
use Rattle.smart_messages.specs.declared.message.Proposed.{Proposed}
use Rattle.smart_messages.specs.declared.regency.Reported.{Reported}
use Rattle.smart_statements.specs.declared.statement.Request.{Request}
use Rattle.vote_book.specs.Books.{Among}
use Rattle.node_laws.proofs.Deciding.{named_accepted}
use Rattle.node_laws.proofs.Lists.{each_filter_map_in, found, guard}
use Rattle.node_laws.proofs.Nodes.{Late, ReportKept, Shows, aside, holds}
use Rattle.node_laws.proofs.Stated.{Covers, batch_covers, covers, each_verified}
use Rattle.node_laws.specs.Sound.{AreAsked, HasBatch, IsBatchAt, IsSound, IsStated}
use Rattle.smart_messages.specs.declared.message.Message.TheVariants as changes
use Rattle.node_rules.specs.declared.node.Target.TheVariants as targets
use Rattle.agreement_laws.specs.Statements as says
use Rattle.replica_rules.specs.Pools as pools
use Rattle.agreement_laws.proofs.Lists.{among_right, each_among, each_end, either, else_some, some_equal}
use Rattle.regency_sync.proofs.Lists.{each_filter}

-- ---- batches of requests that wait

gathered_each : (P : SignedBy Request → Type 0) (batch : Batch) (qs : List (SignedBy Request)) → Each P batch → Each P qs → Each P (filled batch qs)
gathered_each P batch [] has rest = has
gathered_each P batch (q ∷ qs) has rest =
    let more : Each P (batch ++ q ∷ []) = each_end P batch q has rest.0 in
    either (λ (b : Batch). Each P b) (pools.is_within (batch ++ q ∷ [])) (filled (batch ++ q ∷ []) qs) batch (gathered_each P (batch ++ q ∷ []) qs more rest.1) has

batch_each : (P : SignedBy Request → Type 0) (qs : List (SignedBy Request)) (batch : Batch) → Each P qs → pools.batch_of qs ≡ Some batch → Each P batch
batch_each P [] batch all is = absurd (cc)
batch_each P (q ∷ qs) batch all is =
    let rest : Batch = filled (q ∷ []) (filter (λ p. not (is_managers p)) qs) in
    by (is_managers q) is (gathered_each P (q ∷ []) (filter (λ p. not (is_managers p)) qs) (all.0, tt) (each_filter P (λ p. not (is_managers p)) qs all.1))
  where
    by : (t : Bool) → cond t (Some (q ∷ [])) (Some (filled (q ∷ []) (filter (λ p. not (is_managers p)) qs))) ≡ Some batch
        → Each P (filled (q ∷ []) (filter (λ p. not (is_managers p)) qs)) → Each P batch
    by true same has = subst (λ (b : Batch). Each P b) (some_equal (q ∷ []) batch same) (all.0, tt)
    by false same has = subst (λ (b : Batch). Each P b) (some_equal (filled (q ∷ []) (filter (λ p. not (is_managers p)) qs)) batch same) has

gathered_asked : (secret : List ℕ) (stated : List Statement) (pool : List (SignedBy Request)) (place : ℕ) (batch : Batch) → AreAsked secret stated pool → gathered pool place ≡ Some batch
    → AreAsked secret stated batch
unfolding gathered
gathered_asked secret stated pool place batch asked is =
    let IsAsked : SignedBy Request → Type 0 = λ q. (is_verified requests secret q ≡ true) × IsStated secret stated (Ask q) in
    batch_each IsAsked (filter (λ q. nat_lt q.statement.after place) pool) batch (each_filter IsAsked (λ q. nat_lt q.statement.after place) pool asked) is

-- ---- the batch that binds

in_batch : (o : Option Reported) (batch : Batch) → batch_in o ≡ Some batch → (r : Reported) × (o ≡ Some r) × (r.batch ≡ Some batch)
in_batch None batch is = absurd (cc)
in_batch (Some r) batch is = (r, refl, is)

-- whatever verifies of a batch's requests has been stated
abbrev BatchCovers : List ℕ → List Statement → Batch → Type 0
BatchCovers secret stated batch = Covers secret stated (flat_map says.within (map says.Asked batch))

reported_covers : (secret : List ℕ) (stated : List Statement) (r : Reported) (o : Option Batch) (batch : Batch) → r.batch ≡ o → o ≡ Some batch
    → Covers secret stated (says.in_report r.head ++ flat_map says.within (says.requests_of o)) → BatchCovers secret stated batch
reported_covers secret stated r None batch at is all = absurd (cc)
reported_covers secret stated r (Some b) batch at is all =
    subst (λ (c : Batch). BatchCovers secret stated c) (some_equal b batch is)
    (λ s there ok. all s (among_right s (says.in_report r.head) (flat_map says.within (map says.Asked b)) there) ok)

brought_covers : {S : Type 0} (stated : List Statement) (view : View) (n : Node S) (digest : List ℕ) (batch : Batch) → IsSound stated view n
    → batch_of (view_of n) (synchronizer_of n) digest ≡ Some batch → BatchCovers n.secret stated batch
unfolding batch_of
brought_covers stated view n digest batch is at =
    let p : Reported → Bool = bears (view_of n) (synchronizer_of n) digest in
    let of = in_batch (find p n.reports) batch at in
    let r : Reported = of.0 in
    let kept = each_among (ReportKept n stated) n.reports r is.reports (found p n.reports r of.1).there in
    reported_covers n.secret stated r r.batch batch refl of.2 (covers n.secret stated (changes.StopData r) kept.1)

under_of : (o : Option Named) (batch : Batch) → option_map (λ (x : Named). x.batch) o ≡ Some batch → (x : Named) × (o ≡ Some x) × (x.batch ≡ batch)
under_of None batch is = absurd (cc)
under_of (Some x) batch is = (x, refl, some_equal x.batch batch is)

accepted_covers : {S : Type 0} (stated : List Statement) (view : View) (n : Node S) (number place : ℕ) (digest : List ℕ) (batch : Batch) → IsSound stated view n
    → accepted_under number place digest n.entries ≡ Some batch → BatchCovers n.secret stated batch
accepted_covers stated view n number place digest batch is at =
    let xs : List Named = filter_map (named_by number place) n.entries in
    let p : Named → Bool = λ x. same_bytes x.digest digest in
    let of = under_of (find p xs) batch at in
    let x : Named = of.0 in
    let all : Each (λ (y : Named). IsBatchAt n.secret stated place y.digest y.batch) xs =
    each_filter_map_in (λ (y : Named). IsBatchAt n.secret stated place y.digest y.batch) (named_by number place) n.entries
    (λ e y there named. named_accepted n.secret stated number place e y (each_among (HasBatch n.secret stated) n.entries e is.batches there) named) in
    let has = each_among (λ (y : Named). IsBatchAt n.secret stated place y.digest y.batch) xs x all (found p xs x of.1).there in
    subst (λ (b : Batch). BatchCovers n.secret stated b) of.2 (batch_covers n.secret stated x.batch has.asked)

under_covers : {S : Type 0} (stated : List Statement) (view : View) (n : Node S) (bound : Option (List ℕ)) (batch : Batch) → IsSound stated view n
    → batch_under n bound ≡ Some batch → BatchCovers n.secret stated batch
unfolding batch_under
under_covers stated view n None batch is at = batch_covers n.secret stated batch (gathered_asked n.secret stated n.pool (next_place n) batch is.pool at)
under_covers stated view n (Some digest) batch is at =
    let brought = batch_of (view_of n) (synchronizer_of n) digest in
    let own = accepted_under (view_of n).number (next_place n) digest n.entries in
    ⊎_elim (λ one. brought_covers stated view n digest batch is one) (λ other. accepted_covers stated view n (view_of n).number (next_place n) digest batch is other)
    (else_some brought own batch at)

-- ---- propose

proposing_covers : {S : Type 0} (stated : List Statement) (view : View) (n : Node S) (batch : Batch) → IsSound stated view n → proposing n ≡ Some batch → BatchCovers n.secret stated batch
unfolding proposing
proposing_covers stated view n batch is at =
    let parts = guard (is_open n && (leader (view_of n) (regency_of n) == n.id) && not (list_any (same_slot (open_slot n)) n.proposed))
    (batch_under n (bound_at (next_place n) (start_of n))) batch at in
    under_covers stated view n (bound_at (next_place n) (start_of n)) batch is parts.1

proposal_shown : {S : Type 0} (stated : List Statement) (n : Node S) (p : Proposed) → p.head.signer ≡ n.id → BatchCovers n.secret stated p.batch
    → (s : Statement) → Among s (flat_map says.within (says.said (Propose p))) → says.verifies n.secret s ≡ true → Shows stated n s
proposal_shown stated n p own all s (inl same) ok = subst (λ (x : Statement). Shows stated n x) (sym same) (inr (ap (λ (k : ℕ). Member k) own, tt))
proposal_shown stated n p own all s (inr there) ok = inl (all s there ok)

proposal_late : {S : Type 0} (stated : List Statement) (n : Node S) (p : Proposed) → BatchCovers n.secret stated p.batch
    → (s : Statement) → Among s (flat_map says.within (says.said (Propose p))) → says.verifies n.secret s ≡ true → Late stated n s
proposal_late stated n p all s (inl same) ok = subst (λ (x : Statement). Late stated n x) (sym same) (inr tt)
proposal_late stated n p all s (inr there) ok = inl (all s there ok)

proposes_with : {S : Type 0} (stated : List Statement) (view : View) (n : Node S) (o : Option Batch) → IsSound stated view n → proposing n ≡ o → IsSound stated view (propose_batch n o)
unfolding propose_batch
proposes_with stated view n None is at = is
proposes_with {S = S} stated view n (Some batch) is at =
    let m : Node S = record n { proposed = n.proposed ++ open_slot n ∷ [] } in
    let marked : IsSound stated view m = aside stated view n n.firm n.held (n.proposed ++ open_slot n ∷ []) n.stop_made n.sync_made n.impatient n.behind is is.held is.late in
    let p : Proposed = record { head = signed proposals n.secret n.id (record { slot = open_slot n; digest = digest_of batch }); batch = batch } in
    holds stated view m targets.View (Propose p) marked
    (each_verified n.secret (Shows stated m) (flat_map says.within (says.said (Propose p)))
    (proposal_shown stated m p refl (proposing_covers stated view n batch is at)))
    (each_verified n.secret (Late stated m) (flat_map says.within (says.said (Propose p))) (proposal_late stated m p (proposing_covers stated view n batch is at)))

pub sound_proposes : {S : Type 0} (stated : List Statement) (view : View) (n : Node S) → IsSound stated view n → IsSound stated view (proposes n)
unfolding proposes
sound_proposes stated view n is = proposes_with stated view n (proposing n) is refl
