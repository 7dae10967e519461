-- What is not dropped is kept.
use Rattle.std.proofs.Common.{◌≡◌, ℕ, ◌+◌, ◌++◌, ◌==◌, ◌&&◌, ◌||◌, ◌≤◌, ◌<◌, nat_lt, nat_le, not, Bool, true, false, ◌∷◌, [], refl, ap, sym, subst, ◌∙◌, cond, arith, Option, Some, None, is_some}
use Rattle.std.proofs.lemmas.Bool.{leb-false, le-leb, ltb-false, lt-ltb, eq-eqb, or_parts}
use Rattle.smart_base.specs.Views.{leader}
use Rattle.smart_statements.specs.Forms.{SignedBy}
use Rattle.smart_statements.specs.Reports.{reports}
use Rattle.smart_statements.specs.declared.statement.Ballot.{Ballot}
use Rattle.smart_messages.specs.Regencies.{stops, syncs}
use Rattle.smart_messages.specs.declared.regency.Stop.{Stop}
use Rattle.smart_messages.specs.declared.regency.Sync.{Sync}
use Rattle.smart_messages.specs.declared.regency.Reported.{Reported}
use Rattle.smart_messages.specs.declared.message.Message.{Message}
use Rattle.smart_messages.specs.declared.message.Message.TheVariants.{Propose, Vote}
use Rattle.smart_messages.specs.declared.message.Message.TheVariants as changes
use Rattle.smart_messages.specs.declared.message.Proposed.{Proposed}
use Rattle.regency_sync.specs.Synchronizers.{Synchronizer, repeats_stop, repeats_report, repeats_sync, keeps_stop, keeps_report, keeps_sync, keeping_stop, keeping_report, keeping_sync, with_stop, with_report, with_sync}
use Rattle.replica_rules.specs.Seals.{is_verified}
use Rattle.node_rules.specs.Nodes.{Node, view_of, regency_of, ring_of, is_begun, synchronizer_of}
use Rattle.node_rules.specs.Arrivals.{signer_why, view_why, regency_why, wish_why, is_proven, is_collect, why_propose, why_vote, why_stop, why_report, why_sync, why_dropped, kept}
use Rattle.node_rules.specs.declared.node.Why.{Why}
use Rattle.node_rules.specs.declared.node.Why.TheVariants.{OldView, NewView, OldRegency, NewRegency, NotLeader, BadProof, Repeated}
use Rattle.node_rules.proofs.Options.{no_reason, else_none}
use Rattle.node_rules.proofs.Rulewise.{why_noted}
use Rattle.consensus_instance.specs.Instances.{Instance, with_arrival, keeping_vote, keeping_proposal}
use Rattle.consensus_instance.specs.Nodes.{HasInstance}
use Rattle.consensus_instance.proofs.Keeping.{all_three, neither, is_signer, vote_kept, proposal_kept}
use Rattle.node_state.specs.Following.{Follows}
use Rattle.node_state.proofs.Following.{synchronizer_after}

none_of : {A : Type 0} (o : Option A) → is_some o ≡ false → o ≡ None
none_of None is = refl
none_of (Some x) is = absurd (cc)

-- what was not dropped is not dropped by a node that has noted whether it lags
pub stays : {S : Type 0} (n m : Node S) (message : Message) (dropped : Option Why) (behind : Bool) → dropped ≡ why_dropped n message → is_some dropped ≡ false → m ≡ record n { behind = behind }
    → why_dropped m message ≡ None
stays {S = S} n m message dropped behind is none same =
    subst (λ (x : Node S). why_dropped x message ≡ None) (sym same) (why_noted n behind message ∙ (sym is ∙ none_of dropped none))

-- ---- the instance

pub vote_where : {S : Type 0} (n inside : Node S) (i now : Instance) (b : SignedBy Ballot) → inside ≡ n → HasInstance inside i → why_vote n b ≡ None → now ≡ keeping_vote b i
    → record inside { arrivals = now.arrivals } ≡ kept n (Vote b)
unfolding kept
vote_where {S = S} n inside i now b same has none is =
    let whole : now ≡ with_arrival (Vote b) i = is ∙ vote_kept inside i b has (ap (λ (m : Node S). why_vote m b) same ∙ none) in
    rw (whole, has.arrivals_same) (ap (λ (m : Node S). record m { arrivals = m.arrivals ++ Vote b ∷ [] }) same)

pub proposal_where : {S : Type 0} (n inside : Node S) (i now : Instance) (p : Proposed) → inside ≡ n → HasInstance inside i → why_propose n p ≡ None → now ≡ keeping_proposal p i
    → record inside { arrivals = now.arrivals } ≡ kept n (Propose p)
unfolding kept
proposal_where {S = S} n inside i now p same has none is =
    let whole : now ≡ with_arrival (Propose p) i = is ∙ proposal_kept inside i p has (ap (λ (m : Node S). why_propose m p) same ∙ none) in
    rw (whole, has.arrivals_same) (ap (λ (m : Node S). record m { arrivals = m.arrivals ++ Propose p ∷ [] }) same)

-- ---- the synchronizer

view_is : {S : Type 0} (n : Node S) (view : ℕ) → view_why n view ≡ None → view ≡ (view_of n).number
view_is n view none =
    let v = neither (nat_lt view (view_of n).number) (nat_lt (view_of n).number view) OldView NewView none in
    omega (arith, ltb-false view (view_of n).number v.0, ltb-false (view_of n).number view v.1)

-- of the view in force, and of the regency in force or the next one
near : (number regency v r : ℕ) → v ≡ number → regency ≤ r → r ≤ regency + 1 → (((v == number) && nat_le regency r) && nat_le r (regency + 1)) ≡ true
near number regency v r at later next = rw (eq-eqb v number at, le-leb regency r later, le-leb r (regency + 1) next) refl

both_true : (a b : Bool) → a ≡ true → b ≡ true → (a && b) ≡ true
both_true a b first second = rw (first, second) refl

stop_passes : {S : Type 0} (n : Node S) (x : SignedBy Stop) → why_stop n x ≡ None → keeps_stop (synchronizer_of n) x ≡ true
unfolding why_stop keeps_stop
stop_passes n x none =
    let first = else_none (signer_why n (is_verified stops (ring_of n) x) x.signer) _ none in
    let second = else_none (view_why n x.statement.view) _ first.1 in
    let third = else_none (wish_why n x.statement.regency) _ second.1 in
    let r = neither (nat_le x.statement.regency (regency_of n)) (nat_lt (regency_of n + 1) x.statement.regency) OldRegency NewRegency third.0 in
    let above : regency_of n < x.statement.regency = leb-false x.statement.regency (regency_of n) r.0 in
    all_three _ _ _
    (is_signer n _ x.signer first.0)
    (both_true _ _
    (near (view_of n).number (regency_of n) x.statement.view x.statement.regency (view_is n x.statement.view second.0) (omega (arith, above))
    (ltb-false (regency_of n + 1) x.statement.regency r.1))
    (lt-ltb (regency_of n) x.statement.regency above))
    (no_reason (repeats_stop (synchronizer_of n) x) Repeated None third.1).0

report_passes : {S : Type 0} (n : Node S) (x : Reported) → why_report n x ≡ None → keeps_report (synchronizer_of n) x ≡ true
unfolding why_report keeps_report
report_passes n x none =
    let first = else_none (signer_why n (is_verified reports (ring_of n) x.head) x.head.signer) _ none in
    let second = else_none (view_why n x.head.statement.view) _ first.1 in
    let third = else_none (regency_why n x.head.statement.regency) _ second.1 in
    let r = neither (nat_lt x.head.statement.regency (regency_of n)) (nat_lt (regency_of n + 1) x.head.statement.regency) OldRegency NewRegency third.0 in
    let led = no_reason (not (leader (view_of n) x.head.statement.regency == n.id)) NotLeader _ third.1 in
    let valid = no_reason (not (is_proven n x)) BadProof _ led.1 in
    all_three _ _ _
    (is_signer n _ x.head.signer first.0)
    (near (view_of n).number (regency_of n) x.head.statement.view x.head.statement.regency (view_is n x.head.statement.view second.0)
    (ltb-false x.head.statement.regency (regency_of n) r.0) (ltb-false (regency_of n + 1) x.head.statement.regency r.1))
    (no_reason (repeats_report (synchronizer_of n) x.head) Repeated None valid.1).0

sync_passes : {S : Type 0} (n : Node S) (x : SignedBy Sync) → why_sync n x ≡ None → keeps_sync (synchronizer_of n) x ≡ true
unfolding why_sync keeps_sync
sync_passes n x none =
    let first = else_none (signer_why n (is_verified syncs (ring_of n) x) x.signer) _ none in
    let second = else_none (view_why n x.statement.view) _ first.1 in
    let old = no_reason (nat_lt x.statement.regency (regency_of n)) OldRegency _ second.1 in
    let led = no_reason (not (x.signer == leader (view_of n) x.statement.regency)) NotLeader _ old.1 in
    let valid = no_reason (not (is_collect n x.statement)) BadProof _ led.1 in
    let new = no_reason (is_begun n x.statement.regency || repeats_sync (synchronizer_of n) x) Repeated None valid.1 in
    all_three _ _ _
    (is_signer n _ x.signer first.0)
    (both_true _ _ (eq-eqb x.statement.view (view_of n).number (view_is n x.statement.view second.0)) (le-leb (regency_of n) x.statement.regency (ltb-false x.statement.regency (regency_of n) old.0)))
    (or_parts (is_begun n x.statement.regency) (repeats_sync (synchronizer_of n) x) new.0).1

pub stop_where : {S : Type 0} (n inside : Node S) (i : Instance) (s then : Synchronizer) (x : SignedBy Stop) → inside ≡ n → Follows inside.id (view_of inside) inside.replica.place inside.waiting inside.entries i s
    → s.stop_made ≡ inside.stop_made → s.sync_made ≡ inside.sync_made → s.stops ≡ inside.stops → s.reports ≡ inside.reports → s.syncs ≡ inside.syncs
    → why_stop n x ≡ None → then ≡ keeping_stop x s
    → record inside { stops = then.stops; reports = then.reports; syncs = then.syncs; stop_made = then.stop_made; sync_made = then.sync_made } ≡ kept n (changes.Stop x)
unfolding kept
stop_where {S = S} n inside i s then x same is e0 e1 e2 e3 e4 none kept_by =
    let own = synchronizer_after n inside i s same is e0 e1 e2 e3 e4 in
    let whole : then ≡ with_stop x s = kept_by ∙ ap (λ t. cond t (with_stop x s) s) (ap (λ y. keeps_stop y x) own ∙ stop_passes n x none) in
    rw (whole, e0, e1, e2, e3, e4) (ap (λ (m : Node S). record m { stops = m.stops ++ x ∷ [] }) same)

pub report_where : {S : Type 0} (n inside : Node S) (i : Instance) (s then : Synchronizer) (x : Reported) → inside ≡ n → Follows inside.id (view_of inside) inside.replica.place inside.waiting inside.entries i s
    → s.stop_made ≡ inside.stop_made → s.sync_made ≡ inside.sync_made → s.stops ≡ inside.stops → s.reports ≡ inside.reports → s.syncs ≡ inside.syncs
    → why_report n x ≡ None → then ≡ keeping_report x.head x.batch s
    → record inside { stops = then.stops; reports = then.reports; syncs = then.syncs; stop_made = then.stop_made; sync_made = then.sync_made } ≡ kept n (changes.StopData x)
unfolding kept
report_where {S = S} n inside i s then x same is e0 e1 e2 e3 e4 none kept_by =
    let own = synchronizer_after n inside i s same is e0 e1 e2 e3 e4 in
    let whole : then ≡ with_report x.head x.batch s = kept_by ∙ ap (λ t. cond t (with_report x.head x.batch s) s) (ap (λ y. keeps_report y x) own ∙ report_passes n x none) in
    rw (whole, e0, e1, e2, e3, e4) (ap (λ (m : Node S). record m { reports = m.reports ++ x ∷ [] }) same)

pub sync_where : {S : Type 0} (n inside : Node S) (i : Instance) (s then : Synchronizer) (x : SignedBy Sync) → inside ≡ n → Follows inside.id (view_of inside) inside.replica.place inside.waiting inside.entries i s
    → s.stop_made ≡ inside.stop_made → s.sync_made ≡ inside.sync_made → s.stops ≡ inside.stops → s.reports ≡ inside.reports → s.syncs ≡ inside.syncs
    → why_sync n x ≡ None → then ≡ keeping_sync x s
    → record inside { stops = then.stops; reports = then.reports; syncs = then.syncs; stop_made = then.stop_made; sync_made = then.sync_made } ≡ record n { syncs = n.syncs ++ x ∷ [] }
sync_where {S = S} n inside i s then x same is e0 e1 e2 e3 e4 none kept_by =
    let own = synchronizer_after n inside i s same is e0 e1 e2 e3 e4 in
    let whole : then ≡ with_sync x s = kept_by ∙ ap (λ t. cond t (with_sync x s) s) (ap (λ y. keeps_sync y x) own ∙ sync_passes n x none) in
    rw (whole, e0, e1, e2, e3, e4) (ap (λ (m : Node S). record m { syncs = m.syncs ++ x ∷ [] }) same)
