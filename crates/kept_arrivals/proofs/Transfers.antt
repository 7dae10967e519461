-- Each rule by which a node takes over a replica or gives its own, on what is needed.
use Rattle.std.proofs.Common.{◌≡◌, ℕ, ◌==◌, ◌<◌, ◌≤◌, ◌++◌, subst, Bool, true, false, ◌&&◌, nat_lt, List, [], ◌∷◌, refl, ap, sym, ◌∙◌, cond, arith, Option, Some, None, is_none, Result, Ok, Err}
use Rattle.std.proofs.lemmas.Bool.{eqb-true, ltb-true}
use Rattle.smart_base.specs.Views.{present}
use Rattle.smart_base.proofs.SameLists.{and_true}
use Rattle.std.specs.List.{filter_map, cons_option}
use Rattle.smart_messages.specs.declared.message.Message.{Message}
use Rattle.smart_messages.specs.declared.message.Message.TheVariants as changes
use Rattle.smart_service.specs.Services.{Meaning}
use Rattle.smart_service.specs.declared.replica.Replica.{Replica}
use Rattle.transfer_form.specs.declared.transfer.StateAsk.{StateAsk}
use Rattle.transfer_form.specs.declared.transfer.StateOffer.{StateOffer}
use Rattle.node_rules.specs.declared.node.OwnSnapshot.{OwnSnapshot}
use Rattle.state_transfer.specs.Fetches.{are_all_there, finished}
use Rattle.state_transfer.specs.declared.choice.Plan.{Plan}
use Rattle.state_transfer.specs.declared.fetch.Fetch.{Fetch}
use Rattle.state_transfer.specs.declared.fetch.Spoiled.{Spoiled}
use Rattle.state_transfer.proofs.Joined.{finished_place}
use Rattle.replica_rules.specs.Pools.{settled}
use Rattle.node_rules.specs.Changes.{state_ask}
use Rattle.node_rules.specs.Nodes.{Node, entered, view_of, regency_of, greatest_regency, decided_place, holding, holding_all, recording, stays_in_view}
use Rattle.node_rules.specs.Marks.{newest_firm, firm_at}
use Rattle.node_rules.specs.Transfers.{is_ready, ready, installing, installed_by, install_replica, is_of_group, keeps_over, spoil, install_by, install_fetch, install_told, installs, offer_for, places_after, shown_after, shown_at, offers_state, part_messages, gives_parts, answers_state, planning, follow_plan, plans, answers_call, answered_call}
use Rattle.node_rules.specs.Rules.{fired_if}
use Rattle.node_rules.specs.declared.node.Called.{Called}
use Rattle.node_rules.specs.declared.node.Called.TheVariants as calls
use Rattle.node_rules.specs.declared.node.Fired.TheVariants as fires
use Rattle.node_rules.specs.declared.node.Target.{Target}
use Rattle.node_rules.specs.declared.node.Target.TheVariants as targets
use Rattle.node_rules.specs.Kept.{trimmed}
use Rattle.kept_arrivals.proofs.Needed.{trim, trimmed_behind, trimmed_twice, regency_grows}
use Rattle.node_rules.proofs.Options.{none_is}
use Rattle.kept_arrivals.proofs.Rules.{exactly, answering_same, answers_same}
use Rattle.kept_arrivals.proofs.Changes.{trimmed-if}

-- ---- what is held

holding_one : {S : Type 0} (n : Node S) (to : Target) (message : Message) → holding (trimmed n) to message ≡ trimmed (holding n to message)
unfolding trimmed regency_of
holding_one n to message = refl

holding_some : {S : Type 0} (n : Node S) (to : Target) (messages : List Message) → holding_all (trimmed n) to messages ≡ trimmed (holding_all n to messages)
holding_some n to [] = refl
holding_some n to (m ∷ ms) = ap (λ x. holding_all x to ms) (holding_one n to m) ∙ holding_some (holding n to m) to ms

-- ---- ANSWER

firm_same : {S : Type 0} (n : Node S) (place : ℕ) → firm_at (trimmed n) place ≡ firm_at n place
unfolding firm_at trimmed
firm_same n place = refl

newest_same : {S : Type 0} (n : Node S) → newest_firm (trimmed n) ≡ newest_firm n
unfolding newest_firm trimmed
newest_same n = refl

trimmed_entries : {S : Type 0} (n : Node S) → (trimmed n).entries ≡ n.entries
unfolding trimmed
trimmed_entries n = refl

trimmed_replica : {S : Type 0} (n : Node S) → (trimmed n).replica ≡ n.replica
unfolding trimmed
trimmed_replica n = refl

shown_one : {S : Type 0} (n : Node S) (k : ℕ) → shown_at (trimmed n) k ≡ shown_at n k
shown_one n k = rw (newest_same n, trimmed_entries n, trimmed_replica n) refl

shown_all : {S : Type 0} (n : Node S) (places : List ℕ) → filter_map (shown_at (trimmed n)) places ≡ filter_map (shown_at n) places
shown_all n [] = refl
shown_all n (k ∷ ks) =
    ap (λ (o : Option Message). cons_option o (filter_map (shown_at (trimmed n)) ks)) (shown_one n k)
    ∙ ap (λ (ms : List Message). cons_option (shown_at n k) ms) (shown_all n ks)

shown_same : {S : Type 0} (n : Node S) (place : ℕ) → shown_after (trimmed n) place ≡ shown_after n place
unfolding shown_after
shown_same n place = shown_all n (places_after place 8)

offer_same : {S : Type 0} (n : Node S) (place : ℕ) → offer_for (trimmed n) place ≡ offer_for n place
unfolding offer_for newest_firm trimmed
offer_same n place = refl

offers_exact : {S : Type 0} (n : Node S) (a : StateAsk) → offers_state (trimmed n) a ≡ trimmed (offers_state n a)
unfolding offers_state
offers_exact n a =
    ap (λ (o : StateOffer). holding_all (trimmed n) (targets.Node a.member) (changes.StateOffer o ∷ shown_after (trimmed n) a.place)) (offer_same n a.place)
    ∙ (ap (λ (ms : List Message). holding_all (trimmed n) (targets.Node a.member) (changes.StateOffer (offer_for n a.place) ∷ ms)) (shown_same n a.place)
    ∙ holding_some n (targets.Node a.member) (changes.StateOffer (offer_for n a.place) ∷ shown_after n a.place))

parts_exact : {S : Type 0} (n : Node S) (a : StateAsk) → gives_parts (trimmed n) a ≡ trimmed (gives_parts n a)
unfolding gives_parts
parts_exact n a =
    ap (λ (own : Option OwnSnapshot). holding_all (trimmed n) (targets.Node a.member) (part_messages own)) (firm_same n a.fetch)
    ∙ holding_some n (targets.Node a.member) (part_messages (firm_at n a.fetch))

states_exact : {S : Type 0} (a : StateAsk) (n : Node S) → answers_state (trimmed n) a ≡ trimmed (answers_state n a)
unfolding answers_state
states_exact a n =
    ap (λ x. cond (a.fetch == 0) x (gives_parts (trimmed n) a)) (offers_exact n a)
    ∙ (ap (λ x. cond (a.fetch == 0) (trimmed (offers_state n a)) x) (parts_exact n a) ∙ trimmed-if (a.fetch == 0) (offers_state n a) (gives_parts n a))

planning_same : {S : Type 0} (n : Node S) → planning (trimmed n) ≡ planning n
unfolding planning trimmed
planning_same n = refl

follow_same : {S : Type 0} (n : Node S) (plan : Option Plan) → follow_plan (trimmed n) plan ≡ trimmed (follow_plan n plan)
unfolding follow_plan trimmed regency_of
follow_same n None = refl
follow_same n (Some p) = refl

plans_exact : {S : Type 0} (n : Node S) → plans (trimmed n) ≡ trimmed (plans n)
unfolding plans
plans_exact n = ap (λ p. follow_plan (trimmed n) p) (planning_same n) ∙ follow_same n (planning n)

pub calls_same : {S : Type 0} (called : Called) (n : Node S) → trimmed (answers_call (trimmed n) called) ≡ trimmed (answers_call n called)
calls_same calls.Nobody n = trimmed_twice n
calls_same (calls.Request asked) n = answers_same n asked
calls_same (calls.State a) n = exactly (λ x. answers_state x a) (states_exact a) n
calls_same calls.Offered n = exactly plans plans_exact n

pub called_same : {S : Type 0} (called : Called) (n : Node S) → answered_call (trimmed n) called ≡ answered_call n called
called_same calls.Nobody n = refl
called_same (calls.Request asked) n = ap (λ line. fired_if fires.Answered line) (answering_same n asked)
called_same (calls.State a) n = refl
called_same calls.Offered n = ap (λ plan. fired_if fires.Answered plan) (planning_same n)

-- ---- INSTALL

installing_same : {S : Type 0} (n : Node S) → installing (trimmed n) ≡ installing n
unfolding installing trimmed
installing_same n = refl

-- the plan that is due is ready
ready_is : {S : Type 0} (n : Node S) (plan : Option Fetch) (f : Fetch) → ready n plan ≡ Some f → is_ready n f ≡ true
ready_is n None f is = absurd cc
ready_is n (Some x) f is = by (is_ready n x) refl is
  where
    by : (t : Bool) → is_ready n x ≡ t → cond t (Some x) None ≡ Some f → is_ready n f ≡ true
    by true due is = let same : x ≡ f = cc in ap (λ y. is_ready n y) (sym same) ∙ due
    by false due is = absurd cc

pub installing_ready : {S : Type 0} (n : Node S) (f : Fetch) → installing n ≡ Some f → is_ready n f ≡ true
unfolding installing
installing_ready n f is = ready_is n n.fetch f is

-- the regency in force is no earlier behind an installation that leaves the view
regency_later : {S : Type 0} (n : Node S) (f : Fetch) (r : Replica S) → (view_of n).number ≡ (present r.views).number → regency_of n ≤ regency_of (install_replica n f r)
unfolding install_replica regency_of
regency_later n f r view =
    subst (λ (k : ℕ). greatest_regency (view_of n).number n.entries ≤ greatest_regency k (n.entries ++ installed_by f.plan ∷ [])) view
    (regency_grows (view_of n).number n.entries (installed_by f.plan ∷ []))

-- The replica that is installed is of a later place. What is needed behind it, in the view that was in force, is needed now. In a view that begins
-- nothing is kept that would be.
replica_same : {S : Type 0} (n : Node S) (f : Fetch) (r : Replica S) → n.waiting ≡ None → n.replica.place < r.place → trimmed (install_replica (trimmed n) f r) ≡ trimmed (install_replica n f r)
unfolding install_replica trimmed regency_of
replica_same {S = S} n f r free later = by (stays_in_view n before) refl
  where
    before : Node S
    before = record (recording n (installed_by f.plan)) { replica = r; pool = settled r.table n.pool; fetch = None }

    finish : Node S → Node S
    finish x = holding (keeps_over x f) targets.View (state_ask (keeps_over x f) 0)

    by : (t : Bool) → ((view_of n).number == (present r.views).number) ≡ t
        → trimmed (finish (entered t (trim (view_of n).number (decided_place n) (regency_of n) before))) ≡ trimmed (finish (entered t before))
    by true same =
        let view : (view_of n).number ≡ (present r.views).number = eqb-true (view_of n).number (present r.views).number same in
        subst (λ (k : ℕ). trimmed (trim k (decided_place n) (regency_of n) (finish (entered true before))) ≡ trimmed (finish (entered true before))) (sym view)
        (trimmed_behind (decided_place n) (regency_of n) (finish (entered true before)) (rw free (omega (arith, later))) (regency_later n f r view))
    by false moved = trimmed_behind (decided_place n) 0 (finish (entered false before)) (rw free (omega (arith, later))) (omega arith)

spoil_same : {S : Type 0} (n : Node S) (f : Fetch) → trimmed (spoil (trimmed n) f) ≡ trimmed (spoil n f)
unfolding spoil trimmed regency_of
spoil_same n f = trimmed_twice (spoil n f)

by_same : {S : Type 0} (m : Meaning S) (n : Node S) (f : Fetch) (made : Result (Replica S) Spoiled) → finished m f ≡ made → is_ready n f ≡ true
    → trimmed (install_by (trimmed n) f made) ≡ trimmed (install_by n f made)
unfolding trimmed
by_same m n f (Err why) is due = spoil_same n f
by_same m n f (Ok r) is due = by (is_of_group n r) refl
  where
    facts : ((are_all_there f && is_none n.waiting) ≡ true) × (nat_lt n.replica.place f.plan.place ≡ true)
    facts = and_true (are_all_there f && is_none n.waiting) (nat_lt n.replica.place f.plan.place) due

    free : n.waiting ≡ None
    free = none_is n.waiting (and_true (are_all_there f) (is_none n.waiting) facts.0).1

    later : n.replica.place < r.place
    later = omega (arith, ltb-true n.replica.place f.plan.place facts.1, finished_place m f r is)

    by : (t : Bool) → is_of_group n r ≡ t → trimmed (cond t (install_replica (trimmed n) f r) (spoil (trimmed n) f)) ≡ trimmed (cond t (install_replica n f r) (spoil n f))
    by true of = replica_same n f r free later
    by false of = spoil_same n f

fetch_same : {S : Type 0} (m : Meaning S) (n : Node S) (due : Option Fetch) → installing n ≡ due → trimmed (install_fetch m (trimmed n) due) ≡ trimmed (install_fetch m n due)
unfolding install_fetch
fetch_same m n None is = trimmed_twice n
fetch_same m n (Some f) is = by_same m n f (finished m f) refl (installing_ready n f is)

pub installs_same : {S : Type 0} (m : Meaning S) (n : Node S) → trimmed (installs m (trimmed n)) ≡ trimmed (installs m n)
unfolding installs
installs_same m n = ap (λ due. trimmed (install_fetch m (trimmed n) due)) (installing_same n) ∙ fetch_same m n (installing n) refl

told_same : {S : Type 0} (m : Meaning S) (n : Node S) (due : Option Fetch) → install_told m (trimmed n) due ≡ install_told m n due
unfolding install_told trimmed
told_same m n None = refl
told_same m n (Some f) = refl

pub install_told_same : {S : Type 0} (m : Meaning S) (n : Node S) → install_told m (trimmed n) (installing (trimmed n)) ≡ install_told m n (installing n)
install_told_same m n = ap (λ due. install_told m (trimmed n) due) (installing_same n) ∙ told_same m n (installing n)
