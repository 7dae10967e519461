-- A node that decides stays sound.
use Rattle.std.proofs.Common.{List, None, Option, Some, ap, arith, nat_le, nat_lt, refl, subst, suc, sym, true, zero, ℕ, ⊎_elim, ◌≡◌, ◌==◌, ◌&&◌, ◌∙◌, ◌≤◌, ◌<◌, ◌+◌, ◌++◌, ◌∷◌, [], inl, inr, ◌⊎◌}
use Rattle.std.proofs.lemmas.Bool.{eqb-true, ltb-true}
use Rattle.std.specs.List.{filter_map}
use Rattle.std.specs.Prelude.{is_none, option_map, ◌^◌}
use Rattle.certificates.specs.Certificates.{accept_of}
use Rattle.certificates.specs.Collects.{slot_of}
use Rattle.node_rules.specs.Votes.{has_quorum, Named, accepted_in, certificate_votes, decision_by, known, named_by, named_in}
use Rattle.replica_rules.specs.Seals.{digest_of}
use Rattle.agreement_laws.specs.Certificates.{IsDrawn}
use Rattle.agreement_laws.specs.Statements.{Statement}
use Rattle.node_rules.specs.Nodes.{Node, is_free, next_place, regency_of, view_of}
use Rattle.node_rules.specs.Arrivals.{regency_by}
use Rattle.node_rules.specs.Rules.{decide_batch, decides, deciding, decision_ahead, decision_in, decision_shown, first_votes, shown_next, slot_in}
use Rattle.transfer_form.specs.declared.transfer.ProvenBatch.{ProvenBatch}
use Rattle.smart_base.specs.Lists.{Each, or_else}
use Rattle.smart_base.specs.Views.{View}
use Rattle.smart_messages.specs.declared.message.Message.{Message}
use Rattle.smart_messages.specs.declared.message.Message.TheVariants.{Propose}
use Rattle.smart_messages.specs.declared.message.Message.TheVariants as changes
use Rattle.smart_statements.specs.declared.statement.Slot.{Slot}
use Rattle.vote_book.proofs.Last.{last_push, latest_push}
use Rattle.vote_book.specs.BookReports.{accept_for}
use Rattle.vote_book.specs.Books.{Among, Follows, latest_made}
use Rattle.vote_book.specs.declared.entry.Accept.{Accept}
use Rattle.vote_book.specs.declared.entry.Decision.{Decision}
use Rattle.vote_book.specs.declared.entry.LogEntry.{LogEntry}
use Rattle.vote_book.specs.declared.entry.LogEntry.TheVariants.{Accepted, Decided, Installed, Marked, Opened, Promised, Synced, Wrote}
use Rattle.node_laws.proofs.Lists.{among_last, each_filter_map_in, found, guard}
use Rattle.node_laws.proofs.Nodes.{Arrived, DecisionKept, Makes, MayPush, in_force_of, in_force_viewed, number_next, pushes}
use Rattle.node_laws.proofs.Showing.{first_drawn, shown_asked, shown_stated}
use Rattle.node_laws.proofs.Stated.{may_stand}
use Rattle.node_laws.proofs.Votes.{made_last, made_latest, place_of_some}
use Rattle.node_laws.proofs.Voting.{drawn_now, proposal_may}
use Rattle.node_laws.specs.Sound.{HasBatch, IsBatchAt, IsIn, IsShownIn, IsSound, IsStated, place_if}
use Rattle.smart_statements.specs.declared.statement.VoteKind.TheVariants as kinds
use Rattle.smart_base.proofs.SameLists.{and_true}
use Rattle.agreement_laws.proofs.Lists.{each_among, each_append, else_some, some_equal}

-- ---- batches that are known

abbrev IsNamed : List ℕ → List Statement → ℕ → Named → Type 0
IsNamed secret stated place x = IsBatchAt secret stated place x.digest x.batch

named_proposed : (secret : List ℕ) (stated : List Statement) (view : View) (number place regency : ℕ) (m : Message) (x : Named) → number ≡ view.number → Arrived secret stated view m
    → named_in number place regency m ≡ Some x → IsNamed secret stated place x
named_proposed secret stated view number place regency (Propose p) x of is at =
    let slot : Slot = p.head.statement.slot in
    let it : Named = record { digest = p.head.statement.digest; batch = p.batch } in
    let parts = guard ((slot.view == number) && (slot.place == place) && nat_le regency slot.regency) (Some it) x at in
    let tests = and_true ((slot.view == number) && (slot.place == place)) (nat_le regency slot.regency) parts.0 in
    let front = and_true (slot.view == number) (slot.place == place) tests.0 in
    let is_place : slot.place ≡ place = eqb-true slot.place place front.1 in
    let there : IsBatchAt secret stated slot.place p.head.statement.digest p.batch = proposal_may secret stated view p slot is refl (eqb-true slot.view number front.0 ∙ of) in
    subst (λ (y : Named). IsNamed secret stated place y) (some_equal it x parts.1)
    (subst (λ (k : ℕ). IsBatchAt secret stated k p.head.statement.digest p.batch) is_place there)
named_proposed secret stated view number place regency _ x of is at = absurd (cc)

-- an accept for a place of a view
pub record IsAcceptFor (view place : ℕ) (e : LogEntry) (a : Accept) : Type 0 where
  pub entry_is : e ≡ Accepted a
  pub view_is : a.slot.view ≡ view
  pub place_is : a.slot.place ≡ place

pub accept_for_is : (view place : ℕ) (e : LogEntry) (a : Accept) → accept_for view place e ≡ Some a → IsAcceptFor view place e a
accept_for_is view place (Accepted b) a is =
    let parts = guard ((b.slot.view == view) && (b.slot.place == place)) (Some b) a is in
    let same : b ≡ a = some_equal b a parts.1 in
    let tests = and_true (b.slot.view == view) (b.slot.place == place) parts.0 in
    record {
      entry_is = ap (λ (x : Accept). Accepted x) same;
      view_is = ap (λ (x : Accept). x.slot.view) (sym same) ∙ eqb-true b.slot.view view tests.0;
      place_is = ap (λ (x : Accept). x.slot.place) (sym same) ∙ eqb-true b.slot.place place tests.1;
    }
accept_for_is view place (Opened o) a is = absurd (cc)
accept_for_is view place (Wrote w) a is = absurd (cc)
accept_for_is view place (Promised p) a is = absurd (cc)
accept_for_is view place (Synced s) a is = absurd (cc)
accept_for_is view place (Decided d) a is = absurd (cc)
accept_for_is view place (Installed i) a is = absurd (cc)
accept_for_is view place (Marked m) a is = absurd (cc)

named_step : (view place : ℕ) (e : LogEntry) (x : Named) (o : Option Accept) → accept_for view place e ≡ o
    → option_map (λ (a : Accept). record { digest = a.digest; batch = a.batch }) o ≡ Some x
    → (a : Accept) × (accept_for view place e ≡ Some a) × (x ≡ record { digest = a.digest; batch = a.batch })
named_step view place e x None at is = absurd (cc)
named_step view place e x (Some a) at is = (a, at, sym (some_equal (record { digest = a.digest; batch = a.batch }) x is))

pub named_accepted : (secret : List ℕ) (stated : List Statement) (view place : ℕ) (e : LogEntry) (x : Named) → HasBatch secret stated e → named_by view place e ≡ Some x
    → IsNamed secret stated place x
named_accepted secret stated view place e x has is =
    let named = named_step view place e x (accept_for view place e) refl is in
    let a : Accept = named.0 in
    let for_it = accept_for_is view place e a named.1 in
    let there : HasBatch secret stated (Accepted a) = subst (λ (y : LogEntry). HasBatch secret stated y) for_it.entry_is has in
    subst (λ (y : Named). IsNamed secret stated place y) (sym named.2)
    (subst (λ (k : ℕ). IsBatchAt secret stated k a.digest a.batch) for_it.place_is there)

pub all_known : {S : Type 0} (stated : List Statement) (view : View) (n : Node S) (number place regency : ℕ) → number ≡ (view_of n).number → IsSound stated view n
    → Each (IsNamed n.secret stated place) (known number place regency n.arrivals n.entries)
all_known stated view n number place regency of is =
    each_append (IsNamed n.secret stated place) (filter_map (named_in number place regency) n.arrivals) (filter_map (named_by number place) n.entries)
    (each_filter_map_in (IsNamed n.secret stated place) (named_in number place regency) n.arrivals
    (λ m x there at. named_proposed n.secret stated (view_of n) number place regency m x of (each_among (Arrived n.secret stated (view_of n)) n.arrivals m is.arrivals there) at))
    (each_filter_map_in (IsNamed n.secret stated place) (named_by number place) n.entries
    (λ e x there at. named_accepted n.secret stated number place e x (each_among (HasBatch n.secret stated) n.entries e is.batches there) at))

-- ---- a decision that is due

pub record Decides {S : Type 0} (n : Node S) (regency : ℕ) (d : Decision) : Type 0 where
  pub named : Named
  pub there : Among named (known (view_of n).number (next_place n) (regency_of n) n.arrivals n.entries)
  pub accepted : has_quorum n.arrivals (view_of n) kinds.Accept (slot_in n regency) named.digest ≡ true
  pub decision_is : d ≡ record { slot = slot_in n regency; batch = named.batch; accepts = certificate_votes n.arrivals (view_of n) kinds.Accept (slot_in n regency) named.digest }

decides_by : {S : Type 0} (n : Node S) (regency : ℕ) (d : Decision) (o : Option Named)
    → accepted_in (view_of n) (slot_in n regency) n.arrivals (known (view_of n).number (next_place n) (regency_of n) n.arrivals n.entries) ≡ o
    → decision_by (view_of n) (slot_in n regency) n.arrivals o ≡ Some d → Decides n regency d
decides_by n regency d None at is = absurd (cc)
decides_by n regency d (Some x) at is =
    let all = known (view_of n).number (next_place n) (regency_of n) n.arrivals n.entries in
    let f = found (λ (y : Named). has_quorum n.arrivals (view_of n) kinds.Accept (slot_in n regency) y.digest) all x at in
    let it : Decision = record { slot = slot_in n regency; batch = x.batch; accepts = certificate_votes n.arrivals (view_of n) kinds.Accept (slot_in n regency) x.digest } in
    record { named = x; there = f.there; accepted = f.passes; decision_is = sym (some_equal it d is) }

decides_in : {S : Type 0} (n : Node S) (regency : ℕ) (d : Decision) → decision_in n regency ≡ Some d → Decides n regency d
unfolding decision_in
decides_in n regency d is =
    decides_by n regency d (accepted_in (view_of n) (slot_in n regency) n.arrivals (known (view_of n).number (next_place n) (regency_of n) n.arrivals n.entries)) refl is

-- a decision that others showed, of the next place
pub record FromShown {S : Type 0} (n : Node S) (d : Decision) : Type 0 where
  pub shown : ProvenBatch
  pub there : Among shown n.decisions
  pub place_is : shown.place ≡ next_place n
  pub decision_is : d ≡ decision_shown n shown

-- a decision that kept votes prove, in the regency in force, or in the next
pub record FromVotes {S : Type 0} (n : Node S) (d : Decision) : Type 0 where
  pub regency : ℕ
  pub most : regency ≤ regency_of n + 1
  pub decides : Decides n regency d

-- a decision of the next place that is due
pub record IsDue {S : Type 0} (n : Node S) (d : Decision) : Type 0 where
  pub free : is_none n.waiting ≡ true
  pub room : next_place n < 2 ^ 63
  pub place_is : d.slot.place ≡ next_place n
  pub how : FromShown n d ⊎ FromVotes n d

shown_due : {S : Type 0} (n : Node S) (d : Decision) (o : Option ProvenBatch) → is_none n.waiting ≡ true → next_place n < 2 ^ 63 → shown_next n ≡ o → option_map (decision_shown n) o ≡ Some d → IsDue n d
shown_due n d None free room at is = absurd (cc)
shown_due n d (Some x) free room at is =
    let f = found (λ (y : ProvenBatch). y.place == next_place n) n.decisions x at in
    let same : d ≡ decision_shown n x = sym (some_equal (decision_shown n x) d is) in
    let place : x.place ≡ next_place n = eqb-true x.place (next_place n) f.passes in
    record { free = free; room = room; place_is = ap (λ (y : Decision). y.slot.place) same ∙ place; how = inl (record { shown = x; there = f.there; place_is = place; decision_is = same }) }

votes_due : {S : Type 0} (n : Node S) (d : Decision) (regency : ℕ) → is_none n.waiting ≡ true → next_place n < 2 ^ 63 → regency ≤ regency_of n + 1 → Decides n regency d → IsDue n d
votes_due n d regency free room most decides = record {
  free = free;
  room = room;
  place_is = ap (λ (y : Decision). y.slot.place) decides.decision_is;
  how = inr (record { regency = regency; most = most; decides = decides });
}

pub due_is : {S : Type 0} (n : Node S) (d : Decision) → deciding n ≡ Some d → IsDue n d
unfolding deciding
due_is n d is =
    let others = option_map (decision_shown n) (shown_next n) in
    let votes = or_else (decision_in n (regency_of n)) (decision_ahead n) in
    let parts = guard (is_free n) (or_else others votes) d is in
    let tests = and_true (is_none n.waiting) (nat_lt (next_place n) (2 ^ 63)) parts.0 in
    let free = tests.0 in
    let room = ltb-true (next_place n) (2 ^ 63) tests.1 in
    ⊎_elim
    (λ (one : others ≡ Some d). shown_due n d (shown_next n) free room refl one)
    (λ (own : votes ≡ Some d). ⊎_elim
    (λ (here : decision_in n (regency_of n) ≡ Some d). votes_due n d (regency_of n) free room (omega arith) (decides_in n (regency_of n) d here))
    (λ (ahead : decision_ahead n ≡ Some d).
    let next = guard (nat_lt (regency_of n + 1) (2 ^ 32)) (decision_in n (regency_of n + 1)) d ahead in
    votes_due n d (regency_of n + 1) free room (omega arith) (decides_in n (regency_of n + 1) d next.1))
    (else_some (decision_in n (regency_of n)) (decision_ahead n) d own))
    (else_some others votes d parts.1)

-- ---- decide

follows_next : (opening k : ℕ) → Follows opening (place_if k) (k + 1)
follows_next opening zero = omega arith
follows_next opening (suc k) = omega arith

next_if : (k : ℕ) → place_if (k + 1) ≡ Some (k + 1)
next_if k = place_of_some (k + 1) (omega arith)

-- the decision itself
it_is : {S : Type 0} (n : Node S) (regency : ℕ) (x : Named) → Decision
it_is n regency x = record { slot = slot_in n regency; batch = x.batch; accepts = certificate_votes n.arrivals (view_of n) kinds.Accept (slot_in n regency) x.digest }

may_decide : {S : Type 0} (stated : List Statement) (view : View) (n : Node S) (regency : ℕ) (x : Named) → IsSound stated view n → is_none n.waiting ≡ true → next_place n < 2 ^ 63
    → IsNamed n.secret stated (next_place n) x → has_quorum n.arrivals (view_of n) kinds.Accept (slot_in n regency) x.digest ≡ true
    → MayPush stated n (Decided (it_is n regency x))
unfolding it_is
may_decide stated view n regency x is free room named enough =
    let same : digest_of x.batch ≡ x.digest = (may_stand n.secret (next_place n) x.digest x.batch named.may).named in
    record {
      admits = subst (λ (o : Option ℕ). Follows n.opening o (next_place n)) (sym (made_latest stated view n is free)) (follows_next n.opening n.replica.place);
      tidy = tt;
      within = record { of_view = number_next stated view n is; place_is = omega arith; low = room };
      newest = tt;
      backed = λ v there at. subst
          (λ (d : List ℕ). IsDrawn n.secret v stated (accept_of (slot_of v (next_place n) regency) d) (certificate_votes n.arrivals (view_of n) kinds.Accept (slot_in n regency) x.digest))
          (sym same) (drawn_now stated view n kinds.Accept regency x.digest is enough v there at);
      batch = subst (λ (d : List ℕ). IsBatchAt n.secret stated (next_place n) d x.batch) (sym same) named;
    }

-- what others showed may be decided
may_shown : {S : Type 0} (stated : List Statement) (view : View) (n : Node S) (x : ProvenBatch) → IsSound stated view n → is_none n.waiting ≡ true → next_place n < 2 ^ 63 → x.place ≡ next_place n
    → IsStated n.secret stated (changes.Decision x) → IsShownIn n.secret (view_of n) x → MayPush stated n (Decided (decision_shown n x))
may_shown {S = S} stated view n x is free room place was shown =
    let cert = shown.accepts in
    let drawn = first_drawn n.secret stated (view_of n) (accept_of (slot_of (view_of n) x.place (regency_by x.accepts)) (digest_of x.batch)) x.accepts (in_force_viewed stated view n is) cert
    (shown_stated n.secret stated x was cert.0.verified) in
    record {
      admits = subst (λ (k : ℕ). Follows n.opening (latest_made n.entries) k) (sym place)
          (subst (λ (o : Option ℕ). Follows n.opening o (next_place n)) (sym (made_latest stated view n is free)) (follows_next n.opening n.replica.place));
      tidy = tt;
      within = record { of_view = subst (λ (k : ℕ). IsIn n.replica.views k (view_of n).number) (sym place) (number_next stated view n is); place_is = omega (arith, place); low = omega (arith, place, room) };
      newest = tt;
      backed = λ v there at. in_force_of stated view n is
          (λ (u : View). IsDrawn n.secret u stated (accept_of (slot_of u x.place (regency_by x.accepts)) (digest_of x.batch)) (first_votes (view_of n) x.accepts)) v there at drawn;
      batch = record { may = shown.batch; asked = shown_asked n.secret stated (view_of n) x was shown };
    }

pub decides_makes : {S : Type 0} (stated : List Statement) (view : View) (n : Node S) (d : Decision) → IsSound stated view n → is_none n.waiting ≡ true → d.slot.place ≡ next_place n
    → Makes n (Decided d) (Some d.batch)
decides_makes stated view n d is free at =
    let before = made_last stated view n is free in
    let last = last_push n.entries (Decided d) in
    record {
      last = omega (arith, before, last, at);
      latest = latest_push n.entries (Decided d) ∙ (ap (λ (k : ℕ). Some k) at ∙ sym (next_if n.replica.place));
      waiting = record { decision = d; there = among_last (Decided d) n.entries; place_is = at; batch_is = refl };
    }

decides_votes : {S : Type 0} (stated : List Statement) (view : View) (n : Node S) (d : Decision) → IsSound stated view n → is_none n.waiting ≡ true → next_place n < 2 ^ 63 → FromVotes n d
    → IsSound stated view (record n { entries = n.entries ++ Decided d ∷ []; waiting = Some d.batch })
unfolding it_is
decides_votes {S = S} stated view n d is free room due =
    let r = due.regency in
    let x = due.decides.named in
    let it : Decision = it_is n r x in
    let named = each_among (IsNamed n.secret stated (next_place n)) (known (view_of n).number (next_place n) (regency_of n) n.arrivals n.entries) x
    (all_known stated view n (view_of n).number (next_place n) (regency_of n) refl is) due.decides.there in
    let pushed : IsSound stated view (record n { entries = n.entries ++ Decided it ∷ []; waiting = Some it.batch }) =
    pushes stated view n (Decided it) (Some it.batch) is (may_decide stated view n r x is free room named due.decides.accepted)
    (decides_makes stated view n it is free refl) in
    subst (λ (y : Decision). IsSound stated view (record n { entries = n.entries ++ Decided y ∷ []; waiting = Some y.batch })) (sym due.decides.decision_is) pushed

decides_shown : {S : Type 0} (stated : List Statement) (view : View) (n : Node S) (d : Decision) → IsSound stated view n → is_none n.waiting ≡ true → next_place n < 2 ^ 63 → FromShown n d
    → IsSound stated view (record n { entries = n.entries ++ Decided d ∷ []; waiting = Some d.batch })
decides_shown {S = S} stated view n d is free room due =
    let x = due.shown in
    let it : Decision = decision_shown n x in
    let kept = each_among (DecisionKept n.secret stated (next_place n) (view_of n)) n.decisions x is.decisions due.there in
    let pushed : IsSound stated view (record n { entries = n.entries ++ Decided it ∷ []; waiting = Some it.batch }) =
    pushes stated view n (Decided it) (Some it.batch) is (may_shown stated view n x is free room due.place_is kept.0 (kept.2 due.place_is)) (decides_makes stated view n it is free due.place_is) in
    subst (λ (y : Decision). IsSound stated view (record n { entries = n.entries ++ Decided y ∷ []; waiting = Some y.batch })) (sym due.decision_is) pushed

decides_it : {S : Type 0} (stated : List Statement) (view : View) (n : Node S) (d : Decision) → IsSound stated view n → IsDue n d
    → IsSound stated view (record n { entries = n.entries ++ Decided d ∷ []; waiting = Some d.batch })
decides_it stated view n d is due =
    ⊎_elim (λ (one : FromShown n d). decides_shown stated view n d is due.free due.room one) (λ (own : FromVotes n d). decides_votes stated view n d is due.free due.room own) due.how

decides_with : {S : Type 0} (stated : List Statement) (view : View) (n : Node S) (o : Option Decision) → IsSound stated view n → deciding n ≡ o
    → IsSound stated view (decide_batch n o)
unfolding decide_batch
decides_with stated view n None is at = is
decides_with stated view n (Some d) is at = decides_it stated view n d is (due_is n d at)

pub sound_decides : {S : Type 0} (stated : List Statement) (view : View) (n : Node S) → IsSound stated view n → IsSound stated view (decides n)
unfolding decides
sound_decides stated view n is = decides_with stated view n (deciding n) is refl
