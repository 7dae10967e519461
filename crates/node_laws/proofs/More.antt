-- A node stays sound where more has been stated.
use Rattle.std.proofs.Common.{List, None, Option, Some, inl, inr, take, true, ℕ, ⊎_elim, ◌≡◌, ◌⊎◌}
use Rattle.replica_rules.specs.Seals.{digest_of, is_verified}
use Rattle.agreement_laws.specs.Certificates.{IsBacked, IsChosen, IsDrawn, IsTaken}
use Rattle.agreement_laws.specs.Diaries.{IsShown}
use Rattle.agreement_laws.specs.Statements.{Statement, signer_of, statements}
use Rattle.node_rules.specs.Nodes.{Node, next_place, view_of}
use Rattle.node_rules.specs.declared.node.Held.{Held}
use Rattle.smart_base.specs.Lists.{Each}
use Rattle.smart_base.specs.Views.{View}
use Rattle.smart_base.specs.declared.party.Party.TheVariants.{Member}
use Rattle.smart_statements.specs.Forms.{SignedBy}
use Rattle.smart_statements.specs.Kinds.{requests}
use Rattle.smart_statements.specs.Batches.{Batch}
use Rattle.smart_messages.specs.declared.message.Message.TheVariants.{Ask}
use Rattle.smart_statements.specs.declared.statement.Ballot.{Ballot}
use Rattle.vote_book.specs.Books.{Among}
use Rattle.vote_book.specs.declared.entry.Installation.{Installation}
use Rattle.vote_book.specs.declared.entry.LogEntry.{LogEntry}
use Rattle.vote_book.specs.declared.entry.LogEntry.TheVariants.{Accepted, Decided, Installed, Marked, Opened, Promised, Synced, Wrote}
use Rattle.vote_book.specs.declared.entry.Start.{Start}
use Rattle.state_transfer.specs.declared.fetch.Fetch.{Fetch}
use Rattle.node_laws.proofs.Nodes.{Arrived, DecisionKept, MarkKept, OfferKept, PlanKept, ReportKept, StopKept, SyncKept}
use Rattle.node_laws.specs.Sound.{AreAmong, AreAsked, HasBatch, IsBackedIn, IsBatchAt, IsHeld, IsPast, IsSound, IsStated}
use Rattle.smart_messages.specs.declared.message.Message.TheVariants as changes
use Rattle.agreement_laws.specs.Statements as says
use Rattle.agreement_laws.proofs.Lists.{each_among}
use Rattle.smart_base.proofs.ViewFacts.{each-weaken}

module _ (stated more : List Statement) (grows_to : AreAmong stated more) where
  among_more : (s : Statement) → Among s stated → Among s more
  among_more s there = each_among (λ x. Among x more) stated s grows_to there

  areamong_more : (few : List Statement) → AreAmong few stated → AreAmong few more
  areamong_more few all = each-weaken (λ s. Among s stated) (λ s. Among s more) among_more few all

  drawn_more : (secret : List ℕ) (view : View) (wanted : Ballot) (votes : List (SignedBy Ballot)) → IsDrawn secret view stated wanted votes → IsDrawn secret view more wanted votes
  drawn_more secret view wanted votes is = record {
    holds = is.holds;
    drawn = each-weaken (λ b. Among (says.Voted b) stated) (λ b. Among (says.Voted b) more) (λ b there. among_more (says.Voted b) there) votes is.drawn;
  }

  chosen_more : (secret : List ℕ) (view : View) (start : Start) → IsChosen secret view stated start → IsChosen secret view more start
  chosen_more secret view start is = record {
    items = is.items;
    collect = is.collect;
    drawn = each-weaken (λ r. Among (says.Reported r) stated) (λ r. Among (says.Reported r) more) (λ r there. among_more (says.Reported r) there) is.items is.drawn;
    choice_is = is.choice_is;
  }

  taken_more : (secret : List ℕ) (view : View) (i : Installation) → IsTaken secret view stated i → IsTaken secret view more i
  taken_more secret view i is = record {
    holds = is.holds;
    drawn = each-weaken (λ m. Among (says.Marked m) stated) (λ m. Among (says.Marked m) more) (λ m there. among_more (says.Marked m) there) i.marks is.drawn;
  }

  pub backed_more : (secret : List ℕ) (view : View) (e : LogEntry) → IsBacked secret digest_of view stated e → IsBacked secret digest_of view more e
  backed_more secret view (Opened o) is = tt
  backed_more secret view (Wrote w) is = tt
  backed_more secret view (Accepted a) is = λ of. drawn_more secret view _ a.writes (is of)
  backed_more secret view (Promised p) is = tt
  backed_more secret view (Synced s) is = λ of some. chosen_more secret view s (is of some)
  backed_more secret view (Decided d) is = λ of. drawn_more secret view _ d.accepts (is of)
  backed_more secret view (Installed i) is = λ of. taken_more secret view i (is of)
  backed_more secret view (Marked m) is = tt

  pub backed_in_more : (secret : List ℕ) (views : List View) (e : LogEntry) → IsBackedIn secret views stated e → IsBackedIn secret views more e
  backed_in_more secret views e is = λ v there. backed_more secret v e (is v there)

  asked_more : (secret : List ℕ) (batch : Batch) → AreAsked secret stated batch → AreAsked secret more batch
  asked_more secret batch asked =
      each-weaken (λ q. (is_verified requests secret q ≡ true) × IsStated secret stated (Ask q)) (λ q. (is_verified requests secret q ≡ true) × IsStated secret more (Ask q))
      (λ q is. (is.0, areamong_more (statements secret (Ask q)) is.1)) batch asked

  at_more : (secret : List ℕ) (place : ℕ) (digest : List ℕ) (batch : Batch) → IsBatchAt secret stated place digest batch → IsBatchAt secret more place digest batch
  at_more secret place digest batch is = record { may = is.may; asked = asked_more secret batch is.asked }

  pub has_more : (secret : List ℕ) (e : LogEntry) → HasBatch secret stated e → HasBatch secret more e
  has_more secret (Opened o) is = tt
  has_more secret (Wrote w) is = tt
  has_more secret (Accepted a) is = at_more secret a.slot.place a.digest a.batch is
  has_more secret (Promised p) is = tt
  has_more secret (Synced s) is = tt
  has_more secret (Decided d) is = at_more secret d.slot.place (digest_of d.batch) d.batch is
  has_more secret (Installed i) is = tt
  has_more secret (Marked m) is = tt

  held_more : (secret : List ℕ) (id : ℕ) (es : List LogEntry) (h : Held) → IsHeld secret id stated es h → IsHeld secret id more es h
  held_more secret id es h is = record {
    needs = is.needs;
    shown = each-weaken (λ s. Among s stated ⊎ ((signer_of s ≡ Member id) × IsShown digest_of (take h.needs es) s)) (λ s. Among s more ⊎ ((signer_of s ≡ Member id) × IsShown digest_of (take h.needs es) s))
        (λ s is. ⊎_elim (λ there. inl (among_more s there)) (λ own. inr own) is) (statements secret h.message) is.shown;
  }

  plan_more : (secret : List ℕ) (views : List View) (planned : Option Fetch) → PlanKept secret stated views planned → PlanKept secret more views planned
  plan_more secret views None is = tt
  plan_more secret views (Some f) is = record {
    of_view = is.of_view;
    certified = is.certified;
    drawn = each-weaken (λ m. Among (says.Marked m) stated) (λ m. Among (says.Marked m) more) (λ m there. among_more (says.Marked m) there) f.plan.marks is.drawn;
  }

  pub sound_more : {S : Type 0} (view : View) (n : Node S) → IsSound stated view n → IsSound more view n
  sound_more view n is = record {
    views = is.views;
    begun = is.begun;
    lawful = is.lawful;
    tidy = is.tidy;
    last = is.last;
    latest = is.latest;
    within = is.within;
    ranged = is.ranged;
    backed = each-weaken (IsBackedIn n.secret n.replica.views stated) (IsBackedIn n.secret n.replica.views more) (backed_in_more n.secret n.replica.views) n.entries is.backed;
    batches = each-weaken (HasBatch n.secret stated) (HasBatch n.secret more) (has_more n.secret) n.entries is.batches;
    waiting = is.waiting;
    table = is.table;
    arrivals = each-weaken (Arrived n.secret stated (view_of n)) (Arrived n.secret more (view_of n)) (λ m k. (k.0, areamong_more (statements n.secret m) k.1)) n.arrivals is.arrivals;
    stops = each-weaken (StopKept n.secret stated (view_of n)) (StopKept n.secret more (view_of n)) (λ s k. (k.0, areamong_more (statements n.secret (changes.Stop s)) k.1)) n.stops is.stops;
    reports = each-weaken (ReportKept n stated) (ReportKept n more) (λ r k. (k.0, areamong_more (statements n.secret (changes.StopData r)) k.1)) n.reports is.reports;
    syncs = each-weaken (SyncKept n stated) (SyncKept n more) (λ s k. (k.0, areamong_more (statements n.secret (changes.Sync s)) k.1)) n.syncs is.syncs;
    decisions = each-weaken (DecisionKept n.secret stated (next_place n) (view_of n)) (DecisionKept n.secret more (next_place n) (view_of n))
        (λ d k. (areamong_more (statements n.secret (changes.Decision d)) k.0, k.1, k.2)) n.decisions is.decisions;
    offers = each-weaken (OfferKept n.secret stated) (OfferKept n.secret more) (λ o k. (areamong_more (statements n.secret (changes.StateOffer o)) k.0, k.1)) n.offers is.offers;
    marked = each-weaken (MarkKept n.secret stated) (MarkKept n.secret more) (λ k kept. (kept.0, areamong_more (statements n.secret (changes.Mark k)) kept.1)) n.marks is.marked;
    fetch = plan_more n.secret n.replica.views n.fetch is.fetch;
    pool = asked_more n.secret n.pool is.pool;
    held = each-weaken (IsHeld n.secret n.id stated n.entries) (IsHeld n.secret n.id more n.entries) (held_more n.secret n.id n.entries) n.held is.held;
    late = record {
      few = is.late.few;
      each = each-weaken (λ (h : Held). Each (λ s. Among s stated ⊎ IsPast (take n.restored n.entries) s) (statements n.secret h.message))
          (λ (h : Held). Each (λ s. Among s more ⊎ IsPast (take n.restored n.entries) s) (statements n.secret h.message))
          (λ h late. each-weaken (λ s. Among s stated ⊎ IsPast (take n.restored n.entries) s) (λ s. Among s more ⊎ IsPast (take n.restored n.entries) s)
          (λ s is. ⊎_elim (λ there. inl (among_more s there)) (λ past. inr past) is) (statements n.secret h.message) late) n.held is.late.each;
    };
  }
