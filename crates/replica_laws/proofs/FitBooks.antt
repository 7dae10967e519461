-- The entries of a node's book have a spelling, whatever comes to it: rule by rule.
use Rattle.std.proofs.Common.{◌≡◌, ℕ, ◌+◌, ◌^◌, ◌<◌, ◌++◌, ◌==◌, true, List, [], ◌∷◌, length, arith, Option, Some, None, is_some, nat_lt, subst, sym, refl, Result, Ok, Err}
use Rattle.std.specs.List.{AllByRecursion}
use Rattle.std.specs.Prelude.{IfSome, find, option_map}
use Rattle.smart_base.specs.Lists.{Each}
use Rattle.smart_base.specs.Views.{View, is_view}
use Rattle.smart_statements.specs.Forms.{SignedBy}
use Rattle.smart_statements.specs.Spelling.{IsSigner, FitsSigned}
use Rattle.smart_statements.specs.SignedLists.{FitsOptional}
use Rattle.smart_statements.specs.Reports.{reports, FitsMark, FitsReport, FitsLockCertificate}
use Rattle.smart_messages.specs.Regencies.{FitsSync}
use Rattle.smart_statements.specs.declared.statement.Ballot.{Ballot}
use Rattle.smart_statements.specs.declared.statement.VoteKind.TheVariants.{Write, Accept}
use Rattle.smart_statements.specs.declared.report.LockCertificate.{LockCertificate}
use Rattle.smart_statements.specs.declared.report.Report.{Report}
use Rattle.smart_messages.specs.declared.regency.Sync.{Sync}
use Rattle.smart_messages.specs.declared.message.Proposed.{Proposed}
use Rattle.smart_statements.specs.declared.entry.NodeEvent.{NodeEvent}
use Rattle.smart_service.specs.Services.{Meaning}
use Rattle.vote_book.specs.Entries.{FitsEntry, FitsStart}
use Rattle.vote_book.specs.declared.entry.Decision.{Decision}
use Rattle.vote_book.specs.declared.entry.LogEntry.{LogEntry}
use Rattle.vote_book.specs.declared.entry.LogEntry.TheVariants as entries
use Rattle.regency_sync.specs.Choices.{greatest_last, lock_behind, greater, greatest_lock, choice}
use Rattle.node_rules.specs.Votes.{certificate_votes}
use Rattle.node_rules.specs.Nodes.{Node, view_of, regency_of, next_place, open_slot}
use Rattle.node_rules.specs.Arrivals.{kept, noted}
use Rattle.node_rules.specs.Rules.{delivers, proposes, writing, write_batch, writes, accepting, accept_batch, accepts, deciding, decide_batch, decides, answers_again}
use Rattle.node_rules.specs.Changes.{start_by_sync, promised_for, adopts_by, is_adoptable, adoption, adopts, joins, next_promise, promising, promise_next, promises, leads, times}
use Rattle.node_rules.specs.Kept.{node_after}
use Rattle.node_rules.specs.Marks.{mark_of, mark_place}
use Rattle.node_rules.specs.Steps.{step_of, takes_in, opened, outset}
use Rattle.replica_laws.proofs.Lists.{if_find}
use Rattle.replica_laws.proofs.Genuine.{votes-list}
use Rattle.node_rules.proofs.Rulewise.{KeptByRules, by_mark, free-event, keeps_from, takes_in_as}
use Rattle.smart_base.proofs.SameLists.{and_true}
use Rattle.replica_laws.proofs.FitNodes.{FitNode, FitsBegun, FitsVoted, FitsEvent, Settles, view-low, certificate-fits, open-fits, writing-fits, accepting-fits, deciding-fits, promising-low, fit-as, fit-adopts, fit-joins, fit-promises, fit-leads, fit-proposes, fit-writes, fit-accepts, fit-decides, fit-times, fit-answers_again, fit-answers_state, fit-plans, fit-installs, fit-noted, fit-kept, fit-delivers, fit-mark, delivered-mark, fit-opened, fit-takes_in, event-fits, event-settles}
use Rattle.replica_laws.proofs.Parts.{ArePartsBytes, parts-step}
use Rattle.replica_laws.proofs.FitNodes as nodes
use Rattle.replica_laws.proofs.Small.{IsBrief}
use Rattle.node_laws.proofs.Installing.{installing_is}
use Rattle.node_rules.specs.Transfers.{answers_state, install_by, install_fetch, install_replica, installed_by, installing, installs, is_of_group, plans, spoil}
use Rattle.smart_service.specs.declared.replica.Replica.{Replica}
use Rattle.state_transfer.specs.Fetches.{finished}
use Rattle.state_transfer.specs.declared.fetch.Fetch.{Fetch}
use Rattle.state_transfer.specs.declared.fetch.Spoiled.{Spoiled}
use Rattle.replica_laws.specs.Sending.{IsByteEvent}
use Rattle.agreement_laws.proofs.Lists.{either, either_by, each_end, each_append}
use Rattle.node_rules.proofs.Entries.{noted_same, answers_again_same, answers_state_same, plans_same, kept_same, delivers_same, proposes_same, joins_same, leads_same, times_same}

-- what a node holds has a spelling, and so has each entry of its book
pub record FitBook {S : Type 0} (m : Meaning S) (secret : List ℕ) (n : Node S) : Type 0 where
  pub node : FitNode m secret n
  pub book : Each FitsEntry n.entries

book-as : (es fs : List LogEntry) → fs ≡ es → Each FitsEntry es → Each FitsEntry fs
book-as es fs same each = subst (λ (xs : List LogEntry). Each FitsEntry xs) (sym same) each

-- ---- where a regency begins

last-fits : (rs : List (SignedBy Report)) → AllByRecursion (FitsSigned reports (λ signer. FitsReport)) rs → greatest_last rs < 2 ^ 63
last-fits [] all = omega arith
last-fits (r ∷ rs) all = let rest = last-fits rs all.1 in let here : r.statement.last < 2 ^ 63 = all.0.statement_fits.last_fits in omega (arith, rest, here)

greater-fits : (P : LockCertificate → Type 0) (a b : Option LockCertificate) → FitsOptional P a → FitsOptional P b → FitsOptional P (greater a b)
greater-fits P None b pa pb = pb
greater-fits P (Some a) None pa pb = pa
greater-fits P (Some a) (Some b) pa pb = either (λ (o : Option LockCertificate). FitsOptional P o) (nat_lt a.regency b.regency) (Some b) (Some a) pb pa

bound-fits : (last : ℕ) (rs : List (SignedBy Report)) → AllByRecursion (FitsSigned reports (λ signer. FitsReport)) rs → FitsOptional FitsLockCertificate (greatest_lock last rs)
bound-fits last [] all = tt
bound-fits last (r ∷ rs) all =
    greater-fits FitsLockCertificate (lock_behind last r) (greatest_lock last rs)
    (either (λ (o : Option LockCertificate). FitsOptional FitsLockCertificate o) (r.statement.last == last) r.statement.lock None all.0.statement_fits.lock_fits tt)
    (bound-fits last rs all.1)

digest-fits : (lock : Option LockCertificate) → FitsOptional FitsLockCertificate lock → FitsOptional (λ d. length d ≡ 32) (option_map (λ (l : LockCertificate). l.digest) lock)
digest-fits None fit = tt
digest-fits (Some l) fit = fit.digest_fits

start-fits : (s : Sync) → FitsSync s → FitsStart (start_by_sync s)
unfolding choice
start-fits s fit =
    let last = last-fits s.collect fit.collect_fits.1 in
    record {
      view_fits = fit.view_fits;
      regency_fits = fit.regency_fits;
      base_fits = (omega arith, omega (arith, last));
      bound_fits = digest-fits (greatest_lock (greatest_last s.collect) s.collect) (bound-fits (greatest_last s.collect) s.collect fit.collect_fits.1);
    }

-- ---- the rules that record

spelled-adopts_by : {S : Type 0} (n : Node S) (sync : Option (SignedBy Sync)) → IfSome sync FitsBegun → Each FitsEntry n.entries → Each FitsEntry (adopts_by n sync).entries
unfolding adopts_by
spelled-adopts_by n None begun each = each
spelled-adopts_by n (Some sync) begun each =
    each_end FitsEntry (n.entries ++ promised_for n sync.statement) (entries.Synced (start_by_sync sync.statement))
    (each_append FitsEntry n.entries (promised_for n sync.statement) each
    (either (λ (es : List LogEntry). Each FitsEntry es) (nat_lt (regency_of n) sync.statement.regency) _ [] (record { view_fits = begun.view_fits; regency_fits = begun.regency_fits }, tt) tt))
    (start-fits sync.statement begun)

spelled-adopts : {S : Type 0} {m : Meaning S} (secret : List ℕ) (n : Node S) → FitNode m secret n → Each FitsEntry n.entries → Each FitsEntry (adopts n).entries
unfolding adopts adoption
spelled-adopts secret n is each =
    spelled-adopts_by n (find (is_adoptable n) n.syncs) (if_find FitsBegun (is_adoptable n) n.syncs is.begun) each

spelled-promise_next : {S : Type 0} {m : Meaning S} (secret : List ℕ) (n : Node S) → regency_of n + 1 < 2 ^ 32 → FitNode m secret n → Each FitsEntry n.entries → Each FitsEntry (promise_next n).entries
unfolding promise_next
spelled-promise_next secret n low is each =
    each_end FitsEntry n.entries (entries.Promised (next_promise n)) each (record { view_fits = view-low (view_of n) is.view; regency_fits = low })

spelled-promises : {S : Type 0} {m : Meaning S} (secret : List ℕ) (n : Node S) → FitNode m secret n → Each FitsEntry n.entries → Each FitsEntry (promises n).entries
unfolding promises
spelled-promises {S = S} secret n is each =
    either_by (λ (x : Node S). Each FitsEntry x.entries) (promising n) (promise_next n) n (λ due. spelled-promise_next secret n (promising-low n due) is each) (λ not_due. each)

spelled-write_batch : {S : Type 0} {m : Meaning S} (secret : List ℕ) (n : Node S) (p : Option Proposed) → IfSome p (FitsVoted secret (next_place n)) → FitNode m secret n → Each FitsEntry n.entries
    → Each FitsEntry (write_batch n p).entries
unfolding write_batch
spelled-write_batch secret n None fit is each = each
spelled-write_batch secret n (Some p) fit is each =
    each_end FitsEntry n.entries (entries.Wrote (record { slot = open_slot n; digest = p.head.statement.digest })) each
    (record { slot_fits = open-fits secret n is fit.low; digest_fits = fit.digest_fits })

spelled-writes : {S : Type 0} {m : Meaning S} (secret : List ℕ) (n : Node S) → FitNode m secret n → Each FitsEntry n.entries → Each FitsEntry (writes n).entries
unfolding writes
spelled-writes secret n is each = spelled-write_batch secret n (writing n) (writing-fits secret n is) is each

spelled-accept_batch : {S : Type 0} {m : Meaning S} (secret : List ℕ) (n : Node S) (p : Option Proposed) → IfSome p (FitsVoted secret (next_place n)) → FitNode m secret n → Each FitsEntry n.entries
    → Each FitsEntry (accept_batch n p).entries
unfolding accept_batch
spelled-accept_batch secret n None fit is each = each
spelled-accept_batch secret n (Some p) fit is each =
    let votes : List (SignedBy Ballot) = certificate_votes n.arrivals (view_of n) Write (open_slot n) p.head.statement.digest in
    each_end FitsEntry n.entries
    (entries.Accepted (record { slot = open_slot n; digest = p.head.statement.digest; writes = certificate_votes n.arrivals (view_of n) Write (open_slot n) p.head.statement.digest; batch = p.batch })) each
    (record {
      slot_fits = open-fits secret n is fit.low;
      digest_fits = fit.digest_fits;
      writes_fit = votes-list Write votes (certificate-fits secret n.arrivals (view_of n) Write (open_slot n) p.head.statement.digest is.view is.arrivals);
      batch_fits = fit.batch_fits.0.0;
    })

spelled-accepts : {S : Type 0} {m : Meaning S} (secret : List ℕ) (n : Node S) → FitNode m secret n → Each FitsEntry n.entries → Each FitsEntry (accepts n).entries
unfolding accepts
spelled-accepts secret n is each = spelled-accept_batch secret n (accepting n) (accepting-fits secret n is) is each

spelled-decide_batch : {S : Type 0} (secret : List ℕ) (n : Node S) (d : Option Decision) → IfSome d (λ x. nodes.FitsDecision secret x × (next_place n < 2 ^ 63)) → Each FitsEntry n.entries → Each FitsEntry (decide_batch n d).entries
unfolding decide_batch
spelled-decide_batch secret n None fit each = each
spelled-decide_batch secret n (Some d) fit each =
    each_end FitsEntry n.entries (entries.Decided d) each
    (record {
      slot_fits = record { view_fits = fit.0.view_fits; place_fits = fit.0.place_fits; regency_fits = fit.0.regency_fits };
      batch_fits = fit.0.batch_fits.0.0;
      accepts_fit = votes-list Accept d.accepts fit.0.accepts_fit;
    })

spelled-decides : {S : Type 0} {m : Meaning S} (secret : List ℕ) (n : Node S) → FitNode m secret n → Each FitsEntry n.entries → Each FitsEntry (decides n).entries
unfolding decides
spelled-decides secret n is each = spelled-decide_batch secret n (deciding n) (deciding-fits secret n is) each

-- a place is marked
spelled-mark : {S : Type 0} (m : Meaning S) (n : Node S) → FitsMark (mark_of m n) → Each FitsEntry n.entries → Each FitsEntry (mark_place m n).entries
unfolding mark_place
spelled-mark m n fit each = each_end FitsEntry n.entries (entries.Marked (mark_of m n)) each fit

-- a replica is taken over
spelled-install_by : {S : Type 0} (secret : List ℕ) (n : Node S) (f : Fetch) (made : Result (Replica S) Spoiled) → nodes.FitsFetch f → Each FitsEntry n.entries → Each FitsEntry (install_by n f made).entries
unfolding install_replica spoil
spelled-install_by {S = S} secret n f (Ok r) fit each =
    either (λ (x : Node S). Each FitsEntry x.entries) (is_of_group n r) (install_replica n f r) (spoil n f)
    (each_end FitsEntry n.entries (installed_by f.plan) each
    (record {
      place_fits = fit.plan_fits.place_fits;
      digest_fits = fit.plan_fits.digest_fits;
      view_fits = fit.plan_fits.view_fits;
      marks_fit = (let few = fit.plan_fits.marks_fit.few in omega (arith, few), fit.plan_fits.marks_fit.all);
    })) each
spelled-install_by secret n f (Err why) fit each = each

spelled-install_fetch : {S : Type 0} {m : Meaning S} (secret : List ℕ) (n : Node S) (due : Option Fetch) → installing n ≡ due → FitNode m secret n → Each FitsEntry n.entries → Each FitsEntry (install_fetch m n due).entries
unfolding install_fetch spoil
spelled-install_fetch secret n None at is each = each
spelled-install_fetch {m = m} secret n (Some f) at is each =
    let due = installing_is n f at in
    spelled-install_by secret n f (finished m f) (nodes.fetch_stands n.fetch f due.stands is.transfers.fetch_fits) each

spelled-installs : {S : Type 0} (secret : List ℕ) (m : Meaning S) (n : Node S) → FitNode m secret n → Each FitsEntry n.entries → Each FitsEntry (installs m n).entries
unfolding installs
spelled-installs secret m n is each = spelled-install_fetch secret n (installing n) refl is each

-- ---- a step

spelled-rules : {S : Type 0} (secret : List ℕ) (m : Meaning S) → KeptByRules {S = S} (λ n. FitBook m secret n)
spelled-rules secret m = record {
  by_adopts = λ n is. record { node = fit-adopts secret n is.node; book = spelled-adopts secret n is.node is.book };
  by_joins = λ n is. record { node = fit-joins secret n is.node; book = book-as n.entries (joins n).entries (joins_same n) is.book };
  by_promises = λ n is. record { node = fit-promises secret n is.node; book = spelled-promises secret n is.node is.book };
  by_leads = λ n is. record { node = fit-leads secret n is.node; book = book-as n.entries (leads n).entries (leads_same n) is.book };
  by_proposes = λ n is. record { node = fit-proposes secret n is.node; book = book-as n.entries (proposes n).entries (proposes_same n) is.book };
  by_writes = λ n is. record { node = fit-writes secret n is.node; book = spelled-writes secret n is.node is.book };
  by_accepts = λ n is. record { node = fit-accepts secret n is.node; book = spelled-accepts secret n is.node is.book };
  by_decides = λ n is. record { node = fit-decides secret n is.node; book = spelled-decides secret n is.node is.book };
  by_times = λ n is. record { node = fit-times secret n is.node; book = book-as n.entries (times n).entries (times_same n) is.book };
  by_answers = λ n message is. record { node = fit-answers_again secret n message is.node; book = book-as n.entries (answers_again n message).entries (answers_again_same n message) is.book };
  by_states = λ n a is. record { node = fit-answers_state secret n a is.node; book = book-as n.entries (answers_state n a).entries (answers_state_same n a) is.book };
  by_plans = λ n is. record { node = fit-plans secret n is.node; book = book-as n.entries (plans n).entries (plans_same n) is.book };
}

-- each event keeps it, if what the node may take over is small
pub spelled-step : {S : Type 0} (secret : List ℕ) (m : Meaning S) → IsBrief m → (n : Node S) (event : NodeEvent) → FitsEvent event → Settles m (takes_in n event).node → FitBook m secret n
    → FitBook m secret (step_of m n event).node
spelled-step {S = S} secret m brief n event fit settles is =
    let t : Node S = (takes_in n event).node in
    let i : Node S = installs m t in
    let taken : FitBook m secret t =
    record {
      node = fit-takes_in secret n event fit is.node;
      book = takes_in_as (λ (x : Node S). Each FitsEntry x.entries) (λ message. Unit {0}) n event (λ message. book-as n.entries (noted n message).entries (noted_same n message) is.book)
          (λ message none may. book-as (noted n message).entries (kept (noted n message) message).entries (kept_same (noted n message) message) (book-as n.entries (noted n message).entries (noted_same n message) is.book))
          (λ count. is.book) (free-event event) is.book;
    } in
    let installed : FitBook m secret i = record { node = fit-installs secret m brief t settles taken.node; book = spelled-installs secret m t taken.node taken.book } in
    let delivered : FitBook m secret (delivers m i) =
    record { node = fit-delivers secret m brief i installed.node; book = book-as i.entries (delivers m i).entries (delivers_same m i) installed.book } in
    keeps_from m (λ (x : Node S). FitBook m secret x) n event (spelled-rules secret m) taken installed
    (by_mark m (λ (x : Node S). FitBook m secret x) (is_some i.waiting) (delivers m i) delivered
    (λ due.
    let fit = delivered-mark secret m i (and_true (is_some i.waiting) _ due).0 installed.node in
    record { node = fit-mark secret m brief (delivers m i) fit delivered.node; book = spelled-mark m (delivers m i) fit delivered.book }))

-- a node begins so
pub spelled-opened : {S : Type 0} (secret : List ℕ) (m : Meaning S) (id : ℕ) (view : View) (period : ℕ) → IsSigner 1 id → is_view view ≡ true → period < 2 ^ 32
    → FitBook m secret (opened (outset m secret id view period))
spelled-opened secret m id view period named is low = record {
  node = fit-opened secret m id view period named is;
  book = (record { member_fits = (let least = named.0 in omega (arith, least), named.1); period_fits = low; view_fits = is }, tt);
}

pub spelled_after : {S : Type 0} (secret : List ℕ) (m : Meaning S) → IsBrief m → (n : Node S) (events : List NodeEvent) → Each IsByteEvent events → ArePartsBytes n.fetch → FitBook m secret n → FitBook m secret (node_after m n events)
spelled_after secret m brief n [] each parts is = is
spelled_after secret m brief n (e ∷ es) each parts is =
    spelled_after secret m brief (step_of m n e).node es each.1 (parts-step m n e (event-fits e each.0).1 parts)
    (spelled-step secret m brief n e (event-fits e each.0).0 (event-settles m brief n e each.0 parts) is)

pub all_spelled : {S : Type 0} (m : Meaning S) → IsBrief m → (secret : List ℕ) (id : ℕ) (view : View) (period : ℕ) (events : List NodeEvent) → IsSigner 1 id → is_view view ≡ true
    → period < 2 ^ 32 → Each IsByteEvent events → Each FitsEntry (node_after m (opened (outset m secret id view period)) events).entries
all_spelled m brief secret id view period events named viewed low each =
    (spelled_after secret m brief (opened (outset m secret id view period)) events each tt (spelled-opened secret m id view period named viewed low)).book
