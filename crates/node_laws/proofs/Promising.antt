-- A node that promises the next regency, and reports what its book has, stays sound.
use Rattle.std.proofs.Common.{List, None, Option, Some, ap, arith, false, inl, inr, refl, subst, suc, sym, take, true, zero, ℕ, ⊎_elim, ◌≡◌, ◌≤◌, ◌<◌, ◌++◌, ◌∷◌, [], ◌+◌, ◌⊎◌}
use Rattle.std.proofs.lemmas.List.{take-append-le}
use Rattle.std.specs.List.{flat_map}
use Rattle.std.specs.Prelude.{map, option_map}
use Rattle.replica_rules.specs.Seals.{digest_of, signed}
use Rattle.agreement_laws.specs.Diaries.{HasReported, IsShown}
use Rattle.agreement_laws.specs.Statements.{Statement, signer_of}
use Rattle.node_rules.specs.Changes.{next_promise, promise_next, promises, promising, report_of, reported_by}
use Rattle.node_rules.specs.Nodes.{Node, greatest_regency, next_place, recording, regency_of, view_of}
use Rattle.smart_base.specs.Lists.{Each}
use Rattle.smart_base.specs.Views.{View, leader}
use Rattle.smart_base.specs.declared.party.Party.TheVariants.{Member}
use Rattle.smart_statements.specs.Forms.{SignedBy}
use Rattle.smart_statements.specs.Reports.{reports}
use Rattle.smart_messages.specs.declared.message.Message.{Message}
use Rattle.smart_statements.specs.declared.report.Report.{Report}
use Rattle.vote_book.proofs.Locks.{lock_is, maker_is}
use Rattle.vote_book.specs.BookReports.{certificate_of, evidence_by, evidence_of, last_maker, lock_of}
use Rattle.vote_book.specs.Books.{Among}
use Rattle.vote_book.specs.declared.entry.Accept.{Accept}
use Rattle.vote_book.specs.declared.entry.LogEntry.{LogEntry}
use Rattle.vote_book.specs.declared.entry.LogEntry.TheVariants.{Accepted, Decided, Installed, Marked, Opened, Promised, Synced, Wrote}
use Rattle.node_laws.proofs.Nodes.{aside, holds, in_force_there}
use Rattle.node_laws.proofs.Promised.{records_promise}
use Rattle.node_laws.proofs.Stated.{batch_covers, each_verified}
use Rattle.node_laws.proofs.Views.{held_among, numbered_has}
use Rattle.node_laws.specs.Sound.{HasBatch, IsBackedIn, IsPast, IsSound, IsWithin}
use Rattle.smart_messages.specs.declared.message.Message.TheVariants as changes
use Rattle.node_rules.specs.declared.node.Target.TheVariants as targets
use Rattle.agreement_laws.specs.Statements as says
use Rattle.agreement_laws.proofs.Lists.{among_either, each_among, each_map, either}

-- ---- what a report of the book has in it has been stated

among_mapped : {A : Type 0} (P : Statement → Type 0) (f : A → Statement) (xs : List A) (s : Statement) → Each (λ x. P (f x)) xs → Among s (map f xs) → P s
among_mapped P f xs s each there = each_among P (map f xs) s (each_map P f xs each) there

evidence_by_entry : (secret : List ℕ) (stated : List Statement) (views : List View) (place : ℕ) (es : List LogEntry) (e : LogEntry) (s : Statement) → IsWithin views place es e
    → IsBackedIn secret views stated e → Among s (says.parts_of_evidence (evidence_by digest_of e)) → Among s stated
evidence_by_entry secret stated views place es (Decided d) s within backed there =
    let of = within.of_view in
    among_mapped (λ x. Among x stated) says.Voted d.accepts s (backed of.view (held_among views d.slot.place of.view of.holds) (sym of.number_is)).drawn there
evidence_by_entry secret stated views place es (Installed i) s within backed there =
    let of = within.of_view in
    let has = numbered_has views i.view of.view of.is in
    among_mapped (λ x. Among x stated) says.Marked i.marks s (backed of.view has.there (sym has.number_is)).drawn there
evidence_by_entry secret stated views place es (Opened o) s within backed there = absurd there
evidence_by_entry secret stated views place es (Wrote w) s within backed there = absurd there
evidence_by_entry secret stated views place es (Accepted a) s within backed there = absurd there
evidence_by_entry secret stated views place es (Promised p) s within backed there = absurd there
evidence_by_entry secret stated views place es (Synced t) s within backed there = absurd there
evidence_by_entry secret stated views place es (Marked m) s within backed there = absurd there

evidence_stated : {S : Type 0} (stated : List Statement) (view : View) (n : Node S) (s : Statement) (o : Option LogEntry) → last_maker n.entries ≡ o → IsSound stated view n
    → Among s (says.parts_of_evidence (evidence_of digest_of o)) → Among s stated
evidence_stated stated view n s None at is there = absurd there
evidence_stated stated view n s (Some e) at is there =
    let made = maker_is n.entries e at in
    evidence_by_entry n.secret stated n.replica.views (next_place n) n.entries e s (each_among (IsWithin n.replica.views (next_place n) n.entries) n.entries e is.within made.0)
    (each_among (IsBackedIn n.secret n.replica.views stated) n.entries e is.backed made.0) there

lock_stated : {S : Type 0} (stated : List Statement) (view : View) (n : Node S) (s : Statement) (o : Option Accept) → lock_of (view_of n).number n.entries ≡ o → IsSound stated view n
    → Among s (says.parts_of_lock (option_map certificate_of o)) → Among s stated
lock_stated stated view n s None at is there = absurd there
lock_stated stated view n s (Some a) at is there =
    let lock = lock_is (view_of n).number n.entries a at in
    let backed = each_among (IsBackedIn n.secret n.replica.views stated) n.entries (Accepted a) is.backed lock.there in
    among_mapped (λ x. Among x stated) says.Voted a.writes s (backed (view_of n) (in_force_there stated view n is) lock.view_is).drawn there

batch_stated : {S : Type 0} (stated : List Statement) (view : View) (n : Node S) (s : Statement) (o : Option Accept) → lock_of (view_of n).number n.entries ≡ o → IsSound stated view n
    → Among s (flat_map says.within (says.requests_of (option_map (λ (a : Accept). a.batch) o))) → says.verifies n.secret s ≡ true → Among s stated
batch_stated stated view n s None at is there ok = absurd there
batch_stated stated view n s (Some a) at is there ok =
    let lock = lock_is (view_of n).number n.entries a at in
    let has = each_among (HasBatch n.secret stated) n.entries (Accepted a) is.batches lock.there in
    batch_covers n.secret stated a.batch has.asked s there ok

-- ---- the report

abbrev Own : {S : Type 0} → Node S → ℕ → SignedBy Report
Own n regency = signed reports n.secret n.id (report_of n regency)

-- the promise that it is of, pushed behind the book, shows it
own_shown : {S : Type 0} (n : Node S) → HasReported digest_of (n.entries ++ Promised (next_promise n) ∷ []) (report_of n (regency_of n + 1))
unfolding report_of
own_shown n = record { before = n.entries; after = []; split = refl; reports = record { last = refl; evidence = refl; lock = refl } }

abbrev Tells : {S : Type 0} → List Statement → Node S → Statement → Type 0
Tells stated n s = Among s stated ⊎ ((signer_of s ≡ Member n.id) × IsShown digest_of (n.entries ++ Promised (next_promise n) ∷ []) s)

part_shown : {S : Type 0} (stated : List Statement) (view : View) (n : Node S) → IsSound stated view n → (s : Statement)
    → Among s (says.parts_of_evidence (report_of n (regency_of n + 1)).evidence ++ says.parts_of_lock (report_of n (regency_of n + 1)).lock) → Tells stated n s
unfolding report_of
part_shown stated view n is s there =
    ⊎_elim
    (λ evidence. inl (evidence_stated stated view n s (last_maker n.entries) refl is evidence))
    (λ lock. inl (lock_stated stated view n s (lock_of (view_of n).number n.entries) refl is lock))
    (among_either s (says.parts_of_evidence (evidence_of digest_of (last_maker n.entries))) (says.parts_of_lock (option_map certificate_of (lock_of (view_of n).number n.entries))) there)

report_shown : {S : Type 0} (stated : List Statement) (view : View) (n : Node S) → IsSound stated view n → (s : Statement)
    → Among s (says.in_report (Own n (regency_of n + 1))) → Tells stated n s
report_shown stated view n is s (inl same) = subst (λ (x : Statement). Tells stated n x) (sym same) (inr (refl, own_shown n))
report_shown stated view n is s (inr there) = part_shown stated view n is s there

all_shown : {S : Type 0} (stated : List Statement) (view : View) (n : Node S) → IsSound stated view n → (s : Statement)
    → Among s (flat_map says.within (says.said (changes.StopData (reported_by n (regency_of n + 1))))) → says.verifies n.secret s ≡ true → Tells stated n s
unfolding reported_by
all_shown stated view n is s there ok =
    ⊎_elim
    (λ report. report_shown stated view n is s report)
    (λ batch. inl (batch_stated stated view n s (lock_of (view_of n).number n.entries) refl is batch ok))
    (among_either s (says.in_report (Own n (regency_of n + 1))) (flat_map says.within (says.requests_of (option_map (λ (a : Accept). a.batch) (lock_of (view_of n).number n.entries)))) there)

-- ---- the regency that it tells is past the restored entries

taken_regency : (view k : ℕ) (es : List LogEntry) → greatest_regency view (take k es) ≤ greatest_regency view es
taken_regency view zero [] = omega arith
taken_regency view zero (x ∷ xs) = omega arith
taken_regency view (suc k) [] = omega arith
taken_regency view (suc k) (x ∷ xs) = let rest = taken_regency view k xs in omega (arith, rest)

past_restored : {S : Type 0} (stated : List Statement) (view : View) (n : Node S) (e : LogEntry) → IsSound stated view n → greatest_regency (view_of n).number (take n.restored (n.entries ++ e ∷ [])) < regency_of n + 1
unfolding regency_of
past_restored stated view n e is =
    let few = is.late.few in
    let same : greatest_regency (view_of n).number (take n.restored (n.entries ++ e ∷ [])) ≡ greatest_regency (view_of n).number (take n.restored n.entries) =
    ap (λ (es : List LogEntry). greatest_regency (view_of n).number es) (take-append-le n.restored n.entries (e ∷ []) few) in
    let least = taken_regency (view_of n).number n.restored n.entries in
    omega (arith, same, least)

abbrev TellsLate : {S : Type 0} → List Statement → Node S → Statement → Type 0
TellsLate stated n s = Among s stated ⊎ IsPast (take n.restored (n.entries ++ Promised (next_promise n) ∷ [])) s

own_late : {S : Type 0} (stated : List Statement) (view : View) (n : Node S) → IsSound stated view n → TellsLate stated n (says.Reported (Own n (regency_of n + 1)))
unfolding report_of
own_late stated view n is = inr (past_restored stated view n (Promised (next_promise n)) is)

part_late : {S : Type 0} (stated : List Statement) (view : View) (n : Node S) → IsSound stated view n → (s : Statement)
    → Among s (says.parts_of_evidence (report_of n (regency_of n + 1)).evidence ++ says.parts_of_lock (report_of n (regency_of n + 1)).lock) → TellsLate stated n s
unfolding report_of
part_late stated view n is s there =
    ⊎_elim
    (λ evidence. inl (evidence_stated stated view n s (last_maker n.entries) refl is evidence))
    (λ lock. inl (lock_stated stated view n s (lock_of (view_of n).number n.entries) refl is lock))
    (among_either s (says.parts_of_evidence (evidence_of digest_of (last_maker n.entries))) (says.parts_of_lock (option_map certificate_of (lock_of (view_of n).number n.entries))) there)

report_late : {S : Type 0} (stated : List Statement) (view : View) (n : Node S) → IsSound stated view n → (s : Statement)
    → Among s (says.in_report (Own n (regency_of n + 1))) → TellsLate stated n s
report_late stated view n is s (inl same) = subst (λ (x : Statement). TellsLate stated n x) (sym same) (own_late stated view n is)
report_late stated view n is s (inr there) = part_late stated view n is s there

all_late : {S : Type 0} (stated : List Statement) (view : View) (n : Node S) → IsSound stated view n → (s : Statement)
    → Among s (flat_map says.within (says.said (changes.StopData (reported_by n (regency_of n + 1))))) → says.verifies n.secret s ≡ true → TellsLate stated n s
unfolding reported_by
all_late stated view n is s there ok =
    ⊎_elim
    (λ report. report_late stated view n is s report)
    (λ batch. inl (batch_stated stated view n s (lock_of (view_of n).number n.entries) refl is batch ok))
    (among_either s (says.in_report (Own n (regency_of n + 1))) (flat_map says.within (says.requests_of (option_map (λ (a : Accept). a.batch) (lock_of (view_of n).number n.entries)))) there)

-- ---- promise

sound_promise : {S : Type 0} (stated : List Statement) (view : View) (n : Node S) → IsSound stated view n → IsSound stated view (promise_next n)
unfolding promise_next reported_by
sound_promise {S = S} stated view n is =
    let pushed : IsSound stated view (recording n (Promised (next_promise n))) = records_promise stated view n (next_promise n) is refl (omega arith) in
    let m : Node S = record (recording n (Promised (next_promise n))) { stop_made = false; sync_made = false; impatient = true } in
    let marked : IsSound stated view m = aside stated view (recording n (Promised (next_promise n))) n.firm n.held n.proposed false false true n.behind pushed pushed.held pushed.late in
    let message : Message = (changes.StopData (reported_by n (regency_of n + 1))) in
    holds stated view m (targets.Node (leader (view_of n) (regency_of n + 1))) message marked
    (each_verified n.secret (Tells stated n) (flat_map says.within (says.said message)) (all_shown stated view n is))
    (each_verified n.secret (TellsLate stated n) (flat_map says.within (says.said message)) (all_late stated view n is))

pub sound_promises : {S : Type 0} (stated : List Statement) (view : View) (n : Node S) → IsSound stated view n → IsSound stated view (promises n)
unfolding promises
sound_promises {S = S} stated view n is = either (λ (m : Node S). IsSound stated view m) (promising n) (promise_next n) n (sound_promise stated view n is) is
