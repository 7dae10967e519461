-- A digest that a regency decides at a place is the only one that it or a later regency can write there.
use Rattle.std.proofs.Common.{◌≡◌, ◌⊎◌, inr, ⊎_elim, ℕ, zero, suc, ◌+◌, ◌<◌, ◌≤◌, Bool, true, List, ◌∷◌, Option, Some, refl, sym, ap, subst, ◌∙◌, arith}
use Rattle.std.specs.Prelude.{filter, option_map, IfSome}
use Rattle.smart_base.specs.Views.{View, weight_of, quorum}
use Rattle.smart_base.specs.declared.party.Party.TheVariants.{Member}
use Rattle.smart_statements.specs.Forms.{SignedBy}
use Rattle.smart_statements.specs.Kinds.{ballots}
use Rattle.smart_statements.specs.Batches.{Batch}
use Rattle.smart_statements.specs.Reports.{reports}
use Rattle.smart_statements.specs.declared.statement.Slot.{Slot}
use Rattle.smart_statements.specs.declared.statement.Ballot.{Ballot}
use Rattle.smart_statements.specs.declared.report.LockCertificate.{LockCertificate}
use Rattle.smart_statements.specs.declared.report.Report.{Report}
use Rattle.certificates.specs.Certificates.{IsWriteCertificate, signers, write_of, accept_of, is_verified}
use Rattle.certificates.specs.Collects.{slot_of, LockHolds}
use Rattle.regency_sync.specs.Choices.{choice}
use Rattle.vote_book.specs.declared.entry.Promise.{Promise}
use Rattle.vote_book.specs.declared.entry.Start.{Start}
use Rattle.vote_book.specs.declared.entry.LogEntry.{LogEntry}
use Rattle.vote_book.specs.declared.entry.LogEntry.TheVariants as entries
use Rattle.vote_book.specs.Books.{Among, Allows, HasBegun, Lawful}
use Rattle.vote_book.specs.BookReports.{lock_of, certificate_of}
use Rattle.vote_book.proofs.Tidy.{front_lawful}
use Rattle.agreement_laws.specs.Statements.{Statement, Voted, Reported, within, parts_of_evidence, parts_of_lock}
use Rattle.agreement_laws.specs.Diaries.{HasAccepted, HasVoted, HasReported}
use Rattle.agreement_laws.specs.Certificates.{IsDrawn, IsWritten, IsDecision, IsLockedReport, IsChosen, IsBacked}
use Rattle.agreement_laws.specs.Law.{IsCorrect, Witnessed}
use Rattle.agreement_laws.proofs.Lists.{among_right, among_map, each_among, each_from}
use Rattle.agreement_laws.proofs.Groups.{Shared, quorums_share, collect_share, is_one, signed_listed, signers_length, own}
use Rattle.agreement_laws.proofs.Diaries.{wrote_once, accepted_before, accepted_in_turn, accepted_is_lock, wrote_begun, IsAtLeast}
use Rattle.agreement_laws.proofs.Choices.{ChosenLock, chosen_lock}

-- a vote in a lock stands in the report that has the lock
vote_in_report : (r : SignedBy Report) (lock : LockCertificate) (vote : SignedBy Ballot) → r.statement.lock ≡ Some lock → Among vote lock.writes
    → Among (Voted vote) (within (Reported r))
vote_in_report r lock vote is there =
    let in_lock : Among (Voted vote) (parts_of_lock r.statement.lock) =
    subst (λ (o : Option LockCertificate). Among (Voted vote) (parts_of_lock o)) (sym is) (among_map Voted lock.writes vote there) in
    inr (among_right (Voted vote) (parts_of_evidence r.statement.evidence) (parts_of_lock r.statement.lock) in_lock)

same_or_later : (r s : ℕ) (e d : List ℕ) → r ≤ s → (r ≡ s → e ≡ d) → (r < s → e ≡ d) → e ≡ d
same_or_later r s e d most same later = ⊎_elim same later (equal_or_above r s most)
  where
    equal_or_above : (r s : ℕ) → r ≤ s → (r ≡ s) ⊎ (r < s)
    equal_or_above r s h = grind arith

-- of a member that accepted at a place: its report's last place is one below at least, and where it is, the report has a lock of that regency at least
record Locked (report : Report) (place regency : ℕ) : Type 0 where
  near : place ≤ report.last + 1
  lock : place ≡ report.last + 1 → IsAtLeast report.lock regency

at_least : (held found : Option LockCertificate) (regency other : ℕ) → held ≡ found → other ≡ regency → IsAtLeast found other → IsAtLeast held regency
at_least held found regency other is equal least = record { lock = least.lock; is = is ∙ least.is; reached = omega (arith, least.reached, equal) }

-- a report, by a diary that has accepted in an earlier regency of its view
reported_lock : (digest_of : Batch → List ℕ) (book : List LogEntry) (slot : Slot) (digest : List ℕ) (report : Report) → Lawful 0 0 book → HasAccepted book slot digest
    → report.view ≡ slot.view → slot.regency < report.regency → HasReported digest_of book report → Locked report slot.place slot.regency
reported_lock digest_of book slot digest report lawful has of_view less shown =
    let promise : Promise = record { view = report.view; regency = report.regency } in
    let slot_view : has.entry.slot.view ≡ slot.view = ap (λ (s : Slot). s.view) has.slot_is in
    let slot_place : has.entry.slot.place ≡ slot.place = ap (λ (s : Slot). s.place) has.slot_is in
    let slot_regency : has.entry.slot.regency ≡ slot.regency = ap (λ (s : Slot). s.regency) has.slot_is in
    let front = accepted_before book has.entry promise shown.before shown.after lawful has.there shown.split (inr (slot_view ∙ sym of_view, omega (arith, slot_regency, less))) in
    let front_is = front_lawful 0 0 shown.before (entries.Promised promise ∷ shown.after) (subst (λ (b : List LogEntry). Lawful 0 0 b) shown.split lawful) in
    let turn = accepted_in_turn shown.before has.entry front_is front in
    let last = shown.reports.last in
    record {
      near = omega (arith, turn, slot_place, last);
      lock = λ next.
          at_least report.lock (option_map certificate_of (lock_of report.view shown.before)) slot.regency has.entry.slot.regency shown.reports.lock slot_regency
          (accepted_is_lock shown.before report.view has.entry front (slot_view ∙ sym of_view) (omega (arith, next, slot_place, last)));
    }

module _ (secret : List ℕ) (digest_of : Batch → List ℕ) (view : View) (faulty : ℕ → Bool) (diary : ℕ → List LogEntry) (stated : List Statement)
    (known : Witnessed secret digest_of view faulty diary stated)
  where
    -- ---- quorums

    drawn_quorum : (wanted : Ballot) (votes : List (SignedBy Ballot)) → IsDrawn secret view stated wanted votes
        → quorum view ≤ weight_of view (filter (is_one (signers votes)) view.members)
    drawn_quorum wanted votes drawn =
        omega (arith, drawn.holds.1, signed_listed Ballot secret ballots view (λ b. b ≡ wanted) votes drawn.holds.0)

    -- a correct member has voted for both of two certificates
    certificates_share : (one two : Ballot) (left right : List (SignedBy Ballot)) → IsDrawn secret view stated one left → IsDrawn secret view stated two right
        → Shared (is_one (signers left)) (is_one (signers right)) faulty view
    certificates_share one two left right l r =
        quorums_share (is_one (signers left)) (is_one (signers right)) faulty view known.few.few (drawn_quorum one left l) (drawn_quorum two right r)

    -- a correct member has voted for a certificate and reported to a collect
    collects_share : (wanted : Ballot) (votes : List (SignedBy Ballot)) (start : Start) (chosen : IsChosen secret view stated start) → IsDrawn secret view stated wanted votes
        → Shared (is_one (signers votes)) (is_one (signers chosen.items)) faulty view
    collects_share wanted votes start chosen drawn =
        let listed = signed_listed Report secret reports view (IsLockedReport secret view start.regency) chosen.items chosen.collect.signed in
        let most = chosen.collect.enough in
        let same = signers_length chosen.items in
        collect_share (is_one (signers votes)) (is_one (signers chosen.items)) faulty view known.few (drawn_quorum wanted votes drawn) (omega (arith, listed, most, same))

    -- ---- what correct members have stated

    -- a correct member's vote is in its diary
    voted : (wanted : Ballot) (votes : List (SignedBy Ballot)) (member : ℕ) → IsCorrect view faulty member → IsDrawn secret view stated wanted votes
        → is_one (signers votes) member ≡ true → HasVoted (diary member) wanted.kind wanted.slot wanted.digest
    voted wanted votes member correct drawn is =
        let mine = own votes member is in
        let there = each_among (λ b. Among (Voted b) stated) votes mine.item drawn.drawn mine.there in
        let equal = each_among (λ (b : SignedBy Ballot). b.statement ≡ wanted) votes mine.item drawn.holds.0.stated mine.there in
        subst (λ (b : Ballot). HasVoted (diary member) b.kind b.slot b.digest) equal (known.shown member correct (Voted mine.item) there (ap (λ (m : ℕ). Member m) (sym mine.signed)))

    -- what an entry of a correct member's diary rests on has been stated
    backed : (member : ℕ) (entry : LogEntry) → IsCorrect view faulty member → Among entry (diary member) → IsBacked secret digest_of view stated entry
    backed member entry correct there = each_among (IsBacked secret digest_of view stated) (diary member) entry (known.backed member correct) there

    -- one regency writes one digest at a place
    pub same_regency : (place regency : ℕ) (first second : List ℕ) (left right : List (SignedBy Ballot)) → IsWritten secret view stated place regency first left
        → IsWritten secret view stated place regency second right → first ≡ second
    same_regency place regency first second left right l r =
        let slot = slot_of view place regency in
        let met = certificates_share (write_of slot first) (write_of slot second) left right l r in
        wrote_once (diary met.member) (record { slot = slot; digest = first }) (record { slot = slot; digest = second }) (known.lawful met.member met.is)
        (voted (write_of slot first) left met.member met.is l met.left) (voted (write_of slot second) right met.member met.is r met.right) refl

    -- what has been accepted by a correct member was written
    accepted_is_written : (place regency : ℕ) (digest : List ℕ) (member : ℕ) → IsCorrect view faulty member → HasAccepted (diary member) (slot_of view place regency) digest
        → (writes : List (SignedBy Ballot)) × IsWritten secret view stated place regency digest writes
    accepted_is_written place regency digest member correct has =
        let slot_is = has.slot_is in
        let at = backed member (entries.Accepted has.entry) correct has.there (ap (λ (s : Slot). s.view) slot_is) in (
          has.entry.writes,
          subst (λ (s : Slot). IsWritten secret view stated s.place s.regency digest has.entry.writes) slot_is
              (subst (λ (d : List ℕ). IsWritten secret view stated has.entry.slot.place has.entry.slot.regency d has.entry.writes) has.digest_is at),
        )

    -- what is decided was written
    pub decided_is_written : (place regency : ℕ) (digest : List ℕ) (accepts : List (SignedBy Ballot)) → IsDecision secret view stated place regency digest accepts
        → (writes : List (SignedBy Ballot)) × IsWritten secret view stated place regency digest writes
    decided_is_written place regency digest accepts decision =
        let wanted = accept_of (slot_of view place regency) digest in
        let met = certificates_share wanted wanted accepts accepts decision decision in
        accepted_is_written place regency digest met.member met.is (voted wanted accepts met.member met.is decision met.left)

    -- ---- what a later regency begins with

    -- It begins at a place, and is bound there to a digest that a regency between wrote.
    record Binds (place regency : ℕ) (start : Start) : Type 0 where
      here : start.base ≡ place
      lock : LockCertificate
      bound_is : start.bound ≡ Some lock.digest
      written : IsWritten secret view stated place lock.regency lock.digest lock.writes
      from : regency ≤ lock.regency
      below : lock.regency < start.regency

    lock_of_report : (report : Report) (lock : LockCertificate) → report.lock ≡ Some lock → IfSome report.lock (LockHolds secret view report.last report.regency)
        → LockHolds secret view report.last report.regency lock
    lock_of_report report lock is holds = rw is at holds

    binds_by : (place regency : ℕ) (start : Start) (chosen : IsChosen secret view stated start) → ChosenLock chosen.items place regency → Binds place regency start
    binds_by place regency start chosen it =
        let report = each_among (λ (r : SignedBy Report). IsLockedReport secret view start.regency r.statement) chosen.items it.item chosen.collect.signed.stated it.there in
        let holds = lock_of_report it.item.statement it.lock it.held report.lock in
        let written = subst (λ (k : ℕ). IsWriteCertificate secret view (slot_of view k it.lock.regency) it.lock.digest it.lock.writes) it.next holds.written in
        let there = each_among (λ r. Among (Reported r) stated) chosen.items it.item chosen.drawn it.there in
        record {
          here = sym (ap (λ c. c.base) chosen.choice_is) ∙ it.base_is;
          lock = it.lock;
          bound_is = sym (ap (λ c. c.bound) chosen.choice_is) ∙ it.bound_is;
          written = record {
            holds = written;
            drawn = each_from (λ b. Among (Voted b) stated) it.lock.writes (λ vote inside.
                known.closed (Reported it.item) (Voted vote) there (vote_in_report it.item it.lock vote it.held inside)
                (each_among (λ b. is_verified secret ballots b ≡ true) it.lock.writes vote written.0.verified inside));
          };
          from = it.reached;
          below = omega (arith, holds.earlier, report.of_regency);
        }

    -- where a place is decided, a later regency that begins there or before begins there, and is bound
    binds : (place regency : ℕ) (digest : List ℕ) (start : Start) (accepts : List (SignedBy Ballot)) → IsDecision secret view stated place regency digest accepts
        → IsChosen secret view stated start → regency < start.regency → start.base ≤ place → Binds place regency start
    binds place regency digest start accepts decision chosen less reached =
        let slot = slot_of view place regency in
        let met = collects_share (accept_of slot digest) accepts start chosen decision in
        let has = voted (accept_of slot digest) accepts met.member met.is decision met.left in
        let mine = own chosen.items met.member met.right in
        let there = each_among (λ r. Among (Reported r) stated) chosen.items mine.item chosen.drawn mine.there in
        let shown = known.shown met.member met.is (Reported mine.item) there (ap (λ (m : ℕ). Member m) (sym mine.signed)) in
        let report = each_among (λ (r : SignedBy Report). IsLockedReport secret view start.regency r.statement) chosen.items mine.item chosen.collect.signed.stated mine.there in
        let locked = reported_lock digest_of (diary met.member) slot digest mine.item.statement (known.lawful met.member met.is) has report.of_view
        (omega (arith, less, report.of_regency)) shown in
        let base : (choice chosen.items).base ≡ start.base = ap (λ c. c.base) chosen.choice_is in
        binds_by place regency start chosen (chosen_lock chosen.items mine.item place regency mine.there locked.near locked.lock (omega (arith, base, reached)))

    -- what has been written at a place in a later regency keeps to the choice of that regency
    begun : (place later : ℕ) (other : List ℕ) (writes : List (SignedBy Ballot)) → IsWritten secret view stated place later other writes → 0 < later
        → (member : ℕ) × IsCorrect view faulty member × HasBegun (diary member) (slot_of view place later) other
    begun place later other writes written some =
        let wanted = write_of (slot_of view place later) other in
        let met = certificates_share wanted wanted writes writes written written in
        let there = voted wanted writes met.member met.is written met.left in
        (met.member, met.is, wrote_begun (diary met.member) (record { slot = slot_of view place later; digest = other }) (known.lawful met.member met.is) there some)

    chosen_start : (member later : ℕ) (start : Start) → IsCorrect view faulty member → Among (entries.Synced start) (diary member) → start.view ≡ view.number
        → start.regency ≡ later → 0 < later → IsChosen secret view stated start
    chosen_start member later start correct there of_view of_regency some = backed member (entries.Synced start) correct there of_view (omega (arith, some, of_regency))

    bound_to : (bound : Option (List ℕ)) (digest other : List ℕ) → bound ≡ Some digest → Allows bound other → other ≡ digest
    bound_to bound digest other is allows = rw is at allows

    -- what a later regency writes at a decided place is the digest decided. The regencies are at most a number
    later_regency : (most place regency later : ℕ) (digest other : List ℕ) (accepts writes : List (SignedBy Ballot))
        → IsDecision secret view stated place regency digest accepts → IsWritten secret view stated place later other writes → regency < later → later ≤ most → other ≡ digest
    later_regency zero place regency later digest other accepts writes decision written less le = absurd (omega (arith, less, le))
    later_regency (suc most) place regency later digest other accepts writes decision written less le =
        let (member, correct, has) = begun place later other writes written (omega (arith, less)) in
        let chosen = chosen_start member later has.start correct has.there has.view has.regency (omega (arith, less)) in
        let bind = binds place regency digest has.start accepts decision chosen (omega (arith, less, has.regency)) has.reached in
        let first = decided_is_written place regency digest accepts decision in
        let lock_is : bind.lock.digest ≡ digest =
        same_or_later regency bind.lock.regency bind.lock.digest digest bind.from
        (λ equal. same_regency place regency bind.lock.digest digest bind.lock.writes first.0
        (subst (λ (r : ℕ). IsWritten secret view stated place r bind.lock.digest bind.lock.writes) (sym equal) bind.written) first.1)
        (λ above. later_regency most place regency bind.lock.regency digest bind.lock.digest accepts bind.lock.writes decision bind.written above
        (omega (arith, le, bind.below, has.regency)))
        in
        bound_to has.start.bound bind.lock.digest other bind.bound_is (has.kept bind.here) ∙ lock_is

    -- what a regency decides, a later one can write alone
    pub later_writes : (place regency later : ℕ) (digest other : List ℕ) (accepts writes : List (SignedBy Ballot)) → IsDecision secret view stated place regency digest accepts
        → IsWritten secret view stated place later other writes → regency ≤ later → other ≡ digest
    later_writes place regency later digest other accepts writes decision written le =
        let first = decided_is_written place regency digest accepts decision in
        same_or_later regency later other digest le
        (λ equal. same_regency place regency other digest writes first.0 (subst (λ (r : ℕ). IsWritten secret view stated place r other writes) (sym equal) written) first.1)
        (λ less. later_regency later place regency later digest other accepts writes decision written less (omega arith))

    -- a place has one decision
    pub decided_once : (place regency later : ℕ) (first second : List ℕ) (left right : List (SignedBy Ballot)) → IsDecision secret view stated place regency first left
        → IsDecision secret view stated place later second right → first ≡ second
    decided_once place regency later first second left right l r =
        ⊎_elim
        (λ (le : regency ≤ later).
        let two = decided_is_written place later second right r in
        sym (later_writes place regency later first second left two.0 l two.1 le))
        (λ (ge : later ≤ regency).
        let one = decided_is_written place regency first left l in
        later_writes place later regency second first right one.0 r one.1 ge)
        (either_way regency later)
      where
        either_way : (r s : ℕ) → (r ≤ s) ⊎ (s ≤ r)
        either_way r s = grind arith
