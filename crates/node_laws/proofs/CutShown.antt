-- What a node's book shows behind a cut all that was written shows, if the node's reports are of this life.
use Rattle.std.proofs.Common.{List, ap, append-nil, append_assoc, arith, drop, inl, inr, length, max, subst, suc, sym, take, ℕ, ⊎_elim, ◌≡◌, ◌⊎◌, ◌≤◌, ◌<◌, ◌∙◌, ◌+◌, ◌++◌, ◌∷◌, [], refl}
use Rattle.std.proofs.lemmas.List.{take-append-drop}
use Rattle.std.proofs.Math.Seq.{take-append_seam}
use Rattle.agreement_laws.specs.Diaries.{HasReported, HasVoted, IsShown}
use Rattle.agreement_laws.specs.Fronts.{IsFront}
use Rattle.agreement_laws.specs.Statements.{Statement, signer_of, statements}
use Rattle.agreement_laws.specs.Statements as says
use Rattle.agreement_laws.proofs.Growing.{IsShown-front, take-longer}
use Rattle.agreement_laws.proofs.Lists.{each_among, each_both}
use Rattle.replica_rules.specs.Seals.{digest_of}
use Rattle.smart_base.specs.Lists.{Each}
use Rattle.smart_base.specs.Views.{View}
use Rattle.smart_base.specs.declared.party.Party.TheVariants.{Member}
use Rattle.smart_statements.specs.declared.report.Report.{Report}
use Rattle.smart_statements.specs.declared.statement.Slot.{Slot}
use Rattle.smart_statements.specs.declared.statement.VoteKind.{VoteKind}
use Rattle.smart_statements.specs.declared.statement.VoteKind.TheVariants.{Accept, Write}
use Rattle.vote_book.proofs.Tidy.{front_lawful}
use Rattle.vote_book.specs.BookReports.{Reports}
use Rattle.vote_book.specs.Books.{Among, HasMade, Lawful, last_made}
use Rattle.vote_book.specs.Tidy.{promise_of}
use Rattle.vote_book.specs.declared.entry.LogEntry.{LogEntry}
use Rattle.book_laws.specs.BookCuts.{cut_at}
use Rattle.book_laws.proofs.Cut.{cut_last, cut_reports}
use Rattle.book_laws.proofs.CutAgain.{cut_more}
use Rattle.book_laws.proofs.CutEntries.{cut_among}
use Rattle.book_laws.proofs.Lists.{InFirst, InSecond, among_either, among_left, among_right, among_split, first_or_second}
use Rattle.book_laws.proofs.Places.{last_append}
use Rattle.node_rules.specs.Nodes.{Node, greatest_regency}
use Rattle.node_rules.specs.declared.node.Held.{Held}
use Rattle.node_laws.proofs.Books.{promise_most}
use Rattle.node_laws.proofs.CutNodes.{sound_written}
use Rattle.node_laws.specs.Restored.{IsSoundBook}
use Rattle.node_laws.specs.Sound.{IsHeld, IsPast, IsSound}

-- ---- one statement

-- an entry of a cut, or of what stands behind it, is one of the whole
in_whole : (place : ℕ) (diary more : List LogEntry) (e : LogEntry) → Among e (cut_at place diary ++ more) → Among e (diary ++ more)
in_whole place diary more e there =
    ⊎_elim (λ front. among_left e diary more (cut_among place diary e front)) (λ behind. among_right e diary more behind) (among_either e (cut_at place diary) more there)

voted_in_whole : (place : ℕ) (diary more : List LogEntry) (kind : VoteKind) (slot : Slot) (digest : List ℕ) → HasVoted (cut_at place diary ++ more) kind slot digest → HasVoted (diary ++ more) kind slot digest
voted_in_whole place diary more Write slot digest has = in_whole place diary more _ has
voted_in_whole place diary more Accept slot digest has =
    record { entry = has.entry; there = in_whole place diary more _ has.there; slot_is = has.slot_is; digest_is = has.digest_is }

last_in_whole : (place : ℕ) (diary more : List LogEntry) → Lawful 0 0 diary → last_made (cut_at place diary ++ more) ≡ last_made (diary ++ more)
last_in_whole place diary more lawful =
    last_append (cut_at place diary) more ∙ (ap (λ (k : ℕ). max k (last_made more)) (cut_last place diary lawful) ∙ sym (last_append diary more))

-- a report whose promise stands behind the cut
reported_behind : (place : ℕ) (diary more before : List LogEntry) (r : Report) (after : List LogEntry) → (0 < place → HasMade diary place) → Lawful 0 0 (diary ++ more)
    → Reports digest_of r before → InSecond (cut_at place diary) more before (promise_of r.view r.regency) after → HasReported digest_of (diary ++ more) r
reported_behind place diary more before r after has lawful reports at =
    let whole : diary ++ more ≡ (diary ++ at.more) ++ promise_of r.view r.regency ∷ after =
    ap (λ (es : List LogEntry). diary ++ es) at.split ∙ sym (append_assoc diary at.more (promise_of r.view r.regency ∷ after)) in
    let front : Lawful 0 0 (diary ++ at.more) =
    front_lawful 0 0 (diary ++ at.more) (promise_of r.view r.regency ∷ after) (subst (λ (es : List LogEntry). Lawful 0 0 es) whole lawful) in
    let behind : Reports digest_of r (cut_at place (diary ++ at.more)) =
    subst (λ (es : List LogEntry). Reports digest_of r es) (at.before_is ∙ sym (cut_more place diary at.more has)) reports in
    record { before = diary ++ at.more; after = after; split = whole; reports = (cut_reports digest_of r place (diary ++ at.more) front).0 behind }

-- no promise of the cut is of its regency
none_before : (place : ℕ) (diary before : List LogEntry) (r : Report) → greatest_regency r.view (cut_at place diary) < r.regency → InFirst (cut_at place diary) before (promise_of r.view r.regency) → ⊥
none_before place diary before r past at =
    let there : Among (promise_of r.view r.regency) (cut_at place diary) = among_split (promise_of r.view r.regency) (cut_at place diary) before at.rest at.split in
    let most : r.regency ≤ greatest_regency r.view (cut_at place diary) = promise_most r.view (cut_at place diary) (record { view = r.view; regency = r.regency }) refl there in
    omega (arith, most, past)

reported_in_whole : (place : ℕ) (diary more : List LogEntry) (r : Report) → (0 < place → HasMade diary place)
    → Lawful 0 0 (diary ++ more) → greatest_regency r.view (cut_at place diary) < r.regency → HasReported digest_of (cut_at place diary ++ more) r → HasReported digest_of (diary ++ more) r
reported_in_whole place diary more r has lawful past is =
    ⊎_elim (λ front. absurd (none_before place diary is.before r past front)) (λ behind. reported_behind place diary more is.before r is.after has lawful is.reports behind)
    (first_or_second (cut_at place diary) more is.before (promise_of r.view r.regency) is.after is.split)

pub shown_in_whole : (secret : List ℕ) (stated : List Statement) (views : List View) (place : ℕ) (diary more : List LogEntry) (s : Statement) → IsSoundBook secret stated views diary → (0 < place → HasMade diary place)
    → Lawful 0 0 (diary ++ more) → IsPast (cut_at place diary) s → IsShown digest_of (cut_at place diary ++ more) s → IsShown digest_of (diary ++ more) s
shown_in_whole secret stated views place diary more (says.Asked q) book has lawful past is = tt
shown_in_whole secret stated views place diary more (says.Proposed p) book has lawful past is = tt
shown_in_whole secret stated views place diary more (says.Voted b) book has lawful past is = voted_in_whole place diary more b.statement.kind b.statement.slot b.statement.digest is
shown_in_whole secret stated views place diary more (says.Stopped s) book has lawful past is = tt
shown_in_whole secret stated views place diary more (says.Reported r) book has lawful past is = reported_in_whole place diary more r.statement has lawful past is
shown_in_whole secret stated views place diary more (says.Synced s) book has lawful past is = tt
shown_in_whole secret stated views place diary more (says.Marked k) book has lawful past is = in_whole place diary more _ is
shown_in_whole secret stated views place diary more (says.Replied a) book has lawful past is =
    subst (λ (k : ℕ). a.statement.place ≤ k) (last_in_whole place diary more book.lawful) is
shown_in_whole secret stated views place diary more (says.Informed i) book has lawful past is =
    subst (λ (k : ℕ). i.statement.view.start ≤ k + 1) (last_in_whole place diary more book.lawful) is

-- ---- a message that is held

take_behind : (xs ys : List LogEntry) (j : ℕ) → take (length xs + j) (xs ++ ys) ≡ xs ++ take j ys
take_behind [] ys j = let same : length {A = LogEntry} [] + j ≡ j = omega arith in ap (λ (k : ℕ). take k ys) same
take_behind (x ∷ xs) ys j =
    let same : length (x ∷ xs) + j ≡ suc (length xs + j) = omega arith in
    ap (λ (k : ℕ). take k (x ∷ (xs ++ ys))) same ∙ ap (λ (zs : List LogEntry). x ∷ zs) (take_behind xs ys j)

-- what the message waits for is a front of the cut and so many entries behind it
waits_behind : (cut more entries : List LogEntry) (needs j : ℕ) → entries ≡ cut ++ more → needs ≤ length cut + j → IsFront (take needs entries) (cut ++ take j more)
waits_behind cut more entries needs j made low =
    subst (λ (es : List LogEntry). IsFront (take needs es) (cut ++ take j more)) (sym made)
    (subst (λ (es : List LogEntry). IsFront (take needs (cut ++ more)) es)
    (ap (λ (es : List LogEntry). take (length cut + j) es) (append-nil (cut ++ more)) ∙ take_behind cut more j)
    (take-longer needs (length cut + j) (cut ++ more) [] low))

front_of_written : (diary more : List LogEntry) (j : ℕ) → Lawful 0 0 (diary ++ more) → Lawful 0 0 (diary ++ take j more)
front_of_written diary more j lawful =
    front_lawful 0 0 (diary ++ take j more) (drop j more)
    (subst (λ (es : List LogEntry). Lawful 0 0 es) (ap (λ (es : List LogEntry). diary ++ es) (sym (take-append-drop j more)) ∙ sym (append_assoc diary (take j more) (drop j more))) lawful)

-- Each statement of a message that a node holds has been stated, or is the member's own. All that was written, up to the firm entries, shows the latter.
pub shown_written : {S : Type 0} (stated : List Statement) (view : View) (n : Node S) (diary more : List LogEntry) (j : ℕ) (h : Held) → IsSound stated view n → IsSoundBook n.secret stated n.replica.views diary
    → n.entries ≡ cut_at n.opening diary ++ more → n.restored ≡ length (cut_at n.opening diary) → (0 < n.opening → HasMade diary n.opening) → (diary ≡ [] → ⊥)
    → Among h n.held → h.needs ≤ n.restored + j
    → Each (λ s. Among s stated ⊎ ((signer_of s ≡ Member n.id) × IsShown digest_of (diary ++ take j more) s)) (statements n.secret h.message)
shown_written {S = S} stated view n diary more j h is book made count has some there low =
    each_both
    (λ s. Among s stated ⊎ ((signer_of s ≡ Member n.id) × IsShown digest_of (take h.needs n.entries) s))
    (λ s. Among s stated ⊎ IsPast (take n.restored n.entries) s)
    (λ s. Among s stated ⊎ ((signer_of s ≡ Member n.id) × IsShown digest_of (diary ++ take j more) s))
    (λ s own late. by s own late) (statements n.secret h.message)
    (each_among (IsHeld n.secret n.id stated n.entries) n.held h is.held there).shown
    (each_among (λ (x : Held). Each (λ s. Among s stated ⊎ IsPast (take n.restored n.entries) s) (statements n.secret x.message)) n.held h is.late.each there)
  where
    cut : List LogEntry
    cut = cut_at n.opening diary

    restored_is : take n.restored n.entries ≡ cut
    restored_is = ap (λ (k : ℕ). take k n.entries) count ∙ (ap (λ (es : List LogEntry). take (length cut) es) made ∙ take-append_seam cut more)

    lawful : Lawful 0 0 (diary ++ take j more)
    lawful = front_of_written diary more j (sound_written stated view n diary more is book made has some).lawful

    front : IsFront (take h.needs n.entries) (cut ++ take j more)
    front = waits_behind cut more n.entries h.needs j made (subst (λ (k : ℕ). h.needs ≤ k + j) count low)

    by : (s : Statement) → Among s stated ⊎ ((signer_of s ≡ Member n.id) × IsShown digest_of (take h.needs n.entries) s) → Among s stated ⊎ IsPast (take n.restored n.entries) s
        → Among s stated ⊎ ((signer_of s ≡ Member n.id) × IsShown digest_of (diary ++ take j more) s)
    by s (inl old) late = inl old
    by s (inr own) (inl old) = inl old
    by s (inr own) (inr past) = inr (
      own.0,
      shown_in_whole n.secret stated n.replica.views n.opening diary (take j more) s book has lawful (subst (λ (es : List LogEntry). IsPast es s) restored_is past)
          (IsShown-front digest_of (take h.needs n.entries) (cut ++ take j more) s front own.1),
    )
