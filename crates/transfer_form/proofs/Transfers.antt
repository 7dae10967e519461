-- What is read of asks, offers, parts and decided batches is what is spelled.
use Rattle.std.proofs.Common.{◌≡◌, ℕ, ◌^◌, ◌<◌, ◌≤◌, Bool, true, ltb, leb, List, length, Ok, refl, arith}
use Rattle.std.specs.List.{AllByRecursion}
use Rattle.std.specs.Int.{w16, w32, w64, to_be_bytes}
use Rattle.std.proofs.lemmas.Bool.{ltb-true, lt-ltb, leb-true, le-leb}
use Rattle.smart_base.specs.Cuts.{number_at}
use Rattle.smart_base.specs.Spelling.{behind, IsCount, Law}
use Rattle.smart_base.specs.Fields.{count_at}
use Rattle.smart_base.specs.Laws.{then_law, last_law, refit, ranged_law, times_law}
use Rattle.smart_base.specs.FieldLaws.{u16_law, u32_law, u64_law, count_law, text_law}
use Rattle.smart_statements.specs.Forms.{SignedBy}
use Rattle.smart_statements.specs.Kinds.{requests}
use Rattle.smart_statements.specs.Spelling.{signed, FitsSigned}
use Rattle.smart_statements.specs.Reading.{signed_at, batch_at}
use Rattle.smart_statements.specs.Batches.{Batch, batch_text, FitsBatch}
use Rattle.smart_statements.specs.Statements.{signed_law}
use Rattle.smart_statements.specs.SignedLists.{listed, FitsList, list_at}
use Rattle.smart_statements.specs.Reports.{votes_of, FitsVote, marks, FitsMark}
use Rattle.smart_statements.specs.ReportLaws.{votes_law, mark_law}
use Rattle.smart_statements.specs.declared.statement.VoteKind.TheVariants.{Accept}
use Rattle.smart_statements.specs.declared.statement.Ballot.{Ballot}
use Rattle.smart_statements.specs.declared.report.Mark.{Mark}
use Rattle.smart_statements.proofs.Batches.{batch_law}
use Rattle.transfer_form.specs.Transfers.{IsMember, member_at, IsPlace, place_at, few_at, FitsFew, few_marks_at, piece_at, ask_text, FitsAsk, ask_at, offer_text, FitsOffer, offer_at, part_text, FitsPart, part_at, proven_text, FitsProven, proven_at}
use Rattle.transfer_form.specs.declared.transfer.StateAsk.{StateAsk}
use Rattle.transfer_form.specs.declared.transfer.StateOffer.{StateOffer}
use Rattle.transfer_form.specs.declared.transfer.StatePart.{StatePart}
use Rattle.transfer_form.specs.declared.transfer.ProvenBatch.{ProvenBatch}

-- ---- fields

member_law : Law IsMember (to_be_bytes w16) member_at
member_law =
    refit (λ n. (n < 2 ^ 16) × (leb 1 n ≡ true)) IsMember (to_be_bytes w16) member_at
    (ranged_law (λ n. n < 2 ^ 16) (to_be_bytes w16) (number_at w16) (λ n. leb 1 n) u16_law)
    (λ n h. (leb-true 1 n h.1, h.0)) (λ n h. (h.1, le-leb 1 n h.0))

place_law : Law IsPlace (to_be_bytes w64) place_at
place_law =
    refit (λ n. (n < 2 ^ 64) × (ltb n (2 ^ 63) ≡ true)) IsPlace (to_be_bytes w64) place_at
    (ranged_law (λ n. n < 2 ^ 64) (to_be_bytes w64) (number_at w64) (λ n. ltb n (2 ^ 63)) u64_law)
    (λ n h. ltb-true n (2 ^ 63) h.1) (λ n h. (omega (arith, h), lt-ltb n (2 ^ 63) h))

abbrev IsFew : ℕ → Type 0
IsFew n = (n < 2 ^ 16) × (leb n 64 ≡ true)

few_law : Law IsFew (to_be_bytes w16) few_at
few_law = ranged_law (λ n. n < 2 ^ 16) (to_be_bytes w16) (number_at w16) (λ n. leb n 64) u16_law

few_marks_law : Law FitsFew (listed marks) few_marks_at
unfolding few_marks_at
few_marks_law =
    refit _ FitsFew (listed marks) few_marks_at
    (then_law (λ (ms : List (SignedBy Mark)). length ms) (λ ms. Unit {0}) IsFew (to_be_bytes w16) few_at _ _ _ few_law λ n h.
    refit _ (λ ms. (Unit {0} × (length ms ≡ n)) × AllByRecursion (FitsSigned marks (λ signer. FitsMark)) ms) _ _
    (times_law (FitsSigned marks (λ signer. FitsMark)) (signed marks) (signed_at marks) (signed_law marks (λ signer. FitsMark) (omega arith) mark_law) n)
    (λ ms h. ((tt, h.0), h.1)) (λ ms h. (h.0.1, h.1)))
    (λ ms h. (leb-true (length ms) 64 h.1.0.1, h.1.1))
    (λ ms h. let few = h.0 in (tt, ((omega (arith, few), le-leb (length ms) 64 few), h.1)))

-- ---- asks

abbrev make_ask : ℕ → ℕ → ℕ → StateAsk
make_ask m p f = record { member = m; place = p; fetch = f }

ask_is : (a : StateAsk) (m p : ℕ) → a.member ≡ m → a.place ≡ p → make_ask m p a.fetch ≡ a
ask_is a m p e f = rw (← e, ← f) refl

pub ask_law : Law FitsAsk ask_text ask_at
unfolding ask_at
ask_law =
    refit _ FitsAsk ask_text ask_at
    (then_law (λ (a : StateAsk). a.member) (λ a. Unit {0}) IsMember (to_be_bytes w16) member_at _ _ _ member_law λ m is_m.
    then_law (λ (a : StateAsk). a.place) (λ a. Unit {0} × (a.member ≡ m)) IsPlace (to_be_bytes w64) place_at _ _ _ place_law λ p is_p.
    last_law (λ (a : StateAsk). a.fetch) (λ a. (Unit {0} × (a.member ≡ m)) × (a.place ≡ p)) IsPlace (to_be_bytes w64) place_at
    (λ f. make_ask m p f) place_law
    (λ f h. ((tt, refl), refl)) (λ f. refl) (λ a h. ask_is a m p h.0.1 h.1))
    (λ a h. record { member_fits = h.1.0; place_fits = h.1.1.0; fetch_fits = h.1.1.1 })
    (λ a h. (tt, (h.member_fits, (h.place_fits, h.fetch_fits))))

-- ---- offers

abbrev make_offer : ℕ → ℕ → ℕ → List (SignedBy Mark) → StateOffer
make_offer m p s l = record { member = m; place = p; size = s; marks = l }

offer_is : (o : StateOffer) (m p s : ℕ) → o.member ≡ m → o.place ≡ p → o.size ≡ s → make_offer m p s o.marks ≡ o
offer_is o m p s e f g = rw (← e, ← f, ← g) refl

pub offer_law : Law FitsOffer offer_text offer_at
unfolding offer_at
offer_law =
    refit _ FitsOffer offer_text offer_at
    (then_law (λ (o : StateOffer). o.member) (λ o. Unit {0}) IsMember (to_be_bytes w16) member_at _ _ _ member_law λ m is_m.
    then_law (λ (o : StateOffer). o.place) (λ o. Unit {0} × (o.member ≡ m)) IsPlace (to_be_bytes w64) place_at _ _ _ place_law λ p is_p.
    then_law (λ (o : StateOffer). o.size) (λ o. (Unit {0} × (o.member ≡ m)) × (o.place ≡ p)) (λ n. n < 2 ^ 32) (to_be_bytes w32) (number_at w32) _ _ _
    u32_law λ s is_s.
    last_law (λ (o : StateOffer). o.marks) (λ o. ((Unit {0} × (o.member ≡ m)) × (o.place ≡ p)) × (o.size ≡ s)) FitsFew (listed marks) few_marks_at
    (λ l. make_offer m p s l) few_marks_law
    (λ l h. (((tt, refl), refl), refl)) (λ l. refl) (λ o h. offer_is o m p s h.0.0.1 h.0.1 h.1))
    (λ o h. record { member_fits = h.1.0; place_fits = h.1.1.0; size_fits = h.1.1.1.0; marks_fit = h.1.1.1.1 })
    (λ o h. (tt, (h.member_fits, (h.place_fits, (h.size_fits, h.marks_fit)))))

-- ---- parts

abbrev make_part : ℕ → ℕ → ℕ → List ℕ → StatePart
make_part p i t b = record { place = p; index = i; total = t; bytes = b }

part_is : (x : StatePart) (p i t : ℕ) → x.place ≡ p → x.index ≡ i → x.total ≡ t → make_part p i t x.bytes ≡ x
part_is x p i t e f g = rw (← e, ← f, ← g) refl

pub part_law : Law FitsPart part_text part_at
unfolding part_at
part_law =
    refit _ FitsPart part_text part_at
    (then_law (λ (x : StatePart). x.place) (λ x. Unit {0}) IsCount (to_be_bytes w64) count_at _ _ _ count_law λ p is_p.
    then_law (λ (x : StatePart). x.index) (λ x. Unit {0} × (x.place ≡ p)) (λ n. n < 2 ^ 32) (to_be_bytes w32) (number_at w32) _ _ _ u32_law λ i is_i.
    then_law (λ (x : StatePart). x.total) (λ x. (Unit {0} × (x.place ≡ p)) × (x.index ≡ i)) (λ n. n < 2 ^ 32) (to_be_bytes w32) (number_at w32) _ _ _
    u32_law λ t is_t.
    last_law (λ (x : StatePart). x.bytes) (λ x. ((Unit {0} × (x.place ≡ p)) × (x.index ≡ i)) × (x.total ≡ t)) (λ b. length b ≤ 65536) (behind w32) piece_at
    (λ b. make_part p i t b) (text_law 65536 (omega arith))
    (λ b h. (((tt, refl), refl), refl)) (λ b. refl) (λ x h. part_is x p i t h.0.0.1 h.0.1 h.1))
    (λ x h. record { place_fits = h.1.0; index_fits = h.1.1.0; total_fits = h.1.1.1.0; bytes_fit = h.1.1.1.1 })
    (λ x h. (tt, (h.place_fits, (h.index_fits, (h.total_fits, h.bytes_fit)))))

-- ---- decided batches

abbrev make_proven : ℕ → Batch → List (SignedBy Ballot) → ProvenBatch
make_proven p b l = record { place = p; batch = b; accepts = l }

proven_is : (d : ProvenBatch) (p : ℕ) (b : Batch) → d.place ≡ p → d.batch ≡ b → make_proven p b d.accepts ≡ d
proven_is d p b e f = rw (← e, ← f) refl

pub proven_law : Law FitsProven proven_text proven_at
unfolding proven_at
proven_law =
    refit _ FitsProven proven_text proven_at
    (then_law (λ (d : ProvenBatch). d.place) (λ d. Unit {0}) IsCount (to_be_bytes w64) count_at _ _ _ count_law λ p is_p.
    then_law (λ (d : ProvenBatch). d.batch) (λ d. Unit {0} × (d.place ≡ p)) FitsBatch batch_text (batch_at requests) _ _ _ batch_law λ b is_b.
    last_law (λ (d : ProvenBatch). d.accepts) (λ d. (Unit {0} × (d.place ≡ p)) × (d.batch ≡ b))
    (FitsList (votes_of Accept) (λ signer. FitsVote Accept)) (listed (votes_of Accept)) (list_at (votes_of Accept))
    (λ l. make_proven p b l) (votes_law Accept)
    (λ l h. ((tt, refl), refl)) (λ l. refl) (λ d h. proven_is d p b h.0.1 h.1))
    (λ d h. record { place_fits = h.1.0; batch_fits = h.1.1.0; accepts_fit = h.1.1.1 })
    (λ d h. (tt, (h.place_fits, (h.batch_fits, h.accepts_fit))))
