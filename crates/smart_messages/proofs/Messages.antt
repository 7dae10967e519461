-- What is read is spelled so, and what is spelled so is read.
use Rattle.std.proofs.Common.{◌≡◌, ℕ, ◌+◌, ◌^◌, ◌<◌, ◌≤◌, ◌==◌, Bool, true, false, cond, eqb, leb, eq-eqb, ◌&&◌, map, List, [], ◌∷◌, ◌++◌, append-nil, length, Result, Ok, Err, refl, sym, ap, subst, ◌∙◌, arith}
use Rattle.std.specs.Prelude.{IfOk}
use Rattle.std.specs.Int.{w8, to_be_bytes}
use Rattle.std.proofs.lemmas.Bool.{eqb-true, eqb-false, leb-true}
use Rattle.smart_base.specs.FieldLaws.{and_true}
use Rattle.smart_base.specs.Cuts.{Cut, Read, IsBytes, ◌>>=◌, number_at, limited, GivesAll}
use Rattle.smart_base.specs.Spelling.{u8, member_kind, Spelled, Law}
use Rattle.smart_base.specs.declared.party.Party.TheVariants as parties
use Rattle.smart_base.specs.declared.fault.ReadError.{ReadError}
use Rattle.smart_base.specs.Laws.{bind_ok, bind_is, ok_is, spelled-bytes, spelled-then, spelled-front, spelled-back, middle, then_law, refit, ranged_law, limited_law, whole_takes, whole_again}
use Rattle.smart_base.specs.FieldLaws.{u8_law}
use Rattle.smart_statements.specs.Forms.{Form, SignedBy, party_of}
use Rattle.smart_statements.specs.Spelling.{signed, slot, vote_kind, FitsSigned, FitsProposal, FitsBallot, FitsAnswer, FitsRequest}
use Rattle.smart_statements.specs.Kinds.{proposals, ballots, answers, requests}
use Rattle.smart_statements.specs.Reading.{signed_at, batch_at}
use Rattle.smart_statements.specs.Batches.{batch_text, FitsBatch}
use Rattle.smart_statements.specs.SignedLists.{optional, FitsOptional, optional_at}
use Rattle.smart_statements.specs.SignedListLaws.{optional_law}
use Rattle.smart_statements.specs.Reports.{reports, FitsReport, marks, FitsMark, votes_of, FitsVote}
use Rattle.smart_statements.specs.declared.statement.Ballot.{Ballot}
use Rattle.smart_statements.specs.declared.report.Mark.{Mark}
use Rattle.smart_base.specs.Lists.{Each}
use Rattle.std.specs.List.{AllByRecursion}
use Rattle.smart_statements.specs.ReportLaws.{report_law, mark_law}
use Rattle.smart_statements.specs.declared.statement.VoteKind.{VoteKind}
use Rattle.smart_statements.specs.declared.statement.VoteKind.TheVariants.{Write, Accept}
use Rattle.transfer_form.specs.Transfers as transfers
use Rattle.transfer_form.specs.Transfers.{ask_text, FitsAsk, offer_text, FitsOffer, offer_at, part_text, FitsPart, part_at, proven_text, FitsProven, proven_at}
use Rattle.transfer_form.proofs.Transfers as laws
use Rattle.transfer_form.proofs.Transfers.{offer_law, part_law, proven_law}
use Rattle.smart_messages.specs.Regencies.{stops, FitsStop, syncs, FitsSync, view_infos, FitsViewInfo, stop_law, sync_law, view_info_law}
use Rattle.smart_messages.specs.Messages.{kind, content, spelling, FitsContent, Fits, ask_at, propose_at, vote_at, stop_message_at, stop_data_at, sync_message_at, decision_at, reply_at, mark_message_at, state_ask_at, state_offer_at, state_part_at, view_told_at, body_at, is_kind, message_kind_at, message_at, decoded, batch_in, decision_in, proof_in, Statement, Asked, Proposed, Voted, Stopped, Reported, Synced, Marked, Replied, Informed, sealed, sealed_of, own}
use Rattle.smart_messages.specs.declared.message.Sealed.{Sealed}
use Rattle.smart_messages.specs.declared.message.Message.{Message}
use Rattle.smart_messages.specs.declared.message.Message.TheVariants.{Ask, Propose, Vote, Reply}
use Rattle.smart_messages.specs.declared.message.Message.TheVariants as changes
use Rattle.smart_statements.specs.Statements.{request_law, proposal_law, ballot_law, answer_law, signed_law}
use Rattle.smart_statements.proofs.Batches.{ask_law, batch_law, start}
use Rattle.smart_statements.proofs.Branches.{picked}

-- ---- the parts of messages

head_law : Law (FitsSigned proposals (λ signer. FitsProposal)) (signed proposals) (signed_at proposals)
head_law = signed_law proposals (λ signer. FitsProposal) (omega arith) proposal_law

vote_law : Law (FitsSigned ballots (λ signer. FitsBallot)) (signed ballots) (signed_at ballots)
vote_law = signed_law ballots (λ signer. FitsBallot) (omega arith) ballot_law

reply_law : Law (FitsSigned answers (λ signer. FitsAnswer)) (signed answers) (signed_at answers)
reply_law = signed_law answers (λ signer. FitsAnswer) (omega arith) answer_law

stop_part : Law (FitsSigned stops (λ signer. FitsStop)) (signed stops) (signed_at stops)
stop_part = signed_law stops (λ signer. FitsStop) (omega arith) stop_law

report_part : Law (FitsSigned reports (λ signer. FitsReport)) (signed reports) (signed_at reports)
report_part = signed_law reports (λ signer. FitsReport) (omega arith) report_law

sync_part : Law (FitsSigned syncs (λ signer. FitsSync)) (signed syncs) (signed_at syncs)
sync_part = signed_law syncs (λ signer. FitsSync) (omega arith) sync_law

mark_part : Law (FitsSigned marks (λ signer. FitsMark)) (signed marks) (signed_at marks)
mark_part = signed_law marks (λ signer. FitsMark) (omega arith) mark_law

view_info_part : Law (FitsSigned view_infos (λ signer. FitsViewInfo)) (signed view_infos) (signed_at view_infos)
view_info_part = signed_law view_infos (λ signer. FitsViewInfo) (omega arith) view_info_law

batch_part : Law (FitsOptional FitsBatch) (optional batch_text) (optional_at (batch_at requests))
batch_part = optional_law FitsBatch batch_text (batch_at requests) batch_law

-- ---- messages, kind by kind

-- a message of this kind was read
abbrev IsTaken : ℕ → Cut → Message → Cut → Type 0
IsTaken k c m d = ((kind m ≡ k) × FitsContent m) × Spelled c (content m) d

ask_takes : (c : Cut) (y : Message × Cut) → IsBytes c.left → ask_at c ≡ Ok y → IsTaken 1 c y.0 y.1
unfolding ask_at
ask_takes c y bs e =
    let b = bind_ok (signed_at requests c) (λ a. Ok (Ask a.0, a.1)) y e in
    let t = ask_law.takes c b.0 bs b.1 in
    subst (λ (y : Message × Cut). IsTaken 1 c y.0 y.1) (ok_is (Ask b.0.0, b.0.1) y b.2) ((refl, t.0), t.1)

vote_takes : (c : Cut) (y : Message × Cut) → IsBytes c.left → vote_at c ≡ Ok y → IsTaken 3 c y.0 y.1
unfolding vote_at
vote_takes c y bs e =
    let b = bind_ok (signed_at ballots c) (λ a. Ok (Vote a.0, a.1)) y e in
    let t = vote_law.takes c b.0 bs b.1 in
    subst (λ (y : Message × Cut). IsTaken 3 c y.0 y.1) (ok_is (Vote b.0.0, b.0.1) y b.2) ((refl, t.0), t.1)

reply_takes : (c : Cut) (y : Message × Cut) → IsBytes c.left → reply_at c ≡ Ok y → IsTaken 8 c y.0 y.1
unfolding reply_at
reply_takes c y bs e =
    let b = bind_ok (signed_at answers c) (λ a. Ok (Reply a.0, a.1)) y e in
    let t = reply_law.takes c b.0 bs b.1 in
    subst (λ (y : Message × Cut). IsTaken 8 c y.0 y.1) (ok_is (Reply b.0.0, b.0.1) y b.2) ((refl, t.0), t.1)

propose_takes : (c : Cut) (y : Message × Cut) → IsBytes c.left → propose_at c ≡ Ok y → IsTaken 2 c y.0 y.1
unfolding propose_at
propose_takes c y bs e =
    let a = bind_ok (signed_at proposals c) (λ p. batch_at requests p.1 >>= λ b. Ok (Propose (record { head = p.0; batch = b.0 }), b.1)) y e in
    let b = bind_ok (batch_at requests a.0.1) (λ b. Ok (Propose (record { head = a.0.0; batch = b.0 }), b.1)) y a.2 in
    let t = head_law.takes c a.0 bs a.1 in
    let u = batch_law.takes a.0.1 b.0 (spelled-bytes c (signed proposals a.0.0) a.0.1 bs t.1) b.1 in
    subst (λ (y : Message × Cut). IsTaken 2 c y.0 y.1) (ok_is (Propose (record { head = a.0.0; batch = b.0.0 }), b.0.1) y b.2)
    ((refl, (t.0, u.0)), spelled-then c (signed proposals a.0.0) a.0.1 (batch_text b.0.0) b.0.1 t.1 u.1)

stop_takes : (c : Cut) (y : Message × Cut) → IsBytes c.left → stop_message_at c ≡ Ok y → IsTaken 4 c y.0 y.1
unfolding stop_message_at
stop_takes c y bs e =
    let b = bind_ok (signed_at stops c) (λ s. Ok (changes.Stop s.0, s.1)) y e in
    let t = stop_part.takes c b.0 bs b.1 in
    subst (λ (y : Message × Cut). IsTaken 4 c y.0 y.1) (ok_is (changes.Stop b.0.0, b.0.1) y b.2) ((refl, t.0), t.1)

stop_data_takes : (c : Cut) (y : Message × Cut) → IsBytes c.left → stop_data_at c ≡ Ok y → IsTaken 5 c y.0 y.1
unfolding stop_data_at
stop_data_takes c y bs e =
    let a = bind_ok (signed_at reports c)
    (λ r. optional_at (batch_at requests) r.1 >>= λ b. Ok (changes.StopData (record { head = r.0; batch = b.0 }), b.1)) y e in
    let b = bind_ok (optional_at (batch_at requests) a.0.1) (λ b. Ok (changes.StopData (record { head = a.0.0; batch = b.0 }), b.1)) y a.2 in
    let t = report_part.takes c a.0 bs a.1 in
    let u = batch_part.takes a.0.1 b.0 (spelled-bytes c (signed reports a.0.0) a.0.1 bs t.1) b.1 in
    subst (λ (y : Message × Cut). IsTaken 5 c y.0 y.1) (ok_is (changes.StopData (record { head = a.0.0; batch = b.0.0 }), b.0.1) y b.2)
    ((refl, (t.0, u.0)), spelled-then c (signed reports a.0.0) a.0.1 (optional batch_text b.0.0) b.0.1 t.1 u.1)

sync_takes : (c : Cut) (y : Message × Cut) → IsBytes c.left → sync_message_at c ≡ Ok y → IsTaken 6 c y.0 y.1
unfolding sync_message_at
sync_takes c y bs e =
    let b = bind_ok (signed_at syncs c) (λ s. Ok (changes.Sync s.0, s.1)) y e in
    let t = sync_part.takes c b.0 bs b.1 in
    subst (λ (y : Message × Cut). IsTaken 6 c y.0 y.1) (ok_is (changes.Sync b.0.0, b.0.1) y b.2) ((refl, t.0), t.1)

mark_takes : (c : Cut) (y : Message × Cut) → IsBytes c.left → mark_message_at c ≡ Ok y → IsTaken 9 c y.0 y.1
unfolding mark_message_at
mark_takes c y bs e =
    let b = bind_ok (signed_at marks c) (λ m. Ok (changes.Mark m.0, m.1)) y e in
    let t = mark_part.takes c b.0 bs b.1 in
    subst (λ (y : Message × Cut). IsTaken 9 c y.0 y.1) (ok_is (changes.Mark b.0.0, b.0.1) y b.2) ((refl, t.0), t.1)

decision_takes : (c : Cut) (y : Message × Cut) → IsBytes c.left → decision_at c ≡ Ok y → IsTaken 7 c y.0 y.1
unfolding decision_at
decision_takes c y bs e =
    let b = bind_ok (proven_at c) (λ d. Ok (changes.Decision d.0, d.1)) y e in
    let t = proven_law.takes c b.0 bs b.1 in
    subst (λ (y : Message × Cut). IsTaken 7 c y.0 y.1) (ok_is (changes.Decision b.0.0, b.0.1) y b.2) ((refl, t.0), t.1)

state_ask_takes : (c : Cut) (y : Message × Cut) → IsBytes c.left → state_ask_at c ≡ Ok y → IsTaken 10 c y.0 y.1
unfolding state_ask_at
state_ask_takes c y bs e =
    let b = bind_ok (transfers.ask_at c) (λ a. Ok (changes.StateAsk a.0, a.1)) y e in
    let t = laws.ask_law.takes c b.0 bs b.1 in
    subst (λ (y : Message × Cut). IsTaken 10 c y.0 y.1) (ok_is (changes.StateAsk b.0.0, b.0.1) y b.2) ((refl, t.0), t.1)

state_offer_takes : (c : Cut) (y : Message × Cut) → IsBytes c.left → state_offer_at c ≡ Ok y → IsTaken 11 c y.0 y.1
unfolding state_offer_at
state_offer_takes c y bs e =
    let b = bind_ok (offer_at c) (λ o. Ok (changes.StateOffer o.0, o.1)) y e in
    let t = offer_law.takes c b.0 bs b.1 in
    subst (λ (y : Message × Cut). IsTaken 11 c y.0 y.1) (ok_is (changes.StateOffer b.0.0, b.0.1) y b.2) ((refl, t.0), t.1)

state_part_takes : (c : Cut) (y : Message × Cut) → IsBytes c.left → state_part_at c ≡ Ok y → IsTaken 12 c y.0 y.1
unfolding state_part_at
state_part_takes c y bs e =
    let b = bind_ok (part_at c) (λ p. Ok (changes.StatePart p.0, p.1)) y e in
    let t = part_law.takes c b.0 bs b.1 in
    subst (λ (y : Message × Cut). IsTaken 12 c y.0 y.1) (ok_is (changes.StatePart b.0.0, b.0.1) y b.2) ((refl, t.0), t.1)

view_told_takes : (c : Cut) (y : Message × Cut) → IsBytes c.left → view_told_at c ≡ Ok y → IsTaken 13 c y.0 y.1
unfolding view_told_at
view_told_takes c y bs e =
    let b = bind_ok (signed_at view_infos c) (λ i. Ok (changes.ViewTold i.0, i.1)) y e in
    let t = view_info_part.takes c b.0 bs b.1 in
    subst (λ (y : Message × Cut). IsTaken 13 c y.0 y.1) (ok_is (changes.ViewTold b.0.0, b.0.1) y b.2) ((refl, t.0), t.1)

-- a kind from 1 to 13 that is none of the first twelve
last_of : (k : ℕ) → is_kind k ≡ true → eqb k 1 ≡ false → eqb k 2 ≡ false → eqb k 3 ≡ false → eqb k 4 ≡ false → eqb k 5 ≡ false → eqb k 6 ≡ false → eqb k 7 ≡ false → eqb k 8 ≡ false
    → eqb k 9 ≡ false → eqb k 10 ≡ false → eqb k 11 ≡ false → eqb k 12 ≡ false → k ≡ 13
last_of k known a b c d e f g h i j l m =
    let ends = and_true (leb 1 k) (leb k 13) known in
    omega (
      arith,
      leb-true 1 k ends.0,
      leb-true k 13 ends.1,
      eqb-false k 1 a,
      eqb-false k 2 b,
      eqb-false k 3 c,
      eqb-false k 4 d,
      eqb-false k 5 e,
      eqb-false k 6 f,
      eqb-false k 7 g,
      eqb-false k 8 h,
      eqb-false k 9 i,
      eqb-false k 10 j,
      eqb-false k 11 l,
      eqb-false k 12 m,
    )

body_takes : (k : ℕ) → is_kind k ≡ true → (c : Cut) (y : Message × Cut) → IsBytes c.left → body_at k c ≡ Ok y → IsTaken k c y.0 y.1
unfolding body_at
body_takes k known c y bs e =
    picked (eqb k 1) k 1 _ _ y refl e (λ same one. subst (λ (k : ℕ). IsTaken k c y.0 y.1) (sym same) (ask_takes c y bs one)) λ n1 e2.
    picked (eqb k 2) k 2 _ _ y refl e2 (λ same one. subst (λ (k : ℕ). IsTaken k c y.0 y.1) (sym same) (propose_takes c y bs one)) λ n2 e3.
    picked (eqb k 3) k 3 _ _ y refl e3 (λ same one. subst (λ (k : ℕ). IsTaken k c y.0 y.1) (sym same) (vote_takes c y bs one)) λ n3 e4.
    picked (eqb k 4) k 4 _ _ y refl e4 (λ same one. subst (λ (k : ℕ). IsTaken k c y.0 y.1) (sym same) (stop_takes c y bs one)) λ n4 e5.
    picked (eqb k 5) k 5 _ _ y refl e5 (λ same one. subst (λ (k : ℕ). IsTaken k c y.0 y.1) (sym same) (stop_data_takes c y bs one)) λ n5 e6.
    picked (eqb k 6) k 6 _ _ y refl e6 (λ same one. subst (λ (k : ℕ). IsTaken k c y.0 y.1) (sym same) (sync_takes c y bs one)) λ n6 e7.
    picked (eqb k 7) k 7 _ _ y refl e7 (λ same one. subst (λ (k : ℕ). IsTaken k c y.0 y.1) (sym same) (decision_takes c y bs one)) λ n7 e8.
    picked (eqb k 8) k 8 _ _ y refl e8 (λ same one. subst (λ (k : ℕ). IsTaken k c y.0 y.1) (sym same) (reply_takes c y bs one)) λ n8 e9.
    picked (eqb k 9) k 9 _ _ y refl e9 (λ same one. subst (λ (k : ℕ). IsTaken k c y.0 y.1) (sym same) (mark_takes c y bs one)) λ n9 e10.
    picked (eqb k 10) k 10 _ _ y refl e10 (λ same one. subst (λ (k : ℕ). IsTaken k c y.0 y.1) (sym same) (state_ask_takes c y bs one)) λ n10 e11.
    picked (eqb k 11) k 11 _ _ y refl e11 (λ same one. subst (λ (k : ℕ). IsTaken k c y.0 y.1) (sym same) (state_offer_takes c y bs one)) λ n11 e12.
    picked (eqb k 12) k 12 _ _ y refl e12 (λ same one. subst (λ (k : ℕ). IsTaken k c y.0 y.1) (sym same) (state_part_takes c y bs one)) λ n12 e13.
    subst (λ (k : ℕ). IsTaken k c y.0 y.1) (sym (last_of k known n1 n2 n3 n4 n5 n6 n7 n8 n9 n10 n11 n12)) (view_told_takes c y bs e13)

content_again : (c : Cut) (m : Message) (d : Cut) → FitsContent m → Spelled c (content m) d → body_at (kind m) c ≡ Ok (m, d)
unfolding body_at ask_at propose_at vote_at stop_message_at stop_data_at sync_message_at decision_at reply_at mark_message_at state_ask_at state_offer_at state_part_at view_told_at
content_again c (Ask a) d h s = bind_is (signed_at requests c) (λ a. Ok (Ask a.0, a.1)) (a, d) (ask_law.again c a d h s)
content_again c (Vote a) d h s = bind_is (signed_at ballots c) (λ a. Ok (Vote a.0, a.1)) (a, d) (vote_law.again c a d h s)
content_again c (Reply a) d h s = bind_is (signed_at answers c) (λ a. Ok (Reply a.0, a.1)) (a, d) (reply_law.again c a d h s)
content_again c (Propose p) d h s =
    let m = middle c (signed proposals p.head) (batch_text p.batch) d in
    bind_is (signed_at proposals c) (λ p. batch_at requests p.1 >>= λ b. Ok (Propose (record { head = p.0; batch = b.0 }), b.1)) (p.head, m)
    (head_law.again c p.head m h.0 (spelled-front c (signed proposals p.head) (batch_text p.batch) d s))
    ∙ bind_is (batch_at requests m) (λ b. Ok (Propose (record { head = p.head; batch = b.0 }), b.1)) (p.batch, d)
    (batch_law.again m p.batch d h.1 (spelled-back c (signed proposals p.head) (batch_text p.batch) d s))
content_again c (changes.Stop s) d h p = bind_is (signed_at stops c) (λ s. Ok (changes.Stop s.0, s.1)) (s, d) (stop_part.again c s d h p)
content_again c (changes.Sync s) d h p = bind_is (signed_at syncs c) (λ s. Ok (changes.Sync s.0, s.1)) (s, d) (sync_part.again c s d h p)
content_again c (changes.Mark m) d h p = bind_is (signed_at marks c) (λ m. Ok (changes.Mark m.0, m.1)) (m, d) (mark_part.again c m d h p)
content_again c (changes.Decision b) d h s = bind_is (proven_at c) (λ x. Ok (changes.Decision x.0, x.1)) (b, d) (proven_law.again c b d h s)
content_again c (changes.StateAsk a) d h s = bind_is (transfers.ask_at c) (λ x. Ok (changes.StateAsk x.0, x.1)) (a, d) (laws.ask_law.again c a d h s)
content_again c (changes.StateOffer o) d h s = bind_is (offer_at c) (λ x. Ok (changes.StateOffer x.0, x.1)) (o, d) (offer_law.again c o d h s)
content_again c (changes.StatePart p) d h s = bind_is (part_at c) (λ x. Ok (changes.StatePart x.0, x.1)) (p, d) (part_law.again c p d h s)
content_again c (changes.ViewTold i) d h s = bind_is (signed_at view_infos c) (λ i. Ok (changes.ViewTold i.0, i.1)) (i, d) (view_info_part.again c i d h s)
content_again c (changes.StopData r) d h p =
    let m = middle c (signed reports r.head) (optional batch_text r.batch) d in
    bind_is (signed_at reports c) (λ r. optional_at (batch_at requests) r.1 >>= λ b. Ok (changes.StopData (record { head = r.0; batch = b.0 }), b.1))
    (r.head, m)
    (report_part.again c r.head m h.0 (spelled-front c (signed reports r.head) (optional batch_text r.batch) d p))
    ∙ bind_is (optional_at (batch_at requests) m) (λ b. Ok (changes.StopData (record { head = r.head; batch = b.0 }), b.1)) (r.batch, d)
    (batch_part.again m r.batch d h.1 (spelled-back c (signed reports r.head) (optional batch_text r.batch) d p))

kind_fits : (m : Message) → (kind m < 2 ^ 8) × (is_kind (kind m) ≡ true)
kind_fits (Ask a) = (omega arith, refl)
kind_fits (Propose p) = (omega arith, refl)
kind_fits (Vote v) = (omega arith, refl)
kind_fits (changes.Stop s) = (omega arith, refl)
kind_fits (changes.StopData r) = (omega arith, refl)
kind_fits (changes.Sync s) = (omega arith, refl)
kind_fits (Reply s) = (omega arith, refl)
kind_fits (changes.Mark m) = (omega arith, refl)
kind_fits (changes.Decision d) = (omega arith, refl)
kind_fits (changes.StateAsk a) = (omega arith, refl)
kind_fits (changes.StateOffer o) = (omega arith, refl)
kind_fits (changes.StatePart p) = (omega arith, refl)
kind_fits (changes.ViewTold i) = (omega arith, refl)

body_law : (k : ℕ) → (k < 2 ^ 8) × (is_kind k ≡ true) → Law (λ m. (Unit {0} × (kind m ≡ k)) × FitsContent m) content (body_at k)
body_law k h = record {
  takes = λ c y bs e. let t = body_takes k h.1 c y bs e in (((tt, t.0.0), t.0.1), t.1);
  again = λ c m d fits s. subst (λ (k : ℕ). body_at k c ≡ Ok (m, d)) fits.0.1 (content_again c m d fits.1 s);
}

-- ---- messages

content_law : Law FitsContent spelling message_at
unfolding message_at spelling
content_law =
    refit _ FitsContent spelling message_at
    (then_law kind (λ m. Unit {0}) (λ n. (n < 2 ^ 8) × (is_kind n ≡ true)) (to_be_bytes w8) message_kind_at _ _ _
    (ranged_law (λ n. n < 2 ^ 8) (to_be_bytes w8) (number_at w8) is_kind u8_law) body_law)
    (λ m h. h.1.1) (λ m h. (tt, (kind_fits m, h)))

message_law : Law Fits spelling (limited 1048576 message_at)
message_law =
    refit _ Fits spelling (limited 1048576 message_at) (limited_law FitsContent spelling message_at 1048576 content_law)
    (λ m h. record { content_fits = h.0; bytes_fit = h.1 }) (λ m h. (h.content_fits, h.bytes_fit))

-- the bytes of a message are its spelling
pub decoded_is : (bytes : List ℕ) (m : Message) → IsBytes bytes → decoded bytes ≡ Ok m → Fits m × (bytes ≡ spelling m)
unfolding decoded
decoded_is bytes m bs e = whole_takes Fits spelling (limited 1048576 message_at) message_law (start bytes) m bs e

-- a spelling is the message's alone
pub spelling_is : (m : Message) → Fits m → decoded (spelling m) ≡ Ok m
unfolding decoded
spelling_is m fits = whole_again Fits spelling (limited 1048576 message_at) message_law (start (spelling m)) m fits refl

pub is_found : (bytes : List ℕ) (r : Result Message ReadError) → IsBytes bytes → GivesAll r (decoded bytes)
    → IfOk r (λ m. Fits m × (bytes ≡ spelling m))
is_found bytes (Ok m) bs given = decoded_is bytes m bs given
is_found bytes (Err e) bs given = tt

pub is_only : (bytes : List ℕ) (m : Message) → Fits m → bytes ≡ spelling m → decoded bytes ≡ Ok m
is_only bytes m fits e = subst (λ (b : List ℕ). decoded b ≡ Ok m) (sym e) (spelling_is m fits)

-- ---- statements that are alike are one

-- a text is one statement's of a kind
text_one : {A : Type 0} (fits : A → Type 0) (spell : A → List ℕ) (read : Cut → Read A) → Law fits spell read → (x y : A) → fits x → fits y → spell x ≡ spell y → x ≡ y
text_one {A} fits spell read law x y fx fy same =
    let c : Cut = record { at = 0; left = spell x } in
    let d : Cut = record { at = 0 + length (spell x); left = [] } in
    let one : read c ≡ Ok (x, d) = law.again c x d fx (record { left = sym (append-nil (spell x)); at = refl }) in
    let other : read c ≡ Ok (y, d) =
    law.again c y d fy (record { left = same ∙ sym (append-nil (spell y)); at = ap (λ (t : List ℕ). 0 + length t) same }) in
    let pairs : (x, d) ≡ (y, d) = cc in
    ap (λ (p : A × Cut). p.0) pairs

-- a party tells its number
party_one : (kind a b : ℕ) → party_of kind a ≡ party_of kind b → a ≡ b
party_one kind a b same = by (kind == member_kind) same
  where
    by : (t : Bool) → cond t (parties.Member a) (parties.Client a) ≡ cond t (parties.Member b) (parties.Client b) → a ≡ b
    by true same = cc
    by false same = cc

-- a seal is one statement's of a kind
sealed_one : {A : Type 0} (form : Form A) (fits : ℕ → A → Type 0) → ((signer : ℕ) → Law (fits signer) form.spell (form.read signer)) → (s t : SignedBy A) → fits s.signer s.statement
    → fits t.signer t.statement → sealed form s ≡ sealed form t → s ≡ t
sealed_one {A} form fits law s t fs ft same =
    let signer : s.signer ≡ t.signer = party_one form.kind s.signer t.signer (ap (λ (x : Sealed). x.who) same) in
    let statement : s.statement ≡ t.statement =
    text_one (fits t.signer) form.spell (form.read t.signer) (law t.signer) s.statement t.statement (subst (λ (i : ℕ). fits i s.statement) signer fs) ft (ap (λ (x : Sealed). x.text) same) in
    let tag : s.tag ≡ t.tag = ap (λ (x : Sealed). x.tag) same in
    ap (λ (i : ℕ). record { signer = i; statement = s.statement; tag = s.tag }) signer
    ∙ (ap (λ (x : A). record { signer = t.signer; statement = x; tag = s.tag }) statement
    ∙ ap (λ (bytes : List ℕ). record { signer = t.signer; statement = t.statement; tag = bytes }) tag)

-- the first byte of a text
first_of : List ℕ → ℕ
first_of [] = 0
first_of (x ∷ xs) = x

-- a first byte says of which kind a statement is; votes have two
number_by : ℕ → ℕ
number_by first = cond (first == 3) 2 first

number_of : Statement → ℕ
number_of (Asked q) = 9
number_of (Proposed p) = 1
number_of (Voted b) = 2
number_of (Stopped s) = 4
number_of (Reported r) = 5
number_of (Synced s) = 6
number_of (Marked m) = 7
number_of (Replied a) = 8
number_of (Informed i) = 10

vote_number : (kind : VoteKind) (rest : List ℕ) → number_by (first_of (u8 (vote_kind kind) ++ rest)) ≡ 2
unfolding number_by first_of
vote_number Write rest = refl
vote_number Accept rest = refl

number_is : (s : Statement) → number_by (first_of (sealed_of s).text) ≡ number_of s
unfolding number_by first_of number_of
number_is (Voted b) = vote_number b.statement.kind (slot b.statement.slot ++ b.statement.digest)
number_is _ = refl

numbers_same : (s t : Statement) → sealed_of s ≡ sealed_of t → number_of s ≡ number_of t
numbers_same s t same = sym (number_is s) ∙ (ap (λ (x : Sealed). number_by (first_of x.text)) same ∙ number_is t)

differ : (m n : ℕ) → (m == n) ≡ false → m ≡ n → ⊥
differ m n isnt same = let is = eq-eqb m n same in cc

-- a statement that has a spelling
abbrev pub FitsStatement : Statement → Type 0
FitsStatement (Asked q) = FitsRequest q.signer q.statement
FitsStatement (Proposed p) = FitsProposal p.statement
FitsStatement (Voted b) = FitsBallot b.statement
FitsStatement (Stopped s) = FitsStop s.statement
FitsStatement (Reported r) = FitsReport r.statement
FitsStatement (Synced s) = FitsSync s.statement
FitsStatement (Marked m) = FitsMark m.statement
FitsStatement (Replied a) = FitsAnswer a.statement
FitsStatement (Informed i) = FitsViewInfo i.statement

-- two that have one seal are one
pub one_seal : (s t : Statement) → FitsStatement s → FitsStatement t → sealed_of s ≡ sealed_of t → s ≡ t
unfolding number_of
one_seal (Asked q) (Asked q') fs ft same = ap Asked (sealed_one requests FitsRequest request_law q q' fs ft same)
one_seal (Proposed p) (Proposed p') fs ft same = ap Proposed (sealed_one proposals (λ signer. FitsProposal) proposal_law p p' fs ft same)
one_seal (Voted b) (Voted b') fs ft same = ap Voted (sealed_one ballots (λ signer. FitsBallot) ballot_law b b' fs ft same)
one_seal (Stopped s) (Stopped s') fs ft same = ap Stopped (sealed_one stops (λ signer. FitsStop) stop_law s s' fs ft same)
one_seal (Reported r) (Reported r') fs ft same = ap Reported (sealed_one reports (λ signer. FitsReport) report_law r r' fs ft same)
one_seal (Synced y) (Synced y') fs ft same = ap Synced (sealed_one syncs (λ signer. FitsSync) sync_law y y' fs ft same)
one_seal (Marked m) (Marked m') fs ft same = ap Marked (sealed_one marks (λ signer. FitsMark) mark_law m m' fs ft same)
one_seal (Replied a) (Replied a') fs ft same = ap Replied (sealed_one answers (λ signer. FitsAnswer) answer_law a a' fs ft same)
one_seal (Informed i) (Informed i') fs ft same = ap Informed (sealed_one view_infos (λ signer. FitsViewInfo) view_info_law i i' fs ft same)
one_seal s t fs ft same = absurd (differ (number_of s) (number_of t) refl (numbers_same s t same))

-- ---- what a message that is read states

marks_fit : (ms : List (SignedBy Mark)) → AllByRecursion (FitsSigned marks (λ signer. FitsMark)) ms → Each FitsStatement (map Marked ms)
marks_fit [] fits = tt
marks_fit (m ∷ ms) fits = (fits.0.statement_fits, marks_fit ms fits.1)

votes_fit : (bs : List (SignedBy Ballot)) → AllByRecursion (FitsSigned (votes_of Accept) (λ signer. FitsVote Accept)) bs → Each FitsStatement (map Voted bs)
votes_fit [] fits = tt
votes_fit (b ∷ bs) fits = (fits.0.statement_fits.ballot_fits, votes_fit bs fits.1)

-- what its sender states with a message that fits has a spelling
pub own_fits : (m : Message) → FitsContent m → Each FitsStatement (own m)
own_fits (Propose p) fits = (fits.0.statement_fits, tt)
own_fits (changes.StopData r) fits = (fits.0.statement_fits, tt)
own_fits (changes.Decision d) fits = tt
own_fits (changes.StateAsk a) fits = tt
own_fits (changes.StateOffer o) fits = marks_fit o.marks fits.marks_fit.1
own_fits (changes.StatePart p) fits = tt
own_fits _ fits = (fits.statement_fits, tt)

-- and so have the votes that it shows
pub proof_in_fits : (m : Message) → FitsContent m → Each FitsStatement (proof_in (decision_in m))
proof_in_fits (changes.Decision d) fits = votes_fit d.accepts fits.accepts_fit.1
proof_in_fits _ fits = tt

pub batch_in_fits : (m : Message) → FitsContent m → FitsOptional FitsBatch (batch_in m)
batch_in_fits (Propose p) fits = fits.1
batch_in_fits (changes.StopData r) fits = fits.1
batch_in_fits (changes.Decision d) fits = fits.batch_fits
batch_in_fits _ fits = tt
