-- The laws of the statements, field by field: what is read is what is spelled.
use Rattle.std.proofs.Common.{◌≡◌, ℕ, ◌+◌, ◌^◌, ◌<◌, ◌≤◌, Bool, true, false, eqb, leb, ◌||◌, List, length, refl, sym, ap, subst, ◌∙◌, arith}
use Rattle.std.specs.Int.{w8, w16, w32, w64, to_be_bytes}
use Rattle.std.proofs.lemmas.Bool.{eqb-true, leb-true, le-leb}
use Rattle.smart_base.specs.Cuts.{number_at, sized_at}
use Rattle.smart_base.specs.Spelling.{IsCount, IsTag, IsPayload, behind, Law}
use Rattle.smart_base.specs.Fields.{kind_at, same_at, count_at, digest_at, tag_at, payload_at}
use Rattle.smart_base.specs.Laws.{then_law, last_law, refit, ranged_law, sized_law}
use Rattle.smart_base.specs.FieldLaws.{u8_law, u16_law, u32_law, u64_law, kind_law, same_law, count_law, digest_law, tag_law, payload_law}
use Rattle.smart_base.specs.declared.limits.TheConstants.{PAYLOAD_BYTES}
use Rattle.smart_statements.specs.Forms.{Form, SignedBy, least_signer}
use Rattle.smart_statements.specs.Spelling.{slot, proposal, vote_kind, ballot, answer, request, signed, FitsSlot, FitsProposal, FitsBallot, FitsAnswer, FitsRequest, IsSigner, FitsSigned}
use Rattle.smart_statements.specs.Reading.{slot_at, proposal_at, vote_kind_of, vote_kind_at, ballot_at, answer_at, request_at, signer_at, signed_at}
use Rattle.smart_statements.specs.declared.statement.Slot.{Slot}
use Rattle.smart_statements.specs.declared.statement.VoteKind.{VoteKind}
use Rattle.smart_statements.specs.declared.statement.VoteKind.TheVariants.{Write, Accept}
use Rattle.smart_statements.specs.declared.statement.Request.{Request}
use Rattle.smart_statements.specs.declared.statement.Proposal.{Proposal}
use Rattle.smart_statements.specs.declared.statement.Ballot.{Ballot}
use Rattle.smart_statements.specs.declared.statement.Answer.{Answer}

-- ---- slots

abbrev make_slot : ℕ → ℕ → ℕ → Slot
make_slot v p r = record { view = v; place = p; regency = r }

slot_is : (s : Slot) (v p : ℕ) → s.view ≡ v → s.place ≡ p → make_slot v p s.regency ≡ s
slot_is s v p e f = rw (← e, ← f) refl

pub slot_law : Law FitsSlot slot slot_at
unfolding slot_at
slot_law =
    refit _ FitsSlot slot slot_at
    (then_law (λ (s : Slot). s.view) (λ s. Unit {0}) (λ n. n < 2 ^ 32) (to_be_bytes w32) (number_at w32) _ _ _ u32_law λ v is_v.
    then_law (λ (s : Slot). s.place) (λ s. Unit {0} × (s.view ≡ v)) IsCount (to_be_bytes w64) count_at _ _ _ count_law λ p is_p.
    last_law (λ (s : Slot). s.regency) (λ s. (Unit {0} × (s.view ≡ v)) × (s.place ≡ p)) (λ n. n < 2 ^ 32) (to_be_bytes w32) (number_at w32)
    (λ r. make_slot v p r) u32_law
    (λ r h. ((tt, refl), refl)) (λ r. refl) (λ s h. slot_is s v p h.0.1 h.1))
    (λ s h. record { view_fits = h.1.0; place_fits = h.1.1.0; regency_fits = h.1.1.1 })
    (λ s h. (tt, (h.view_fits, (h.place_fits, h.regency_fits))))

-- ---- proposals

abbrev make_proposal : Slot → List ℕ → Proposal
make_proposal s d = record { slot = s; digest = d }

proposal_is : (p : Proposal) (s : Slot) → p.slot ≡ s → make_proposal s p.digest ≡ p
proposal_is p s e = rw (← e) refl

pub proposal_law : (signer : ℕ) → Law FitsProposal proposal (proposal_at signer)
unfolding proposal_at
proposal_law signer =
    refit _ FitsProposal proposal (proposal_at signer)
    (then_law (λ (p : Proposal). 1) (λ p. Unit {0}) (λ n. (n ≡ 1) × (n < 2 ^ 8)) (to_be_bytes w8) (kind_at 1) _ _ _ (kind_law 1) λ k is_k.
    then_law (λ (p : Proposal). p.slot) (λ p. Unit {0} × (1 ≡ k)) FitsSlot slot slot_at _ _ _ slot_law λ s is_s.
    last_law (λ (p : Proposal). p.digest) (λ p. (Unit {0} × (1 ≡ k)) × (p.slot ≡ s)) (λ t. length t ≡ 32) (λ t. t) digest_at
    (λ d. make_proposal s d) digest_law
    (λ d h. ((tt, sym is_k.0), refl)) (λ d. refl) (λ p h. proposal_is p s h.1))
    (λ p h. record { slot_fits = h.1.1.0; digest_fits = h.1.1.1 })
    (λ p h. (tt, ((refl, omega arith), (h.slot_fits, h.digest_fits))))

pub proposal_small : (p : Proposal) → length p.digest ≡ 32 → length (proposal p) < 2 ^ 32
proposal_small p h = let long : length (proposal p) ≡ 17 + length p.digest = omega arith in omega (arith, long, h)

-- ---- votes

abbrev make_ballot : VoteKind → Slot → List ℕ → Ballot
make_ballot k s d = record { kind = k; slot = s; digest = d }

ballot_is : (b : Ballot) (k : VoteKind) (s : Slot) → b.kind ≡ k → b.slot ≡ s → make_ballot k s b.digest ≡ b
ballot_is b k s e f = rw (← e, ← f) refl

kind_read : (x : VoteKind) → vote_kind_of (vote_kind x) ≡ x
kind_read Write = refl
kind_read Accept = refl

kind_two : (x : VoteKind) → (eqb (vote_kind x) 2 || eqb (vote_kind x) 3) ≡ true
kind_two Write = refl
kind_two Accept = refl

kind_small : (x : VoteKind) → vote_kind x < 2 ^ 8
kind_small Write = omega arith
kind_small Accept = omega arith

kind_one : (a b : Bool) (k : ℕ) → eqb k 2 ≡ a → eqb k 3 ≡ b → (a || b) ≡ true → vote_kind (vote_kind_of k) ≡ k
kind_one true b k p q e = subst (λ (n : ℕ). vote_kind (vote_kind_of n) ≡ n) (sym (eqb-true k 2 p)) refl
kind_one false true k p q e = subst (λ (n : ℕ). vote_kind (vote_kind_of n) ≡ n) (sym (eqb-true k 3 q)) refl
kind_one false false k p q e = absurd cc

kind_spelled : (k : ℕ) → (eqb k 2 || eqb k 3) ≡ true → vote_kind (vote_kind_of k) ≡ k
kind_spelled k e = kind_one (eqb k 2) (eqb k 3) k refl refl e

pub ballot_law : (signer : ℕ) → Law FitsBallot ballot (ballot_at signer)
unfolding ballot_at
ballot_law signer =
    refit _ FitsBallot ballot (ballot_at signer)
    (then_law (λ (b : Ballot). vote_kind b.kind) (λ b. Unit {0}) (λ n. (n < 2 ^ 8) × ((eqb n 2 || eqb n 3) ≡ true))
    (to_be_bytes w8) vote_kind_at _ _ _
    (ranged_law (λ n. n < 2 ^ 8) (to_be_bytes w8) (number_at w8) (λ b. eqb b 2 || eqb b 3) u8_law) λ k is_k.
    then_law (λ (b : Ballot). b.slot) (λ b. Unit {0} × (vote_kind b.kind ≡ k)) FitsSlot slot slot_at _ _ _ slot_law λ s is_s.
    last_law (λ (b : Ballot). b.digest) (λ b. (Unit {0} × (vote_kind b.kind ≡ k)) × (b.slot ≡ s)) (λ t. length t ≡ 32) (λ t. t) digest_at
    (λ d. make_ballot (vote_kind_of k) s d) digest_law
    (λ d h. ((tt, kind_spelled k is_k.1), refl)) (λ d. refl)
    (λ b h. ballot_is b (vote_kind_of k) s (sym (kind_read b.kind) ∙ ap vote_kind_of h.0.1) h.1))
    (λ b h. record { slot_fits = h.1.1.0; digest_fits = h.1.1.1 })
    (λ b h. (tt, ((kind_small b.kind, kind_two b.kind), (h.slot_fits, h.digest_fits))))

pub ballot_small : (b : Ballot) → length b.digest ≡ 32 → length (ballot b) < 2 ^ 32
ballot_small b h = let long : length (ballot b) ≡ 17 + length b.digest = omega arith in omega (arith, long, h)

-- ---- replies

abbrev make_answer : ℕ → ℕ → ℕ → ℕ → ℕ → List ℕ → Answer
make_answer v p x i s r = record { view = v; place = p; index = x; client = i; seq = s; reply = r }

answer_is : (a : Answer) (v p x i s : ℕ) → a.view ≡ v → a.place ≡ p → a.index ≡ x → a.client ≡ i → a.seq ≡ s → make_answer v p x i s a.reply ≡ a
answer_is a v p x i s e f g j l = rw (← e, ← f, ← g, ← j, ← l) refl

pub answer_law : (signer : ℕ) → Law FitsAnswer answer (answer_at signer)
unfolding answer_at
answer_law signer =
    refit _ FitsAnswer answer (answer_at signer)
    (then_law (λ (a : Answer). 8) (λ a. Unit {0}) (λ n. (n ≡ 8) × (n < 2 ^ 8)) (to_be_bytes w8) (kind_at 8) _ _ _ (kind_law 8) λ k is_k.
    then_law (λ (a : Answer). a.view) (λ a. Unit {0} × (8 ≡ k)) (λ n. n < 2 ^ 32) (to_be_bytes w32) (number_at w32) _ _ _ u32_law λ v is_v.
    then_law (λ (a : Answer). a.place) (λ a. (Unit {0} × (8 ≡ k)) × (a.view ≡ v)) IsCount (to_be_bytes w64) count_at _ _ _ count_law λ p is_p.
    then_law (λ (a : Answer). a.index) (λ a. ((Unit {0} × (8 ≡ k)) × (a.view ≡ v)) × (a.place ≡ p)) (λ n. n < 2 ^ 16) (to_be_bytes w16)
    (number_at w16) _ _ _
    u16_law λ x is_x.
    then_law (λ (a : Answer). a.client) (λ a. (((Unit {0} × (8 ≡ k)) × (a.view ≡ v)) × (a.place ≡ p)) × (a.index ≡ x)) (λ n. n < 2 ^ 16)
    (to_be_bytes w16)
    (number_at w16) _ _ _ u16_law λ i is_i.
    then_law (λ (a : Answer). a.seq) (λ a. ((((Unit {0} × (8 ≡ k)) × (a.view ≡ v)) × (a.place ≡ p)) × (a.index ≡ x)) × (a.client ≡ i)) IsCount
    (to_be_bytes w64) count_at _ _ _ count_law λ s is_s.
    last_law (λ (a : Answer). a.reply)
    (λ a. (((((Unit {0} × (8 ≡ k)) × (a.view ≡ v)) × (a.place ≡ p)) × (a.index ≡ x)) × (a.client ≡ i)) × (a.seq ≡ s)) IsPayload
    (behind w32) payload_at
    (λ r. make_answer v p x i s r) payload_law
    (λ r h. ((((((tt, sym is_k.0), refl), refl), refl), refl), refl)) (λ r. refl)
    (λ a h. answer_is a v p x i s h.0.0.0.0.1 h.0.0.0.1 h.0.0.1 h.0.1 h.1))
    (λ a h. record {
      view_fits = h.1.1.0;
      place_fits = h.1.1.1.0;
      index_fits = h.1.1.1.1.0;
      client_fits = h.1.1.1.1.1.0;
      seq_fits = h.1.1.1.1.1.1.0;
      reply_fits = h.1.1.1.1.1.1.1;
    })
    (λ a h. (tt, ((refl, omega arith), (h.view_fits, (h.place_fits, (h.index_fits, (h.client_fits, (h.seq_fits, h.reply_fits))))))))

pub answer_small : (a : Answer) → length a.reply ≤ PAYLOAD_BYTES → length (answer a) < 2 ^ 32
answer_small a h = let long : length (answer a) ≡ 29 + length a.reply = omega arith in omega (arith, long, h)

-- ---- requests

abbrev make_request : ℕ → ℕ → ℕ → List ℕ → Request
make_request i s a o = record { client = i; seq = s; after = a; op = o }

request_is : (r : Request) (i s a : ℕ) → r.client ≡ i → r.seq ≡ s → r.after ≡ a → make_request i s a r.op ≡ r
request_is r i s a p q t = rw (← p, ← q, ← t) refl

pub request_law : (signer : ℕ) → Law (FitsRequest signer) request (request_at signer)
unfolding request_at
request_law signer =
    refit _ (FitsRequest signer) request (request_at signer)
    (then_law (λ (r : Request). 9) (λ r. Unit {0}) (λ n. (n ≡ 9) × (n < 2 ^ 8)) (to_be_bytes w8) (kind_at 9) _ _ _ (kind_law 9) λ k is_k.
    then_law (λ (r : Request). r.client) (λ r. Unit {0} × (9 ≡ k)) (λ n. (n ≡ signer) × (n < 2 ^ 16)) (to_be_bytes w16) (same_at signer) _ _ _
    (same_law signer) λ i is_i.
    then_law (λ (r : Request). r.seq) (λ r. (Unit {0} × (9 ≡ k)) × (r.client ≡ i)) IsCount (to_be_bytes w64) count_at _ _ _ count_law λ s is_s.
    then_law (λ (r : Request). r.after) (λ r. ((Unit {0} × (9 ≡ k)) × (r.client ≡ i)) × (r.seq ≡ s)) (λ n. n < 2 ^ 64) (to_be_bytes w64)
    (number_at w64) _ _ _
    u64_law λ a is_a.
    last_law (λ (r : Request). r.op) (λ r. (((Unit {0} × (9 ≡ k)) × (r.client ≡ i)) × (r.seq ≡ s)) × (r.after ≡ a)) IsPayload (behind w32) payload_at
    (λ o. make_request i s a o) payload_law
    (λ o h. ((((tt, sym is_k.0), refl), refl), refl)) (λ o. refl) (λ r h. request_is r i s a h.0.0.1 h.0.1 h.1))
    (λ r h. record {
      client_is = h.1.1.0.0;
      client_fits = h.1.1.0.1;
      seq_fits = h.1.1.1.0;
      after_fits = h.1.1.1.1.0;
      op_fits = h.1.1.1.1.1;
    })
    (λ r h. (tt, ((refl, omega arith), ((h.client_is, h.client_fits), (h.seq_fits, (h.after_fits, h.op_fits))))))

pub request_small : (r : Request) → length r.op ≤ PAYLOAD_BYTES → length (request r) < 2 ^ 32
request_small r h = let long : length (request r) ≡ 23 + length r.op = omega arith in omega (arith, long, h)

-- ---- signed statements, of any kind

signer_law : (kind : ℕ) → Law (IsSigner kind) (to_be_bytes w16) (signer_at kind)
signer_law kind =
    refit (λ n. (n < 2 ^ 16) × (leb (least_signer kind) n ≡ true)) (IsSigner kind) (to_be_bytes w16) (signer_at kind)
    (ranged_law (λ n. n < 2 ^ 16) (to_be_bytes w16) (number_at w16) (λ n. leb (least_signer kind) n) u16_law)
    (λ n h. (leb-true (least_signer kind) n h.1, h.0)) (λ n h. (h.1, le-leb (least_signer kind) n h.0))

abbrev make_signed : {S : Type 0} → ℕ → S → List ℕ → SignedBy S
make_signed i s t = record { signer = i; statement = s; tag = t }

signed_is : {S : Type 0} (a : SignedBy S) (i : ℕ) (s : S) → a.signer ≡ i → a.statement ≡ s → make_signed i s a.tag ≡ a
signed_is a i s p q = rw (← p, ← q) refl

pub signed_law : {S : Type 0} (f : Form S) (fits : ℕ → S → Type 0) → f.kind < 2 ^ 8 → ((signer : ℕ) → Law (fits signer) f.spell (f.read signer))
    → Law (FitsSigned f fits) (signed f) (signed_at f)
unfolding signed_at
signed_law {S = S} f fits small law =
    refit _ (FitsSigned f fits) (signed f) (signed_at f)
    (then_law (λ (a : SignedBy S). f.kind) (λ a. Unit {0}) (λ n. (n ≡ f.kind) × (n < 2 ^ 8)) (to_be_bytes w8) (kind_at f.kind) _ _ _
    (kind_law f.kind) λ k is_k.
    then_law (λ (a : SignedBy S). a.signer) (λ a. Unit {0} × (f.kind ≡ k)) (IsSigner f.kind) (to_be_bytes w16) (signer_at f.kind)
    (λ a. (fits a.signer a.statement × (length (f.spell a.statement) < 2 ^ 32)) × IsTag a.tag) _ _ (signer_law f.kind) λ i is_i.
    refit _ (λ a. ((Unit {0} × (f.kind ≡ k)) × (a.signer ≡ i)) × ((fits a.signer a.statement × (length (f.spell a.statement) < 2 ^ 32)) × IsTag a.tag)) _ _
    (then_law (λ (a : SignedBy S). a.statement) (λ a. (Unit {0} × (f.kind ≡ k)) × (a.signer ≡ i)) (λ s. fits i s × (length (f.spell s) < 2 ^ 32))
    (λ s. behind w32 (f.spell s)) (sized_at (f.read i)) _ _ _ (sized_law (fits i) f.spell (f.read i) (law i)) λ s is_s.
    last_law (λ (a : SignedBy S). a.tag) (λ a. ((Unit {0} × (f.kind ≡ k)) × (a.signer ≡ i)) × (a.statement ≡ s)) IsTag (behind w16) tag_at
    (λ t. make_signed i s t) tag_law
    (λ t h. (((tt, sym is_k.0), refl), refl)) (λ t. refl) (λ a h. signed_is a i s h.0.1 h.1))
    (λ a h. (h.0, ((subst (λ (i : ℕ). fits i a.statement) (sym h.0.1) h.1.0.0, h.1.0.1), h.1.1)))
    (λ a h. (h.0, ((subst (λ (i : ℕ). fits i a.statement) h.0.1 h.1.0.0, h.1.0.1), h.1.1))))
    (λ a h. record { signer_fits = h.1.1.0; statement_fits = h.1.1.1.0.0; text_fits = h.1.1.1.0.1; tag_fits = h.1.1.1.1 })
    (λ a h. (tt, ((refl, small), (h.signer_fits, ((h.statement_fits, h.text_fits), h.tag_fits)))))
