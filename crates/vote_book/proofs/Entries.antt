-- What is read is spelled so, and what is spelled so is read.
use Rattle.std.proofs.Common.{◌≡◌, ℕ, ◌^◌, ◌<◌, ◌≤◌, true, false, eqb, ltb, leb, ◌&&◌, List, length, Option, Result, Ok, Err, refl, sym, subst, arith}
use Rattle.std.specs.Prelude.{IfOk}
use Rattle.std.specs.Int.{w8, w16, w32, w64, to_be_bytes}
use Rattle.std.proofs.lemmas.Bool.{eqb-false, ltb-true, lt-ltb, leb-true, le-leb}
use Rattle.smart_base.specs.Cuts.{Cut, Read, IsBytes, number_at, GivesAll}
use Rattle.smart_base.specs.Spelling.{IsCount, Spelled, Law}
use Rattle.smart_base.specs.Fields.{count_at, digest_at}
use Rattle.smart_base.specs.Views.{View, is_view}
use Rattle.smart_base.specs.ViewBytes.{view_text, first_place_at, view_at}
use Rattle.smart_base.specs.Laws.{bind_ok, bind_is, ok_is, then_law, last_law, refit, ranged_law, whole_takes, whole_again}
use Rattle.smart_base.specs.FieldLaws.{u8_law, u16_law, u32_law, u64_law, count_law, digest_law, and_true}
use Rattle.smart_base.specs.declared.fault.ReadError.{ReadError}
use Rattle.smart_base.proofs.ViewLaws.{view_law}
use Rattle.smart_statements.specs.Forms.{SignedBy}
use Rattle.smart_statements.specs.Kinds.{requests}
use Rattle.smart_statements.specs.Spelling.{slot, FitsSlot}
use Rattle.smart_statements.specs.Reading.{slot_at, batch_at}
use Rattle.smart_statements.specs.Batches.{Batch, batch_text, FitsBatch}
use Rattle.smart_statements.specs.Statements.{slot_law}
use Rattle.smart_statements.specs.SignedLists.{listed, FitsList, list_at, optional, FitsOptional, optional_at}
use Rattle.smart_statements.specs.SignedListLaws.{list_law, optional_law}
use Rattle.smart_statements.specs.Reports.{votes_of, FitsVote, marks, FitsMark}
use Rattle.smart_statements.specs.ReportLaws.{votes_law, mark_law}
use Rattle.smart_statements.specs.declared.statement.Slot.{Slot}
use Rattle.smart_statements.specs.declared.statement.VoteKind.TheVariants as votes
use Rattle.smart_statements.specs.declared.statement.Ballot.{Ballot}
use Rattle.smart_statements.specs.declared.report.Mark.{Mark}
use Rattle.smart_statements.proofs.Batches.{batch_law}
use Rattle.smart_statements.proofs.Branches.{picked}
use Rattle.vote_book.specs.Entries.{opening, FitsOpening, member_at, opening_at, write, FitsWrite, write_at, accept, FitsAccept, accept_at, promise, FitsPromise, promise_at, start, FitsStart, regency_start_at, decision, FitsDecision, decision_at, installation, FitsInstallation, installation_at, own_mark, own_mark_at, entry_kind, entry_content, entry_text, FitsEntry, read_as, content_at, entry_kind_at, entry_at, entry_decoded}
use Rattle.vote_book.specs.declared.entry.Opening.{Opening}
use Rattle.vote_book.specs.declared.entry.Write.{Write}
use Rattle.vote_book.specs.declared.entry.Accept.{Accept}
use Rattle.vote_book.specs.declared.entry.Promise.{Promise}
use Rattle.vote_book.specs.declared.entry.Start.{Start}
use Rattle.vote_book.specs.declared.entry.Decision.{Decision}
use Rattle.vote_book.specs.declared.entry.Installation.{Installation}
use Rattle.vote_book.specs.declared.entry.LogEntry.{LogEntry}
use Rattle.vote_book.specs.declared.entry.LogEntry.TheVariants.{Opened, Wrote, Accepted, Promised, Synced, Decided, Installed, Marked}

-- ---- openings

abbrev IsMember : ℕ → Type 0
IsMember n = (0 < n) × (n < 2 ^ 16)

member_law : Law IsMember (to_be_bytes w16) member_at
member_law =
    refit (λ n. (n < 2 ^ 16) × (ltb 0 n ≡ true)) IsMember (to_be_bytes w16) member_at
    (ranged_law (λ n. n < 2 ^ 16) (to_be_bytes w16) (number_at w16) (λ m. ltb 0 m) u16_law)
    (λ n h. (ltb-true 0 n h.1, h.0)) (λ n h. (h.1, lt-ltb 0 n h.0))

abbrev make_opening : ℕ → ℕ → View → Opening
make_opening m p v = record { member = m; period = p; view = v }

opening_is : (o : Opening) (m p : ℕ) → o.member ≡ m → o.period ≡ p → make_opening m p o.view ≡ o
opening_is o m p e f = rw (← e, ← f) refl

opening_law : Law FitsOpening opening opening_at
unfolding opening_at
opening_law =
    refit _ FitsOpening opening opening_at
    (then_law (λ (o : Opening). o.member) (λ o. Unit {0}) IsMember (to_be_bytes w16) member_at _ _ _ member_law λ m is_m.
    then_law (λ (o : Opening). o.period) (λ o. Unit {0} × (o.member ≡ m)) (λ n. n < 2 ^ 32) (to_be_bytes w32) (number_at w32) _ _ _ u32_law λ p is_p.
    last_law (λ (o : Opening). o.view) (λ o. (Unit {0} × (o.member ≡ m)) × (o.period ≡ p)) (λ v. is_view v ≡ true) view_text view_at
    (λ v. make_opening m p v) view_law
    (λ v h. ((tt, refl), refl)) (λ v. refl) (λ o h. opening_is o m p h.0.1 h.1))
    (λ o h. record { member_fits = h.1.0; period_fits = h.1.1.0; view_fits = h.1.1.1 })
    (λ o h. (tt, (h.member_fits, (h.period_fits, h.view_fits))))

-- ---- votes

abbrev make_write : Slot → List ℕ → Write
make_write s d = record { slot = s; digest = d }

write_is : (w : Write) (s : Slot) → w.slot ≡ s → make_write s w.digest ≡ w
write_is w s e = rw (← e) refl

write_law : Law FitsWrite write write_at
unfolding write_at
write_law =
    refit _ FitsWrite write write_at
    (then_law (λ (w : Write). w.slot) (λ w. Unit {0}) FitsSlot slot slot_at _ _ _ slot_law λ s is_s.
    last_law (λ (w : Write). w.digest) (λ w. Unit {0} × (w.slot ≡ s)) (λ t. length t ≡ 32) (λ t. t) digest_at
    (λ d. make_write s d) digest_law
    (λ d h. (tt, refl)) (λ d. refl) (λ w h. write_is w s h.1))
    (λ w h. record { slot_fits = h.1.0; digest_fits = h.1.1 })
    (λ w h. (tt, (h.slot_fits, h.digest_fits)))

abbrev make_accept : Slot → List ℕ → List (SignedBy Ballot) → Batch → Accept
make_accept s d w b = record { slot = s; digest = d; writes = w; batch = b }

accept_is : (a : Accept) (s : Slot) (d : List ℕ) (w : List (SignedBy Ballot)) → a.slot ≡ s → a.digest ≡ d → a.writes ≡ w → make_accept s d w a.batch ≡ a
accept_is a s d w e f g = rw (← e, ← f, ← g) refl

accept_law : Law FitsAccept accept accept_at
unfolding accept_at
accept_law =
    refit _ FitsAccept accept accept_at
    (then_law (λ (a : Accept). a.slot) (λ a. Unit {0}) FitsSlot slot slot_at _ _ _ slot_law λ s is_s.
    then_law (λ (a : Accept). a.digest) (λ a. Unit {0} × (a.slot ≡ s)) (λ t. length t ≡ 32) (λ t. t) digest_at _ _ _ digest_law λ d is_d.
    then_law (λ (a : Accept). a.writes) (λ a. (Unit {0} × (a.slot ≡ s)) × (a.digest ≡ d))
    (FitsList (votes_of votes.Write) (λ signer. FitsVote votes.Write)) (listed (votes_of votes.Write)) (list_at (votes_of votes.Write)) _ _ _
    (votes_law votes.Write) λ w is_w.
    last_law (λ (a : Accept). a.batch) (λ a. ((Unit {0} × (a.slot ≡ s)) × (a.digest ≡ d)) × (a.writes ≡ w)) FitsBatch batch_text (batch_at requests)
    (λ b. make_accept s d w b) batch_law
    (λ b h. (((tt, refl), refl), refl)) (λ b. refl) (λ a h. accept_is a s d w h.0.0.1 h.0.1 h.1))
    (λ a h. record { slot_fits = h.1.0; digest_fits = h.1.1.0; writes_fit = h.1.1.1.0; batch_fits = h.1.1.1.1 })
    (λ a h. (tt, (h.slot_fits, (h.digest_fits, (h.writes_fit, h.batch_fits)))))

-- ---- regencies

abbrev make_promise : ℕ → ℕ → Promise
make_promise v r = record { view = v; regency = r }

promise_is : (p : Promise) (v : ℕ) → p.view ≡ v → make_promise v p.regency ≡ p
promise_is p v e = rw (← e) refl

promise_law : Law FitsPromise promise promise_at
unfolding promise_at
promise_law =
    refit _ FitsPromise promise promise_at
    (then_law (λ (p : Promise). p.view) (λ p. Unit {0}) (λ n. n < 2 ^ 32) (to_be_bytes w32) (number_at w32) _ _ _ u32_law λ v is_v.
    last_law (λ (p : Promise). p.regency) (λ p. Unit {0} × (p.view ≡ v)) (λ n. n < 2 ^ 32) (to_be_bytes w32) (number_at w32)
    (λ r. make_promise v r) u32_law
    (λ r h. (tt, refl)) (λ r. refl) (λ p h. promise_is p v h.1))
    (λ p h. record { view_fits = h.1.0; regency_fits = h.1.1 })
    (λ p h. (tt, (h.view_fits, h.regency_fits)))

abbrev IsBase : ℕ → Type 0
IsBase n = (1 ≤ n) × (n ≤ 2 ^ 63)

base_law : Law IsBase (to_be_bytes w64) first_place_at
base_law =
    refit (λ n. (n < 2 ^ 64) × ((leb 1 n && leb n (2 ^ 63)) ≡ true)) IsBase (to_be_bytes w64) first_place_at
    (ranged_law (λ n. n < 2 ^ 64) (to_be_bytes w64) (number_at w64) (λ n. leb 1 n && leb n (2 ^ 63)) u64_law)
    (λ n h. let t = and_true (leb 1 n) (leb n (2 ^ 63)) h.1 in (leb-true 1 n t.0, leb-true n (2 ^ 63) t.1))
    (λ n h. (omega (arith, h.1), rw (le-leb 1 n h.0, le-leb n (2 ^ 63) h.1) refl))

bound_law : Law (FitsOptional (λ d. length d ≡ 32)) (optional (λ d. d)) (optional_at digest_at)
bound_law = optional_law (λ d. length d ≡ 32) (λ d. d) digest_at digest_law

abbrev make_start : ℕ → ℕ → ℕ → Option (List ℕ) → Start
make_start v r b d = record { view = v; regency = r; base = b; bound = d }

start_is : (s : Start) (v r b : ℕ) → s.view ≡ v → s.regency ≡ r → s.base ≡ b → make_start v r b s.bound ≡ s
start_is s v r b e f g = rw (← e, ← f, ← g) refl

start_law : Law FitsStart start regency_start_at
unfolding regency_start_at
start_law =
    refit _ FitsStart start regency_start_at
    (then_law (λ (s : Start). s.view) (λ s. Unit {0}) (λ n. n < 2 ^ 32) (to_be_bytes w32) (number_at w32) _ _ _ u32_law λ v is_v.
    then_law (λ (s : Start). s.regency) (λ s. Unit {0} × (s.view ≡ v)) (λ n. n < 2 ^ 32) (to_be_bytes w32) (number_at w32) _ _ _ u32_law λ r is_r.
    then_law (λ (s : Start). s.base) (λ s. (Unit {0} × (s.view ≡ v)) × (s.regency ≡ r)) IsBase (to_be_bytes w64) first_place_at _ _ _ base_law λ b is_b.
    last_law (λ (s : Start). s.bound) (λ s. ((Unit {0} × (s.view ≡ v)) × (s.regency ≡ r)) × (s.base ≡ b))
    (FitsOptional (λ d. length d ≡ 32)) (optional (λ d. d)) (optional_at digest_at)
    (λ d. make_start v r b d) bound_law
    (λ d h. (((tt, refl), refl), refl)) (λ d. refl) (λ s h. start_is s v r b h.0.0.1 h.0.1 h.1))
    (λ s h. record { view_fits = h.1.0; regency_fits = h.1.1.0; base_fits = h.1.1.1.0; bound_fits = h.1.1.1.1 })
    (λ s h. (tt, (h.view_fits, (h.regency_fits, (h.base_fits, h.bound_fits)))))

-- ---- decisions

abbrev make_decision : Slot → Batch → List (SignedBy Ballot) → Decision
make_decision s b a = record { slot = s; batch = b; accepts = a }

decision_is : (d : Decision) (s : Slot) (b : Batch) → d.slot ≡ s → d.batch ≡ b → make_decision s b d.accepts ≡ d
decision_is d s b e f = rw (← e, ← f) refl

decision_law : Law FitsDecision decision decision_at
unfolding decision_at
decision_law =
    refit _ FitsDecision decision decision_at
    (then_law (λ (d : Decision). d.slot) (λ d. Unit {0}) FitsSlot slot slot_at _ _ _ slot_law λ s is_s.
    then_law (λ (d : Decision). d.batch) (λ d. Unit {0} × (d.slot ≡ s)) FitsBatch batch_text (batch_at requests) _ _ _ batch_law λ b is_b.
    last_law (λ (d : Decision). d.accepts) (λ d. (Unit {0} × (d.slot ≡ s)) × (d.batch ≡ b))
    (FitsList (votes_of votes.Accept) (λ signer. FitsVote votes.Accept)) (listed (votes_of votes.Accept)) (list_at (votes_of votes.Accept))
    (λ a. make_decision s b a) (votes_law votes.Accept)
    (λ a h. ((tt, refl), refl)) (λ a. refl) (λ d h. decision_is d s b h.0.1 h.1))
    (λ d h. record { slot_fits = h.1.0; batch_fits = h.1.1.0; accepts_fit = h.1.1.1 })
    (λ d h. (tt, (h.slot_fits, (h.batch_fits, h.accepts_fit))))

-- ---- replicas

abbrev make_installation : ℕ → List ℕ → ℕ → List (SignedBy Mark) → Installation
make_installation p d v l = record { place = p; digest = d; view = v; marks = l }

installation_is : (i : Installation) (p : ℕ) (d : List ℕ) (v : ℕ) → i.place ≡ p → i.digest ≡ d → i.view ≡ v → make_installation p d v i.marks ≡ i
installation_is i p d v e f g = rw (← e, ← f, ← g) refl

installation_law : Law FitsInstallation installation installation_at
unfolding installation_at
installation_law =
    refit _ FitsInstallation installation installation_at
    (then_law (λ (i : Installation). i.place) (λ i. Unit {0}) IsCount (to_be_bytes w64) count_at _ _ _ count_law λ p is_p.
    then_law (λ (i : Installation). i.digest) (λ i. Unit {0} × (i.place ≡ p)) (λ t. length t ≡ 32) (λ t. t) digest_at _ _ _ digest_law λ d is_d.
    then_law (λ (i : Installation). i.view) (λ i. (Unit {0} × (i.place ≡ p)) × (i.digest ≡ d)) (λ n. n < 2 ^ 32) (to_be_bytes w32) (number_at w32) _ _ _
    u32_law λ v is_v.
    last_law (λ (i : Installation). i.marks) (λ i. ((Unit {0} × (i.place ≡ p)) × (i.digest ≡ d)) × (i.view ≡ v))
    (FitsList marks (λ signer. FitsMark)) (listed marks) (list_at marks)
    (λ l. make_installation p d v l) (list_law marks (λ signer. FitsMark) (omega arith) mark_law)
    (λ l h. (((tt, refl), refl), refl)) (λ l. refl) (λ i h. installation_is i p d v h.0.0.1 h.0.1 h.1))
    (λ i h. record { place_fits = h.1.0; digest_fits = h.1.1.0; view_fits = h.1.1.1.0; marks_fit = h.1.1.1.1 })
    (λ i h. (tt, (h.place_fits, (h.digest_fits, (h.view_fits, h.marks_fit)))))

abbrev make_mark : ℕ → List ℕ → Mark
make_mark p d = record { place = p; digest = d }

mark_is : (m : Mark) (p : ℕ) → m.place ≡ p → make_mark p m.digest ≡ m
mark_is m p e = rw (← e) refl

own_mark_law : Law FitsMark own_mark own_mark_at
unfolding own_mark_at
own_mark_law =
    refit _ FitsMark own_mark own_mark_at
    (then_law (λ (m : Mark). m.place) (λ m. Unit {0}) IsCount (to_be_bytes w64) count_at _ _ _ count_law λ p is_p.
    last_law (λ (m : Mark). m.digest) (λ m. Unit {0} × (m.place ≡ p)) (λ t. length t ≡ 32) (λ t. t) digest_at
    (λ d. make_mark p d) digest_law
    (λ d h. (tt, refl)) (λ d. refl) (λ m h. mark_is m p h.1))
    (λ m h. record { place_fits = h.1.0; digest_fits = h.1.1 })
    (λ m h. (tt, (h.place_fits, h.digest_fits)))

-- ---- entries, kind by kind

-- an entry of this kind was read
abbrev IsTaken : ℕ → Cut → LogEntry → Cut → Type 0
IsTaken k c e d = ((entry_kind e ≡ k) × FitsEntry e) × Spelled c (entry_content e) d

-- entries of this kind hold what fits and is spelled so
abbrev Holds : {A : Type 0} → ℕ → (A → LogEntry) → (A → Type 0) → (A → List ℕ) → Type 0
Holds {A = A} k entry fits spell = (c : Cut) (x : A) (d : Cut) → fits x → Spelled c (spell x) d → IsTaken k c (entry x) d

read_takes : {A : Type 0} (k : ℕ) (entry : A → LogEntry) (fits : A → Type 0) (spell : A → List ℕ) (read : Cut → Read A) → Law fits spell read
    → Holds k entry fits spell → (c : Cut) (y : LogEntry × Cut) → IsBytes c.left → read_as entry read c ≡ Ok y → IsTaken k c y.0 y.1
unfolding read_as
read_takes k entry fits spell read l holds c y bs e =
    let b = bind_ok (read c) (λ x. Ok (entry x.0, x.1)) y e in
    let t = l.takes c b.0 bs b.1 in
    subst (λ (y : LogEntry × Cut). IsTaken k c y.0 y.1) (ok_is (entry b.0.0, b.0.1) y b.2) (holds c b.0.0 b.0.1 t.0 t.1)

read_again : {A : Type 0} (entry : A → LogEntry) (fits : A → Type 0) (spell : A → List ℕ) (read : Cut → Read A) → Law fits spell read
    → (c : Cut) (x : A) (d : Cut) → fits x → Spelled c (spell x) d → read_as entry read c ≡ Ok (entry x, d)
unfolding read_as
read_again entry fits spell read l c x d h s = bind_is (read c) (λ x. Ok (entry x.0, x.1)) (x, d) (l.again c x d h s)

abbrev IsKind : ℕ → Type 0
IsKind k = (1 ≤ k) × (k ≤ 8)

-- a kind that is none of the others
last_kind : (k : ℕ) → IsKind k → eqb k 1 ≡ false → eqb k 2 ≡ false → eqb k 3 ≡ false → eqb k 4 ≡ false → eqb k 5 ≡ false → eqb k 6 ≡ false
    → eqb k 7 ≡ false → k ≡ 8
last_kind k h n1 n2 n3 n4 n5 n6 n7 =
    omega (arith, h.0, h.1, eqb-false k 1 n1, eqb-false k 2 n2, eqb-false k 3 n3, eqb-false k 4 n4, eqb-false k 5 n5, eqb-false k 6 n6, eqb-false k 7 n7)

content_takes : (k : ℕ) → IsKind k → (c : Cut) (y : LogEntry × Cut) → IsBytes c.left → content_at k c ≡ Ok y → IsTaken k c y.0 y.1
unfolding content_at
content_takes k known c y bs e =
    let here : (n : ℕ) → k ≡ n → IsTaken n c y.0 y.1 → IsTaken k c y.0 y.1 = λ n same t. subst (λ (k : ℕ). IsTaken k c y.0 y.1) (sym same) t in
    picked (eqb k 1) k 1 _ _ y refl e
    (λ same one. here 1 same (read_takes 1 Opened FitsOpening opening opening_at opening_law (λ c x d f s. ((refl, f), s)) c y bs one)) λ n1 e2.
    picked (eqb k 2) k 2 _ _ y refl e2
    (λ same one. here 2 same (read_takes 2 Wrote FitsWrite write write_at write_law (λ c x d f s. ((refl, f), s)) c y bs one)) λ n2 e3.
    picked (eqb k 3) k 3 _ _ y refl e3
    (λ same one. here 3 same (read_takes 3 Accepted FitsAccept accept accept_at accept_law (λ c x d f s. ((refl, f), s)) c y bs one)) λ n3 e4.
    picked (eqb k 4) k 4 _ _ y refl e4
    (λ same one. here 4 same (read_takes 4 Promised FitsPromise promise promise_at promise_law (λ c x d f s. ((refl, f), s)) c y bs one)) λ n4 e5.
    picked (eqb k 5) k 5 _ _ y refl e5
    (λ same one. here 5 same (read_takes 5 Synced FitsStart start regency_start_at start_law (λ c x d f s. ((refl, f), s)) c y bs one)) λ n5 e6.
    picked (eqb k 6) k 6 _ _ y refl e6
    (λ same one. here 6 same (read_takes 6 Decided FitsDecision decision decision_at decision_law (λ c x d f s. ((refl, f), s)) c y bs one)) λ n6 e7.
    picked (eqb k 7) k 7 _ _ y refl e7
    (λ same one. here 7 same (read_takes 7 Installed FitsInstallation installation installation_at installation_law (λ c x d f s. ((refl, f), s)) c y bs one))
    λ n7 e8.
    here 8 (last_kind k known n1 n2 n3 n4 n5 n6 n7)
    (read_takes 8 Marked FitsMark own_mark own_mark_at own_mark_law (λ c x d f s. ((refl, f), s)) c y bs e8)

content_again : (c : Cut) (e : LogEntry) (d : Cut) → FitsEntry e → Spelled c (entry_content e) d → content_at (entry_kind e) c ≡ Ok (e, d)
unfolding content_at
content_again c (Opened o) d h s = read_again Opened FitsOpening opening opening_at opening_law c o d h s
content_again c (Wrote w) d h s = read_again Wrote FitsWrite write write_at write_law c w d h s
content_again c (Accepted a) d h s = read_again Accepted FitsAccept accept accept_at accept_law c a d h s
content_again c (Promised p) d h s = read_again Promised FitsPromise promise promise_at promise_law c p d h s
content_again c (Synced b) d h s = read_again Synced FitsStart start regency_start_at start_law c b d h s
content_again c (Decided b) d h s = read_again Decided FitsDecision decision decision_at decision_law c b d h s
content_again c (Installed i) d h s = read_again Installed FitsInstallation installation installation_at installation_law c i d h s
content_again c (Marked m) d h s = read_again Marked FitsMark own_mark own_mark_at own_mark_law c m d h s

content_law : (k : ℕ) → IsKind k → Law (λ e. (Unit {0} × (entry_kind e ≡ k)) × FitsEntry e) entry_content (content_at k)
content_law k h = record {
  takes = λ c y bs e. let t = content_takes k h c y bs e in (((tt, t.0.0), t.0.1), t.1);
  again = λ c e d fits s. subst (λ (k : ℕ). content_at k c ≡ Ok (e, d)) fits.0.1 (content_again c e d fits.1 s);
}

kind_is : (e : LogEntry) → IsKind (entry_kind e)
kind_is (Opened o) = (omega arith, omega arith)
kind_is (Wrote w) = (omega arith, omega arith)
kind_is (Accepted a) = (omega arith, omega arith)
kind_is (Promised p) = (omega arith, omega arith)
kind_is (Synced s) = (omega arith, omega arith)
kind_is (Decided d) = (omega arith, omega arith)
kind_is (Installed i) = (omega arith, omega arith)
kind_is (Marked m) = (omega arith, omega arith)

entry_kind_law : Law IsKind (to_be_bytes w8) entry_kind_at
entry_kind_law =
    refit (λ n. (n < 2 ^ 8) × ((leb 1 n && leb n 8) ≡ true)) IsKind (to_be_bytes w8) entry_kind_at
    (ranged_law (λ n. n < 2 ^ 8) (to_be_bytes w8) (number_at w8) (λ k. leb 1 k && leb k 8) u8_law)
    (λ n h. let t = and_true (leb 1 n) (leb n 8) h.1 in (leb-true 1 n t.0, leb-true n 8 t.1))
    (λ n h. (omega (arith, h.1), rw (le-leb 1 n h.0, le-leb n 8 h.1) refl))

-- ---- entries

pub entry_law : Law FitsEntry entry_text entry_at
unfolding entry_at entry_text
entry_law =
    refit _ FitsEntry entry_text entry_at
    (then_law entry_kind (λ e. Unit {0}) IsKind (to_be_bytes w8) entry_kind_at _ _ _ entry_kind_law content_law)
    (λ e h. h.1.1) (λ e h. (tt, (kind_is e, h)))

abbrev begin : List ℕ → Cut
begin bytes = record { at = 0; left = bytes }

-- the bytes of an entry are its spelling
pub decoded_is : (bytes : List ℕ) (e : LogEntry) → IsBytes bytes → entry_decoded bytes ≡ Ok e → FitsEntry e × (bytes ≡ entry_text e)
unfolding entry_decoded
decoded_is bytes e bs given = whole_takes FitsEntry entry_text entry_at entry_law (begin bytes) e bs given

-- a spelling is the entry's alone
pub spelling_is : (e : LogEntry) → FitsEntry e → entry_decoded (entry_text e) ≡ Ok e
unfolding entry_decoded
spelling_is e fits = whole_again FitsEntry entry_text entry_at entry_law (begin (entry_text e)) e fits refl

pub is_found : (bytes : List ℕ) (r : Result LogEntry ReadError) → IsBytes bytes → GivesAll r (entry_decoded bytes)
    → IfOk r (λ e. FitsEntry e × (bytes ≡ entry_text e))
is_found bytes (Ok e) bs given = decoded_is bytes e bs given
is_found bytes (Err why) bs given = tt

pub is_only : (bytes : List ℕ) (e : LogEntry) → FitsEntry e → bytes ≡ entry_text e → entry_decoded bytes ≡ Ok e
is_only bytes e fits same = subst (λ (b : List ℕ). entry_decoded b ≡ Ok e) (sym same) (spelling_is e fits)
