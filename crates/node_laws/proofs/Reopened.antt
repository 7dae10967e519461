-- What a sound book makes, and what a node is that goes on from entries.
use Rattle.std.proofs.Common.{append-nil, List, None, Option, Some, ap, arith, inl, length, nat_le, nat_lt, refl, subst, suc, sym, true, zero, ℕ, ⊎_elim, ◌≡◌, ◌≤◌, ◌<◌, ◌∙◌, ◌+◌, ◌++◌, ◌∷◌, [], ◌&&◌, append_assoc}
use Rattle.std.proofs.lemmas.Bool.{ltb-true}
use Rattle.std.specs.List.{list_all}
use Rattle.replica_rules.specs.Replicas.{after_batches, delivered}
use Rattle.replica_rules.specs.Seals.{digest_of, fits, is_alone, is_verified, request_fits}
use Rattle.replica_rules.proofs.Places.{state_place}
use Rattle.agreement_laws.specs.Statements.{Statement}
use Rattle.agreement_laws.proofs.Lists.{among_right, each_among}
use Rattle.node_rules.specs.Arrivals.{is_batch_for}
use Rattle.node_rules.specs.Nodes.{Node}
use Rattle.node_rules.specs.Reopening.{decided_of, reopened, stopped, takes_all_back, takes_back}
use Rattle.node_rules.specs.Steps.{Outset, outset}
use Rattle.smart_base.specs.Lists.{same_bytes}
use Rattle.smart_base.specs.Views.{View}
use Rattle.smart_base.proofs.SameLists.{and_true}
use Rattle.smart_statements.specs.Kinds.{requests}
use Rattle.smart_statements.specs.Batches.{Batch, batch_text}
use Rattle.smart_service.specs.Services.{Meaning}
use Rattle.smart_service.specs.declared.replica.Replica.{Replica}
use Rattle.vote_book.proofs.Locks.{made_most}
use Rattle.vote_book.proofs.Tested.{latest_has, none_zero}
use Rattle.vote_book.specs.Books.{Among, Follows, last_made, latest_made, place_made}
use Rattle.vote_book.specs.declared.entry.Decision.{Decision}
use Rattle.vote_book.specs.declared.entry.LogEntry.{LogEntry}
use Rattle.vote_book.specs.declared.entry.LogEntry.TheVariants.{Accepted, Decided, Installed, Marked, Opened, Promised, Synced, Wrote}
use Rattle.book_laws.specs.BookCuts.{InstallUpTo}
use Rattle.book_laws.proofs.CutLawful.{cut_lawful}
use Rattle.book_laws.proofs.Lists.{split_at}
use Rattle.book_laws.proofs.Places.{rising}
use Rattle.node_laws.proofs.InTurn.{InTurn, TurnAt, all_in_turn}
use Rattle.node_laws.proofs.Restored.{decided_append, front_of}
use Rattle.node_laws.proofs.Votes.{place_of_some}
use Rattle.node_laws.specs.Restored.{IsSoundBook}
use Rattle.node_laws.specs.Sound.{HasBatch, place_if}

-- ---- the place of a decision

-- a batch stands at no place before the first
some_batch : (secret : List ℕ) (place : ℕ) (batch : Batch) → nat_le 1 (length batch) ≡ true → list_all (request_fits secret place) batch ≡ true → 0 < place
some_batch secret place [] one all = absurd (cc)
some_batch secret place (q ∷ qs) one all =
    let first = and_true (request_fits secret place q) (list_all (request_fits secret place) qs) all in
    let limits = and_true (nat_le q.statement.client 1024 && nat_lt q.statement.after place) (is_verified requests secret q) first.0 in
    let after = ltb-true q.statement.after place (and_true (nat_le q.statement.client 1024) (nat_lt q.statement.after place) limits.0).1 in
    omega (arith, after)

some_fits : (secret : List ℕ) (place : ℕ) (batch : Batch) → fits secret batch place ≡ true → 0 < place
unfolding fits
some_fits secret place batch is =
    let front = and_true (nat_le 1 (length batch) && nat_le (length batch) 64 && nat_le (length (batch_text batch)) 262144 && list_all (request_fits secret place) batch)
    (is_alone batch) is in
    let all = and_true (nat_le 1 (length batch) && nat_le (length batch) 64 && nat_le (length (batch_text batch)) 262144) (list_all (request_fits secret place) batch) front.0 in
    let sizes = and_true (nat_le 1 (length batch) && nat_le (length batch) 64) (nat_le (length (batch_text batch)) 262144) all.0 in
    some_batch secret place batch (and_true (nat_le 1 (length batch)) (nat_le (length batch) 64) sizes.0).0 all.1

pub some_place : (secret : List ℕ) (place : ℕ) (digest : List ℕ) (batch : Batch) → is_batch_for secret place digest batch ≡ true → 0 < place
unfolding is_batch_for
some_place secret place digest batch is =
    some_fits secret place batch (and_true (fits secret batch place) (same_bytes (digest_of batch) digest) is).0

next_of : (k place : ℕ) → Follows 0 (place_if k) place → 0 < place → place ≡ k + 1
next_of zero place follows some = omega (arith, follows, some)
next_of (suc k) place follows some = omega (arith, follows)

-- ---- the places that a sound book makes

-- each place that is made is past 0
made_some : (secret : List ℕ) (stated : List Statement) (views : List View) (entries : List LogEntry) (e : LogEntry) (k : ℕ) → IsSoundBook secret stated views entries → Among e entries → place_made e ≡ Some k → 0 < k
made_some secret stated views entries (Decided d) k book there made =
    let has = each_among (HasBatch secret stated) entries (Decided d) book.batches there in
    let same : d.slot.place ≡ k = cc in
    subst (λ (p : ℕ). 0 < p) same (some_place secret d.slot.place (digest_of d.batch) d.batch has.may)
made_some secret stated views entries (Installed i) k book there made =
    let s = split_at entries (Installed i) there in
    let same : i.place ≡ k = cc in
    subst (λ (p : ℕ). 0 < p) same (book.ranged s.before (Installed i) s.after s.is).within.some
made_some secret stated views entries (Opened o) k book there made = absurd (cc)
made_some secret stated views entries (Wrote w) k book there made = absurd (cc)
made_some secret stated views entries (Accepted a) k book there made = absurd (cc)
made_some secret stated views entries (Promised p) k book there made = absurd (cc)
made_some secret stated views entries (Synced s) k book there made = absurd (cc)
made_some secret stated views entries (Marked m) k book there made = absurd (cc)

-- the latest place that is made is the last
pub latest_is : (secret : List ℕ) (stated : List Statement) (views : List View) (entries : List LogEntry) → IsSoundBook secret stated views entries → latest_made entries ≡ place_if (last_made entries)
latest_is secret stated views entries book = by (latest_made entries) refl
  where
    by : (o : Option ℕ) → latest_made entries ≡ o → o ≡ place_if (last_made entries)
    by None is = ap place_if (sym (none_zero entries is))
    by (Some n) is =
        let has = latest_has entries n is in
        let most : last_made entries ≤ n = rising entries book.lawful n is in
        let least : n ≤ last_made entries = made_most entries n has in
        let some : 0 < n = made_some secret stated views entries has.entry n book has.there has.made in
        let same : n ≡ last_made entries = omega (arith, most, least) in
        ap (λ (k : ℕ). Some k) same ∙ sym (place_of_some (last_made entries) (omega (arith, some, same)))

-- places are decided one after the other, each behind the last that is made
pub in_turn : (secret : List ℕ) (stated : List Statement) (views : List View) (before : List LogEntry) (d : Decision) (after : List LogEntry)
    → IsSoundBook secret stated views (before ++ Decided d ∷ after) → d.slot.place ≡ last_made before + 1
in_turn secret stated views before d after book =
    let front : IsSoundBook secret stated views before = front_of secret stated views before (Decided d ∷ after) book in
    let admits : Follows 0 (latest_made before) d.slot.place = book.lawful before (Decided d) after refl in
    let has : HasBatch secret stated (Decided d) =
    each_among (HasBatch secret stated) (before ++ Decided d ∷ after) (Decided d) book.batches (among_right (Decided d) before (Decided d ∷ after) (inl refl)) in
    next_of (last_made before) d.slot.place (subst (λ (o : Option ℕ). Follows 0 o d.slot.place) (latest_is secret stated views before front) admits)
    (some_place secret d.slot.place (digest_of d.batch) d.batch has.may)

-- ---- all of them

pub after_append : {S : Type 0} (m : Meaning S) (r : Replica S) (xs ys : List Batch) → after_batches m (after_batches m r xs) ys ≡ after_batches m r (xs ++ ys)
after_append m r [] ys = refl
after_append m r (x ∷ xs) ys = after_append m (delivered m r x) xs ys

after_one : {S : Type 0} (m : Meaning S) (past : ℕ) (r : Replica S) (e : LogEntry) (es : List LogEntry)
    → after_batches m (after_batches m r (decided_of past (e ∷ []))) (decided_of past es) ≡ after_batches m r (decided_of past (e ∷ es))
after_one m past r e es =
    after_append m r (decided_of past (e ∷ [])) (decided_of past es) ∙ ap (λ (bs : List Batch). after_batches m r bs) (sym (decided_append past (e ∷ []) es))

with_book : {S : Type 0} → Node S → List LogEntry → Replica S → Node S
with_book n entries replica = record n { entries = entries; replica = replica }

-- what is taken back is the book, and the replica behind its decisions
all_back_is : {S : Type 0} (m : Meaning S) (past : ℕ) (n : Node S) (es : List LogEntry)
    → takes_all_back m past n es ≡ with_book n (n.entries ++ es) (after_batches m n.replica (decided_of past es))
unfolding with_book
all_back_is m past n [] = ap (λ (xs : List LogEntry). record n { entries = xs }) (sym (append-nil n.entries))
all_back_is {S = S} m past n (e ∷ es) =
    all_back_is m past (takes_back m past n e) es
    ∙ (ap (λ (xs : List LogEntry). with_book n xs (after_batches m (after_batches m n.replica (decided_of past (e ∷ []))) (decided_of past es))) (append_assoc n.entries (e ∷ []) es)
    ∙ ap (λ (r : Replica S). with_book n (n.entries ++ e ∷ es) r) (after_one m past n.replica e es))

-- ---- the node that goes on

-- the node that goes on from some entries, in full, from any outset
pub reopened_is : {S : Type 0} (m : Meaning S) (o : Outset S) (e : LogEntry) (es : List LogEntry)
    → reopened m o (e ∷ es)
    ≡ record (stopped o) { entries = e ∷ es; replica = after_batches m o.replica (decided_of o.replica.place (e ∷ es)); restored = length (e ∷ es); firm = length (e ∷ es) }
unfolding reopened with_book
reopened_is {S = S} m o e es =
    ap (λ (n : Node S). record n { restored = length (e ∷ es); firm = length (e ∷ es) }) (all_back_is m o.replica.place (stopped o) (e ∷ es))

-- ---- the places of what was decided, if nothing is installed

-- how many batches are decided past a place, if all entries may be restored over the replica there
pub counted_past : (past last count : ℕ) → past ≤ last → TurnAt past (place_if last) count → last ≡ past + count
counted_past past zero count low turn = omega (arith, low, turn)
counted_past past (suc k) count low turn =
    ⊎_elim (λ (few : (suc k ≤ past) × (count ≡ 0)). let least = few.0 in let none = few.1 in omega (arith, low, least, none)) (λ (at : suc k ≡ past + count). at) turn

-- as many places are made as decisions stand there
pub count_is : (secret : List ℕ) (stated : List Statement) (views : List View) (entries : List LogEntry) → IsSoundBook secret stated views entries → InstallUpTo 0 entries
    → last_made entries ≡ length (decided_of 0 entries)
count_is secret stated views entries book none =
    let turn : InTurn 0 entries = all_in_turn 0 entries (cut_lawful 0 (length entries) entries book.lawful book.tidy none) in
    let counted = counted_past 0 (last_made entries) (length (decided_of 0 entries)) (omega arith)
    (subst (λ (o : Option ℕ). TurnAt 0 o (length (decided_of 0 entries))) (latest_is secret stated views entries book) turn) in
    omega (arith, counted)

pub reopened_place : {S : Type 0} (m : Meaning S) (secret : List ℕ) (id : ℕ) (view : View) (period : ℕ) (entries : List LogEntry)
    → (reopened m (outset m secret id view period) entries).replica.place ≡ length (decided_of 0 entries)
unfolding reopened
reopened_place m secret id view period [] = refl
reopened_place {S = S} m secret id view period (e ∷ es) =
    ap (λ (n : Node S). n.replica.place) (reopened_is m (outset m secret id view period) e es) ∙ state_place m view (decided_of 0 (e ∷ es))

-- the place of the node that goes on is the last that its entries make
pub place_reopened : {S : Type 0} (m : Meaning S) (secret : List ℕ) (id : ℕ) (stated : List Statement) (view : View) (period : ℕ) (views : List View) (entries : List LogEntry)
    → IsSoundBook secret stated views entries → InstallUpTo 0 entries → (reopened m (outset m secret id view period) entries).replica.place ≡ last_made entries
place_reopened m secret id stated view period views entries book none = reopened_place m secret id view period entries ∙ sym (count_is secret stated views entries book none)
