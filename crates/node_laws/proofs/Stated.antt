-- What stands in messages that have been stated.
use Rattle.std.proofs.Common.{Bool, List, cond, false, filter, inl, inr, length, nat_le, nat_lt, refl, subst, sym, true, ℕ, ⊎_elim, ◌≡◌, ◌∷◌, [], ◌++◌, ◌&&◌}
use Rattle.std.specs.List.{flat_map, list_all}
use Rattle.std.specs.Prelude.{map}
use Rattle.replica_rules.proofs.Managed.{fits_alone}
use Rattle.replica_rules.specs.Seals.{digest_of, fits, is_alone, is_verified, request_fits}
use Rattle.agreement_laws.specs.Statements.{Statement, statements}
use Rattle.node_rules.specs.Arrivals.{is_batch_for}
use Rattle.smart_base.specs.Lists.{Each, same_bytes}
use Rattle.smart_base.specs.Views.{View}
use Rattle.smart_statements.specs.Forms.{SignedBy}
use Rattle.smart_statements.specs.Kinds.{requests}
use Rattle.smart_statements.specs.Batches.{Batch, batch_text}
use Rattle.smart_messages.specs.declared.message.Message.{Message}
use Rattle.smart_messages.specs.declared.message.Message.TheVariants.{Ask, Propose, Vote}
use Rattle.smart_messages.specs.declared.message.Proposed.{Proposed}
use Rattle.smart_statements.specs.declared.statement.Ballot.{Ballot}
use Rattle.smart_statements.specs.declared.statement.Request.{Request}
use Rattle.vote_book.proofs.Tested.{same_bytes_is}
use Rattle.vote_book.specs.Books.{Among}
use Rattle.node_laws.proofs.Lists.{Found, all_each}
use Rattle.node_laws.proofs.Nodes.{Arrived}
use Rattle.node_laws.specs.Sound.{AreAmong, AreAsked, IsStated}
use Rattle.agreement_laws.specs.Statements as says
use Rattle.agreement_laws.proofs.Lists.{among_either, among_right, each_among, each_from, among_filter, among_flat, among_map}
use Rattle.smart_base.proofs.SameLists.{and_true}
use Rattle.smart_base.proofs.ViewFacts.{each-weaken}

-- whatever verifies of some statements has been stated
abbrev pub Covers : List ℕ → List Statement → List Statement → Type 0
Covers secret stated parts = (s : Statement) → Among s parts → says.verifies secret s ≡ true → Among s stated

-- what a filter leaves stands there and passes
passed_step : {A : Type 0} (p : A → Bool) (x y : A) (ys rest : List A) (t : Bool) → p y ≡ t → (Among x rest → Found p ys x) → Among x (cond t (y ∷ rest) rest) → Found p (y ∷ ys) x
passed_step {A} p x y ys rest true is later (inl same) = record { there = inl same; passes = subst (λ (z : A). p z ≡ true) (sym same) is }
passed_step p x y ys rest true is later (inr there) = let found = later there in record { there = inr found.there; passes = found.passes }
passed_step p x y ys rest false is later there = let found = later there in record { there = inr found.there; passes = found.passes }

pub passed : {A : Type 0} (p : A → Bool) (x : A) (xs : List A) → Among x (filter p xs) → Found p xs x
passed p x [] there = absurd there
passed p x (y ∷ ys) there = passed_step p x y ys (filter p ys) (p y) refl (λ later. passed p x ys later) there

-- ---- messages

pub covers : (secret : List ℕ) (stated : List Statement) (m : Message) → IsStated secret stated m → Covers secret stated (flat_map says.within (says.said m))
covers secret stated m is s there ok =
    each_among (λ s. Among s stated) (statements secret m) s is (among_filter (says.verifies secret) (flat_map says.within (says.said m)) s there ok)

pub covered : (secret : List ℕ) (stated parts : List Statement) → Covers secret stated parts → AreAmong (filter (says.verifies secret) parts) stated
covered secret stated parts all =
    each_from (λ s. Among s stated) (filter (says.verifies secret) parts)
    (λ s there. let was = passed (says.verifies secret) s parts there in all s was.there was.passes)

-- what holds of each that verifies
pub each_verified : (secret : List ℕ) (P : Statement → Type 0) (parts : List Statement) → ((s : Statement) → Among s parts → says.verifies secret s ≡ true → P s)
    → Each P (filter (says.verifies secret) parts)
each_verified secret P parts all =
    each_from P (filter (says.verifies secret) parts) (λ s there. let was = passed (says.verifies secret) s parts there in all s was.there was.passes)

pub flat_covers : {A : Type 0} (secret : List ℕ) (stated : List Statement) (f : A → List Statement) (xs : List A) → Each (λ x. Covers secret stated (f x)) xs
    → Covers secret stated (flat_map f xs)
flat_covers secret stated f [] each s there ok = absurd there
flat_covers secret stated f (x ∷ xs) each s there ok =
    ⊎_elim (λ here. each.0 s here ok) (λ later. flat_covers secret stated f xs each.1 s later ok) (among_either s (f x) (flat_map f xs) there)

-- ---- requests

pub ask_stated : (secret : List ℕ) (stated : List Statement) (q : SignedBy Request) → Covers secret stated (says.Asked q ∷ []) → IsStated secret stated (Ask q)
ask_stated secret stated q all = covered secret stated (says.Asked q ∷ []) all

pub asked_of : (secret : List ℕ) (stated : List Statement) (q : SignedBy Request) → IsStated secret stated (Ask q) → Covers secret stated (says.Asked q ∷ [])
asked_of secret stated q is = covers secret stated (Ask q) is

-- the requests of a batch stand in what a message says that bears it
ask_within : (q : SignedBy Request) (batch : Batch) → Among q batch → Among (says.Asked q) (flat_map says.within (map says.Asked batch))
ask_within q batch there = among_flat says.within (map says.Asked batch) (says.Asked q) (says.Asked q) (among_map says.Asked batch q there) (inl refl)

pub batch_asked : (secret : List ℕ) (stated parts : List Statement) (batch : Batch) → Covers secret stated (parts ++ flat_map says.within (map says.Asked batch))
    → Each (λ q. is_verified requests secret q ≡ true) batch → AreAsked secret stated batch
batch_asked secret stated parts batch all ok =
    each_from (λ q. (is_verified requests secret q ≡ true) × IsStated secret stated (Ask q)) batch
    (λ q there.
    let tagged : is_verified requests secret q ≡ true = each_among (λ q. is_verified requests secret q ≡ true) batch q ok there in
    let was : Among (says.Asked q) stated = all (says.Asked q) (among_right (says.Asked q) parts (flat_map says.within (map says.Asked batch)) (ask_within q batch there)) tagged in
    (tagged, ask_stated secret stated q (λ s here verified. ⊎_elim (λ (same : s ≡ says.Asked q). subst (λ (x : Statement). Among x stated) (sym same) was) (λ none. absurd none) here)))

-- whatever verifies of the requests of an asked batch has been stated
pub batch_covers : (secret : List ℕ) (stated : List Statement) (batch : Batch) → AreAsked secret stated batch → Covers secret stated (flat_map says.within (map says.Asked batch))
batch_covers secret stated [] asked s there ok = absurd there
batch_covers secret stated (q ∷ qs) asked s (inl is) ok = asked_of secret stated q asked.0.1 s (inl is) ok
batch_covers secret stated (q ∷ qs) asked s (inr there) ok = batch_covers secret stated qs asked.1 s there ok

-- ---- batches that may stand at a place

fits_tags : (secret : List ℕ) (batch : Batch) (place : ℕ) → fits secret batch place ≡ true → Each (λ q. is_verified requests secret q ≡ true) batch
unfolding fits
fits_tags secret batch place is =
    let front = and_true (nat_le 1 (length batch) && nat_le (length batch) 64 && nat_le (length (batch_text batch)) 262144 && list_all (request_fits secret place) batch)
    (is_alone batch) is in
    let all = and_true (nat_le 1 (length batch) && nat_le (length batch) 64 && nat_le (length (batch_text batch)) 262144) (list_all (request_fits secret place) batch) front.0 in
    each-weaken (λ q. request_fits secret place q ≡ true) (λ q. is_verified requests secret q ≡ true)
    (λ q ok. (and_true (nat_le q.statement.client 1024 && nat_lt q.statement.after place) (is_verified requests secret q) ok).1)
    batch (all_each (request_fits secret place) batch all.1)

pub record MayStand (secret : List ℕ) (place : ℕ) (digest : List ℕ) (batch : Batch) : Type 0 where
  pub tags : Each (λ q. is_verified requests secret q ≡ true) batch
  pub alone : is_alone batch ≡ true
  pub named : digest_of batch ≡ digest

pub may_stand : (secret : List ℕ) (place : ℕ) (digest : List ℕ) (batch : Batch) → is_batch_for secret place digest batch ≡ true → MayStand secret place digest batch
unfolding is_batch_for
may_stand secret place digest batch is =
    let outer = and_true (fits secret batch place) (same_bytes (digest_of batch) digest) is in
    record { tags = fits_tags secret batch place outer.0; alone = fits_alone secret batch place outer.0; named = same_bytes_is (digest_of batch) digest outer.1 }

-- a proposal that was kept names a batch that may stand at its place, each of whose requests has been stated
pub proposal_asked : (secret : List ℕ) (stated : List Statement) (view : View) (p : Proposed) → Arrived secret stated view (Propose p) → p.head.statement.slot.view ≡ view.number
    → AreAsked secret stated p.batch
proposal_asked secret stated view p is of =
    let may = may_stand secret p.head.statement.slot.place p.head.statement.digest p.batch (is.0.1 of).batch in
    batch_asked secret stated (says.Proposed p.head ∷ []) p.batch (covers secret stated (Propose p) is.1) may.tags

-- ---- votes

pub vote_stated : (secret : List ℕ) (stated : List Statement) (view : View) (b : SignedBy Ballot) → Arrived secret stated view (Vote b) → b.statement.slot.view ≡ view.number
    → Among (says.Voted b) stated
vote_stated secret stated view b is of = covers secret stated (Vote b) is.1 (says.Voted b) (inl refl) (is.0.1 of).tagged
