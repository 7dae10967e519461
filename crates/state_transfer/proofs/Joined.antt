-- Parts one after the other, and the replica that they make.
use Rattle.std.proofs.Common.{◌≡◌, ℕ, zero, suc, ◌+◌, ◌*◌, ◌<◌, ◌≤◌, ◌==◌, Bool, true, false, cond, ltb, List, [], ◌∷◌, ◌++◌, length, take, drop, ap, sym, refl, ◌∙◌, arith, add-one, eq-eqb}
use Rattle.std.specs.Prelude.{Option, Some, None, Result, Ok, Err, if◌then◌else◌}
use Rattle.std.proofs.lemmas.List.{length-take}
use Rattle.std.proofs.lemmas.Bool.{eqb-true}
use Rattle.smart_base.specs.Cuts.{IsBytes}
use Rattle.smart_base.specs.Lists.{same_bytes}
use Rattle.smart_base.proofs.SameLists.{same_list-equal}
use Rattle.smart_keys.specs.Keys.{digest}
use Rattle.smart_service.specs.Services.{Meaning}
use Rattle.smart_service.specs.declared.replica.Replica.{Replica}
use Rattle.snapshot_form.specs.Replicas.{FitsReplica}
use Rattle.snapshot_form.specs.Snapshots as snapshots
use Rattle.snapshot_form.specs.Snapshots.{piece, pieces, piece_bytes, restored, snapshot_text}
use Rattle.snapshot_form.proofs.Joined.{all_joined}
use Rattle.state_marks.proofs.Lists.{same_itself}
use Rattle.transfer_form.specs.declared.transfer.StatePart.{StatePart}
use Rattle.state_transfer.specs.declared.fetch.Fetch.{Fetch}
use Rattle.state_transfer.specs.declared.fetch.Spoiled.{Spoiled}
use Rattle.state_transfer.specs.declared.fetch.Spoiled.TheVariants.{Digest, Form}
use Rattle.state_transfer.specs.declared.choice.Plan.{Plan}
use Rattle.state_transfer.specs.Fetches.{pieces_of, part_at, bytes_in, joined, joined_of, formed, finished_by, finished, IsFinished}
use Rattle.state_transfer.specs.Seeds.{seed, seeds_to, HasAll}

-- one more part
pub joined_more : (parts : List StatePart) (n : ℕ) → joined parts n ++ bytes_in (part_at parts n) ≡ joined parts (n + 1)
joined_more parts n = rw (add-one n) refl

pub seeds_more : (place : ℕ) (snapshot : List ℕ) (n : ℕ) → seeds_to place snapshot n ++ seed place snapshot n ∷ [] ≡ seeds_to place snapshot (n + 1)
seeds_more place snapshot n = rw (add-one n) refl

-- the parts before one more
pub parts_before : (parts : List StatePart) (part : StatePart) → take (length parts) (parts ++ part ∷ []) ≡ parts
parts_before [] part = refl
parts_before (x ∷ xs) part = ap (λ (ys : List StatePart). x ∷ ys) (parts_before xs part)

-- ---- a piece is short

short_by : (bytes : List ℕ) (i : ℕ) (t : Bool) → length (piece_bytes (if t then Some (take 65536 (drop (65536 * i) bytes)) else None)) ≤ 65536
short_by bytes i true = let at_most = length-take 65536 (drop (65536 * i) bytes) in omega (arith, at_most)
short_by bytes i false = omega arith

pub piece_short : (bytes : List ℕ) (i : ℕ) → length (piece_bytes (piece bytes i)) ≤ 65536
piece_short bytes i = short_by bytes i (ltb (65536 * i) (length bytes))

-- ---- what is finished

abbrev told : {S : Type 0} → Replica S → Result (Replica S) Spoiled
told r = Ok r

abbrev refused : {S : Type 0} → Spoiled → Result (Replica S) Spoiled
refused why = Err why

ok_is : {S : Type 0} (x y : Replica S) → told x ≡ told y → x ≡ y
ok_is x y same = cc

place_by : {S : Type 0} (place : ℕ) (x r : Replica S) (t : Bool) → (x.place == place) ≡ t → cond t (told x) (refused Form) ≡ told r → (x ≡ r) × (x.place ≡ place)
place_by place x r true is said = (ok_is x r said, eqb-true x.place place is)
place_by place x r false is said = absurd (cc)

formed_is : {S : Type 0} (place : ℕ) (found : Option (Replica S)) (r : Replica S) → formed place found ≡ Ok r → (found ≡ Some r) × (r.place ≡ place)
formed_is place None r said = absurd (cc)
formed_is {S = S} place (Some x) r said =
    let parts = place_by place x r (x.place == place) refl said in
    (ap (λ (y : Replica S). Some y) parts.0, ap (λ (y : Replica S). y.place) (sym parts.0) ∙ parts.1)

finished_is : {S : Type 0} (m : Meaning S) (plan : Plan) (bytes : List ℕ) (r : Replica S) (t : Bool) → same_bytes (digest bytes) plan.digest ≡ t
    → cond t (formed plan.place (restored m bytes)) (refused (Digest (digest bytes))) ≡ told r
    → (digest bytes ≡ plan.digest) × ((restored m bytes ≡ Some r) × (r.place ≡ plan.place))
finished_is m plan bytes r true is said =
    let parts = formed_is plan.place (restored m bytes) r said in
    (same_list-equal {A = ℕ} (λ a b. a == b) eqb-true (digest bytes) plan.digest is, parts)
finished_is m plan bytes r false is said = absurd (cc)

-- it is of the plan's place
pub finished_place : {S : Type 0} (m : Meaning S) (f : Fetch) (r : Replica S) → finished m f ≡ Ok r → r.place ≡ f.plan.place
unfolding finished
finished_place m f r said = (finished_is m f.plan (joined_of f) r (same_bytes (digest (joined_of f)) f.plan.digest) refl said).1.1

certified_by : {S : Type 0} (valid : S → Type 0) (m : Meaning S) (f : Fetch) (r : Replica S) → FitsReplica valid r × (joined_of f ≡ snapshot_text m r)
    → (digest (joined_of f) ≡ f.plan.digest) × ((restored m (joined_of f) ≡ Some r) × (r.place ≡ f.plan.place)) → IsFinished valid m f r
certified_by valid m f r alone parts = record { fits = alone.0; snapshot = alone.1; digest_is = ap digest (sym alone.1) ∙ parts.0; place_is = parts.1.1 }

pub is_finished : {S : Type 0} (valid : S → Type 0) (m : Meaning S) → ((bytes : List ℕ) (r : Replica S) → IsBytes bytes → restored m bytes ≡ Some r → FitsReplica valid r × (bytes ≡ snapshot_text m r))
    → (f : Fetch) (r : Replica S) → IsBytes (joined_of f) → finished m f ≡ Ok r → IsFinished valid m f r
unfolding finished
is_finished valid m alone f r bytes said =
    let parts = finished_is m f.plan (joined_of f) r (same_bytes (digest (joined_of f)) f.plan.digest) refl said in
    certified_by valid m f r (alone (joined_of f) r bytes parts.1.0) parts

-- ---- a snapshot comes back

joined_seeds : (place : ℕ) (text : List ℕ) (parts : List StatePart) (n : ℕ) → ((i : ℕ) → i < n → part_at parts i ≡ Some (seed place text i)) → joined parts n ≡ snapshots.joined text n
joined_seeds place text parts zero has = refl
joined_seeds place text parts (suc n) has =
    ap (λ (front : List ℕ). front ++ bytes_in (part_at parts n)) (joined_seeds place text parts n (λ i below. has i (omega (arith, below))))
    ∙ ap (λ (part : Option StatePart). snapshots.joined text n ++ bytes_in part) (has n (omega arith))

all_is : (place : ℕ) (text : List ℕ) (f : Fetch) → HasAll place text f → joined_of f ≡ text
unfolding joined_of
all_is place text f has =
    ap (λ (size : ℕ). joined f.parts (pieces_of size)) has.size_is ∙ (joined_seeds place text f.parts (pieces text) has.parts ∙ all_joined text)

back_by : {S : Type 0} (m : Meaning S) (plan : Plan) (bytes : List ℕ) (r : Replica S) → same_bytes (digest bytes) plan.digest ≡ true → restored m bytes ≡ Some r
    → (r.place == plan.place) ≡ true → finished_by m plan bytes ≡ Ok r
back_by m plan bytes r same read placed = rw (same, read, placed) refl

pub comes_back : {S : Type 0} (valid : S → Type 0) (m : Meaning S) → ((r : Replica S) → FitsReplica valid r → restored m (snapshot_text m r) ≡ Some r)
    → (f : Fetch) (r : Replica S) → FitsReplica valid r → HasAll r.place (snapshot_text m r) f → finished m f ≡ Ok r
unfolding finished
comes_back valid m again f r fits has =
    let all = all_is r.place (snapshot_text m r) f has in
    back_by m f.plan (joined_of f) r
    (ap (λ (bytes : List ℕ). same_bytes (digest bytes) f.plan.digest) all
    ∙ (ap (same_bytes (digest (snapshot_text m r))) has.digest_is ∙ same_itself (digest (snapshot_text m r))))
    (ap (restored m) all ∙ again r fits) (eq-eqb r.place f.plan.place (sym has.place_is))
