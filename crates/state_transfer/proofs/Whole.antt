-- The parts that a plan wants, and that none lacks where as many are there.
use Rattle.std.proofs.Common.{◌≡◌, ℕ, zero, suc, ◌*◌, ◌-◌, ◌<◌, ◌≤◌, ◌==◌, ◌++◌, nat_lt, Bool, true, false, not, ◌&&◌, ◌||◌, cond, List, [], ◌∷◌, length, take, drop, ap, sym, refl, ◌∙◌, subst, arith, eq-eqb}
use Rattle.std.specs.Prelude.{find, Some, None, IsSome, if◌then◌else◌}
use Rattle.std.specs.List.{list_any}
use Rattle.std.proofs.lemmas.List.{length-take, length-drop}
use Rattle.std.proofs.lemmas.Bool.{eqb-true, eqb-false, leb-true, ltb-true, ltb-false, lt-ltb}
use Rattle.smart_base.specs.Lists.{Each, Distinct}
use Rattle.smart_base.proofs.SameLists.{and_true}
use Rattle.state_marks.proofs.Lists.{or_false, turned, is_one, all_listed}
use Rattle.snapshot_form.specs.Snapshots.{piece, pieces, piece_bytes}
use Rattle.transfer_form.specs.declared.transfer.StatePart.{StatePart}
use Rattle.state_transfer.specs.declared.choice.Plan.{Plan}
use Rattle.state_transfer.specs.declared.fetch.Fetch.{Fetch}
use Rattle.state_transfer.specs.declared.fetch.Ignored.TheVariants.{Unasked, Repeated}
use Rattle.state_transfer.specs.Fetches.{pieces_of, length_of, is_wanted, is_numbered, part_fault, kept_unless, are_all_there, numbers, part_at, KeepsWanted}
use Rattle.state_transfer.specs.Seeds.{seed}
use Rattle.state_transfer.proofs.Lists.{filter_few}

-- ---- what a seeder gives

size_by : (bytes : List ℕ) (i : ℕ) (t u : Bool) → nat_lt (65536 * i) (length bytes) ≡ t → nat_lt (length bytes - 65536 * i) 65536 ≡ u
    → length (piece_bytes (if t then Some (take 65536 (drop (65536 * i) bytes)) else None)) ≡ (if u then length bytes - 65536 * i else 65536)
size_by bytes i true true is small =
    let few = ltb-true (length bytes - 65536 * i) 65536 small in
    let taken = length-take 65536 (drop (65536 * i) bytes) in
    let left = length-drop (65536 * i) bytes in
    omega (arith, few, taken, left)
size_by bytes i true false is large =
    let many = ltb-false (length bytes - 65536 * i) 65536 large in
    let taken = length-take 65536 (drop (65536 * i) bytes) in
    let left = length-drop (65536 * i) bytes in
    omega (arith, many, taken, left)
size_by bytes i false true is small = let out = ltb-false (65536 * i) (length bytes) is in omega (arith, out)
size_by bytes i false false is large =
    let out = ltb-false (65536 * i) (length bytes) is in
    let many = ltb-false (length bytes - 65536 * i) 65536 large in
    absurd (omega (arith, out, many))

size_is : (bytes : List ℕ) (i : ℕ) → length (piece_bytes (piece bytes i)) ≡ length_of (length bytes) i
size_is bytes i = size_by bytes i (nat_lt (65536 * i) (length bytes)) (nat_lt (length bytes - 65536 * i) 65536) refl refl

all_of : (a b c d : Bool) → a ≡ true → b ≡ true → c ≡ true → d ≡ true → (a && b && c && d) ≡ true
all_of a b c d is_a is_b is_c is_d = rw (is_a, is_b, is_c, is_d) refl

pub given_wanted : (plan : Plan) (snapshot : List ℕ) (i : ℕ) → plan.size ≡ length snapshot → i < pieces snapshot → is_wanted plan (seed plan.place snapshot i) ≡ true
unfolding is_wanted
given_wanted plan snapshot i size below =
    all_of (plan.place == plan.place) (pieces snapshot == pieces_of plan.size) (nat_lt i (pieces snapshot)) (length (piece_bytes (piece snapshot i)) == length_of plan.size i)
    (eq-eqb plan.place plan.place refl)
    (eq-eqb (pieces snapshot) (pieces_of plan.size) (ap pieces_of (sym size)))
    (lt-ltb i (pieces snapshot) below)
    (eq-eqb (length (piece_bytes (piece snapshot i))) (length_of plan.size i) (size_is snapshot i ∙ ap (λ (n : ℕ). length_of n i) (sym size)))

-- ---- what is kept

each_more : {A : Type 0} (P : A → Type 0) (xs : List A) (x : A) → Each P xs → P x → Each P (xs ++ x ∷ [])
each_more P [] x all is = (is, tt)
each_more P (y ∷ ys) x all is = (all.0, each_more P ys x all.1 is)

numbered : (index : ℕ) (parts : List StatePart) → list_any (is_numbered index) parts ≡ is_one (numbers parts) index
numbered index [] = refl
numbered index (part ∷ parts) = ap (λ (t : Bool). (part.index == index) || t) (numbered index parts)

apart_more : (x n : ℕ) (ns : List ℕ) → is_one ns x ≡ false → (n == x) ≡ false → is_one (ns ++ n ∷ []) x ≡ false
apart_more x n [] none apart = rw (apart) refl
apart_more x n (m ∷ ms) none apart =
    let parts = or_false (m == x) (is_one ms x) none in
    rw (parts.0) (apart_more x n ms parts.1 apart)

distinct_more : (ns : List ℕ) (n : ℕ) → Distinct ns → is_one ns n ≡ false → Distinct (ns ++ n ∷ [])
distinct_more [] n one none = (refl, tt)
distinct_more (m ∷ ms) n one none =
    let parts = or_false (m == n) (is_one ms n) none in
    (apart_more m n ms one.0 (turned n m ∙ parts.0), distinct_more ms n one.1 parts.1)

numbers_more : (parts : List StatePart) (part : StatePart) → numbers (parts ++ part ∷ []) ≡ numbers parts ++ part.index ∷ []
numbers_more [] part = refl
numbers_more (x ∷ parts) part = ap (λ (ns : List ℕ). x.index ∷ ns) (numbers_more parts part)

kept_by : (f : Fetch) (part : StatePart) (t u : Bool) → is_wanted f.plan part ≡ t → list_any (is_numbered part.index) f.parts ≡ u → KeepsWanted f
    → KeepsWanted (kept_unless (if not t then Some Unasked else if u then Some Repeated else None) f part)
kept_by f part false u is there held = held
kept_by f part true true is there held = held
kept_by f part true false is there held = record {
  wanted = each_more (λ (x : StatePart). is_wanted f.plan x ≡ true) f.parts part held.wanted is;
  distinct = subst Distinct (sym (numbers_more f.parts part)) (distinct_more (numbers f.parts) part.index held.distinct (sym (numbered part.index f.parts) ∙ there));
}

pub kept_wanted : (f : Fetch) (part : StatePart) → KeepsWanted f → KeepsWanted (kept_unless (part_fault f part) f part)
unfolding part_fault
kept_wanted f part held = kept_by f part (is_wanted f.plan part) (list_any (is_numbered part.index) f.parts) refl refl held

-- ---- none lacks

-- the numbers below one
abbrev below : ℕ → List ℕ
below zero = []
below (suc n) = n ∷ below n

below_length : (n : ℕ) → length (below n) ≡ n
below_length zero = refl
below_length (suc n) = ap suc (below_length n)

one_below : (n i : ℕ) → i < n → is_one (below n) i ≡ true
one_below zero i less = absurd (omega (arith, less))
one_below (suc n) i less = by (n == i) refl (one_below n i)
  where
    by : (t : Bool) → (n == i) ≡ t → (i < n → is_one (below n) i ≡ true) → (t || is_one (below n) i) ≡ true
    by true is rest = refl
    by false is rest = let apart = eqb-false n i is in rest (omega (arith, less, apart))

each_below : (plan : Plan) (parts : List StatePart) → Each (λ (x : StatePart). is_wanted plan x ≡ true) parts → Each (λ (n : ℕ). is_one (below (pieces_of plan.size)) n ≡ true) (numbers parts)
unfolding is_wanted
each_below plan [] all = tt
each_below plan (part ∷ parts) all =
    let first = and_true ((part.place == plan.place) && (part.total == pieces_of plan.size) && nat_lt part.index part.total) (length part.bytes == length_of plan.size part.index) all.0 in
    let second = and_true ((part.place == plan.place) && (part.total == pieces_of plan.size)) (nat_lt part.index part.total) first.0 in
    let third = and_true (part.place == plan.place) (part.total == pieces_of plan.size) second.0 in
    let under = ltb-true part.index part.total second.1 in
    let total = eqb-true part.total (pieces_of plan.size) third.1 in
    (one_below (pieces_of plan.size) part.index (omega (arith, under, total)), each_below plan parts all.1)

numbers_length : (parts : List StatePart) → length (numbers parts) ≡ length parts
numbers_length [] = refl
numbers_length (x ∷ parts) = ap suc (numbers_length parts)

-- so many different numbers below one are all of them
all_there : (ns : List ℕ) (n i : ℕ) (t : Bool) → is_one ns i ≡ t → Each (λ (x : ℕ). is_one (below n) x ≡ true) ns → Distinct ns → n ≤ length ns → i < n → is_one ns i ≡ true
all_there ns n i true is each one many less = is
all_there ns n i false is each one many less =
    let listed = all_listed (below n) (i ∷ ns) (one_below n i less, each) (is, one) in
    let few = filter_few (is_one (i ∷ ns)) (below n) in
    let all = below_length n in
    absurd (omega (arith, listed, few, all, many))

found_some : (p : StatePart → Bool) (parts : List StatePart) → list_any p parts ≡ true → IsSome (find p parts)
found_some p [] some = absurd (cc)
found_some p (x ∷ parts) some = by (p x) some (found_some p parts)
  where
    by : (t : Bool) → (t || list_any p parts) ≡ true → (list_any p parts ≡ true → IsSome (find p parts)) → IsSome (cond t (Some x) (find p parts))
    by true here rest = refl
    by false there rest = rest there

pub lacks_none : (f : Fetch) (i : ℕ) → KeepsWanted f → are_all_there f ≡ true → i < pieces_of f.plan.size → IsSome (part_at f.parts i)
lacks_none f i held all less =
    let many = leb-true (pieces_of f.plan.size) (length f.parts) all in
    let same = numbers_length f.parts in
    let listed = all_there (numbers f.parts) (pieces_of f.plan.size) i (is_one (numbers f.parts) i) refl (each_below f.plan f.parts held.wanted) held.distinct (omega (arith, many, same)) less in
    found_some (is_numbered i) f.parts (numbered i f.parts ∙ listed)
