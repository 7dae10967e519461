-- Steps that are repeated, turn by turn.
use Rattle.std.proofs.Common.{◌≡◌, ℕ, ◌+◌, ◌-◌, ◌<◌, ◌≤◌, zero, suc, refl, arith, ◌∙◌, ap, sym, List, length}
use Rattle.world_rules.specs.Repeats.{repeated, turns, until_rest, each_from}

counted : turns ≡ 18446744073709551615
unfolding turns
counted = refl

more : {A : Type 0} (f : A → A) (k i : ℕ) (x : A) → i < k → repeated f (k - i) x ≡ repeated f (k - (i + 1)) (f x)
unfolding repeated
more f k i x lt = let e : k - i ≡ suc (k - (i + 1)) = omega arith in rw e refl

none : {A : Type 0} (f : A → A) (x : A) → repeated f 0 x ≡ x
unfolding repeated
none f x = refl

idle : {A : Type 0} (f : A → A) (k : ℕ) (x : A) → f x ≡ x → repeated f k x ≡ x
unfolding repeated
idle f zero x same = refl
idle f (suc k) x same = ap (λ y. repeated f k y) same ∙ idle f k x same

-- all turns are left at first
pub rest_begins : {A : Type 0} (f : A → A) (x : A) → repeated f (turns - 0) x ≡ until_rest f x
unfolding until_rest
rest_begins f x = let e : turns - 0 ≡ turns = omega arith in rw e refl

-- one more of the turns that are left
pub rest_more : {A : Type 0} (f : A → A) (i : ℕ) (x : A) → i < 18446744073709551615 → repeated f (turns - i) x ≡ repeated f (turns - (i + 1)) (f x)
rest_more f i x lt = more f turns i x (rw counted lt)

-- no turn is left
pub rest_done : {A : Type 0} (f : A → A) (i : ℕ) (x : A) → 18446744073709551615 ≤ i → repeated f (turns - i) x ≡ x
rest_done f i x le = let le' : turns ≤ i = rw counted le in let e : turns - i ≡ 0 = omega arith in rw e (none f x)

-- a turn that changes nothing changes nothing later
pub rest_idle : {A : Type 0} (f : A → A) (i : ℕ) (x : A) → f x ≡ x → repeated f (turns - i) x ≡ x
rest_idle f i x same = idle f (turns - i) x same

-- one more of the numbers that are left
pub each_more : {A : Type 0} (f : ℕ → A → A) (k i : ℕ) (x : A) → i < k → each_from f (k - i) i x ≡ each_from f (k - (i + 1)) (i + 1) (f i x)
unfolding each_from
each_more f k i x lt = let e : k - i ≡ suc (k - (i + 1)) = omega arith in rw e refl

each_none : {A : Type 0} (f : ℕ → A → A) (i : ℕ) (x : A) → each_from f 0 i x ≡ x
unfolding each_from
each_none f i x = refl

-- no number is left
pub each_done : {A : Type 0} (f : ℕ → A → A) (k i j : ℕ) (x : A) → k ≤ i → each_from f (k - i) j x ≡ x
each_done f k i j x le = let e : k - i ≡ 0 = omega arith in rw e (each_none f j x)

-- all numbers are left at first
pub each_begins : {A B : Type 0} (f : ℕ → A → A) (xs ys : List B) (x : A) → xs ≡ ys → each_from f (length xs - 0) 0 x ≡ each_from f (length ys) 0 x
each_begins f xs ys x same = let e : length xs - 0 ≡ length ys = rw same (omega arith) in rw e refl

-- one more was taken
pub each_next : {A : Type 0} (f : ℕ → A → A) (k i : ℕ) (x y total : A) → i < k → each_from f (k - i) i x ≡ total → y ≡ f i x → each_from f (k - (i + 1)) (i + 1) y ≡ total
each_next f k i x y total lt so_far one = ap (λ z. each_from f (k - (i + 1)) (i + 1) z) one ∙ (sym (each_more f k i x lt) ∙ so_far)

-- all were taken
pub each_ends : {A : Type 0} (f : ℕ → A → A) (k i : ℕ) (x total : A) → k ≤ i → each_from f (k - i) i x ≡ total → x ≡ total
each_ends f k i x total le so_far = sym (each_done f k i i x le) ∙ so_far

-- one more of some turns
pub times_more : {A : Type 0} (f : A → A) (k i : ℕ) (x : A) → i < k → repeated f (k - i) x ≡ repeated f (k - (i + 1)) (f x)
times_more f k i x lt = more f k i x lt

pub times_done : {A : Type 0} (f : A → A) (k i : ℕ) (x : A) → k ≤ i → repeated f (k - i) x ≡ x
times_done f k i x le = let e : k - i ≡ 0 = omega arith in rw e (none f x)
