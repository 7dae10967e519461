-- A change has one spelling.
use Rattle.std.proofs.Common.{◌≡◌, ℕ, ◌+◌, ◌*◌, ◌^◌, ◌<◌, ◌≤◌, zero, suc, nat_le, leb, eqb, cond, true, List, [], ◌∷◌, length, Result, Ok, Err, refl, sym, ap, subst, ◌∙◌, arith}
use Rattle.std.proofs.lemmas.Grind.{common_steps}
use Rattle.std.proofs.lemmas.Bool.{leb-true, le-leb}
use Rattle.std.proofs.lemmas.List.Concat.{flat_map-cons}
use Rattle.std.specs.Prelude.{IfOk}
use Rattle.std.specs.Int.{w8, w16, to_be_bytes}
use Rattle.std.specs.List.{flat_map, AllByRecursion}
use Rattle.smart_base.specs.Cuts.{Cut, IsBytes, ◌>>=◌, ranged, number_at, times_at, whole, GivesAll}
use Rattle.smart_base.specs.Lists.{Each}
use Rattle.smart_base.specs.Spelling.{u16, Law}
use Rattle.smart_base.specs.Laws.{done, bind_ok, guard_ended, then_law, last_law, refit, ranged_law, times_law, whole_takes, whole_again, ok_is}
use Rattle.smart_base.specs.FieldLaws.{u8_law, u16_law}
use Rattle.smart_base.specs.declared.fault.ReadError.{ReadError}
use Rattle.reconfig.specs.declared.change.Change.{Change}
use Rattle.reconfig.specs.Changes.{change_text, FitsChange, member_at, change_at, change_of}

member_law : Law (λ m. m < 2 ^ 16) (to_be_bytes w16) member_at
member_law =
    refit (λ m. (m < 2 ^ 16) × (leb m 65535 ≡ true)) (λ m. m < 2 ^ 16) (to_be_bytes w16) member_at
    (ranged_law (λ m. m < 2 ^ 16) (to_be_bytes w16) (number_at w16) (λ m. leb m 65535) u16_law)
    (λ m h. h.0) (λ m h. (h, le-leb m 65535 (omega (arith, h))))

members_law : (n : ℕ) → Law (λ ms. (length ms ≡ n) × AllByRecursion (λ m. m < 2 ^ 16) ms) (flat_map u16) (times_at member_at n)
members_law n = times_law (λ m. m < 2 ^ 16) u16 member_at member_law n

abbrev make_change : ℕ → List ℕ → Change
make_change f ms = record { f = f; members = ms }

change_is : (c : Change) (f : ℕ) → c.f ≡ f → make_change f c.members ≡ c
change_is c f e = rw (← e) refl

change_law : Law FitsChange change_text change_at
unfolding change_at
change_law =
    refit _ FitsChange change_text change_at
    (then_law (λ (c : Change). c.f) (λ c. Unit {0}) (λ n. n < 2 ^ 8) (to_be_bytes w8) (number_at w8) _ _ _ u8_law λ f is_f.
    then_law (λ (c : Change). length c.members) (λ c. Unit {0} × (c.f ≡ f)) (λ n. n < 2 ^ 16) (to_be_bytes w16) (number_at w16) _ _ _ u16_law λ n is_n.
    refit _ (λ c. ((Unit {0} × (c.f ≡ f)) × (length c.members ≡ n)) × AllByRecursion (λ m. m < 2 ^ 16) c.members) _ _
    (last_law (λ (c : Change). c.members) (λ c. (Unit {0} × (c.f ≡ f)) × (length c.members ≡ n))
    (λ ms. (length ms ≡ n) × AllByRecursion (λ m. m < 2 ^ 16) ms) (flat_map u16) (times_at member_at n) (λ ms. make_change f ms) (members_law n)
    (λ ms h. ((tt, refl), h.0)) (λ ms. refl) (λ c h. change_is c f h.0.1))
    (λ c h. (h.0, h.1.1)) (λ c h. (h.0, (h.0.1, h.1))))
    (λ c h. record { f_fits = h.1.0; count_fits = h.1.1.0; members_fit = h.1.1.1 })
    (λ c h. (tt, (h.f_fits, (h.count_fits, h.members_fit))))

abbrev begin : List ℕ → Cut
begin op = record { at = 0; left = op }

pub read_again : (c : Change) → FitsChange c → change_of (change_text c) ≡ Ok c
unfolding change_of
read_again c h = whole_again FitsChange change_text change_at change_law (begin (change_text c)) c h refl

pub read_is : (op : List ℕ) (c : Change) → IsBytes op → change_of op ≡ Ok c → FitsChange c × (op ≡ change_text c)
unfolding change_of
read_is op c bs e = whole_takes FitsChange change_text change_at change_law (begin op) c bs e

pub is_apart : (c d : Change) → FitsChange c → FitsChange d → change_text c ≡ change_text d → c ≡ d
is_apart c d h k e = ok_is c d (sym (read_again c h) ∙ ap change_of e ∙ read_again d k)

pub is_only : (op : List ℕ) (c : Change) → FitsChange c → op ≡ change_text c → change_of op ≡ Ok c
is_only op c h e = ap change_of e ∙ read_again c h

pub is_found : (op : List ℕ) (r : Result Change ReadError) → IsBytes op → GivesAll r (change_of op) → IfOk r (λ c. FitsChange c × (op ≡ change_text c))
is_found op (Ok c) bs h = read_is op c bs h
is_found op (Err e) bs h = tt

-- ---- members are small, whatever the operation is

member_small : (c : Cut) (y : ℕ × Cut) → member_at c ≡ Ok y → y.0 ≤ 65535
unfolding ranged
member_small c y e =
    let b = bind_ok (number_at w16 c) (λ x. cond (leb x.0 65535) (Ok x) (Err c.at)) y e in
    let g = guard_ended (leb b.0.0 65535) c.at b.0 y b.2 in
    subst (λ (y : ℕ × Cut). y.0 ≤ 65535) g.1 (leb-true b.0.0 65535 g.0)

members_small : (n : ℕ) (c : Cut) (y : List ℕ × Cut) → times_at member_at n c ≡ Ok y → Each (λ m. m ≤ 65535) y.0
unfolding times_at
members_small zero c y e = subst (λ (y : List ℕ × Cut). Each (λ m. m ≤ 65535) y.0) (ok_is ([], c) y e) tt
members_small (suc n) c y e =
    let a = bind_ok (member_at c) (λ x. times_at member_at n x.1 >>= λ xs. Ok (x.0 ∷ xs.0, xs.1)) y e in
    let b = bind_ok (times_at member_at n a.0.1) (λ xs. Ok (a.0.0 ∷ xs.0, xs.1)) y a.2 in
    subst (λ (y : List ℕ × Cut). Each (λ m. m ≤ 65535) y.0) (ok_is (a.0.0 ∷ b.0.0, b.0.1) y b.2) (member_small c a.0 a.1, members_small n a.0.1 b.0 b.1)

members_of : (f : ℕ) (ms : List ℕ) (d : Cut) (y : Change × Cut) → done (make_change f ms, d) ≡ done y → Each (λ m. m ≤ 65535) ms
    → Each (λ m. m ≤ 65535) y.0.members
members_of f ms d y e small = subst (λ (y : Change × Cut). Each (λ m. m ≤ 65535) y.0.members) (ok_is (make_change f ms, d) y e) small

change_small : (c : Cut) (y : Change × Cut) → change_at c ≡ Ok y → Each (λ m. m ≤ 65535) y.0.members
unfolding change_at
change_small c y e =
    let f = bind_ok (number_at w8 c) (λ f. number_at w16 f.1 >>= λ n. times_at member_at n.0 n.1 >>= λ ms. Ok (make_change f.0 ms.0, ms.1)) y e in
    let n = bind_ok (number_at w16 f.0.1) (λ n. times_at member_at n.0 n.1 >>= λ ms. Ok (make_change f.0.0 ms.0, ms.1)) y f.2 in
    let ms = bind_ok (times_at member_at n.0.0 n.0.1) (λ ms. Ok (make_change f.0.0 ms.0, ms.1)) y n.2 in
    members_of f.0.0 ms.0.0 ms.0.1 y ms.2 (members_small n.0.0 n.0.1 ms.0 ms.1)

pub read_small : (op : List ℕ) (c : Change) → change_of op ≡ Ok c → Each (λ m. m ≤ 65535) c.members
unfolding change_of whole
read_small op c e =
    let b = bind_ok (change_at (begin op)) (λ x. cond (eqb (length x.1.left) 0) (Ok x.0) (Err x.1.at)) c e in
    let g = guard_ended (eqb (length b.0.1.left) 0) b.0.1.at b.0.0 c b.2 in
    subst (λ (c : Change). Each (λ m. m ≤ 65535) c.members) g.1 (change_small (begin op) b.0 b.1)

-- ---- lengths

flat_length : (ms : List ℕ) → length (flat_map u16 ms) ≡ 2 * length ms
flat_length [] = refl
flat_length (m ∷ ms) =
    let next : length (flat_map u16 (m ∷ ms)) ≡ suc (suc (length (flat_map u16 ms))) = ap length (flat_map-cons u16 m ms) in
    omega (arith, next, flat_length ms)

pub text_length : (c : Change) → length (change_text c) ≡ 3 + 2 * length c.members
text_length c = omega (arith, flat_length c.members)

by_half : (n : ℕ) → nat_le n 2046 ≡ nat_le (3 + 2 * n) 4096
by_half n = grind (arith, common_steps)

-- an operation within the limit has few members
pub brief_few : (c : Change) → nat_le (length (change_text c)) 4096 ≡ true → length c.members ≤ 2046
brief_few c is =
    let long = leb-true (length (change_text c)) 4096 is in
    omega (arith, long, text_length c)

-- an operation is within the limit if and only if the members are few
pub brief_is : (n : ℕ) (c : Change) → n ≡ length c.members → nat_le n 2046 ≡ nat_le (length (change_text c)) 4096
brief_is n c e = rw (e, text_length c) (by_half (length c.members))
