-- Readings that fail: the bytes end before the field does.
use Rattle.std.proofs.Common.{◌≡◌, ℕ, zero, suc, ◌<◌, ◌==◌, Bool, cond, List, ◌∷◌, length, None, Result, Ok, Err, refl, ap, ◌∙◌, arith, lt-ltb, ne_eqb}
use Rattle.std.specs.Int.{Width, w64, byte_len, to_be_bytes, from_be_bytes}
use Rattle.smart_base.specs.Cuts.{Cut, Read, ◌>>=◌, fixed_at, front, past, number_at, ranged, text_at, bytes_at, anything, fault_at, contents, whole, times_at}
use Rattle.smart_base.specs.Spelling.{Law, Spelled}
use Rattle.smart_base.specs.Laws.{bind_is, ranged_law, with_front}
use Rattle.store_form.specs.Spelling.{Group}
use Rattle.store_form.specs.Reading.{entry_at, payload_at, group_at}
use Rattle.batch_log.specs.Log.{found}
use Rattle.log_stream.specs.Walks.{IsFault}

fixed_short : (n : ℕ) (c : Cut) → length c.left < n → fixed_at n c ≡ Err c.at
fixed_short n c few = ap (λ (t : Bool). cond t (Err c.at) (Ok (front n c, past n c))) (lt-ltb (length c.left) n few)

pub number_fault : (w : Width) (c : Cut) → length c.left < byte_len w → number_at w c ≡ Err c.at
unfolding number_at
number_fault w c few = ap (λ (r : Read Cut). r >>= λ n. Ok (from_be_bytes w n.0.left, n.1)) (fixed_short (byte_len w) c few)

-- the length of a text is not there
pub text_short : (w : Width) (c : Cut) → length c.left < byte_len w → text_at w anything c ≡ Err c.at
unfolding text_at ranged
text_short w c few = ap (λ (r : Read ℕ). (r >>= λ x. cond (anything x.0) (Ok x) (Err c.at)) >>= λ n. fault_at c.at (fixed_at n.0 n.1)) (number_fault w c few)

-- a text is shorter than its length says
pub text_over : (w : Width) (limit : ℕ) → Law (λ n. n < limit) (to_be_bytes w) (number_at w) → (c : Cut) (n : ℕ) (d : Cut) → n < limit → Spelled c (to_be_bytes w n) d → length d.left < n → text_at w anything c ≡ Err c.at
unfolding text_at
text_over w limit law c n d fits s over =
    bind_is (ranged anything (number_at w) c) (λ x. fault_at c.at (fixed_at x.0 x.1)) (n, d)
    ((ranged_law (λ x. x < limit) (to_be_bytes w) (number_at w) anything law).again c n d (fits, refl) s)
    ∙ ap (fault_at c.at) (fixed_short n d over)

pub entry_fault : (c : Cut) → bytes_at c ≡ Err c.at → IsFault (entry_at c)
unfolding contents
entry_fault c is = (c.at, ap (λ (r : Read Cut). r >>= λ b. Ok (b.0.left, b.1)) is)

pub times_fault : (n : ℕ) (c : Cut) → 0 < n → IsFault (entry_at c) → IsFault (times_at entry_at n c)
unfolding times_at
times_fault zero c some fault = absurd (omega (arith, some))
times_fault (suc n) c some fault = (fault.0, ap (λ (r : Read (List ℕ)). r >>= λ x. times_at entry_at n x.1 >>= λ xs. Ok (x.0 ∷ xs.0, xs.1)) fault.1)

pub front_fault : (es : Group) (r : Read Group) → IsFault r → IsFault (with_front es r)
front_fault es r fault = (fault.0, ap (with_front es) fault.1)

pub whole_fault : (f : Cut → Read Group) (c : Cut) → IsFault (f c) → IsFault (whole f c)
unfolding whole
whole_fault f c fault = (fault.0, ap (λ (r : Read Group). r >>= λ x. cond (length x.1.left == 0) (Ok x.0) (Err x.1.at)) fault.1)

-- something is left over
pub whole_left : (f : Cut → Read Group) (c : Cut) (g : Group) (d : Cut) → f c ≡ Ok (g, d) → 0 < length d.left → IsFault (whole f c)
unfolding whole
whole_left f c g d is some =
    (d.at, bind_is (f c) (λ x. cond (length x.1.left == 0) (Ok x.0) (Err x.1.at)) (g, d) is ∙ ap (λ (t : Bool). cond t (Ok g) (Err d.at)) (ne_eqb (length d.left) 0 (λ (e : length d.left ≡ 0). omega (arith, some, e))))

-- ---- a group

pub group_short : (c : Cut) → text_at w64 anything c ≡ Err c.at → found (group_at c) ≡ None
unfolding group_at
group_short c is = ap (λ (r : Read Cut). found (r >>= λ b. whole payload_at b.0 >>= λ g. Ok (g, b.1))) is

pub group_fault : (c b d : Cut) → text_at w64 anything c ≡ Ok (b, d) → IsFault (whole payload_at b) → found (group_at c) ≡ None
unfolding group_at
group_fault c b d is fault =
    ap (λ (r : Read Cut). found (r >>= λ b. whole payload_at b.0 >>= λ g. Ok (g, b.1))) is
    ∙ ap (λ (r : Result Group ℕ). found (r >>= λ g. Ok (g, d))) fault.1
