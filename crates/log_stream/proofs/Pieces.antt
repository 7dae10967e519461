-- What a piece shows of a device's bytes.
use Rattle.std.proofs.Common.{◌≡◌, inl, inr, ⊎_elim, ℕ, ◌+◌, ◌-◌, ◌^◌, ◌<◌, ◌≤◌, Bool, true, false, cond, ltb, List, [], ◌++◌, length, take, drop, Option, Some, None, Ok, Err, refl, sym, ap, subst, ◌∙◌, append_assoc, arith, length-append, length-drop, length-take, take-append-drop, drop-drop, drop_at, take-add}
use Rattle.std.proofs.lemmas.Bool.{ltb-true}
use Rattle.std.proofs.lemmas.List.{drop_all, drop-append-le}
use Rattle.std.specs.Int.{Width, w8, w32, w64, byte_len, to_be_bytes, from_be_bytes}
use Rattle.disk_model.specs.Cells.{Cells, IsImage}
use Rattle.smart_base.specs.Cuts.{Cut, IsBytes, ◌>>=◌, front, past, number_at}
use Rattle.smart_base.specs.Spelling.{Extends, Law}
use Rattle.smart_base.specs.FieldLaws.{u8_law, u32_law, u64_law}
use Rattle.store_form.specs.Reading.{all_of}
use Rattle.log_stream.specs.declared.window.Window.{Window}
use Rattle.log_stream.specs.Windows.{OnlyRead, Shows, Part, IsAt, part_of}

-- ---- a device that is read several times

module _ {D : Type 0} (cells : D → Cells) (moment : D → ℕ) (left_since : D → ℕ → List ℕ → Type 0) where
  pub not_read : (d : D) → OnlyRead cells moment left_since d d
  not_read d = record { same = refl; time = record { later = omega arith; nothing_else = λ t c le left. inl left; keeps = λ t c le left. left } }

  pub read_on : (old mid new : D) → OnlyRead cells moment left_since old mid → OnlyRead cells moment left_since mid new → OnlyRead cells moment left_since old new
  read_on old mid new a b = record {
    same = b.same ∙ a.same;
    time = record {
      later = omega (arith, a.time.later, b.time.later);
      nothing_else = λ t c le left. ⊎_elim (λ (past : left_since mid t c). ⊎_elim (λ (was : left_since old t c). inl was) (λ (now : IsImage (cells mid) c). inr (subst (λ (s : Cells). IsImage s c) (sym b.same) now)) (a.time.nothing_else t c le past)) (λ (now : IsImage (cells new) c). inr now) (b.time.nothing_else t c (omega (arith, le, a.time.later)) left);
      keeps = λ t c le left. b.time.keeps t c (omega (arith, le, a.time.later)) (a.time.keeps t c le left);
    };
  }

-- ---- pieces

pub shows_nothing : (bytes : List ℕ) (at : ℕ) → Extends [] (drop at bytes)
shows_nothing bytes at = record { rest = drop at bytes; is = refl }

-- a piece that was read from a device
pub shows_read : (old new : Cells) (piece : List ℕ) (at count : ℕ) → new ≡ old → piece ≡ take count (drop at old.now) → Extends piece (drop at new.now)
shows_read old new piece at count same is =
    let l = drop at old.now in
    subst (λ (s : Cells). Extends piece (drop at s.now)) (sym same)
    (record { rest = drop count l; is = sym (take-append-drop count l) ∙ ap (λ (x : List ℕ). x ++ drop count l) (sym is) })

pub part_held : (bytes : List ℕ) (w : Window) (at count : ℕ) → Shows bytes w → w.from ≤ at → at - w.from + count ≤ length w.piece → Part bytes at count (part_of w at)
part_held bytes w at count shows le held =
    let k = at - w.from in
    let there : w.from + k ≡ at = omega (arith, le) in
    record {
      rest = shows.rest;
      are = ap (λ (n : ℕ). drop n bytes) (sym there) ∙ sym (drop-drop k w.from bytes) ∙ ap (drop k) shows.is ∙ drop-append-le k w.piece shows.rest (omega (arith, held));
      all = λ few. absurd (omega (arith, few, held, length-drop k w.piece));
    }

pub part_read : (bytes piece : List ℕ) (at count most : ℕ) → piece ≡ take most (drop at bytes) → count ≤ most → Part bytes at count (drop (at - at) piece)
part_read bytes piece at count most is few =
    let none : at - at ≡ 0 = omega arith in
    let whole : drop (at - at) piece ≡ piece = ap (λ (n : ℕ). drop n piece) none in
    record {
      rest = drop most (drop at bytes);
      are = sym (take-append-drop most (drop at bytes)) ∙ ap (λ (l : List ℕ). l ++ drop most (drop at bytes)) (sym (whole ∙ is));
      all = λ short. drop_all most (drop at bytes) (omega (arith, short, few, ap length (whole ∙ is), length-take most (drop at bytes)));
    }

-- ---- numbers

module _ (w : Width) (limit : ℕ) (law : Law (λ n. n < limit) (to_be_bytes w) (number_at w)) (wide : limit ≡ 256 ^ byte_len w) (long : (n : ℕ) → length (to_be_bytes w n) ≡ byte_len w) where
  number_some : (bytes : List ℕ) (at : ℕ) (part inner : List ℕ) (c : Cut) (n : ℕ) (d : Cut) → Part bytes at (byte_len w) part → inner ≡ part → c ≡ all_of inner → IsBytes c.left → number_at w c ≡ Ok (n, d) → IsAt w bytes at (Some n)
  number_some bytes at part inner c n d p inner_is is fits read =
      let t = law.takes c (n, d) fits read in
      let left : part ≡ to_be_bytes w n ++ d.left = sym (ap (λ (x : Cut). x.left) is ∙ inner_is) ∙ t.1.left in
      let whole : drop at bytes ≡ to_be_bytes w n ++ (d.left ++ p.rest) = p.are ∙ ap (λ (l : List ℕ). l ++ p.rest) left ∙ append_assoc (to_be_bytes w n) d.left p.rest in
      let behind : d.left ++ p.rest ≡ drop (at + byte_len w) bytes = sym (drop_at (to_be_bytes w n) (d.left ++ p.rest) (byte_len w) (long n)) ∙ ap (drop (byte_len w)) (sym whole) ∙ drop-drop (byte_len w) at bytes in
      (subst (λ (m : ℕ). n < m) wide t.0, whole ∙ ap (λ (l : List ℕ). to_be_bytes w n ++ l) behind)

number_short : (w : Width) (c : Cut) (e : ℕ) → number_at w c ≡ Err e → length c.left < byte_len w
unfolding number_at
number_short w c e read = by (ltb (length c.left) (byte_len w)) refl read
  where
    by : (t : Bool) → ltb (length c.left) (byte_len w) ≡ t → ◌>>=◌ {A = Cut × Cut} {B = ℕ × Cut} (cond t (Err c.at) (Ok (front (byte_len w) c, past (byte_len w) c))) (λ n. Ok (from_be_bytes w n.0.left, n.1)) ≡ Err e → length c.left < byte_len w
    by true is same = ltb-true (length c.left) (byte_len w) is
    by false is same = absurd cc

number_none : (w : Width) (bytes : List ℕ) (at : ℕ) (part inner : List ℕ) (c : Cut) (e : ℕ) → Part bytes at (byte_len w) part → inner ≡ part → c ≡ all_of inner → number_at w c ≡ Err e → IsAt w bytes at None
number_none w bytes at part inner c e p inner_is is read =
    let same : c.left ≡ part = ap (λ (x : Cut). x.left) is ∙ inner_is in
    let few : length part < byte_len w = omega (arith, number_short w c e read, ap length same) in
    let long : length p.rest ≡ 0 = ap length (p.all few) in
    omega (arith, few, ap length p.are, length-append part p.rest, long)

pub some8 : (bytes : List ℕ) (at : ℕ) (part inner : List ℕ) (c : Cut) (n : ℕ) (d : Cut) → Part bytes at 1 part → inner ≡ part → c ≡ all_of inner → IsBytes c.left → number_at w8 c ≡ Ok (n, d) → IsAt w8 bytes at (Some n)
some8 = number_some w8 (2 ^ 8) u8_law refl (λ n. refl)

pub none8 : (bytes : List ℕ) (at : ℕ) (part inner : List ℕ) (c : Cut) (e : ℕ) → Part bytes at 1 part → inner ≡ part → c ≡ all_of inner → number_at w8 c ≡ Err e → IsAt w8 bytes at None
none8 = number_none w8

pub some32 : (bytes : List ℕ) (at : ℕ) (part inner : List ℕ) (c : Cut) (n : ℕ) (d : Cut) → Part bytes at 4 part → inner ≡ part → c ≡ all_of inner → IsBytes c.left → number_at w32 c ≡ Ok (n, d) → IsAt w32 bytes at (Some n)
some32 = number_some w32 (2 ^ 32) u32_law refl (λ n. refl)

pub none32 : (bytes : List ℕ) (at : ℕ) (part inner : List ℕ) (c : Cut) (e : ℕ) → Part bytes at 4 part → inner ≡ part → c ≡ all_of inner → number_at w32 c ≡ Err e → IsAt w32 bytes at None
none32 = number_none w32

pub some64 : (bytes : List ℕ) (at : ℕ) (part inner : List ℕ) (c : Cut) (n : ℕ) (d : Cut) → Part bytes at 8 part → inner ≡ part → c ≡ all_of inner → IsBytes c.left → number_at w64 c ≡ Ok (n, d) → IsAt w64 bytes at (Some n)
some64 = number_some w64 (2 ^ 64) u64_law refl (λ n. refl)

pub none64 : (bytes : List ℕ) (at : ℕ) (part inner : List ℕ) (c : Cut) (e : ℕ) → Part bytes at 8 part → inner ≡ part → c ≡ all_of inner → number_at w64 c ≡ Err e → IsAt w64 bytes at None
none64 = number_none w64

-- a number at an index of a device that was read since
pub at_is : (w : Width) (old new : Cells) (at : ℕ) (o p : Option ℕ) → new ≡ old → o ≡ p → IsAt w new.now at o → IsAt w old.now at p
at_is w old new at o p same is there = subst (λ (s : Cells). IsAt w s.now at p) same (subst (λ (x : Option ℕ). IsAt w new.now at x) is there)

-- one piece more
pub read_more : (old new : Cells) (before after piece added : List ℕ) (at done next : ℕ) → new ≡ old → before ≡ take done (drop at old.now) → piece ≡ take next (drop (at + done) new.now) → added ≡ piece → after ≡ before ++ added → after ≡ take (done + next) (drop at old.now)
read_more old new before after piece added at done next same front read as_read is =
    let more : piece ≡ take next (drop done (drop at old.now)) = read ∙ ap (λ (s : Cells). take next (drop (at + done) s.now)) same ∙ ap (take next) (sym (drop-drop done at old.now)) in
    is ∙ ap (λ (l : List ℕ). before ++ l) as_read ∙ ap (λ (l : List ℕ). l ++ piece) front ∙ ap (λ (l : List ℕ). take done (drop at old.now) ++ l) more ∙ sym (take-add done next (drop at old.now))
