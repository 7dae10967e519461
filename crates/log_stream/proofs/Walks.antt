-- A walk over the entries of a group reads what the reading of the group reads.
use Rattle.std.proofs.Common.{◌≡◌, ◌≢◌, ⊎_elim, ℕ, zero, suc, ◌+◌, ◌-◌, ◌*◌, ◌^◌, ◌<◌, ◌≤◌, ◌==◌, Bool, true, false, cond, List, [], ◌∷◌, ◌++◌, length, take, drop, Some, None, Ok, Err, refl, sym, ap, subst, ◌∙◌, append_assoc, arith, length-append, length-drop, length-take, take-append-drop, drop-drop}
use Rattle.std.proofs.lemmas.Bool.{cases_lt, eqb-true, eqb-false}
use Rattle.std.proofs.lemmas.Grind.{flat_map-append}
use Rattle.std.proofs.lemmas.List.{append-nil}
use Rattle.std.proofs.Math.Seq.{take-append-add}
use Rattle.std.specs.Int.{w32, w64, to_be_bytes}
use Rattle.smart_base.specs.Lists.{Each}
use Rattle.smart_base.specs.Cuts.{Cut, Read, ◌>>=◌, number_at, text_at, anything, whole, times_at}
use Rattle.smart_base.specs.Spelling.{behind}
use Rattle.smart_base.specs.Laws.{cut, bind_is, with_front, text_field, wide64}
use Rattle.smart_base.specs.FieldLaws.{u32_law, u64_law}
use Rattle.store_form.specs.Spelling.{Group, payload, group_text, IsEntry}
use Rattle.store_form.specs.Reading.{all_of, entry_at, payload_at}
use Rattle.store_form.specs.Laws.{entry_law}
use Rattle.disk_model.specs.Cells.{Cells}
use Rattle.log_stream.specs.Windows.{IsAt}
use Rattle.log_stream.specs.Walks.{texts, IsFault, Walked, GroupFound}
use Rattle.log_stream.proofs.Faults.{number_fault, text_short, text_over, entry_fault, times_fault, front_fault, whole_fault, whole_left, group_short, group_fault}

-- ---- entries, and what is read behind them

front_nil : (r : Read Group) → with_front [] r ≡ r
front_nil (Ok x) = refl
front_nil (Err e) = refl

front_cons : (e : List ℕ) (es : Group) (r : Read Group) → (with_front es r >>= λ xs. Ok (e ∷ xs.0, xs.1)) ≡ with_front (e ∷ es) r
front_cons e es (Ok x) = refl
front_cons e es (Err x) = refl

none_more : (es : Group) (d : Cut) → with_front es (times_at entry_at 0 d) ≡ Ok (es ++ [], d)
unfolding times_at
none_more es d = refl

times_front : (es : Group) (n left a : ℕ) (x : List ℕ) → Each IsEntry es → n ≡ length es + left
    → (b : ℕ) × (times_at entry_at n (cut a (texts es ++ x)) ≡ with_front es (times_at entry_at left (cut b x)))
unfolding times_at
times_front [] n left a x each is =
    let same : n ≡ left = omega (arith, is) in
    (a, ap (λ (k : ℕ). times_at entry_at k (cut a x)) same ∙ sym (front_nil (times_at entry_at left (cut a x))))
times_front (e ∷ es) zero left a x each is = absurd (omega (arith, is))
times_front (e ∷ es) (suc n) left a x each is =
    let c : Cut = cut a (texts (e ∷ es) ++ x) in
    let d : Cut = cut (a + length (behind w32 e)) (texts es ++ x) in
    let one : entry_at c ≡ Ok (e, d) = entry_law.again c e d each.0 (record { left = append_assoc (behind w32 e) (texts es) x; at = refl }) in
    let more = times_front es n left (a + length (behind w32 e)) x each.1 (omega (arith, is)) in (
      more.0,
      bind_is (entry_at c) (λ y. times_at entry_at n y.1 >>= λ ys. Ok (y.0 ∷ ys.0, ys.1)) (e, d) one
          ∙ ap (λ (r : Read Group). r >>= λ ys. Ok (e ∷ ys.0, ys.1)) more.1
          ∙ front_cons e es (times_at entry_at left (cut more.0 x)),
    )

pub texts_push : (es : Group) (e : List ℕ) (x : List ℕ) → texts (es ++ e ∷ []) ++ x ≡ texts es ++ (behind w32 e ++ x)
texts_push es e x =
    ap (λ (l : List ℕ). l ++ x) (flat_map-append (λ entry. behind w32 entry) es (e ∷ []) ∙ ap (λ (l : List ℕ). texts es ++ l) (append-nil (behind w32 e)))
    ∙ append_assoc (texts es) (behind w32 e) x

pub length-texts_push : (es : Group) (e : List ℕ) → length (texts (es ++ e ∷ [])) ≡ length (texts es) + (4 + length e)
length-texts_push es e = ap length (sym (append-nil (texts (es ++ e ∷ [])))) ∙ ap length (texts_push es e []) ∙ length-append (texts es) (behind w32 e ++ []) ∙ ap (λ (n : ℕ). length (texts es) + n) (ap length (append-nil (behind w32 e)) ∙ length-append (to_be_bytes w32 (length e)) e)

pub each_push : (es : Group) (e : List ℕ) → Each IsEntry es → IsEntry e → Each IsEntry (es ++ e ∷ [])
each_push [] e each fits = (fits, tt)
each_push (f ∷ es) e each fits = (each.0, each_push es e each.1 fits)

pub texts_long : (es : Group) → 4 * length es ≤ length (texts es)
texts_long [] = omega arith
texts_long (e ∷ es) = omega (arith, texts_long es, length-append (behind w32 e) (texts es), length-append (to_be_bytes w32 (length e)) e)

-- ---- a walk that has come to an index

-- the entries that were walked over
pub record Come (bytes : List ℕ) (start at count left : ℕ) : Type 0 where
  pub group : Group
  pub each : Each IsEntry group
  pub many : length group + left ≡ count
  pub are : drop start bytes ≡ texts group ++ drop at bytes
  pub goes : at ≡ start + length (texts group)

pub come_first : (bytes : List ℕ) (start count : ℕ) → Come bytes start start count count
come_first bytes start count = record { group = []; each = tt; many = omega arith; are = refl; goes = omega arith }

-- an entry at an index, if there is room for it
entry_there : (bytes : List ℕ) (at size : ℕ) → IsAt w32 bytes at (Some size) → at + 4 + size ≤ length bytes
    → (e : List ℕ) × ((length e ≡ size) × (drop at bytes ≡ behind w32 e ++ drop (at + 4 + size) bytes))
entry_there bytes at size is inside =
    let e = take size (drop (at + 4) bytes) in
    let long : length e ≡ size = omega (arith, length-take size (drop (at + 4) bytes), length-drop (at + 4) bytes, inside) in
    let rest : drop (at + 4) bytes ≡ e ++ drop (at + 4 + size) bytes = sym (take-append-drop size (drop (at + 4) bytes)) ∙ ap (λ (l : List ℕ). e ++ l) (drop-drop size (at + 4) bytes) in
    (e, (long, is.1 ∙ ap (λ (l : List ℕ). to_be_bytes w32 size ++ l) rest ∙ sym (append_assoc (to_be_bytes w32 size) e (drop (at + 4 + size) bytes)) ∙ ap (λ (n : ℕ). (to_be_bytes w32 n ++ e) ++ drop (at + 4 + size) bytes) (sym long)))

pub come_next : (bytes : List ℕ) (start at count left size next less : ℕ) → Come bytes start at count left → IsAt w32 bytes at (Some size) → at + 4 + size ≤ length bytes → next ≡ at + 4 + size → less + 1 ≡ left
    → Come bytes start next count less
come_next bytes start at count left size next less c is inside goes falls =
    let found = entry_there bytes at size is inside in
    let here : drop (at + 4 + size) bytes ≡ drop next bytes = ap (λ (n : ℕ). drop n bytes) (sym goes) in
    record {
      group = c.group ++ found.0 ∷ [];
      each = each_push c.group found.0 c.each (subst (λ (n : ℕ). n < 2 ^ 32) (sym found.1.0) is.0);
      many = omega (arith, c.many, falls, length-append c.group (found.0 ∷ []));
      are = c.are ∙ ap (λ (l : List ℕ). texts c.group ++ l) found.1.1 ∙ sym (texts_push c.group found.0 (drop (at + 4 + size) bytes)) ∙ ap (λ (l : List ℕ). texts (c.group ++ found.0 ∷ []) ++ l) here;
      goes = omega (arith, goes, c.goes, found.1.0, length-texts_push c.group found.0);
    }

module _ (bytes : List ℕ) (start at to count left : ℕ) (c : Come bytes start at count left) (before : at ≤ to) (inside : to ≤ length bytes) where
  text_is : take (to - start) (drop start bytes) ≡ texts c.group ++ take (to - at) (drop at bytes)
  text_is =
      let more : to - start ≡ length (texts c.group) + (to - at) = omega (arith, c.goes, before) in
      ap (λ (l : List ℕ). take (to - start) l) c.are ∙ ap (λ (n : ℕ). take n (texts c.group ++ drop at bytes)) more ∙ take-append-add (texts c.group) (drop at bytes) (to - at)

  along : (a : ℕ) → (b : ℕ) × (times_at entry_at count (cut a (take (to - start) (drop start bytes))) ≡ with_front c.group (times_at entry_at left (cut b (take (to - at) (drop at bytes)))))
  along a =
      let t = times_front c.group count left a (take (to - at) (drop at bytes)) c.each (sym c.many) in
      (t.0, ap (λ (l : List ℕ). times_at entry_at count (cut a l)) text_is ∙ t.1)

  -- the next entry cannot be read
  no_entry : 0 < left → ((b : ℕ) → IsFault (entry_at (cut b (take (to - at) (drop at bytes))))) → Walked bytes start to count false
  no_entry some fault = λ a.
      let t = along a in
      let f = front_fault c.group (times_at entry_at left (cut t.0 (take (to - at) (drop at bytes)))) (times_fault left (cut t.0 (take (to - at) (drop at bytes))) some (fault t.0)) in
      whole_fault (times_at entry_at count) (cut a (take (to - start) (drop start bytes))) (f.0, t.1 ∙ f.1)

  pub walk_short : 0 < left → to - at < 4 → Walked bytes start to count false
  walk_short some few = no_entry some (λ b.
      let x = take (to - at) (drop at bytes) in
      let short : length x < 4 = omega (arith, few, length-take (to - at) (drop at bytes)) in
      entry_fault (cut b x) (text_short w32 (cut b x) short))

  pub walk_over : (size : ℕ) → 0 < left → IsAt w32 bytes at (Some size) → 4 ≤ to - at → to - at - 4 < size → Walked bytes start to count false
  walk_over size some is there over = no_entry some (λ b.
      let x = take (to - at) (drop at bytes) in
      let y = take (to - at - 4) (drop (at + 4) bytes) in
      let parts : to - at ≡ 4 + (to - at - 4) = omega (arith, there) in
      let spelled : x ≡ to_be_bytes w32 size ++ y = ap (λ (l : List ℕ). take (to - at) l) is.1 ∙ ap (λ (n : ℕ). take n (to_be_bytes w32 size ++ drop (at + 4) bytes)) parts ∙ take-append-add (to_be_bytes w32 size) (drop (at + 4) bytes) (to - at - 4) in
      let less : length y < size = omega (arith, over, length-take (to - at - 4) (drop (at + 4) bytes)) in
      entry_fault (cut b x) (text_over w32 (2 ^ 32) u32_law (cut b x) size (cut (b + 4) y) is.0 (record { left = spelled; at = refl }) less))

  pub walk_missing : IsAt w32 bytes at None → 4 ≤ to - at → Walked bytes start to count false
  walk_missing is there = absurd (omega (arith, is, there, inside, length-drop at bytes))

  pub walk_left : left ≡ 0 → at ≢ to → Walked bytes start to count false
  walk_left none apart = λ a.
      let x = take (to - at) (drop at bytes) in
      let t = along a in
      let some : 0 < length x = omega (arith, apart, before, inside, length-take (to - at) (drop at bytes), length-drop at bytes) in
      whole_left (times_at entry_at count) (cut a (take (to - start) (drop start bytes))) (c.group ++ []) (cut t.0 x)
      (t.1 ∙ ap (λ (n : ℕ). with_front c.group (times_at entry_at n (cut t.0 x))) none ∙ none_more c.group (cut t.0 x)) some

  pub walk_whole : left ≡ 0 → at ≡ to → Walked bytes start to count true
  walk_whole none same = record {
    group = c.group;
    each = c.each;
    many = omega (arith, c.many, none);
    are = c.are ∙ ap (λ (n : ℕ). texts c.group ++ drop n bytes) same;
    goes_to = sym same ∙ c.goes;
  }

  pub walk_ends : left ≡ 0 → (t : Bool) → (at == to) ≡ t → Walked bytes start to count t
  walk_ends none true is = walk_whole none (eqb-true at to is)
  walk_ends none false is = walk_left none (eqb-false at to is)

-- ---- a group

payload_short : (p : Cut) → length p.left < 8 → IsFault (whole payload_at p)
unfolding payload_at
payload_short p short = whole_fault payload_at p (p.at, ap (λ (r : Read ℕ). r >>= λ n. times_at entry_at n.0 n.1) (number_fault w64 p short))

module _ (bytes : List ℕ) (gate : ℕ) where
  pub no_length : IsAt w64 bytes (gate + 1) None → GroupFound bytes gate None
  no_length is = group_short (all_of (drop (gate + 1) bytes)) (text_short w64 (all_of (drop (gate + 1) bytes)) is)

module _ (bytes : List ℕ) (gate size : ℕ) (is : IsAt w64 bytes (gate + 1) (Some size)) where
  after : drop (gate + 1 + 8) bytes ≡ drop (gate + 9) bytes
  after = let same : gate + 1 + 8 ≡ gate + 9 = omega arith in ap (λ (n : ℕ). drop n bytes) same

  are : drop (gate + 1) bytes ≡ to_be_bytes w64 size ++ drop (gate + 9) bytes
  are = is.1 ∙ ap (λ (l : List ℕ). to_be_bytes w64 size ++ l) after

  pub group_over : length (drop (gate + 9) bytes) < size → GroupFound bytes gate None
  group_over over =
      let c = all_of (drop (gate + 1) bytes) in
      group_short c (text_over w64 (2 ^ 64) u64_law c size (cut 8 (drop (gate + 9) bytes)) is.0 (record { left = are; at = refl }) over)

  payload_read : size ≤ length (drop (gate + 9) bytes) → (a : ℕ) × (text_at w64 anything (all_of (drop (gate + 1) bytes)) ≡ Ok (cut a (take size (drop (gate + 9) bytes)), cut (8 + size) (drop size (drop (gate + 9) bytes))))
  payload_read inside =
      let p = take size (drop (gate + 9) bytes) in
      let long : length p ≡ size = omega (arith, inside, length-take size (drop (gate + 9) bytes)) in
      let d : Cut = cut (8 + size) (drop size (drop (gate + 9) bytes)) in
      let spelled : drop (gate + 1) bytes ≡ behind w64 p ++ drop size (drop (gate + 9) bytes) =
      are ∙ ap (λ (l : List ℕ). to_be_bytes w64 size ++ l) (sym (take-append-drop size (drop (gate + 9) bytes))) ∙ sym (append_assoc (to_be_bytes w64 size) p (drop size (drop (gate + 9) bytes)))
      ∙ ap (λ (n : ℕ). (to_be_bytes w64 n ++ p) ++ drop size (drop (gate + 9) bytes)) (sym long) in
      (text_field w64 (2 ^ 64) anything wide64).again (all_of (drop (gate + 1) bytes)) p d (subst (λ (n : ℕ). n < 2 ^ 64) (sym long) is.0, refl)
      (record { left = spelled; at = omega (arith, length-append (to_be_bytes w64 (length p)) p, long) })

  pub group_small : size < 8 → GroupFound bytes gate None
  group_small small = ⊎_elim (λ (over : length (drop (gate + 9) bytes) < size). group_over over)
      (λ (inside : size ≤ length (drop (gate + 9) bytes)).
      let t = payload_read inside in
      let p : Cut = cut t.0 (take size (drop (gate + 9) bytes)) in
      let short : length p.left < 8 = omega (arith, small, length-take size (drop (gate + 9) bytes)) in
      group_fault (all_of (drop (gate + 1) bytes)) p (cut (8 + size) (drop size (drop (gate + 9) bytes))) t.1 (payload_short p short)) (cases_lt (length (drop (gate + 9) bytes)) size)

module _ (bytes : List ℕ) (gate size count : ℕ) (is : IsAt w64 bytes (gate + 1) (Some size)) (counts : IsAt w64 bytes (gate + 9) (Some count)) (big : 8 ≤ size) (inside : size ≤ length (drop (gate + 9) bytes)) where
  behind_count : drop (gate + 9 + 8) bytes ≡ drop (gate + 17) bytes
  behind_count = let same : gate + 9 + 8 ≡ gate + 17 = omega arith in ap (λ (n : ℕ). drop n bytes) same

  counted : drop (gate + 9) bytes ≡ to_be_bytes w64 count ++ drop (gate + 17) bytes
  counted = counts.1 ∙ ap (λ (l : List ℕ). to_be_bytes w64 count ++ l) behind_count

  payload_walked : (a : ℕ) → whole payload_at (cut a (take size (drop (gate + 9) bytes))) ≡ whole (times_at entry_at count) (cut (a + 8) (take (size - 8) (drop (gate + 17) bytes)))
  unfolding whole payload_at
  payload_walked a =
      let q = take (size - 8) (drop (gate + 17) bytes) in
      let c : Cut = cut a (take size (drop (gate + 9) bytes)) in
      let parts : size ≡ 8 + (size - 8) = omega (arith, big) in
      let spelled : take size (drop (gate + 9) bytes) ≡ to_be_bytes w64 count ++ q = ap (λ (l : List ℕ). take size l) counted ∙ ap (λ (n : ℕ). take n (to_be_bytes w64 count ++ drop (gate + 17) bytes)) parts ∙ take-append-add (to_be_bytes w64 count) (drop (gate + 17) bytes) (size - 8) in
      ap (λ (r : Read Group). r >>= λ x. cond (length x.1.left == 0) (Ok x.0) (Err x.1.at))
      (bind_is (number_at w64 c) (λ n. times_at entry_at n.0 n.1) (count, cut (a + 8) q) (u64_law.again c count (cut (a + 8) q) counts.0 (record { left = spelled; at = refl })))

  pub group_torn : Walked bytes (gate + 17) (gate + 9 + size) count false → GroupFound bytes gate None
  group_torn walked =
      let t = payload_read bytes gate size is inside in
      let w = walked (t.0 + 8) in
      let same : gate + 9 + size - (gate + 17) ≡ size - 8 = omega (arith, big) in
      let there : whole (times_at entry_at count) (cut (t.0 + 8) (take (size - 8) (drop (gate + 17) bytes))) ≡ Err w.0 = ap (λ (n : ℕ). whole (times_at entry_at count) (cut (t.0 + 8) (take n (drop (gate + 17) bytes)))) (sym same) ∙ w.1 in
      group_fault (all_of (drop (gate + 1) bytes)) (cut t.0 (take size (drop (gate + 9) bytes))) (cut (8 + size) (drop size (drop (gate + 9) bytes))) t.1 (w.0, payload_walked t.0 ∙ there)

  pub group_whole : Walked bytes (gate + 17) (gate + 9 + size) count true → GroupFound bytes gate (Some (count, gate + 9 + size))
  unfolding payload group_text
  group_whole e =
      let text : payload e.group ≡ to_be_bytes w64 count ++ texts e.group = ap (λ (n : ℕ). to_be_bytes w64 n ++ texts e.group) e.many in
      let long : length (payload e.group) ≡ size = omega (arith, ap length text, length-append (to_be_bytes w64 count) (texts e.group), e.goes_to) in
      let to = gate + 9 + size in
      record {
        group = e.group;
        fits = record { few = subst (λ (n : ℕ). n < 2 ^ 64) (sym e.many) counts.0; each = e.each; small = subst (λ (n : ℕ). n < 2 ^ 64) (sym long) is.0 };
        many = e.many;
        are =
            are bytes gate size is ∙ ap (λ (l : List ℕ). to_be_bytes w64 size ++ l) (counted ∙ ap (λ (l : List ℕ). to_be_bytes w64 count ++ l) e.are ∙ sym (append_assoc (to_be_bytes w64 count) (texts e.group) (drop to bytes)) ∙ ap (λ (l : List ℕ). l ++ drop to bytes) (sym text))
            ∙ sym (append_assoc (to_be_bytes w64 size) (payload e.group) (drop to bytes)) ∙ ap (λ (n : ℕ). (to_be_bytes w64 n ++ payload e.group) ++ drop to bytes) (sym long);
        entries = e.are;
        goes_to = omega (arith, long, length-append (to_be_bytes w64 (length (payload e.group))) (payload e.group));
      }

-- a walk over a device that was read since
pub walked_is : (old new : Cells) (start from to count : ℕ) (t u : Bool) → new ≡ old → start ≡ from → t ≡ u → Walked new.now start to count t → Walked old.now from to count u
walked_is old new start from to count t u same goes is walked =
    subst (λ (s : Cells). Walked s.now from to count u) same (subst (λ (n : ℕ). Walked new.now n to count u) goes (subst (λ (b : Bool). Walked new.now start to count b) is walked))
