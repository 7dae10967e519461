-- No proper front of a trail's bytes is trails.
use Rattle.std.proofs.Common.{◌≡◌, ◌∙◌, ◌⊎◌, ℕ, zero, suc, ◌+◌, ◌<◌, ◌≤◌, Bool, true, false, cond, List, [], ◌∷◌, ◌++◌, length, Option, Some, None, refl, ap, sym, subst, inl, inr, arith, length-append}
use Rattle.std.proofs.lemmas.Bool.{ltb-false, le-ltb}
use Rattle.std.proofs.lemmas.List.{take-append-le, drop-append-le}
use Rattle.std.specs.Prelude.{Result, Ok, Err, nat_lt, not, ◌||◌, is_some, option_map}
use Rattle.std.specs.Int.{Width, w32, byte_len, from_be_bytes}
use Rattle.std.specs.Option.{option_and_then}
use Rattle.smart_base.specs.Cuts.{Cut, Read, ◌>>=◌, fixed_at, front, past, number_at, ranged, anything, fault_at, text_at, bytes_at, contents}
use Rattle.trail.specs.Events.{event_decoded}
use Rattle.trail.specs.Openings.{opening_decoded, text_field_at}
use Rattle.trail.specs.declared.event.TrailEvent.{TrailEvent}
use Rattle.trail.specs.declared.opening.TrailOpening.{TrailOpening}
use Rattle.audit_rules.specs.declared.recorded.Recorded.{Recorded}
use Rattle.audit_rules.specs.declared.recorded.Reading.{Reading}
use Rattle.audit_rules.specs.declared.recorded.TheConstants.{PARTS}
use Rattle.audit_rules.specs.Audits.{is_client}
use Rattle.audit_rules.specs.Readings.{unread, is_known, beginning, opening_taken, entry_taken, may_happen, is_end, with_event, event_added, event_taken, part_taken, takes, Reached, reaches, next_part, after_parts, parts_read, damaged_part, all_begun, AreRead, StopsAt, PassesLimit}
use Rattle.audit_play.specs.Ends.{Ended}
use Rattle.audit_play.specs.declared.status.AuditStatus.{AuditStatus}
use Rattle.audit_play.specs.declared.status.AuditStatus.TheVariants as ends
use Rattle.audit_laws.specs.Completeness.{IsOfFront}
use Rattle.audit_laws.proofs.Complete.{same-input}
use Rattle.audit_laws.proofs.Exclusive.{after-step, no-bytes, passes-at, never-empty, never-stops, some-one, stuck, undamaged}

-- ---- a field that can be read, can be with more bytes behind it

abbrev behind : Cut → List ℕ → Cut
behind c ys = record { at = c.at; left = c.left ++ ys }

-- what is read of bytes is read with more behind them
abbrev Stays : {A : Type 0} → List ℕ → Read A → Read A → Type 0
Stays {A} ys f g = (x : A) (d : Cut) → f ≡ Ok (x, d) → g ≡ Ok (x, behind d ys)

abbrev longer_read : {A : Type 0} → List ℕ → A × Cut → Read A
longer_read ys p = Ok (p.0, behind p.1 ys)

ok-one : {A : Type 0} (p q : A × Cut) (e : Read A) → e ≡ Ok p → e ≡ Ok q → p ≡ q
ok-one p q e first other = cc

ok-stays : {A : Type 0} (ys : List ℕ) (x : A) (d : Cut) → Stays ys (Ok (x, d)) (Ok (x, behind d ys))
ok-stays {A} ys x d = λ y e is. ap (λ (p : A × Cut). longer_read ys p) (ok-one (x, d) (y, e) (Ok (x, d)) refl is)

then-stays : {A B : Type 0} (ys : List ℕ) (f g : Read A) (h : A × Cut → Read B) → Stays ys f g → ((x : A) (d : Cut) → Stays ys (h (x, d)) (h (x, behind d ys))) → Stays ys (f >>= h) (g >>= h)
then-stays ys (Err at) g h first next = λ y e is. absurd (cc)
then-stays {A} ys (Ok (x, d)) g h first next = λ y e is. ap (λ (r : Read A). r >>= h) (first x d refl) ∙ next x d y e is

fixed-if : (n : ℕ) (c : Cut) (ys : List ℕ) (few : Bool) (x d : Cut) → nat_lt (length c.left) n ≡ few → cond {A = Read Cut} few (Err c.at) (Ok (front n c, past n c)) ≡ Ok (x, d) → fixed_at n (behind c ys) ≡ Ok (x, behind d ys)
fixed-if n c ys true x d few is = absurd (cc)
fixed-if n c ys false x d few is =
    let least : n ≤ length c.left = ltb-false (length c.left) n few in
    let long : nat_lt (length (c.left ++ ys)) n ≡ false = le-ltb (length (c.left ++ ys)) n (omega (arith, least, length-append c.left ys)) in
    rw (long, take-append-le n c.left ys least, drop-append-le n c.left ys least)
    (ap (λ (p : Cut × Cut). longer_read ys p) (ok-one (front n c, past n c) (x, d) (Ok (front n c, past n c)) refl is))

fixed-stays : (n : ℕ) (c : Cut) (ys : List ℕ) → Stays ys (fixed_at n c) (fixed_at n (behind c ys))
fixed-stays n c ys = λ x d is. fixed-if n c ys (nat_lt (length c.left) n) x d refl is

number-stays : (w : Width) (c : Cut) (ys : List ℕ) → Stays ys (number_at w c) (number_at w (behind c ys))
unfolding number_at
number-stays w c ys =
    then-stays ys (fixed_at (byte_len w) c) (fixed_at (byte_len w) (behind c ys)) (λ (n : Cut × Cut). Ok (from_be_bytes w n.0.left, n.1)) (fixed-stays (byte_len w) c ys)
    (λ x d. ok-stays ys (from_be_bytes w x.left) d)

any-stays : (w : Width) (c : Cut) (ys : List ℕ) → Stays ys (ranged anything (number_at w) c) (ranged anything (number_at w) (behind c ys))
unfolding ranged
any-stays w c ys = then-stays ys (number_at w c) (number_at w (behind c ys)) (λ (x : ℕ × Cut). Ok x) (number-stays w c ys) (λ x d. ok-stays ys x d)

fault-stays : {A : Type 0} (at : ℕ) (ys : List ℕ) (f g : Read A) → Stays ys f g → Stays ys (fault_at at f) (fault_at at g)
fault-stays at ys (Err e) g first = λ y d is. absurd (cc)
fault-stays {A} at ys (Ok (x, d)) g first = λ y e is. ap (λ (r : Read A). fault_at at r) (first x d refl) ∙ ok-stays ys x d y e is

text-stays : (c : Cut) (ys : List ℕ) → Stays ys (bytes_at c) (bytes_at (behind c ys))
unfolding text_at
text-stays c ys =
    then-stays ys (ranged anything (number_at w32) c) (ranged anything (number_at w32) (behind c ys)) (λ (n : ℕ × Cut). fault_at c.at (fixed_at n.0 n.1)) (any-stays w32 c ys)
    (λ x d. fault-stays c.at ys (fixed_at x d) (fixed_at x (behind d ys)) (fixed-stays x d ys))

field-stays : (c : Cut) (ys : List ℕ) → Stays ys (text_field_at c) (text_field_at (behind c ys))
unfolding contents
field-stays c ys = then-stays ys (bytes_at c) (bytes_at (behind c ys)) (λ (b : Cut × Cut). Ok (b.0.left, b.1)) (text-stays c ys) (λ x d. ok-stays ys x.left d)

-- ---- so can parts

abbrev longer : Reached → List ℕ → Reached
longer x ys = record { reading = x.reading; cut = behind x.cut ys }

taken-longer : (taken : Option Reading) (d : Cut) (ys : List ℕ) (y : Reached) → option_map (λ (s : Reading). record { reading = s; cut = d }) taken ≡ Some y
    → option_map (λ (s : Reading). record { reading = s; cut = behind d ys }) taken ≡ Some (longer y ys)
taken-longer None d ys y is = absurd (cc)
taken-longer (Some s) d ys y is = ap (λ (z : Reached). Some (longer z ys)) (some-one (record { reading = s; cut = d }) y is)

reach-longer : (r : Reading) (ys : List ℕ) (f g : Read (List ℕ)) (y : Reached) → Stays ys f g → reaches r f ≡ Some y → reaches r g ≡ Some (longer y ys)
reach-longer r ys (Err at) g y first is = absurd (cc)
reach-longer r ys (Ok (bytes, d)) g y first is = ap (λ (k : Read (List ℕ)). reaches r k) (first bytes d refl) ∙ taken-longer (takes r bytes) d ys y is

next-longer : (x y : Reached) (ys : List ℕ) → next_part x ≡ Some y → next_part (longer x ys) ≡ Some (longer y ys)
unfolding next_part
next-longer x y ys is = reach-longer x.reading ys (text_field_at x.cut) (text_field_at (behind x.cut ys)) y (field-stays x.cut ys) is

then-longer : (o p : Option Reached) (x : Reached) (ys : List ℕ) → ((z : Reached) → o ≡ Some z → p ≡ Some (longer z ys)) → option_and_then next_part o ≡ Some x → option_and_then next_part p ≡ Some (longer x ys)
then-longer None p x ys before is = absurd (cc)
then-longer (Some z) p x ys before is = ap (λ (q : Option Reached). option_and_then next_part q) (before z refl) ∙ next-longer z x ys is

after-longer : (n : ℕ) (s x : Reached) (ys : List ℕ) → after_parts n (Some s) ≡ Some x → after_parts n (Some (longer s ys)) ≡ Some (longer x ys)
after-longer zero s x ys is = ap (λ (z : Reached). Some (longer z ys)) (some-one s x is)
after-longer (suc n) s x ys is = then-longer (after_parts n (Some s)) (after_parts n (Some (longer s ys))) x ys (λ z here. after-longer n s z ys here) is

-- ---- each part brings a reading further: twice its trails, and one if a trail has begun

abbrev begun_count : Option Recorded → ℕ
begun_count None = 0
begun_count (Some t) = 1

abbrev depth : Reading → ℕ
depth r = length r.trails + length r.trails + begun_count r.begun

one-begun : (begun : Option Recorded) → begun_count begun ≤ 1
one-begun None = omega arith
one-begun (Some t) = omega arith

-- a reading after one more part than that of these trails
abbrev IsPast : List Recorded → Reading → Type 0
IsPast ts s = length ts + length ts + 1 ≤ depth s

past-open : (ts : List Recorded) (known : Bool) (o : TrailOpening) (s : Reading) → cond known None (Some (record { trails = ts; begun = Some (beginning o) })) ≡ Some s → IsPast ts s
past-open ts true o s is = absurd (cc)
past-open ts false o s is = subst (λ (r : Reading). IsPast ts r) (some-one (record { trails = ts; begun = Some (beginning o) }) s is) (omega arith)

past-opening : (ts : List Recorded) (begun : Option Recorded) (read : Result TrailOpening ℕ) (s : Reading) → opening_taken (record { trails = ts; begun = begun }) read ≡ Some s → IsPast ts s
past-opening ts begun (Err at) s is = absurd (cc)
past-opening ts begun (Ok o) s is = past-open ts (is_known ts o.member) o s is

past-entry : (ts : List Recorded) (u : Recorded) (client : Bool) (s : Reading) → cond client None (Some (record { trails = ts; begun = Some u })) ≡ Some s → IsPast ts s
past-entry ts u true s is = absurd (cc)
past-entry ts u false s is = subst (λ (r : Reading). IsPast ts r) (some-one (record { trails = ts; begun = Some u }) s is) (omega arith)

past-added : (ts : List Recorded) (u : Recorded) (end : Bool) → IsPast ts (cond end (record { trails = ts ++ u ∷ []; begun = None }) (record { trails = ts; begun = Some u }))
past-added ts u true = let long = length-append ts (u ∷ []) in omega (arith, long)
past-added ts u false = omega arith

past-event : (ts : List Recorded) (t : Recorded) (e : TrailEvent) (may : Bool) (s : Reading) → cond may (Some (event_added (record { trails = ts; begun = Some t }) t e)) None ≡ Some s → IsPast ts s
past-event ts t e true s is =
    subst (λ (r : Reading). IsPast ts r) (some-one (event_added (record { trails = ts; begun = Some t }) t e) s is) (past-added ts (with_event t e) (is_end e))
past-event ts t e false s is = absurd (cc)

past-read : (ts : List Recorded) (t : Recorded) (read : Result TrailEvent ℕ) (s : Reading) → event_taken (record { trails = ts; begun = Some t }) t read ≡ Some s → IsPast ts s
past-read ts t (Err at) s is = absurd (cc)
past-read ts t (Ok e) s is = past-event ts t e (not (is_client t) || may_happen e) s is

past-next : (ts : List Recorded) (t : Recorded) (more : Bool) (bytes : List ℕ) (s : Reading)
    → cond more (entry_taken (record { trails = ts; begun = Some t }) t bytes) (event_taken (record { trails = ts; begun = Some t }) t (event_decoded bytes)) ≡ Some s → IsPast ts s
past-next ts t true bytes s is = past-entry ts (record t { entries = t.entries ++ bytes ∷ [] }) (is_client t) s is
past-next ts t false bytes s is = past-read ts t (event_decoded bytes) s is

past-part : (ts : List Recorded) (begun : Option Recorded) (bytes : List ℕ) (s : Reading) → part_taken (record { trails = ts; begun = begun }) begun bytes ≡ Some s → IsPast ts s
past-part ts None bytes s is = past-opening ts None (opening_decoded bytes) s is
past-part ts (Some t) bytes s is = past-next ts t (nat_lt (length t.entries) t.opening.entries) bytes s is

past-takes : (r : Reading) (bytes : List ℕ) (s : Reading) → takes r bytes ≡ Some s → IsPast r.trails s
unfolding takes
past-takes r bytes s is = past-part r.trails r.begun bytes s is

past-taken : (ts : List Recorded) (cut : Cut) (y : Reached) (taken : Option Reading) → ((s : Reading) → taken ≡ Some s → IsPast ts s)
    → option_map (λ (s : Reading). record { reading = s; cut = cut }) taken ≡ Some y → IsPast ts y.reading
past-taken ts cut y None each is = absurd (cc)
past-taken ts cut y (Some s) each is = subst (λ (z : Reached). IsPast ts z.reading) (some-one (record { reading = s; cut = cut }) y is) (each s refl)

past-reach : (r : Reading) (read : Read (List ℕ)) (y : Reached) → reaches r read ≡ Some y → IsPast r.trails y.reading
past-reach r (Err at) y is = absurd (cc)
past-reach r (Ok p) y is = past-taken r.trails p.1 y (takes r p.0) (λ s taken. past-takes r p.0 s taken) is

past-next_part : (x y : Reached) → next_part x ≡ Some y → IsPast x.reading.trails y.reading
unfolding next_part
past-next_part x y is = past-reach x.reading (text_field_at x.cut) y is

-- after some part, a trail has begun or one is whole
past-some : (o : Option Reached) (y : Reached) → option_and_then next_part o ≡ Some y → 1 ≤ depth y.reading
past-some None y is = absurd (cc)
past-some (Some z) y is = let least = past-next_part z y is in omega (arith, least)

deeper : (least : ℕ) (o : Option Reached) (y : Reached) → ((z : Reached) → o ≡ Some z → least ≤ depth z.reading) → option_and_then next_part o ≡ Some y → least ≤ depth y.reading
deeper least None y before is = absurd (cc)
deeper least (Some z) y before is =
    let far = before z refl in
    let most = one-begun z.reading.begun in
    let next = past-next_part z y is in
    omega (arith, far, most, next)

after-deeper : (n m : ℕ) (s : Option Reached) (x y : Reached) → after_parts n s ≡ Some x → after_parts (n + m) s ≡ Some y → depth x.reading ≤ depth y.reading
after-deeper n zero s x y first last =
    let none : n + 0 ≡ n = omega arith in
    subst (λ (z : Reached). depth x.reading ≤ depth z.reading) (some-one x y (sym first ∙ subst (λ (j : ℕ). after_parts j s ≡ Some y) none last)) (omega arith)
after-deeper n (suc m) s x y first last =
    let sum : n + suc m ≡ suc (n + m) = omega arith in
    deeper (depth x.reading) (after_parts (n + m) s) y (λ z here. after-deeper n m s x z first here) (subst (λ (j : ℕ). after_parts j s ≡ Some y) sum last)

-- ---- a front stops

none-of : {A : Type 0} (o : Option A) → ((x : A) → o ≡ Some x → ⊥) → o ≡ None
none-of None never = refl
none-of (Some x) never = absurd (never x refl)

-- no bytes, or some
empty-or-more : (xs : List ℕ) → (length xs ≡ 0) ⊎ (0 < length xs)
empty-or-more [] = inl refl
empty-or-more (x ∷ xs) = inr (omega arith)

-- one more part, or none
by-next : (x : Reached) (o : Option Reached) (P : Type 0) → next_part x ≡ o → (next_part x ≡ None → P) → ((y : Reached) → next_part x ≡ Some y → P) → P
by-next x None P is none some = none is
by-next x (Some y) P is none some = some y is

module _ (xs ys : List ℕ) (t : Recorded) (read : AreRead (xs ++ ys) (t ∷ [])) (more : 0 < length ys) where
  abbrev first : Reached
  first = record { reading = unread; cut = record { at = 0; left = xs } }

  abbrev whole : Reached
  whole = record { reading = record { trails = t ∷ []; begun = None }; cut = read.last }

  here : after_parts read.count (Some (longer first ys)) ≡ Some whole
  unfolding parts_read
  here = read.reached

  abbrev Stops : Type 0
  Stops = (xs ≡ []) ⊎ ((part : ℕ) × StopsAt xs part)

  -- the same number of parts of all bytes
  along : (n : ℕ) (x : Reached) → after_parts n (Some first) ≡ Some x → after_parts n (Some (longer first ys)) ≡ Some (longer x ys)
  along n x at = after-longer n first x ys at

  -- bytes are left behind a front, so not all parts are in it
  never-all : (x : Reached) → after_parts read.count (Some first) ≡ Some x → ⊥
  never-all x at =
      let none : length (x.cut.left ++ ys) ≡ 0 = ap (λ (z : Reached). length z.cut.left) (some-one (longer x ys) whole (sym (along read.count x at) ∙ here)) ∙ read.all in
      let long = length-append x.cut.left ys in
      absurd (omega (arith, none, long, more))

  -- nothing is damaged in it
  sound : (n m : ℕ) (x : Reached) → read.count ≡ n + m → after_parts n (Some first) ≡ Some x → damaged_part 0 (all_begun x.reading) ≡ None
  sound n m x count at =
      none-of (damaged_part 0 (all_begun x.reading)) (λ k damaged. undamaged (xs ++ ys) (t ∷ []) read k
      (after-step n m (Some (longer first ys)) (longer x ys) whole k (along n x at) (subst (λ (j : ℕ). after_parts j (Some (longer first ys)) ≡ Some whole) count here) damaged))

  -- a trail has begun behind its first part, and is not whole there
  begun-there : (j m : ℕ) (x y : Reached) → read.count ≡ suc j + suc m → after_parts (suc j) (Some first) ≡ Some x → next_part (longer x ys) ≡ Some y → x.reading.begun ≡ None → ⊥
  begun-there j m x y count at next none =
      let there = along (suc j) x at in
      let some : 1 ≤ depth x.reading = past-some (after_parts j (Some (longer first ys))) (longer x ys) there in
      let far : IsPast x.reading.trails y.reading = past-next_part (longer x ys) y next in
      let after : after_parts (suc (suc j)) (Some (longer first ys)) ≡ Some y = ap (λ (o : Option Reached). option_and_then next_part o) there ∙ next in
      let sum : read.count ≡ suc (suc j) + m = omega (arith, count) in
      let least : depth y.reading ≤ 2 =
      after-deeper (suc (suc j)) m (Some (longer first ys)) y whole after (subst (λ (k : ℕ). after_parts k (Some (longer first ys)) ≡ Some whole) sum here) in
      let begun : begun_count x.reading.begun ≡ 0 = ap begun_count none in
      absurd (omega (arith, some, far, least, begun))

  never-stuck : (j m : ℕ) (x : Reached) → read.count ≡ suc j + suc m → after_parts (suc j) (Some first) ≡ Some x → next_part (longer x ys) ≡ None → ⊥
  never-stuck j m x count at none = no-whole (sym here ∙ subst (λ (k : ℕ). after_parts k (Some (longer first ys)) ≡ None) (sym count) (stuck (suc j) m (Some (longer first ys)) (longer x ys) (along (suc j) x at) none))
    where
      no-whole : Some whole ≡ None → ⊥
      no-whole is = absurd (cc)

  has-begun : (j m : ℕ) (x : Reached) → read.count ≡ suc j + suc m → after_parts (suc j) (Some first) ≡ Some x → (begun : Option Recorded) → x.reading.begun ≡ begun → is_some x.reading.begun ≡ true
  has-begun j m x count at (Some u) is = ap is_some is
  has-begun j m x count at None is =
      absurd (by-next (longer x ys) (next_part (longer x ys)) ⊥ refl (λ none. never-stuck j m x count at none) (λ y next. begun-there j m x y count at next is))

  -- nothing is left of the front, and a part is lacking
  lacking : (n m : ℕ) (x : Reached) → read.count ≡ n + suc m → after_parts n (Some first) ≡ Some x → length x.cut.left ≡ 0 → Stops
  unfolding parts_read
  lacking zero m x count at none = inl (no-bytes xs (ap (λ (z : Reached). length z.cut.left) (some-one first x at) ∙ none))
  lacking (suc j) m x count at none =
      let few = read.few in
      inr (
        suc j + 1,
        record {
          count = suc j;
          few = omega (arith, few, count);
          last = x;
          reached = at;
          cause = inr (sound (suc j) (suc m) x count at, (refl, inl (none, has-begun j m x count at x.reading.begun refl)));
        },
      )

  -- or what is left cannot be read
  refusing : (n m : ℕ) (x : Reached) → read.count ≡ n + suc m → after_parts n (Some first) ≡ Some x → next_part x ≡ None → 0 < length x.cut.left → Stops
  unfolding parts_read
  refusing n m x count at none left =
      let few = read.few in
      inr (
        n + 1,
        record {
          count = n;
          few = omega (arith, few, count);
          last = x;
          reached = at;
          cause = inr (sound n (suc m) x count at, (refl, inr (omega (arith, few, count), (left, none))));
        },
      )

  stops-there : (n m : ℕ) (x : Reached) → read.count ≡ n + suc m → after_parts n (Some first) ≡ Some x → next_part x ≡ None → (length x.cut.left ≡ 0) ⊎ (0 < length x.cut.left) → Stops
  stops-there n m x count at none (inl left) = lacking n m x count at left
  stops-there n m x count at none (inr left) = refusing n m x count at none left

  stops-behind : (m n : ℕ) (x : Reached) → read.count ≡ n + m → after_parts n (Some first) ≡ Some x → Stops
  stops-behind zero n x count at =
      let same : n ≡ read.count = omega (arith, count) in
      absurd (never-all x (subst (λ (k : ℕ). after_parts k (Some first) ≡ Some x) same at))
  stops-behind (suc m) n x count at =
      by-next x (next_part x) Stops refl (λ none. stops-there n m x count at none (empty-or-more x.cut.left))
      (λ y next. stops-behind m (suc n) y (omega (arith, count)) (ap (λ (o : Option Reached). option_and_then next_part o) at ∙ next))

  stops : Stops
  stops = stops-behind read.count 0 first (omega arith) refl

  -- so it is no trails
  no-trails : (trails : List Recorded) → AreRead xs trails → Stops → ⊥
  no-trails trails front_read (inl none) = never-empty xs trails front_read none
  no-trails trails front_read (inr at) = never-stops xs trails front_read at.0 at.1

  -- and does not pass the limit
  no-more : (part : ℕ) → PassesLimit xs part → ⊥
  unfolding parts_read
  no-more part p =
      let left = p.more in
      let long = length-append p.last.cut.left ys in
      passes-at (xs ++ ys) (t ∷ []) read PARTS (longer p.last ys) read.few (along PARTS p.last p.reached) (omega (arith, left, long))

pub front-stops : (front rest : List ℕ) (trail : Recorded) → AreRead (front ++ rest) (trail ∷ []) → 0 < length rest → (front ≡ []) ⊎ ((part : ℕ) × StopsAt front part)
front-stops front rest trail read more = stops front rest trail read more

-- ---- the end of an audit of a front

front-of : (left' written now : Option (List ℕ)) (wants wants' : ℕ) (xs ys : List ℕ) (t : Recorded) (status : AuditStatus) → AreRead (xs ++ ys) (t ∷ []) → 0 < length ys
    → Ended (Some xs) left' written now wants wants' status → IsOfFront status
front-of left' written now wants wants' xs ys t ends.Coherent read more e =
    no-trails xs ys t read more e.holds.trails (subst (λ (bs : List ℕ). AreRead bs e.holds.trails) (sym (same-input left' xs e.input e.consumed e.end)) e.holds.read) (stops xs ys t read more)
front-of left' written now wants wants' xs ys t ends.Empty read more e = tt
front-of left' written now wants wants' xs ys t (ends.Form part) read more e = tt
front-of left' written now wants wants' xs ys t ends.ReadFault read more e = tt
front-of left' written now wants wants' xs ys t ends.WriteFault read more e =
    no-trails xs ys t read more e.holds.trails (subst (λ (bs : List ℕ). AreRead bs e.holds.trails) (sym (same-input left' xs e.input e.consumed e.end)) e.holds.read) (stops xs ys t read more)
front-of left' written now wants wants' xs ys t (ends.Limit part) read more e =
    no-more xs ys t read more part (subst (λ (bs : List ℕ). PassesLimit bs part) (sym (same-input left' xs e.0.input e.0.consumed e.0.end)) e.0.holds)
front-of left' written now wants wants' xs ys t (ends.Differs d) read more e =
    no-trails xs ys t read more e.holds.trails (subst (λ (bs : List ℕ). AreRead bs e.holds.trails) (sym (same-input left' xs e.input e.consumed e.end)) e.holds.read) (stops xs ys t read more)
front-of left' written now wants wants' xs ys t ends.NoMemory read more e = tt

pub of-front : (left left' written now : Option (List ℕ)) (wants wants' : ℕ) (front rest : List ℕ) (trail : Recorded) (status : AuditStatus) → AreRead (front ++ rest) (trail ∷ []) → 0 < length rest
    → left ≡ Some front → Ended left left' written now wants wants' status → IsOfFront status
of-front left left' written now wants wants' xs ys t status read more is e =
    front-of left' written now wants wants' xs ys t status read more (subst (λ (l : Option (List ℕ)). Ended l left' written now wants wants' status) is e)
