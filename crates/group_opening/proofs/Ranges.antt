-- What changes of a room leave as it was, by the range of parties to whom the addresses belong that they change.
use Rattle.std.proofs.Common.{◌≡◌, ◌∙◌, ℕ, zero, suc, ◌+◌, ◌<◌, ◌≤◌, ◌⊎◌, inl, inr, List, Option, None, refl, sym, ap, subst, arith}
use Rattle.std.proofs.lemmas.Bool.{cases_lt}
use Rattle.disk_model.specs.Rooms.{Address, address, KeepsOthers}
use Rattle.member_opening.specs.Devices.{AreAsBefore, AreFree, KeepsBeside}
use Rattle.member_opening.specs.Rooms.{Room}
use Rattle.group_opening.specs.Rooms.{IsLent, IsOf, IsReturned, KeepsBut, KeepsRest}

-- a room before a change and after it
abbrev pub change : {Content : Type 0} → (Address → Content) → (Address → Content) → (Address → Option ℕ) → (Address → Option ℕ) → Room Content
change before after taken_before taken_after = record { before = before; after = after; taken_before = taken_before; taken_after = taken_after }

-- ---- addresses of a range

module _ (dir : List ℕ) (devices : ℕ) where
  -- its party
  of-member : (first behind : ℕ) (a : Address) (x : IsOf dir first behind devices a) → a.member ≡ x.member
  of-member first behind a x = ap (λ (b : Address). b.member) x.is

  pub of-low : (first behind : ℕ) (a : Address) → IsOf dir first behind devices a → first ≤ a.member
  of-low first behind a x = omega (arith, of-member first behind a x, x.within.0)

  pub of-high : (first behind : ℕ) (a : Address) → IsOf dir first behind devices a → a.member < behind
  of-high first behind a x = omega (arith, of-member first behind a x, x.within.1.0)

  pub of-wider : (low high first behind : ℕ) (a : Address) → low ≤ first → behind ≤ high → IsOf dir first behind devices a → IsOf dir low high devices a
  of-wider low high first behind a less more x = record { member = x.member; device = x.device; within = (omega (arith, less, x.within.0), (omega (arith, more, x.within.1.0), x.within.1.1)); is = x.is }

  -- one of two ranges that lie side by side
  pub of-either : (first mid behind : ℕ) (a : Address) → IsOf dir first behind devices a → IsOf dir first mid devices a ⊎ IsOf dir mid behind devices a
  of-either first mid behind a x = elim (cases_lt x.member mid) [
    | inl less ↦ inl (record { member = x.member; device = x.device; within = (x.within.0, (less, x.within.1.1)); is = x.is })
    | inr more ↦ inr (record { member = x.member; device = x.device; within = (more, (x.within.1.0, x.within.1.1)); is = x.is })
  ]

  -- not of both
  pub of-one : (first behind low high : ℕ) (a : Address) → behind ≤ low → IsOf dir first behind devices a → IsOf dir low high devices a → ⊥
  of-one first behind low high a apart x y = omega (arith, apart, of-high first behind a x, of-low low high a y)

  -- an empty range
  pub of-none : (first : ℕ) (a : Address) → IsOf dir first first devices a → ⊥
  of-none first a x = omega (arith, x.within.0, x.within.1.0)

-- ---- what a change keeps

module _ {A : Type 0} (dir : List ℕ) (devices : ℕ) where
  pub keeps-then : (first behind : ℕ) (old mid new : Address → A) → KeepsBut dir first behind devices old mid → KeepsBut dir first behind devices mid new → KeepsBut dir first behind devices old new
  keeps-then first behind old mid new one two = λ a other. two a other ∙ one a other

  pub keeps-wider : (low high first behind : ℕ) (old new : Address → A) → low ≤ first → behind ≤ high → KeepsBut dir first behind devices old new → KeepsBut dir low high devices old new
  keeps-wider low high first behind old new less more keeps = λ a other. keeps a (λ x. other (of-wider dir devices low high first behind a less more x))

  -- what belongs to the parties ahead of a range, and to those behind it
  pub keeps-ahead : (first behind low high : ℕ) (old new : Address → A) → behind ≤ low → KeepsBut dir low high devices old new → (a : Address) → IsOf dir first behind devices a → new a ≡ old a
  keeps-ahead first behind low high old new apart keeps a x = keeps a (λ y. of-one dir devices first behind low high a apart x y)

  pub keeps-behind : (first behind low high : ℕ) (old new : Address → A) → behind ≤ low → KeepsBut dir first behind devices old new → (a : Address) → IsOf dir low high devices a → new a ≡ old a
  keeps-behind first behind low high old new apart keeps a y = keeps a (λ x. of-one dir devices first behind low high a apart x y)

module _ {A : Type 0} (dir : List ℕ) (first behind member : ℕ) (old new : Address → A) (low : first ≤ member) (high : member < behind) where
  -- a change of a member's four devices
  pub keeps-beside : KeepsBeside dir member old new → KeepsBut dir first behind 4 old new
  keeps-beside keeps = λ a other. keeps a (λ is. other (record { member = member; device = 0; within = (low, (high, omega arith)); is = is })) (λ is. other (record { member = member; device = 1; within = (low, (high, omega arith)); is = is }))
      (λ is. other (record { member = member; device = 2; within = (low, (high, omega arith)); is = is })) (λ is. other (record { member = member; device = 3; within = (low, (high, omega arith)); is = is }))

  -- a change of its sink
  pub keeps-others : KeepsOthers (address dir member 0) old new → KeepsBut dir first behind 1 old new
  keeps-others keeps = λ a other. keeps a (λ is. other (record { member = member; device = 0; within = (low, (high, omega arith)); is = is }))

-- ---- the addresses of one party

of-four : (P : ℕ → Type 0) → P 0 → P 1 → P 2 → P 3 → (device : ℕ) → device < 4 → P device
of-four P a b c d zero few = a
of-four P a b c d (suc zero) few = b
of-four P a b c d (suc (suc zero)) few = c
of-four P a b c d (suc (suc (suc zero))) few = d
of-four P a b c d (suc (suc (suc (suc device)))) few = absurd (omega (arith, few))

of-first : (P : ℕ → Type 0) → P 0 → (device : ℕ) → device < 1 → P device
of-first P a zero few = a
of-first P a (suc device) few = absurd (omega (arith, few))

module _ (dir : List ℕ) (member : ℕ) (P : Address → Type 0) where
  of-its : (devices : ℕ) → ((device : ℕ) → device < devices → P (address dir member device)) → (a : Address) → IsOf dir member (member + 1) devices a → P a
  of-its devices each a x =
      let here : member ≡ x.member = omega (arith, x.within.0, x.within.1.0) in
      subst P (sym x.is) (subst (λ (n : ℕ). P (address dir n x.device)) here (each x.device x.within.1.1))

  -- what holds of its four devices
  pub of-devices : P (address dir member 0) → P (address dir member 1) → P (address dir member 2) → P (address dir member 3) → (a : Address) → IsOf dir member (member + 1) 4 a → P a
  of-devices p q r s = of-its 4 (of-four (λ (device : ℕ). P (address dir member device)) p q r s)

  -- what holds of its sink
  pub of-sink : P (address dir member 0) → (a : Address) → IsOf dir member (member + 1) 1 a → P a
  of-sink p = of-its 1 (of-first (λ (device : ℕ). P (address dir member device)) p)

pub free-devices : (dir : List ℕ) (member : ℕ) (taken : Address → Option ℕ) → AreFree taken dir member → (a : Address) → IsOf dir member (member + 1) 4 a → taken a ≡ None
free-devices dir member taken free = of-devices dir member (λ (a : Address). taken a ≡ None) free.0.0 free.0.1 free.1.0 free.1.1

pub free-sink : (dir : List ℕ) (member : ℕ) (taken : Address → Option ℕ) → taken (address dir member 0) ≡ None → (a : Address) → IsOf dir member (member + 1) 1 a → taken a ≡ None
free-sink dir member taken free = of-sink dir member (λ (a : Address). taken a ≡ None) free

pub same-devices : (dir : List ℕ) (member : ℕ) (old new : Address → Option ℕ) → AreAsBefore old new dir member → (a : Address) → IsOf dir member (member + 1) 4 a → new a ≡ old a
same-devices dir member old new back = of-devices dir member (λ (a : Address). new a ≡ old a) back.0.0 back.0.1 back.1.0 back.1.1

pub same-sink : (dir : List ℕ) (member : ℕ) (old new : Address → Option ℕ) → new (address dir member 0) ≡ old (address dir member 0) → (a : Address) → IsOf dir member (member + 1) 1 a → new a ≡ old a
same-sink dir member old new back = of-sink dir member (λ (a : Address). new a ≡ old a) back

-- ---- a room of which a party's devices or sink were taken or put back

module _ {C : Type 0} (dir : List ℕ) (member : ℕ) (before after : Address → C) (taken_before taken_after : Address → Option ℕ) where
  pub lent-devices : KeepsBeside dir member before after → KeepsBeside dir member taken_before taken_after → AreFree taken_before dir member → IsLent dir member (member + 1) 4 (change before after taken_before taken_after)
  lent-devices kept taken free = record {
    kept = keeps-beside dir member (member + 1) member before after (omega arith) (omega arith) kept;
    taken = keeps-beside dir member (member + 1) member taken_before taken_after (omega arith) (omega arith) taken;
    free = free-devices dir member taken_before free;
  }

  pub returned-devices : KeepsBeside dir member before after → KeepsBeside dir member taken_before taken_after → AreFree taken_after dir member → IsReturned dir member (member + 1) 4 (change before after taken_before taken_after)
  returned-devices kept taken free = record {
    kept = keeps-beside dir member (member + 1) member before after (omega arith) (omega arith) kept;
    taken = keeps-beside dir member (member + 1) member taken_before taken_after (omega arith) (omega arith) taken;
    free = free-devices dir member taken_after free;
  }

  pub rest-devices : KeepsBeside dir member before after → KeepsBeside dir member taken_before taken_after → AreAsBefore taken_before taken_after dir member → KeepsRest dir member (member + 1) 4 (change before after taken_before taken_after)
  rest-devices kept taken back = record {
    kept = keeps-beside dir member (member + 1) member before after (omega arith) (omega arith) kept;
    taken = keeps-beside dir member (member + 1) member taken_before taken_after (omega arith) (omega arith) taken;
    back = same-devices dir member taken_before taken_after back;
  }

  pub lent-sink : KeepsOthers (address dir member 0) before after → KeepsOthers (address dir member 0) taken_before taken_after → taken_before (address dir member 0) ≡ None → IsLent dir member (member + 1) 1 (change before after taken_before taken_after)
  lent-sink kept taken free = record {
    kept = keeps-others dir member (member + 1) member before after (omega arith) (omega arith) kept;
    taken = keeps-others dir member (member + 1) member taken_before taken_after (omega arith) (omega arith) taken;
    free = free-sink dir member taken_before free;
  }

  pub returned-sink : KeepsOthers (address dir member 0) before after → KeepsOthers (address dir member 0) taken_before taken_after → taken_after (address dir member 0) ≡ None → IsReturned dir member (member + 1) 1 (change before after taken_before taken_after)
  returned-sink kept taken free = record {
    kept = keeps-others dir member (member + 1) member before after (omega arith) (omega arith) kept;
    taken = keeps-others dir member (member + 1) member taken_before taken_after (omega arith) (omega arith) taken;
    free = free-sink dir member taken_after free;
  }

  pub rest-sink : KeepsOthers (address dir member 0) before after → KeepsOthers (address dir member 0) taken_before taken_after → taken_after (address dir member 0) ≡ taken_before (address dir member 0) → KeepsRest dir member (member + 1) 1 (change before after taken_before taken_after)
  rest-sink kept taken back = record {
    kept = keeps-others dir member (member + 1) member before after (omega arith) (omega arith) kept;
    taken = keeps-others dir member (member + 1) member taken_before taken_after (omega arith) (omega arith) taken;
    back = same-sink dir member taken_before taken_after back;
  }

-- ---- a room that is as it was

module _ {C : Type 0} (dir : List ℕ) (devices first : ℕ) (kept : Address → C) (taken : Address → Option ℕ) where
  pub lent-none : IsLent dir first first devices (change kept kept taken taken)
  lent-none = record { kept = λ a other. refl; taken = λ a other. refl; free = λ a x. absurd (of-none dir devices first a x) }

  pub returned-none : IsReturned dir first first devices (change kept kept taken taken)
  returned-none = record { kept = λ a other. refl; taken = λ a other. refl; free = λ a x. absurd (of-none dir devices first a x) }

  pub rest-none : (behind : ℕ) → KeepsRest dir first behind devices (change kept kept taken taken)
  rest-none behind = record { kept = λ a other. refl; taken = λ a other. refl; back = λ a x. refl }

-- ---- a range by the number of its parties

pub returned-many : {C : Type 0} (dir : List ℕ) (first devices count many : ℕ) (room : Room C) → count ≡ many → IsReturned dir first (count + 1) devices room → IsReturned dir first (many + 1) devices room
returned-many dir first devices count many room same back = subst (λ (n : ℕ). IsReturned dir first (n + 1) devices room) same back

-- ---- one change behind another

module _ {C : Type 0} (dir : List ℕ) (devices : ℕ) (k0 k1 k2 : Address → C) (t0 t1 t2 : Address → Option ℕ) where
  -- more is taken
  pub lent-more : (first mid behind : ℕ) → first ≤ mid → mid ≤ behind → IsLent dir first mid devices (change k0 k1 t0 t1) → IsLent dir mid behind devices (change k1 k2 t1 t2) → IsLent dir first behind devices (change k0 k2 t0 t2)
  lent-more first mid behind low high one two =
      let least : first ≤ first = omega arith in
      let most : behind ≤ behind = omega arith in
      let same : mid ≤ mid = omega arith in record {
        kept = keeps-then dir devices first behind k0 k1 k2 (keeps-wider dir devices first behind first mid k0 k1 least high one.kept) (keeps-wider dir devices first behind mid behind k1 k2 low most two.kept);
        taken = keeps-then dir devices first behind t0 t1 t2 (keeps-wider dir devices first behind first mid t0 t1 least high one.taken) (keeps-wider dir devices first behind mid behind t1 t2 low most two.taken);
        free = λ a x. elim (of-either dir devices first mid behind a x) [
          | inl ahead ↦ one.free a ahead
          | inr rest ↦ sym (keeps-behind dir devices first mid mid behind t0 t1 same one.taken a rest) ∙ two.free a rest
        ];
      }

  -- more is put back, of the parties ahead of those before
  pub returned-ahead : (first mid behind : ℕ) → first ≤ mid → mid ≤ behind → IsReturned dir mid behind devices (change k0 k1 t0 t1) → IsReturned dir first mid devices (change k1 k2 t1 t2) → IsReturned dir first behind devices (change k0 k2 t0 t2)
  returned-ahead first mid behind low high one two =
      let least : first ≤ first = omega arith in
      let most : behind ≤ behind = omega arith in
      let same : mid ≤ mid = omega arith in record {
        kept = keeps-then dir devices first behind k0 k1 k2 (keeps-wider dir devices first behind mid behind k0 k1 low most one.kept) (keeps-wider dir devices first behind first mid k1 k2 least high two.kept);
        taken = keeps-then dir devices first behind t0 t1 t2 (keeps-wider dir devices first behind mid behind t0 t1 low most one.taken) (keeps-wider dir devices first behind first mid t1 t2 least high two.taken);
        free = λ a x. elim (of-either dir devices first mid behind a x) [
          | inl ahead ↦ two.free a ahead
          | inr rest ↦ keeps-behind dir devices first mid mid behind t1 t2 same two.taken a rest ∙ one.free a rest
        ];
      }

  -- what was taken is put back
  pub lent-back : (first behind : ℕ) → IsLent dir first behind devices (change k0 k1 t0 t1) → IsReturned dir first behind devices (change k1 k2 t1 t2) → KeepsRest dir first behind devices (change k0 k2 t0 t2)
  lent-back first behind one two = record {
    kept = keeps-then dir devices first behind k0 k1 k2 one.kept two.kept;
    taken = keeps-then dir devices first behind t0 t1 t2 one.taken two.taken;
    back = λ a x. two.free a x ∙ sym (one.free a x);
  }

-- the rest of a wider range
pub rest-wider : {C : Type 0} (dir : List ℕ) (devices low high first behind : ℕ) (before after : Address → C) (taken_before taken_after : Address → Option ℕ) → low ≤ first → first ≤ behind → behind ≤ high
    → KeepsRest dir first behind devices (change before after taken_before taken_after) → KeepsRest dir low high devices (change before after taken_before taken_after)
rest-wider {C} dir devices low high first behind before after taken_before taken_after less within more rest =
    let same : first ≤ first = omega arith in
    let also : behind ≤ behind = omega arith in record {
      kept = keeps-wider dir devices low high first behind before after less more rest.kept;
      taken = keeps-wider dir devices low high first behind taken_before taken_after less more rest.taken;
      back = λ a x. elim (of-either dir devices low first high a x) [
        | inl ahead ↦ keeps-ahead dir devices low first first behind taken_before taken_after same rest.taken a ahead
        | inr on ↦ elim (of-either dir devices first behind high a on) [
          | inl here ↦ rest.back a here
          | inr over ↦ keeps-behind dir devices first behind behind high taken_before taken_after also rest.taken a over
        ]
      ];
    }

-- Some was taken, then no more could be had, and what was taken is put back.
pub lent-rest-back : {C : Type 0} (dir : List ℕ) (devices first mid behind : ℕ) (k0 k1 k2 k3 : Address → C) (t0 t1 t2 t3 : Address → Option ℕ) → first ≤ mid → mid ≤ behind → IsLent dir first mid devices (change k0 k1 t0 t1)
    → KeepsRest dir mid behind devices (change k1 k2 t1 t2) → IsReturned dir first mid devices (change k2 k3 t2 t3) → KeepsRest dir first behind devices (change k0 k3 t0 t3)
lent-rest-back {C} dir devices first mid behind k0 k1 k2 k3 t0 t1 t2 t3 low high one two three =
    let least : first ≤ first = omega arith in
    let most : behind ≤ behind = omega arith in
    let same : mid ≤ mid = omega arith in record {
      kept = keeps-then dir devices first behind k0 k1 k3 (keeps-wider dir devices first behind first mid k0 k1 least high one.kept)
          (keeps-then dir devices first behind k1 k2 k3 (keeps-wider dir devices first behind mid behind k1 k2 low most two.kept) (keeps-wider dir devices first behind first mid k2 k3 least high three.kept));
      taken = keeps-then dir devices first behind t0 t1 t3 (keeps-wider dir devices first behind first mid t0 t1 least high one.taken)
          (keeps-then dir devices first behind t1 t2 t3 (keeps-wider dir devices first behind mid behind t1 t2 low most two.taken) (keeps-wider dir devices first behind first mid t2 t3 least high three.taken));
      back = λ a x. elim (of-either dir devices first mid behind a x) [
        | inl ahead ↦ three.free a ahead ∙ sym (one.free a ahead)
        | inr rest ↦ keeps-behind dir devices first mid mid behind t2 t3 same three.taken a rest ∙ two.back a rest ∙ keeps-behind dir devices first mid mid behind t0 t1 same one.taken a rest
      ];
    }
