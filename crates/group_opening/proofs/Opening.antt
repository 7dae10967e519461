-- The members whose stores were opened so far, one more of them, and the room from which their devices are taken.
use Rattle.std.proofs.Common.{◌≡◌, ◌∙◌, ℕ, zero, suc, ◌+◌, ◌-◌, ◌^◌, ◌<◌, ◌≤◌, min, ◌⊎◌, inl, inr, List, [], ◌∷◌, ◌++◌, length, length-append, Option, refl, sym, ap, subst, arith}
use Rattle.std.proofs.lemmas.Bool.{cases_eq, cases_lt}
use Rattle.faults.specs.Counts.{Rose}
use Rattle.disk_model.specs.Cells.{Cells}
use Rattle.disk_model.specs.Rooms.{Address, address}
use Rattle.store_laws.specs.Restored.{Images}
use Rattle.smart_service.specs.Services.{Meaning}
use Rattle.durable_store.specs.Disks.{contents}
use Rattle.durable_store.specs.declared.disks.Disks.{Disks}
use Rattle.member_opening.specs.Devices.{AreHeld, IsHeld, KeepsBeside, images_at}
use Rattle.member_opening.specs.declared.settings.Settings.{Settings}
use Rattle.group_opening.specs.Berths.{AllHeld, AllHold, AreBerths, HasMeaning, IsBerth, IsLowest, IsRefusedBy}
use Rattle.group_opening.specs.Rooms.{IsOf, KeepsBut}
use Rattle.group_opening.specs.Runs.{member_settings}
use Rattle.group_opening.specs.declared.berth.Berth.{Berth}
use Rattle.group_opening.specs.declared.settings.GroupSettings.{GroupSettings}
use Rattle.group_opening.proofs.Ranges.{of-high}

-- ---- counts of failures

pub rose-since : (first early now : ℕ) → first ≤ early → Rose early now → Rose first now
rose-since first early now less rose =
    let it : min (early + 1) (2 ^ 64 - 1) ≤ now = rose in
    omega (arith, it, less)

pub rose-still : (first early now : ℕ) → Rose first early → early ≤ now → Rose first now
rose-still first early now rose less =
    let it : min (first + 1) (2 ^ 64 - 1) ≤ early = rose in
    omega (arith, it, less)

-- ---- addresses of other members

-- a change beside a member leaves the addresses of others as they are
pub beside-other : {A : Type 0} (dir : List ℕ) (member : ℕ) (old new : Address → A) → KeepsBeside dir member old new → (other : Address) → (other.member ≡ member → ⊥) → new other ≡ old other
beside-other dir member old new keeps other apart =
    keeps other (λ (same : other ≡ address dir member 0). apart (ap (λ (a : Address). a.member) same)) (λ (same : other ≡ address dir member 1). apart (ap (λ (a : Address). a.member) same))
    (λ (same : other ≡ address dir member 2). apart (ap (λ (a : Address). a.member) same)) (λ (same : other ≡ address dir member 3). apart (ap (λ (a : Address). a.member) same))

images-of : Cells → Cells → Cells → Cells → Images
images-of a b c d = record { even_log = a.now; odd_log = b.now; even_slot = c.now; odd_slot = d.now }

-- the bytes of a member's devices are as they were, if the room is at its addresses
pub images-same : (old new : Address → Cells) (dir : List ℕ) (member : ℕ) → ((other : Address) → other.member ≡ member → new other ≡ old other) → images_at new dir member ≡ images_at old dir member
unfolding images-of
images-same old new dir member same =
    ap (λ (x : Cells). images-of x (new (address dir member 1)) (new (address dir member 2)) (new (address dir member 3))) (same (address dir member 0) refl)
    ∙ ap (λ (x : Cells). images-of (old (address dir member 0)) x (new (address dir member 2)) (new (address dir member 3))) (same (address dir member 1) refl)
    ∙ ap (λ (x : Cells). images-of (old (address dir member 0)) (old (address dir member 1)) x (new (address dir member 3))) (same (address dir member 2) refl)
    ∙ ap (λ (x : Cells). images-of (old (address dir member 0)) (old (address dir member 1)) (old (address dir member 2)) x) (same (address dir member 3) refl)

-- ---- devices that are taken

module _ {D : Type 0} (old new : Address → Option ℕ) (faults : D → ℕ) (dir : List ℕ) where
  held-same : (here : Address) (d : D) → new here ≡ old here → IsHeld (old here) (faults d) → IsHeld (new here) (faults d)
  held-same here d same held = subst (λ (taken : Option ℕ). IsHeld taken (faults d)) (sym same) held

  pub devices-same : (member : ℕ) (d : Disks D) → ((other : Address) → other.member ≡ member → new other ≡ old other) → AreHeld old faults dir member d → AreHeld new faults dir member d
  devices-same member d same held = record {
    even_log = held-same (address dir member 0) d.even_log (same (address dir member 0) refl) held.even_log;
    odd_log = held-same (address dir member 1) d.odd_log (same (address dir member 1) refl) held.odd_log;
    even_slot = held-same (address dir member 2) d.even_slot (same (address dir member 2) refl) held.even_slot;
    odd_slot = held-same (address dir member 3) d.odd_slot (same (address dir member 3) refl) held.odd_slot;
  }

module _ {S D : Type 0} (old new : Address → Option ℕ) (faults : D → ℕ) (dir : List ℕ) where
  -- the devices of members below a number stay taken, if the room is as it was at all of these
  pub all-same : (first bound : ℕ) (berths : List (Berth S D)) → first + length berths ≤ bound → ((other : Address) → other.member < bound → new other ≡ old other)
      → AllHeld old faults dir first berths → AllHeld new faults dir first berths
  all-same first bound [] few same held = tt
  all-same first bound (b ∷ berths) few same held = (
    held.0,
    (
      devices-same old new faults dir first b.store.disks (λ (other : Address) (at : other.member ≡ first). same other (omega (arith, at, few))) held.1.0,
      all-same (suc first) bound berths (omega (arith, few)) same held.1.1,
    ),
  )

module _ {S D : Type 0} (taken : Address → Option ℕ) (faults : D → ℕ) (dir : List ℕ) where
  -- one more
  pub all-push : (first number : ℕ) (berths : List (Berth S D)) (b : Berth S D) → first + length berths ≡ number → AllHeld taken faults dir first berths
      → b.settings.member ≡ number → AreHeld taken faults dir number b.store.disks → AllHeld taken faults dir first (berths ++ b ∷ [])
  all-push first number [] b many all named held =
      let same : number ≡ first = omega (arith, many) in
      (named ∙ same, (subst (λ (n : ℕ). AreHeld taken faults dir n b.store.disks) same held, tt))
  all-push first number (x ∷ berths) b many all named held = (all.0, (all.1.0, all-push (suc first) number berths b (omega (arith, many)) all.1.1 named held))

  -- the last of them, and those before it
  pub all-front : (first : ℕ) (berths : List (Berth S D)) (b : Berth S D) → AllHeld taken faults dir first (berths ++ b ∷ []) → AllHeld taken faults dir first berths
  all-front first [] b all = tt
  all-front first (x ∷ berths) b all = (all.0, (all.1.0, all-front (suc first) berths b all.1.1))

  pub all-last : (first : ℕ) (berths : List (Berth S D)) (b : Berth S D) → AllHeld taken faults dir first (berths ++ b ∷ [])
      → (b.settings.member ≡ first + length berths) × AreHeld taken faults dir b.settings.member b.store.disks
  all-last first [] b all = (omega (arith, all.0), subst (λ (n : ℕ). AreHeld taken faults dir n b.store.disks) (sym all.0) all.1.0)
  all-last first (x ∷ berths) b all =
      let last = all-last (suc first) berths b all.1.1 in
      (omega (arith, last.0), last.1)

-- ---- what the stores restored

here-or : (first below : ℕ) → first ≤ below → (first ≡ below) ⊎ (suc first ≤ below)
here-or zero zero least = inl refl
here-or zero (suc below) least = inr (omega arith)
here-or (suc first) zero least = absurd (omega (arith, least))
here-or (suc first) (suc below) least = one-up (here-or first below (omega (arith, least)))
  where
    one-up : (first ≡ below) ⊎ (suc first ≤ below) → (suc first ≡ suc below) ⊎ (suc (suc first) ≤ suc below)
    one-up (inl same) = inl (ap suc same)
    one-up (inr more) = inr (omega (arith, more))

module _ {S D : Type 0} (m : Meaning S) (told : Type 0) (cells : D → Cells) (images : ℕ → Images) (s : GroupSettings) where
  -- one more
  pub berths-push : (first number : ℕ) (berths : List (Berth S D)) (b : Berth S D) → first + length berths ≡ number → AreBerths m told cells images s first berths
      → IsBerth m told cells (images number) (member_settings s number) b → AreBerths m told cells images s first (berths ++ b ∷ [])
  berths-push first number [] b many all one = (subst (λ (n : ℕ). IsBerth m told cells (images n) (member_settings s n) b) (omega (arith, many)) one, tt)
  berths-push first number (x ∷ berths) b many all one = (all.0, berths-push (suc first) number berths b (omega (arith, many)) all.1 one)

  -- each of them has a meaning
  meaning-or : (first below : ℕ) (b : Berth S D) (berths : List (Berth S D)) → AreBerths m told cells images s first (b ∷ berths)
      → (suc first ≤ below → HasMeaning m told (images below) (member_settings s below)) → (first ≡ below) ⊎ (suc first ≤ below) → HasMeaning m told (images below) (member_settings s below)
  meaning-or first below b berths all rest (inl here) =
      subst (λ (n : ℕ). HasMeaning m told (images n) (member_settings s n)) here (record { kept = all.0.kept; restored = all.0.restored; whole = all.0.whole })
  meaning-or first below b berths all rest (inr behind) = rest behind

  pub have-meaning : (first below : ℕ) (berths : List (Berth S D)) → AreBerths m told cells images s first berths → first ≤ below → below < first + length berths
      → HasMeaning m told (images below) (member_settings s below)
  have-meaning first below [] all least most = absurd (omega (arith, least, most))
  have-meaning first below (b ∷ berths) all least most =
      meaning-or first below b berths all (λ (behind : suc first ≤ below). have-meaning (suc first) below berths all.1 behind (omega (arith, most))) (here-or first below least)

  -- the first that is refused is the lowest
  pub lowest : (number entry : ℕ) (berths : List (Berth S D)) → 1 + length berths ≡ number → number ≤ s.members → AreBerths m told cells images s 1 berths
      → IsRefusedBy m told (images number) (member_settings s number) entry → IsLowest m told images s entry
  lowest number entry berths many within all refused = record {
    member = number;
    within = (omega (arith, many), within);
    refused = refused;
    others = λ (below : ℕ) (least : 1 ≤ below) (less : below < number). have-meaning 1 below berths all least (omega (arith, many, less));
  }

-- ---- the next member

module _ {S D : Type 0} (m : Meaning S) (told : Type 0) (cells : D → Cells) (dir : List ℕ) (s : GroupSettings) (berths berths' : List (Berth S D)) (b : Berth S D) (before member : ℕ)
    (more : berths' ≡ berths ++ b ∷ []) (many : length berths ≡ before) (here : member ≡ before + 1) where
  pub berths-next : (start now : Address → Cells) → ((other : Address) → before < other.member → now other ≡ start other) → AreBerths m told cells (λ (k : ℕ). images_at start dir k) s 1 berths
      → IsBerth m told cells (images_at now dir member) (member_settings s member) b → AreBerths m told cells (λ (k : ℕ). images_at start dir k) s 1 berths'
  berths-next start now kept all one =
      let same : images_at now dir member ≡ images_at start dir member = images-same start now dir member (λ (other : Address) (at : other.member ≡ member). kept other (omega (arith, at, here))) in
      subst (AreBerths m told cells (λ (k : ℕ). images_at start dir k) s 1) (sym more)
      (berths-push m told cells (λ (k : ℕ). images_at start dir k) s 1 member berths b (omega (arith, many, here)) all (subst (λ (i : Images). IsBerth m told cells i (member_settings s member) b) same one))

  pub held-next : (images : Images) (old new : Address → Option ℕ) (faults : D → ℕ) → KeepsBeside dir member old new → AllHeld old faults dir 1 berths → IsBerth m told cells images (member_settings s member) b
      → AreHeld new faults dir member b.store.disks → AllHeld new faults dir 1 berths'
  held-next images old new faults keeps all is held =
      let few : 1 + length berths ≤ member = omega (arith, many, here) in
      subst (AllHeld new faults dir 1) (sym more)
      (all-push new faults dir 1 member berths b (omega (arith, many, here))
      (all-same old new faults dir 1 member berths few (λ (other : Address) (less : other.member < member). beside-other dir member old new keeps other (λ (same : other.member ≡ member). omega (arith, same, less))) all)
      (ap (λ (x : Settings). x.member) is.settings_are) held)

pub kept-next : (dir : List ℕ) (before member : ℕ) (start now new : Address → Cells) → member ≡ before + 1 → ((other : Address) → before < other.member → now other ≡ start other) → KeepsBeside dir member now new
    → (other : Address) → before + 1 < other.member → new other ≡ start other
kept-next dir before member start now new here kept keeps other less =
    beside-other dir member now new keeps other (λ (same : other.member ≡ member). omega (arith, same, here, less)) ∙ kept other (omega (arith, less))

module _ {S D : Type 0} (m : Meaning S) (told : Type 0) (cells : D → Cells) (dir : List ℕ) (s : GroupSettings) where
  -- the first that is refused is the lowest, over the bytes that the room had at first
  pub refused-next : (berths : List (Berth S D)) (before member entry : ℕ) (start now : Address → Cells) → length berths ≡ before → member ≡ before + 1 → before < s.members
      → ((other : Address) → before < other.member → now other ≡ start other) → AreBerths m told cells (λ (k : ℕ). images_at start dir k) s 1 berths
      → IsRefusedBy m told (images_at now dir member) (member_settings s member) entry → IsLowest m told (λ (k : ℕ). images_at start dir k) s entry
  refused-next berths before member entry start now many here within kept all refused =
      let same : images_at now dir member ≡ images_at start dir member = images-same start now dir member (λ (other : Address) (at : other.member ≡ member). kept other (omega (arith, at, here))) in
      lowest m told cells (λ (k : ℕ). images_at start dir k) s member entry berths (omega (arith, many, here)) (omega (arith, here, within)) all
      (subst (λ (i : Images). IsRefusedBy m told i (member_settings s member) entry) same refused)

-- ---- what devices hold

module _ {S D : Type 0} (cells : D → Cells) (images : ℕ → Images) where
  -- one more
  pub hold-push : (first number : ℕ) (berths : List (Berth S D)) (b : Berth S D) → first + length berths ≡ number → AllHold cells images first berths → contents cells b.store.disks ≡ images number
      → AllHold cells images first (berths ++ b ∷ [])
  hold-push first number [] b many all one =
      let same : number ≡ first = omega (arith, many) in
      (subst (λ (n : ℕ). contents cells b.store.disks ≡ images n) same one, tt)
  hold-push first number (x ∷ berths) b many all one = (all.0, hold-push (suc first) number berths b (omega (arith, many)) all.1 one)

  -- the last of them, and those before it
  hold-front : (first : ℕ) (berths : List (Berth S D)) (b : Berth S D) → AllHold cells images first (berths ++ b ∷ []) → AllHold cells images first berths
  hold-front first [] b all = tt
  hold-front first (x ∷ berths) b all = (all.0, hold-front (suc first) berths b all.1)

  hold-last : (first number : ℕ) (berths : List (Berth S D)) (b : Berth S D) → number ≡ first + length berths → AllHold cells images first (berths ++ b ∷ []) → contents cells b.store.disks ≡ images number
  hold-last first number [] b many all =
      let same : first ≡ number = omega (arith, many) in
      subst (λ (n : ℕ). contents cells b.store.disks ≡ images n) same all.0
  hold-last first number (x ∷ berths) b many all = hold-last (suc first) number berths b (omega (arith, many)) all.1

  -- These members are still to be put back, and the devices of those behind them hold these bytes.
  pub record AreHolding (dir : List ℕ) (room : Address → Cells) (all : ℕ) (left : List (Berth S D)) : Type 0 where
    pub rest : AllHold cells images 1 left
    pub behind : (member : ℕ) → length left < member → member ≤ all → images_at room dir member ≡ images member

  pub holding-first : (dir : List ℕ) (room : Address → Cells) (all : ℕ) (berths : List (Berth S D)) → all ≡ length berths → AllHold cells images 1 berths → AreHolding dir room all berths
  holding-first dir room all berths many hold = record { rest = hold; behind = λ member low high. absurd (omega (arith, many, low, high)) }

  pub holding-last : (dir : List ℕ) (room : Address → Cells) (all : ℕ) (berths : List (Berth S D)) → length berths ≡ 0 → AreHolding dir room all berths → (member : ℕ) → 1 ≤ member → member ≤ all → images_at room dir member ≡ images member
  holding-last dir room all berths none is member low high = is.behind member (omega (arith, none, low)) high

  module _ (dir : List ℕ) (old new : Address → Cells) (all : ℕ) (left now : List (Berth S D)) (b : Berth S D) (is : now ≡ left ++ b ∷ []) (here : b.settings.member ≡ 1 + length left) (keeps : KeepsBeside dir b.settings.member old new)
      (put : images_at new dir b.settings.member ≡ contents cells b.store.disks) (was : AreHolding dir old all now) where
    next-hold : AllHold cells images 1 (left ++ b ∷ [])
    next-hold = subst (AllHold cells images 1) is was.rest

    next-behind : (member : ℕ) → length left < member → member ≤ all → images_at new dir member ≡ images member
    next-behind member low high = elim (cases_eq member b.settings.member) [
      | inl same ↦ subst (λ (n : ℕ). images_at new dir n ≡ images n) (sym same) (put ∙ hold-last 1 b.settings.member left b here next-hold)
      | inr other ↦ images-same old new dir member (λ (a : Address) (at : a.member ≡ member). beside-other dir b.settings.member old new keeps a (λ (equal : a.member ≡ b.settings.member). other (sym at ∙ equal)))
          ∙ was.behind member (omega (arith, low, other, here, ap length is, length-append left (b ∷ []))) high
    ]

    pub holding-next : AreHolding dir new all left
    holding-next = record { rest = hold-front 1 left b next-hold; behind = next-behind }

-- one more store is opened
pub hold-next : {S D : Type 0} (cells : D → Cells) (dir : List ℕ) (berths berths' : List (Berth S D)) (b : Berth S D) (before member : ℕ) (start now : Address → Cells) → berths' ≡ berths ++ b ∷ [] → length berths ≡ before → member ≡ before + 1
    → ((other : Address) → before < other.member → now other ≡ start other) → AllHold cells (λ (k : ℕ). images_at start dir k) 1 berths → contents cells b.store.disks ≡ images_at now dir member
    → AllHold cells (λ (k : ℕ). images_at start dir k) 1 berths'
hold-next cells dir berths berths' b before member start now more many here kept all one =
    let same : images_at now dir member ≡ images_at start dir member = images-same start now dir member (λ (other : Address) (at : other.member ≡ member). kept other (omega (arith, at, here))) in
    subst (AllHold cells (λ (k : ℕ). images_at start dir k) 1) (sym more) (hold-push cells (λ (k : ℕ). images_at start dir k) 1 member berths b (omega (arith, many, here)) all (one ∙ same))

-- A member is refused. Its devices, and those of the members before it, are put back.
module _ (dir : List ℕ) (before number : ℕ) (start now mid after : Address → Cells) (here : number ≡ before + 1) (kept : (other : Address) → before < other.member → now other ≡ start other) (keeps : KeepsBeside dir number now mid)
    (same : images_at mid dir number ≡ images_at now dir number) (back : KeepsBut dir 1 (before + 1) 4 mid after) (closed : (member : ℕ) → 1 ≤ member → member ≤ before → images_at after dir member ≡ images_at start dir member) where
  since-begun : (member : ℕ) → before < member → images_at now dir member ≡ images_at start dir member
  since-begun member less = images-same start now dir member (λ (a : Address) (at : a.member ≡ member). kept a (omega (arith, at, less)))

  since-refused : (member : ℕ) → before < member → images_at after dir member ≡ images_at mid dir member
  since-refused member less =
      images-same mid after dir member (λ (a : Address) (at : a.member ≡ member). back a (λ (x : IsOf dir 1 (before + 1) 4 a). omega (arith, at, less, of-high dir 4 1 (before + 1) a x)))

  as-refused : (member : ℕ) → images_at mid dir member ≡ images_at now dir member
  as-refused member = elim (cases_eq member number) [
    | inl at ↦ subst (λ (n : ℕ). images_at mid dir n ≡ images_at now dir n) (sym at) same
    | inr other ↦ images-same now mid dir member (λ (a : Address) (at : a.member ≡ member). beside-other dir number now mid keeps a (λ (equal : a.member ≡ number). other (sym at ∙ equal)))
  ]

  pub all-as-begun : (member : ℕ) → 1 ≤ member → images_at after dir member ≡ images_at start dir member
  all-as-begun member low = elim (cases_lt before member) [
    | inl less ↦ since-refused member less ∙ as-refused member ∙ since-begun member less
    | inr upto ↦ closed member low upto
  ]
