-- The desk of a member, from its opening over rounds.
use Rattle.std.proofs.Common.{◌≡◌, ◌∙◌, ◌⊎◌, inl, inr, ℕ, suc, ◌<◌, false, List, [], ◌∷◌, length, map, set, slice_index_or, slice_set, Option, None, Some, refl, ap, ap₂, sym, subst, arith}
use Rattle.std.proofs.lemmas.List.{get_or-map, map-set, set-get_or}
use Rattle.std.proofs.lemmas.List.Elements.{All-set}
use Rattle.std.specs.List.{All}
use Rattle.atomic_table.specs.Seated.{TableId}
use Rattle.disk_model.specs.Cells.{Cells}
use Rattle.smart_service.specs.Services.{Meaning}
use Rattle.store_laws.specs.Restored.{Images}
use Rattle.store_laws.specs.Stops.{is_installed}
use Rattle.store_laws.specs.declared.job.Kept.{Kept}
use Rattle.store_plan.specs.Plans.{state_with}
use Rattle.durable_store.specs.Disks.{cells_of}
use Rattle.durable_store.specs.Stores.{state_of, Stands}
use Rattle.durable_store.specs.declared.disks.Disks.{Disks}
use Rattle.durable_store.specs.declared.store.Store.{Store}
use Rattle.log_lane.specs.Lane.{lane_taken}
use Rattle.node_rules.specs.Nodes.{Node}
use Rattle.durable_store.proofs.Faults.{disk_rose_after, fell_after}
use Rattle.node_endings.specs.Rounds.{RoundsOf}
use Rattle.node_endings.proofs.Chained.{no_rounds}
use Rattle.member_opening.specs.Opened.{IsAsOpened, OpensWith}
use Rattle.group_threads.specs.Desks.{IsReady, WorkMade, IsLeft}
use Rattle.group_threads.specs.declared.desk.Desk.{Desk}
use Rattle.group_threads.specs.declared.desk.MemberEnds.{MemberEnds}
use Rattle.group_parties.specs.Origins.{Origin}
use Rattle.group_parties.specs.Manned.{IsManned, HasDesk, HasWorked, IsWholeDesk}
use Rattle.group_parties.proofs.Chained.{rounds-behind}

-- ---- a store that is as the one that was opened

module _ {D : Type 0} (told : Type 0) (cells : D → Cells) (images : Images) (kept : Kept) (opened begun : Store D) (as_opened : IsAsOpened told opened begun) where
  state-alike : told → state_of cells begun ≡ state_of cells opened
  state-alike tells = as_opened.plan tells (cells_of cells begun.disks) ∙ ap (λ (d : Disks D). state_with opened.plan (cells_of cells d)) as_opened.disks

  opens-alike : OpensWith told cells images kept opened → OpensWith told cells images kept begun
  opens-alike opens = record {
    firm = as_opened.firm ∙ opens.firm;
    generation = as_opened.generation ∙ opens.generation;
    waiting = as_opened.waiting ∙ opens.waiting;
    is_open = as_opened.state ∙ opens.is_open;
    state = λ tells. state-alike tells ∙ opens.state tells;
    stands = λ tells. subst Stands (sym (state-alike tells)) (opens.stands tells);
  }

module _ {S D : Type 0} (told remembers : Type 0) (cells : D → Cells) (moment : D → ℕ) (left_since : D → ℕ → List ℕ → Type 0) (m : Meaning S) (origin : Origin) (lane : TableId × TableId) (opening : Node S) (restored : ℕ) where
  -- before the first round
  pub manned-first : (opened : Store D) (desk : Desk D) → OpensWith told cells origin.images origin.kept opened → IsAsOpened told opened desk.store → lane_taken desk.lane ≡ []
      → IsReady told cells lane restored (Some desk) → IsManned told remembers cells moment left_since m origin lane opening restored desk
  manned-first opened desk opens as_opened none ready = record {
    of = ready.0;
    sound = λ tells whole. ready.1.sound tells;
    since = record {
      opened = desk.store;
      opens = opens-alike told cells origin.images origin.kept opened desk.store as_opened opens;
      rounds = subst (λ (taken : List (List ℕ)). RoundsOf told remembers cells moment left_since is_installed m opening restored desk.faulty [] taken desk.store desk.store) (sym none)
          (no_rounds told remembers cells moment left_since is_installed m opening restored desk.faulty [] desk.store ready.1.whole);
    };
  }

  -- after more of them
  pub manned-more : (counts : D → ℕ) (ends : MemberEnds) (old new : Desk D) → old.faulty ≡ false
      → IsManned told remembers cells moment left_since m origin lane opening restored old
      → WorkMade told remembers cells moment left_since is_installed counts m opening lane restored ends old new
      → IsManned told remembers cells moment left_since m origin lane opening restored new
  manned-more counts ends old new whole was made = record {
    of = made.desk;
    sound = λ tells fine. made.log.sound tells fine;
    since = record {
      opened = was.since.opened;
      opens = was.since.opens;
      rounds = rounds-behind told remembers cells moment left_since is_installed m opening restored old.faulty new.faulty [] (lane_taken old.lane) (lane_taken new.lane) was.since.opened old.store new.store whole was.since.rounds made.log.rounds;
    };
  }

  pub has-desk-more : (counts : D → ℕ) (ends : MemberEnds) (old new : Option (Desk D)) → IsReady told cells lane restored old
      → HasDesk told remembers cells moment left_since m origin lane opening restored old
      → IsLeft told remembers cells moment left_since is_installed counts m opening lane restored ends old new
      → HasDesk told remembers cells moment left_since m origin lane opening restored new
  has-desk-more counts ends None new ready was left = absurd was
  has-desk-more counts ends (Some old) None ready was left = absurd left
  has-desk-more counts ends (Some old) (Some new) ready was left = manned-more counts ends old new ready.1.whole was left

  -- a member may go on whose last round went well
  pub ready-again : (desk : Desk D) → desk.faulty ≡ false → IsManned told remembers cells moment left_since m origin lane opening restored desk → IsReady told cells lane restored (Some desk)
  ready-again desk whole is = (is.of, record { whole = whole; sound = λ tells. is.sound tells whole })

module _ {S D : Type 0} (told remembers : Type 0) (cells : D → Cells) (moment : D → ℕ) (left_since : D → ℕ → List ℕ → Type 0) (m : Meaning S) (lane : TableId × TableId) (opening : Node S) (restored : ℕ) where
  -- ---- devices

  pub worked-more : (counts : D → ℕ) (begun : Disks D) (was ends : MemberEnds) (old new : Option (Desk D)) → HasWorked counts begun was old
      → IsLeft told remembers cells moment left_since is_installed counts m opening lane restored ends old new → HasWorked counts begun ends new
  worked-more counts begun was ends None new worked left = absurd worked
  worked-more counts begun was ends (Some old) None worked left = absurd left
  worked-more counts begun was ends (Some old) (Some new) worked left = (
    fell_after counts begun old.store.disks new.store.disks worked.0 left.log.later,
    record { rose = λ failed. disk_rose_after counts begun old.store.disks new.store.disks worked.0 (left.log.cause.rose failed) },
  )

  -- ---- a round

  -- a desk where one was
  pub left-of : (counts : D → ℕ) (ends : MemberEnds) (old new : Option (Desk D)) (was now : Desk D) → old ≡ Some was → new ≡ Some now
      → WorkMade told remembers cells moment left_since is_installed counts m opening lane restored ends was now
      → IsLeft told remembers cells moment left_since is_installed counts m opening lane restored ends old new
  left-of counts ends old new was now old-is new-is made =
      subst (λ (o : Option (Desk D)). IsLeft told remembers cells moment left_since is_installed counts m opening lane restored ends o new) (sym old-is)
      (subst (λ (o : Option (Desk D)). IsLeft told remembers cells moment left_since is_installed counts m opening lane restored ends (Some was) o) (sym new-is) made)

  -- at a desk at which no round has failed the workers may go on
  pub ready-left : (counts : D → ℕ) (ends : MemberEnds) (old new : Option (Desk D)) → IsLeft told remembers cells moment left_since is_installed counts m opening lane restored ends old new → IsWholeDesk new
      → IsReady told cells lane restored new
  ready-left counts ends None None left whole = absurd left
  ready-left counts ends None (Some new) left whole = absurd left
  ready-left counts ends (Some old) None left whole = absurd left
  ready-left counts ends (Some old) (Some new) left whole = (left.desk, record { whole = whole; sound = λ tells. left.log.sound tells whole })

  -- a round is the last one, or the workers may go on
  pub again-or : {A : Type 0} (counts : D → ℕ) (ends : MemberEnds) (old new : Option (Desk D)) (now : Desk D) → new ≡ Some now
      → IsLeft told remembers cells moment left_since is_installed counts m opening lane restored ends old new → A ⊎ (now.faulty ≡ false)
      → A ⊎ IsReady told cells lane restored new
  again-or counts ends old new now is left (inl over) = inl over
  again-or counts ends old new now is left (inr whole) = inr (ready-left counts ends old new left (subst IsWholeDesk (sym is) whole))

-- ---- all members

-- what holds of each of them holds of the one at an index
pub all-at : {R : Type 0} (P : R → Type 0) (xs : List R) (i : ℕ) (x : R) → x ≡ slice_index_or xs i x → i < length xs → All P xs → P x
all-at P xs i x is within all = subst P (sym is) (all i x within)

-- what holds of another one at an index, if it held of that one
pub all-with : {R : Type 0} (P : R → Type 0) (xs : List R) (i : ℕ) (x y : R) → x ≡ slice_index_or xs i x → i < length xs → (P x → P y) → All P xs → All P (slice_set xs i y)
all-with P xs i x y is within step all = All-set P xs i y (step (all-at P xs i x is within all)) all

-- the one at an index is another, with the same number
pub numbers-set : {R : Type 0} (number : R → ℕ) (xs : List R) (i : ℕ) (x y : R) → x ≡ slice_index_or xs i x → i < length xs → number y ≡ number x → map number (slice_set xs i y) ≡ map number xs
numbers-set number xs i x y is within same =
    map-set number xs i y ∙ ap (λ (n : ℕ). set (map number xs) i n) (same ∙ ap number is ∙ sym (get_or-map number xs i x 0 within)) ∙ set-get_or (map number xs) i 0

-- one of two that is not the first
pub the-other : {A B : Type 0} → A ⊎ B → (A → ⊥) → B
the-other (inl first) none = absurd (none first)
the-other (inr second) none = second

-- what holds of each of them holds of each as it is left
pub all-left : {R : Type 0} (P Q : R → Type 0) (old new : List R) → length new ≡ length old → ((i : ℕ) (d : R) → i < length old → P (slice_index_or old i d) → Q (slice_index_or new i d)) → All P old → All Q new
all-left P Q old new many step all = λ k d within. let below : k < length old = omega (arith, within, many) in step k d below (all k d below)

pub numbers-left : {R : Type 0} (number : R → ℕ) (old new : List R) → length new ≡ length old → ((i : ℕ) (d : R) → i < length old → number (slice_index_or new i d) ≡ number (slice_index_or old i d)) → map number new ≡ map number old
numbers-left number [] [] many same = refl
numbers-left number [] (y ∷ new) many same = absurd (omega (arith, many))
numbers-left number (x ∷ old) [] many same = absurd (omega (arith, many))
numbers-left number (x ∷ old) (y ∷ new) many same =
    ap₂ (λ (n : ℕ) (ns : List ℕ). n ∷ ns) (same 0 x (omega arith)) (numbers-left number old new (omega (arith, many)) (λ i d within. same (suc i) d (omega (arith, within))))

module _ {S D : Type 0} (told remembers : Type 0) (cells : D → Cells) (moment : D → ℕ) (left_since : D → ℕ → List ℕ → Type 0) (m : Meaning S) (lane : ℕ → TableId × TableId) (opening : ℕ → Node S) (restored : ℕ → ℕ)
    (counts : D → ℕ) (ends : MemberEnds) (old new : Option (Desk D)) (was now : ℕ) (same : now ≡ was) where
  pub desk-left : (origins : ℕ → Origin) → IsReady told cells (lane was) (restored was) old → IsLeft told remembers cells moment left_since is_installed counts m (opening was) (lane was) (restored was) ends old new
      → HasDesk told remembers cells moment left_since m (origins was) (lane was) (opening was) (restored was) old → HasDesk told remembers cells moment left_since m (origins now) (lane now) (opening now) (restored now) new
  desk-left origins ready left had =
      subst (λ (n : ℕ). HasDesk told remembers cells moment left_since m (origins n) (lane n) (opening n) (restored n) new) (sym same)
      (has-desk-more told remembers cells moment left_since m (origins was) (lane was) (opening was) (restored was) counts ends old new ready had left)

  pub worked-left : (begun : ℕ → Disks D) (before : MemberEnds) → IsLeft told remembers cells moment left_since is_installed counts m (opening was) (lane was) (restored was) ends old new
      → HasWorked counts (begun was) before old → HasWorked counts (begun now) ends new
  worked-left begun before left had =
      subst (λ (n : ℕ). HasWorked counts (begun n) ends new) (sym same)
      (worked-more told remembers cells moment left_since m (lane was) (opening was) (restored was) counts (begun was) before ends old new had left)

  pub ready-more : IsLeft told remembers cells moment left_since is_installed counts m (opening was) (lane was) (restored was) ends old new → IsWholeDesk new → IsReady told cells (lane now) (restored now) new
  ready-more left whole =
      subst (λ (n : ℕ). IsReady told cells (lane n) (restored n) new) (sym same)
      (ready-left told remembers cells moment left_since m (lane was) (opening was) (restored was) counts ends old new left whole)
