-- What is left of members, by their names and by what they began with.
use Rattle.std.proofs.Common.{◌≡◌, ◌∙◌, ℕ, zero, suc, ◌+◌, ◌-◌, ◌<◌, ◌≤◌, Bool, true, false, List, [], ◌∷◌, ◌++◌, length, map, drop, get_or, ◌⊎◌, inl, inr, true≢false, Option, Some, None, IfSome, refl, sym, ap, subst, arith}
use Rattle.std.proofs.lemmas.List.{length-map}
use Rattle.std.proofs.lemmas.List.Elements.{All-get_or, All-weaker}
use Rattle.std.specs.List.{All}
use Rattle.atomic_table.specs.Seated.{TableId}
use Rattle.node_rules.specs.Nodes.{Node}
use Rattle.group_threads.specs.declared.desk.Desk.{Desk}
use Rattle.faults.specs.Counts.{Rose}
use Rattle.disk_model.specs.Cells.{Cells}
use Rattle.durable_store.specs.Disks.{DiskRose, NoneFell}
use Rattle.durable_store.specs.declared.disks.Disks.{Disks}
use Rattle.durable_store.specs.declared.store.Store.{Store}
use Rattle.durable_store.proofs.Faults.{fell_none}
use Rattle.node_endings.proofs.Chained.{no_rounds}
use Rattle.smart_service.specs.Services.{Meaning}
use Rattle.store_laws.specs.Restored.{Images}
use Rattle.store_laws.specs.Stops.{is_installed}
use Rattle.store_laws.specs.declared.job.Kept.{Kept}
use Rattle.member_opening.specs.Opened.{OpensWith}
use Rattle.trail.specs.declared.opening.TrailOpening.{TrailOpening}
use Rattle.group_ends.specs.Ports.{ends, port_links, inbox_links}
use Rattle.group_parties.specs.Crews.{begun_of, names_of, AreFit, IsCrew, IsFit}
use Rattle.group_parties.specs.Manned.{HasDesk, HoldsDesk, IsLeftOver, IsSinceOpened}
use Rattle.group_parties.specs.Origins.{Origin}
use Rattle.group_parties.specs.Rests.{AreEnded, IsEnded, IsEndedBy}
use Rattle.group_parties.specs.Stations.{AreBegun, AreOpened, Names}
use Rattle.group_parties.specs.Unseated.{IsUnseated}
use Rattle.group_parties.specs.declared.crew.Crew.{Crew}
use Rattle.group_parties.specs.declared.crew.Headed.{Headed}
use Rattle.group_parties.specs.declared.ending.Lived.{Lived}
use Rattle.group_parties.specs.declared.ending.MemberEnd.{MemberEnd}
use Rattle.group_parties.specs.declared.seating.Station.{Station}
use Rattle.group_opening.specs.declared.settings.GroupSettings.{GroupSettings}
use Rattle.group_parties.proofs.Stationed.{AreSaid, Reads, Says, reads-behind}

-- a number is below another one, or it is not
one-up : (a b : ℕ) → (a < b) ⊎ (b ≤ a) → (suc a < suc b) ⊎ (suc b ≤ suc a)
one-up a b (inl less) = inl (omega (arith, less))
one-up a b (inr more) = inr (omega (arith, more))

below-or : (a b : ℕ) → (a < b) ⊎ (b ≤ a)
below-or a zero = inr (omega arith)
below-or zero (suc b) = inl (omega arith)
below-or (suc a) (suc b) = one-up a b (below-or a b)

-- ---- members by their numbers

-- lists of the same numbers have the same one at each place
pub numbers-same : {A : Type 0} (f : A → ℕ) (new old : List A) → map f new ≡ map f old → (i : ℕ) (x y : A) → i < length old → f (get_or new i x) ≡ f (get_or old i y)
numbers-same f [] [] same i x y within = absurd (omega (arith, within))
numbers-same f [] (b ∷ old) same i x y within = absurd (omega (arith, ap length same))
numbers-same f (a ∷ new) [] same i x y within = absurd (omega (arith, within))
numbers-same f (a ∷ new) (b ∷ old) same zero x y within = ap (λ (ns : List ℕ). get_or ns 0 0) same
numbers-same f (a ∷ new) (b ∷ old) same (suc i) x y within = numbers-same f new old (ap (λ (ns : List ℕ). drop 1 ns) same) i x y (omega (arith, within))

pub as-many : {A : Type 0} (f : A → ℕ) (new old : List A) → map f new ≡ map f old → length new ≡ length old
as-many f new old same = omega (arith, ap length same, length-map new f, length-map old f)

-- ---- all of several values

pub all-at : {A : Type 0} (xs : List A) (P : A → Type 0) → All P xs → (i : ℕ) (d : A) → i < length xs → P (get_or xs i d)
all-at xs P all i d within = All-get_or P xs i d within all

pub all-so : {A : Type 0} (xs : List A) (P Q : A → Type 0) → ((x : A) → P x → Q x) → All P xs → All Q xs
all-so xs P Q each all = All-weaker P Q each xs all

-- there is a desk where it is known how it came about
pub has-holds : {S D : Type 0} (told remembers : Type 0) (cells : D → Cells) (moment : D → ℕ) (left_since : D → ℕ → List ℕ → Type 0) (m : Meaning S) (origin : Origin) (lane : TableId × TableId) (opening : Node S) (restored : ℕ) (desk : Option (Desk D))
    → HasDesk told remembers cells moment left_since m origin lane opening restored desk → HoldsDesk lane restored desk
has-holds told remembers cells moment left_since m origin lane opening restored None has = absurd has
has-holds told remembers cells moment left_since m origin lane opening restored (Some desk) has = has.of

-- ---- what the stores were opened with

pub no_kept : Kept
no_kept = record { present = None; entries = [] }

module _ {S D O : Type 0} (m : Meaning S) (told : Type 0) (cells : D → Cells) (written : O → Option (List ℕ)) (images : ℕ → Images) (s : GroupSettings) where
  -- what the stores of members restored
  abbrev pub kept_in : (first : ℕ) (hs : List Headed) (bs : List (Station S D O)) → AreFit m told cells written images s first hs bs → List Kept
  kept_in first [] bs fit = []
  kept_in first (h ∷ hs) [] fit = []
  kept_in first (h ∷ hs) (b ∷ bs) fit = fit.0.kept ∷ kept_in (suc first) hs bs fit.1

  -- with what the store of each member was opened, by its number
  abbrev pub origins_of : (hs : List Headed) (bs : List (Station S D O)) → AreFit m told cells written images s 1 hs bs → ℕ → Origin
  origins_of hs bs fit = λ number. record { images = images number; kept = get_or (no_kept ∷ kept_in 1 hs bs fit) number no_kept }

  opened-by : (f : ℕ → Kept) (first : ℕ) (hs : List Headed) (bs : List (Station S D O)) (fit : AreFit m told cells written images s first hs bs) → Reads f first (kept_in first hs bs fit)
      → AreOpened told cells (λ (number : ℕ). record { images = images number; kept = f number }) first bs
  opened-by f first [] [] fit reads = tt
  opened-by f first [] (b ∷ bs) fit reads = absurd fit
  opened-by f first (h ∷ hs) [] fit reads = tt
  opened-by f first (h ∷ hs) (b ∷ bs) fit reads = (subst (λ (kept : Kept). OpensWith told cells (images first) kept b.store) (sym reads.0) fit.0.opens, opened-by f (suc first) hs bs fit.1 reads.1)

  kept-read : (hs : List Headed) (bs : List (Station S D O)) (fit : AreFit m told cells written images s 1 hs bs) → Reads (λ (number : ℕ). (origins_of hs bs fit number).kept) 1 (kept_in 1 hs bs fit)
  kept-read hs bs fit = reads-behind no_kept (kept_in 1 hs bs fit) no_kept

  pub opened-of : (hs : List Headed) (bs : List (Station S D O)) (fit : AreFit m told cells written images s 1 hs bs) → AreOpened told cells (origins_of hs bs fit) 1 bs
  opened-of hs bs fit = opened-by (λ (number : ℕ). get_or (no_kept ∷ kept_in 1 hs bs fit) number no_kept) 1 hs bs fit (reads-behind no_kept (kept_in 1 hs bs fit) no_kept)

-- ---- and their devices

module _ {S D O : Type 0} where
  abbrev disks_in : List (Station S D O) → List (Disks D)
  disks_in bs = map (λ (b : Station S D O). b.store.disks) bs

  -- the devices of each member by its number, where there is one
  abbrev pub begun_by : Disks D → List (Station S D O) → ℕ → Disks D
  begun_by d bs = λ number. get_or (d ∷ disks_in bs) number d

  devices-by : (f : ℕ → Disks D) (first : ℕ) (bs : List (Station S D O)) → Reads f first (disks_in bs) → AreBegun f first bs
  devices-by f first [] reads = tt
  devices-by f first (b ∷ bs) reads = (reads.0, devices-by f (suc first) bs reads.1)

  pub devices-of : (d : Disks D) (bs : List (Station S D O)) → AreBegun (begun_by d bs) 1 bs
  devices-of d bs = devices-by (begun_by d bs) 1 bs (reads-behind d (disks_in bs) d)

  disks-at : (bs : List (Station S D O)) (i : ℕ) (b : Station S D O) → b ≡ get_or bs i b → get_or (disks_in bs) i b.store.disks ≡ b.store.disks
  disks-at [] i b is = refl
  disks-at (x ∷ bs) zero b is = ap (λ (y : Station S D O). y.store.disks) (sym is)
  disks-at (x ∷ bs) (suc i) b is = disks-at bs i b is

-- ---- a member that had a seat, and one that had none

module _ {S D O : Type 0} (n : Names S) (m : Meaning S) (told remembers : Type 0) (cells : D → Cells) (moment : D → ℕ) (left_since : D → ℕ → List ℕ → Type 0) (counts : D → ℕ) (written : O → Option (List ℕ)) (faults : O → ℕ) (images : ℕ → Images) (s : GroupSettings) where
  pub ended-by : (origins : ℕ → Origin) (begun : ℕ → Disks D) (number : ℕ) (h : Headed) (b : Station S D O) (fit : IsFit m told cells written (images number) s number h b) (e : MemberEnd D O)
      → Says written faults n number h b → e.member ≡ number → origins number ≡ record { images = images number; kept = fit.kept } → begun number ≡ b.store.disks
      → IsEndedBy n m told remembers cells moment left_since counts written faults origins begun e
      → IsEnded m told remembers cells moment left_since counts written faults images s number h b fit e
  ended-by origins begun number h b fit e says is origin devices ended =
      let here : Says written faults n e.member h b = subst (λ (k : ℕ). Says written faults n k h b) (sym is) says in
      let disks : begun e.member ≡ b.store.disks = ap begun is ∙ devices in
      let from : origins e.member ≡ record { images = images number; kept = fit.kept } = ap origins is ∙ origin in record {
        number = is;
        later = subst (λ (d : Disks D). NoneFell counts d e.store.disks) disks ended.later;
        worn = λ worn. subst (λ (d : Disks D). DiskRose counts d e.store.disks) disks (ended.worn worn);
        failed = λ failed. subst (λ (k : ℕ). Rose k (faults e.sink)) here.failures (ended.failed failed);
        since = rw (from, here.opening, here.restored) at ended.since;
        lived = rw (from, here.opening, here.restored, here.head, here.entries, here.begun, here.receivers, here.leaving, here.arriving) at ended.lived;
      }

  -- what is known of it by its number
  pub ended-from : (origins : ℕ → Origin) (begun : ℕ → Disks D) (number : ℕ) (e : MemberEnd D O) → e.member ≡ number → NoneFell counts (begun number) e.store.disks
      → (e.worn ≡ true → DiskRose counts (begun number) e.store.disks) → (e.failed ≡ true → Rose (n.failures number) (faults e.sink))
      → IsSinceOpened told remembers cells moment left_since m (origins number) (n.opening number) (n.restored number) e.store
      → IfSome e.lived (IsLeftOver told remembers cells moment left_since m written (origins number) (n.opening number) (n.restored number) (n.head number) (n.entries number) (n.begun number) (n.receivers number) (n.leaving number) (n.arriving number) e.store e.sink)
      → IsEndedBy n m told remembers cells moment left_since counts written faults origins begun e
  ended-from origins begun number e is later worn failed since lived = record {
    later = subst (λ (k : ℕ). NoneFell counts (begun k) e.store.disks) (sym is) later;
    worn = λ w. subst (λ (k : ℕ). DiskRose counts (begun k) e.store.disks) (sym is) (worn w);
    failed = λ f. subst (λ (k : ℕ). Rose (n.failures k) (faults e.sink)) (sym is) (failed f);
    since = subst (λ (k : ℕ). IsSinceOpened told remembers cells moment left_since m (origins k) (n.opening k) (n.restored k) e.store) (sym is) since;
    lived = subst (λ (k : ℕ). IfSome e.lived (IsLeftOver told remembers cells moment left_since m written (origins k) (n.opening k) (n.restored k) (n.head k) (n.entries k) (n.begun k) (n.receivers k) (n.leaving k) (n.arriving k) e.store e.sink)) (sym is) lived;
  }

  -- a member that got no seat
  pub unseated-ended : (number : ℕ) (h : Headed) (b : Station S D O) (fit : IsFit m told cells written (images number) s number h b) (e : MemberEnd D O) → IsUnseated b e
      → IsEnded m told remembers cells moment left_since counts written faults images s number h b fit e
  unseated-ended number h b fit e u = record {
    number = u.member ∙ fit.number;
    later = subst (λ (store : Store D). NoneFell counts b.store.disks store.disks) (sym u.store) (fell_none counts b.store.disks);
    worn = λ worn. absurd (true≢false (sym worn ∙ u.sound.1));
    failed = λ failed. absurd (true≢false (sym failed ∙ u.sound.0));
    since = (
      false,
      (
        [],
        record {
          opened = e.store;
          opens = subst (λ (store : Store D). OpensWith told cells (images number) fit.kept store) (sym u.store) fit.opens;
          rounds = no_rounds told remembers cells moment left_since is_installed m b.core.node b.store.plan.restored false [] e.store refl;
        },
      ),
    );
    lived = rw u.none tt;
  }

  -- ---- all of them

  each-ended : (f : ℕ → Kept) (first : ℕ) (hs : List Headed) (bs : List (Station S D O)) (fit : AreFit m told cells written images s first hs bs) (es : List (MemberEnd D O)) → length es ≡ length bs
      → AreSaid written faults n first hs bs → Reads f first (kept_in m told cells written images s first hs bs fit)
      → ((i number : ℕ) (h : Headed) (b : Station S D O) (fit : IsFit m told cells written (images number) s number h b) (e : MemberEnd D O) → number ≡ first + i → i < length bs → b ≡ get_or bs i b → e ≡ get_or es i e
      → Says written faults n number h b → f number ≡ fit.kept → IsEnded m told remembers cells moment left_since counts written faults images s number h b fit e)
      → AreEnded m told remembers cells moment left_since counts written faults images s first hs bs fit es
  each-ended f first [] [] fit [] many says reads each = tt
  each-ended f first [] [] fit (e ∷ es) many says reads each = absurd (omega (arith, many))
  each-ended f first [] (b ∷ bs) fit es many says reads each = absurd fit
  each-ended f first (h ∷ hs) [] fit es many says reads each = absurd fit
  each-ended f first (h ∷ hs) (b ∷ bs) fit [] many says reads each = absurd (omega (arith, many))
  each-ended f first (h ∷ hs) (b ∷ bs) fit (e ∷ es) many says reads each =
      let within : 0 < length (b ∷ bs) = omega arith in
      let here : first ≡ first + 0 = omega arith in
      let fewer : length es ≡ length bs = omega (arith, many) in (
        each 0 first h b fit.0 e here within refl refl says.0 reads.0,
        each-ended f (suc first) hs bs fit.1 es fewer says.1 reads.1 (λ i number h' b' fit' e' is few b-is e-is said kept-is.
            let next : number ≡ first + suc i = omega (arith, is) in
            let below : suc i < length (b ∷ bs) = omega (arith, few) in
            each (suc i) number h' b' fit' e' next below b-is e-is said kept-is),
      )

  -- one of them, by whether it had a seat
  one-ended : (hs : List Headed) (bs : List (Station S D O)) (es : List (MemberEnd D O)) (count : ℕ) (fits : AreFit m told cells written images s 1 hs bs)
      → ((i : ℕ) (e : MemberEnd D O) (b : Station S D O) → i < count → (get_or es i e).member ≡ (get_or bs i b).member)
      → ((origins : ℕ → Origin) (begun : ℕ → Disks D) → AreOpened told cells origins 1 bs → AreBegun begun 1 bs → (i : ℕ) (e : MemberEnd D O) → i < count → IsEndedBy n m told remembers cells moment left_since counts written faults origins begun (get_or es i e))
      → ((i : ℕ) (b : Station S D O) (e : MemberEnd D O) → count ≤ i → i < length bs → IsUnseated (get_or bs i b) (get_or es i e))
      → (i number : ℕ) (h : Headed) (b : Station S D O) (fit : IsFit m told cells written (images number) s number h b) (e : MemberEnd D O) → number ≡ 1 + i → i < length bs → b ≡ get_or bs i b → e ≡ get_or es i e
      → Says written faults n number h b → (origins_of m told cells written images s hs bs fits number).kept ≡ fit.kept → (i < count) ⊎ (count ≤ i)
      → IsEnded m told remembers cells moment left_since counts written faults images s number h b fit e
  one-ended hs bs es count fits seated ended unseated i number h b fit e is few b-is e-is says kept-is (inl less) =
      let origins = origins_of m told cells written images s hs bs fits in
      let begun = begun_by b.store.disks bs in
      let member : e.member ≡ number = ap (λ (x : MemberEnd D O). x.member) e-is ∙ seated i e b less ∙ ap (λ (x : Station S D O). x.member) (sym b-is) ∙ fit.number in
      let next : number ≡ suc i = omega (arith, is) in
      let devices : begun number ≡ b.store.disks = ap begun next ∙ disks-at bs i b b-is in
      ended-by origins begun number h b fit e says member (ap (λ (kept : Kept). record { images = images number; kept = kept }) kept-is) devices
      (subst (λ (x : MemberEnd D O). IsEndedBy n m told remembers cells moment left_since counts written faults origins begun x) (sym e-is)
      (ended origins begun (opened-of m told cells written images s hs bs fits) (devices-of b.store.disks bs) i e less))
  one-ended hs bs es count fits seated ended unseated i number h b fit e is few b-is e-is says kept-is (inr more) =
      unseated-ended number h b fit e (subst (λ (x : MemberEnd D O). IsUnseated b x) (sym e-is) (subst (λ (x : Station S D O). IsUnseated x (get_or es i e)) (sym b-is) (unseated i b e more few)))

  -- the first so many had a seat, and those behind them had none
  pub all-ended : (hs : List Headed) (bs : List (Station S D O)) (es : List (MemberEnd D O)) (count : ℕ) (fits : AreFit m told cells written images s 1 hs bs) → length es ≡ length bs → AreSaid written faults n 1 hs bs
      → ((i : ℕ) (e : MemberEnd D O) (b : Station S D O) → i < count → (get_or es i e).member ≡ (get_or bs i b).member)
      → ((origins : ℕ → Origin) (begun : ℕ → Disks D) → AreOpened told cells origins 1 bs → AreBegun begun 1 bs → (i : ℕ) (e : MemberEnd D O) → i < count → IsEndedBy n m told remembers cells moment left_since counts written faults origins begun (get_or es i e))
      → ((i : ℕ) (b : Station S D O) (e : MemberEnd D O) → count ≤ i → i < length bs → IsUnseated (get_or bs i b) (get_or es i e))
      → AreEnded m told remembers cells moment left_since counts written faults images s 1 hs bs fits es
  all-ended hs bs es count fits many says seated ended unseated =
      each-ended (λ (number : ℕ). (origins_of m told cells written images s hs bs fits number).kept) 1 hs bs fits es many says (kept-read m told cells written images s hs bs fits)
      (λ i number h b fit e is few b-is e-is said kept-is. one-ended hs bs es count fits seated ended unseated i number h b fit e is few b-is e-is said kept-is (below-or i count))
