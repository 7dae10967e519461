-- The stores of the members as a group has left them.
use Rattle.std.proofs.Common.{◌≡◌, ℕ, zero, suc, ◌+◌, ◌-◌, ◌<◌, ◌≤◌, List, [], ◌∷◌, length, get_or, ap, subst, arith}
use Rattle.durable_store.specs.Disks.{cells_of}
use Rattle.member_opening.specs.Devices.{devices_at}
use Rattle.member_opening.specs.Restorings.{node_by, parts_in}
use Rattle.group_parties.specs.Manned.{RoundsOf}
use Rattle.node_rules.specs.Nodes.{Node}
use Rattle.store_laws.specs.Stops.{is_installed}
use Rattle.group_parties.specs.Crews.{AreFit, IsCrew, IsFit}
use Rattle.group_run.specs.Parties.{StoreOver}
use Rattle.group_parties.specs.Rests.{AreEnded, IsEnded}
use Rattle.group_opening.specs.Runs.{GroupRun, member_settings}
use Rattle.group_parties.specs.declared.crew.Crew.{Crew}
use Rattle.group_parties.specs.declared.crew.Headed.{Headed}
use Rattle.group_parties.specs.declared.ending.MemberEnd.{MemberEnd}
use Rattle.group_parties.specs.declared.seating.Station.{Station}

module _ {S : Type 0} (r : GroupRun S) (counts : r.disk → ℕ) (faults : r.sink → ℕ) where
  -- one member
  store-over : (member : ℕ) (h : Headed) (b : Station S r.disk r.sink) (fit : IsFit r.meaning r.told r.cells r.text_of (r.images member) r.settings member h b) (e : MemberEnd r.disk r.sink)
      → IsEnded r.meaning r.told r.remembers r.cells r.moment r.left_since counts r.text_of faults r.images r.settings member h b fit e
      → (r.told → devices_at r.room.after r.settings.dir member ≡ cells_of r.cells e.store.disks) → StoreOver r member
  store-over member h b fit e ended devices =
      let faulty = ended.since.0 in
      let taken = ended.since.1.0 in
      let since = ended.since.1.1 in
      let count = length fit.kept.entries in record {
        kept = fit.kept;
        restored = fit.restored;
        whole = fit.whole;
        opened = since.opened;
        opens = since.opens;
        store = e.store;
        taken = taken;
        faulty = faulty;
        rounds = subst (λ (n : Node S). RoundsOf r.told r.remembers r.cells r.moment r.left_since is_installed r.meaning n count faulty [] taken since.opened e.store) fit.node
            (subst (λ (k : ℕ). RoundsOf r.told r.remembers r.cells r.moment r.left_since is_installed r.meaning b.core.node k faulty [] taken since.opened e.store) fit.restored_are since.rounds);
        devices = devices;
      }

  -- members with the numbers from this one on
  stores-by : (first : ℕ) (hs : List Headed) (bs : List (Station S r.disk r.sink)) (fit : AreFit r.meaning r.told r.cells r.text_of r.images r.settings first hs bs) (es : List (MemberEnd r.disk r.sink))
      → AreEnded r.meaning r.told r.remembers r.cells r.moment r.left_since counts r.text_of faults r.images r.settings first hs bs fit es
      → ((i : ℕ) (e : MemberEnd r.disk r.sink) → i < length es → r.told → devices_at r.room.after r.settings.dir (first + i) ≡ cells_of r.cells (get_or es i e).store.disks)
      → (i : ℕ) → i < length bs → StoreOver r (first + i)
  stores-by first [] [] fit es ended devices i few = absurd (omega (arith, few))
  stores-by first [] (b ∷ bs) fit es ended devices i few = absurd fit
  stores-by first (h ∷ hs) [] fit es ended devices i few = absurd fit
  stores-by first (h ∷ hs) (b ∷ bs) fit [] ended devices i few = absurd ended
  stores-by first (h ∷ hs) (b ∷ bs) fit (e ∷ es) ended devices zero few =
      let here : first ≡ first + 0 = omega arith in
      let back : first + 0 ≡ first = omega arith in
      let within : 0 < length (e ∷ es) = omega arith in
      subst (λ (n : ℕ). StoreOver r n) here
      (store-over first h b fit.0 e ended.0 (λ told. subst (λ (n : ℕ). devices_at r.room.after r.settings.dir n ≡ cells_of r.cells e.store.disks) back (devices 0 e within told)))
  stores-by first (h ∷ hs) (b ∷ bs) fit (e ∷ es) ended devices (suc i) few =
      let back : suc first + i ≡ first + suc i = omega arith in
      let fewer : i < length bs = omega (arith, few) in
      subst (λ (n : ℕ). StoreOver r n) back
      (stores-by (suc first) hs bs fit.1 es ended.1 (λ k x within told.
      let next : first + suc k ≡ suc first + k = omega arith in
      let below : suc k < length (e ∷ es) = omega (arith, within) in
      subst (λ (n : ℕ). devices_at r.room.after r.settings.dir n ≡ cells_of r.cells (get_or es k x).store.disks) next (devices (suc k) x below told)) i fewer)

  -- each member of a group
  pub stores-over : (crew : Crew S r.disk r.sink) (is : IsCrew r.meaning r.told r.cells r.text_of r.images r.settings crew) (es : List (MemberEnd r.disk r.sink))
      → AreEnded r.meaning r.told r.remembers r.cells r.moment r.left_since counts r.text_of faults r.images r.settings 1 crew.heads.items crew.stations.items is.fit es
      → ((i : ℕ) (e : MemberEnd r.disk r.sink) → i < length es → r.told → devices_at r.room.after r.settings.dir (1 + i) ≡ cells_of r.cells (get_or es i e).store.disks)
      → (member : ℕ) → 1 ≤ member → member ≤ r.settings.members → StoreOver r member
  stores-over crew is es ended devices member first last =
      let place : 1 + (member - 1) ≡ member = omega (arith, first) in
      let few : member - 1 < length crew.stations.items = omega (arith, first, last, is.many) in
      subst (λ (n : ℕ). StoreOver r n) place (stores-by 1 crew.heads.items crew.stations.items is.fit es ended devices (member - 1) few)
