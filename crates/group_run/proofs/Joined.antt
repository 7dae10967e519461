-- The members of a group that has run, each with what it began with and what it has lived.
use Rattle.std.proofs.Common.{◌≡◌, ◌∙◌, ℕ, zero, suc, ◌+◌, ◌<◌, ◌≤◌, ◌==◌, ◌⊎◌, inl, inr, Bool, true, false, true≢false, List, [], ◌∷◌, ◌++◌, length, length-append, map, drop, replicate, get_or, Option, Some, None, IfSome, refl, sym, ap, subst, arith}
use Rattle.std.specs.List.{All}
use Rattle.std.proofs.lemmas.List.{length-map, map-append}
use Rattle.std.proofs.lemmas.List.Elements.{All-head, All-tail}
use Rattle.atomic_table.specs.Seated.{TableId}
use Rattle.disk_model.specs.Rooms.{Address, address}
use Rattle.durable_store.specs.Disks.{cells_of}
use Rattle.smart_base.specs.Lists.{Each}
use Rattle.smart_service.specs.Services.{Meaning}
use Rattle.store_laws.specs.declared.job.Kept.{Kept}
use Rattle.node_rules.specs.Nodes.{Node}
use Rattle.node_rules.specs.declared.node.Target.{Target}
use Rattle.node_rules.specs.declared.node.Target.TheVariants.{Client}
use Rattle.member_opening.specs.Devices.{devices_at}
use Rattle.member_opening.specs.Restorings.{node_by, parts_in}
use Rattle.node_played.specs.Lives.{made_texts}
use Rattle.queue_ends.specs.Rule.{IsFront}
use Rattle.store_laws.specs.Stops.{is_installed}
use Rattle.trail.specs.Trails.{trail_text}
use Rattle.trail.specs.declared.event.TrailEvent.{TrailEvent}
use Rattle.trail.specs.declared.opening.TrailOpening.{TrailOpening}
use Rattle.trail_rules.specs.Replays.{core_steps, needed, replay, arrivals, Released}
use Rattle.audit_rules.specs.declared.recorded.Recorded.{Recorded}
use Rattle.group_ends.specs.Carried.{times, DropsLate}
use Rattle.group_ends.specs.Facts.{poured}
use Rattle.group_ends.specs.Ports.{ends, port_links, inbox_links, takings, CarriesFirst}
use Rattle.group_ends.specs.declared.inbox.Inbox.{Inbox}
use Rattle.group_ends.specs.declared.port.Port.{Port}
use Rattle.group_wires.specs.Comings.{AreCarried, LeadsTo}
use Rattle.group_wires.specs.Wires.{all_ends, all_links, all_takings, column, member_ends, place_of, receivers, row_ends, row_links, row_puts, AreLinked, HaveCome}
use Rattle.group_wires.specs.declared.row.Row.{Row}
use Rattle.group_parties.specs.Crews.{begun_of, inboxes_of, rows_of, AreFit, HasHead, IsCrew, IsFit}
use Rattle.group_parties.specs.Gathered.{recorded_of, trails_in}
use Rattle.group_parties.specs.Manned.{IsLeftOver, RoundsOf}
use Rattle.group_run.specs.Parties.{end_of, receivers_of, AreOver, CameFrom, ClientOver, GroupOver, IsKept, MemberOver}
use Rattle.group_parties.specs.Rests.{AreEnded, HasRun, IsEnded}
use Rattle.group_opening.specs.Runs.{GroupRun, client_head, member_settings}
use Rattle.group_parties.specs.Seated.{IsClientLeft}
use Rattle.group_parties.specs.declared.crew.Crew.{Crew}
use Rattle.group_parties.specs.declared.crew.Headed.{Headed}
use Rattle.group_parties.specs.declared.ending.Lived.{Lived}
use Rattle.group_parties.specs.declared.ending.MemberEnd.{MemberEnd}
use Rattle.group_parties.specs.declared.seating.Station.{Station}
use Rattle.group_client.specs.Amounts.{AsksUpTo}
use Rattle.group_wires.proofs.Columns.{each-push}
use Rattle.group_run.proofs.Coming.{came-from, ends-length, rows-lead}
use Rattle.group_parties.proofs.Stationed.{Reads, each-same, head-all, head-front, reads-by}

-- ---- lists

map-over : {A B C : Type 0} (f : B → C) (g : A → B) (xs : List A) → map f (map g xs) ≡ map (λ (x : A). f (g x)) xs
map-over f g [] = refl
map-over f g (x ∷ xs) = ap (λ rest. f (g x) ∷ rest) (map-over f g xs)

reads-front : {A : Type 0} (f : ℕ → A) (first : ℕ) (xs ys : List A) → Reads f first (xs ++ ys) → Reads f first xs
reads-front f first [] ys reads = tt
reads-front f first (x ∷ xs) ys reads = (reads.0, reads-front f (suc first) xs ys reads.1)

-- the last of a list that was made of two
map-last : {A B C : Type 0} (f : B → C) (g : A → B) (xs : List A) (y : B) (d : C) → get_or (map f (map g xs ++ y ∷ [])) (length xs) d ≡ f y
map-last f g [] y d = refl
map-last f g (x ∷ xs) y d = map-last f g xs y d

reads-last : {A : Type 0} (f : ℕ → A) (first : ℕ) (xs : List A) (y : A) → Reads f first (xs ++ y ∷ []) → f (first + length xs) ≡ y
reads-last f first [] y reads =
    let here : first + 0 ≡ first = omega arith in
    ap f here ∙ reads.0
reads-last f first (x ∷ xs) y reads =
    let next : first + suc (length xs) ≡ suc first + length xs = omega arith in
    ap f next ∙ reads-last f (suc first) xs y reads.1

-- a list is read from its beginning
reads-all : {A : Type 0} (f : ℕ → A) (xs : List A) (d : A) → ((i : ℕ) → f i ≡ get_or xs i d) → Reads f 0 xs
reads-all f xs d each = reads-by f 0 xs d (λ i few.
    let here : 0 + i ≡ i = omega arith in
    ap f here ∙ each i)

module _ {S : Type 0} (r : GroupRun S) (counts : r.disk → ℕ) (faults : r.sink → ℕ) where
  -- a member from its beginning to its end
  pub record Member : Type 0 where
    pub number : ℕ
    pub headed : Headed
    pub station : Station S r.disk r.sink
    pub end : MemberEnd r.disk r.sink
    pub lived : Lived
    pub fit : IsFit r.meaning r.told r.cells r.text_of (r.images number) r.settings number headed station
    pub left : IsLeftOver r.told r.remembers r.cells r.moment r.left_since r.meaning r.text_of (record { images = r.images number; kept = fit.kept }) station.core.node station.store.plan.restored headed.head headed.entries
        (begun_of headed.head headed.entries (r.text_of station.sink)) (ends station.row.ports.items) (port_links station.row.ports.items) (inbox_links station.inbox.links.items) end.store end.sink lived

  -- the members with the numbers from one on
  abbrev pub AreNumbered : ℕ → List Member → Type 0
  AreNumbered first [] = Unit {0}
  AreNumbered first (j ∷ js) = (j.number ≡ first) × AreNumbered (suc first) js

  abbrev pub trail_of : Member → Recorded
  trail_of j = recorded_of j.headed.head j.headed.entries j.lived

  -- Lists of the same members.
  pub record Joined (first : ℕ) (hs : List Headed) (bs : List (Station S r.disk r.sink)) (es : List (MemberEnd r.disk r.sink)) (ls : List Lived) : Type 0 where
    pub all : List Member
    pub numbered : AreNumbered first all
    pub heads : map (λ (j : Member). j.headed) all ≡ hs
    pub stations : map (λ (j : Member). j.station) all ≡ bs
    pub ends_are : map (λ (j : Member). j.end) all ≡ es
    pub lives : map (λ (j : Member). j.lived) all ≡ ls

  pub join : (first : ℕ) (hs : List Headed) (bs : List (Station S r.disk r.sink)) (fit : AreFit r.meaning r.told r.cells r.text_of r.images r.settings first hs bs) (es : List (MemberEnd r.disk r.sink)) (ls : List Lived)
      → AreEnded r.meaning r.told r.remembers r.cells r.moment r.left_since counts r.text_of faults r.images r.settings first hs bs fit es
      → map (λ (l : Lived). Some l) ls ≡ map (λ (e : MemberEnd r.disk r.sink). e.lived) es → Joined first hs bs es ls
  join first [] [] fit [] [] ended lives = record { all = []; numbered = tt; heads = refl; stations = refl; ends_are = refl; lives = refl }
  join first [] [] fit [] (l ∷ ls) ended lives = absurd (omega (arith, ap length lives))
  join first [] [] fit (e ∷ es) ls ended lives = absurd ended
  join first [] (b ∷ bs) fit es ls ended lives = absurd fit
  join first (h ∷ hs) [] fit es ls ended lives = absurd fit
  join first (h ∷ hs) (b ∷ bs) fit [] ls ended lives = absurd ended
  join first (h ∷ hs) (b ∷ bs) fit (e ∷ es) [] ended lives = absurd (omega (arith, ap length lives))
  join first (h ∷ hs) (b ∷ bs) fit (e ∷ es) (l ∷ ls) ended lives =
      let one : e.lived ≡ Some l = sym (ap (λ (found : List (Option Lived)). get_or found 0 None) lives) in
      let rest = join (suc first) hs bs fit.1 es ls ended.1 (ap (λ (found : List (Option Lived)). drop 1 found) lives) in
      let j : Member = record { number = first; headed = h; station = b; end = e; lived = l; fit = fit.0; left = rw one at ended.0.lived } in record {
        all = j ∷ rest.all;
        numbered = (refl, rest.numbered);
        heads = ap (λ (xs : List Headed). h ∷ xs) rest.heads;
        stations = ap (λ (xs : List (Station S r.disk r.sink)). b ∷ xs) rest.stations;
        ends_are = ap (λ (xs : List (MemberEnd r.disk r.sink)). e ∷ xs) rest.ends_are;
        lives = ap (λ (xs : List Lived). l ∷ xs) rest.lives;
      }

  trails-of : (js : List Member) → trails_in (map (λ (j : Member). j.headed) js) (map (λ (j : Member). j.lived) js) ≡ map trail_of js
  trails-of [] = refl
  trails-of (j ∷ js) = ap (λ (xs : List Recorded). trail_of j ∷ xs) (trails-of js)

  pub joined-trails : (first : ℕ) (hs : List Headed) (bs : List (Station S r.disk r.sink)) (es : List (MemberEnd r.disk r.sink)) (ls : List Lived) (joined : Joined first hs bs es ls) → trails_in hs ls ≡ map trail_of joined.all
  joined-trails first hs bs es ls joined =
      ap (λ (xs : List Headed). trails_in xs ls) (sym joined.heads) ∙ ap (λ (xs : List Lived). trails_in (map (λ (j : Member). j.headed) joined.all) xs) (sym joined.lives) ∙ trails-of joined.all

  -- ---- one member

  kept-text : (whole : Bool) (j : Member) → (whole ≡ true → j.lived.whole ≡ true) → IfSome (r.text_of j.end.sink) (λ text. r.trails.after (address r.settings.dir j.number 0) ≡ Some text) → IsKept r whole (trail_of j)
  kept-text whole j so kept =
      let same : j.headed.head.member ≡ j.number = ap (λ (head : TrailOpening). head.member) j.fit.head.0 in record {
        begun = j.fit.text.begun;
        empty = j.fit.text.empty;
        told = j.end.sink;
        text = head-front r.text_of j.headed.head j.headed.entries j.station.sink j.end.sink (trail_text j.headed.head j.headed.entries j.lived.events) j.fit.text j.left.text;
        kept = subst (λ (n : ℕ). IfSome (r.text_of j.end.sink) (λ text. r.trails.after (address r.settings.dir n 0) ≡ Some text)) (sym same) kept;
        all_text = λ is. head-all r.text_of j.headed.head j.headed.entries j.station.sink j.end.sink (trail_text j.headed.head j.headed.entries j.lived.events) j.fit.text (j.left.all_text (so is));
        ended = λ is. j.left.ended (so is);
      }

  member-over : (whole : Bool) (j : Member) → (whole ≡ true → j.lived.whole ≡ true) → receivers_of r.settings.members j.number ≡ ends j.station.row.ports.items
      → IfSome (r.text_of j.end.sink) (λ text. r.trails.after (address r.settings.dir j.number 0) ≡ Some text) → (r.told → devices_at r.room.after r.settings.dir j.number ≡ cells_of r.cells j.end.store.disks) → MemberOver r whole j.number (trail_of j)
  member-over whole j so receives kept devices =
      let f = j.fit in
      let l = j.left in
      let node = node_by r.meaning (member_settings r.settings j.number) (parts_in f.kept) in
      let count = length f.kept.entries in
      let steps = core_steps r.meaning in
      let events = j.lived.events in record {
        kept = f.kept;
        restored = f.restored;
        whole = f.whole;
        opening = f.head;
        released = subst (λ (n : Node S). Released steps n events) f.node l.released;
        end_last = l.end_last;
        late = subst (λ (ts : List Target). DropsLate ts [] events) (sym receives) l.late;
        opened = l.since.opened;
        opens = l.since.opens;
        store = j.end.store;
        taken = l.taken;
        faulty = l.faulty;
        front = subst (λ (n : Node S). IsFront l.taken (made_texts count (replay steps n events).entries)) f.node
            (subst (λ (k : ℕ). IsFront l.taken (made_texts k (replay steps j.station.core.node events).entries)) f.restored_are l.front);
        rounds = subst (λ (n : Node S). RoundsOf r.told r.remembers r.cells r.moment r.left_since is_installed r.meaning n count l.faulty [] l.taken l.since.opened j.end.store) f.node
            (subst (λ (k : ℕ). RoundsOf r.told r.remembers r.cells r.moment r.left_since is_installed r.meaning j.station.core.node k l.faulty [] l.taken l.since.opened j.end.store) f.restored_are l.since.rounds);
        needs = subst (λ (n : Node S). needed steps n events ≤ j.end.store.plan.firm) f.node l.needs;
        told_firm = subst (λ (n : Node S). (replay steps n events).firm ≤ j.end.store.plan.firm) f.node l.told_firm;
        devices = devices;
        text = kept-text whole j so kept;
      }

  -- ---- all members

  -- the texts of the trails of members with the numbers from one on are kept, and their devices
  abbrev pub AreKept : ℕ → List Member → Type 0
  AreKept first [] = Unit {0}
  AreKept first (j ∷ js) =
      IfSome (r.text_of j.end.sink) (λ text. r.trails.after (address r.settings.dir first 0) ≡ Some text)
      × ((r.told → devices_at r.room.after r.settings.dir first ≡ cells_of r.cells j.end.store.disks) × AreKept (suc first) js)

  -- the lives of members are whole, if all trails are
  abbrev pub AreWhole : Bool → List Member → Type 0
  AreWhole whole [] = Unit {0}
  AreWhole whole (j ∷ js) = (whole ≡ true → j.lived.whole ≡ true) × AreWhole whole js

  whole-by : (whole : Bool) (js : List Member) → (whole ≡ true → All (λ (l : Lived). l.whole ≡ true) (map (λ (j : Member). j.lived) js)) → AreWhole whole js
  whole-by whole [] all = tt
  whole-by whole (j ∷ js) all = (
    λ is. All-head (λ (l : Lived). l.whole ≡ true) j.lived (map (λ (x : Member). x.lived) js) (all is),
    whole-by whole js (λ is. All-tail (λ (l : Lived). l.whole ≡ true) j.lived (map (λ (x : Member). x.lived) js) (all is)),
  )

  kept-by : (first : ℕ) (js : List Member) → ((i : ℕ) (e : MemberEnd r.disk r.sink) → i < length (map (λ (j : Member). j.end) js) → IfSome (r.text_of (get_or (map (λ (j : Member). j.end) js) i e).sink) (λ text. r.trails.after (address r.settings.dir (first + i) 0) ≡ Some text))
      → ((i : ℕ) (e : MemberEnd r.disk r.sink) → i < length (map (λ (j : Member). j.end) js) → r.told → devices_at r.room.after r.settings.dir (first + i) ≡ cells_of r.cells (get_or (map (λ (j : Member). j.end) js) i e).store.disks)
      → AreKept first js
  kept-by first [] each devices = tt
  kept-by first (j ∷ js) each devices =
      let here : first + 0 ≡ first = omega arith in
      let within : 0 < length (map (λ (x : Member). x.end) (j ∷ js)) = omega arith in (
        subst (λ (n : ℕ). IfSome (r.text_of j.end.sink) (λ text. r.trails.after (address r.settings.dir n 0) ≡ Some text)) here (each 0 j.end within),
        (
          λ told. subst (λ (n : ℕ). devices_at r.room.after r.settings.dir n ≡ cells_of r.cells j.end.store.disks) here (devices 0 j.end within told),
          kept-by (suc first) js (λ i e few.
              let next : first + suc i ≡ suc first + i = omega arith in
              let below : suc i < length (map (λ (x : Member). x.end) (j ∷ js)) = omega (arith, few) in
              subst (λ (n : ℕ). IfSome (r.text_of (get_or (map (λ (x : Member). x.end) js) i e).sink) (λ text. r.trails.after (address r.settings.dir n 0) ≡ Some text)) next (each (suc i) e below))
              (λ i e few told.
              let next : first + suc i ≡ suc first + i = omega arith in
              let below : suc i < length (map (λ (x : Member). x.end) (j ∷ js)) = omega (arith, few) in
              subst (λ (n : ℕ). devices_at r.room.after r.settings.dir n ≡ cells_of r.cells (get_or (map (λ (x : Member). x.end) js) i e).store.disks) next (devices (suc i) e below told)),
        ),
      )

  over-by : (whole : Bool) (k : ℕ) (js : List Member) → AreNumbered (suc k) js → Reads (λ (i : ℕ). get_or (receivers r.settings.members) i []) k (map (λ (j : Member). ends j.station.row.ports.items) js) → AreKept (suc k) js → AreWhole whole js
      → AreOver r whole (suc k) (map trail_of js)
  over-by whole k [] numbered reads kept so = tt
  over-by whole k (j ∷ js) numbered reads kept so = (
    subst (λ (n : ℕ). MemberOver r whole n (trail_of j)) numbered.0
        (member-over whole j so.0 (ap (λ (n : ℕ). receivers_of r.settings.members n) numbered.0 ∙ reads.0)
        (subst (λ (n : ℕ). IfSome (r.text_of j.end.sink) (λ text. r.trails.after (address r.settings.dir n 0) ≡ Some text)) (sym numbered.0) kept.0)
        (λ told. subst (λ (n : ℕ). devices_at r.room.after r.settings.dir n ≡ cells_of r.cells j.end.store.disks) (sym numbered.0) (kept.1.0 told))),
    over-by whole (suc k) js numbered.1 reads.1 kept.1.1 so.1,
  )

  -- ---- the client

  module _ (crew : Crew S r.disk r.sink) (is : IsCrew r.meaning r.told r.cells r.text_of r.images r.settings crew) (own : Lived) (sink : r.sink)
      (left : IsClientLeft (client_head r.settings) [] r.text_of (begun_of (client_head r.settings) [] (r.text_of crew.client.sink)) (ends crew.client.row.ports.items) (port_links crew.client.row.ports.items) (inbox_links crew.client.inbox.links.items) sink own) (whole : Bool) (so : whole ≡ true → own.whole ≡ true) where
    client-text : IfSome (r.text_of sink) (λ text. r.trails.after (address r.settings.dir 0 0) ≡ Some text) → IsKept r whole (recorded_of (client_head r.settings) [] own)
    client-text kept = record {
      begun = is.client.begun;
      empty = is.client.empty;
      told = sink;
      text = head-front r.text_of (client_head r.settings) [] crew.client.sink sink (trail_text (client_head r.settings) [] own.events) is.client left.text;
      kept = kept;
      all_text = λ all. head-all r.text_of (client_head r.settings) [] crew.client.sink sink (trail_text (client_head r.settings) [] own.events) is.client (left.all_text (so all));
      ended = λ all. left.ended (so all);
    }

    -- whom it sends to, by the number of members alone
    client-receives : receivers_of r.settings.members 0 ≡ ends crew.client.row.ports.items
    client-receives =
        let f : Row → List Target = λ row. ends row.ports.items in
        let count = length crew.stations.items in
        ap (λ (n : ℕ). get_or (receivers r.settings.members) n []) (sym is.many) ∙ ap (λ (xs : List (List Target)). get_or xs count []) (sym is.receivers_are)
        ∙ map-last f (λ (b : Station S r.disk r.sink). b.row) crew.stations.items crew.client.row []

    pub client-over : AsksUpTo r.settings.asks own.events → IfSome (r.text_of sink) (λ text. r.trails.after (address r.settings.dir 0 0) ≡ Some text) → ClientOver r whole (recorded_of (client_head r.settings) [] own)
    client-over amounts kept = record {
      opening = (refl, refl);
      asks = left.asks;
      amounts = amounts;
      end_last = left.end_last;
      late = subst (λ (ts : List Target). DropsLate ts [] own.events) (sym client-receives) left.late;
      text = client-text kept;
    }

  -- ---- links

  rows-alike : {X : Type 0} (f : Row → X) (js : List Member) (own other : Row) → ((j : Member) → f j.lived.row ≡ f j.station.row) → f own ≡ f other
      → map f (map (λ (l : Lived). l.row) (map (λ (j : Member). j.lived) js) ++ own ∷ []) ≡ map f (map (λ (b : Station S r.disk r.sink). b.row) (map (λ (j : Member). j.station) js) ++ other ∷ [])
  rows-alike f [] own other each same = ap (λ x. x ∷ []) same
  rows-alike f (j ∷ js) own other each same =
      ap (λ x. x ∷ map f (map (λ (l : Lived). l.row) (map (λ (j : Member). j.lived) js) ++ own ∷ [])) (each j) ∙ ap (λ xs. f j.station.row ∷ xs) (rows-alike f js own other each same)

  inboxes-alike : {X : Type 0} (f : Inbox → X) (js : List Member) (own other : Inbox) → ((j : Member) → f j.lived.inbox ≡ f j.station.inbox) → f own ≡ f other
      → map f (map (λ (l : Lived). l.inbox) (map (λ (j : Member). j.lived) js) ++ own ∷ []) ≡ map f (map (λ (b : Station S r.disk r.sink). b.inbox) (map (λ (j : Member). j.station) js) ++ other ∷ [])
  inboxes-alike f [] own other each same = ap (λ x. x ∷ []) same
  inboxes-alike f (j ∷ js) own other each same =
      ap (λ x. x ∷ map f (map (λ (l : Lived). l.inbox) (map (λ (j : Member). j.lived) js) ++ own ∷ [])) (each j) ∙ ap (λ xs. f j.station.inbox ∷ xs) (inboxes-alike f js own other each same)

  carried-by : (js : List Member) (own : Lived) → Each (CarriesFirst own.events) own.row.ports.items
      → AreCarried (map (λ (t : Recorded). t.events) (map trail_of js) ++ own.events ∷ []) (map (λ (l : Lived). l.row) (map (λ (j : Member). j.lived) js) ++ own.row ∷ [])
  carried-by [] own carries = (carries, tt)
  carried-by (j ∷ js) own carries = (j.left.left, carried-by js own carries)

  rows-listed : {X : Type 0} (f : Row → X) (js : List Member) (own : Row) → map f (map (λ (b : Station S r.disk r.sink). b.row) (map (λ (j : Member). j.station) js) ++ own ∷ []) ≡ map (λ (j : Member). f j.station.row) js ++ f own ∷ []
  rows-listed f [] own = refl
  rows-listed f (j ∷ js) own = ap (λ xs. f j.station.row ∷ xs) (rows-listed f js own)

  inboxes-listed : {X : Type 0} (f : Inbox → X) (js : List Member) (own : Inbox) → map f (map (λ (l : Lived). l.inbox) (map (λ (j : Member). j.lived) js) ++ own ∷ []) ≡ map (λ (j : Member). f j.lived.inbox) js ++ f own ∷ []
  inboxes-listed f [] own = refl
  inboxes-listed f (j ∷ js) own = ap (λ xs. f j.lived.inbox ∷ xs) (inboxes-listed f js own)

  -- ---- what came to each

  module _ (members : ℕ) (rows : List Row) (inboxes : List (List (List (List ℕ)))) (client : Recorded) (all : List Recorded)
      (carry : AreCarried (map (λ (t : Recorded). t.events) all ++ client.events ∷ []) rows) (ends-are : row_ends rows ≡ receivers members) (come : HaveCome (row_puts rows) inboxes) where
    came-by : (k : ℕ) (js : List Member) → AreNumbered (suc k) js → k + length js ≤ members → Reads (λ (i : ℕ). get_or inboxes i []) k (map (λ (j : Member). takings j.lived.inbox.links.items) js)
        → Each (CameFrom (client ∷ all)) (map trail_of js)
    came-by k [] numbered few reads = tt
    came-by k (j ∷ js) numbered few reads =
        let within : suc k ≤ members = omega (arith, few) in
        let fewer : suc k + length js ≤ members = omega (arith, few) in
        let number : (trail_of j).opening.member ≡ suc k = ap (λ (head : TrailOpening). head.member) j.fit.head.0 ∙ numbered.0 in (
          came-from client all rows inboxes k (trail_of j) carry (subst (λ (n : ℕ). Each (LeadsTo k (end_of n)) rows) (sym number) (rows-lead members (suc k) rows within ends-are)) come
              (λ x. subst (λ (taken : List (List (List ℕ))). times x (arrivals j.lived.events) ≤ times x (poured taken)) (sym reads.0) (j.left.came x)),
          came-by (suc k) js numbered.1 fewer reads.1,
        )

    came-client : client.opening.member ≡ 0 → ((x : List ℕ) → times x (arrivals client.events) ≤ times x (poured (get_or inboxes members []))) → CameFrom (client ∷ all) client
    came-client number most =
        let within : 0 ≤ members = omega arith in
        came-from client all rows inboxes members client carry (subst (λ (n : ℕ). Each (LeadsTo members (end_of n)) rows) (sym number) (rows-lead members 0 rows within ends-are)) come most

  -- ---- a whole group

  module _ (crew : Crew S r.disk r.sink) (is : IsCrew r.meaning r.told r.cells r.text_of r.images r.settings crew) (es : List (MemberEnd r.disk r.sink)) (ls : List Lived) (joined : Joined 1 crew.heads.items crew.stations.items es ls)
      (own : Lived) (sink : r.sink) (left : IsClientLeft (client_head r.settings) [] r.text_of (begun_of (client_head r.settings) [] (r.text_of crew.client.sink)) (ends crew.client.row.ports.items) (port_links crew.client.row.ports.items) (inbox_links crew.client.inbox.links.items) sink own) where
    abbrev pub rows_left : List Row
    rows_left = map (λ (l : Lived). l.row) ls ++ own.row ∷ []

    abbrev pub inboxes_left : List Inbox
    inboxes_left = map (λ (l : Lived). l.inbox) ls ++ own.inbox ∷ []

    rows-same : {X : Type 0} (f : Row → X) → ((j : Member) → f j.lived.row ≡ f j.station.row) → f own.row ≡ f crew.client.row → map f rows_left ≡ map f (rows_of crew)
    rows-same f each same =
        ap (λ (xs : List Lived). map f (map (λ (l : Lived). l.row) xs ++ own.row ∷ [])) (sym joined.lives) ∙ rows-alike f joined.all own.row crew.client.row each same
        ∙ ap (λ (xs : List (Station S r.disk r.sink)). map f (map (λ (b : Station S r.disk r.sink). b.row) xs ++ crew.client.row ∷ [])) joined.stations

    inboxes-same : {X : Type 0} (f : Inbox → X) → ((j : Member) → f j.lived.inbox ≡ f j.station.inbox) → f own.inbox ≡ f crew.client.inbox → map f inboxes_left ≡ map f (inboxes_of crew)
    inboxes-same f each same =
        ap (λ (xs : List Lived). map f (map (λ (l : Lived). l.inbox) xs ++ own.inbox ∷ [])) (sym joined.lives) ∙ inboxes-alike f joined.all own.inbox crew.client.inbox each same
        ∙ ap (λ (xs : List (Station S r.disk r.sink)). map f (map (λ (b : Station S r.disk r.sink). b.inbox) xs ++ crew.client.inbox ∷ [])) joined.stations

    ends-left : row_ends rows_left ≡ receivers r.settings.members
    ends-left = rows-same (λ (row : Row). ends row.ports.items) (λ j. j.left.named.0) left.named.0 ∙ is.receivers_are

    -- the links of a group are still those that were dealt out
    pub links-left : AreLinked (row_links rows_left) inboxes_left
    links-left = λ index.
        ap (λ (xs : List (List TableId)). get_or xs index []) (inboxes-same (λ (inbox : Inbox). inbox_links inbox.links.items) (λ j. j.left.named.1.1) left.named.1.1) ∙ is.dealt.linked index
        ∙ ap (λ (xs : List (List TableId)). column index xs) (sym (rows-same (λ (row : Row). port_links row.ports.items) (λ j. j.left.named.1.0) left.named.1.0))

    many-joined : length joined.all ≡ r.settings.members
    many-joined = omega (arith, is.many, ap length joined.stations, length-map joined.all (λ (j : Member). j.station))

    -- as many inboxes as parties, and no row has more links
    pub many-inboxes : length inboxes_left ≡ r.settings.members + 1
    many-inboxes =
        omega (arith, many-joined, ap length joined.lives, length-map joined.all (λ (j : Member). j.lived), length-map ls (λ (l : Lived). l.inbox), length-append (map (λ (l : Lived). l.inbox) ls) (own.inbox ∷ []))

    few-links : (rows : List Row) (targets : List (List Target)) (most : ℕ) → row_ends rows ≡ targets → Each (λ (ts : List Target). length ts ≤ most) targets → Each (λ (row : Row). length row.ports.items ≤ most) rows
    few-links [] targets most is few = tt
    few-links (row ∷ rows) [] most is few = absurd (omega (arith, ap length is))
    few-links (row ∷ rows) (ts ∷ targets) most is few =
        let one : ends row.ports.items ≡ ts = ap (λ (xs : List (List Target)). get_or xs 0 []) is in (
          omega (arith, few.0, ap length one, length-map row.ports.items (λ (p : Port). p.end)),
          few-links rows targets most (ap (λ (xs : List (List Target)). drop 1 xs) is) few.1,
        )

    few-receivers : (count : ℕ) → Each (λ (ts : List Target). length ts ≤ count + 1) (receivers count)
    few-receivers count =
        let all : length (all_ends count) ≤ count + 1 = omega (arith, length-append (member_ends count) (Client 1 ∷ []), ends-length count) in
        let others : length (member_ends count) ≤ count + 1 = omega (arith, ends-length count) in
        each-push (λ (ts : List Target). length ts ≤ count + 1) (replicate count (all_ends count)) (member_ends count) (each-same (λ (ts : List Target). length ts ≤ count + 1) (all_ends count) count all) others

    pub links-few : Each (λ (row : Row). length row.ports.items ≤ r.settings.members + 1) rows_left
    links-few = few-links rows_left (receivers r.settings.members) (r.settings.members + 1) ends-left (few-receivers r.settings.members)

    receives : Reads (λ (i : ℕ). get_or (receivers r.settings.members) i []) 0 (map (λ (j : Member). ends j.station.row.ports.items) joined.all ++ ends crew.client.row.ports.items ∷ [])
    receives =
        let f : Row → List Target = λ row. ends row.ports.items in
        let listed = ap (λ (xs : List (Station S r.disk r.sink)). map f (map (λ (b : Station S r.disk r.sink). b.row) xs ++ crew.client.row ∷ [])) joined.stations in
        subst (λ (xs : List (List Target)). Reads (λ (i : ℕ). get_or (receivers r.settings.members) i []) 0 xs) (sym listed ∙ rows-listed f joined.all crew.client.row)
        (reads-all (λ (i : ℕ). get_or (receivers r.settings.members) i []) (map f (rows_of crew)) [] (λ i. ap (λ (xs : List (List Target)). get_or xs i []) (sym is.receivers_are)))

    takes : Reads (λ (i : ℕ). get_or (all_takings inboxes_left) i []) 0 (map (λ (j : Member). takings j.lived.inbox.links.items) joined.all ++ takings own.inbox.links.items ∷ [])
    takes =
        let f : Inbox → List (List (List ℕ)) = λ inbox. takings inbox.links.items in
        let listed = ap (λ (xs : List Lived). map f (map (λ (l : Lived). l.inbox) xs ++ own.inbox ∷ [])) joined.lives in
        subst (λ (xs : List (List (List (List ℕ)))). Reads (λ (i : ℕ). get_or (all_takings inboxes_left) i []) 0 xs) (sym listed ∙ inboxes-listed f joined.all own.inbox)
        (reads-all (λ (i : ℕ). get_or (all_takings inboxes_left) i []) (all_takings inboxes_left) [] (λ i. refl))

    -- What a group has lived, and which trails these are.
    pub record Lives (whole : Bool) : Type 0 where
      pub over : GroupOver r
      pub trails_are : over.client ∷ over.members ≡ recorded_of (client_head r.settings) [] own ∷ trails_in crew.heads.items ls
      pub client_is : over.client ≡ recorded_of (client_head r.settings) [] own
      pub whole_is : over.whole ≡ whole

    pub group-over : (whole : Bool) → (whole ≡ true → (own.whole ≡ true) × All (λ (l : Lived). l.whole ≡ true) ls) → AsksUpTo r.settings.asks own.events → IfSome (r.text_of sink) (λ text. r.trails.after (address r.settings.dir 0 0) ≡ Some text)
        → ((i : ℕ) (e : MemberEnd r.disk r.sink) → i < length es → IfSome (r.text_of (get_or es i e).sink) (λ text. r.trails.after (address r.settings.dir (1 + i) 0) ≡ Some text))
        → ((i : ℕ) (e : MemberEnd r.disk r.sink) → i < length es → r.told → devices_at r.room.after r.settings.dir (1 + i) ≡ cells_of r.cells (get_or es i e).store.disks)
        → HaveCome (row_puts rows_left) (all_takings inboxes_left) → Lives whole
    group-over whole all-whole amounts own-kept kept devices come =
        let js = joined.all in
        let client = recorded_of (client_head r.settings) [] own in
        let trails = map trail_of js in
        let ends_of = map (λ (j : Member). ends j.station.row.ports.items) js in
        let takings_of = map (λ (j : Member). takings j.lived.inbox.links.items) js in
        let texts = kept-by 1 js (subst (λ (xs : List (MemberEnd r.disk r.sink)). (i : ℕ) (e : MemberEnd r.disk r.sink) → i < length xs → IfSome (r.text_of (get_or xs i e).sink) (λ text. r.trails.after (address r.settings.dir (1 + i) 0) ≡ Some text)) (sym joined.ends_are) kept)
        (subst (λ (xs : List (MemberEnd r.disk r.sink)). (i : ℕ) (e : MemberEnd r.disk r.sink) → i < length xs → r.told → devices_at r.room.after r.settings.dir (1 + i) ≡ cells_of r.cells (get_or xs i e).store.disks) (sym joined.ends_are) devices) in
        let wholes : AreWhole whole js = whole-by whole js (λ is. subst (λ (xs : List Lived). All (λ (l : Lived). l.whole ≡ true) xs) (sym joined.lives) (all-whole is).1) in
        let carry : AreCarried (map (λ (t : Recorded). t.events) trails ++ own.events ∷ []) rows_left =
        subst (λ (xs : List Lived). AreCarried (map (λ (t : Recorded). t.events) trails ++ own.events ∷ []) (map (λ (l : Lived). l.row) xs ++ own.row ∷ [])) joined.lives (carried-by js own left.left) in
        let few : 0 + length js ≤ r.settings.members = omega (arith, many-joined) in
        let place : r.settings.members ≡ 0 + length takings_of = omega (arith, many-joined, length-map js (λ (j : Member). takings j.lived.inbox.links.items)) in
        let last : get_or (all_takings inboxes_left) r.settings.members [] ≡ takings own.inbox.links.items =
        ap (λ (n : ℕ). get_or (all_takings inboxes_left) n []) place ∙ reads-last (λ (i : ℕ). get_or (all_takings inboxes_left) i []) 0 takings_of (takings own.inbox.links.items) takes in
        let most : (x : List ℕ) → times x (arrivals own.events) ≤ times x (poured (get_or (all_takings inboxes_left) r.settings.members [])) =
        λ x. subst (λ (taken : List (List (List ℕ))). times x (arrivals own.events) ≤ times x (poured taken)) (sym last) (left.came x) in record {
          over = record {
            client = client;
            members = trails;
            many = length-map js trail_of ∙ many-joined;
            whole = whole;
            asked = client-over crew is own sink left whole (λ all. (all-whole all).0) amounts own-kept;
            each = over-by whole 0 js joined.numbered (reads-front (λ (i : ℕ). get_or (receivers r.settings.members) i []) 0 ends_of (ends crew.client.row.ports.items ∷ []) receives) texts wholes;
            came = (
              came-client r.settings.members rows_left (all_takings inboxes_left) client trails carry ends-left come refl most,
              came-by r.settings.members rows_left (all_takings inboxes_left) client trails carry ends-left come 0 js joined.numbered few
                  (reads-front (λ (i : ℕ). get_or (all_takings inboxes_left) i []) 0 takings_of (takings own.inbox.links.items ∷ []) takes),
            );
          };
          trails_are = ap (λ (xs : List Recorded). client ∷ xs) (sym (joined-trails 1 crew.heads.items crew.stations.items es ls joined));
          client_is = refl;
          whole_is = refl;
        }
