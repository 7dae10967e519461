-- What the name of a group says of its parties.
use Rattle.std.proofs.Common.{◌≡◌, ◌∙◌, ℕ, zero, suc, ◌+◌, ◌<◌, ◌≤◌, Bool, true, false, List, [], ◌∷◌, ◌++◌, length, map, replicate, get_or, Option, Some, None, refl, sym, ap, subst, arith, if◌then◌else◌}
use Rattle.std.specs.Io.KnownBytes.{Appends}
use Rattle.disk_model.specs.Cells.{Cells}
use Rattle.smart_base.specs.Lists.{Each, same_bytes}
use Rattle.vote_book.proofs.Tested.{same_bytes_is, same_bytes_self}
use Rattle.smart_service.specs.Services.{Meaning}
use Rattle.store_laws.specs.Restored.{Images}
use Rattle.log_lane.specs.Lane.{in_lane, out_lane}
use Rattle.log_worker.specs.Rounds.{no_table}
use Rattle.member_opening.specs.Restorings.{KeepsCounts}
use Rattle.node_played.specs.Lives.{nobody}
use Rattle.node_rooms.specs.Texts.{IsEmpty}
use Rattle.node_rules.specs.declared.node.Target.{Target}
use Rattle.trail.specs.Trails.{trail_text}
use Rattle.trail.specs.declared.opening.TrailOpening.{TrailOpening}
use Rattle.group_ends.specs.Journals.{no_head, HasFront}
use Rattle.group_ends.specs.Ports.{ends, port_links, inbox_links, takings, AreApart}
use Rattle.group_ends.specs.declared.inbox.Inbox.{Inbox}
use Rattle.group_wires.specs.Wires.{all_ends, all_takings, member_ends, receivers, AreUntaken, IsUntaken, IsUnused}
use Rattle.group_wires.specs.declared.row.Row.{Row}
use Rattle.group_wires.proofs.Apart.{all-apart, members-apart}
use Rattle.group_wires.proofs.Columns.{each-push}
use Rattle.group_wires.proofs.Rejoined.{each-last}
use Rattle.group_parties.specs.Crews.{begun_in, begun_of, inboxes_of, names_of, rows_of, AreFit, HasHead, IsCrew, IsFit}
use Rattle.group_opening.specs.Runs.{client_head}
use Rattle.group_parties.specs.Stations.{AreLinksOf, AreStations, IsSinkOf, IsStation, Names}
use Rattle.group_parties.specs.declared.crew.Crew.{Crew}
use Rattle.group_parties.specs.declared.crew.Headed.{Headed}
use Rattle.group_parties.specs.declared.seating.Station.{Station}
use Rattle.group_opening.specs.declared.settings.GroupSettings.{GroupSettings}

-- one of several values, where there are some
pub some-of : {A : Type 0} (xs : List A) (i : ℕ) → i < length xs → A
some-of [] i within = absurd (omega (arith, within))
some-of (x ∷ xs) i within = x

-- ---- sinks that have the head of a trail

begun-tested : (text head : List ℕ) (same : Bool) → same_bytes text head ≡ same → Appends (if same then Some [] else None) (Some text) head
begun-tested text head true is = same_bytes_is text head is
begun-tested text head false is = tt

begun-behind : (head : TrailOpening) (entries : List (List ℕ)) (begun now : Option (List ℕ)) → Appends begun now (trail_text head entries []) → Appends (begun_of head entries now) now (trail_text head entries [])
unfolding begun_of
begun-behind head entries begun None told = tt
begun-behind head entries begun (Some text) told = begun-tested text (trail_text head entries []) (same_bytes text (trail_text head entries [])) refl

-- such a sink told what its name says before the head
pub headed : {O : Type 0} (written : O → Option (List ℕ)) (head : TrailOpening) (entries : List (List ℕ)) (sink : O) → HasHead written head entries sink → Appends (begun_of head entries (written sink)) (written sink) (trail_text head entries [])
headed written head entries sink has = begun-behind head entries (written has.begun) (written sink) has.text

begun-some : (head : TrailOpening) (entries : List (List ℕ)) (text : List ℕ) → text ≡ trail_text head entries [] → begun_of head entries (Some text) ≡ Some []
unfolding begun_of
begun-some head entries text is =
    ap (λ (t : List ℕ). if same_bytes t (trail_text head entries []) then Some [] else None) is ∙ ap (λ (same : Bool). if same then Some [] else None) (same_bytes_self (trail_text head entries []))

front-behind : (head : TrailOpening) (entries : List (List ℕ)) (begun now left : Option (List ℕ)) (text : List ℕ) → IsEmpty begun → Appends begun now (trail_text head entries []) → HasFront (begun_of head entries now) left text → HasFront begun left text
front-behind head entries None now left text empty told front = tt
front-behind head entries (Some before) None left text empty told front = absurd told
front-behind head entries (Some before) (Some now) left text empty told front =
    let is : now ≡ trail_text head entries [] = told ∙ ap (λ (b : List ℕ). b ++ trail_text head entries []) empty in
    let same : begun_of head entries (Some now) ≡ Some before = begun-some head entries now is ∙ ap (λ (b : List ℕ). Some b) (sym empty) in
    subst (λ (b : Option (List ℕ)). HasFront b left text) same front

-- and has a front of the trail behind that, if its name says so
pub head-front : {O : Type 0} (written : O → Option (List ℕ)) (head : TrailOpening) (entries : List (List ℕ)) (sink left : O) (text : List ℕ) (has : HasHead written head entries sink)
    → HasFront (begun_of head entries (written sink)) (written left) text → HasFront (written has.begun) (written left) text
head-front written head entries sink left text has front = front-behind head entries (written has.begun) (written sink) (written left) text has.empty has.text front

all-behind : (head : TrailOpening) (entries : List (List ℕ)) (begun now left : Option (List ℕ)) (text : List ℕ) → IsEmpty begun → Appends begun now (trail_text head entries []) → Appends (begun_of head entries now) left text → Appends begun left text
all-behind head entries None now left text empty told all = tt
all-behind head entries (Some before) None left text empty told all = absurd told
all-behind head entries (Some before) (Some now) left text empty told all =
    let is : now ≡ trail_text head entries [] = told ∙ ap (λ (b : List ℕ). b ++ trail_text head entries []) empty in
    let same : begun_of head entries (Some now) ≡ Some before = begun-some head entries now is ∙ ap (λ (b : List ℕ). Some b) (sym empty) in
    subst (λ (b : Option (List ℕ)). Appends b left text) same all

-- and all of the trail, if its name says so
pub head-all : {O : Type 0} (written : O → Option (List ℕ)) (head : TrailOpening) (entries : List (List ℕ)) (sink left : O) (text : List ℕ) (has : HasHead written head entries sink)
    → Appends (begun_of head entries (written sink)) (written left) text → Appends (written has.begun) (written left) text
head-all written head entries sink left text has all = all-behind head entries (written has.begun) (written sink) (written left) text has.empty has.text all

-- ---- functions of a number that read a list

-- From a number on a function gives the values of a list.
abbrev pub Reads : {A : Type 0} → (ℕ → A) → ℕ → List A → Type 0
Reads f first [] = Unit {0}
Reads f first (x ∷ xs) = (f first ≡ x) × Reads f (suc first) xs

pub reads-by : {A : Type 0} (f : ℕ → A) (first : ℕ) (xs : List A) (d : A) → ((i : ℕ) → i < length xs → f (first + i) ≡ get_or xs i d) → Reads f first xs
reads-by f first [] d each = tt
reads-by f first (x ∷ xs) d each =
    let here : first ≡ first + 0 = omega arith in
    let within : 0 < length (x ∷ xs) = omega arith in (
      ap f here ∙ each 0 within,
      reads-by f (suc first) xs d (λ i few.
          let next : suc first + i ≡ first + suc i = omega arith in
          let fewer : suc i < length (x ∷ xs) = omega (arith, few) in
          ap f next ∙ each (suc i) fewer),
    )

-- a list behind one value is read from 1 on
pub reads-behind : {A : Type 0} (x : A) (xs : List A) (d : A) → Reads (λ (n : ℕ). get_or (x ∷ xs) n d) 1 xs
reads-behind x xs d = reads-by (λ (n : ℕ). get_or (x ∷ xs) n d) 1 xs d (λ i few.
    let next : 1 + i ≡ suc i = omega arith in
    ap (λ (n : ℕ). get_or (x ∷ xs) n d) next)

-- ---- links that are unused

-- The links of a party, to which no two go, on which nothing was put and from which nothing was taken.
pub record AreUnused (row : Row) (inbox : Inbox) : Type 0 where
  pub apart : AreApart (ends row.ports.items)
  pub unused : Each IsUnused row.ports.items
  pub untaken : Each IsUntaken (takings inbox.links.items)

pub each-same : {A : Type 0} (P : A → Type 0) (x : A) (count : ℕ) → P x → Each P (replicate count x)
each-same P x zero one = tt
each-same P x (suc count) one = (one, each-same P x count one)

receivers-apart : (count : ℕ) → Each (λ (targets : List Target). AreApart targets) (receivers count)
receivers-apart count =
    each-push (λ (targets : List Target). AreApart targets) (replicate count (all_ends count)) (member_ends count)
    (each-same (λ (targets : List Target). AreApart targets) (all_ends count) count (all-apart count)) (members-apart count)

each-of : {A B : Type 0} (f : A → B) (P : B → Type 0) (xs : List A) → Each P (map f xs) → Each (λ (x : A). P (f x)) xs
each-of f P [] all = tt
each-of f P (x ∷ xs) all = (all.0, each-of f P xs all.1)

module _ {S D O : Type 0} (written : O → Option (List ℕ)) (faults : O → ℕ) (n : Names S) where
  -- What a name says of a number is what a member begins with.
  pub record Says (number : ℕ) (h : Headed) (b : Station S D O) : Type 0 where
    pub head : n.head number ≡ h.head
    pub entries : n.entries number ≡ h.entries
    pub begun : n.begun number ≡ begun_of h.head h.entries (written b.sink)
    pub failures : n.failures number ≡ faults b.sink
    pub receivers : n.receivers number ≡ ends b.row.ports.items
    pub leaving : n.leaving number ≡ port_links b.row.ports.items
    pub arriving : n.arriving number ≡ inbox_links b.inbox.links.items
    pub lane : n.lane number ≡ in_lane b.lane_in
    pub restored : n.restored number ≡ b.store.plan.restored
    pub opening : n.opening number ≡ b.core.node

  -- and so for the members with the numbers from one on
  abbrev pub AreSaid : ℕ → List Headed → List (Station S D O) → Type 0
  AreSaid first [] stations = Unit {0}
  AreSaid first (h ∷ heads) [] = Unit {0}
  AreSaid first (h ∷ heads) (b ∷ stations) = Says first h b × AreSaid (suc first) heads stations

  said-by : (first : ℕ) (hs : List Headed) (bs : List (Station S D O))
      → Reads n.head first (map (λ (h : Headed). h.head) hs) → Reads n.entries first (map (λ (h : Headed). h.entries) hs) → Reads n.begun first (begun_in written hs bs)
      → Reads n.failures first (map (λ (b : Station S D O). faults b.sink) bs) → Reads n.receivers first (map (λ (b : Station S D O). ends b.row.ports.items) bs)
      → Reads n.leaving first (map (λ (b : Station S D O). port_links b.row.ports.items) bs) → Reads n.arriving first (map (λ (b : Station S D O). inbox_links b.inbox.links.items) bs)
      → Reads n.lane first (map (λ (b : Station S D O). in_lane b.lane_in) bs) → Reads n.restored first (map (λ (b : Station S D O). b.store.plan.restored) bs)
      → Reads n.opening first (map (λ (b : Station S D O). b.core.node) bs) → AreSaid first hs bs
  said-by first [] bs head entries begun failures receivers leaving arriving lane restored opening = tt
  said-by first (h ∷ hs) [] head entries begun failures receivers leaving arriving lane restored opening = tt
  said-by first (h ∷ hs) (b ∷ bs) head entries begun failures receivers leaving arriving lane restored opening = (
    record {
      head = head.0;
      entries = entries.0;
      begun = begun.0;
      failures = failures.0;
      receivers = receivers.0;
      leaving = leaving.0;
      arriving = arriving.0;
      lane = lane.0;
      restored = restored.0;
      opening = opening.0;
    },
    said-by (suc first) hs bs head.1 entries.1 begun.1 failures.1 receivers.1 leaving.1 arriving.1 lane.1 restored.1 opening.1,
  )

module _ {S D O : Type 0} (m : Meaning S) (s : GroupSettings) (written : O → Option (List ℕ)) (faults : O → ℕ) (crew : Crew S D O) where
  -- the name of a group says of each member what it begins with
  pub names-say : AreSaid written faults (names_of m s written faults crew) 1 crew.heads.items crew.stations.items
  names-say =
      let hs = crew.heads.items in
      let bs = crew.stations.items in
      let c = crew.client in
      said-by written faults (names_of m s written faults crew) 1 hs bs
      (reads-behind (client_head s) (map (λ (h : Headed). h.head) hs) no_head)
      (reads-behind [] (map (λ (h : Headed). h.entries) hs) [])
      (reads-behind (begun_of (client_head s) [] (written c.sink)) (begun_in written hs bs) None)
      (reads-behind (faults c.sink) (map (λ (b : Station S D O). faults b.sink) bs) 0)
      (reads-behind (ends c.row.ports.items) (map (λ (b : Station S D O). ends b.row.ports.items) bs) [])
      (reads-behind (port_links c.row.ports.items) (map (λ (b : Station S D O). port_links b.row.ports.items) bs) [])
      (reads-behind (inbox_links c.inbox.links.items) (map (λ (b : Station S D O). inbox_links b.inbox.links.items) bs) [])
      (reads-behind (no_table, no_table) (map (λ (b : Station S D O). in_lane b.lane_in) bs) (no_table, no_table))
      (reads-behind 0 (map (λ (b : Station S D O). b.store.plan.restored) bs) 0)
      (reads-behind (nobody m) (map (λ (b : Station S D O). b.core.node) bs) (nobody m))

module _ {S D O : Type 0} (m : Meaning S) (told : Type 0) (cells : D → Cells) (written : O → Option (List ℕ)) (faults : O → ℕ) (images : ℕ → Images) (s : GroupSettings) where
  -- ---- the links of a crew

  idle-each : (bs : List (Station S D O)) → Each (λ (b : Station S D O). AreApart (ends b.row.ports.items)) bs → Each (λ (b : Station S D O). Each IsUnused b.row.ports.items) bs
      → Each (λ (b : Station S D O). Each IsUntaken (takings b.inbox.links.items)) bs → Each (λ (b : Station S D O). AreUnused b.row b.inbox) bs
  idle-each [] apart unused untaken = tt
  idle-each (b ∷ bs) apart unused untaken = (record { apart = apart.0; unused = unused.0; untaken = untaken.0 }, idle-each bs apart.1 unused.1 untaken.1)

  links-idle : (crew : Crew S D O) → IsCrew m told cells written images s crew → Each (λ (b : Station S D O). AreUnused b.row b.inbox) crew.stations.items × AreUnused crew.client.row crew.client.inbox
  links-idle crew is =
      let bs = crew.stations.items in
      let row-of : Station S D O → Row = λ b. b.row in
      let inbox-of : Station S D O → Inbox = λ b. b.inbox in
      let ends-of : Row → List Target = λ row. ends row.ports.items in
      let takings-of : Inbox → List (List (List ℕ)) = λ inbox. takings inbox.links.items in
      let apart = each-last (λ (row : Row). AreApart (ends-of row)) (map row-of bs) crew.client.row
      (each-of ends-of (λ (targets : List Target). AreApart targets) (rows_of crew) (subst (λ (all : List (List Target)). Each (λ (targets : List Target). AreApart targets) all) (sym is.receivers_are) (receivers-apart s.members))) in
      let unused = each-last (λ (row : Row). Each IsUnused row.ports.items) (map row-of bs) crew.client.row is.dealt.unused in
      let untaken = each-last (λ (inbox : Inbox). Each IsUntaken (takings-of inbox)) (map inbox-of bs) crew.client.inbox
      (each-of takings-of (λ (all : List (List (List ℕ))). Each IsUntaken all) (inboxes_of crew) is.dealt.untaken) in (
        idle-each bs (each-of row-of (λ (row : Row). AreApart (ends-of row)) bs apart.0) (each-of row-of (λ (row : Row). Each IsUnused row.ports.items) bs unused.0)
            (each-of inbox-of (λ (inbox : Inbox). Each IsUntaken (takings-of inbox)) bs untaken.0),
        record { apart = apart.1; unused = unused.1; untaken = untaken.1 },
      )

  -- ---- a member and the client under a name

  station-by : (n : Names S) (number : ℕ) (h : Headed) (b : Station S D O) → IsFit m told cells written (images number) s number h b → Says written faults n number h b → AreUnused b.row b.inbox → IsStation n told cells written faults b
  station-by n number h b fit says unused =
      let here : Says written faults n b.member h b = subst (λ (k : ℕ). Says written faults n k h b) (sym fit.number) says in
      let text = headed written h.head h.entries b.sink fit.text in record {
        core = (sym here.opening, fit.unbroken);
        counts = subst (λ (k : ℕ). KeepsCounts k b.core.node) (sym here.restored) fit.counts;
        restored = sym here.restored;
        opened = fit.opened;
        lane = (sym here.lane, sym fit.lane ∙ sym here.lane);
        none_put = fit.none_put;
        room = fit.room;
        none_taken = fit.none_taken;
        links = record { apart = unused.apart; unused = unused.unused; untaken = unused.untaken; receivers = sym here.receivers; leaving = sym here.leaving; arriving = sym here.arriving };
        sink = record {
          text = subst (λ (x : Option (List ℕ)). Appends x (written b.sink) (trail_text (n.head b.member) (n.entries b.member) [])) (sym here.begun)
              (subst (λ (x : TrailOpening). Appends (begun_of h.head h.entries (written b.sink)) (written b.sink) (trail_text x (n.entries b.member) [])) (sym here.head)
              (subst (λ (x : List (List ℕ)). Appends (begun_of h.head h.entries (written b.sink)) (written b.sink) (trail_text h.head x [])) (sym here.entries) text));
          later = omega (arith, here.failures);
        };
      }

  stations-by : (n : Names S) (first : ℕ) (hs : List Headed) (bs : List (Station S D O)) → AreFit m told cells written images s first hs bs → AreSaid written faults n first hs bs → Each (λ (b : Station S D O). AreUnused b.row b.inbox) bs
      → AreStations n told cells written faults first bs
  stations-by n first [] [] fit says unused = tt
  stations-by n first [] (b ∷ bs) fit says unused = absurd fit
  stations-by n first (h ∷ hs) [] fit says unused = absurd fit
  stations-by n first (h ∷ hs) (b ∷ bs) fit says unused = (fit.0.number, station-by n first h b fit.0 says.0 unused.0, stations-by n (suc first) hs bs fit.1 says.1 unused.1)

  -- what the members begin with is what the name of the group says of their numbers
  pub stations-of : (crew : Crew S D O) → IsCrew m told cells written images s crew → AreStations (names_of m s written faults crew) told cells written faults 1 crew.stations.items
  stations-of crew is = stations-by (names_of m s written faults crew) 1 crew.heads.items crew.stations.items is.fit (names-say m s written faults crew) (links-idle crew is).0

  -- and what the client begins with is what it says of 0
  pub client-links : (crew : Crew S D O) → IsCrew m told cells written images s crew → AreLinksOf (names_of m s written faults crew) 0 crew.client.row crew.client.inbox
  client-links crew is =
      let unused = (links-idle crew is).1 in
      record { apart = unused.apart; unused = unused.unused; untaken = unused.untaken; receivers = refl; leaving = refl; arriving = refl }

  pub client-sink : (crew : Crew S D O) → IsCrew m told cells written images s crew → IsSinkOf (names_of m s written faults crew) written faults 0 crew.client.sink
  client-sink crew is =
      let same : faults crew.client.sink ≤ faults crew.client.sink = omega arith in
      record { text = headed written (client_head s) [] crew.client.sink is.client; later = same }
