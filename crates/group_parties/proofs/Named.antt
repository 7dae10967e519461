-- What the parties of a group begin with under a name that the group gets, and what is left of them.
use Rattle.std.proofs.Common.{◌≡◌, ◌∙◌, ℕ, ◌+◌, ◌<◌, ◌≤◌, Bool, true, false, true≢false, List, [], ◌∷◌, length, get_or, Option, Some, None, IfSome, is_some, refl, sym, ap, subst, arith}
use Rattle.faults.specs.Counts.{Rose}
use Rattle.atomic_table.specs.Seated.{TableId}
use Rattle.disk_model.specs.Cells.{Cells}
use Rattle.durable_store.specs.declared.disks.Disks.{Disks}
use Rattle.smart_service.specs.Services.{Meaning}
use Rattle.store_laws.specs.Restored.{Images}
use Rattle.node_rules.specs.declared.node.Target.{Target}
use Rattle.trail.specs.declared.opening.TrailOpening.{TrailOpening}
use Rattle.group_client.specs.Loops.{Output}
use Rattle.group_client.specs.declared.asking.ClientFault.TheVariants as faults_of
use Rattle.group_ends.specs.Ports.{ends, port_links, inbox_links}
use Rattle.group_parties.specs.Crews.{begun_of, names_of, IsCrew}
use Rattle.group_parties.specs.Origins.{Origin}
use Rattle.group_parties.specs.Rests.{AreEnded, HasCourse, IsClientEnded, IsEndedBy}
use Rattle.group_opening.specs.Runs.{client_head}
use Rattle.group_parties.specs.Seated.{IsClientLeft}
use Rattle.group_parties.specs.Stations.{AreBegun, AreLinksOf, AreOpened, AreStations, IsSinkOf, Names}
use Rattle.group_parties.specs.Unseated.{IsUnseated}
use Rattle.group_parties.specs.declared.crew.Crew.{Crew}
use Rattle.group_parties.specs.declared.ending.ClientLeft.{ClientLeft}
use Rattle.group_parties.specs.declared.ending.Lived.{Lived}
use Rattle.group_parties.specs.declared.ending.MemberEnd.{MemberEnd}
use Rattle.group_parties.specs.declared.running.CourseEnd.{CourseEnd}
use Rattle.group_parties.specs.declared.running.CourseEnd.TheVariants as courses
use Rattle.group_parties.specs.declared.seating.Station.{Station}
use Rattle.group_opening.specs.declared.settings.GroupSettings.{GroupSettings}
use Rattle.group_parties.proofs.Ended.{all-ended}
use Rattle.group_parties.proofs.Stationed.{AreSaid, client-links, client-sink, names-say, stations-of}

none-so : {A : Type 0} (found : Option A) → is_some found ≡ false → found ≡ None
none-so None none = refl
none-so (Some x) none = absurd (true≢false none)

if-so : {A : Type 0} (P Q : A → Type 0) (found : Option A) → ((x : A) → P x → Q x) → IfSome found P → IfSome found Q
if-so P Q None each if = tt
if-so P Q (Some x) each if = each x if

module _ {S D O : Type 0} (m : Meaning S) (told remembers : Type 0) (cells : D → Cells) (moment : D → ℕ) (left_since : D → ℕ → List ℕ → Type 0) (counts : D → ℕ) (written : O → Option (List ℕ)) (faults : O → ℕ) (images : ℕ → Images) (s : GroupSettings) (crew : Crew S D O)
    (is : IsCrew m told cells written images s crew) (n : Names S) (named : names_of m s written faults crew ≡ n) where
  -- ---- what they begin with

  pub named-stations : AreStations n told cells written faults 1 crew.stations.items
  named-stations = subst (λ (x : Names S). AreStations x told cells written faults 1 crew.stations.items) named (stations-of m told cells written faults images s crew is)

  pub named-links : AreLinksOf n 0 crew.client.row crew.client.inbox
  named-links = subst (λ (x : Names S). AreLinksOf x 0 crew.client.row crew.client.inbox) named (client-links m told cells written faults images s crew is)

  pub named-sink : IsSinkOf n written faults 0 crew.client.sink
  named-sink = subst (λ (x : Names S). IsSinkOf x written faults 0 crew.client.sink) named (client-sink m told cells written faults images s crew is)

  pub named-head : n.head 0 ≡ client_head s
  named-head = sym (ap (λ (x : Names S). x.head 0) named)

  pub named-entries : n.entries 0 ≡ []
  named-entries = sym (ap (λ (x : Names S). x.entries 0) named)

  says : AreSaid written faults n 1 crew.heads.items crew.stations.items
  says = subst (λ (x : Names S). AreSaid written faults x 1 crew.heads.items crew.stations.items) named (names-say m s written faults crew)

  -- ---- what is left of the members

  pub named-ended : (es : List (MemberEnd D O)) (count : ℕ) → length es ≡ length crew.stations.items
      → ((i : ℕ) (e : MemberEnd D O) (b : Station S D O) → i < count → (get_or es i e).member ≡ (get_or crew.stations.items i b).member)
      → ((origins : ℕ → Origin) (begun : ℕ → Disks D) → AreOpened told cells origins 1 crew.stations.items → AreBegun begun 1 crew.stations.items → (i : ℕ) (e : MemberEnd D O) → i < count
      → IsEndedBy n m told remembers cells moment left_since counts written faults origins begun (get_or es i e))
      → ((i : ℕ) (b : Station S D O) (e : MemberEnd D O) → count ≤ i → i < length crew.stations.items → IsUnseated (get_or crew.stations.items i b) (get_or es i e))
      → AreEnded m told remembers cells moment left_since counts written faults images s 1 crew.heads.items crew.stations.items is.fit es
  named-ended es count many seated ended unseated =
      all-ended n m told remembers cells moment left_since counts written faults images s crew.heads.items crew.stations.items es count is.fit many says seated ended unseated

  -- none of them got a seat
  pub named-unseated : (es : List (MemberEnd D O)) → length es ≡ length crew.stations.items
      → ((i : ℕ) (b : Station S D O) (e : MemberEnd D O) → i < length crew.stations.items → IsUnseated (get_or crew.stations.items i b) (get_or es i e))
      → AreEnded m told remembers cells moment left_since counts written faults images s 1 crew.heads.items crew.stations.items is.fit es
  named-unseated es many unseated =
      named-ended es 0 many (λ i e b few. absurd (omega (arith, few))) (λ origins begun opened were i e few. absurd (omega (arith, few))) (λ i b e high few. unseated i b e few)

  -- ---- what is left of the client

  -- it got no seat
  pub seatless-client : (e : ClientLeft O) (out : Output) → e.failed ≡ false → is_some e.lived ≡ false → IsClientEnded written faults s crew.client e courses.Over out out
  seatless-client e out sound none =
      let lived : e.lived ≡ None = none-so e.lived none in
      let faults-same : out.faults ≤ out.faults = omega arith in
      let wants-same : out.wants ≤ out.wants = omega arith in record {
        failed = λ failed. absurd (true≢false (sym failed ∙ sound));
        lived = rw lived tt;
        none = λ found. refl;
        output = λ end. cc;
        want = λ end. cc;
        later = (faults-same, wants-same);
      }

  left-by : (sink : O) (l : Lived) → IsClientLeft (n.head 0) (n.entries 0) written (n.begun 0) (n.receivers 0) (n.leaving 0) (n.arriving 0) sink l
      → IsClientLeft (client_head s) [] written (begun_of (client_head s) [] (written crew.client.sink)) (ends crew.client.row.ports.items) (port_links crew.client.row.ports.items) (inbox_links crew.client.inbox.links.items) sink l
  left-by sink l left =
      subst (λ (x : Names S). IsClientLeft (x.head 0) (x.entries 0) written (x.begun 0) (x.receivers 0) (x.leaving 0) (x.arriving 0) sink l) (sym named) left

  -- it had one
  pub seated-client : (e : ClientLeft O) (end : CourseEnd) (out done : Output) → is_some e.lived ≡ true
      → IfSome e.lived (λ (l : Lived). IsClientLeft (n.head 0) (n.entries 0) written (n.begun 0) (n.receivers 0) (n.leaving 0) (n.arriving 0) e.sink l × HasCourse s e.polls end l out done)
      → (e.failed ≡ true → Rose (n.failures 0) (faults e.sink)) → (end ≡ courses.GaveUp faults_of.Output → Rose out.faults done.faults) → (end ≡ courses.GaveUp faults_of.OutputMemory → Rose out.wants done.wants)
      → (out.faults ≤ done.faults) × (out.wants ≤ done.wants) → IsClientEnded written faults s crew.client e end out done
  seated-client e end out done some lived failed output want later = record {
    failed = λ fails. subst (λ (x : Names S). Rose (x.failures 0) (faults e.sink)) (sym named) (failed fails);
    lived = if-so (λ (l : Lived). IsClientLeft (n.head 0) (n.entries 0) written (n.begun 0) (n.receivers 0) (n.leaving 0) (n.arriving 0) e.sink l × HasCourse s e.polls end l out done)
        (λ (l : Lived). IsClientLeft (client_head s) [] written (begun_of (client_head s) [] (written crew.client.sink)) (ends crew.client.row.ports.items) (port_links crew.client.row.ports.items) (inbox_links crew.client.inbox.links.items) e.sink l × HasCourse s e.polls end l out done) e.lived
        (λ l found. (left-by e.sink l found.0, found.1)) lived;
    none = λ none. absurd (true≢false (sym some ∙ ap is_some none));
    output = output;
    want = want;
    later = later;
  }
