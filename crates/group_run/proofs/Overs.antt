-- How a group that has run has ended: its trails are gathered, or they are not.
use Rattle.std.proofs.Common.{◌≡◌, ◌∙◌, ℕ, ◌+◌, ◌-◌, ◌^◌, ◌<◌, ◌≤◌, min, ◌⊎◌, inl, inr, Bool, true, false, true≢false, List, [], ◌∷◌, ◌++◌, length, map, take, get_or, Option, Some, None, IfSome, refl, sym, ap, subst, arith}
use Rattle.std.specs.Io.KnownBytes.{Appends}
use Rattle.faults.specs.Counts.{Rose}
use Rattle.disk_model.specs.Rooms.{Address, address}
use Rattle.durable_store.specs.Disks.{cells_of}
use Rattle.smart_service.specs.Services.{Meaning}
use Rattle.audit_rules.specs.declared.recorded.Recorded.{Recorded}
use Rattle.client_quorum.specs.declared.client.Acceptance.{Acceptance}
use Rattle.trail.specs.declared.event.TrailEvent.{TrailEvent}
use Rattle.trail.specs.declared.opening.TrailOpening.{TrailOpening}
use Rattle.group_client.specs.Lines.{accepted, IsTold, IsToldFirst, IsToldWhole}
use Rattle.group_client.specs.Loops.{Output}
use Rattle.group_client.specs.declared.asking.ClientFault.TheVariants as faults_of
use Rattle.group_client.proofs.Told.{keeps-none, told-all, told-lines, told-none}
use Rattle.smart_base.specs.Lists.{Each}
use Rattle.snapshot_form.specs.Snapshots.{snapshot_text}
use Rattle.replica_rules.specs.Replicas.{empty}
use Rattle.node_rules.specs.declared.node.Parts.{Parts}
use Rattle.member_opening.specs.Devices.{devices_at}
use Rattle.member_opening.specs.Headings.{head_by}
use Rattle.member_opening.specs.Restorings.{parts_in, store_fault}
use Rattle.audit_rules.specs.Audits.{CanBegin}
use Rattle.audit_laws.specs.Heads.{trail_by}
use Rattle.group_ends.specs.Ports.{ends, port_links, inbox_links}
use Rattle.group_wires.specs.Wires.{all_takings, row_links, row_puts, AreLinked, HaveCome}
use Rattle.group_wires.specs.declared.row.Row.{Row}
use Rattle.group_ends.specs.declared.inbox.Inbox.{Inbox}
use Rattle.group_run.specs.Concluded.{AreGathered, IsConcluded}
use Rattle.group_parties.specs.Courses.{is_cut_off, is_line_cut}
use Rattle.group_parties.specs.Crews.{begun_of, IsCrew}
use Rattle.group_run.specs.Ends.{accepted_in, GroupEnd, HasLived, HasLost, LostBy, WroteBy}
use Rattle.group_parties.specs.Gathered.{recorded_of, trails_in}
use Rattle.group_run.specs.Lines.{group_line}
use Rattle.group_run.specs.Parties.{accepted_by, trails_of, ClientOver, GroupOver}
use Rattle.group_parties.specs.Rests.{HasCourse, HasRun}
use Rattle.group_opening.specs.Runs.{GroupRun, client_head, member_settings}
use Rattle.group_parties.specs.Seated.{IsClientLeft}
use Rattle.group_run.specs.Statuses.{failed_status}
use Rattle.group_parties.specs.declared.course.Rest.{Rest}
use Rattle.group_parties.specs.declared.crew.Crew.{Crew}
use Rattle.group_parties.specs.declared.crew.Headed.{Headed}
use Rattle.group_parties.specs.declared.ending.Lived.{Lived}
use Rattle.group_parties.specs.declared.ending.MemberEnd.{MemberEnd}
use Rattle.group_run.specs.declared.parties.Trails.{Trails}
use Rattle.group_parties.specs.declared.running.CourseEnd.{CourseEnd}
use Rattle.group_parties.specs.declared.running.CourseEnd.TheVariants as courses
use Rattle.group_run.specs.declared.status.Failures.{Failures}
use Rattle.group_run.specs.declared.status.GroupStatus.{GroupStatus}
use Rattle.group_run.specs.declared.status.GroupStatus.TheVariants as ends
use Rattle.group_run.proofs.Conclusions.{ends-by}
use Rattle.group_run.proofs.Joined.{client-over, group-over, inboxes_left, join, joined-trails, links-few, links-left, many-inboxes, rows_left, trail_of, Joined, Lives, Member}
use Rattle.group_run.proofs.Stored.{stores-over}
use Rattle.group_run.proofs.Written.{lived-wrote, lost-wrote}

-- a count that has risen since an earlier moment, at a later one
rose-within : (before begun out after : ℕ) → before ≤ begun → Rose begun out → out ≤ after → Rose before after
rose-within before begun out after first rose last = omega (arith, first, rose, last)

-- nothing more was written, or memory was wanted since
want-or : (first last : Option (List ℕ)) (out after before now : ℕ) → (Rose out after → Rose before now) → Appends first last [] ⊎ Rose out after → Appends first last [] ⊎ Rose before now
want-or first last out after before now since (inl none) = inl none
want-or first last out after before now since (inr rose) = inr (since rose)

-- ---- the trails of a group, and the ends of its links

module _ {S : Type 0} (r : GroupRun S) (counts : r.disk → ℕ) (faults : r.sink → ℕ) (crew : Crew S r.disk r.sink) (is : IsCrew r.meaning r.told r.cells r.text_of r.images r.settings crew) (rest : Rest r.disk r.sink) (begun out : Output)
    (run : HasRun r.meaning r.told r.remembers r.cells r.moment r.left_since counts r.text_of faults r.images r.settings crew is rest begun out) (t : Trails)
    (gathered : AreGathered (client_head r.settings) rest.heads.items rest.client.lived (map (λ (e : MemberEnd r.disk r.sink). e.lived) rest.members.items) t) where
  own-left : IsClientLeft (client_head r.settings) [] r.text_of (begun_of (client_head r.settings) [] (r.text_of crew.client.sink)) (ends crew.client.row.ports.items) (port_links crew.client.row.ports.items) (inbox_links crew.client.inbox.links.items) rest.client.sink gathered.own
  own-left =
      let lived = rw gathered.own_is at run.client.lived in
      lived.0

  joined-by : Joined r counts faults 1 crew.heads.items crew.stations.items rest.members.items gathered.lives
  joined-by = join r counts faults 1 crew.heads.items crew.stations.items is.fit rest.members.items gathered.lives run.members gathered.lives_are

  pub gathered-linked : AreLinked (row_links t.rows.items) t.inboxes.items
  gathered-linked =
      let linked = links-left r counts faults crew is rest.members.items gathered.lives joined-by gathered.own rest.client.sink own-left in
      subst (λ (rows : List Row). AreLinked (row_links rows) t.inboxes.items) (sym gathered.rows)
      (subst (λ (inboxes : List Inbox). AreLinked (row_links (rows_left r counts faults crew is rest.members.items gathered.lives joined-by gathered.own rest.client.sink own-left)) inboxes) (sym gathered.inboxes) linked)

  pub gathered-few : Each (λ (row : Row). length row.ports.items ≤ length t.inboxes.items) t.rows.items
  gathered-few =
      let few = links-few r counts faults crew is rest.members.items gathered.lives joined-by gathered.own rest.client.sink own-left in
      let many : r.settings.members + 1 ≡ length t.inboxes.items = sym (ap length gathered.inboxes ∙ many-inboxes r counts faults crew is rest.members.items gathered.lives joined-by gathered.own rest.client.sink own-left) in
      subst (λ (rows : List Row). Each (λ (row : Row). length row.ports.items ≤ length t.inboxes.items) rows) (sym gathered.rows)
      (subst (λ (n : ℕ). Each (λ (row : Row). length row.ports.items ≤ n) (rows_left r counts faults crew is rest.members.items gathered.lives joined-by gathered.own rest.client.sink own-left)) many few)

  -- ---- each could begin so

  module _ (meaning : Meaning S) (same : r.meaning ≡ meaning) (can : (member : ℕ) (parts : Parts) (events : List TrailEvent) → store_fault meaning (member_settings r.settings member) parts ≡ None
      → (parts.snapshot ≡ Some (snapshot_text meaning (empty meaning r.settings.view)) → ⊥) → CanBegin (trail_by meaning (member_settings r.settings member) parts events)) where
    member-begins : (j : Member r counts faults) → CanBegin (trail_of r counts faults j)
    member-begins j =
        let parts = parts_in j.fit.kept in
        let found = can j.number parts j.lived.events (subst (λ (m : Meaning S). store_fault m (member_settings r.settings j.number) parts ≡ None) same j.fit.whole)
        (subst (λ (m : Meaning S). parts.snapshot ≡ Some (snapshot_text m (empty m r.settings.view)) → ⊥) same j.fit.other) in
        let head : head_by meaning (member_settings r.settings j.number) parts ≡ j.headed.head = sym (j.fit.head.0 ∙ ap (λ (m : Meaning S). head_by m (member_settings r.settings j.number) parts) same) in
        subst (λ (opening : TrailOpening). CanBegin (record { opening = opening; entries = j.headed.entries; events = j.lived.events })) head
        (subst (λ (entries : List (List ℕ)). CanBegin (record { opening = head_by meaning (member_settings r.settings j.number) parts; entries = entries; events = j.lived.events })) (sym j.fit.head.1) found)

    members-begin : (js : List (Member r counts faults)) → Each CanBegin (map (trail_of r counts faults) js)
    members-begin [] = tt
    members-begin (j ∷ js) = (member-begins j, members-begin js)

    client-begins : CanBegin (recorded_of (client_head r.settings) [] gathered.own)
    client-begins = λ other. absurd (true≢false other)

    pub gathered-begin : Each CanBegin t.recorded.items
    gathered-begin =
        let trails = joined-trails r counts faults 1 crew.heads.items crew.stations.items rest.members.items gathered.lives joined-by in
        let all : t.recorded.items ≡ recorded_of (client_head r.settings) [] gathered.own ∷ map (trail_of r counts faults) joined-by.all =
        gathered.trails ∙ ap (λ (heads : List Headed). recorded_of (client_head r.settings) [] gathered.own ∷ trails_in heads gathered.lives) run.heads ∙ ap (λ (xs : List Recorded). recorded_of (client_head r.settings) [] gathered.own ∷ xs) trails in
        subst (λ (xs : List Recorded). Each CanBegin xs) (sym all) (client-begins, members-begin joined-by.all)

module _ {S : Type 0} (r : GroupRun S) (counts : r.disk → ℕ) (faults : r.sink → ℕ) (crew : Crew S r.disk r.sink) (is : IsCrew r.meaning r.told r.cells r.text_of r.images r.settings crew) (rest : Rest r.disk r.sink) (begun out : Output)
    (run : HasRun r.meaning r.told r.remembers r.cells r.moment r.left_since counts r.text_of faults r.images r.settings crew is rest begun out)
    (line : Appends r.written_before begun.written (group_line r.settings.members r.settings.faulty)) (wants : r.wants_before ≤ begun.wants) (failures : Failures) (output : rest.end ≡ courses.GaveUp faults_of.Output → failures.output ≡ true) where
  memory-by : out.wants ≤ r.wants_after → rest.end ≡ courses.GaveUp faults_of.OutputMemory → Rose r.wants_before r.wants_after
  memory-by later want = rose-within r.wants_before begun.wants out.wants r.wants_after wants (run.client.want want) later

  -- ---- not all parties have lived, or memory ran out

  -- The trail of the client, if it has lived, and the lines of what it accepted.
  record LinesSo : Type 0 where
    client : Option Recorded
    whole : Bool
    asked : IfSome client (λ t. ClientOver r whole t)
    first : IsToldFirst [] (accepted_in client) begun.written out.written
    lines : is_line_cut rest.end ≡ false → IsToldWhole [] (accepted_in client) begun.written out.written

  lines-so : IfSome (r.text_of rest.client.sink) (λ text. r.trails.after (address r.settings.dir 0 0) ≡ Some text) → (found : Option Lived) → rest.client.lived ≡ found → LinesSo
  lines-so kept None none =
      let same : out.written ≡ begun.written = ap (λ (o : Output). o.written) (run.client.none none) in
      let told = told-none [] [] begun.written out.written refl same in
      record { client = None; whole = false; asked = tt; first = told-all [] [] begun.written out.written told; lines = λ uncut. told-lines [] [] begun.written out.written told }
  lines-so kept (Some own) found =
      let lived = rw found at run.client.lived in record {
        client = Some (recorded_of (client_head r.settings) [] own);
        whole = own.whole;
        asked = client-over r counts faults crew is own rest.client.sink lived.0 own.whole (λ all. all) lived.1.asked kept;
        first = lived.1.told_first;
        lines = lived.1.lines;
      }

  pub end-lost : IfSome (r.text_of rest.client.sink) (λ text. r.trails.after (address r.settings.dir 0 0) ≡ Some text)
      → ((i : ℕ) (e : MemberEnd r.disk r.sink) → i < length rest.members.items → r.told → devices_at r.room.after r.settings.dir (1 + i) ≡ cells_of r.cells (get_or rest.members.items i e).store.disks)
      → (status : GroupStatus) → status ≡ failed_status failures ends.NoMemory → r.written_after ≡ out.written → out.wants ≤ r.wants_after
      → GroupEnd r status
  end-lost own-kept devices status is-status here later =
      let so = lines-so own-kept rest.client.lived refl in
      inr (inr (record {
        client = so.client;
        whole = so.whole;
        asked = so.asked;
        wrote = lost-wrote r (accepted_in so.client) begun.written out.written out.written rest.end line here so.first so.lines (memory-by later) failures status is-status (keeps-none out.written out.written refl) output;
        stores = stores-over r counts faults crew is rest.members.items run.members devices;
      }))

  -- ---- all have lived

  module _ (t : Trails) (gathered : AreGathered (client_head r.settings) rest.heads.items rest.client.lived (map (λ (e : MemberEnd r.disk r.sink). e.lived) rest.members.items) t) (come : HaveCome (row_puts t.rows.items) (all_takings t.inboxes.items))
      (own-kept : IfSome (r.text_of rest.client.sink) (λ text. r.trails.after (address r.settings.dir 0 0) ≡ Some text))
      (kept : (i : ℕ) (e : MemberEnd r.disk r.sink) → i < length rest.members.items → IfSome (r.text_of (get_or rest.members.items i e).sink) (λ text. r.trails.after (address r.settings.dir (1 + i) 0) ≡ Some text))
      (devices : (i : ℕ) (e : MemberEnd r.disk r.sink) → i < length rest.members.items → r.told → devices_at r.room.after r.settings.dir (1 + i) ≡ cells_of r.cells (get_or rest.members.items i e).store.disks) where
    pub end-lived : (status : GroupStatus) (after : Output) → IsConcluded t.recorded.items t.whole failures rest.end rest.client.polls status out after → r.written_after ≡ after.written → after.wants ≤ r.wants_after → GroupEnd r status
    end-lived status after concluded here later =
        let s = r.settings in
        let own = gathered.own in
        let ls = gathered.lives in
        let es = rest.members.items in
        let hs = crew.heads.items in
        let bs = crew.stations.items in
        let client = rw gathered.own_is at run.client.lived in
        let left = client.0 in
        let course : HasCourse s rest.client.polls rest.end own begun out = client.1 in
        let joined = join r counts faults 1 hs bs is.fit es ls run.members gathered.lives_are in
        let came : HaveCome (row_puts (map (λ (l : Lived). l.row) ls ++ own.row ∷ [])) (all_takings (map (λ (l : Lived). l.inbox) ls ++ own.inbox ∷ [])) =
        subst (λ (rows : List Row). HaveCome (row_puts rows) (all_takings (map (λ (l : Lived). l.inbox) ls ++ own.inbox ∷ []))) gathered.rows
        (subst (λ (inboxes : List Inbox). HaveCome (row_puts t.rows.items) (all_takings inboxes)) gathered.inboxes come) in
        let lives = group-over r counts faults crew is es ls joined own rest.client.sink left t.whole gathered.whole course.asked own-kept kept devices came in
        let over = lives.over in
        let trails : t.recorded.items ≡ trails_of over =
        gathered.trails ∙ ap (λ (heads : List Headed). recorded_of (client_head s) [] own ∷ trails_in heads ls) run.heads ∙ sym lives.trails_are in
        let events : over.client.events ≡ own.events = ap (λ (x : Recorded). x.events) lives.client_is in
        let told : accepted (client_head s) own.events ≡ accepted_by over = sym (ap (λ (x : Recorded). accepted x.opening x.events) lives.client_is) in
        let earlier : r.wants_before ≤ out.wants = omega (arith, wants, run.client.later.1) in
        let since : Rose out.wants after.wants → Rose r.wants_before r.wants_after = λ rose. rose-within r.wants_before out.wants after.wants r.wants_after earlier rose later in
        let sooner : out.wants ≤ r.wants_after = omega (arith, concluded.later.1, later) in
        inr (inl (record {
          over = over;
          ends = ends-by r over own t.recorded.items t.whole failures rest.end rest.client.polls begun out out after trails events lives.whole_is (λ all. (gathered.whole all).0) course status concluded;
          wrote = subst (λ (xs : List Acceptance). WroteBy r xs status) told
              (lived-wrote r (accepted (client_head s) own.events) begun.written out.written after.written rest.end line here course.told_first course.lines
              (memory-by sooner) course.told status concluded.none concluded.silent
              (λ ok. ((concluded.ok ok).1.0, concluded.wrote ok))
              (λ d differs. (concluded.differs d differs).1)
              (λ n gave-up. (concluded.gave_up n gave-up).1.1.1.1.0)
              concluded.store (λ want. want-or out.written after.written out.wants after.wants r.wants_before r.wants_after since (concluded.want want)) (λ other failed. other (concluded.first (output failed))));
        }))
