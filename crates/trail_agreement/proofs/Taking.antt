-- What a member takes over another one had behind a delivery, and marked. So what holds of a replica behind each delivery of a place holds of each
-- replica of that place.
use Rattle.std.proofs.Common.{◌≡◌, ◌⊎◌, inl, inr, ℕ, zero, suc, ◌+◌, ◌<◌, ◌++◌, ◌==◌, Bool, true, false, List, [], ◌∷◌, refl, ap, sym, ◌∙◌, subst, arith, get_or, Option, Some, None}
use Rattle.std.proofs.lemmas.List.{get_or_past}
use Rattle.std.specs.Prelude.{IfSome}
use Rattle.smart_base.specs.Cuts.{IsBytes}
use Rattle.smart_base.specs.Lists.{Each}
use Rattle.smart_base.specs.Views.{View, is_member, is_view}
use Rattle.smart_base.proofs.SameLists.{and_true}
use Rattle.smart_keys.specs.Keys.{digest}
use Rattle.smart_statements.specs.Batches.{Batch}
use Rattle.smart_statements.specs.Forms.{SignedBy}
use Rattle.smart_statements.specs.declared.entry.NodeEvent.{NodeEvent}
use Rattle.smart_statements.specs.declared.report.Mark.{Mark}
use Rattle.smart_service.specs.Services.{Comes, Meaning, comes_first, comes_next, comes_restored}
use Rattle.smart_service.specs.declared.replica.Replica.{Replica}
use Rattle.certificates.specs.Certificates.{IsMarkCertificate, mark_of}
use Rattle.replica_rules.specs.Replicas.{delivered, empty}
use Rattle.replica_rules.proofs.Places.{place_delivered}
use Rattle.snapshot_form.specs.Replicas.{FitsReplica, follow, is_first_view, views_follow}
use Rattle.snapshot_form.specs.Snapshots.{snapshot_text}
use Rattle.snapshot_form.proofs.Executed.{fits_delivered, fits_empty}
use Rattle.snapshot_form.proofs.Spelled.{is_apart, read_is}
use Rattle.state_transfer.specs.Fetches.{are_all_there, bytes_in, is_numbered, joined, joined_of, part_at, pieces_of}
use Rattle.state_transfer.specs.declared.fetch.Fetch.{Fetch}
use Rattle.transfer_form.specs.declared.transfer.StatePart.{StatePart}
use Rattle.vote_book.specs.Books.{Among}
use Rattle.vote_book.specs.declared.entry.LogEntry.TheVariants.{Marked}
use Rattle.agreement_laws.specs.Law.{FewFaulty}
use Rattle.agreement_laws.specs.Statements as says
use Rattle.agreement_laws.specs.Statements.{Statement}
use Rattle.agreement_laws.proofs.Lists.{each_among, some_equal}
use Rattle.node_rules.specs.Nodes.{Node, next_place}
use Rattle.node_rules.specs.Steps.{step_of, takes_in}
use Rattle.node_rules.specs.Transfers.{is_of_group}
use Rattle.node_laws.specs.Sound.{IsPlanned, IsSound, IsStatedEvent}
use Rattle.node_laws.proofs.Installing.{GoesOn, IsReady, group_views}
use Rattle.node_laws.proofs.Passes.{sound_takes_in}
use Rattle.node_laws.proofs.Planning.{IsTakenFrom, restored_follow}
use Rattle.node_laws.proofs.Views.{numbered_has}
use Rattle.replica_laws.specs.Sending.{ForBatch}
use Rattle.replica_laws.proofs.FitNodes.{FitsWaiting, event-fits, fit-takes_in, settles-bytes}
use Rattle.replica_laws.proofs.Follows.{waits-takes_in}
use Rattle.replica_laws.proofs.Lists.{if_find}
use Rattle.replica_laws.proofs.Moves.{Moves, moved-step, moves_none, moves_on, moves_to, same-takes_in}
use Rattle.replica_laws.proofs.Onward.{HasDecided, IsDecided}
use Rattle.replica_laws.proofs.Parts.{ArePartsBytes, parts-takes_in}
use Rattle.replica_laws.proofs.Small.{IsBrief}
use Rattle.world_laws.proofs.Taken.{correct_marker}
use Rattle.trail.specs.declared.event.TrailEvent.{TrailEvent}
use Rattle.trail.specs.declared.event.TrailEvent.TheVariants.{Happens, Send, Lost, Polls, End}
use Rattle.trail_rules.specs.Replays.{node_step, after}
use Rattle.audit_rules.specs.declared.recorded.Recorded.{Recorded}
use Rattle.audit_rules.specs.Audits.{first_node, is_client}
use Rattle.trail_agreement.specs.Deliveries.{HasHad, HasMarked, book_of, last_node}
use Rattle.trail_agreement.proofs.Beginning.{first_replica, first_unmarked}
use Rattle.trail_agreement.proofs.Deliveries.{decided_longer}
use Rattle.trail_agreement.proofs.Group.{IsGroup, IsMembers, all_rests, book_grows, last_there, may_arrive, may_come, right_at}
use Rattle.trail_agreement.proofs.Marks.{IsDue, IsMarkOf, marks-step}
use Rattle.trail_agreement.proofs.Nodes.{through}
use Rattle.trail_agreement.proofs.Runs.{IsRight, MayArrive}
use Rattle.trail_agreement.proofs.Shown.{all_stated, stated_shown}
use Rattle.trail_agreement.proofs.Witnesses.{some_member}

-- ---- parts that are bytes are joined to bytes

no_bytes : IsBytes []
no_bytes = record { below = λ i. subst (λ (x : ℕ). x < 256) (sym (get_or_past {X = ℕ} [] i 0 (omega arith))) (omega arith) }

bytes_both : (xs ys : List ℕ) → IsBytes xs → IsBytes ys → IsBytes (xs ++ ys)
bytes_both [] ys are others = others
bytes_both (b ∷ bs) ys are others =
    let rest = bytes_both bs ys (record { below = λ j. are.below (suc j) }) others in
    record { below = λ i. at rest i }
  where
    at : IsBytes (bs ++ ys) → (i : ℕ) → get_or (b ∷ (bs ++ ys)) i 0 < 256
    at rest zero = are.below 0
    at rest (suc i) = rest.below i

one_part : (o : Option StatePart) → IfSome o (λ (p : StatePart). IsBytes p.bytes) → IsBytes (bytes_in o)
one_part None are = no_bytes
one_part (Some p) are = are

first_parts : (parts : List StatePart) (count : ℕ) → Each (λ (p : StatePart). IsBytes p.bytes) parts → IsBytes (joined parts count)
first_parts parts zero each = no_bytes
first_parts parts (suc count) each =
    bytes_both (joined parts count) (bytes_in (part_at parts count)) (first_parts parts count each)
    (one_part (part_at parts count) (if_find (λ (p : StatePart). IsBytes p.bytes) (is_numbered count) parts each))

all_parts : (f : Fetch) → Each (λ (p : StatePart). IsBytes p.bytes) f.parts → IsBytes (joined_of f)
unfolding joined_of
all_parts f each = first_parts f.parts (pieces_of f.plan.size) each

of_fetch : (fetch : Option Fetch) (f : Fetch) → fetch ≡ Some f → ArePartsBytes fetch → IsBytes (joined_of f)
of_fetch None f at are = absurd (cc)
of_fetch (Some x) f at are = subst (λ (y : Fetch). IsBytes (joined_of y)) (some_equal x f at) (all_parts x are)

-- ---- replicas that have snapshots

for_waiting : (place : ℕ) (w : Option Batch) (batch : Batch) → w ≡ Some batch → ForBatch w (FitsWaiting place) → FitsWaiting place batch
for_waiting place None batch at fit = absurd (cc)
for_waiting place (Some b) batch at fit = subst (FitsWaiting place) (some_equal b batch at) fit

module _ {S : Type 0} (m : Meaning S) (brief : IsBrief m) where
  fits_moved : (t : Node S) (r : Replica S) → ForBatch t.waiting (FitsWaiting (next_place t)) → ArePartsBytes t.fetch → FitsReplica (Comes m) t.replica → Moves m t r → FitsReplica (Comes m) r
  fits_moved t r fit bytes is (moves_none same) = subst (λ (x : Replica S). FitsReplica (Comes m) x) (sym same) is
  fits_moved t r fit bytes is (moves_on batch waits same) =
      let of = for_waiting (next_place t) t.waiting batch waits fit in
      subst (λ (x : Replica S). FitsReplica (Comes m) x) (sym same) (fits_delivered m (Comes m) (λ s op has. comes_next s op has) brief.brief t.replica batch is of.1 of.0)
  fits_moved t r fit bytes is (moves_to f due all taken of) =
      (read_is m (Comes m) brief.restores brief.small (λ s other few back. comes_restored s other few back) brief.spelled (joined_of f) r (of_fetch t.fetch f due.stands bytes) taken.read).0

  -- two of one snapshot are one
  one_replica : (r s : Replica S) → FitsReplica (Comes m) r → FitsReplica (Comes m) s → snapshot_text m r ≡ snapshot_text m s → r ≡ s
  one_replica r s fits also same = is_apart m (Comes m) brief.restores brief.small (λ x other few back. comes_restored x other few back) brief.spelled r s fits also same

-- ---- a node that has taken an event in

-- what holds of it, beside the node before
record HasTaken {S : Type 0} (stated : List Statement) (secret : List ℕ) (view : View) (y t : Node S) : Type 0 where
  sound : IsSound stated view t
  shared : t.secret ≡ secret
  replica_is : t.replica ≡ y.replica
  waits : t.waiting ≡ y.waiting
  fit : ForBatch t.waiting (FitsWaiting (next_place t))
  parts : ArePartsBytes t.fetch

has_taken : {S : Type 0} (m : Meaning S) (stated : List Statement) (secret : List ℕ) (view : View) (id : ℕ) (y : Node S) (event : NodeEvent) → IsRight m stated secret view id y → MayArrive stated secret (Happens event)
    → HasTaken stated secret view y (takes_in y event).node
has_taken m stated secret view id y event right may =
    let w = waits-takes_in y event in
    let fits = event-fits event may.1 in
    record {
      sound = sound_takes_in stated view y event right.sound (subst (λ (k : List ℕ). IsStatedEvent k stated event) (sym right.fit.shared) may.0);
      shared = (same-takes_in y event).0 ∙ right.fit.shared;
      replica_is = w.replica_is;
      waits = w.waits;
      fit = (fit-takes_in secret y event fits.0 right.fit).waiting;
      parts = parts-takes_in y event fits.1 right.parts;
    }

-- the plan of which a node has all parts
planned_by : (secret : List ℕ) (views : List View) (stated : List Statement) (fetch : Option Fetch) (f : Fetch) → fetch ≡ Some f → IfSome fetch (λ (x : Fetch). IsPlanned secret views stated x.plan) → IsPlanned secret views stated f.plan
planned_by secret views stated None f is planned = absurd (cc)
planned_by secret views stated (Some x) f is planned = subst (λ (y : Fetch). IsPlanned secret views stated y.plan) (some_equal x f is) planned

-- a first view of a replica that bytes are read as begins a group
first_begins : (place : ℕ) (view : View) (rest views : List View) → views ≡ view ∷ rest → views_follow place views ≡ true → is_first_view view ≡ true
first_begins place view rest views is follows = (and_true (is_first_view view) (follow place 0 1 rest) (subst (λ (vs : List View). views_follow place vs ≡ true) is follows)).0

-- ---- in a group

module _ {S : Type 0} (m : Meaning S) (faulty : ℕ → Bool) (trails : List Recorded) (secret : List ℕ) (view : View) (g : IsGroup m faulty trails secret view) where
  abbrev stated : List Statement
  stated = all_stated secret trails

  -- each replica has a snapshot, where the first view begins a group
  fits_after : (t : Recorded) (y : Node S) (e : TrailEvent) → IsMembers m trails t y → MayArrive stated secret e → FitsReplica (Comes m) y.replica → FitsReplica (Comes m) (after (node_step m) y e).replica
  fits_after t y (Happens event) of may is =
      let took : HasTaken stated secret view y (takes_in y event).node = has_taken m stated secret view t.opening.member y event (right_at m faulty trails secret view g t y of) may in
      fits_moved m g.brief (takes_in y event).node (step_of m y event).node.replica took.fit took.parts (subst (λ (x : Replica S). FitsReplica (Comes m) x) (sym took.replica_is) is) (moved-step m y event)
  fits_after t y (Send a) of may is = is
  fits_after t y (Lost a) of may is = is
  fits_after t y (Polls count) of may is = is
  fits_after t y End of may is = is

  first_is : (t : Recorded) → Among t trails → is_client t ≡ false → (first_node m t).replica ≡ empty m view
  first_is t there member =
      let o = g.over t there member in first_replica m t o.snapshot o.whole o.first ∙ ap (λ (v : View). empty m v) (g.views t there)

  fits_at : is_first_view view ≡ true → (t : Recorded) (x : Node S) → IsMembers m trails t x → FitsReplica (Comes m) x.replica
  fits_at begins t x of =
      through m (MayArrive stated secret) (λ (y : Node S). FitsReplica (Comes m) y.replica) (first_node m t) t.events (may_arrive m faulty trails secret view g t of.there)
      (subst (λ (r : Replica S). FitsReplica (Comes m) r) (sym (first_is t of.there of.member)) (fits_empty m (Comes m) view comes_first g.viewed begins))
      (λ y e at behind may is. fits_after t y e (record { there = of.there; member = of.member; at = at }) may is) x of.at

  fits_had : is_first_view view ≡ true → (t : Recorded) (r : Replica S) → Among t trails → is_client t ≡ false → HasHad m t r → FitsReplica (Comes m) r
  fits_had begins t r there member had =
      subst (λ (x : Replica S). FitsReplica (Comes m) x) had.replica_is (fits_at begins t had.node (record { there = there; member = member; at = had.there }))

  -- no member is at the first place but with the empty replica
  none_after : (t : Recorded) (y : Node S) (e : TrailEvent) → IsMembers m trails t y → MayArrive stated secret e → (y.replica.place ≡ 0 → y.replica ≡ empty m view)
      → (after (node_step m) y e).replica.place ≡ 0 → (after (node_step m) y e).replica ≡ empty m view
  none_after t y (Happens event) of may is at = by (takes_in y event).node (waits-takes_in y event).replica_is (step_of m y event).node.replica (moved-step m y event) at
    where
      by : (n : Node S) → n.replica ≡ y.replica → (r : Replica S) → Moves m n r → r.place ≡ 0 → r ≡ empty m view
      by n same r (moves_none stays) none = stays ∙ (same ∙ is (ap (λ (x : Replica S). x.place) (sym same) ∙ (ap (λ (x : Replica S). x.place) (sym stays) ∙ none)))
      by n same r (moves_on batch waits goes) none =
          let next : r.place ≡ n.replica.place + 1 = ap (λ (x : Replica S). x.place) goes ∙ place_delivered m n.replica batch in
          absurd (omega (arith, next, none))
      by n same r (moves_to f due all taken group) none = let later = due.later in let place = taken.place_is in absurd (omega (arith, later, place, none))
  none_after t y (Send a) of may is at = is at
  none_after t y (Lost a) of may is at = is at
  none_after t y (Polls count) of may is at = is at
  none_after t y End of may is at = is at

  pub none_at : (t : Recorded) (x : Node S) → IsMembers m trails t x → x.replica.place ≡ 0 → x.replica ≡ empty m view
  none_at t x of =
      through m (MayArrive stated secret) (λ (y : Node S). y.replica.place ≡ 0 → y.replica ≡ empty m view) (first_node m t) t.events (may_arrive m faulty trails secret view g t of.there)
      (λ at. first_is t of.there of.member)
      (λ y e at behind may is. none_after t y e (record { there = of.there; member = of.member; at = at }) may is) x of.at

  -- ---- a place

  -- what holds of the replica behind each delivery of a place
  abbrev pub Behind : ℕ → (Replica S → Type 0) → Type 0
  Behind j Q = (t : Recorded) (x : Node S) (batch : Batch) → IsMembers m trails t x → HasDecided (book_of m t) (next_place x) batch → FitsWaiting (next_place x) batch → next_place x ≡ j → Q (delivered m x.replica batch)

  -- what holds of a replica of the place that goes on from a member's one, unless few are faulty in each view that the member knows
  abbrev pub GoingOn : ℕ → (Replica S → Type 0) → Type 0
  GoingOn j Q =
      (t : Recorded) (x : Node S) (r : Replica S) → IsMembers m trails t x → x.replica.place < j → GoesOn (next_place x) x.replica.views r.views → Q r ⊎ ((u : View) → Among u x.replica.views → FewFaulty u faulty)

  module _ (j : ℕ) (Q : Replica S → Type 0) (some : 0 < j) (behind : Behind j Q) (going_on : GoingOn j Q) where
    -- a replica that a member had; it holds of it, if it is of the place
    abbrev IsHad : Recorded → Replica S → Type 0
    IsHad t r = HasHad m t r × (r.place ≡ j → Q r)

    due_holds : (t : Recorded) (y : Node S) (r : Replica S) → IsMembers m trails t y → IsDue m y r → r.place ≡ j → Q r
    due_holds t y r of due at =
        let right : IsRight m stated secret view t.opening.member y = right_at m faulty trails secret view g t y of in
        let next : r.place ≡ next_place y = ap (λ (x : Replica S). x.place) due.2 ∙ place_delivered m y.replica due.0 in
        let decided : HasDecided y.entries (next_place y) due.0 = subst (λ (w : Option Batch). IsDecided (next_place y) y.entries w) due.1 right.rests.waits in
        subst Q (sym due.2)
        (behind t y due.0 of (decided_longer y.entries (book_of m t) (next_place y) due.0 (book_grows m faulty trails secret view g t y of) decided) (for_waiting (next_place y) y.waiting due.0 due.1 right.fit.waiting)
        (sym next ∙ at))

    -- each mark is of a replica that its member had, of which it holds if it is of the place
    marks_after : (t : Recorded) (y : Node S) (e : TrailEvent) → IsMembers m trails t y → IsMembers m trails t (after (node_step m) y e) → Each (IsMarkOf m (IsHad t)) y.entries
        → Each (IsMarkOf m (IsHad t)) (after (node_step m) y e).entries
    marks_after t y (Happens event) of next is =
        marks-step m (IsHad t) y event (λ due. (record { node = (step_of m y event).node; there = next.at; replica_is = refl }, due_holds t y (step_of m y event).node.replica of due)) is
    marks_after t y (Send a) of next is = is
    marks_after t y (Lost a) of next is = is
    marks_after t y (Polls count) of next is = is
    marks_after t y End of next is = is

    marks_at : (t : Recorded) → Among t trails → is_client t ≡ false → Each (IsMarkOf m (IsHad t)) (book_of m t)
    marks_at t there member =
        let o = g.over t there member in
        through m (MayArrive stated secret) (λ (y : Node S). Each (IsMarkOf m (IsHad t)) y.entries) (first_node m t) t.events (may_arrive m faulty trails secret view g t there)
        (first_unmarked m (IsHad t) t o.snapshot o.whole o.first)
        (λ y e at next may is. marks_after t y e (record { there = there; member = member; at = at }) (record { there = there; member = member; at = next }) is)
        (last_node m t) (last_there m faulty trails secret view g t there member).at

    -- a member's mark that came
    record Marker (k : Mark) : Type 0 where
      trail : Recorded
      there : Among trail trails
      member : is_client trail ≡ false
      marked : Among (Marked k) (book_of m trail)

    -- more than f marks that came have one of a correct member
    marker : (u : View) (place : ℕ) (found : List ℕ) (items : List (SignedBy Mark)) → is_view u ≡ true → FewFaulty u faulty → IsMarkCertificate secret u place found items
        → Each (λ (k : SignedBy Mark). Among (says.Marked k) stated) items → Marker (mark_of place found)
    marker u place found items viewed few cert drawn =
        let by = correct_marker secret u faulty place found items few.few cert in
        let said : by.item.statement ≡ mark_of place found = each_among (λ (k : SignedBy Mark). k.statement ≡ mark_of place found) items by.item cert.0.stated by.there in
        let came = each_among (λ (k : SignedBy Mark). Among (says.Marked k) stated) items by.item drawn by.there in
        let within : is_member u by.item.signer ≡ true = subst (λ (id : ℕ). is_member u id ≡ true) by.signed by.is.within in
        let correct : faulty by.item.signer ≡ false = ap faulty (sym by.signed) ∙ by.is.correct in
        let none : (by.item.signer == 0) ≡ false = some_member u by.item.signer viewed within in
        let shown =
        stated_shown faulty secret trails by.item.signer (says.Marked by.item) (λ (t : Recorded). book_of m t) correct (may_come m faulty trails secret view g)
        (λ t at same. all_rests m faulty trails secret view g t at (ap (λ (id : ℕ). id == 0) same ∙ none)) came refl in
        record { trail = shown.0; there = shown.1; member = ap (λ (id : ℕ). id == 0) shown.2 ∙ none; marked = subst (λ (k : Mark). Among (Marked k) (book_of m shown.0)) said shown.3 }

    -- so what is taken over in a view with few faulty is of a replica that such a member had
    taken_holds : (t : Recorded) (y n : Node S) (r : Replica S) (f : Fetch) → IsMembers m trails t y → HasTaken stated secret view y n → HasHad m t r → IsReady n f → are_all_there f ≡ true → IsTakenFrom m f r
        → is_of_group n r ≡ true → r.place ≡ j → ((u : View) → Among u y.replica.views → FewFaulty u faulty) → Q r
    taken_holds t y n r f of took had due all taken group at few =
        let planned : IsPlanned secret n.replica.views stated f.plan =
        subst (λ (k : List ℕ). IsPlanned k n.replica.views stated f.plan) took.shared (planned_by n.secret n.replica.views stated n.fetch f due.stands took.sound.fetch) in
        let u : View = planned.of_view.view in
        let there : Among u n.replica.views = (numbered_has n.replica.views f.plan.view u planned.of_view.is).there in
        let viewed : is_view u ≡ true = each_among (λ v. is_view v ≡ true) n.replica.views u took.sound.views.valid there in
        let known : Among u y.replica.views = subst (λ (x : Replica S). Among u x.views) took.replica_is there in
        let by : Marker (mark_of f.plan.place f.plan.digest) = marker u f.plan.place f.plan.digest f.plan.marks viewed (few u known) planned.certified planned.drawn in
        let mark = each_among (IsMarkOf m (IsHad by.trail)) (book_of m by.trail) (Marked (mark_of f.plan.place f.plan.digest)) (marks_at by.trail by.there by.member) by.marked in
        let s : Replica S = mark.0 in
        let place : s.place ≡ f.plan.place = ap (λ (k : Mark). k.place) (sym mark.1) in
        let found : digest (snapshot_text m s) ≡ f.plan.digest = ap (λ (k : Mark). k.digest) (sym mark.1) in
        let text : joined_of f ≡ snapshot_text m r = ((settles-bytes m g.brief n took.parts).each f r due all taken).text in
        let digests : digest (snapshot_text m s) ≡ digest (snapshot_text m r) = found ∙ (sym taken.digest_is ∙ ap digest text) in
        let marked : HasMarked m by.trail s = record { had = mark.2.0; marked = subst (λ (k : Mark). Among (Marked k) (book_of m by.trail)) mark.1 by.marked } in
        let texts : snapshot_text m s ≡ snapshot_text m r = g.apart.snapshots by.trail t by.there of.there by.member of.member s r marked had digests in
        let on = group_views n r group in
        let begins : is_first_view view ≡ true =
        first_begins r.place view (took.sound.views.rest ++ on.rest) r.views (on.is ∙ ap (λ (vs : List View). vs ++ on.rest) took.sound.views.begins) (restored_follow m (joined_of f) r taken.read) in
        let one : s ≡ r = one_replica m g.brief s r (fits_had begins by.trail s by.there by.member mark.2.0) (fits_had begins t r of.there of.member had) texts in
        subst Q one (mark.2.1 (place ∙ (sym taken.place_is ∙ at)))

    moved_holds : (t : Recorded) (y n : Node S) (r : Replica S) → IsMembers m trails t y → HasTaken stated secret view y n → HasHad m t r → (y.replica.place ≡ j → Q y.replica) → Moves m n r → r.place ≡ j → Q r
    moved_holds t y n r of took had is (moves_none stays) at =
        let same : r ≡ y.replica = stays ∙ took.replica_is in
        subst Q (sym same) (is (ap (λ (x : Replica S). x.place) (sym same) ∙ at))
    moved_holds t y n r of took had is (moves_on batch waits goes) at = due_holds t y r of (batch, sym took.waits ∙ waits, goes ∙ ap (λ (x : Replica S). delivered m x batch) took.replica_is) at
    moved_holds t y n r of took had is (moves_to f due all taken group) at =
        let here = ap (λ (x : Replica S). x.place) took.replica_is in
        let later = due.later in
        let place = taken.place_is in
        let on : GoesOn (next_place y) y.replica.views r.views = subst (λ (x : Replica S). GoesOn (x.place + 1) x.views r.views) took.replica_is (group_views n r group) in
        by (going_on t y r of (omega (arith, here, later, place, at)) on)
      where
        by : Q r ⊎ ((u : View) → Among u y.replica.views → FewFaulty u faulty) → Q r
        by (inl holds) = holds
        by (inr few) = taken_holds t y n r f of took had due all taken group at few

    holds_after : (t : Recorded) (y : Node S) (e : TrailEvent) → IsMembers m trails t y → IsMembers m trails t (after (node_step m) y e) → MayArrive stated secret e → (y.replica.place ≡ j → Q y.replica)
        → (after (node_step m) y e).replica.place ≡ j → Q (after (node_step m) y e).replica
    holds_after t y (Happens event) of next may is at =
        moved_holds t y (takes_in y event).node (step_of m y event).node.replica of (has_taken m stated secret view t.opening.member y event (right_at m faulty trails secret view g t y of) may)
        (record { node = (step_of m y event).node; there = next.at; replica_is = refl }) is (moved-step m y event) at
    holds_after t y (Send a) of next may is at = is at
    holds_after t y (Lost a) of next may is at = is at
    holds_after t y (Polls count) of next may is at = is at
    holds_after t y End of next may is at = is at

    -- so it holds of each replica of the place
    pub holds_at : (t : Recorded) (x : Node S) → IsMembers m trails t x → x.replica.place ≡ j → Q x.replica
    holds_at t x of =
        through m (MayArrive stated secret) (λ (y : Node S). y.replica.place ≡ j → Q y.replica) (first_node m t) t.events (may_arrive m faulty trails secret view g t of.there)
        (λ at. let none : (first_node m t).replica.place ≡ 0 = ap (λ (r : Replica S). r.place) (first_is t of.there of.member) in absurd (omega (arith, none, at, some)))
        (λ y e at next may is. holds_after t y e (record { there = of.there; member = of.member; at = at }) (record { there = of.there; member = of.member; at = next }) may is) x of.at
