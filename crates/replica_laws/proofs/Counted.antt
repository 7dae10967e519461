-- A pass of a node takes as many places as it delivers batches, and delivers them there, behind a replica that it takes over if it does.
use Rattle.std.proofs.Common.{◌≡◌, ℕ, ◌+◌, ◌<◌, ◌++◌, Bool, List, [], ◌∷◌, length, refl, ap, ◌∙◌, arith, Option, Some, None, is_some, Result, Ok, Err, subst, sym, length-append, true, false, cond}
use Rattle.std.specs.List.{flat_map}
use Rattle.smart_statements.specs.Batches.{Batch}
use Rattle.smart_service.specs.Services.{Meaning}
use Rattle.smart_service.specs.declared.replica.Replica.{Replica}
use Rattle.node_rules.specs.declared.node.Delivery.{Delivery}
use Rattle.node_rules.specs.Nodes.{Node, next_place}
use Rattle.node_rules.specs.Rules.{begun_in, deliver_batch, delivers, delivery}
use Rattle.node_rules.specs.declared.node.Fired.{Fired}
use Rattle.node_rules.specs.Deliveries.{delivery_in, AtPlaces, Segment, segment_after}
use Rattle.node_rules.specs.Steps.{Taken, takes_in, rules, pass, passed, step_of}
use Rattle.node_rules.specs.declared.node.Why.{Why}
use Rattle.smart_statements.specs.declared.entry.NodeEvent.{NodeEvent}
use Rattle.node_rules.specs.Transfers.{installing, install_replica, is_of_group, spoil, install_by, install_fetch, told_install, install_told, installs}
use Rattle.state_transfer.specs.Fetches.{finished}
use Rattle.state_transfer.specs.declared.fetch.Fetch.{Fetch}
use Rattle.state_transfer.specs.declared.fetch.Spoiled.{Spoiled}
use Rattle.state_transfer.proofs.Joined.{finished_place}
use Rattle.node_laws.proofs.Installing.{IsReady, installing_is}
use Rattle.node_rules.specs.declared.node.Cause.{Cause}
use Rattle.node_rules.specs.declared.node.Fired.TheVariants as fires
use Rattle.smart_base.specs.Lists.{Each}
use Rattle.agreement_laws.proofs.Lists.{each_append}
use Rattle.std.proofs.lemmas.Grind.{flat_map-append}
use Rattle.replica_laws.proofs.Based.{IsNoBase, none_begun, told-behind}
use Rattle.replica_laws.proofs.Installs.{one-delivery, quiet-installs, takes-installs}
use Rattle.replica_laws.proofs.Segments.{segment_more, segment_goes_on, segment_begins}
use Rattle.replica_laws.proofs.Follows.{told-marked, told-passed, waits-takes_in}
use Rattle.replica_laws.proofs.Leaves.{leaves-mark}
use Rattle.node_rules.specs.Marks.{marking, marks_place, marked}
use Rattle.snapshot_form.specs.Snapshots.{snapshot_text}
use Rattle.replica_laws.proofs.Replying.{replica-passed, place-deliver_batch}
use Rattle.node_rules.proofs.Rulewise.{told_installed, by_delivery, by_mark}

-- A segment that counts up to a place: its deliveries are at the places behind the one at which it began, in order, up to that place.
pub record IsCounted (s : Segment) (place : ℕ) : Type 0 where
  pub count : s.began + length s.delivered ≡ place
  pub places : AtPlaces (s.began + 1) s.delivered

-- a batch that is delivered takes one
place-delivery : {S : Type 0} (m : Meaning S) (n : Node S) (batch : Option Batch) → (deliver_batch m n batch).replica.place ≡ n.replica.place + length (flat_map delivery_in (delivery m n batch))
unfolding deliver_batch delivery
place-delivery m n None = omega arith
place-delivery m n (Some batch) =
    subst (λ (ds : List Delivery). (deliver_batch m n (Some batch)).replica.place ≡ n.replica.place + length ds) (sym (one-delivery m n batch)) (place-deliver_batch m n (Some batch) refl)

-- the next
places-delivery : {S : Type 0} (m : Meaning S) (n : Node S) (batch : Option Batch) → AtPlaces (next_place n) (flat_map delivery_in (delivery m n batch))
unfolding delivery
places-delivery m n None = tt
places-delivery m n (Some batch) = subst (λ (ds : List Delivery). AtPlaces (next_place n) ds) (sym (one-delivery m n batch)) (refl, tt)

-- deliveries behind others
pub places-append : (place : ℕ) (ds es : List Delivery) → AtPlaces place ds → AtPlaces (place + length ds) es → AtPlaces place (ds ++ es)
places-append place [] es first later = subst (λ (k : ℕ). AtPlaces k es) (omega arith) later
places-append place (d ∷ ds) es first later = (first.0, places-append (place + 1) ds es first.1 (subst (λ (k : ℕ). AtPlaces k es) (omega arith) later))

-- a replica that has taken as many places more as batches were delivered, there
abbrev Took : {S : Type 0} → Node S → Node S → List Delivery → Type 0
Took n x ds = (x.replica.place ≡ n.replica.place + length ds) × AtPlaces (next_place n) ds

-- a delivery takes it
delivers-took : {S : Type 0} (m : Meaning S) (a x : Node S) → x.replica ≡ a.replica → Took a (delivers m x) (flat_map delivery_in (delivery m x x.waiting))
unfolding delivers
delivers-took {S = S} m a x same = (
  place-delivery m x x.waiting ∙ ap (λ (r : Replica S). r.place + length (flat_map delivery_in (delivery m x x.waiting))) same,
  subst (λ (r : Replica S). AtPlaces (r.place + 1) (flat_map delivery_in (delivery m x x.waiting))) same (places-delivery m x x.waiting),
)

-- and a mark takes none
took-marked : {S : Type 0} (m : Meaning S) (a d : Node S) (delivered : Bool) (told : List Fired) → Took a d (flat_map delivery_in told)
    → Took a (marks_place m delivered d) (flat_map delivery_in (told ++ marked m delivered d))
took-marked {S = S} m a d delivered told took =
    subst (λ (ds : List Delivery). Took a (marks_place m delivered d) ds) (sym (told-marked (snapshot_text m d.replica) told (marking delivered d)))
    (by_mark m (λ (x : Node S). Took a x (flat_map delivery_in told)) delivered d took
    (λ due. (ap (λ (r : Replica S). r.place) (leaves-mark m d).replica_is ∙ took.0, took.1)))

-- ---- a pass

-- what is delivered behind an installation
abbrev pub behind : {S : Type 0} → Meaning S → Node S → Cause → List Delivery
behind m n cause = flat_map delivery_in (pass (rules m) n cause []).1

-- it takes its places behind the replica of an installation
pass-took : {S : Type 0} (m : Meaning S) (n : Node S) (cause : Cause) → Took (installs m n) (pass (rules m) n cause []).0 (behind m n cause)
pass-took {S = S} m n cause =
    let i : Node S = installs m n in
    let told : List Fired = told_installed m n [] in
    let none : flat_map delivery_in told ≡ [] = quiet-installs m n in
    let start : Took i i (flat_map delivery_in told) = subst (λ (ds : List Delivery). Took i i ds) (sym none) (omega arith, tt) in
    let delivered : Took i (delivers m i) (flat_map delivery_in (told ++ delivery m i i.waiting)) =
    subst (λ (ds : List Delivery). Took i (delivers m i) ds)
    (sym (flat_map-append delivery_in told (delivery m i i.waiting) ∙ ap (λ (ds : List Delivery). ds ++ flat_map delivery_in (delivery m i i.waiting)) none)) (delivers-took m i i refl) in
    rw (replica-passed m n cause [], told-passed m n cause [])
    (by_delivery m (λ (x : Node S) (fired : List Fired). Took i x (flat_map delivery_in fired)) i cause told start
    (took-marked m i (delivers m i) (is_some i.waiting) (told ++ delivery m i i.waiting) delivered))

-- a segment goes on with deliveries behind its last place
goes_on : (s : Segment) (ds : List Delivery) (place later : ℕ) → IsCounted s place → later ≡ place + length ds → AtPlaces (place + 1) ds → IsCounted (segment_more s ds) later
goes_on s ds place later is at there =
    let count = is.count in
    let both = length-append s.delivered ds in
    record {
      count = omega (arith, count, at, both);
      places = places-append (s.began + 1) s.delivered ds is.places (subst (λ (k : ℕ). AtPlaces k ds) (omega (arith, count)) there);
    }

-- a pass that installs nothing
same-passed : {S : Type 0} (m : Meaning S) (n : Node S) (cause : Cause) (s : Segment) → IsCounted s n.replica.place → (installs m n).replica ≡ n.replica
    → Each IsNoBase (pass (rules m) n cause []).1 → IsCounted (segment_after s (pass (rules m) n cause []).1) (pass (rules m) n cause []).0.replica.place
same-passed {S = S} m n cause s is same none =
    let took = pass-took m n cause in
    let place : (installs m n).replica.place ≡ n.replica.place = ap (λ (r : Replica S). r.place) same in
    let later = took.0 in
    subst (λ (x : Segment). IsCounted x (pass (rules m) n cause []).0.replica.place) (sym (segment_goes_on s (pass (rules m) n cause []).1 none))
    (goes_on s (behind m n cause) n.replica.place (pass (rules m) n cause []).0.replica.place is (omega (arith, later, place))
    (subst (λ (k : ℕ). AtPlaces (k + 1) (behind m n cause)) place took.1))

no_delivery : {S : Type 0} (m : Meaning S) (n : Node S) → delivery m n None ≡ []
unfolding delivery
no_delivery m n = refl

-- a node at which no batch waits delivers none
pub none-delivered : {S : Type 0} (m : Meaning S) (n : Node S) (cause : Cause) → (installs m n).waiting ≡ None → behind m n cause ≡ []
none-delivered {S = S} m n cause free =
    let i : Node S = installs m n in
    let told : List Fired = told_installed m n [] in
    let none : flat_map delivery_in told ≡ [] = quiet-installs m n in
    let nothing : delivery m i i.waiting ≡ [] = ap (λ (w : Option Batch). delivery m i w) free ∙ no_delivery m i in
    let flat : flat_map delivery_in (told ++ delivery m i i.waiting) ≡ [] =
    flat_map-append delivery_in told (delivery m i i.waiting)
    ∙ (ap (λ (ds : List Delivery). ds ++ flat_map delivery_in (delivery m i i.waiting)) none ∙ ap (λ (fs : List Fired). flat_map delivery_in fs) nothing) in
    told-passed m n cause []
    ∙ by_delivery m (λ (x : Node S) (fired : List Fired). flat_map delivery_in fired ≡ []) i cause told none
    (told-marked (snapshot_text m (delivers m i).replica) (told ++ delivery m i i.waiting) (marking (is_some i.waiting) (delivers m i)) ∙ flat)

-- a pass that installs begins a segment at the installed place
begun-passed : {S : Type 0} (m : Meaning S) (n : Node S) (cause : Cause) (s : Segment) (place : ℕ) (rest : List Fired) → (installs m n).replica.place ≡ place → (installs m n).waiting ≡ None
    → (pass (rules m) n cause []).1 ≡ fires.Installed place ∷ rest → Each IsNoBase rest
    → IsCounted (segment_after s (pass (rules m) n cause []).1) (pass (rules m) n cause []).0.replica.place
begun-passed {S = S} m n cause s place rest at free told none =
    let empty : behind m n cause ≡ [] = none-delivered m n cause free in
    let quiet : flat_map delivery_in rest ≡ [] = sym (ap (λ (fs : List Fired). flat_map delivery_in fs) told) ∙ empty in
    let took = pass-took m n cause in
    let later = took.0 in
    let flat = ap (λ (ds : List Delivery). length ds) empty in
    subst (λ (x : Segment). IsCounted x (pass (rules m) n cause []).0.replica.place)
    (sym (ap (λ (fs : List Fired). segment_after s fs) told ∙ segment_begins s place rest none quiet))
    (record { count = omega (arith, at, later, flat); places = tt })

-- ---- a step

-- what a pass makes of an installation that is due: none, parts that make no replica of the group, or a replica of the plan's place
pub data Made {S : Type 0} (m : Meaning S) (n : Node S) : Type 0 where
  made_none : (installs m n).replica ≡ n.replica → Each IsNoBase (told_installed m n []) → Made m n
  made_new : (place : ℕ) → (installs m n).replica.place ≡ place → n.replica.place < place → n.waiting ≡ None
      → (more : List Fired) → told_installed m n [] ≡ fires.Installed place ∷ more → Each IsNoBase more → Made m n

spoils_none : {S : Type 0} (m : Meaning S) (n : Node S) (f : Fetch) → installs m n ≡ spoil n f → told_installed m n [] ≡ fires.Spoiled ∷ [] → Made m n
unfolding spoil
spoils_none {S = S} m n f is told = made_none (ap (λ (x : Node S). x.replica) is) (subst (λ (fs : List Fired). Each IsNoBase fs) (sym told) (refl, tt))

replica_new : {S : Type 0} (m : Meaning S) (n : Node S) (f : Fetch) (r : Replica S) → installs m n ≡ install_replica n f r
    → told_installed m n [] ≡ fires.Installed f.plan.place ∷ begun_in n.replica r
    → r.place ≡ f.plan.place → IsReady n f → Made m n
unfolding install_replica
replica_new {S = S} m n f r is told at due = made_new f.plan.place (ap (λ (x : Node S). x.replica.place) is ∙ at) due.later due.free (begun_in n.replica r) told (none_begun n.replica r)

made_group : {S : Type 0} (m : Meaning S) (n : Node S) (f : Fetch) (r : Replica S) (t : Bool) → is_of_group n r ≡ t → installing n ≡ Some f → finished m f ≡ Ok r
    → installs m n ≡ cond t (install_replica n f r) (spoil n f) → told_installed m n [] ≡ cond t (fires.Installed f.plan.place ∷ begun_in n.replica r) (fires.Spoiled ∷ [])
    → Made m n
made_group m n f r true of due said is told = replica_new m n f r is told (finished_place m f r said) (installing_is n f due)
made_group m n f r false of due said is told = spoils_none m n f is told

made_by : {S : Type 0} (m : Meaning S) (n : Node S) (f : Fetch) (made : Result (Replica S) Spoiled) → finished m f ≡ made → installing n ≡ Some f → installs m n ≡ install_by n f made
    → told_installed m n [] ≡ told_install n f made → Made m n
made_by m n f (Err why) said due is told = spoils_none m n f is told
made_by m n f (Ok r) said due is told = made_group m n f r (is_of_group n r) refl due said is told

made_due : {S : Type 0} (m : Meaning S) (n : Node S) (due : Option Fetch) → installing n ≡ due → Made m n
unfolding installs install_fetch install_told
made_due {S = S} m n None is =
    made_none (ap (λ (o : Option Fetch). (install_fetch m n o).replica) is)
    (subst (λ (o : Option Fetch). Each IsNoBase (install_told m n o)) (sym is) tt)
made_due m n (Some f) is =
    made_by m n f (finished m f) refl is (ap (λ (o : Option Fetch). install_fetch m n o) is) (ap (λ (o : Option Fetch). install_told m n o) is)

pub made_of : {S : Type 0} (m : Meaning S) (n : Node S) → Made m n
made_of m n = made_due m n (installing n) refl

-- so a segment that counts up to a node's place counts up to it behind a pass
counted-made : {S : Type 0} (m : Meaning S) (n : Node S) (cause : Cause) (s : Segment) → Made m n → IsCounted s n.replica.place
    → IsCounted (segment_after s (pass (rules m) n cause []).1) (pass (rules m) n cause []).0.replica.place
counted-made m n cause s (made_none same none) is =
    let b = told-behind m n cause in
    same-passed m n cause s is same (subst (λ (fs : List Fired). Each IsNoBase fs) (sym b.is) (each_append IsNoBase (told_installed m n []) b.rest none b.none))
counted-made m n cause s (made_new place at later free more told none) is =
    let b = told-behind m n cause in
    begun-passed m n cause s place (more ++ b.rest) at ((takes-installs m n).waits ∙ free) (b.is ∙ ap (λ (fs : List Fired). fs ++ b.rest) told) (each_append IsNoBase more b.rest none b.none)

pub counted-passed : {S : Type 0} (m : Meaning S) (n : Node S) (cause : Cause) (s : Segment) → IsCounted s n.replica.place
    → IsCounted (segment_after s (pass (rules m) n cause []).1) (pass (rules m) n cause []).0.replica.place
counted-passed m n cause s is = counted-made m n cause s (made_of m n) is

-- and behind a step
counted-taken : {S : Type 0} (m : Meaning S) (t : Taken S) (why : Option Why) (s : Segment) → IsCounted s t.node.replica.place
    → IsCounted (segment_after s (passed m t why).fired) (passed m t why).node.replica.place
unfolding segment_after
counted-taken m t None s is = counted-passed m t.node t.cause s is
counted-taken m t (Some why) s is = is

pub counted-step : {S : Type 0} (m : Meaning S) (n : Node S) (event : NodeEvent) (s : Segment) → IsCounted s n.replica.place
    → IsCounted (segment_after s (step_of m n event).fired) (step_of m n event).node.replica.place
unfolding step_of
counted-step {S = S} m n event s is =
    let t : Taken S = takes_in n event in
    counted-taken m t t.dropped s (subst (λ (r : Replica S). IsCounted s r.place) (sym (waits-takes_in n event).replica_is) is)
