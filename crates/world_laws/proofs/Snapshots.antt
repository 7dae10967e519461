-- The snapshots that nodes take are of states of the list. Such a snapshot states its place first, is short, and is read as that state.
use Rattle.std.proofs.Common.{◌≡◌, ℕ, ◌+◌, ◌^◌, ◌<◌, ◌≤◌, ◌++◌, ◌∙◌, true, List, length, take, Some, refl, ap, sym, subst, arith}
use Rattle.std.proofs.lemmas.List.{length-take-le}
use Rattle.std.specs.Int.{w32}
use Rattle.smart_base.specs.Cuts.{IsBytes, Read}
use Rattle.smart_base.specs.Lists.{Each}
use Rattle.smart_base.specs.Spelling.{u64, behind}
use Rattle.smart_base.specs.ViewBytes.{view_text}
use Rattle.smart_base.specs.Views.{View, is_view}
use Rattle.smart_statements.specs.Batches.{Batch}
use Rattle.smart_service.specs.Services.{Meaning}
use Rattle.smart_service.specs.declared.replica.Replica.{Replica}
use Rattle.replica_rules.specs.Replicas.{empty, state}
use Rattle.replica_rules.proofs.Places.{state_place}
use Rattle.snapshot_form.specs.Replicas.{FitsReplica, IsOfClients, is_first_view}
use Rattle.snapshot_form.specs.Snapshots as snapshots
use Rattle.snapshot_form.specs.Snapshots.{snapshot_text, counted, line_text}
use Rattle.snapshot_form.proofs.Parts.{place_law}
use Rattle.snapshot_form.proofs.Spelled.{read_again}
use Rattle.snapshot_form.proofs.Executed.{fits_empty, fits_after}
use Rattle.snapshot_form.proofs.Lengths.{short_snapshot}
use Rattle.node_rules.specs.Reopening.{replica_from}
use Rattle.world_rules.specs.Fronts.{place_or_none, stated_place}
use Rattle.world_laws.proofs.Fronts.{front-take, front-length}
use Rattle.agreement_laws.proofs.Lists.{each_take}

-- ---- the place that a snapshot states

pub states_place : {S : Type 0} (m : Meaning S) (r : Replica S) → r.place < 2 ^ 63 → stated_place (snapshot_text m r) ≡ r.place
unfolding stated_place snapshot_text
states_place m r low =
    let rest : List ℕ = counted view_text r.views ++ (counted line_text r.table ++ behind w32 (m.snapshot r.service)) in
    ap (λ (x : Read ℕ). place_or_none x)
    (place_law.again (record { at = 0; left = snapshot_text m r }) r.place (record { at = 0 + length (u64 r.place); left = rest }) low (record { left = refl; at = refl }))

-- ---- a service whose states are read again

-- The state of each list of batches has a snapshot that is short and is read as that state.
pub record IsRestorable {S : Type 0} (m : Meaning S) : Type 0 where
  pub read : (view : View) (list : List Batch) → is_view view ≡ true → is_first_view view ≡ true → length list < 2 ^ 63 → Each IsOfClients list
      → snapshots.restored m (snapshot_text m (state m view list)) ≡ Some (state m view list)
  pub short : (view : View) (list : List Batch) → is_view view ≡ true → is_first_view view ≡ true → length list < 2 ^ 63 → Each IsOfClients list
      → length (snapshot_text m (state m view list)) ≤ 16777216

-- each service has such states
pub restorable_where : {S : Type 0} (m : Meaning S) (valid : S → Type 0) → valid m.first → ((s : S) (op : List ℕ) → valid s → valid (m.next s op))
    → ((s : S) (op : List ℕ) → valid s → length (m.reply s op) ≤ 4096) → ((s : S) → valid s → m.restore (m.snapshot s) ≡ Some s) → ((s : S) → valid s → length (m.snapshot s) ≤ 12000000)
    → ((s : S) (bytes : List ℕ) → IsBytes bytes → m.restore bytes ≡ Some s → valid s) → ((s : S) (bytes : List ℕ) → IsBytes bytes → m.restore bytes ≡ Some s → bytes ≡ m.snapshot s)
    → IsRestorable m
restorable_where m valid first next brief restores small back spelled = record {
  read = λ view list is begins few of. read_again m valid restores small back spelled (state m view list) (fits view list is begins few of);
  short = λ view list is begins few of. short_snapshot m valid small (state m view list) (fits view list is begins few of);
}
  where
    fits : (view : View) (list : List Batch) → is_view view ≡ true → is_first_view view ≡ true → length list < 2 ^ 63 → Each IsOfClients list → FitsReplica valid (state m view list)
    fits view list is begins few of = fits_after m valid next brief (empty m view) list (fits_empty m valid view first is begins) (omega (arith, few)) of

-- ---- snapshots of the list

-- a snapshot of the state after so many batches of a list, of one at least
pub record IsSnapshotAt {S : Type 0} (m : Meaning S) (view : View) (chosen : List Batch) (bytes : List ℕ) : Type 0 where
  pub place : ℕ
  pub some : 0 < place
  pub within : place ≤ length chosen
  pub bytes_is : bytes ≡ snapshot_text m (state m view (take place chosen))

-- it stays one where the list grows
pub snapshot_longer : {S : Type 0} (m : Meaning S) (view : View) (chosen more : List Batch) → take (length chosen) more ≡ chosen → (bytes : List ℕ) → IsSnapshotAt m view chosen bytes → IsSnapshotAt m view more bytes
snapshot_longer m view chosen more front bytes is =
    let long = front-length chosen more front in
    let within = is.within in
    record {
      place = is.place;
      some = is.some;
      within = omega (arith, within, long);
      bytes_is = is.bytes_is ∙ ap (λ (bs : List Batch). snapshot_text m (state m view bs)) (front-take chosen more is.place front is.within);
    }

pub longer_place : {S : Type 0} (m : Meaning S) (view : View) (chosen more : List Batch) (front : take (length chosen) more ≡ chosen) (bytes : List ℕ) (is : IsSnapshotAt m view chosen bytes)
    → (snapshot_longer m view chosen more front bytes is).place ≡ is.place
unfolding snapshot_longer
longer_place m view chosen more front bytes is = refl

-- it states its place
pub snapshot_place : {S : Type 0} (m : Meaning S) (view : View) (chosen : List Batch) (bytes : List ℕ) → length chosen < 2 ^ 63 → (is : IsSnapshotAt m view chosen bytes) → stated_place bytes ≡ is.place
snapshot_place m view chosen bytes few is =
    let at : (state m view (take is.place chosen)).place ≡ is.place = state_place m view (take is.place chosen) ∙ length-take-le is.place chosen is.within in
    let within = is.within in
    ap stated_place is.bytes_is ∙ (states_place m (state m view (take is.place chosen)) (omega (arith, at, within, few)) ∙ at)

-- and a restart from it begins with the state after the batches up to that place
pub snapshot_replica : {S : Type 0} (m : Meaning S) → IsRestorable m → (view : View) (chosen : List Batch) (bytes : List ℕ) → is_view view ≡ true → is_first_view view ≡ true → length chosen < 2 ^ 63 → Each IsOfClients chosen
    → (is : IsSnapshotAt m view chosen bytes) → replica_from m view (Some bytes) ≡ Some (state m view (take is.place chosen))
snapshot_replica m restorable view chosen bytes viewed begins few of is =
    let long = length-take-le is.place chosen is.within in
    let within = is.within in
    ap (λ (b : List ℕ). snapshots.restored m b) is.bytes_is
    ∙ restorable.read view (take is.place chosen) viewed begins (omega (arith, long, within, few)) (each_take IsOfClients is.place chosen of)

pub snapshot_short : {S : Type 0} (m : Meaning S) → IsRestorable m → (view : View) (chosen : List Batch) (bytes : List ℕ) → is_view view ≡ true → is_first_view view ≡ true → length chosen < 2 ^ 63 → Each IsOfClients chosen
    → IsSnapshotAt m view chosen bytes → length bytes ≤ 16777216
snapshot_short m restorable view chosen bytes viewed begins few of is =
    let long = length-take-le is.place chosen is.within in
    let within = is.within in
    subst (λ (b : List ℕ). length b ≤ 16777216) (sym is.bytes_is)
    (restorable.short view (take is.place chosen) viewed begins (omega (arith, long, within, few)) (each_take IsOfClients is.place chosen of))

-- what restarts over snapshots of a list rest on
pub record AreRestorable {S : Type 0} (m : Meaning S) (view : View) (chosen : List Batch) : Type 0 where
  pub service : IsRestorable m
  pub viewed : is_view view ≡ true
  pub begins : is_first_view view ≡ true
  pub low : length chosen < 2 ^ 63
  pub of : Each IsOfClients chosen
