-- A member over what its store restored, and over the bytes of the devices that it was opened on.
use Rattle.std.proofs.Common.{◌≡◌, ◌∙◌, ◌+◌, ◌<◌, ◌≤◌, ℕ, Bool, false, List, length, Option, None, Some, Result, Ok, Err, IfOk, IfErr, OnOk, is_err, arith, sym, ap, subst}
use Rattle.std.proofs.lemmas.Bool.{false≢true}
use Rattle.smart_base.specs.Lists.{same_bytes}
use Rattle.disk_model.specs.Cells.{Cells}
use Rattle.smart_service.specs.Services.{Meaning}
use Rattle.snapshot_form.specs.Snapshots.{snapshot_text}
use Rattle.replica_rules.specs.Replicas.{empty}
use Rattle.vote_book.proofs.Tested.{same_bytes_self}
use Rattle.durable_store.specs.Disks.{AreSame, contents}
use Rattle.durable_store.specs.declared.disks.Disks.{Disks}
use Rattle.store_laws.specs.Restored.{Images, restores}
use Rattle.store_laws.specs.States.{store_opened}
use Rattle.store_laws.specs.declared.job.Kept.{Kept}
use Rattle.node_rules.specs.declared.node.Parts.{Parts}
use Rattle.member_opening.specs.Headings.{head_by}
use Rattle.member_opening.specs.Restorings.{node_by, parts_in, store_fault, KeepsCounts}
use Rattle.member_opening.specs.declared.settings.Settings.{Settings}
use Rattle.member_opening.specs.Opened.{IsOpened, OpensWith}
use Rattle.group_opening.specs.Berths.{IsBerth, IsRefusedBy}
use Rattle.group_opening.specs.declared.berth.Berth.{Berth}

-- bytes that were found to be others
pub other-bytes : (bytes text : List ℕ) (same : Bool) → same ≡ same_bytes bytes text → same ≡ false → bytes ≡ text → ⊥
other-bytes bytes text same is differs alike = false≢true (sym differs ∙ is ∙ ap (same_bytes bytes) (sym alike) ∙ same_bytes_self bytes)

-- a snapshot that was found to be another than this text
pub not-empty : (snapshot : Option (List ℕ)) (bytes one other first text : List ℕ) (same : Bool) → snapshot ≡ Some bytes → one ≡ bytes → other ≡ first → first ≡ text → same ≡ same_bytes one other → same ≡ false → snapshot ≡ Some text → ⊥
not-empty snapshot bytes one other first text same is read told named tested differs alike =
    let equal : bytes ≡ text = cc (is, alike) in
    other-bytes one other same tested differs (read ∙ equal ∙ sym named ∙ sym told)

module _ {S D : Type 0} (m : Meaning S) (told : Type 0) (cells : D → Cells) where
  -- by the parts that the store gives
  pub berth-by : (images : Images) (s : Settings) (kept : Kept) (parts : Parts) (b : Berth S D) → parts ≡ parts_in kept → (told → kept ≡ restores images) → OpensWith told cells images kept b.store
      → IsOpened told cells b.store → b.store.plan.restored ≡ length kept.entries → b.settings ≡ s → store_fault m s parts ≡ None
      → (parts.snapshot ≡ Some (snapshot_text m (empty m s.view)) → ⊥) → b.entries ≡ parts.entries → b.core.node ≡ node_by m s parts → b.core.broken ≡ false
      → KeepsCounts (length parts.entries) b.core.node → b.head ≡ head_by m s parts → IsBerth m told cells images s b
  berth-by images s kept parts b are restored opens opened many settings whole other entries node unbroken counts head = record {
    settings_are = settings;
    kept = kept;
    restored = restored;
    whole = subst (λ (p : Parts). store_fault m s p ≡ None) are whole;
    other = subst (λ (p : Parts). p.snapshot ≡ Some (snapshot_text m (empty m s.view)) → ⊥) are other;
    entries_are = entries ∙ ap (λ (p : Parts). p.entries) are;
    node = node ∙ ap (node_by m s) are;
    unbroken = unbroken;
    counts = subst (λ (p : Parts). KeepsCounts (length p.entries) b.core.node) are counts;
    head_is = head ∙ ap (head_by m s) are;
    restored_are = many;
    opened = opened;
    opens = opens;
  }

  opens-along : (old new : Images) (kept : Kept) (b : Berth S D) → (told → old ≡ new) → OpensWith told cells old kept b.store → OpensWith told cells new kept b.store
  opens-along old new kept b same o = record {
    firm = o.firm;
    generation = o.generation;
    waiting = o.waiting;
    is_open = o.is_open;
    state = λ (t : told). o.state t ∙ ap store_opened (same t);
    stands = o.stands;
  }

  -- over the same bytes, if disks tell them
  pub berth-along : (old new : Images) (s : Settings) (b : Berth S D) → (told → old ≡ new) → IsBerth m told cells old s b → IsBerth m told cells new s b
  berth-along old new s b same is = record {
    settings_are = is.settings_are;
    kept = is.kept;
    restored = λ (t : told). is.restored t ∙ ap restores (same t);
    whole = is.whole;
    other = is.other;
    entries_are = is.entries_are;
    node = is.node;
    unbroken = is.unbroken;
    counts = is.counts;
    head_is = is.head_is;
    restored_are = is.restored_are;
    opened = is.opened;
    opens = opens-along old new is.kept b same is.opens;
  }

module _ {S : Type 0} (m : Meaning S) (told : Type 0) where
  pub refused-by : (images : Images) (s : Settings) (kept : Kept) (entry : ℕ) → (told → kept ≡ restores images) → store_fault m s (parts_in kept) ≡ Some entry → IsRefusedBy m told images s entry
  refused-by images s kept entry restored fault = record { kept = kept; restored = restored; fault = fault }

  pub refused-along : (old new : Images) (s : Settings) (entry : ℕ) → (told → old ≡ new) → IsRefusedBy m told old s entry → IsRefusedBy m told new s entry
  refused-along old new s entry same is = record { kept = is.kept; restored = λ (t : told). is.restored t ∙ ap restores (same t); fault = is.fault }

-- ---- devices that hold what they held

bytes-of : Cells → Cells → Cells → Cells → Images
bytes-of a b c d = record { even_log = a.now; odd_log = b.now; even_slot = c.now; odd_slot = d.now }

pub same-contents : {D : Type 0} (cells : D → Cells) (old new : Disks D) → AreSame cells old new → contents cells new ≡ contents cells old
unfolding bytes-of
same-contents cells old new same =
    ap (λ (x : Cells). bytes-of x (cells new.odd_log) (cells new.even_slot) (cells new.odd_slot)) same.even_log
    ∙ ap (λ (x : Cells). bytes-of (cells old.even_log) x (cells new.even_slot) (cells new.odd_slot)) same.odd_log
    ∙ ap (λ (x : Cells). bytes-of (cells old.even_log) (cells old.odd_log) x (cells new.odd_slot)) same.even_slot
    ∙ ap (λ (x : Cells). bytes-of (cells old.even_log) (cells old.odd_log) (cells old.even_slot) x) same.odd_slot

-- ---- what an answer says

pub if-err : {A E : Type 0} (P Q : E → Type 0) (r : Result A E) → ((e : E) → P e → Q e) → IfErr r P → IfErr r Q
if-err P Q (Ok x) more was = tt
if-err P Q (Err e) more was = more e was

pub if-ok : {A E : Type 0} (P Q : A → Type 0) (r : Result A E) → ((x : A) → P x → Q x) → IfOk r P → IfOk r Q
if-ok P Q (Ok x) more was = more x was
if-ok P Q (Err e) more was = tt

-- a call that was found not to fail
pub ok-of : {A E : Type 0} (P : Type 0) (r : Result A E) (failed : Bool) → failed ≡ is_err r → failed ≡ false → OnOk r P → P
ok-of P (Ok x) failed told fine is = is
ok-of P (Err e) failed told fine is = absurd (false≢true (sym fine ∙ told))

-- ---- numbers

pub room-for : (len more cap : ℕ) → len + (more + 1) ≤ cap → len < cap
room-for len more cap room = omega (arith, room)

pub room-left : (len more cap : ℕ) → len + more ≤ cap → more ≤ cap
room-left len more cap room = omega (arith, room)

pub below-all : (i members len index : ℕ) → i < members → len ≡ members → len ≤ index → i < index
below-all i members len index within many all = omega (arith, within, many, all)

pub at-least-itself : (n : ℕ) → n ≤ n
at-least-itself n = omega arith
