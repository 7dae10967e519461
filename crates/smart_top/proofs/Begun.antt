-- A member of a group begins as an audit of its trail does.
use Rattle.std.proofs.Common.{◌≡◌, ◌∙◌, ℕ, suc, ◌==◌, Bool, true, false, cond, List, [], ◌∷◌, Option, Some, None, refl, ap, sym, subst}
use Rattle.smart_base.specs.Lists.{Each, same_bytes}
use Rattle.smart_base.specs.Views.{View, is_view}
use Rattle.smart_service.specs.declared.replica.Replica.{Replica}
use Rattle.app_count.specs.Counts.{IsSum, counting}
use Rattle.app_count.specs.Sums.{first_sum, one_snapshot, restored_sum, short_snapshot, valid_sum}
use Rattle.app_count.specs.declared.Count.{Count}
use Rattle.vote_book.specs.Entries.{entry_text}
use Rattle.vote_book.specs.declared.entry.LogEntry.TheVariants.{Opened}
use Rattle.vote_book.proofs.Tested.{same_bytes_is, same_bytes_self}
use Rattle.replica_rules.specs.Replicas.{empty}
use Rattle.snapshot_form.specs.Replicas.{is_first_view}
use Rattle.snapshot_form.specs.Snapshots.{restored, snapshot_text}
use Rattle.snapshot_form.proofs.Executed.{fits_empty}
use Rattle.snapshot_form.proofs.Spelled.{read_again}
use Rattle.node_rules.specs.Reopening.{damage_of, damaged_behind}
use Rattle.node_rules.specs.declared.node.Parts.{Parts}
use Rattle.store_laws.specs.declared.job.Kept.{Kept}
use Rattle.trail.specs.declared.opening.TrailOpening.{TrailOpening}
use Rattle.member_opening.specs.Headings.{head_by, snapshot_by}
use Rattle.member_opening.specs.Restorings.{begin_otherwise, fault_with, opening_by, parts_in, snapshot_in, store_fault}
use Rattle.member_opening.specs.declared.settings.Settings.{Settings}
use Rattle.audit_rules.specs.Audits.{CanBegin, damage_by, is_client}
use Rattle.audit_rules.specs.declared.recorded.Recorded.{Recorded}
use Rattle.group_run.specs.Parties.{AreOver, ClientOver, MemberOver}
use Rattle.group_opening.specs.Runs.{GroupRun, member_settings}
use Rattle.group_opening.specs.declared.settings.GroupSettings.{GroupSettings}

-- ---- what its store restored

no-damage : (damage : Option ℕ) (other : Bool) → fault_with damage other ≡ None → damage ≡ None
no-damage None other is = refl
no-damage (Some entry) false is = is
no-damage (Some entry) true is = absurd (cc)

undamaged : (s : Settings) (parts : Parts) → store_fault counting s parts ≡ None → damage_of counting s.secret s.view parts ≡ None
unfolding store_fault
undamaged s parts none = no-damage (damage_of counting s.secret s.view parts) (begin_otherwise parts.entries (entry_text (Opened (opening_by s)))) none

-- ---- what its trail tells of that

empty_again : (view : View) → is_view view ≡ true → is_first_view view ≡ true → restored counting (snapshot_text counting (empty counting view)) ≡ Some (empty counting view)
empty_again view viewed begins = read_again counting IsSum restored_sum short_snapshot valid_sum one_snapshot (empty counting view) (fits_empty counting IsSum view first_sum viewed begins)

module _ (secret : List ℕ) (view : View) (viewed : is_view view ≡ true) (begins : is_first_view view ≡ true) (entries : List (List ℕ)) where
  abbrev begun : List ℕ
  begun = snapshot_text counting (empty counting view)

  abbrev Sound : Option (List ℕ) → Type 0
  Sound snapshot = damage_of counting secret view (record { snapshot = snapshot; entries = entries }) ≡ None

  -- entries that are sound behind a checkpoint of the empty replica are so without one
  sound_first : Sound (Some begun) → Sound None
  unfolding damage_of
  sound_first none = ap (λ (r : Option (Replica Count)). damaged_behind secret entries r) (sym (empty_again view viewed begins)) ∙ none

  kept-by : (x : List ℕ) (same : Bool) → same_bytes x begun ≡ same → Sound (Some x) → Sound (cond same None (Some x))
  kept-by x true is none = sound_first (subst (λ (y : List ℕ). Sound (Some y)) (same_bytes_is x begun is) none)
  kept-by x false is none = none

  told-by : (kept : Option (List ℕ)) → Sound kept → Sound (cond (same_bytes (snapshot_by counting view kept) begun) None (Some (snapshot_by counting view kept)))
  told-by None none = subst (λ (same : Bool). Sound (cond same None (Some begun))) (sym (same_bytes_self begun)) none
  told-by (Some x) none = kept-by x (same_bytes x begun) refl none

-- a trail with this opening and these entries has no damage
abbrev Begins : Recorded → TrailOpening → List (List ℕ) → Type 0
Begins t opening entries = damage_by (record t { opening = opening; entries = entries }) opening.app ≡ None

head_begins : (t : Recorded) (s : GroupSettings) (member : ℕ) (kept : Kept) → is_view s.view ≡ true → is_first_view s.view ≡ true → store_fault counting (member_settings s member) (parts_in kept) ≡ None
    → Begins t (head_by counting (member_settings s member) (parts_in kept)) kept.entries
head_begins t s member kept viewed begins whole = told-by s.secret s.view viewed begins kept.entries (snapshot_in kept.present) (undamaged (member_settings s member) (parts_in kept) whole)

-- ---- the members and the client of a group

module _ (r : GroupRun Count) (meaning_is : r.meaning ≡ counting) (viewed : is_view r.settings.view ≡ true) (begins : is_first_view r.settings.view ≡ true) where
  member_begins : (ended : Bool) (member : ℕ) (t : Recorded) → MemberOver r ended member t → CanBegin t
  member_begins ended member t over = λ not-client.
      let s : Settings = member_settings r.settings member in
      let whole : store_fault counting s (parts_in over.kept) ≡ None = subst (λ m. store_fault m s (parts_in over.kept) ≡ None) meaning_is over.whole in
      let opening : t.opening ≡ head_by counting s (parts_in over.kept) = over.opening.0 ∙ ap (λ m. head_by m s (parts_in over.kept)) meaning_is in
      subst (λ (o : TrailOpening). Begins t o t.entries) (sym opening)
      (subst (λ (entries : List (List ℕ)). Begins t (head_by counting s (parts_in over.kept)) entries) (sym over.opening.1) (head_begins t r.settings member over.kept viewed begins whole))

  all_begin : (ended : Bool) (first : ℕ) (members : List Recorded) → AreOver r ended first members → Each CanBegin members
  all_begin ended first [] over = tt
  all_begin ended first (t ∷ members) over = (member_begins ended first t over.0, all_begin ended (suc first) members over.1)

  client_begins : (ended : Bool) (t : Recorded) → ClientOver r ended t → CanBegin t
  client_begins ended t over = λ not-client.
      let client : is_client t ≡ true = ap (λ (o : TrailOpening). o.member == 0) over.opening.0 in
      absurd (cc)

  pub begin_all : (ended : Bool) (client : Recorded) (members : List Recorded) → ClientOver r ended client → AreOver r ended 1 members → Each CanBegin (client ∷ members)
  begin_all ended client members asked each = (client_begins ended client asked, all_begin ended 1 members each)
