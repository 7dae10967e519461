-- A member whose store is opened begins as an audit of its trail does.
use Rattle.std.proofs.Common.{◌≡◌, ◌∙◌, ℕ, Bool, true, false, List, Option, Some, None, refl}
use Rattle.smart_service.specs.Services.{Meaning}
use Rattle.snapshot_form.specs.Snapshots.{snapshot_text}
use Rattle.replica_rules.specs.Replicas.{empty}
use Rattle.vote_book.specs.Entries.{entry_text}
use Rattle.vote_book.specs.declared.entry.LogEntry.TheVariants.{Opened}
use Rattle.node_rules.specs.Reopening.{damage_of}
use Rattle.node_rules.specs.declared.node.Parts.{Parts}
use Rattle.app_count.specs.Counts.{counting}
use Rattle.trail.specs.declared.event.TrailEvent.{TrailEvent}
use Rattle.member_opening.specs.Restorings.{begin_otherwise, fault_with, opening_by, store_fault}
use Rattle.member_opening.specs.declared.settings.Settings.{Settings}
use Rattle.audit_rules.specs.Audits.{CanBegin}
use Rattle.audit_laws.specs.Heads.{trail_by}
use Rattle.audit_laws.proofs.Headed.{damage-is}
use Rattle.group_opening.specs.Runs.{member_settings}
use Rattle.group_opening.specs.declared.settings.GroupSettings.{GroupSettings}

no-damage : (damage : Option ℕ) (other : Bool) → fault_with damage other ≡ None → damage ≡ None
no-damage None other is = refl
no-damage (Some entry) false is = is
no-damage (Some entry) true is = cc

undamaged : {S : Type 0} (m : Meaning S) (s : Settings) (parts : Parts) → store_fault m s parts ≡ None → damage_of m s.secret s.view parts ≡ None
unfolding store_fault
undamaged m s parts none = no-damage (damage_of m s.secret s.view parts) (begin_otherwise parts.entries (entry_text (Opened (opening_by s)))) none

-- what its store restored has a meaning, and its checkpoint, if it has one, is not that of the empty replica
pub can-begin : (s : GroupSettings) (member : ℕ) (parts : Parts) (events : List TrailEvent) → store_fault counting (member_settings s member) parts ≡ None
    → (parts.snapshot ≡ Some (snapshot_text counting (empty counting s.view)) → ⊥) → CanBegin (trail_by counting (member_settings s member) parts events)
can-begin s member parts events none other = λ not-client.
    damage-is counting (member_settings s member) parts events other ∙ undamaged counting (member_settings s member) parts none
