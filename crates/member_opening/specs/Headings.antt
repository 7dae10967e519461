-- The head of a node's trail.
use Rattle.std.specs.Prelude.{ℕ, List, length, Option, Some, None}
use Rattle.smart_base.specs.Views.{View}
use Rattle.smart_service.specs.Services.{Meaning}
use Rattle.snapshot_form.specs.Snapshots.{snapshot_text}
use Rattle.replica_rules.specs.Replicas.{empty}
use Rattle.node_rules.specs.declared.node.Parts.{Parts}
use Rattle.trail.specs.declared.opening.TrailOpening.{TrailOpening}
use Rattle.member_opening.specs.declared.settings.Settings.{Settings}

-- the bytes of the replica with which a node begins: the checkpoint's snapshot, or that of the empty replica
abbrev pub snapshot_by : {S : Type 0} → Meaning S → View → Option (List ℕ) → List ℕ
snapshot_by m view None = snapshot_text m (empty m view)
snapshot_by m view (Some snapshot) = snapshot

-- with what the trail of a node begins
abbrev pub head_by : {S : Type 0} → Meaning S → Settings → Parts → TrailOpening
head_by m s parts = record {
  member = s.member;
  period = s.period;
  view = s.view;
  app = s.app;
  secret = s.secret;
  snapshot = snapshot_by m s.view parts.snapshot;
  entries = length parts.entries;
}
