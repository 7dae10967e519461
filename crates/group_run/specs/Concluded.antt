-- How the run of a group concludes, by its trails.
use Rattle.std.specs.Prelude.{◌≡◌, ◌≤◌, ◌<◌, ◌-◌, ◌^◌, ◌++◌, ◌∷◌, ◌⊎◌, ℕ, Bool, true, false, List, [], map, take, Option, None, Some}
use Rattle.std.specs.Io.KnownBytes.{Appends}
use Rattle.std.specs.List.{All}
use Rattle.faults.specs.Counts.{Rose}
use Rattle.audit_rules.specs.Audits.{first_difference}
use Rattle.audit_rules.specs.Quiets.{is_quiet}
use Rattle.audit_rules.specs.declared.recorded.Difference.{Difference}
use Rattle.audit_rules.specs.declared.recorded.Recorded.{Recorded}
use Rattle.trail.specs.declared.opening.TrailOpening.{TrailOpening}
use Rattle.group_client.specs.Loops.{Output}
use Rattle.group_parties.specs.Courses.{is_cut_off}
use Rattle.group_parties.specs.Gathered.{recorded_of, trails_in}
use Rattle.group_run.specs.Lines.{coherent_line}
use Rattle.group_run.specs.Statuses.{fails, tells_last}
use Rattle.group_parties.specs.declared.crew.Headed.{Headed}
use Rattle.group_parties.specs.declared.ending.Lived.{Lived}
use Rattle.group_run.specs.declared.parties.Trails.{Trails}
use Rattle.group_parties.specs.declared.running.CourseEnd.{CourseEnd}
use Rattle.group_parties.specs.declared.running.CourseEnd.TheVariants as courses
use Rattle.group_run.specs.declared.status.Failures.{Failures}
use Rattle.group_run.specs.declared.status.GroupStatus.{GroupStatus}
use Rattle.group_run.specs.declared.status.GroupStatus.TheVariants as ends

-- Each party has lived, and its trail and the ends of its links are gathered. The client's trail comes first, its links last. The trails are told as whole only if
-- each of them is.
pub record AreGathered (head : TrailOpening) (heads : List Headed) (client : Option Lived) (members : List (Option Lived)) (t : Trails) : Type 0 where
  pub own : Lived
  pub lives : List Lived
  pub own_is : client ≡ Some own
  pub lives_are : map (λ (l : Lived). Some l) lives ≡ members
  pub trails : t.recorded.items ≡ recorded_of head [] own ∷ trails_in heads lives
  pub whole : t.whole ≡ true → (own.whole ≡ true) × All (λ (l : Lived). l.whole ≡ true) lives
  pub rows : t.rows.items ≡ map (λ (l : Lived). l.row) lives ++ own.row ∷ []
  pub inboxes : t.inboxes.items ≡ map (λ (l : Lived). l.inbox) lives ++ own.inbox ∷ []

-- The status by the trails alone.
pub record IsAudited (recorded : List Recorded) (whole : Bool) (end : CourseEnd) (polls : ℕ) (status : GroupStatus) : Type 0 where
  pub ok : status ≡ ends.Ok → (first_difference recorded ≡ None) × ((end ≡ courses.Done) × (whole ≡ true))
  pub differs : (d : Difference) → status ≡ ends.Differs d → (first_difference recorded ≡ Some d) × (is_cut_off end ≡ false)
  pub gave_up : (n : ℕ) → status ≡ ends.GaveUp n → (n ≡ polls) × ((n < 2 ^ 64 - 1) × ((first_difference recorded ≡ None) × ((is_quiet recorded ≡ true) × ((end ≡ courses.Still) × (whole ≡ true)))))
  pub sound : fails status ≡ false

-- The status by the trails and by what has failed, and what was written of the last line: nothing or a front of it, and that only where all replies were accepted.
pub record IsConcluded (recorded : List Recorded) (whole : Bool) (failures : Failures) (end : CourseEnd) (polls : ℕ) (status : GroupStatus) (before after : Output) : Type 0 where
  pub ok : status ≡ ends.Ok → (first_difference recorded ≡ None) × ((end ≡ courses.Done) × (whole ≡ true))
  pub wrote : status ≡ ends.Ok → Appends before.written after.written coherent_line
  pub differs : (d : Difference) → status ≡ ends.Differs d → (first_difference recorded ≡ Some d) × (is_cut_off end ≡ false)
  pub gave_up : (n : ℕ) → status ≡ ends.GaveUp n → (n ≡ polls) × ((n < 2 ^ 64 - 1) × ((first_difference recorded ≡ None) × ((is_quiet recorded ≡ true) × ((end ≡ courses.Still) × (whole ≡ true)))))
  pub store : (entry : ℕ) → status ≡ ends.Store entry → ⊥
  pub none : Appends before.written after.written [] ⊎ ((end ≡ courses.Done) × ((count : ℕ) × Appends before.written after.written (take count coherent_line)))
  pub silent : tells_last status ≡ false → Appends before.written after.written []
  pub first : failures.output ≡ true → status ≡ ends.WriteFault
  pub want : status ≡ ends.NoMemory → Appends before.written after.written [] ⊎ Rose before.wants after.wants
  pub write : status ≡ ends.WriteFault → (failures.output ≡ true) ⊎ Rose before.faults after.faults
  pub trail : status ≡ ends.TrailFault → failures.trail ≡ true
  pub disk : status ≡ ends.DiskFault → failures.disk ≡ true
  pub later : (before.faults ≤ after.faults) × (before.wants ≤ after.wants)
