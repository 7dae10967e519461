-- The lines that the run of a group has written.
use Rattle.std.proofs.Common.{◌≡◌, ◌∙◌, ℕ, zero, suc, ◌+◌, ◌<◌, ◌≤◌, ◌⊎◌, inl, inr, Bool, true, false, true≢false, List, [], ◌∷◌, ◌++◌, length, take, Option, Some, None, refl, sym, ap, subst, append_assoc, append-nil, arith}
use Rattle.std.proofs.KnownBytes.{Appends-trans}
use Rattle.std.proofs.Math.Seq.{take-append-add}
use Rattle.std.proofs.lemmas.List.{take-append-le}
use Rattle.std.specs.Io.KnownBytes.{Appends}
use Rattle.faults.specs.Counts.{Rose}
use Rattle.audit_rules.specs.declared.recorded.Difference.{Difference}
use Rattle.client_quorum.specs.declared.client.Acceptance.{Acceptance}
use Rattle.group_client.specs.Lines.{reply_lines, IsTold, IsToldFirst, IsToldWhole}
use Rattle.group_client.specs.Loops.{Output}
use Rattle.group_client.specs.declared.asking.ClientFault.{ClientFault}
use Rattle.group_client.specs.declared.asking.ClientFault.TheVariants as faults
use Rattle.group_parties.specs.Courses.{is_cut_off, is_line_cut}
use Rattle.group_run.specs.Ends.{LostBy, WroteBy, WroteFirst, WroteLines, WroteOrWants, WroteSome}
use Rattle.group_run.specs.Lines.{all_lines, coherent_line, group_line, lines_of}
use Rattle.group_opening.specs.Runs.{GroupRun}
use Rattle.group_run.specs.Statuses.{failed_status, tells_last}
use Rattle.group_parties.specs.declared.running.CourseEnd.{CourseEnd}
use Rattle.group_parties.specs.declared.running.CourseEnd.TheVariants as courses
use Rattle.group_run.specs.declared.status.Failures.{Failures}
use Rattle.group_run.specs.declared.status.GroupStatus.{GroupStatus}
use Rattle.group_run.specs.declared.status.GroupStatus.TheVariants as ends

-- ---- bytes

-- what is written behind some bytes, if that is nothing
pub then-nothing : (a b c : Option (List ℕ)) (xs : List ℕ) → Appends a b xs → Appends b c [] → Appends a c xs
then-nothing a b c xs first none = subst (λ (ys : List ℕ). Appends a c ys) (append-nil xs) (Appends-trans a b c xs [] first none)

-- a front is one of at most all bytes
take-fewer : (count : ℕ) (xs : List ℕ) → (k : ℕ) × ((k ≤ length xs) × (take count xs ≡ take k xs))
take-fewer zero xs = (0, (omega arith, refl))
take-fewer (suc count) [] = (0, (omega arith, refl))
take-fewer (suc count) (x ∷ xs) =
    let rest = take-fewer count xs in
    let few : suc rest.0 ≤ length (x ∷ xs) = omega (arith, rest.1.0) in
    (suc rest.0, (few, ap (λ (ys : List ℕ). x ∷ ys) rest.1.1))

-- some bytes and a front of others are a front of all
front-of : (xs ys zs : List ℕ) (count : ℕ) → (k : ℕ) × (xs ++ take count ys ≡ take k ((xs ++ ys) ++ zs))
front-of xs ys zs count =
    let few = take-fewer count ys in
    let within : few.0 ≤ length ys = few.1.0 in (
      length xs + few.0,
      ap (λ (l : List ℕ). xs ++ l) (few.1.1 ∙ sym (take-append-le few.0 ys zs within)) ∙ sym (take-append-add xs (ys ++ zs) few.0) ∙ ap (λ (l : List ℕ). take (length xs + few.0) l) (sym (append_assoc xs ys zs)),
    )

-- ---- lines, by what the client has told

module _ {S : Type 0} (r : GroupRun S) (accepted : List Acceptance) (begun out : Option (List ℕ)) (first : Appends r.written_before begun (group_line r.settings.members r.settings.faulty)) where
  -- those of all that was accepted
  lines-told : IsTold [] accepted begun out → Appends r.written_before out (lines_of r.settings.members r.settings.faulty accepted)
  lines-told told =
      subst (λ (xs : List Acceptance). Appends r.written_before out (lines_of r.settings.members r.settings.faulty xs)) (sym told.new_is)
      (Appends-trans r.written_before begun out (group_line r.settings.members r.settings.faulty) (reply_lines told.more) first told.wrote)

  module _ (after : Option (List ℕ)) where
    lines-whole : r.written_after ≡ after → Appends out after [] → IsToldWhole [] accepted begun out → WroteSome r accepted
    lines-whole here none told = record {
      told = told.told;
      untold = told.untold;
      split = told.new_is;
      wrote = subst (λ (o : Option (List ℕ)). Appends r.written_before o (lines_of r.settings.members r.settings.faulty told.told)) (sym here)
          (then-nothing r.written_before out after (lines_of r.settings.members r.settings.faulty told.told)
          (Appends-trans r.written_before begun out (group_line r.settings.members r.settings.faulty) (reply_lines told.told) first told.wrote) none);
    }

    lines-front : r.written_after ≡ after → Appends out after [] → IsToldFirst [] accepted begun out → WroteFirst r accepted
    lines-front here none told =
        let line = group_line r.settings.members r.settings.faulty in
        let front = front-of line (reply_lines told.more) coherent_line told.count in record {
          count = front.0;
          wrote = subst (λ (o : Option (List ℕ)). Appends r.written_before o (take front.0 (all_lines r.settings.members r.settings.faulty accepted))) (sym here)
              (subst (λ (xs : List Acceptance). Appends r.written_before after (take front.0 (all_lines r.settings.members r.settings.faulty xs))) (sym told.new_is)
              (subst (λ (ys : List ℕ). Appends r.written_before after ys) front.1
              (then-nothing r.written_before out after (line ++ take told.count (reply_lines told.more)) (Appends-trans r.written_before begun out line (take told.count (reply_lines told.more)) first told.wrote) none)));
        }

    -- and a front of the last line
    lines-last : r.written_after ≡ after → (count : ℕ) → Appends out after (take count coherent_line) → IsTold [] accepted begun out → WroteFirst r accepted
    lines-last here count last told =
        let lines = lines_of r.settings.members r.settings.faulty accepted in record {
          count = length lines + count;
          wrote = subst (λ (o : Option (List ℕ)). Appends r.written_before o (take (length lines + count) (lines ++ coherent_line))) (sym here)
              (subst (λ (ys : List ℕ). Appends r.written_before after ys) (sym (take-append-add lines coherent_line count)) (Appends-trans r.written_before out after lines (take count coherent_line) (lines-told told) last));
        }

-- ---- the ends of a course

-- a line may be cut off by a failure of the output, or by its want of memory
pub cut-by : (end : CourseEnd) → (is_line_cut end ≡ false) ⊎ ((end ≡ courses.GaveUp faults.Output) ⊎ (end ≡ courses.GaveUp faults.OutputMemory))
cut-by courses.Done = inl refl
cut-by courses.Still = inl refl
cut-by courses.Over = inl refl
cut-by (courses.GaveUp faults.Trail) = inl refl
cut-by (courses.GaveUp faults.Output) = inr (inl refl)
cut-by (courses.GaveUp faults.OutputMemory) = inr (inr refl)
cut-by (courses.GaveUp faults.NoMemory) = inl refl

-- ---- what was written, by the end of the course and by the status

module _ {S : Type 0} (r : GroupRun S) (accepted : List Acceptance) (begun out after : Option (List ℕ)) (end : CourseEnd) (line : Appends r.written_before begun (group_line r.settings.members r.settings.faulty)) (here : r.written_after ≡ after)
    (first : IsToldFirst [] accepted begun out) (lines : is_line_cut end ≡ false → IsToldWhole [] accepted begun out) (memory : end ≡ courses.GaveUp faults.OutputMemory → Rose r.wants_before r.wants_after) where
  -- whole lines, unless the output wanted memory
  by-cut : Appends out after [] → (end ≡ courses.GaveUp faults.Output → ⊥) → (is_line_cut end ≡ false) ⊎ ((end ≡ courses.GaveUp faults.Output) ⊎ (end ≡ courses.GaveUp faults.OutputMemory)) → WroteOrWants r accepted
  by-cut none output (inl uncut) = inl (lines-whole r accepted begun out line after here none (lines uncut))
  by-cut none output (inr (inl failed)) = absurd (output failed)
  by-cut none output (inr (inr want)) = inr (memory want, lines-front r accepted begun out line after here none first)

  whole-or-want : Appends out after [] → (end ≡ courses.GaveUp faults.Output → ⊥) → WroteOrWants r accepted
  whole-or-want none output = by-cut none output (cut-by end)

  -- ---- where the trails were not gathered

  lost-at : (output trail disk : Bool) → WroteFirst r accepted → (output ≡ false → WroteOrWants r accepted)
      → LostBy r accepted (failed_status (record { output = output; trail = trail; disk = disk }) ends.NoMemory)
  lost-at true trail disk front wants = front
  lost-at false true disk front wants = wants refl
  lost-at false false true front wants = wants refl
  lost-at false false false front wants = wants refl

  pub lost-wrote : (failures : Failures) (status : GroupStatus) → status ≡ failed_status failures ends.NoMemory → Appends out after [] → (end ≡ courses.GaveUp faults.Output → failures.output ≡ true) → LostBy r accepted status
  lost-wrote failures status is none output =
      subst (λ (s : GroupStatus). LostBy r accepted s) (sym is)
      (lost-at failures.output failures.trail failures.disk (lines-front r accepted begun out line after here none first)
      (λ (sound : failures.output ≡ false). whole-or-want none (λ (failed : end ≡ courses.GaveUp faults.Output). true≢false (sym (output failed) ∙ sound))))

  -- ---- where they were

  module _ (told : is_cut_off end ≡ false → IsTold [] accepted begun out) where
    told-done : end ≡ courses.Done → IsTold [] accepted begun out
    told-done is = told (ap is_cut_off is)

    all-lines : is_cut_off end ≡ false → Appends out after [] → WroteLines r accepted
    all-lines on none =
        subst (λ (o : Option (List ℕ)). Appends r.written_before o (lines_of r.settings.members r.settings.faulty accepted)) (sym here)
        (then-nothing r.written_before out after (lines_of r.settings.members r.settings.faulty accepted) (lines-told r accepted begun out line (told on)) none)

    front-by : Appends out after [] ⊎ ((end ≡ courses.Done) × ((count : ℕ) × Appends out after (take count coherent_line))) → WroteFirst r accepted
    front-by (inl none) = lines-front r accepted begun out line after here none first
    front-by (inr last) = lines-last r accepted begun out line after here last.1.0 last.1.1 (told-done last.0)

    want-by : (end ≡ courses.GaveUp faults.Output → ⊥) → Appends out after [] ⊎ ((end ≡ courses.Done) × ((count : ℕ) × Appends out after (take count coherent_line))) → Appends out after [] ⊎ Rose r.wants_before r.wants_after → WroteOrWants r accepted
    want-by output last (inl none) = whole-or-want none output
    want-by output last (inr rose) = inr (rose, front-by last)

    pub lived-wrote : (status : GroupStatus) → Appends out after [] ⊎ ((end ≡ courses.Done) × ((count : ℕ) × Appends out after (take count coherent_line)))
        → (tells_last status ≡ false → Appends out after []) → (status ≡ ends.Ok → (end ≡ courses.Done) × Appends out after coherent_line)
        → ((d : Difference) → status ≡ ends.Differs d → is_cut_off end ≡ false) → ((n : ℕ) → status ≡ ends.GaveUp n → end ≡ courses.Still) → ((entry : ℕ) → status ≡ ends.Store entry → ⊥)
        → (status ≡ ends.NoMemory → Appends out after [] ⊎ Rose r.wants_before r.wants_after) → ((status ≡ ends.WriteFault → ⊥) → end ≡ courses.GaveUp faults.Output → ⊥) → WroteBy r accepted status
    lived-wrote ends.Ok last silent ok differs gave_up store want output =
        let done = ok refl in
        subst (λ (o : Option (List ℕ)). Appends r.written_before o (all_lines r.settings.members r.settings.faulty accepted)) (sym here)
        (Appends-trans r.written_before out after (lines_of r.settings.members r.settings.faulty accepted) coherent_line (lines-told r accepted begun out line (told-done done.0)) done.1)
    lived-wrote (ends.Store entry) last silent ok differs gave_up store want output = store entry refl
    lived-wrote ends.WriteFault last silent ok differs gave_up store want output = front-by last
    lived-wrote ends.TrailFault last silent ok differs gave_up store want output = whole-or-want (silent refl) (output (λ (e : ends.TrailFault ≡ ends.WriteFault). cc))
    lived-wrote ends.DiskFault last silent ok differs gave_up store want output = whole-or-want (silent refl) (output (λ (e : ends.DiskFault ≡ ends.WriteFault). cc))
    lived-wrote (ends.Differs d) last silent ok differs gave_up store want output = all-lines (differs d refl) (silent refl)
    lived-wrote (ends.GaveUp polls) last silent ok differs gave_up store want output = all-lines (ap is_cut_off (gave_up polls refl)) (silent refl)
    lived-wrote ends.NoMemory last silent ok differs gave_up store want output = want-by (output (λ (e : ends.NoMemory ≡ ends.WriteFault). cc)) last (want refl)
