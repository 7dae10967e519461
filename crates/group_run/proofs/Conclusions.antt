-- How the run of a group concludes, by its status.
use Rattle.std.proofs.Common.{◌≡◌, ◌∙◌, ℕ, ◌+◌, ◌-◌, ◌^◌, ◌<◌, ◌≤◌, min, ◌⊎◌, inl, inr, Bool, true, false, true≢false, List, [], ◌∷◌, ◌++◌, length, map, take, Option, Some, None, is_some, refl, sym, ap, subst, arith}
use Rattle.std.specs.Io.KnownBytes.{Appends}
use Rattle.faults.specs.Counts.{Rose}
use Rattle.audit_rules.specs.Audits.{first_difference, verdict_of}
use Rattle.audit_rules.specs.Quiets.{is_quiet}
use Rattle.audit_rules.specs.declared.recorded.Difference.{Difference}
use Rattle.audit_rules.specs.declared.recorded.Recorded.{Recorded}
use Rattle.audit_rules.specs.declared.recorded.Verdict.{Verdict}
use Rattle.audit_rules.proofs.Differences.{coherent_if}
use Rattle.client_quorum.specs.Clients.{fresh}
use Rattle.client_quorum.specs.declared.client.Client.{Client}
use Rattle.client_seat.specs.Asks.{client_of, polls_since, Asks}
use Rattle.trail.specs.declared.event.TrailEvent.{TrailEvent}
use Rattle.trail.specs.declared.opening.TrailOpening.{TrailOpening}
use Rattle.group_client.specs.Loops.{Output}
use Rattle.group_client.specs.Lines.{accepted}
use Rattle.group_client.proofs.Told.{keeps-none}
use Rattle.group_client.specs.declared.asking.ClientFault.{ClientFault}
use Rattle.group_client.specs.declared.reply_line.LineFault.{LineFault}
use Rattle.group_client.specs.declared.reply_line.LineFault.TheVariants as lines
use Rattle.group_run.specs.Concluded.{IsAudited, IsConcluded}
use Rattle.group_parties.specs.Courses.{is_cut_off}
use Rattle.group_run.specs.Ends.{EndsBy, IsAccepted, IsGivenUp}
use Rattle.group_run.specs.Lines.{coherent_line}
use Rattle.group_run.specs.Parties.{trails_of, GroupOver}
use Rattle.group_parties.specs.Rests.{HasCourse}
use Rattle.group_opening.specs.Runs.{GroupRun, client_head}
use Rattle.group_run.specs.Statuses.{audited_status, failed_status, fails, line_status, quiet_status, tells_last}
use Rattle.group_parties.specs.declared.ending.Lived.{Lived}
use Rattle.group_parties.specs.declared.running.CourseEnd.{CourseEnd}
use Rattle.group_parties.specs.declared.running.CourseEnd.TheVariants as courses
use Rattle.group_run.specs.declared.status.Failures.{Failures}
use Rattle.group_run.specs.declared.status.GroupStatus.{GroupStatus}
use Rattle.group_run.specs.declared.status.GroupStatus.TheVariants as ends
use Rattle.group_run.proofs.Accepted.{accepted-all}

-- ---- a status by the trails

audited-sound : (found : Option Difference) (wanted done still : Bool) (polls : ℕ) → fails (audited_status (verdict_of found) (quiet_status wanted done still polls)) ≡ false
audited-sound (Some d) wanted done still polls = refl
audited-sound None true done still polls = refl
audited-sound None false true still polls = refl
audited-sound None false false true polls = refl
audited-sound None false false false polls = refl

audited-ok : (found : Option Difference) (wanted done still : Bool) (polls : ℕ) → audited_status (verdict_of found) (quiet_status wanted done still polls) ≡ ends.Ok → (found ≡ None) × ((wanted ≡ false) × (done ≡ true))
audited-ok (Some d) wanted done still polls is = cc
audited-ok None true done still polls is = cc
audited-ok None false true still polls is = (refl, (refl, refl))
audited-ok None false false true polls is = cc
audited-ok None false false false polls is = cc

audited-differs : (found : Option Difference) (wanted done still : Bool) (polls : ℕ) (d : Difference) → audited_status (verdict_of found) (quiet_status wanted done still polls) ≡ ends.Differs d → found ≡ Some d
audited-differs (Some e) wanted done still polls d is = cc
audited-differs None true done still polls d is = cc
audited-differs None false true still polls d is = cc
audited-differs None false false true polls d is = cc
audited-differs None false false false polls d is = cc

audited-gave-up : (found : Option Difference) (wanted done still : Bool) (polls n : ℕ) → audited_status (verdict_of found) (quiet_status wanted done still polls) ≡ ends.GaveUp n
    → (n ≡ polls) × ((found ≡ None) × ((wanted ≡ false) × (still ≡ true)))
audited-gave-up (Some d) wanted done still polls n is = cc
audited-gave-up None true done still polls n is = cc
audited-gave-up None false true still polls n is = cc
audited-gave-up None false false true polls n is = (cc, (refl, (refl, refl)))
audited-gave-up None false false false polls n is = cc

-- the client goes on, unless it gave up
pub on-by : (end : CourseEnd) → ((fault : ClientFault) → end ≡ courses.GaveUp fault → ⊥) → is_cut_off end ≡ false
on-by courses.Done other = refl
on-by courses.Still other = refl
on-by courses.Over other = refl
on-by (courses.GaveUp fault) other = absurd (other fault refl)

-- the status of trails that were audited
pub audited-by : (recorded : List Recorded) (whole : Bool) (end : CourseEnd) (polls : ℕ) (verdict : Verdict) (quiet wanted done still : Bool) (status : GroupStatus) → is_cut_off end ≡ false
    → verdict ≡ verdict_of (first_difference recorded) → quiet ≡ is_quiet recorded → (wanted ≡ false → (whole ≡ true) × (polls < 2 ^ 64 - 1)) → (done ≡ true → end ≡ courses.Done)
    → (still ≡ true → (end ≡ courses.Still) × (quiet ≡ true)) → status ≡ audited_status verdict (quiet_status wanted done still polls) → IsAudited recorded whole end polls status
audited-by recorded whole end polls verdict quiet wanted done still status on verdict-is quiet-is wanted-by done-by still-by is =
    let found = first_difference recorded in
    let same : status ≡ audited_status (verdict_of found) (quiet_status wanted done still polls) = is ∙ ap (λ (v : Verdict). audited_status v (quiet_status wanted done still polls)) verdict-is in record {
      ok = λ ok.
          let facts = audited-ok found wanted done still polls (sym same ∙ ok) in
          (facts.0, (done-by facts.1.1, (wanted-by facts.1.0).0));
      differs = λ d differs. (audited-differs found wanted done still polls d (sym same ∙ differs), on);
      gave_up = λ n gave-up.
          let facts = audited-gave-up found wanted done still polls n (sym same ∙ gave-up) in
          let memory = wanted-by facts.1.1.0 in
          let quiet-then = still-by facts.1.1.1 in
          (facts.0, (omega (arith, facts.0, memory.1), (facts.1.0, (sym quiet-is ∙ quiet-then.1, (quiet-then.0, memory.0)))));
      sound = ap fails same ∙ audited-sound found wanted done still polls;
    }

-- or that of memory that ran out
pub audited-none : (recorded : List Recorded) (whole : Bool) (end : CourseEnd) (polls : ℕ) → IsAudited recorded whole end polls ends.NoMemory
audited-none recorded whole end polls = record { ok = λ is. cc; differs = λ d is. cc; gave_up = λ n is. cc; sound = refl }

-- ---- and by what has failed

whole-front : (xs : List ℕ) → take (length xs) xs ≡ xs
whole-front [] = refl
whole-front (x ∷ xs) = ap (λ (ys : List ℕ). x ∷ ys) (whole-front xs)

-- the ends of a run whose last line is cut off
abbrev is_cut : GroupStatus → Bool
is_cut ends.Ok = false
is_cut (ends.Store entry) = false
is_cut ends.WriteFault = true
is_cut ends.TrailFault = false
is_cut ends.DiskFault = false
is_cut (ends.Differs d) = false
is_cut (ends.GaveUp polls) = false
is_cut ends.NoMemory = true

-- a line that was not written ends the run so
two-of : (fault : LineFault) (status : GroupStatus) → status ≡ line_status fault → (status ≡ ends.WriteFault) ⊎ (status ≡ ends.NoMemory)
two-of lines.Failed status is = inl is
two-of lines.SinkMemory status is = inr is
two-of lines.NoMemory status is = inr is

write-of : (fault : LineFault) (status : GroupStatus) → status ≡ line_status fault → status ≡ ends.WriteFault → fault ≡ lines.Failed
write-of lines.Failed status is write = refl
write-of lines.SinkMemory status is write = cc
write-of lines.NoMemory status is write = cc

want-of : (fault : LineFault) (status : GroupStatus) → status ≡ line_status fault → (fault ≡ lines.NoMemory → ⊥) → status ≡ ends.NoMemory → fault ≡ lines.SinkMemory
want-of lines.Failed status is other want = cc
want-of lines.SinkMemory status is other want = refl
want-of lines.NoMemory status is other want = absurd (other refl)

neither-is : (status other : GroupStatus) → (status ≡ ends.WriteFault) ⊎ (status ≡ ends.NoMemory) → status ≡ other → is_cut other ≡ false → ⊥
neither-is status other (inl one) is uncut = true≢false (sym (ap is_cut one) ∙ ap is_cut is ∙ uncut)
neither-is status other (inr one) is uncut = true≢false (sym (ap is_cut one) ∙ ap is_cut is ∙ uncut)

both-tell : (status : GroupStatus) → (status ≡ ends.WriteFault) ⊎ (status ≡ ends.NoMemory) → tells_last status ≡ false → ⊥
both-tell status (inl one) silent = true≢false (sym (ap tells_last one) ∙ silent)
both-tell status (inr one) silent = true≢false (sym (ap tells_last one) ∙ silent)

failed-none : (output trail disk : Bool) (found status : GroupStatus) → failed_status (record { output = output; trail = trail; disk = disk }) found ≡ status → fails status ≡ false → (found ≡ status) × (output ≡ false)
failed-none true trail disk found status is sound = absurd (true≢false (ap fails is ∙ sound))
failed-none false true disk found status is sound = absurd (true≢false (ap fails is ∙ sound))
failed-none false false true found status is sound = absurd (true≢false (ap fails is ∙ sound))
failed-none false false false found status is sound = (is, refl)

pub failed-output : (output trail disk : Bool) (found : GroupStatus) → fails found ≡ false → failed_status (record { output = output; trail = trail; disk = disk }) found ≡ ends.WriteFault → output ≡ true
failed-output true trail disk found sound is = refl
failed-output false true disk found sound is = cc
failed-output false false true found sound is = cc
failed-output false false false found sound is = absurd (true≢false (sym (ap fails is) ∙ sound))

pub failed-trail : (output trail disk : Bool) (found : GroupStatus) → fails found ≡ false → failed_status (record { output = output; trail = trail; disk = disk }) found ≡ ends.TrailFault → trail ≡ true
failed-trail true trail disk found sound is = cc
failed-trail false true disk found sound is = refl
failed-trail false false true found sound is = cc
failed-trail false false false found sound is = absurd (true≢false (sym (ap fails is) ∙ sound))

pub failed-disk : (output trail disk : Bool) (found : GroupStatus) → fails found ≡ false → failed_status (record { output = output; trail = trail; disk = disk }) found ≡ ends.DiskFault → disk ≡ true
failed-disk true trail disk found sound is = cc
failed-disk false true disk found sound is = cc
failed-disk false false true found sound is = refl
failed-disk false false false found sound is = absurd (true≢false (sym (ap fails is) ∙ sound))

pub failed-store : (output trail disk : Bool) (found : GroupStatus) (entry : ℕ) → fails found ≡ false → failed_status (record { output = output; trail = trail; disk = disk }) found ≡ ends.Store entry → ⊥
failed-store true trail disk found entry sound is = cc
failed-store false true disk found entry sound is = cc
failed-store false false true found entry sound is = cc
failed-store false false false found entry sound is = true≢false (sym (ap fails is) ∙ sound)

failed-first : (output trail disk : Bool) (found : GroupStatus) → output ≡ true → failed_status (record { output = output; trail = trail; disk = disk }) found ≡ ends.WriteFault
failed-first true trail disk found is = refl
failed-first false trail disk found is = absurd (true≢false (sym is))

module _ (recorded : List Recorded) (whole : Bool) (failures : Failures) (end : CourseEnd) (polls : ℕ) (found : GroupStatus) (audited : IsAudited recorded whole end polls found) where
  -- the status of what has failed comes before that of the trails
  pub no-store : (entry : ℕ) → failed_status failures found ≡ ends.Store entry → ⊥
  no-store entry is = failed-store failures.output failures.trail failures.disk found entry audited.sound is

  -- nothing of the last line was written
  pub concluded-silent : (status : GroupStatus) (before after : Output) → status ≡ failed_status failures found → (status ≡ ends.Ok → ⊥) → after ≡ before → IsConcluded recorded whole failures end polls status before after
  concluded-silent status before after is other same =
      let none : Appends before.written after.written [] = subst (λ (o : Output). Appends before.written o.written []) (sym same) (keeps-none before.written before.written refl) in
      let o = failures.output in
      let t = failures.trail in
      let d = failures.disk in
      let faults : before.faults ≤ after.faults = omega (arith, ap (λ (x : Output). x.faults) same) in
      let wants : before.wants ≤ after.wants = omega (arith, ap (λ (x : Output). x.wants) same) in record {
        ok = λ ok. absurd (other ok);
        wrote = λ ok. absurd (other ok);
        differs = λ e differs. audited.differs e (failed-none o t d found (ends.Differs e) (sym is ∙ differs) refl).0;
        gave_up = λ n gave-up. audited.gave_up n (failed-none o t d found (ends.GaveUp n) (sym is ∙ gave-up) refl).0;
        store = λ entry store. failed-store o t d found entry audited.sound (sym is ∙ store);
        none = inl none;
        silent = λ silent. none;
        first = λ output. is ∙ failed-first o t d found output;
        want = λ want. inl none;
        write = λ write. inl (failed-output o t d found audited.sound (sym is ∙ write));
        trail = λ trail. failed-trail o t d found audited.sound (sym is ∙ trail);
        disk = λ disk. failed-disk o t d found audited.sound (sym is ∙ disk);
        later = (faults, wants);
      }

  -- all is well, and the last line was written
  pub concluded-ok : (before after : Output) → failed_status failures found ≡ ends.Ok → Appends before.written after.written coherent_line → (before.faults ≤ after.faults) × (before.wants ≤ after.wants)
      → IsConcluded recorded whole failures end polls ends.Ok before after
  concluded-ok before after is wrote later =
      let o = failures.output in
      let sound = failed-none o failures.trail failures.disk found ends.Ok is refl in
      let facts = audited.ok sound.0 in record {
        ok = λ ok. facts;
        wrote = λ ok. wrote;
        differs = λ e differs. cc;
        gave_up = λ n gave-up. cc;
        store = λ entry store. cc;
        none = inr (facts.1.0, (length coherent_line, subst (λ (bytes : List ℕ). Appends before.written after.written bytes) (sym (whole-front coherent_line)) wrote));
        silent = λ silent. absurd (true≢false silent);
        first = λ output. absurd (true≢false (sym output ∙ sound.1));
        want = λ want. cc;
        write = λ write. cc;
        trail = λ trail. cc;
        disk = λ disk. cc;
        later = later;
      }

  -- all was well, but the last line was not written whole
  pub concluded-cut : (fault : LineFault) (status : GroupStatus) (before after : Output) → failed_status failures found ≡ ends.Ok → status ≡ line_status fault → (count : ℕ) × Appends before.written after.written (take count coherent_line)
      → (fault ≡ lines.NoMemory → ⊥) → (fault ≡ lines.Failed → Rose before.faults after.faults) → (fault ≡ lines.SinkMemory → Rose before.wants after.wants) → (before.faults ≤ after.faults) × (before.wants ≤ after.wants)
      → IsConcluded recorded whole failures end polls status before after
  concluded-cut fault status before after is line wrote other write want later =
      let o = failures.output in
      let two = two-of fault status line in
      let sound = failed-none o failures.trail failures.disk found ends.Ok is refl in
      let facts = audited.ok sound.0 in record {
        ok = λ ok. absurd (neither-is status ends.Ok two ok refl);
        wrote = λ ok. absurd (neither-is status ends.Ok two ok refl);
        differs = λ e differs. absurd (neither-is status (ends.Differs e) two differs refl);
        gave_up = λ n gave-up. absurd (neither-is status (ends.GaveUp n) two gave-up refl);
        store = λ entry store. neither-is status (ends.Store entry) two store refl;
        none = inr (facts.1.0, wrote);
        silent = λ silent. absurd (both-tell status two silent);
        first = λ output. absurd (true≢false (sym output ∙ sound.1));
        want = λ memory. inr (want (want-of fault status line other memory));
        write = λ failed. inr (write (write-of fault status line failed));
        trail = λ trail. absurd (neither-is status ends.TrailFault two trail refl);
        disk = λ disk. absurd (neither-is status ends.DiskFault two disk refl);
        later = later;
      }

-- ---- the end of a group that has lived

module _ {S : Type 0} (r : GroupRun S) (over : GroupOver r) (own : Lived) (recorded : List Recorded) (whole : Bool) (failures : Failures) (end : CourseEnd) (polls : ℕ) (begun out before after : Output)
    (trails-are : recorded ≡ trails_of over) (events-are : over.client.events ≡ own.events) (whole-is : over.whole ≡ whole) (all-whole : whole ≡ true → own.whole ≡ true) (course : HasCourse r.settings polls end own begun out) where
  same-by : first_difference recorded ≡ None → first_difference (trails_of over) ≡ None
  same-by none = ap first_difference (sym trails-are) ∙ none

  all-accepted : end ≡ courses.Done → whole ≡ true → length (accepted over.client.opening over.client.events) ≡ r.settings.asks
  all-accepted is-done is-whole =
      let s = r.settings in
      let done = course.done is-done (all-whole is-whole) in
      let asks : Asks s.secret (fresh s.view 1) own.events = subst (λ (es : List TrailEvent). Asks s.secret (fresh s.view 1) es) events-are over.asked.asks in
      ap (λ (head : TrailOpening). length (accepted head over.client.events)) over.asked.opening.0 ∙ ap (λ (es : List TrailEvent). length (accepted (client_head s) es)) events-are
      ∙ accepted-all s.secret (fresh s.view 1) own.events s.asks asks refl refl done.0 done.1

  given-up : (n : ℕ) → IsConcluded recorded whole failures end polls (ends.GaveUp n) before after → IsGivenUp over n
  given-up n concluded =
      let s = r.settings in
      let facts = concluded.gave_up n refl in
      let few : n < 2 ^ 64 - 1 = facts.1.0 in
      let same = same-by facts.1.1.0 in
      let own-whole = all-whole facts.1.1.1.1.1 in
      let still = course.still facts.1.1.1.1.0 own-whole in
      let counted = course.polls_are own-whole in
      let all : n ≡ polls_since 0 own.events = omega (arith, facts.0, few, counted) in record {
        whole = whole-is ∙ facts.1.1.1.1.1;
        coherent = coherent_if (trails_of over) same;
        front = still.1.0;
        behind = still.1.1.0;
        split = events-are ∙ still.1.1.1.0;
        spent = still.1.1.1.1;
        polls_are = all ∙ ap (λ (es : List TrailEvent). polls_since 0 es) (sym events-are);
        quiet = ap is_quiet (sym trails-are) ∙ facts.1.1.1.0;
        waits = ap (λ (es : List TrailEvent). is_some (client_of s.secret (fresh s.view 1) es).waiting) events-are ∙ still.0;
      }

  pub ends-by : (status : GroupStatus) → IsConcluded recorded whole failures end polls status before after → EndsBy over status
  ends-by ends.Ok concluded =
      let facts = concluded.ok refl in
      let same = same-by facts.0 in record { whole = whole-is ∙ facts.1.1; coherent = coherent_if (trails_of over) same; same = same; all = all-accepted facts.1.0 facts.1.1 }
  ends-by (ends.Store entry) concluded = concluded.store entry refl
  ends-by ends.WriteFault concluded = tt
  ends-by ends.TrailFault concluded = tt
  ends-by ends.DiskFault concluded = tt
  ends-by (ends.Differs d) concluded = ap first_difference (sym trails-are) ∙ (concluded.differs d refl).0
  ends-by (ends.GaveUp polls') concluded = given-up polls' concluded
  ends-by ends.NoMemory concluded = tt
