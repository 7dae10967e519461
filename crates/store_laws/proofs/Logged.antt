-- The log of a store goes on at each call. At the end of a switch it is the tail, and what waits that is not in it.
use Rattle.std.proofs.Common.{◌≡◌, ◌⊎◌, inl, inr, ℕ, zero, suc, ◌+◌, ◌-◌, ◌≤◌, nat_lt, Bool, true, false, not, cond, List, [], ◌∷◌, ◌++◌, length, drop, Option, Some, None, refl, sym, ◌∙◌, ap, subst, arith}
use Rattle.std.proofs.lemmas.List.{append_assoc, append-nil}
use Rattle.disk_model.specs.declared.call.DeviceCall.{DeviceCall}
use Rattle.store_form.specs.Spelling.{group_text, checkpoint_text}
use Rattle.store_form.specs.declared.checkpoint.Checkpoint.{Checkpoint}
use Rattle.store_laws.specs.Restored.{Images, switched}
use Rattle.store_laws.specs.States.{StoreState, greatest, side, slot_gate_of, is_torn, some, switch_calls, writes_tail, Begun, NoJob, Close, Repair, Switch, AddGroup, of_group, of_asked, group_of, due_job, begins, firm_by, advanced, ends, job_called, store_called, store_opened, given}
use Rattle.store_laws.specs.Stands.{Aim, at_rest, aim_called, aim_after, aim_begins}
use Rattle.store_laws.specs.Runs.{aim_first, aim_then}
use Rattle.store_laws.specs.Books.{NoTail}
use Rattle.store_laws.specs.Tails.{tail_after, OneTail, TailLeft}
use Rattle.store_laws.specs.Logs.{log_of, next_log, KeepsAll, AddsAll, AimsAt, MakesBy, Makes, Logs, written_by, ended_by, written_then, ended_then, LogGoes}
use Rattle.store_laws.specs.declared.job.Kept.{Kept}
use Rattle.store_laws.specs.declared.job.Tail.{Tail}
use Rattle.store_laws.specs.declared.job.Gate.{Gate}
use Rattle.store_laws.specs.declared.job.Gate.TheVariants.{Absent, Closed, Torn, Open}
use Rattle.store_laws.specs.declared.job.Device.{Device}
use Rattle.store_laws.specs.declared.job.Ending.{Ending}
use Rattle.store_laws.specs.declared.job.Ending.TheVariants.{Closes, Repairs, Adds, Switches}
use Rattle.store_laws.specs.declared.job.StoreCall.{StoreCall}
use Rattle.store_laws.specs.declared.job.StoreCall.TheVariants.{On, WriteTail}
use Rattle.store_laws.proofs.Booked.{group_front}
use Rattle.store_laws.proofs.Given.{no_calls}

pub no_tail_is : (X : Type 0) (tail : Tail) → None ≡ Some tail → X
no_tail_is X tail is = absurd cc

-- ---- a job begins

one_tail : (odd : Bool) (gate : Gate) (text : List ℕ) → OneTail (switch_calls odd gate text)
one_tail odd Absent text = tt
one_tail odd Closed text = tt
one_tail odd Torn text = tt
one_tail odd Open text = tt

-- calls of a switch are some
switch_some : (odd : Bool) (gate : Gate) (text : List ℕ) (a : Aim) → AimsAt (switch_calls odd gate text) None (Switches 0 0) [] a → Makes (switch_calls odd gate text) (Switches 0 0) None [] a
switch_some odd Absent text a m = m
switch_some odd Closed text a m = m
switch_some odd Torn text a m = m
switch_some odd Open text a m = m

module _ (stops : List ℕ → Bool) (s : StoreState) (a : Aim) (idle : s.running ≡ []) (none : s.adding ≡ []) where
  abbrev Begins : Begun → Type 0
  Begins job = LogGoes None None s a (begins job s) (aim_begins job s a)

  waits : a.kept.entries ++ s.waiting ≡ a.kept.entries ++ (s.adding ++ s.waiting)
  waits = ap (λ (l : List (List ℕ)). a.kept.entries ++ (l ++ s.waiting)) (sym none)

  no_job : Begins NoJob
  no_job = record {
    logs = subst (λ (calls : List StoreCall). Makes calls s.ending None s.adding a) (sym idle) (refl, none);
    log = refl;
    present_is = refl;
    next = λ (tail : Tail) (is : None ≡ Some tail). refl;
  }

  closes : (odd : Bool) → KeepsAll (begins (Close odd) s).running None [] (aim_begins (Close odd) s a)
  closes odd = record { plain = tt; unwritten = refl; none = refl; then_is = refl }

  close : (odd : Bool) → Begins (Close odd)
  close odd = record { logs = closes odd; log = waits; present_is = refl; next = λ (tail : Tail) (is : None ≡ Some tail). refl }

  repairs : KeepsAll (begins Repair s).running None [] (aim_begins Repair s a)
  repairs = record { plain = tt; unwritten = refl; none = refl; then_is = refl }

  repair : Begins Repair
  repair = record { logs = repairs; log = waits; present_is = refl; next = λ (tail : Tail) (is : None ≡ Some tail). refl }

  aims : (snapshot : List ℕ) → AimsAt (begins (Switch snapshot) s).running None (Switches 0 0) [] (aim_begins (Switch snapshot) s a)
  aims snapshot =
      let text = checkpoint_text (record { generation = s.generation + 1; snapshot = snapshot }) in
      record { left = one_tail (not (side s)) (slot_gate_of (not (side s)) s) text; ending_is = refl; none = refl; then_is = refl; gated_is = refl; stake_is = inl refl }

  switch : (snapshot : List ℕ) → Begins (Switch snapshot)
  switch snapshot = record {
    logs = switch_some (not (side s)) (slot_gate_of (not (side s)) s) (checkpoint_text (record { generation = s.generation + 1; snapshot = snapshot })) (aim_begins (Switch snapshot) s a) (aims snapshot);
    log = waits;
    present_is = refl;
    next = λ (tail : Tail) (is : None ≡ Some tail). refl;
  }

  adds : (group : List (List ℕ)) → AddsAll (begins (AddGroup group) s).running None group (aim_begins (AddGroup group) s a)
  adds group = record { plain = tt; unwritten = refl; then_is = refl; gated_is = refl; stake_is = inl refl }

  group : (entries : List (List ℕ)) → entries ++ drop (length entries) s.waiting ≡ s.waiting → Begins (of_group entries)
  group [] front = no_job
  group (entry ∷ entries) front = record {
    logs = adds (entry ∷ entries);
    log = ap (λ (l : List (List ℕ)). a.kept.entries ++ l) front ∙ waits;
    present_is = refl;
    next = λ (tail : Tail) (is : None ≡ Some tail). no_tail_is (next_log tail (begins (AddGroup (entry ∷ entries)) s) ≡ next_log tail s) tail is;
  }

  first_asked : (o : Option (List ℕ)) → Begins (of_asked o (of_group (group_of stops s.waiting)))
  first_asked None = group (group_of stops s.waiting) (group_front stops s.waiting)
  first_asked (Some snapshot) = switch snapshot

  choose : (even odd torn : Bool) → Begins (cond even (Close false) (cond odd (Close true) (cond torn Repair (of_asked (cond (nat_lt s.generation greatest) s.asked None) (of_group (group_of stops s.waiting))))))
  choose true odd torn = close false
  choose false true torn = close true
  choose false false true = repair
  choose false false false = first_asked (cond (nat_lt s.generation greatest) s.asked None)

  pub log_begin : Begins (due_job stops s)
  log_begin = choose (is_torn s.even) (is_torn s.odd) s.torn

-- at rest no tail is written
pub rest_is : (written : Option Tail) (s : StoreState) (a : Aim) → s.running ≡ [] → Logs written s a → (written ≡ None) × (s.adding ≡ [])
rest_is written s a idle logs = subst (λ (calls : List StoreCall). Makes calls s.ending written s.adding a) idle logs

pub log_begins : (stops : List ℕ → Bool) (written : Option Tail) (s : StoreState) (a : Aim) → s.running ≡ [] → Logs written s a → LogGoes None None s a (begins (due_job stops s) s) (aim_begins (due_job stops s) s a)
log_begins stops written s a idle logs = log_begin stops s a idle (rest_is written s a idle logs).1

-- ---- the job goes on

left_tail : (written : Option Tail) (device : Device) (call : DeviceCall) (left : List StoreCall) → TailLeft written (On device call ∷ left) → TailLeft written left
left_tail None device call left one = one
left_tail (Some tail) device call left plain = plain

makes_on : (e : Ending) (device : Device) (call : DeviceCall) (more : StoreCall) (left : List StoreCall) (written : Option Tail) (adding : List (List ℕ)) (a : Aim) → MakesBy e (On device call ∷ (more ∷ left)) written adding a
    → MakesBy e (more ∷ left) written adding a
makes_on (Closes odd) device call more left written adding a m = record { plain = m.plain; unwritten = m.unwritten; none = m.none; then_is = m.then_is }
makes_on Repairs device call more left written adding a m = record { plain = m.plain; unwritten = m.unwritten; none = m.none; then_is = m.then_is }
makes_on (Adds end) device call more left written adding a m = record { plain = m.plain; unwritten = m.unwritten; then_is = m.then_is; gated_is = m.gated_is; stake_is = m.stake_is }
makes_on (Switches end last) device call more left written adding a m = record {
  left = left_tail written device call (more ∷ left) m.left;
  ending_is = m.ending_is;
  none = m.none;
  then_is = m.then_is;
  gated_is = m.gated_is;
  stake_is = m.stake_is;
}

makes_gated : (e : Ending) (calls : List StoreCall) (written : Option Tail) (adding : List (List ℕ)) (a : Aim) → MakesBy e calls written adding a
    → MakesBy e calls written adding (record { kept = a.kept; stake = a.gated; gated = a.gated; then = a.then; next = a.next })
makes_gated (Closes odd) calls written adding a m = record { plain = m.plain; unwritten = m.unwritten; none = m.none; then_is = m.then_is }
makes_gated Repairs calls written adding a m = record { plain = m.plain; unwritten = m.unwritten; none = m.none; then_is = m.then_is }
makes_gated (Adds end) calls written adding a m = record { plain = m.plain; unwritten = m.unwritten; then_is = m.then_is; gated_is = m.gated_is; stake_is = inr m.gated_is }
makes_gated (Switches end last) calls written adding a m = record { left = m.left; ending_is = m.ending_is; none = m.none; then_is = m.then_is; gated_is = m.gated_is; stake_is = inr m.gated_is }

-- the tail is written by a switch alone, and once
pub tail_by : (e : Ending) (left : List StoreCall) (written : Option Tail) (adding : List (List ℕ)) (a : Aim) → MakesBy e (WriteTail ∷ left) written adding a
    → (NoTail left × (adding ≡ [])) × ((a.stake ≡ a.kept) × (written ≡ None))
tail_by (Closes odd) left written adding a m = absurd m.plain
tail_by Repairs left written adding a m = absurd m.plain
tail_by (Adds end) left written adding a m = absurd m.plain
tail_by (Switches end last) left None adding a m = ((m.left, m.none), (either m.stake_is, refl))
  where
    either : (a.stake ≡ a.kept) ⊎ (a.stake ≡ a.kept) → a.stake ≡ a.kept
    either (inl is) = is
    either (inr is) = is
tail_by (Switches end last) left (Some tail) adding a m = absurd m.left

aims_on : (tail : Tail) (more : StoreCall) (left : List StoreCall) (adding : List (List ℕ)) (a : Aim) → NoTail (more ∷ left) → adding ≡ [] → a.stake ≡ a.kept
    → AimsAt (more ∷ left) (Some tail) (Switches (1 + length (group_text tail.entries)) tail.made) adding (aim_called tail WriteTail (more ∷ left) a)
aims_on tail more [] adding a plain none stake = record { left = plain; ending_is = refl; none = none; then_is = refl; gated_is = refl; stake_is = inr refl }
aims_on tail more (last ∷ left) adding a plain none stake = record { left = plain; ending_is = refl; none = none; then_is = refl; gated_is = refl; stake_is = inl stake }

pub log_more : (tail : Tail) (call more : StoreCall) (left : List StoreCall) (written : Option Tail) (s : StoreState) (a : Aim) → MakesBy s.ending (call ∷ (more ∷ left)) written s.adding a
    → LogGoes None (tail_after tail call written) s a (advanced tail call (more ∷ left) s) (aim_called tail call (more ∷ left) a)
log_more tail (On device call) more [] written s a m = record {
  logs = makes_gated s.ending (more ∷ []) written s.adding a (makes_on s.ending device call more [] written s.adding a m);
  log = refl;
  present_is = refl;
  next = λ (t : Tail) (is : written ≡ Some t). refl;
}
log_more tail (On device call) more (last ∷ left) written s a m = record {
  logs = makes_on s.ending device call more (last ∷ left) written s.adding a m;
  log = refl;
  present_is = refl;
  next = λ (t : Tail) (is : written ≡ Some t). refl;
}
log_more tail WriteTail more [] written s a m =
    let w = tail_by s.ending (more ∷ []) written s.adding a m in
    record { logs = aims_on tail more [] s.adding a w.0.0 w.0.1 w.1.0; log = refl; present_is = refl; next = λ (t : Tail) (is : Some tail ≡ Some t). refl }
log_more tail WriteTail more (last ∷ left) written s a m =
    let w = tail_by s.ending (more ∷ (last ∷ left)) written s.adding a m in
    record { logs = aims_on tail more (last ∷ left) s.adding a w.0.0 w.0.1 w.1.0; log = refl; present_is = refl; next = λ (t : Tail) (is : Some tail ≡ Some t). refl }

-- ---- the job ends

abbrev Ended : Ending → Option Tail → Tail → Device → DeviceCall → StoreState → Aim → Kept → Type 0
Ended e written tail device call s a other = LogGoes written None s a (ends e (advanced tail (On device call) [] s)) (at_rest a.then other a.next)

keeps_end : (s q : StoreState) (a : Aim) (calls : List StoreCall) (written : Option Tail) (other : Kept) → KeepsAll calls written s.adding a → q.running ≡ [] → q.adding ≡ [] → q.waiting ≡ s.waiting
    → LogGoes written None s a q (at_rest a.then other a.next)
keeps_end s q a calls written other k idle none same =
    subst (λ (w : Option Tail). LogGoes w None s a q (at_rest a.then other a.next)) (sym k.unwritten)
    (record {
      logs = subst (λ (l : List StoreCall). Makes l q.ending None q.adding (at_rest a.then other a.next)) (sym idle) (refl, none);
      log =
          ap (λ (x : Kept). x.entries ++ (q.adding ++ q.waiting)) k.then_is
          ∙ ap (λ (l : List (List ℕ)). a.kept.entries ++ (l ++ q.waiting)) (none ∙ sym k.none)
          ∙ ap (λ (l : List (List ℕ)). a.kept.entries ++ (s.adding ++ l)) same;
      present_is = ap (λ (x : Kept). x.present) k.then_is;
      next = λ (t : Tail) (is : None ≡ Some t). no_tail_is (next_log t q ≡ next_log t s) t is;
    })

adds_end : (s q : StoreState) (a : Aim) (calls : List StoreCall) (written : Option Tail) (other : Kept) → AddsAll calls written s.adding a → q.running ≡ [] → q.adding ≡ [] → q.waiting ≡ s.waiting
    → LogGoes written None s a q (at_rest a.then other a.next)
adds_end s q a calls written other k idle none same =
    subst (λ (w : Option Tail). LogGoes w None s a q (at_rest a.then other a.next)) (sym k.unwritten)
    (record {
      logs = subst (λ (l : List StoreCall). Makes l q.ending None q.adding (at_rest a.then other a.next)) (sym idle) (refl, none);
      log =
          ap (λ (x : Kept). x.entries ++ (q.adding ++ q.waiting)) k.then_is
          ∙ ap (λ (l : List (List ℕ)). (a.kept.entries ++ s.adding) ++ (l ++ q.waiting)) none
          ∙ ap (λ (l : List (List ℕ)). (a.kept.entries ++ s.adding) ++ l) same
          ∙ append_assoc a.kept.entries s.adding s.waiting;
      present_is = ap (λ (x : Kept). x.present) k.then_is;
      next = λ (t : Tail) (is : None ≡ Some t). no_tail_is (next_log t q ≡ next_log t s) t is;
    })

switch_end : (s q : StoreState) (a : Aim) (tail : Tail) (then other : Kept) → then ≡ switched a.next tail.entries → q.running ≡ [] → q.adding ≡ [] → q.waiting ≡ drop (firm_by tail.made s - s.firm) s.waiting
    → LogGoes (Some tail) None s a q (at_rest then other a.next)
switch_end s q a tail then other then_is idle none waits = record {
  logs = subst (λ (l : List StoreCall). Makes l q.ending None q.adding (at_rest then other a.next)) (sym idle) (refl, none);
  log =
      ap (λ (x : Kept). x.entries ++ (q.adding ++ q.waiting)) then_is
      ∙ ap (λ (l : List (List ℕ)). tail.entries ++ (l ++ q.waiting)) none
      ∙ ap (λ (l : List (List ℕ)). tail.entries ++ l) waits;
  present_is = ap (λ (x : Kept). x.present) then_is;
  next = λ (t : Tail) (is : None ≡ Some t). no_tail_is (next_log t q ≡ next_log t s) t is;
}

log_end : (e : Ending) (written : Option Tail) (tail : Tail) (device : Device) (call : DeviceCall) (s : StoreState) (a : Aim) (other : Kept) → MakesBy e (On device call ∷ []) written s.adding a → Ended e written tail device call s a other
log_end (Closes odd) written tail device call s a other m = keeps_end s (ends (Closes odd) (advanced tail (On device call) [] s)) a (On device call ∷ []) written other m refl refl refl
log_end Repairs written tail device call s a other m = keeps_end s (ends Repairs (advanced tail (On device call) [] s)) a (On device call ∷ []) written other m refl refl refl
log_end (Adds end) written tail device call s a other m = adds_end s (ends (Adds end) (advanced tail (On device call) [] s)) a (On device call ∷ []) written other m refl refl refl
log_end (Switches end last) None tail device call s a other m = absurd m.left
log_end (Switches end last) (Some t) tail device call s a other m =
    subst (λ (e : Ending). Ended e (Some t) tail device call s a other) (sym m.ending_is)
    (switch_end s (ends (Switches (1 + length (group_text t.entries)) t.made) (advanced tail (On device call) [] s)) a t a.then other m.then_is refl refl refl)

pub log_ends : (tail : Tail) (call : StoreCall) (written : Option Tail) (s : StoreState) (a : Aim) (other : Kept) → MakesBy s.ending (call ∷ []) written s.adding a
    → LogGoes (tail_after tail call written) None s a (job_called tail (call ∷ []) s) (aim_after [] other (aim_called tail call [] a))
log_ends tail (On device call) written s a other m = log_end s.ending written tail device call s a other m
log_ends tail WriteTail written s a other m =
    switch_end s (ends (Switches (1 + length (group_text tail.entries)) tail.made) (advanced tail WriteTail [] s)) a tail (switched a.next tail.entries) other refl refl refl refl

pub log_goes : (tail : Tail) (call : StoreCall) (left : List StoreCall) (written : Option Tail) (s : StoreState) (a : Aim) (other : Kept) → MakesBy s.ending (call ∷ left) written s.adding a
    → LogGoes (ended_by tail (call ∷ left) written) (written_by tail (call ∷ left) written) s a (job_called tail (call ∷ left) s) (aim_after left other (aim_called tail call left a))
log_goes tail call [] written s a other m = log_ends tail call written s a other m
log_goes tail call (more ∷ left) written s a other m = log_more tail call more left written s a m

-- ---- the next device call of a store

job_log : (calls : List StoreCall) (tail : Tail) (written : Option Tail) (s : StoreState) (a : Aim) (other : Kept) → s.running ≡ calls → Logs written s a
    → LogGoes (ended_by tail calls written) (written_by tail calls written) s a (job_called tail calls s) (aim_first tail calls other a)
job_log [] tail written s a other is logs = record { logs = logs; log = refl; present_is = refl; next = λ (t : Tail) (same : written ≡ Some t). refl }
job_log (call ∷ left) tail written s a other is logs = log_goes tail call left written s a other (subst (λ (calls : List StoreCall). Makes calls s.ending written s.adding a) is logs)

-- no job begins with the tail
switch_plain : (odd : Bool) (gate : Gate) (text : List ℕ) → writes_tail (switch_calls odd gate text) ≡ false
switch_plain odd Absent text = refl
switch_plain odd Closed text = refl
switch_plain odd Torn text = refl
switch_plain odd Open text = refl

pub begins_plain : (job : Begun) (s : StoreState) → s.running ≡ [] → writes_tail (begins job s).running ≡ false
begins_plain NoJob s idle = ap writes_tail idle
begins_plain (Close odd) s idle = refl
begins_plain Repair s idle = refl
begins_plain (Switch snapshot) s idle = switch_plain (not (side s)) (slot_gate_of (not (side s)) s) (checkpoint_text (record { generation = s.generation + 1; snapshot = snapshot }))
begins_plain (AddGroup group) s idle = refl

plain_first : (calls : List StoreCall) (tail : Tail) → writes_tail calls ≡ false → (ended_by tail calls None ≡ None) × (written_by tail calls None ≡ None)
plain_first [] tail plain = (refl, refl)
plain_first (On device call ∷ []) tail plain = (refl, refl)
plain_first (On device call ∷ (more ∷ left)) tail plain = (refl, refl)
plain_first (WriteTail ∷ left) tail plain = absurd cc

-- a job that has begun, and its first call
both : (s m n : StoreState) (a b c : Aim) (ended written : Option Tail) → ended ≡ None → written ≡ None → LogGoes None None s a m b → LogGoes ended written m b n c → LogGoes ended written s a n c
both s m n a b c ended written none unwritten g h =
    let k = subst (λ (e : Option Tail). LogGoes e written m b n c) none h in
    subst (λ (e : Option Tail). LogGoes e written s a n c) (sym none)
    (record {
      logs = k.logs;
      log = k.log ∙ g.log;
      present_is = k.present_is ∙ g.present_is;
      next = λ (t : Tail) (is : written ≡ Some t). no_tail_is (next_log t n ≡ next_log t s) t (sym unwritten ∙ is);
    })

pub log_called : (stops : List ℕ → Bool) (tail : Tail) (other : Kept) (written : Option Tail) (s : StoreState) (a : Aim) → Logs written s a
    → LogGoes (ended_then stops tail s written) (written_then stops tail s written) s a (store_called stops tail s) (aim_then stops tail other s a)
log_called stops tail other written s a logs = by (some s.running) refl
  where
    by : (t : Bool) → some s.running ≡ t
        → LogGoes (ended_by tail (cond t s (begins (due_job stops s) s)).running written) (written_by tail (cond t s (begins (due_job stops s) s)).running written) s a
        (job_called tail (cond t s (begins (due_job stops s) s)).running (cond t s (begins (due_job stops s) s)))
        (aim_first tail (cond t s (begins (due_job stops s) s)).running other (cond t a (aim_begins (due_job stops s) s a)))
    by true is = job_log s.running tail written s a other refl logs
    by false is =
        let idle = no_calls s.running is in
        let rest = rest_is written s a idle logs in
        let g = log_begin stops s a idle rest.1 in
        let job = begins (due_job stops s) s in
        let plain = plain_first job.running tail (begins_plain (due_job stops s) s idle) in
        subst
        (λ (w : Option Tail). LogGoes (ended_by tail (begins (due_job stops s) s).running w) (written_by tail (begins (due_job stops s) s).running w) s a
        (job_called tail (begins (due_job stops s) s).running (begins (due_job stops s) s)) (aim_first tail (begins (due_job stops s) s).running other (aim_begins (due_job stops s) s a)))
        (sym rest.0)
        (both s job (job_called tail job.running job) a (aim_begins (due_job stops s) s a) (aim_first tail job.running other (aim_begins (due_job stops s) s a)) (ended_by tail job.running None) (written_by tail job.running None) plain.0 plain.1 g
        (job_log job.running tail None job (aim_begins (due_job stops s) s a) other refl g.logs))

-- ---- a store that is opened, and what is given

pub log_opened : (images : Images) (kept other : Kept) (next : Checkpoint) → Logs None (store_opened images) (at_rest kept other next) × (log_of (store_opened images) (at_rest kept other next) ≡ kept.entries)
log_opened images kept other next = ((refl, refl), append-nil kept.entries)

pub log_given : (written : Option Tail) (s : StoreState) (a : Aim) (entries : List (List ℕ)) → Logs written s a → Logs written (given entries s) a × (log_of (given entries s) a ≡ log_of s a ++ entries)
log_given written s a entries logs = (
  logs,
  ap (λ (l : List (List ℕ)). a.kept.entries ++ l) (sym (append_assoc s.adding s.waiting entries))
      ∙ sym (append_assoc a.kept.entries (s.adding ++ s.waiting) entries),
)

drop_front : (n : ℕ) (xs ys : List (List ℕ)) → n ≤ length xs → drop n (xs ++ ys) ≡ drop n xs ++ ys
drop_front zero xs ys few = refl
drop_front (suc n) [] ys few = absurd (omega (arith, few))
drop_front (suc n) (x ∷ xs) ys few = drop_front n xs ys (omega (arith, few))

pub next_given : (tail : Tail) (s : StoreState) (entries : List (List ℕ)) → firm_by tail.made s - s.firm ≤ length s.waiting → next_log tail (given entries s) ≡ next_log tail s ++ entries
next_given tail s entries few =
    ap (λ (l : List (List ℕ)). tail.entries ++ l) (drop_front (firm_by tail.made s - s.firm) s.waiting entries few) ∙ sym (append_assoc tail.entries (drop (firm_by tail.made s - s.firm) s.waiting) entries)
