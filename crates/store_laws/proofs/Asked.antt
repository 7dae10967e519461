-- What holds of each snapshot that a store is asked to switch to, and of those that it restored, holds of all that a crash may restore.
use Rattle.std.proofs.Common.{◌≡◌, ◌⊎◌, inl, inr, ℕ, ◌+◌, nat_lt, Bool, true, false, cond, not, List, [], ◌∷◌, length, Option, Some, None, IfSome, refl, sym, subst}
use Rattle.store_form.specs.Spelling.{group_text, checkpoint_text}
use Rattle.store_form.specs.declared.checkpoint.Checkpoint.{Checkpoint}
use Rattle.store_laws.specs.Restored.{Images}
use Rattle.store_laws.specs.States.{StoreState, side, slot_gate_of, greatest, is_torn, some, switch_calls, Begun, Close, Repair, Switch, of_group, of_asked, group_of, due_job, begins, advanced, ends, job_called, store_called, store_opened, given, asked}
use Rattle.store_laws.specs.Lives.{StoreWire, StoreNext}
use Rattle.store_laws.specs.Stands.{Aim, at_rest, IsOwn, aim_called, aim_begins}
use Rattle.store_laws.specs.Runs.{aim_first, aim_then}
use Rattle.store_laws.specs.Stakes.{Stakes, StakesIn}
use Rattle.store_laws.specs.Logs.{MakesBy, Makes, Logs}
use Rattle.store_laws.specs.Asked.{Snapshot, NextBy, NextIn, Snapshots}
use Rattle.store_laws.specs.declared.job.Kept.{Kept}
use Rattle.store_laws.specs.declared.job.Tail.{Tail}
use Rattle.store_laws.specs.declared.job.Gate.{Gate}
use Rattle.store_laws.specs.declared.job.Gate.TheVariants.{Absent, Closed, Torn, Open}
use Rattle.store_laws.specs.declared.job.Ending.{Ending}
use Rattle.store_laws.specs.declared.job.Ending.TheVariants.{Closes, Repairs, Adds, Switches}
use Rattle.store_laws.specs.declared.job.StoreCall.{StoreCall}
use Rattle.store_laws.specs.declared.job.StoreCall.TheVariants.{On, WriteTail}
use Rattle.store_laws.proofs.Given.{no_calls}
use Rattle.store_laws.proofs.Logged.{log_begins}
use Rattle.store_laws.proofs.Stakes.{stakes_begins, stakes_ends}

module _ (P : List ℕ → Type 0) where
  -- ---- a job begins

  switch_next : (odd : Bool) (gate : Gate) (text : List ℕ) (next : Checkpoint) → P next.snapshot → NextIn P (switch_calls odd gate text) (Switches 0 0) next
  switch_next odd Absent text next p = p
  switch_next odd Closed text next p = p
  switch_next odd Torn text next p = p
  switch_next odd Open text next p = p

  module _ (stops : List ℕ → Bool) (s : StoreState) (a : Aim) (idle : s.running ≡ []) (w : Snapshots P s a) where
    abbrev Begins : Begun → Type 0
    Begins job = Snapshots P (begins job s) (aim_begins job s a)

    close : (odd : Bool) → Begins (Close odd)
    close odd = record { asked = w.asked; next = tt; kept = w.kept; stake = w.stake; gated = w.stake; then = w.kept }

    repair : Begins Repair
    repair = record { asked = w.asked; next = tt; kept = w.kept; stake = w.stake; gated = w.stake; then = w.kept }

    switch : (snapshot : List ℕ) → P snapshot → Begins (Switch snapshot)
    switch snapshot p = record {
      asked = tt;
      next =
          switch_next (not (side s)) (slot_gate_of (not (side s)) s) (checkpoint_text (record { generation = s.generation + 1; snapshot = snapshot })) (record { generation = s.generation + 1; snapshot = snapshot }) p;
      kept = w.kept;
      stake = w.kept;
      gated = w.kept;
      then = w.kept;
    }

    group : (entries : List (List ℕ)) → Begins (of_group entries)
    group [] = w
    group (entry ∷ entries) = record { asked = w.asked; next = tt; kept = w.kept; stake = w.kept; gated = w.kept; then = w.kept }

    last : (o : Option (List ℕ)) → IfSome o P → Begins (of_asked o (of_group (group_of stops s.waiting)))
    last None p = group (group_of stops s.waiting)
    last (Some snapshot) p = switch snapshot p

    may_ask : (t : Bool) → IfSome (cond t s.asked None) P
    may_ask true = w.asked
    may_ask false = tt

    choose : (even odd torn : Bool) → Begins (cond even (Close false) (cond odd (Close true) (cond torn Repair (of_asked (cond (nat_lt s.generation greatest) s.asked None) (of_group (group_of stops s.waiting))))))
    choose true odd torn = close false
    choose false true torn = close true
    choose false false true = repair
    choose false false false = last (cond (nat_lt s.generation greatest) s.asked None) (may_ask (nat_lt s.generation greatest))

    snapshots_begin : Begins (due_job stops s)
    snapshots_begin = choose (is_torn s.even) (is_torn s.odd) s.torn

  -- ---- the next call

  -- the tail is written by a switch alone
  tail_next : (e : Ending) (left : List StoreCall) (written : Option Tail) (adding : List (List ℕ)) (a : Aim) → MakesBy e (WriteTail ∷ left) written adding a → NextBy P e a.next → P a.next.snapshot
  tail_next (Closes odd) left written adding a m p = absurd m.plain
  tail_next Repairs left written adding a m p = absurd m.plain
  tail_next (Adds end) left written adding a m p = absurd m.plain
  tail_next (Switches end last) left written adding a m p = p

  more_next : (tail : Tail) (call more : StoreCall) (left : List StoreCall) (written : Option Tail) (s : StoreState) (a : Aim) → MakesBy s.ending (call ∷ (more ∷ left)) written s.adding a → IfSome s.asked P → NextBy P s.ending a.next
      → Snapshot P a.kept → Snapshot P a.stake → Snapshot P a.gated → Snapshot P a.then → Snapshots P (advanced tail call (more ∷ left) s) (aim_called tail call (more ∷ left) a)
  more_next tail (On device call) more [] written s a m waits next kept stake gated then = record { asked = waits; next = next; kept = kept; stake = gated; gated = gated; then = then }
  more_next tail (On device call) more (last ∷ left) written s a m waits next kept stake gated then = record { asked = waits; next = next; kept = kept; stake = stake; gated = gated; then = then }
  more_next tail WriteTail more [] written s a m waits next kept stake gated then =
      let p = tail_next s.ending (more ∷ []) written s.adding a m next in
      record { asked = waits; next = p; kept = kept; stake = p; gated = p; then = p }
  more_next tail WriteTail more (last ∷ left) written s a m waits next kept stake gated then =
      let p = tail_next s.ending (more ∷ (last ∷ left)) written s.adding a m next in
      record { asked = waits; next = p; kept = kept; stake = stake; gated = p; then = p }

  rests : (e : Ending) (q : StoreState) (then other : Kept) (next : Checkpoint) → IfSome q.asked P → Snapshot P then → Snapshot P other → Snapshots P (ends e q) (at_rest then other next)
  rests (Closes odd) q then other next waits p o = record { asked = waits; next = tt; kept = p; stake = o; gated = o; then = p }
  rests Repairs q then other next waits p o = record { asked = waits; next = tt; kept = p; stake = o; gated = o; then = p }
  rests (Adds end) q then other next waits p o = record { asked = waits; next = tt; kept = p; stake = o; gated = o; then = p }
  rests (Switches end last) q then other next waits p o = record { asked = waits; next = tt; kept = p; stake = o; gated = o; then = p }

  one_of : (then stake other : Kept) (s : StoreState) → Snapshot P then → Snapshot P stake → (other ≡ then) ⊎ ((s.torn ≡ true) × (other ≡ stake)) → Snapshot P other
  one_of then stake other s p q (inl is) = subst (λ (k : Kept). Snapshot P k) (sym is) p
  one_of then stake other s p q (inr is) = subst (λ (k : Kept). Snapshot P k) (sym is.1) q

  job_snapshots : (calls : List StoreCall) (tail : Tail) (written : Option Tail) (s : StoreState) (a : Aim) (other : Kept) → s.running ≡ calls → Makes calls s.ending written s.adding a → StakesIn calls s a → NextIn P calls s.ending a.next
      → IsOwn (job_called tail calls s) (aim_first tail calls other a) → Snapshots P s a → Snapshots P (job_called tail calls s) (aim_first tail calls other a)
  job_snapshots [] tail written s a other is m k next own w = w
  job_snapshots (On device call ∷ []) tail written s a other is m k next own w =
      rests s.ending (advanced tail (On device call) [] s) a.then other a.next w.asked w.then (one_of a.then a.stake other s w.then w.stake (stakes_ends tail (On device call) s a other k own))
  job_snapshots (WriteTail ∷ []) tail written s a other is m k next own w =
      let p = tail_next s.ending [] written s.adding a m next in
      rests (Switches (1 + length (group_text tail.entries)) tail.made) (advanced tail WriteTail [] s) (aim_called tail WriteTail [] a).then other a.next w.asked p
      (one_of (aim_called tail WriteTail [] a).then a.stake other s p w.stake (stakes_ends tail WriteTail s a other k own))
  job_snapshots (call ∷ (more ∷ left)) tail written s a other is m k next own w = more_next tail call more left written s a m w.asked next w.kept w.stake w.gated w.then

  pub snapshots_called : (stops : List ℕ → Bool) (tail : Tail) (other : Kept) (written : Option Tail) (s : StoreState) (a : Aim) → IsOwn s a → Logs written s a → Stakes s a
      → IsOwn (store_called stops tail s) (aim_then stops tail other s a) → Snapshots P s a → Snapshots P (store_called stops tail s) (aim_then stops tail other s a)
  snapshots_called stops tail other written s a own logs stakes own_then w = by (some s.running) refl own_then
    where
      by : (t : Bool) → some s.running ≡ t
          → IsOwn (job_called tail (cond t s (begins (due_job stops s) s)).running (cond t s (begins (due_job stops s) s)))
          (aim_first tail (cond t s (begins (due_job stops s) s)).running other (cond t a (aim_begins (due_job stops s) s a)))
          → Snapshots P (job_called tail (cond t s (begins (due_job stops s) s)).running (cond t s (begins (due_job stops s) s)))
          (aim_first tail (cond t s (begins (due_job stops s) s)).running other (cond t a (aim_begins (due_job stops s) s a)))
      by true is after = job_snapshots s.running tail written s a other refl logs stakes w.next after w
      by false is after =
          let idle = no_calls s.running is in
          let m = begins (due_job stops s) s in
          let b = aim_begins (due_job stops s) s a in
          let g = log_begins stops written s a idle logs in
          let v = snapshots_begin stops s a idle w in
          job_snapshots m.running tail None m b other refl g.logs (stakes_begins stops s a idle own) v.next after v

  -- ---- what is opened, given and asked, and a crash

  pub snapshots_opened : (images : Images) (kept other : Kept) (next : Checkpoint) → Snapshot P kept → Snapshot P other → Snapshots P (store_opened images) (at_rest kept other next)
  snapshots_opened images kept other next p o = record { asked = tt; next = tt; kept = p; stake = o; gated = o; then = p }

  pub snapshots_given : (s : StoreState) (a : Aim) (entries : List (List ℕ)) → Snapshots P s a → Snapshots P (given entries s) a
  snapshots_given s a entries w = record { asked = w.asked; next = w.next; kept = w.kept; stake = w.stake; gated = w.gated; then = w.then }

  pub snapshots_asked : (s : StoreState) (a : Aim) (snapshot : List ℕ) → P snapshot → Snapshots P s a → Snapshots P (asked snapshot s) a
  snapshots_asked s a snapshot p w = record { asked = p; next = w.next; kept = w.kept; stake = w.stake; gated = w.gated; then = w.then }

  pub snapshots_left : (images : Images) (kept other : Kept) → Snapshot P kept → Snapshot P other → StoreNext images kept other
      → (now : Kept) × ((instead : Kept) × (StoreWire images now instead × (Snapshot P now × Snapshot P instead)))
  snapshots_left images kept other p o (inl wire) = (kept, (kept, (wire, (p, p))))
  snapshots_left images kept other p o (inr (inl wire)) = (kept, (other, (wire, (p, o))))
  snapshots_left images kept other p o (inr (inr wire)) = (other, (other, (wire, (o, o))))
