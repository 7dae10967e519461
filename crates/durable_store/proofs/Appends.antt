-- A run of a store that was given entries.
use Rattle.std.proofs.Common.{◌≡◌, inl, ℕ, Bool, List, [], ◌++◌, take, None, Result, Ok, Err, OnErr, refl, sym, ◌∙◌, ap, subst, arith}
use Rattle.disk_model.specs.Cells.{Cells}
use Rattle.store_form.specs.declared.ends.State.TheVariants.{Open}
use Rattle.store_laws.specs.States.{Devices, StoreState, given}
use Rattle.store_laws.specs.Runs.{called_times}
use Rattle.store_laws.specs.declared.job.StoreCall.{StoreCall}
use Rattle.store_laws.specs.declared.job.Tail.{Tail}
use Rattle.store_plan.specs.declared.plan.Plan.{Plan}
use Rattle.store_plan.specs.Plans.{state_with, waits}
use Rattle.durable_store.specs.Runs.{Ran, IsNoSwitch, IsUnasked, no_tail, taken_by}
use Rattle.durable_store.specs.declared.disks.Disks.{Disks}
use Rattle.durable_store.specs.declared.store.Store.{Store}
use Rattle.durable_store.proofs.Held.{idle_no_switch}

pub given_unasked : (s : StoreState) (entries : List (List ℕ)) → IsUnasked s → IsUnasked (given entries s)
given_unasked s entries u = record { asked = u.asked; job = u.job }

pub waits_unasked : (s : StoreState) (entries : List (List ℕ)) → IsUnasked s → IsUnasked (waits entries s)
waits_unasked s entries u = record { asked = u.asked; job = u.job }

-- of a store that was just opened no switch runs or waits
pub idle_unasked : (p : Plan) (d : Devices) → p.running ≡ [] → p.asked ≡ None → IsUnasked (state_with p d)
idle_unasked p d idle none = record { asked = none; job = subst (λ (calls : List StoreCall). IsNoSwitch calls p.ending) (sym idle) (idle_no_switch p.ending) }

module _ {D : Type 0} (told remembers : Type 0) (cells : D → Cells) (moment : D → ℕ) (left_since : D → ℕ → List ℕ → Type 0) (stops : List ℕ → Bool) where
  abbrev Run : Tail → (Devices → StoreState) → (StoreState → StoreState) → Disks D → Store D → Type 0
  Run tail first last old new = Ran told remembers cells moment left_since stops tail first last old new

  -- the same run, with its tail and its beginning told in another way
  pub run_from : (tail tail_too : Tail) (first first_too : Devices → StoreState) (last : StoreState → StoreState) (old old_too : Disks D) (new : Store D) → tail ≡ tail_too → ((d : Devices) → first d ≡ first_too d) → old ≡ old_too
      → Ran told remembers cells moment left_since stops tail first last old new → Ran told remembers cells moment left_since stops tail_too first_too last old_too new
  run_from tail tail_too first first_too last old old_too new tail_is first_is old_is run =
      let firsts : first ≡ first_too = λ i. λ d. first_is d i in
      let one : Run tail first last old_too new = subst (λ (o : Disks D). Run tail first last o new) old_is run in
      let two : Run tail first_too last old_too new = subst (λ (f : Devices → StoreState). Run tail f last old_too new) firsts one in
      subst (λ (t : Tail). Run t first_too last old_too new) tail_is two

  -- no call was made, and nothing was taken
  pub none_taken : {T E : Type 0} (r : Result T E) (e : E) → r ≡ Err e → (entries : List (List ℕ)) (old new : Store D) → new ≡ old
      → (run : Ran told remembers cells moment left_since stops no_tail (λ d. given entries (state_with old.plan d)) (taken_by r old.plan.waiting) old.disks new)
      × OnErr r (new.state ≡ Open → (d : Devices) → (called_times stops no_tail run.calls (given entries (state_with old.plan d))).waiting ≡ old.plan.waiting ++ entries)
  none_taken (Ok x) e is entries old new same = absurd cc
  none_taken (Err f) e is entries old new same =
      subst
      (λ (n : Store D).
      (run : Ran told remembers cells moment left_since stops no_tail (λ d. given entries (state_with old.plan d)) (λ q. waits old.plan.waiting q) old.disks n)
      × (n.state ≡ Open → (d : Devices) → (called_times stops no_tail run.calls (given entries (state_with old.plan d))).waiting ≡ old.plan.waiting ++ entries))
      (sym same) (
        record {
          calls = 0;
          fits = λ d. tt;
          mid = old.disks;
          passes = refl;
          ended = inl refl;
          contents = λ t. refl;
          still = λ is_open. refl;
          plan = λ is_open d. refl;
          firm = λ d. refl;
          generation = λ d. refl;
          crash = λ t images m. record { call = 0; among = omega arith; leaves = inl m };
        },
        λ is_open d. refl,
      )

  -- what was given is taken back
  pub taken_back : (tail : Tail) (first : Devices → StoreState) (old : Disks D) (t : Store D) (back : Plan) (count : ℕ) (waited all : List (List ℕ)) → Ran told remembers cells moment left_since stops tail first (λ q. q) old t
      → ((d : Devices) → state_with back d ≡ waits (take count t.plan.waiting) (state_with t.plan d)) → (t.state ≡ Open → take count t.plan.waiting ≡ waited)
      → (t.state ≡ Open → t.plan.waiting ≡ all)
      → (x : Ran told remembers cells moment left_since stops tail first (λ q. waits waited q) old (record { disks = t.disks; plan = back; state = t.state }))
      × (t.state ≡ Open → (d : Devices) → (called_times stops tail x.calls (first d)).waiting ≡ all)
  taken_back tail first old t back count waited all run back_is is all_is = (
    record {
      calls = run.calls;
      fits = run.fits;
      mid = run.mid;
      passes = run.passes;
      ended = run.ended;
      contents = run.contents;
      still = run.still;
      plan = λ is_open d.
          back_is (called_times stops tail run.calls (first d)).devices
          ∙ ap (λ (q : StoreState). waits (take count t.plan.waiting) q) (run.plan is_open d)
          ∙ ap (λ (w : List (List ℕ)). waits w (called_times stops tail run.calls (first d))) (is is_open);
      firm = λ d. ap (λ (q : StoreState). q.firm) (back_is (called_times stops tail run.calls (first d)).devices) ∙ run.firm d;
      generation = λ d. ap (λ (q : StoreState). q.generation) (back_is (called_times stops tail run.calls (first d)).devices) ∙ run.generation d;
      crash = run.crash;
    },
    λ is_open d. sym (ap (λ (q : StoreState). q.waiting) (run.plan is_open d)) ∙ all_is is_open,
  )
