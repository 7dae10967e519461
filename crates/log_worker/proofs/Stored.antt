-- What calls of a store make of the numbers of its entries.
use Rattle.std.proofs.Common.{◌≡◌, ℕ, zero, suc, ◌+◌, ◌≤◌, min, Bool, List, [], ◌∷◌, ◌++◌, length, None, sym, ap, subst, arith}
use Rattle.std.proofs.lemmas.List.{length-append}
use Rattle.store_laws.specs.Books.{NoTail}
use Rattle.store_laws.specs.Firm.{not_firm, AddsIn, GroupAdds}
use Rattle.store_laws.specs.Runs.{called_times}
use Rattle.store_laws.specs.States.{Devices, StoreState, greatest, given, asked, store_called}
use Rattle.store_laws.specs.declared.job.Ending.{Ending}
use Rattle.store_laws.specs.declared.job.Ending.TheVariants.{Closes, Repairs, Adds, Switches}
use Rattle.store_laws.specs.declared.job.StoreCall.{StoreCall}
use Rattle.store_laws.specs.declared.job.Tail.{Tail}
use Rattle.store_laws.proofs.Aims.{firm_rises}
use Rattle.store_laws.proofs.Firmed.{call_adds, call_firms, given_adds, asked_adds}
use Rattle.store_form.specs.Spelling.{IsEntry}
use Rattle.store_plan.specs.Fit.{AreEntries}
use Rattle.store_plan.specs.Plans.{state_with}
use Rattle.store_plan.specs.declared.plan.Plan.{Plan}
use Rattle.store_plan.proofs.Due.{nowhere}
use Rattle.durable_store.specs.Runs.{IsNoSwitch, IsUnasked}

-- A store has gone on: entries are firm that were, and each that was not is firm or still is not.
pub record Went (old new : StoreState) : Type 0 where
  pub adds : GroupAdds new
  pub few : new.firm ≤ greatest
  pub rose : old.firm ≤ new.firm
  pub kept : min (old.firm + length (not_firm old)) greatest ≤ new.firm + length (not_firm new)

went-call : (stops : List ℕ → Bool) (tail : Tail) (s : StoreState) → GroupAdds s → s.firm ≤ greatest → Went s (store_called stops tail s)
went-call stops tail s adds few =
    let firms = call_firms stops tail s adds few in
    let rises = firm_rises stops tail s few in
    let enough = firms.firm in
    record {
      adds = call_adds stops tail s adds;
      few = rises.1;
      rose = rises.0;
      kept = omega (arith, enough, ap length firms.all, length-append firms.became (not_firm (store_called stops tail s)));
    }

went-on : (a b c : StoreState) → Went a b → Went b c → Went a c
went-on a b c first next =
    let p = first.kept in
    let q = next.kept in
    record { adds = next.adds; few = next.few; rose = omega (arith, first.rose, next.rose); kept = omega (arith, p, q) }

pub went-run : (stops : List ℕ → Bool) (tail : Tail) (n : ℕ) (s : StoreState) → GroupAdds s → s.firm ≤ greatest → Went s (called_times stops tail n s)
went-run stops tail zero s adds few = record { adds = adds; few = few; rose = omega arith; kept = omega arith }
went-run stops tail (suc n) s adds few =
    let before = went-run stops tail n s adds few in
    went-on s (called_times stops tail n s) (store_called stops tail (called_times stops tail n s)) before (went-call stops tail (called_times stops tail n s) before.adds before.few)

-- ---- a store at rest

pub rest-adds : (p : Plan) (d : Devices) → p.running ≡ [] → p.adding ≡ [] → GroupAdds (state_with p d)
rest-adds p d idle none = subst (λ (calls : List StoreCall). AddsIn calls p.ending p.adding) (sym idle) none

pub no-switch : (calls : List StoreCall) (ending : Ending) → calls ≡ [] → IsNoSwitch calls ending
no-switch calls (Closes odd) none = subst NoTail (sym none) tt
no-switch calls Repairs none = subst NoTail (sym none) tt
no-switch calls (Adds end) none = subst NoTail (sym none) tt
no-switch calls (Switches end made) none = none

pub rest-unasked : (p : Plan) (d : Devices) → p.running ≡ [] → p.asked ≡ None → IsUnasked (state_with p d)
rest-unasked p d idle none = record { asked = none; job = no-switch p.running p.ending idle }

-- ---- after a run from a store at rest

-- no group is under way once no job runs
none-added : (new : Plan) (t : StoreState) → state_with new t.devices ≡ t → GroupAdds t → new.running ≡ [] → new.adding ≡ []
none-added new t is adds idle = subst (λ (calls : List StoreCall). AddsIn calls new.ending new.adding) idle (subst GroupAdds (sym is) adds)

pub given-went : (stops : List ℕ → Bool) (tail : Tail) (n : ℕ) (p : Plan) (d : Devices) (entries : List (List ℕ)) → p.running ≡ [] → p.adding ≡ [] → p.firm ≤ greatest
    → Went (given entries (state_with p d)) (called_times stops tail n (given entries (state_with p d)))
given-went stops tail n p d entries idle none few =
    went-run stops tail n (given entries (state_with p d)) (given_adds (state_with p d) entries (rest-adds p d idle none)) few

pub asked-went : (stops : List ℕ → Bool) (tail : Tail) (n : ℕ) (p : Plan) (d : Devices) (snapshot : List ℕ) → p.running ≡ [] → p.adding ≡ [] → p.firm ≤ greatest
    → Went (asked snapshot (state_with p d)) (called_times stops tail n (asked snapshot (state_with p d)))
asked-went stops tail n p d snapshot idle none few =
    went-run stops tail n (asked snapshot (state_with p d)) (asked_adds (state_with p d) snapshot (rest-adds p d idle none)) few

-- the number of firm entries did not fall
pub given-rose : (stops : List ℕ → Bool) (tail : Tail) (n : ℕ) (p : Plan) (entries : List (List ℕ)) (now : ℕ) → p.running ≡ [] → p.adding ≡ [] → p.firm ≤ greatest
    → now ≡ (called_times stops tail n (given entries (state_with p nowhere))).firm → p.firm ≤ now
given-rose stops tail n p entries now idle none few is =
    let went = given-went stops tail n p nowhere entries idle none few in
    omega (arith, went.rose, is)

pub asked-rose : (stops : List ℕ → Bool) (tail : Tail) (n : ℕ) (p : Plan) (snapshot : List ℕ) (now : ℕ) → p.running ≡ [] → p.adding ≡ [] → p.firm ≤ greatest
    → now ≡ (called_times stops tail n (asked snapshot (state_with p nowhere))).firm → p.firm ≤ now
asked-rose stops tail n p snapshot now idle none few is =
    let went = asked-went stops tail n p nowhere snapshot idle none few in
    omega (arith, went.rose, is)

-- A run from given entries has ended: no group is under way, and what was given is firm or waits.
pub after-given : (stops : List ℕ → Bool) (tail : Tail) (n : ℕ) (old new : Plan) (entries : List (List ℕ)) → old.running ≡ [] → old.adding ≡ [] → old.firm ≤ greatest
    → ((d : Devices) → state_with new (called_times stops tail n (given entries (state_with old d))).devices ≡ called_times stops tail n (given entries (state_with old d)))
    → new.running ≡ []
    → (new.adding ≡ []) × (min (old.firm + (length old.waiting + length entries)) greatest ≤ new.firm + length new.waiting)
after-given stops tail n old new entries idle none few is rests =
    let t = called_times stops tail n (given entries (state_with old nowhere)) in
    let went = given-went stops tail n old nowhere entries idle none few in
    let no = none-added new t (is nowhere) went.adds rests in
    let kept = went.kept in
    let firm : new.firm ≡ t.firm = ap (λ (s : StoreState). s.firm) (is nowhere) in
    let left : new.adding ++ new.waiting ≡ not_firm t = ap not_firm (is nowhere) in (
      no,
      omega (
        arith,
        kept,
        firm,
        ap length left,
        length-append old.adding (old.waiting ++ entries),
        length-append old.waiting entries,
        ap length none,
        length-append new.adding new.waiting,
        ap length no,
      ),
    )

-- The same of a run with a switch.
pub after-asked : (stops : List ℕ → Bool) (tail : Tail) (n : ℕ) (old new : Plan) (snapshot : List ℕ) → old.running ≡ [] → old.adding ≡ [] → old.firm ≤ greatest
    → ((d : Devices) → state_with new (called_times stops tail n (asked snapshot (state_with old d))).devices ≡ called_times stops tail n (asked snapshot (state_with old d)))
    → new.running ≡ []
    → (new.adding ≡ []) × (min (old.firm + length old.waiting) greatest ≤ new.firm + length new.waiting)
after-asked stops tail n old new snapshot idle none few is rests =
    let t = called_times stops tail n (asked snapshot (state_with old nowhere)) in
    let went = asked-went stops tail n old nowhere snapshot idle none few in
    let no = none-added new t (is nowhere) went.adds rests in
    let kept = went.kept in
    let firm : new.firm ≡ t.firm = ap (λ (s : StoreState). s.firm) (is nowhere) in
    let left : new.adding ++ new.waiting ≡ not_firm t = ap not_firm (is nowhere) in (
      no,
      omega (arith, kept, firm, ap length left, length-append old.adding old.waiting, ap length none, length-append new.adding new.waiting, ap length no),
    )

-- one more entry
pub more_entries : (entries : List (List ℕ)) (entry : List ℕ) → AreEntries entries → IsEntry entry → AreEntries (entries ++ entry ∷ [])
more_entries [] entry are is = (is, tt)
more_entries (e ∷ entries) entry are is = (are.0, more_entries entries entry are.1 is)
