use Rattle.std.proofs.Common.{◌≡◌, ◌≤◌, ◌∙◌, ◌+◌, ◌++◌, List, ℕ, min, length, take, drop, sym, ap, subst}
use Rattle.std.proofs.lemmas.List.{take_at}
use Rattle.std.proofs.lemmas.Result.{err_from_is_err_and}
use Rattle.store_laws.specs.Firm.{GroupAdds}
use Rattle.store_laws.specs.States.{StoreState, greatest, group_of, given}
use Rattle.store_laws.proofs.Given.{any_waits}
use Rattle.store_plan.specs.Plans.{state_with}
use Rattle.store_plan.proofs.Due.{nowhere}
use Rattle.durable_store.specs.Disks.{cells_of}
use Rattle.durable_store.specs.Runs.{IsUnasked, no_tail}
use Rattle.durable_store.specs.Stores.{state_of, Stands}
use Rattle.durable_store.proofs.Appends.{given_unasked, waits_unasked, run_from, none_taken, taken_back}
use Rattle.durable_store.proofs.store.Store.append.Goals as goal

pub returns-in_err-start-clause-ran : goal.returns-in_err-start-clause-ran
returns-in_err-start-clause-ran g c = λ is_open.
    let p = err_from_is_err_and c.from_residual.result c.from_residual.ensures.1 in
    none_taken g.D.Disk.told g.D.Disk.remembers g.D.Disk.cells g.D.Disk.moment g.D.Disk.left_since g.E.Stops.stops c.from_residual.result p.0 p.1 c.args.entries c.args.self.now c.start.new.self c.in_err-start.ensures.err

pub returns-in-Ok-clause-ran : goal.returns-in-Ok-clause-ran
returns-in-Ok-clause-ran g c = λ is_open. (
  run_from g.D.Disk.told g.D.Disk.remembers g.D.Disk.cells g.D.Disk.moment g.D.Disk.left_since g.E.Stops.stops (record { made = 0; entries = c.new.result }) no_tail (λ d. state_with c.start.new.self.plan d) (λ d. given c.args.entries (state_with c.args.self.now.plan d)) (λ q. q) c.start.new.self.disks c.args.self.now.disks c.finish.new.self
      (λ i. record { made = 0; entries = c.new.ensures i }) c.in_ok-start.ensures.started c.in_ok-start.ensures.disks c.finish.ensures.ran,
  tt,
)

pub returns-clause-ran : goal.returns-clause-ran
returns-clause-ran g c = λ was_open.
    let s = c.args.self.now in
    let t = c.finish.new.self in
    let run = run_from g.D.Disk.told g.D.Disk.remembers g.D.Disk.cells g.D.Disk.moment g.D.Disk.left_since g.E.Stops.stops (record { made = 0; entries = c.new.result }) no_tail (λ d. state_with c.start.new.self.plan d) (λ d. given c.args.entries (state_with c.args.self.now.plan d)) (λ q. q) c.start.new.self.disks c.args.self.now.disks c.finish.new.self
    (λ i. record { made = 0; entries = c.new.ensures i }) c.in_ok-start.ensures.started c.in_ok-start.ensures.disks c.finish.ensures.ran in
    let waits_now : t.state ≡ _ → t.plan.waiting ≡ s.plan.waiting ++ c.args.entries = λ is_open.
    c.in-Err.ensures.held nowhere (subst (λ (q : StoreState). IsUnasked q) (sym (c.in_ok-start.ensures.started nowhere)) (given_unasked (state_with s.plan nowhere) c.args.entries (c.requires.unasked was_open nowhere))) is_open
    ∙ ap (λ (q : StoreState). q.waiting) (c.in_ok-start.ensures.started nowhere) in
    taken_back g.D.Disk.told g.D.Disk.remembers g.D.Disk.cells g.D.Disk.moment g.D.Disk.left_since g.E.Stops.stops no_tail (λ d. given c.args.entries (state_with s.plan d)) s.disks t c.take_back.new.self c.len-waited.result s.plan.waiting (s.plan.waiting ++ c.args.entries) run c.take_back.ensures
    (λ is_open. ap (λ (w : List (List ℕ)). take c.len-waited.result w) (waits_now is_open) ∙ take_at s.plan.waiting c.args.entries c.len-waited.result (sym c.len-waited.ensures.value))
    waits_now

pub returns-clause-stands : goal.returns-clause-stands
returns-clause-stands g c = λ is_open told.
    let t = c.finish.new.self in
    let has = c.finish.ensures.stands is_open told in
    subst (λ (q : StoreState). Stands q) (sym (c.take_back.ensures (cells_of g.D.Disk.cells t.disks))) (has.0, any_waits (state_of g.D.Disk.cells t) has.0 (take c.len-waited.result t.plan.waiting) has.1)

-- a switch neither runs nor waits after it
pub returns-in_err-start-clause-unasked : goal.returns-in_err-start-clause-unasked
returns-in_err-start-clause-unasked g c = λ is_open d.
    let was_open = sym (ap (λ q. q.state) c.in_err-start.ensures.err) ∙ is_open in
    subst (λ q. IsUnasked (state_with q.plan d)) (sym c.in_err-start.ensures.err) (c.requires.unasked was_open d)

pub returns-in-Ok-clause-unasked : goal.returns-in-Ok-clause-unasked
returns-in-Ok-clause-unasked g c = λ is_open d.
    c.finish.ensures.unasked is_open d
    (subst (λ (q : StoreState). IsUnasked q) (sym (c.in_ok-start.ensures.started d)) (given_unasked (state_with c.args.self.now.plan d) c.args.entries (c.requires.unasked c.in_ok-start.ensures.closes.0 d)))

pub returns-clause-unasked : goal.returns-clause-unasked
returns-clause-unasked g c = λ is_open d.
    let t = c.finish.new.self in
    let has = c.finish.ensures.unasked is_open d
    (subst (λ (q : StoreState). IsUnasked q) (sym (c.in_ok-start.ensures.started d)) (given_unasked (state_with c.args.self.now.plan d) c.args.entries (c.requires.unasked c.in_ok-start.ensures.closes.0 d))) in
    subst (λ (q : StoreState). IsUnasked q) (sym (c.take_back.ensures d)) (waits_unasked (state_with t.plan d) (take c.len-waited.result t.plan.waiting) has)

-- what became firm, and what waits
pub returns-in-Ok-clause-waits : goal.returns-in-Ok-clause-waits
returns-in-Ok-clause-waits g c =
    let given_is = ap (λ (q : StoreState). q.waiting) (c.in_ok-start.ensures.started nowhere) in
    let left = c.in-Ok.ensures.waits nowhere
    (subst (λ (q : StoreState). IsUnasked q) (sym (c.in_ok-start.ensures.started nowhere)) (given_unasked (state_with c.args.self.now.plan nowhere) c.args.entries (c.requires.unasked c.in_ok-start.ensures.closes.0 nowhere))) in
    left ∙ ap (λ (w : List (List ℕ)). drop (length (group_of g.E.Stops.stops w)) w) given_is

pub returns-in-Ok-clause-firm : goal.returns-in-Ok-clause-firm
returns-in-Ok-clause-firm g c = λ d adds few.
    let is = sym (c.in_ok-start.ensures.started d) in
    let firm = c.in-Ok.ensures.firm d
    (subst (λ (q : StoreState). IsUnasked q) is (given_unasked (state_with c.args.self.now.plan d) c.args.entries (c.requires.unasked c.in_ok-start.ensures.closes.0 d)))
    (subst (λ (q : StoreState). GroupAdds q) is adds)
    (subst (λ (n : ℕ). n ≤ greatest) (ap (λ (q : StoreState). q.firm) is) few) in
    firm ∙ ap (λ (q : StoreState). min ((q.firm + length q.adding) + length (group_of g.E.Stops.stops q.waiting)) greatest) (c.in_ok-start.ensures.started d)
