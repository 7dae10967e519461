use Rattle.std.proofs.Common.{◌≡◌, true, ◌∙◌, sym, ap}
use Rattle.disk_model.specs.Memory.{plain_cells}
use Rattle.store_laws.specs.States.{StoreState, asked}
use Rattle.durable_store.specs.Stores.{state_of}
use Rattle.member_store.specs.Members.{MemberState}
use Rattle.member_store.specs.Devices.{state_in}
use Rattle.member_store.proofs.Called.{asked_over}
use Rattle.member_store.proofs.store.MemberStore.ask.Goals.{in-Ok, in-Err}
use Rattle.member_store.proofs.store.MemberStore.ask.Goals as goal

abbrev running : StoreState → MemberState
running s = record { runs = true; state = s }

-- a switch that waits changes nothing of what runs
pub invariant_of-self-2 : goal.invariant_of-self-2
invariant_of-self-2 c = λ is. c.start.ensures.stands (rw c.in-Running.is at c.self.invariant (sym c.start.ensures.state ∙ is))

pub returns-clause-runs : goal.returns-clause-runs
returns-clause-runs c = elim c.match-start.branch [
  | in-Ok w ↦ rw w.result-is (λ runs.
      let view : running (state_of plain_cells c.in-Running.store) ≡ c.args.self.now = ap (λ d. state_in d) (sym c.in-Running.is) ∙ c.self.view_is in
      ap (λ s. running s)
      (asked_over c.args.snapshot c.in-Running.store c.start.new.self w.in-Ok.ensures.started w.in-Ok.ensures.disks
      ∙ ap (λ (v : MemberState). asked c.args.snapshot v.state) view))
  | in-Err w ↦ rw w.result-is tt
]
