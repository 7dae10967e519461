use Rattle.store_laws.specs.States.{begun}
use Rattle.store_plan.specs.Plans.{state_with}
use Rattle.durable_store.proofs.Four.{same_others}
use Rattle.durable_store.proofs.Nexts.{first_there, first_goes, went_called, went_made, went_done, went_one, went_unchanged, went_held, went_crash, went_moments, went_stands}
use Rattle.durable_store.proofs.store.Store.next_call.Goals as goal

pub make_first-requires-clause-there : goal.make_first-requires-clause-there
make_first-requires-clause-there g c = first_there g.D.Disk.told g.D.Disk.cells g.D.Disk.moment g.D.Disk.left_since g.E.Stops.stops c.args.tail.now c.args.self.now.plan (record { disks = c.args.self.now.disks; plan = c.make_ready.new.plan; state = c.args.self.now.state }) c.in_ok-make_ready.ensures.ready

pub make_first-requires-clause-can : goal.make_first-requires-clause-can
make_first-requires-clause-can g c = λ told. first_goes g.D.Disk.told g.D.Disk.cells g.D.Disk.moment g.D.Disk.left_since g.E.Stops.stops c.args.tail.now c.args.self.now.plan (record { disks = c.args.self.now.disks; plan = c.make_ready.new.plan; state = c.args.self.now.state }) c.in_ok-make_ready.ensures.ready c.in_ok-make_ready.ensures.fits (c.requires.sound c.in_ok-make_ready.ensures.open told)

pub returns-clause-called : goal.returns-clause-called
returns-clause-called g c = went_called g.D.Disk.told g.D.Disk.cells g.D.Disk.moment g.D.Disk.left_since g.E.Stops.stops c.args.tail.now c.args.self.now.plan (record { disks = c.args.self.now.disks; plan = c.make_ready.new.plan; state = c.args.self.now.state }) c.in_ok-make_ready.ensures.ready c.in_ok-make_ready.ensures.fits c.make_first.new.self c.make_first.result c.make_first.ensures.went

pub returns-clause-made : goal.returns-clause-made
returns-clause-made g c = went_made g.D.Disk.told g.D.Disk.cells g.D.Disk.moment g.D.Disk.left_since g.E.Stops.stops c.args.tail.now c.args.self.now.plan (record { disks = c.args.self.now.disks; plan = c.make_ready.new.plan; state = c.args.self.now.state }) c.in_ok-make_ready.ensures.ready c.in_ok-make_ready.ensures.fits c.make_first.new.self c.make_first.result c.make_first.ensures.went

pub returns-clause-done : goal.returns-clause-done
returns-clause-done g c = went_done g.D.Disk.told g.D.Disk.cells g.D.Disk.moment g.D.Disk.left_since g.E.Stops.stops c.args.tail.now c.args.self.now.plan (record { disks = c.args.self.now.disks; plan = c.make_ready.new.plan; state = c.args.self.now.state }) c.in_ok-make_ready.ensures.ready c.in_ok-make_ready.ensures.fits c.make_first.new.self c.make_first.result c.make_first.ensures.went

pub returns-clause-one : goal.returns-clause-one
returns-clause-one g c = went_one g.D.Disk.told g.D.Disk.cells g.D.Disk.moment g.D.Disk.left_since g.E.Stops.stops c.args.tail.now c.args.self.now.plan (record { disks = c.args.self.now.disks; plan = c.make_ready.new.plan; state = c.args.self.now.state }) c.in_ok-make_ready.ensures.ready c.in_ok-make_ready.ensures.fits c.make_first.new.self c.make_first.result c.make_first.ensures.went

pub returns-clause-unchanged : goal.returns-clause-unchanged
returns-clause-unchanged g c = went_unchanged g.D.Disk.told g.D.Disk.cells g.D.Disk.moment g.D.Disk.left_since g.E.Stops.stops c.args.tail.now c.args.self.now.plan (record { disks = c.args.self.now.disks; plan = c.make_ready.new.plan; state = c.args.self.now.state }) c.in_ok-make_ready.ensures.ready c.in_ok-make_ready.ensures.fits c.make_first.new.self c.make_first.result _ c.make_first.ensures.went

pub returns-clause-held : goal.returns-clause-held
returns-clause-held g c = went_held g.D.Disk.told g.D.Disk.cells g.D.Disk.moment g.D.Disk.left_since g.E.Stops.stops c.args.tail.now c.args.self.now.plan (record { disks = c.args.self.now.disks; plan = c.make_ready.new.plan; state = c.args.self.now.state }) c.in_ok-make_ready.ensures.ready c.in_ok-make_ready.ensures.fits c.make_first.new.self c.make_first.result c.make_first.ensures.went

pub returns-clause-crash : goal.returns-clause-crash
returns-clause-crash g c = λ is_open. went_crash g.D.Disk.told g.D.Disk.cells g.D.Disk.moment g.D.Disk.left_since g.E.Stops.stops c.args.tail.now c.args.self.now.plan (record { disks = c.args.self.now.disks; plan = c.make_ready.new.plan; state = c.args.self.now.state }) c.in_ok-make_ready.ensures.ready c.in_ok-make_ready.ensures.fits c.make_first.new.self c.make_first.result c.make_first.ensures.went

pub returns-clause-any_moment : goal.returns-clause-any_moment
returns-clause-any_moment g c = λ is_open told remembers. went_moments g.D.Disk.told g.D.Disk.cells g.D.Disk.moment g.D.Disk.left_since g.E.Stops.stops c.args.tail.now c.args.self.now.plan (record { disks = c.args.self.now.disks; plan = c.make_ready.new.plan; state = c.args.self.now.state }) c.in_ok-make_ready.ensures.ready c.in_ok-make_ready.ensures.fits c.make_first.new.self c.make_first.result (g.met.D.Disk.only_now remembers) c.make_first.ensures.went told

pub returns-clause-stands : goal.returns-clause-stands
returns-clause-stands g c = went_stands g.D.Disk.told g.D.Disk.cells g.D.Disk.moment g.D.Disk.left_since g.E.Stops.stops c.args.tail.now c.args.self.now.plan (record { disks = c.args.self.now.disks; plan = c.make_ready.new.plan; state = c.args.self.now.state }) c.in_ok-make_ready.ensures.ready c.in_ok-make_ready.ensures.fits c.make_first.new.self c.make_first.result (λ told. c.requires.sound c.in_ok-make_ready.ensures.open told) c.make_first.ensures.went

pub returns-in_err-make_ready-clause-one : goal.returns-in_err-make_ready-clause-one
returns-in_err-make_ready-clause-one g c = λ d. same_others (begun g.E.Stops.stops (state_with c.args.self.now.plan d)) (begun g.E.Stops.stops (state_with c.args.self.now.plan d)).running c.args.self.now.disks
