use Rattle.std.proofs.Common.{◌∙◌, ◌++◌, inl, sym, ap}
use Rattle.std.proofs.lemmas.Result.{err_from_is_err_and}
use Rattle.log_lane.specs.Lane.{lane_taken}
use Rattle.log_worker.proofs.Fails.{gave_err}
use Rattle.log_worker.proofs.worker.LogWorker.add.Goals as goal

pub returns-in_err-store_group-clause-wrote : goal.returns-in_err-store_group-clause-wrote
returns-in_err-store_group-clause-wrote g c =
    let p = err_from_is_err_and c.from_residual.result c.from_residual.ensures.1 in
    record {
      entries = c.from_vec.result;
      taken_is = c.take_all.ensures.taken ∙ ap (λ l. lane_taken c.args.self.now.lane ++ l) (sym c.from_vec.ensures);
      made = inl (gave_err g.D.Disk.told g.D.Disk.remembers g.D.Disk.cells g.D.Disk.moment g.D.Disk.left_since g.E.Stops.stops c.from_residual.result p.0 p.0 c.from_vec.result c.args.self.now.store c.store_group.new.store p.1 c.in_err-store_group.ensures.ran);
    }

pub returns-clause-wrote : goal.returns-clause-wrote
returns-clause-wrote g c = record {
  entries = c.from_vec.result;
  taken_is = c.raise-taken.ensures.same.0 ∙ c.take_all.ensures.taken ∙ ap (λ l. lane_taken c.args.self.now.lane ++ l) (sym c.from_vec.ensures);
  made = inl c.in_ok-store_group.ensures.ran;
}
