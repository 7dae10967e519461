use Rattle.std.proofs.Common.{refl, ap, sym}
use Rattle.check_worker.specs.declared.worker.CheckWorker.{CheckWorker}
use Rattle.log_lane.specs.Lane.{lane_taken}
use Rattle.group_parties.proofs.Working.{over-or, work-made}
use Rattle.group_parties.proofs.playing.play_as.Goals as goal

pub returns-clause-made : goal.returns-clause-made
returns-clause-made g c =
    let d = g.D.Disk in
    let p = g.P.GroupLife in
    let n = g.M.Numbered.number in
    let w = c.workers_of-log.ensures.same in
    let k = c.work_once-work in
    let s = c.desk_of.ensures.same in
    work-made d.told d.remembers d.cells d.moment d.left_since d.faults g.S.Service.meaning (p.opening n) (p.lane n) (p.restored n) _ c.args.desk c.desk_of.result
    (lane_taken c.workers_of-log.result.log.lane) (lane_taken k.new.log.lane) c.workers_of-log.result.log.store k.new.log.store k.new.log.faulty c.workers_of-log.result.checker.last k.new.checker.last
    (ap lane_taken w.0) w.1.0 (ap (λ (x : CheckWorker). x.last) w.1.1) (sym (ap lane_taken s.0)) (sym s.1.0) (sym s.1.1.0) (ap (λ (x : CheckWorker). x.last) (sym s.1.1.1))
    c.desk_of.ensures.desk k.ensures.made k.ensures.rises k.ensures.checked refl refl

pub returns-clause-over : goal.returns-clause-over
returns-clause-over g c =
    let k = c.work_once-work in
    let s = c.desk_of.ensures.same in
    over-or k.result.logged k.new.log.faulty c.desk_of.result.faulty c.round_by-round.ensures.over k.ensures.made.whole s.1.1.0
