use Rattle.std.proofs.Common.{Ok, Err, ap, sym, true≢false, ◌∙◌}
use Rattle.store_laws.specs.Stops.{is_installed}
use Rattle.log_lane.specs.Lane.{lane_heard_put, lane_taken}
use Rattle.durable_store.proofs.Faults.{disk_failed, fell_none}
use Rattle.node_endings.proofs.Chained.{no_rounds, more_rounds}
use Rattle.node_endings.proofs.Ends.{over_failed}
use Rattle.group_parties.proofs.playing.log_once.Goals as goal

pub returns-in-Ok : goal.returns-in-Ok
returns-in-Ok g c =
    let d = g.D.Disk in
    let old = c.args.log.now in
    let e = c.in-Ok.ensures in record {
      made = record {
        rose = e.rose;
        rounds = more_rounds d.told d.remembers d.cells d.moment d.left_since is_installed g.S.Service.meaning (g.P.GroupLife.opening g.M.Numbered.number) g.H.Home.restored old.faulty _ _ (lane_heard_put old.lane) _ _ _ _ _ (Ok c.in-Ok.field-0) c.requires.work.whole
            (no_rounds d.told d.remembers d.cells d.moment d.left_since is_installed g.S.Service.meaning (g.P.GroupLife.opening g.M.Numbered.number) g.H.Home.restored old.faulty (lane_taken old.lane) old.store c.requires.work.whole)
            e.done e.failed e.whole e.fails;
        whole = λ _. e.whole;
        sound = λ tells _. e.stands tells;
        cause = record { rose = λ is. absurd (over_failed is) };
        later = e.later;
      };
    }

pub returns-in-Err : goal.returns-in-Err
returns-in-Err g c =
    let d = g.D.Disk in
    let old = c.args.log.now in
    let e = c.in-Err.ensures in record {
      made = record {
        rose = e.rose;
        rounds = more_rounds d.told d.remembers d.cells d.moment d.left_since is_installed g.S.Service.meaning (g.P.GroupLife.opening g.M.Numbered.number) g.H.Home.restored old.faulty _ _ (lane_heard_put old.lane) _ _ _ _ _ (Err c.in-Err.fault) c.requires.work.whole
            (no_rounds d.told d.remembers d.cells d.moment d.left_since is_installed g.S.Service.meaning (g.P.GroupLife.opening g.M.Numbered.number) g.H.Home.restored old.faulty (lane_taken old.lane) old.store c.requires.work.whole)
            e.done e.failed e.whole e.fails;
        whole = λ fine. absurd (true≢false (sym c.end_of_work.ensures.gave_up ∙ fine));
        sound = λ tells fine. absurd (true≢false (sym e.fails ∙ fine));
        cause = record { rose = λ is. disk_failed d.faults _ _ _ c.in-Err.fault (fell_none d.faults old.store.disks) (λ x. e.cause (ap Err x)) (λ x. e.not_closed (ap Err x)) (c.end_of_work.ensures.failed is) };
        later = e.later;
      };
    }
