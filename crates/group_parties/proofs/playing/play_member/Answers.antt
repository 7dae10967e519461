use Rattle.std.proofs.Common.{◌≡◌, Some, rules}
use Rattle.group_parties.proofs.Manned.{again-or, has-desk-more, left-of, worked-more}
use Rattle.group_parties.proofs.playing.play_member.Goals as goal

pub returns-clause-since : goal.returns-clause-since
returns-clause-since g c =
    let d = g.D.Disk in
    let p = g.P.GroupLife in
    let m = c.args.runner.now.member in
    let old : c.args.runner.now.desk ≡ Some c.in-Some.desk = search rules in
    let new : c.put_back.new.place ≡ Some c.play_at-desk.result.desk = search rules in
    let left = left-of d.told d.remembers d.cells d.moment d.left_since g.S.Service.meaning (p.lane m) (p.opening m) (p.restored m) d.faults c.play_at-desk.result.ends c.args.runner.now.desk c.put_back.new.place c.in-Some.desk c.play_at-desk.result.desk old new c.play_at-desk.ensures.made in
    λ origin had. has-desk-more d.told d.remembers d.cells d.moment d.left_since g.S.Service.meaning origin (p.lane m) (p.opening m) (p.restored m) d.faults c.play_at-desk.result.ends c.args.runner.now.desk c.put_back.new.place c.requires.ready had left

pub returns-clause-worked : goal.returns-clause-worked
returns-clause-worked g c =
    let d = g.D.Disk in
    let p = g.P.GroupLife in
    let m = c.args.runner.now.member in
    let old : c.args.runner.now.desk ≡ Some c.in-Some.desk = search rules in
    let new : c.put_back.new.place ≡ Some c.play_at-desk.result.desk = search rules in
    let left = left-of d.told d.remembers d.cells d.moment d.left_since g.S.Service.meaning (p.lane m) (p.opening m) (p.restored m) d.faults c.play_at-desk.result.ends c.args.runner.now.desk c.put_back.new.place c.in-Some.desk c.play_at-desk.result.desk old new c.play_at-desk.ensures.made in
    λ begun had. worked-more d.told d.remembers d.cells d.moment d.left_since g.S.Service.meaning (p.lane m) (p.opening m) (p.restored m) d.faults begun c.args.runner.now.ends c.play_at-desk.result.ends c.args.runner.now.desk c.put_back.new.place had left

pub returns-clause-again : goal.returns-clause-again
returns-clause-again g c =
    let d = g.D.Disk in
    let p = g.P.GroupLife in
    let m = c.args.runner.now.member in
    let old : c.args.runner.now.desk ≡ Some c.in-Some.desk = search rules in
    let new : c.put_back.new.place ≡ Some c.play_at-desk.result.desk = search rules in
    let left = left-of d.told d.remembers d.cells d.moment d.left_since g.S.Service.meaning (p.lane m) (p.opening m) (p.restored m) d.faults c.play_at-desk.result.ends c.args.runner.now.desk c.put_back.new.place c.in-Some.desk c.play_at-desk.result.desk old new c.play_at-desk.ensures.made in
    again-or d.told d.remembers d.cells d.moment d.left_since g.S.Service.meaning (p.lane m) (p.opening m) (p.restored m) d.faults c.play_at-desk.result.ends c.args.runner.now.desk c.put_back.new.place c.play_at-desk.result.desk new left c.play_at-desk.ensures.over
