use Rattle.std.proofs.Common.{◌<◌, ◌∙◌, ℕ, length, ap, sym, subst, arith}
use Rattle.std.proofs.lemmas.List.{length-map}
use Rattle.group_threads.specs.Desks.{IsReady}
use Rattle.group_parties.specs.Manned.{HasDesk, HasWorked}
use Rattle.group_parties.proofs.Manned.{all-with, numbers-set, the-other}
use Rattle.group_parties.proofs.playing.play_members.Goals as goal

-- ---- a round is the last one

pub returns-then-eq-clause-since : goal.returns-then-eq-clause-since
returns-then-eq-clause-since g c =
    let d = g.D.Disk in
    let p = g.P.GroupLife in
    let l = c.loop-index in
    let x = c.index_mut.result.now in
    let y = c.play_member-round.new.runner in
    let e = c.play_member-round.ensures in
    let many = ap length l.invariant.same in
    let within : l.index < length l.runners.items = omega (arith, many, length-map l.runners.items (λ r. r.member), length-map c.args.runners.now.items (λ r. r.member), l.runners.ok.0, c.args.runners.now.ok.0) in
    λ origins had. all-with (λ r. HasDesk d.told d.remembers d.cells d.moment d.left_since g.S.Service.meaning (origins r.member) (p.lane r.member) (p.opening r.member) (p.restored r.member) r.desk) l.runners.items l.index x y c.index_mut.ensures.value within
    (λ one. subst (λ (n : ℕ). HasDesk d.told d.remembers d.cells d.moment d.left_since g.S.Service.meaning (origins n) (p.lane n) (p.opening n) (p.restored n) y.desk) (sym e.same) (e.since (origins x.member) one)) (l.invariant.since origins had)

pub returns-then-eq-clause-worked : goal.returns-then-eq-clause-worked
returns-then-eq-clause-worked g c =
    let d = g.D.Disk in
    let l = c.loop-index in
    let x = c.index_mut.result.now in
    let y = c.play_member-round.new.runner in
    let e = c.play_member-round.ensures in
    let many = ap length l.invariant.same in
    let within : l.index < length l.runners.items = omega (arith, many, length-map l.runners.items (λ r. r.member), length-map c.args.runners.now.items (λ r. r.member), l.runners.ok.0, c.args.runners.now.ok.0) in
    λ begun had. all-with (λ r. HasWorked d.faults (begun r.member) r.ends r.desk) l.runners.items l.index x y c.index_mut.ensures.value within
    (λ one. subst (λ (n : ℕ). HasWorked d.faults (begun n) y.ends y.desk) (sym e.same) (e.worked (begun x.member) one)) (l.invariant.worked begun had)

pub returns-then-eq-clause-same : goal.returns-then-eq-clause-same
returns-then-eq-clause-same g c =
    let l = c.loop-index in
    let many = ap length l.invariant.same in
    let within : l.index < length l.runners.items = omega (arith, many, length-map l.runners.items (λ r. r.member), length-map c.args.runners.now.items (λ r. r.member), l.runners.ok.0, c.args.runners.now.ok.0) in
    numbers-set (λ r. r.member) l.runners.items l.index c.index_mut.result.now c.play_member-round.new.runner c.index_mut.ensures.value within c.play_member-round.ensures.same ∙ l.invariant.same

-- ---- or another one follows

pub loop-index-preserved : goal.loop-index-preserved
loop-index-preserved g c =
    let d = g.D.Disk in
    let p = g.P.GroupLife in
    let l = c.loop-index in
    let x = c.index_mut.result.now in
    let y = c.play_member-round.new.runner in
    let e = c.play_member-round.ensures in
    let many = ap length l.invariant.same in
    let within : l.index < length l.runners.items = omega (arith, many, length-map l.runners.items (λ r. r.member), length-map c.args.runners.now.items (λ r. r.member), l.runners.ok.0, c.args.runners.now.ok.0) in record {
      ready = all-with (λ r. IsReady d.told d.cells (p.lane r.member) (p.restored r.member) r.desk) l.runners.items l.index x y c.index_mut.ensures.value within (λ one. the-other {B = IsReady d.told d.cells (p.lane y.member) (p.restored y.member) y.desk} e.again (λ over. grind arith)) l.invariant.ready;
      since = λ origins had. all-with (λ r. HasDesk d.told d.remembers d.cells d.moment d.left_since g.S.Service.meaning (origins r.member) (p.lane r.member) (p.opening r.member) (p.restored r.member) r.desk) l.runners.items l.index x y c.index_mut.ensures.value within
          (λ one. subst (λ (n : ℕ). HasDesk d.told d.remembers d.cells d.moment d.left_since g.S.Service.meaning (origins n) (p.lane n) (p.opening n) (p.restored n) y.desk) (sym e.same) (e.since (origins x.member) one)) (l.invariant.since origins had);
      worked = λ begun had. all-with (λ r. HasWorked d.faults (begun r.member) r.ends r.desk) l.runners.items l.index x y c.index_mut.ensures.value within
          (λ one. subst (λ (n : ℕ). HasWorked d.faults (begun n) y.ends y.desk) (sym e.same) (e.worked (begun x.member) one)) (l.invariant.worked begun had);
      same = numbers-set (λ r. r.member) l.runners.items l.index x y c.index_mut.ensures.value within e.same ∙ l.invariant.same;
    }
