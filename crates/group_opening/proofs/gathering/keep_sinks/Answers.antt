use Rattle.std.proofs.Common.{◌≡◌, ◌∙◌, ◌+◌, ◌<◌, ℕ, IsSome, Some, vec_len, refl, sym, subst, arith}
use Rattle.disk_model.specs.Rooms.{address}
use Rattle.group_opening.proofs.Berthing.{at-least-itself}
use Rattle.group_opening.proofs.Lending.{returned-along, returned-sink-next}
use Rattle.group_opening.proofs.Ranges.{change, returned-none}
use Rattle.group_opening.proofs.Sinking.{other-member}
use Rattle.group_opening.proofs.gathering.keep_sinks.Goals as goal

pub keep-requires : goal.keep-requires
keep-requires g c =
    let one = c.loop-sink.invariant.taken c.new.result (omega (arith, c.in-Some.ensures.len)) in
    subst IsSome (sym {b = Some one.0} one.1) refl

pub loop-sink-init : goal.loop-sink-init
loop-sink-init g c =
    let t = g.T.TrailRoom in record {
      few = c.requires.few;
      left = at-least-itself (vec_len c.args.sinks);
      taken = c.requires.taken;
      later = at-least-itself (t.faults c.args.trails.now);
      returned = returned-none c.args.dir.now 1 (vec_len c.args.sinks) (t.kept c.args.trails.now) (t.taken c.args.trails.now);
    }

pub loop-sink-preserved : goal.loop-sink-preserved
loop-sink-preserved g c =
    let l = c.loop-sink in
    let t = g.T.TrailRoom in
    let start = c.args.trails.now in
    let new = c.keep.new.self in
    let dir = c.args.dir.now in
    let left = vec_len c.pop.new.self in
    let less : vec_len l.sinks ≡ left + 1 = omega (arith, c.in-Some.ensures.len) in
    let here : c.new.result ≡ left = omega (arith, c.in-Some.ensures.len) in
    record {
      few = omega (arith, l.invariant.few, c.in-Some.ensures.len);
      left = omega (arith, l.invariant.left, c.in-Some.ensures.len);
      taken = λ (index : ℕ) (less : index < vec_len c.pop.new.self).
          let one = l.invariant.taken index (omega (arith, less, c.in-Some.ensures.len)) in
          (one.0, c.keep.ensures.others_taken (address c.args.dir.now index 0) (other-member c.args.dir.now index c.new.result (λ (same : index ≡ c.new.result). omega (arith, same, less))) ∙ one.1);
      later = omega (arith, l.invariant.later, c.keep.ensures.later);
      returned = returned-sink-next dir left (vec_len l.sinks) (vec_len c.args.sinks) c.new.result (t.kept start) (t.kept l.trails) (t.kept new) (t.taken start) (t.taken l.trails) (t.taken new) less l.invariant.left here
          l.invariant.returned c.keep.ensures.others c.keep.ensures.others_taken c.keep.ensures.back;
    }

pub returns-clause-returned : goal.returns-clause-returned
returns-clause-returned g c =
    let l = c.loop-sink in
    let t = g.T.TrailRoom in
    let dir = c.args.dir.now in
    let none : vec_len l.sinks ≡ 0 = omega (arith, l.sinks.ok.0, c.in_default.ensures.cases.0) in
    let all = vec_len c.args.sinks in
    returned-along dir dir 0 (vec_len l.sinks) all all 1 (change (t.kept c.args.trails.now) (t.kept l.trails) (t.taken c.args.trails.now) (t.taken l.trails)) refl none refl l.invariant.returned
