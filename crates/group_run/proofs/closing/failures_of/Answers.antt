use Rattle.std.proofs.Common.{◌≡◌, ◌∙◌, inl, inr, ◌||◌, sym, ap}
use Rattle.group_run.specs.declared.status.Failures.{Failures}
use Rattle.group_run.proofs.Failing.{has-all, has-more, has-or-more, or-then, or-else}
use Rattle.group_run.proofs.closing.failures_of.Goals as goal
use Rattle.group_run.proofs.closing.failures_of.Goals.{then-failures, else-failures, then-failures-2, else-failures-2}

pub loop-member-preserved : goal.loop-member-preserved
loop-member-preserved g c =
    let l = c.loop-member in
    let m = c.member-item.result in
    let all = c.args.members.now in
    let now = c.if-failures-2.failures in
    let output : now.output ≡ l.failures.output = elim c.if-failures-2.branch [ then-failures-2 w ↦ ap (λ (f : Failures). f.output) w.failures-is | else-failures-2 w ↦ ap (λ (f : Failures). f.output) w.failures-is ] in
    let trail : now.trail ≡ c.if-failures.failures = elim c.if-failures-2.branch [ then-failures-2 w ↦ ap (λ (f : Failures). f.trail) w.failures-is | else-failures-2 w ↦ ap (λ (f : Failures). f.trail) w.failures-is ] in
    let first : c.if-failures.failures ≡ (l.failures.trail || m.failed) = elim c.if-failures.branch [
      | then-failures w ↦ or-then l.failures.trail c.if-failures.failures m.failed w.if-failures.true w.failures-is
      | else-failures w ↦ or-else l.failures.trail c.if-failures.failures m.failed w.if-failures.false w.failures-is
    ] in
    let second : now.disk ≡ (l.failures.disk || m.worn) = elim c.if-failures-2.branch [
      | then-failures-2 w ↦ or-then l.failures.disk now.disk m.worn w.if-failures-2.true (ap (λ (f : Failures). f.disk) w.failures-is)
      | else-failures-2 w ↦ or-else l.failures.disk now.disk m.worn w.if-failures-2.false (ap (λ (f : Failures). f.disk) w.failures-is)
    ] in record {
      output = λ is. l.invariant.output (sym output ∙ is);
      output_only = λ is. output ∙ l.invariant.output_only is;
      trail = has-or-more (λ x. x.failed) all l.member-index m l.failures.trail now.trail c.loop-member-test.true c.member-item.is l.invariant.trail (trail ∙ first);
      disk = has-more (λ x. x.worn) all l.member-index m l.failures.disk now.disk c.loop-member-test.true c.member-item.is l.invariant.disk second;
    }

pub returns : goal.returns
returns g c =
    let l = c.loop-member in
    let all = c.args.members.now in record {
      output = l.invariant.output;
      output_only = l.invariant.output_only;
      trail = λ is. elim (l.invariant.trail is) [ inl client ↦ inl client | inr some ↦ inr (has-all (λ x. x.failed) all l.member-index l.auto.member-index-end some) ];
      disk = λ is. has-all (λ x. x.worn) all l.member-index l.auto.member-index-end (l.invariant.disk is);
    }
