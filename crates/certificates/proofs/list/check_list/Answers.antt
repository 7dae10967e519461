use Rattle.std.proofs.Common.{◌≡◌, ◌++◌, [], ◌∷◌, take, rules, arith, ap, sym, ◌∙◌, refl}
use Rattle.std.specs.Prelude.{Some, None}
use Rattle.certificates.specs.Certificates.{Marks, signers, signer_fault, item_fault, passed}
use Rattle.certificates.proofs.Marks.{marks-none}
use Rattle.certificates.proofs.Faults.{passed_ok, passed_err, signers-more, goes-on, signer-ends, item-ends, too-few, no-fault}
use Rattle.certificates.proofs.list.check_list.Goals as goal

pub loop-item-init : goal.loop-item-init
loop-item-init g c = record { marks = marks-none c.args.view.now; same = refl }

pub returns-in_err-mark : goal.returns-in_err-mark
returns-in_err-mark g c =
    let fault_of = item_fault c.args.ring.now g.S.Statement.form (g.W.Wanted.is_wanted c.args.ring.now c.args.wanted.now) in
    let found : signer_fault c.args.view.now (signers (take c.loop-item.item-index c.args.items.now)) c.item-item.result.signer ≡ Some c.in_err-mark.field-0.0 =
    rw c.signer.ensures at (passed_err (signer_fault c.args.view.now (signers (take c.loop-item.item-index c.args.items.now)) c.signer.result) c.in_err-mark.field-0.0 (c.in_err-mark.ensures.value (signers (take c.loop-item.item-index c.args.items.now)) c.loop-item.invariant.marks)) in
    rw (signer-ends c.args.view.now fault_of _ c.args.items.now c.loop-item.item-index c.item-item.result c.in_err-mark.field-0.0 c.loop-item-test.true
    c.item-item.is c.loop-item.invariant.same found) (search rules)

pub returns-in_err-check_item : goal.returns-in_err-check_item
returns-in_err-check_item g c =
    let fault_of = item_fault c.args.ring.now g.S.Statement.form (g.W.Wanted.is_wanted c.args.ring.now c.args.wanted.now) in
    let signed : signer_fault c.args.view.now (signers (take c.loop-item.item-index c.args.items.now)) c.item-item.result.signer ≡ None =
    rw c.signer.ensures at (passed_ok (signer_fault c.args.view.now (signers (take c.loop-item.item-index c.args.items.now)) c.signer.result) (c.in_ok-mark.ensures.value (signers (take c.loop-item.item-index c.args.items.now)) c.loop-item.invariant.marks)) in
    let found : fault_of c.item-item.result ≡ Some c.in_err-check_item.field-0.0 = passed_err (fault_of c.item-item.result) c.in_err-check_item.field-0.0 c.in_err-check_item.ensures in
    rw (item-ends c.args.view.now fault_of _ c.args.items.now c.loop-item.item-index c.item-item.result c.in_err-check_item.field-0.0 c.loop-item-test.true
    c.item-item.is c.loop-item.invariant.same signed found) (search rules)

pub loop-item-preserved : goal.loop-item-preserved
loop-item-preserved g c =
    let fault_of = item_fault c.args.ring.now g.S.Statement.form (g.W.Wanted.is_wanted c.args.ring.now c.args.wanted.now) in
    let earlier = signers (take c.loop-item.item-index c.args.items.now) in
    let signed : signer_fault c.args.view.now (signers (take c.loop-item.item-index c.args.items.now)) c.item-item.result.signer ≡ None =
    rw c.signer.ensures at (passed_ok (signer_fault c.args.view.now (signers (take c.loop-item.item-index c.args.items.now)) c.signer.result) (c.in_ok-mark.ensures.value (signers (take c.loop-item.item-index c.args.items.now)) c.loop-item.invariant.marks)) in
    let stated : fault_of c.item-item.result ≡ None = passed_ok (fault_of c.item-item.result) c.in_ok-check_item.ensures in
    let marks : Marks c.args.view.now (earlier ++ c.item-item.result.signer ∷ []) c.mark.new.marks =
    rw c.signer.ensures at (c.in_ok-mark.ensures.marks earlier c.loop-item.invariant.marks) in
    record {
      marks = rw (signers-more c.args.items.now c.loop-item.item-index c.item-item.result c.loop-item-test.true c.item-item.is) marks;
      same =
          sym (goes-on c.args.view.now fault_of c.args.items.now c.loop-item.item-index c.item-item.result c.loop-item-test.true c.item-item.is signed stated)
          ∙ c.loop-item.invariant.same;
    }

pub returns-then-items-enough : goal.returns-then-items-enough
returns-then-items-enough g c =
    let fault_of = item_fault c.args.ring.now g.S.Statement.form (g.W.Wanted.is_wanted c.args.ring.now c.args.wanted.now) in
    let below = c.if-items-enough.true in
    sym (ap passed (too-few c.args.view.now fault_of c.args.enough c.args.items.now c.loop-item.item-index (omega arith) c.loop-item.invariant.same (omega (arith, below))))

pub returns : goal.returns
returns g c =
    let fault_of = item_fault c.args.ring.now g.S.Statement.form (g.W.Wanted.is_wanted c.args.ring.now c.args.wanted.now) in
    let many = c.if-items-enough.false in
    sym (ap passed (no-fault c.args.view.now fault_of c.args.enough c.args.items.now c.loop-item.item-index (omega arith) c.loop-item.invariant.same (omega (arith, many))))
