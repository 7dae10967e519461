use Rattle.std.proofs.Common.{◌≡◌, take}
use Rattle.certificates.specs.Certificates.{Marks, signers, item_fault}
use Rattle.certificates.proofs.Faults.{left}
use Rattle.certificates.proofs.list.check_list.Given as goal

-- the signers so far are marked, and of the items left the same is told as of all
abbrev pub invariant-loop-item : goal.invariant-loop-item
invariant-loop-item g l = record {
  marks : Marks l.view (signers (take l.item-index l.items)) l.marks;
  same : left l.view (item_fault l.ring g.S.Statement.form (g.W.Wanted.is_wanted l.ring l.wanted)) l.items l.item-index
      ≡ left l.view (item_fault l.ring g.S.Statement.form (g.W.Wanted.is_wanted l.ring l.wanted)) l.items 0;
}
