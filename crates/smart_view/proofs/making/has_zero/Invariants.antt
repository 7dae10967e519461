use Rattle.std.proofs.Common.{◌≡◌, ◌==◌, ◌≤◌, drop}
use Rattle.std.specs.List.{list_any}
use Rattle.smart_base.specs.Lists.{Each}
use Rattle.smart_view.proofs.making.has_zero.Given as goal

-- a 0 is there where one is left, and all are names where those left are
abbrev pub invariant-loop-member : goal.invariant-loop-member
invariant-loop-member l =
    record {
      value : list_any (λ m. m == 0) (drop l.member-index l.members) ≡ list_any (λ m. m == 0) l.members;
      names : Each (λ m. m ≤ 65535) (drop l.member-index l.members) → Each (λ m. m ≤ 65535) l.members;
    }
