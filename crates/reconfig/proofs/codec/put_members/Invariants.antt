use Rattle.std.proofs.Common.{◌≡◌, ◌++◌, drop}
use Rattle.std.specs.List.{flat_map}
use Rattle.smart_base.specs.Spelling.{u16}
use Rattle.reconfig.proofs.codec.put_members.Given as goal

-- what is written and what is left are all of the text
abbrev pub invariant-loop-member : goal.invariant-loop-member
invariant-loop-member l = l.out.items ++ flat_map u16 (drop l.member-index l.members) ≡ l.fn.out.items ++ flat_map u16 l.members
