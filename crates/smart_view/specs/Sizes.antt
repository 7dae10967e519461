-- Sizes of sets of members, and the index of a member.
use Rattle.std.specs.Prelude.{ℕ, ◌+◌, ◌-◌, ◌*◌, ◌==◌, length, Option}
use Rattle.std.specs.List.{position}
use Rattle.smart_base.specs.Views.{View}

-- n-f: as many members as answer if f are silent
abbrev pub collect_size : View → ℕ
collect_size v = length v.members - v.f

-- 2f+1: as many members that more than f of them are not faulty
abbrev pub stop_size : View → ℕ
stop_size v = 2 * v.f + 1

-- the index of a member among the members, from 0
abbrev pub index_of : View → ℕ → Option ℕ
index_of v member = position (λ m. m == member) v.members
