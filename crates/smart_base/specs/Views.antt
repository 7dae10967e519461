-- Views, quorums and leaders (quorums and regencies: Mod-SMaRt, EDCC 2012).
use Rattle.std.specs.Prelude.{ℕ, ◌+◌, ◌*◌, ◌/◌, ◌%◌, ◌^◌, ◌==◌, nat_lt, nat_le, Bool, true, ◌&&◌, List, [], ◌∷◌, length, filter, take, slice_index}
use Rattle.std.specs.List.{list_any}
use Rattle.smart_base.specs.declared.limits.TheConstants.{FAULTY, LAST_VIEW, MEMBERS}

-- a view: the members of a group from a place on, and how many of them may be faulty (f)
pub record View : Type 0 where
  pub number : ℕ
  -- the first place that is decided in this view
  pub start : ℕ
  pub f : ℕ
  pub members : List ℕ

-- numbers that ascend above a given one, each at most 65,535
abbrev pub ascends : ℕ → List ℕ → Bool
ascends last [] = true
ascends last (m ∷ ms) = nat_lt last m && nat_le m 65535 && ascends m ms

-- a valid view: it has 3f+1 to 31 members, ascending; f is at most 10, the number at most 1,023, and the start from 1 to 2^63
unfoldable pub is_view : View → Bool
is_view v =
    nat_le v.number LAST_VIEW && nat_le 1 v.start && nat_le v.start (2 ^ 63) && nat_le v.f FAULTY
    && nat_le (3 * v.f + 1) (length v.members) && nat_le (length v.members) MEMBERS && ascends 0 v.members

-- the weight of members together: one each
abbrev pub weight_of : View → List ℕ → ℕ
weight_of v members = length members

-- the size of a quorum, (n+f)/2 rounded down, plus 1: any two quorums share a member that is not faulty
abbrev pub quorum : View → ℕ
quorum v = (length v.members + v.f) / 2 + 1

-- a test that a quorum of members passes
abbrev pub is_quorum : View → (ℕ → Bool) → Bool
is_quorum v p = nat_le (quorum v) (weight_of v (filter p v.members))

-- the first members by number that pass a test and make a quorum
abbrev pub first_quorum : View → (ℕ → Bool) → List ℕ
first_quorum v p = take (quorum v) (filter p v.members)

-- a member of a view
abbrev pub is_member : View → ℕ → Bool
is_member v member = list_any (λ m. m == member) v.members

-- the leader of a regency: members take turns, by number (this project's own rule)
abbrev pub leader : View → ℕ → ℕ
leader v regency = slice_index v.members (regency % length v.members)

-- a view without members
abbrev pub nobody : View
nobody = record { number = 0; start = 1; f = 0; members = [] }

-- the view in force: the last of a list
abbrev pub present : List View → View
present [] = nobody
present (v ∷ []) = v
present (v ∷ w ∷ views) = present (w ∷ views)
