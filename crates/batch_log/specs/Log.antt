-- What the bytes of a log stand for: groups in order, each after a gate of 1. The first that is not whole, or has another gate, ends them.
use Rattle.std.specs.Prelude.{ℕ, zero, suc, cond, ◌==◌, List, [], ◌∷◌, ◌++◌, length, Option, Some, None, Result, Ok, Err}
use Rattle.smart_base.specs.Cuts.{Cut}
use Rattle.smart_base.specs.Lists.{Each}
use Rattle.store_form.specs.Spelling.{Group, group_text, IsGroup}
use Rattle.store_form.specs.Reading.{all_of, group_at}

abbrev pub log_bytes : List Group → List ℕ
log_bytes [] = []
log_bytes (g ∷ gs) = 1 ∷ (group_text g ++ log_bytes gs)

-- groups that have bytes
abbrev pub AreGroups : List Group → Type 0
AreGroups gs = Each IsGroup gs

-- a group, and the bytes after it
abbrev pub found : Result (Group × Cut) ℕ → Option (Group × List ℕ)
found (Ok x) = Some (x.0, x.1.left)
found (Err at) = None

-- the first group and the bytes after it, if its gate is 1 and it is whole
abbrev pub first_group : List ℕ → Option (Group × List ℕ)
first_group [] = None
first_group (gate ∷ rest) = cond (gate == 1) (found (group_at (all_of rest))) None

abbrev pub joined : Option (Group × List ℕ) → (List ℕ → List Group) → List Group
joined None more = []
joined (Some x) more = x.0 ∷ more x.1

-- the first groups of bytes, at most a given number of them
abbrev pub restored_by : ℕ → List ℕ → List Group
restored_by zero bytes = []
restored_by (suc n) bytes = joined (first_group bytes) (restored_by n)

abbrev pub restored : List ℕ → List Group
restored bytes = restored_by (length bytes) bytes
