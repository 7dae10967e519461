-- The lines that the run of a group writes.
use Rattle.std.specs.Prelude.{ℕ, List, [], ◌∷◌, ◌++◌, codes}
use Rattle.std.specs.Fmt.{decimal}
use Rattle.client_quorum.specs.declared.client.Acceptance.{Acceptance}
use Rattle.group_client.specs.Lines.{reply_lines}

-- the first line: how many members the group has, and how many of them may be faulty
abbrev pub group_line : ℕ → ℕ → List ℕ
group_line members faulty = codes "group " ++ (decimal members ++ (32 ∷ (decimal faulty ++ 10 ∷ [])))

-- the last line
abbrev pub coherent_line : List ℕ
coherent_line = codes "coherent" ++ 10 ∷ []

-- the first line, and those of the replies that were accepted
abbrev pub lines_of : ℕ → ℕ → List Acceptance → List ℕ
lines_of members faulty accepted = group_line members faulty ++ reply_lines accepted

-- the first line, those of the replies that were accepted, and the last line
abbrev pub all_lines : ℕ → ℕ → List Acceptance → List ℕ
all_lines members faulty accepted = lines_of members faulty accepted ++ coherent_line
