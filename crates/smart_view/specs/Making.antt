-- Views made of parts in any order, and the faults of parts that make none.
use Rattle.std.specs.Prelude.{ℕ, ◌+◌, ◌*◌, ◌==◌, nat_lt, nat_le, Bool, false, ◌||◌, List, [], ◌∷◌, length, codes, if◌then◌else◌, Option, Some, None, Result, Ok, Err}
use Rattle.std.specs.List.{list_any}
use Rattle.smart_base.specs.Views.{View}
use Rattle.smart_base.specs.declared.limits.TheConstants.{LAST_VIEW, MEMBERS}
use Rattle.smart_view.specs.declared.fault.ViewFault.{ViewFault}
use Rattle.smart_view.specs.declared.fault.ViewFault.TheVariants.{TooFew, TooMany, Repeated, Zero, Spent}

-- numbers of which one is there twice
abbrev pub repeats : List ℕ → Bool
repeats [] = false
repeats (m ∷ ms) = list_any (λ x. x == m) ms || repeats ms

-- the first fault that the parts of a view have, if they have one
unfoldable pub fault_of : ℕ → List ℕ → ℕ → Option ViewFault
fault_of number members f =
    if nat_lt (length members) (3 * f + 1) then Some TooFew
    else (if nat_lt MEMBERS (length members) then Some TooMany
    else (if repeats members then Some Repeated
    else (if list_any (λ m. m == 0) members then Some Zero
    else (if nat_lt LAST_VIEW number then Some Spent
    else None))))

-- a number put before the first one that is not less
abbrev pub put : ℕ → List ℕ → List ℕ
put m [] = m ∷ []
put m (x ∷ xs) = if nat_le m x then m ∷ x ∷ xs else x ∷ put m xs

-- numbers in ascending order
abbrev pub sorted : List ℕ → List ℕ
sorted [] = []
sorted (m ∷ ms) = put m (sorted ms)

-- the view of parts, with its members ascending
abbrev pub view_of : ℕ → ℕ → List ℕ → ℕ → View
view_of number start members f = record { number = number; start = start; f = f; members = sorted members }

-- the view, unless there is a fault
abbrev pub unless_fault : Option ViewFault → View → Result View ViewFault
unless_fault None view = Ok view
unless_fault (Some fault) view = Err fault

-- the view that parts make, or their first fault
abbrev pub made : ℕ → ℕ → List ℕ → ℕ → Result View ViewFault
made number start members f = unless_fault (fault_of number members f) (view_of number start members f)

-- the number of a fault
abbrev pub code_of : ViewFault → ℕ
code_of TooFew = 1
code_of TooMany = 2
code_of Repeated = 3
code_of Zero = 4
code_of Spent = 5

abbrev pub name_of : ViewFault → List ℕ
name_of TooFew = codes "TooFew"
name_of TooMany = codes "TooMany"
name_of Repeated = codes "Repeated"
name_of Zero = codes "Zero"
name_of Spent = codes "Spent"
