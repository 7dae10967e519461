-- The view that a change begins, and the causes for which it begins none.
use Rattle.std.specs.Prelude.{◌≡◌, ℕ, ◌+◌, ◌*◌, ◌<◌, ◌==◌, true, length, Result}
use Rattle.std.specs.List.{list_any}
use Rattle.smart_base.specs.Views.{View}
use Rattle.smart_base.specs.declared.limits.TheConstants.{LAST_VIEW, MEMBERS}
use Rattle.smart_view.specs.Making.{repeats, made, code_of}
use Rattle.smart_view.specs.declared.fault.ViewFault.{ViewFault}
use Rattle.smart_view.specs.declared.fault.ViewFault.TheVariants.{TooFew, TooMany, Repeated, Zero, Spent}
use Rattle.reconfig.specs.declared.change.Change.{Change}

-- the view that a change makes of a view, from a place on, or the first fault of its parts
abbrev pub applied : View → ℕ → Change → Result View ViewFault
applied v start c = made (v.number + 1) start c.members c.f

-- what it is to have a fault, for a change of a view
abbrev pub Has : ViewFault → View → Change → Type 0
Has TooFew v c = length c.members < 3 * c.f + 1
Has TooMany v c = MEMBERS < length c.members
Has Repeated v c = repeats c.members ≡ true
Has Zero v c = list_any (λ m. m == 0) c.members ≡ true
Has Spent v c = LAST_VIEW < v.number + 1

-- the first fault that a change of a view has
pub record IsFirst (fault : ViewFault) (v : View) (c : Change) : Type 0 where
  pub has : Has fault v c
  pub before : (other : ViewFault) → code_of other < code_of fault → Has other v c → ⊥
