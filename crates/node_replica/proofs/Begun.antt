-- Views that begin.
use Rattle.std.proofs.Common.{◌≡◌, ℕ, ◌==◌, Bool, true, false, List, [], ◌∷◌, refl, cond, Some, None, is_none}
use Rattle.smart_base.specs.Views.{View, present}
use Rattle.node_rules.specs.declared.node.Fired.TheVariants as fires
use Rattle.node_replica.specs.Begun.{number_begun, viewed}

-- none begins where the number stays
pub none_where : (t : Bool) (number : ℕ) → is_none (cond t None (Some number)) ≡ t
none_where true number = refl
none_where false number = refl

viewed_where : (t : Bool) (number : ℕ) → viewed (cond t None (Some number)) ≡ cond t [] (fires.Viewed number ∷ [])
viewed_where true number = refl
viewed_where false number = refl

-- the event of a view that began, by both lists of views
pub viewed_by : (before now : List View) → viewed (number_begun before now) ≡ cond ((present before).number == (present now).number) [] (fires.Viewed (present now).number ∷ [])
viewed_by before now = viewed_where ((present before).number == (present now).number) (present now).number
