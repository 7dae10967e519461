-- What an operation of the view manager comes to, and the reply.
use Rattle.std.specs.Prelude.{◌≡◌, ℕ, ◌+◌, List, [], ◌∷◌, ◌++◌, codes, Result, Ok, Err}
use Rattle.std.specs.Fmt.{decimal}
use Rattle.smart_base.specs.Views.{View, present}
use Rattle.smart_view.specs.Making.{name_of}
use Rattle.smart_view.specs.declared.fault.ViewFault.{ViewFault}
use Rattle.reconfig.specs.declared.change.Change.{Change}
use Rattle.reconfig.specs.declared.outcome.Outcome.{Outcome}
use Rattle.reconfig.specs.declared.outcome.Outcome.TheVariants.{Begins, Refused, NoChange}
use Rattle.reconfig.specs.Changes.{change_text, FitsChange, change_of}
use Rattle.reconfig.specs.Applied.{applied, IsFirst}

-- what a change comes to: the view that begins, or the first fault of its parts
abbrev pub outcome_made : Result View ViewFault → Outcome
outcome_made (Ok view) = Begins view
outcome_made (Err fault) = Refused fault

-- what an operation comes to that is a change, or none, and is executed at a place behind some views
abbrev pub outcome_read : List View → Result Change ℕ → ℕ → Outcome
outcome_read views (Ok c) place = outcome_made (applied (present views) (place + 1) c)
outcome_read views (Err at) place = NoChange

-- what an operation comes to that is executed at a place behind some views; a view begins at the next place
abbrev pub outcome_of : List View → List ℕ → ℕ → Outcome
outcome_of views op place = outcome_read views (change_of op) place

-- the views behind an operation that came to this
abbrev pub views_behind : List View → Outcome → List View
views_behind views (Begins view) = views ++ view ∷ []
views_behind views (Refused fault) = views
views_behind views NoChange = views

-- the reply to the view manager
abbrev pub reply_of : Outcome → List ℕ
reply_of (Begins view) = codes "view " ++ decimal view.number
reply_of (Refused fault) = codes "refused " ++ name_of fault
reply_of NoChange = codes "?"

-- why an operation that is executed at a place behind some views came to this
abbrev pub Cause : List View → List ℕ → ℕ → Outcome → Type 0
Cause views op place (Begins view) = (c : Change) × FitsChange c × (op ≡ change_text c) × (applied (present views) (place + 1) c ≡ Ok view)
Cause views op place (Refused fault) = (c : Change) × FitsChange c × (op ≡ change_text c) × IsFirst fault (present views) c
Cause views op place NoChange = (c : Change) → FitsChange c → op ≡ change_text c → ⊥
