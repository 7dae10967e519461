-- What executed requests make of the views of a replica.
use Rattle.std.specs.Prelude.{◌≡◌, ◌<◌, List, Option, Some, None}
use Rattle.smart_base.specs.Views.{View, present}
use Rattle.reconfig.specs.declared.outcome.Outcome.{Outcome}
use Rattle.reconfig.specs.declared.outcome.Outcome.TheVariants.{Begins, Refused, NoChange}
use Rattle.delivery.specs.declared.views.Begun.{Begun}
use Rattle.delivery.specs.declared.views.Move.{Move}

-- two copies of the present one of some views, which is a later one than that of earlier views
pub record HasBegun (before now : List View) (b : Begun) : Type 0 where
  pub own : b.own ≡ present now
  pub other : b.other ≡ present now
  pub later : (present before).number < (present now).number

-- a move from some views to later ones; none if they stay
abbrev pub IsMoved : List View → List View → Option Move → Type 0
IsMoved before now None = now ≡ before
IsMoved before now (Some m) = (m.former ≡ before) × HasBegun before now m.begun

-- copies of the view that began behind some views; none if none did
abbrev pub IsBegun : List View → List View → Option Begun → Type 0
IsBegun before now None = now ≡ before
IsBegun before now (Some b) = HasBegun before now b

-- an outcome that begins a later view than the present one, if it begins one
abbrev pub BeginsLater : List View → Outcome → Type 0
BeginsLater views (Begins view) = (present views).number < view.number
BeginsLater views (Refused fault) = Unit {0}
BeginsLater views NoChange = Unit {0}
