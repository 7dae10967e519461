-- What the client of a group asks: one amount after the other.
use Rattle.std.specs.Prelude.{◌≡◌, ◌≤◌, ℕ, zero, suc, List, [], ◌∷◌, ◌++◌, map}
use Rattle.std.specs.Fmt.{decimal}
use Rattle.std.specs.List.{flat_map}
use Rattle.std.specs.Option.{option_to_list}
use Rattle.smart_messages.specs.Messages.{request_in}
use Rattle.trail.specs.declared.event.Addressed.{Addressed}
use Rattle.trail.specs.declared.event.TrailEvent.{TrailEvent}
use Rattle.trail_rules.specs.Replays.{sends}

-- the operation of a message, if it asks for one
abbrev pub op_in : Addressed → List (List ℕ)
op_in a = map (λ q. q.statement.op) (option_to_list (request_in a.message))

-- the operations that the messages of a trail ask for, in order
abbrev pub asked_in : List TrailEvent → List (List ℕ)
asked_in events = flat_map op_in (sends events)

-- the first amounts, from 1 on, in decimal
abbrev pub amounts : ℕ → List (List ℕ)
amounts zero = []
amounts (suc n) = amounts n ++ decimal (suc n) ∷ []

-- A trail asks for the first amounts in order, and for no more of them than these.
pub record AsksUpTo (asks : ℕ) (events : List TrailEvent) : Type 0 where
  pub count : ℕ
  pub few : count ≤ asks
  pub ops : asked_in events ≡ amounts count
