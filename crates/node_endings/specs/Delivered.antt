-- What became of a batch that may wait.
use Rattle.std.specs.Prelude.{ℕ, Bool, true, false, List, [], ◌∷◌, Option, None, Some}
use Rattle.std.specs.List.{flat_map}
use Rattle.node_rules.specs.Deliveries.{delivery_in}
use Rattle.node_rules.specs.declared.node.Delivery.{Delivery}
use Rattle.node_rules.specs.declared.node.Fired.{Fired}
use Rattle.node_endings.specs.declared.delivering.Delivering.{Delivering}
use Rattle.node_endings.specs.declared.delivering.Delivering.TheVariants.{Delivered, Played, Not}

-- the place of the first of these deliveries, if there is one
abbrev pub first_place : List Delivery → Option ℕ
first_place [] = None
first_place (d ∷ ds) = Some d.place

-- the place of the first batch that these rules delivered, if they delivered one
abbrev pub place_fired : List Fired → Option ℕ
place_fired fired = first_place (flat_map delivery_in fired)

-- the place that is told, if a batch was delivered
abbrev pub place_told : Delivering → Option ℕ
place_told (Delivered place) = Some place
place_told Played = None
place_told (Not turn) = None

-- whether the event was played
abbrev pub is_played : Delivering → Bool
is_played (Delivered place) = true
is_played Played = true
is_played (Not turn) = false
