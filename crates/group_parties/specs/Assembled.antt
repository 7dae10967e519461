-- How a group is put together of what was opened and gathered for it.
use Rattle.std.specs.Prelude.{List, [], ◌∷◌}
use Rattle.group_ends.specs.declared.inbox.Inbox.{Inbox}
use Rattle.group_wires.specs.declared.row.Row.{Row}
use Rattle.group_opening.specs.declared.berth.Berth.{Berth}
use Rattle.group_parties.specs.declared.crew.Headed.{Headed}
use Rattle.group_opening.specs.declared.gathering.Lane.{Lane}
use Rattle.group_parties.specs.declared.seating.Station.{Station}

module _ {S D : Type 0} where
  -- the head of a member's trail, and the entries that follow it
  abbrev pub headed_of : Berth S D → Headed
  headed_of b = record { head = b.head; entries = b.entries }

  module _ {O : Type 0} where
    -- a member with its lane, its links and the sink of its trail
    abbrev pub station_of : Berth S D → Lane → Row → Inbox → O → Station S D O
    station_of b lane row inbox sink = record {
      member = b.settings.member;
      core = b.core;
      store = b.store;
      lane_in = lane.inward;
      lane_out = lane.outward;
      row = row;
      inbox = inbox;
      sink = sink;
    }

    -- as many members as there are of each
    abbrev pub stations_of : List (Berth S D) → List Lane → List Row → List Inbox → List O → List (Station S D O)
    stations_of [] lanes rows inboxes sinks = []
    stations_of (b ∷ berths) [] rows inboxes sinks = []
    stations_of (b ∷ berths) (lane ∷ lanes) [] inboxes sinks = []
    stations_of (b ∷ berths) (lane ∷ lanes) (row ∷ rows) [] sinks = []
    stations_of (b ∷ berths) (lane ∷ lanes) (row ∷ rows) (inbox ∷ inboxes) [] = []
    stations_of (b ∷ berths) (lane ∷ lanes) (row ∷ rows) (inbox ∷ inboxes) (sink ∷ sinks) = station_of b lane row inbox sink ∷ stations_of berths lanes rows inboxes sinks
