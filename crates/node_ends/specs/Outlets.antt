-- What an outlet has written.
use Rattle.std.specs.Prelude.{◌≡◌, ℕ, Bool, true, false, List, ◌++◌, take, Option}
use Rattle.std.specs.List.{flat_map}
use Rattle.std.specs.Io.KnownBytes.{Appends}
use Rattle.frame_stream.specs.Frames.{framed}
use Rattle.group_links.specs.Link.{link_taken}
use Rattle.node_ends.specs.declared.outlet.Giving.{Giving}
use Rattle.node_ends.specs.declared.outlet.Giving.TheVariants.{Done, Nothing, Ended}
use Rattle.node_ends.specs.declared.outlet.Outlet.{Outlet}

-- whether a turn was no last one
abbrev pub goes_on : Giving → Bool
goes_on Done = true
goes_on Nothing = true
goes_on (Ended end) = false

-- More messages were taken from the link. Their frames were written, or after a last turn a front of them.
pub record Writes (written written' : Option (List ℕ)) (all_written : Bool) (old new : Outlet) : Type 0 where
  pub more : List (List ℕ)
  pub taken : link_taken new.link ≡ link_taken old.link ++ more
  pub count : ℕ
  pub wrote : Appends written written' (take count (flat_map framed more))
  pub all : all_written ≡ true → Appends written written' (flat_map framed more)
