-- Hosts in a world that crash, and that restart from what their devices hold.
use Rattle.std.specs.Prelude.{ℕ, Bool, false, not, List, Option, Some, None}
use Rattle.node_rules.specs.Reopening.{damage_of}
use Rattle.world_rules.specs.Crashes.{images_left, wrong_images}
use Rattle.world_rules.specs.declared.crash.Image.{Image}
use Rattle.world_rules.specs.declared.crash.Patch.{Patch}
use Rattle.world_rules.specs.Secrets.{group_secret}
use Rattle.world_rules.specs.Worlds.{Host, World, Course, telling, crashes_with, parts_held, resumes_from}
use Rattle.world_rules.specs.declared.line.OutLine.{OutLine}

-- a host whose node runs
abbrev pub runs : {S : Type 0} → Option (Host S) → Bool
runs None = false
runs (Some h) = h.up

-- a host whose member has crashed
abbrev pub is_down : {S : Type 0} → Option (Host S) → Bool
is_down None = false
is_down (Some h) = not h.up

-- the world after a running host crashed, with this left of its devices
abbrev pub stops : {S : Type 0} → Course S → Image → List Patch → ℕ → World S → Option (Host S) → World S
stops course image patches i w None = w
stops course image patches i w (Some h) = crashes_with course i w h (images_left image patches h.store) (wrong_images h.store (images_left image patches h.store))

abbrev pub telling_if : {S : Type 0} → World S → Option OutLine → World S
telling_if w None = w
telling_if w (Some line) = telling w line

-- the world after a crashed host restarted
abbrev pub goes_on : {S : Type 0} → Course S → ℕ → World S → Option (Host S) → World S
goes_on course i w None = w
goes_on course i w (Some h) = resumes_from course i w h (parts_held h) (damage_of course.meaning group_secret w.view (parts_held h))
