-- A world of cores, whose nodes keep no more than they need.
use Rattle.std.specs.Prelude.{[], map}
use Rattle.world_rules.specs.Worlds.{Host, World}
use Rattle.node_rules.specs.Kept.{trimmed}

-- the host of a core; nothing of its member's lives is written down
unfoldable pub trimmed_host : {S : Type 0} → Host S → Host S
trimmed_host h = record h { node = trimmed h.node; life = record { diary = []; aside = [] } }

-- the world of cores: each host is the host of a core
unfoldable pub trimmed_world : {S : Type 0} → World S → World S
trimmed_world w = record w { hosts = map trimmed_host w.hosts }
