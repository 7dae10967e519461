-- What an injected report takes over.
use Rattle.world_rules.specs.Injections as worlds
use Rattle.world_injections.specs.declared.injection.Evident.{Evident}
use Rattle.world_injections.specs.declared.injection.Locked.{Locked}

abbrev pub locked_of : Locked → worlds.Locked
locked_of l = record { lock = l.lock; batch = l.batch }

abbrev pub evident_of : Evident → worlds.Evident
evident_of e = record { last = e.last; evidence = e.evidence }
