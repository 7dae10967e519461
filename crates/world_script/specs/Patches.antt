-- Patches that were read, with those that further words are.
use Rattle.std.specs.Prelude.{List, ◌++◌, Result, Ok, Err}
use Rattle.world_rules.specs.declared.crash.Patch.{Patch}
use Rattle.world_rules.specs.Scripts.{before}
use Rattle.world_rules.specs.declared.line.Kind.{Kind}

-- the first ones and then further ones, or the first kind of what is wrong with them
abbrev pub patches_then : Result (List Patch) Kind → Result (List Patch) Kind → Result (List Patch) Kind
patches_then (Ok ps) (Ok qs) = Ok (ps ++ qs)
patches_then (Ok ps) (Err kind) = Err kind
patches_then (Err kind) (Ok qs) = Err kind
patches_then (Err kind) (Err other) = Err (before kind other)
